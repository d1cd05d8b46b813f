-- What a caller knows of the fields that it reads and sets.
use Rattle.std.proofs.Common.{◌≡◌, ℕ, ◌<◌, List, [], ◌∷◌, ◌++◌, Option, Some, None, length, get_or, sym, ap, ◌∙◌, arith}
use Rattle.std.proofs.Math.ListN.{get_or-map}
use Rattle.std.proofs.lemmas.List.{length-map, length_push, get_or_push, length-replicate}
use Rattle.value_ops.specs.declared.values.ClassId.{ClassId}
use Rattle.value_ops.specs.declared.values.RecordId.{RecordId}
use Rattle.value_ops.specs.declared.values.Value.{Value}
use Rattle.record_store.specs.Records.{Record, Shape, shapes, shape_of, new_record, record_at, with_field, HasField}
use Rattle.record_store.proofs.FieldsInLine.{shapes-with_value}

-- a record that was made has its fields, whichever class is asked for
pub has_field_made : (records : List Record) (id : RecordId) (class asked : ClassId) (count position : ℕ) → id.0 ≡ length records → position < count → HasField (records ++ new_record class count ∷ []) (Some id) asked position
has_field_made records id class asked count position is within =
    let here : record_at (records ++ new_record class count ∷ []) id ≡ new_record class count = get_or_push records (new_record class count) (new_record (record { 0 = 0 }) 0) id.0 (sym is) in
    let long = ap (λ (r : Record). length r.fields) here ∙ length-replicate {A = Option Value} count None in
    (omega (arith, length_push records (new_record class count)), λ same. omega (arith, long))

-- what has a field goes by the shapes of records
pub has_field_by_shapes : (before after : List Record) (reference : Option RecordId) (class : ClassId) (position : ℕ) → shapes after ≡ shapes before → HasField before reference class position → HasField after reference class position
has_field_by_shapes before after None class position same has = tt
has_field_by_shapes before after (Some id) class position same has =
    let none : Record = new_record (record { 0 = 0 }) 0 in
    let long : length after ≡ length before = sym (length-map after shape_of) ∙ ap length same ∙ length-map before shape_of in
    let form : shape_of (record_at after id) ≡ shape_of (record_at before id) =
    sym (get_or-map shape_of after id.0 none) ∙ ap (λ (some : List Shape). get_or some id.0 (shape_of none)) same ∙ get_or-map shape_of before id.0 none in
    let count : length (record_at after id).fields ≡ length (record_at before id).fields = ap (λ (s : Shape). s.count) form in
    let class_is : (record_at after id).class ≡ (record_at before id).class = ap (λ (s : Shape). s.class) form in
    (omega (arith, has.0), λ is. omega (arith, has.1 (sym class_is ∙ is)))

-- a field is there when another, or it itself, is set
pub has_field_set : (records : List Record) (id : RecordId) (place : ℕ) (value : Value) (reference : Option RecordId) (class : ClassId) (position : ℕ) → HasField records reference class position → HasField (with_field records id place value) reference class position
has_field_set records id place value reference class position has =
    has_field_by_shapes records (with_field records id place value) reference class position (shapes-with_value records id.0 (new_record (record { 0 = 0 }) 0) place value) has
