-- The fields of records, one by one and all in line.
use Rattle.std.proofs.Common.{◌≡◌, ℕ, zero, suc, ◌+◌, ◌<◌, List, [], ◌∷◌, ◌++◌, Option, Some, None, IfSome, Bool, true, false, eqb, if◌then◌else◌, Ok, Err, length, take, set, get_or, refl, sym, ap, zero-add, ◌∙◌, arith}
use Rattle.std.proofs.lemmas.List.{set-append_left, length-append, length-set}
use Rattle.std.proofs.lemmas.Bool.{eqb-true}
use Rattle.std.proofs.lemmas.List.Concat.{get_or-flat_map}
use Rattle.value_ops.specs.declared.faults.Fault.{Fault}
use Rattle.value_ops.specs.declared.faults.Fault.TheVariants.{WrongRecordClass}
use Rattle.value_ops.specs.declared.values.ClassId.{ClassId}
use Rattle.value_ops.specs.declared.values.RecordId.{RecordId}
use Rattle.value_ops.specs.declared.values.Value.{Value}
use Rattle.record_store.specs.Records.{Record, Shape, all_fields, shapes, shape_of, with_value, with_field, new_record, record_at, first_field, field_of, at_reference, HasField}

-- behind a list, an element is set by its place in what follows
set-append_right : {X : Type 0} (xs ys : List X) (i : ℕ) (y : X) → set (xs ++ ys) (length xs + i) y ≡ xs ++ set ys i y
set-append_right {X = X} [] ys i y = ap (λ k. set ys k y) (zero-add i)
set-append_right {X = X} (x ∷ xs) ys i y =
    let next : suc (length xs) + i ≡ suc (length xs + i) = omega arith in
    ap (λ k. set (x ∷ (xs ++ ys)) k y) next ∙ ap (λ (zs : List X). x ∷ zs) (set-append_right xs ys i y)

-- a field of a record is set where it stands in line
pub all_fields-with_value : (records : List Record) (i : ℕ) (r : Record) (position : ℕ) (value : Value) → i < length records → position < length (get_or records i r).fields
    → all_fields (set records i (with_value (get_or records i r) position value)) ≡ set (all_fields records) (length (all_fields (take i records)) + position) (Some value)
all_fields-with_value [] i r position value within there = absurd (omega arith)
all_fields-with_value (s ∷ records) zero r position value within there =
    sym (set-append_left s.fields (all_fields records) position (Some value) there)
    ∙ ap (λ k. set (s.fields ++ all_fields records) k (Some value)) (sym (zero-add position))
all_fields-with_value (s ∷ records) (suc i) r position value within there =
    let before = length (all_fields (take i records)) in
    let place : length s.fields + (before + position) ≡ length (all_fields (s ∷ take i records)) + position = omega (arith, length-append s.fields (all_fields (take i records))) in
    ap (λ (fields : List (Option Value)). s.fields ++ fields) (all_fields-with_value records i r position value (omega arith) there)
    ∙ sym (set-append_right s.fields (all_fields records) (before + position) (Some value))
    ∙ ap (λ k. set (s.fields ++ all_fields records) k (Some value)) place

-- a record keeps its shape
pub shapes-with_value : (records : List Record) (i : ℕ) (r : Record) (position : ℕ) (value : Value)
    → shapes (set records i (with_value (get_or records i r) position value)) ≡ shapes records
shapes-with_value [] i r position value = refl
shapes-with_value (s ∷ records) zero r position value =
    ap (λ (n : ℕ). let form : Shape = record { class = s.class; count = n } in form ∷ shapes records) (length-set s.fields position (Some value))
shapes-with_value (s ∷ records) (suc i) r position value = ap (λ (some : List Shape). shape_of s ∷ some) (shapes-with_value records i r position value)

same_parts : {X : Type 0} (xs ys : List X) (vs ws : List X) → length xs ≡ length ys → xs ++ vs ≡ ys ++ ws → (xs ≡ ys) × (vs ≡ ws)
same_parts [] [] vs ws same is = (refl, is)
same_parts [] (y ∷ ys) vs ws same is = absurd (omega arith)
same_parts (x ∷ xs) [] vs ws same is = absurd (omega arith)
same_parts (x ∷ xs) (y ∷ ys) vs ws same is =
    let rest : xs ++ vs ≡ ys ++ ws = cc in
    let parts = same_parts xs ys vs ws (omega arith) rest in
    (cc, parts.1)

-- records are what their shapes and all their fields are
pub same_records : (rs ss : List Record) → shapes rs ≡ shapes ss → all_fields rs ≡ all_fields ss → rs ≡ ss
same_records [] [] formed filled = refl
same_records [] (s ∷ ss) formed filled = cc
same_records (r ∷ rs) [] formed filled = cc
same_records (r ∷ rs) (s ∷ ss) formed filled =
    let form : shape_of r ≡ shape_of s = cc in
    let forms : shapes rs ≡ shapes ss = cc in
    let class : r.class ≡ s.class = ap (λ (one : Shape). one.class) form in
    let parts = same_parts r.fields s.fields (all_fields rs) (all_fields ss) (ap (λ (one : Shape). one.count) form) filled in
    let rest = same_records rs ss forms parts.1 in
    ap (λ (c : ClassId). let one : Record = record { class = c; fields = r.fields } in one ∷ rs) class
    ∙ ap (λ (held : List (Option Value)). let one : Record = record { class = s.class; fields = held } in one ∷ rs) parts.0
    ∙ ap (λ (some : List Record). s ∷ some) rest

-- ---- by a reference

pub same_class : (a b : ClassId) → eqb a.0 b.0 ≡ true → a ≡ b
same_class a b same =
    let number : a.0 ≡ b.0 = eqb-true a.0 b.0 same in
    ap (λ (n : ℕ). let c : ClassId = record { 0 = n } in c) number

chosen : {A : Type 0} (b : Bool) (place x : A) (f : Fault) → Ok place ≡ (if b then Ok x else Err f) → (b ≡ true) × (place ≡ x)
chosen true place x f is = (refl, cc)
chosen false place x f is = cc

-- where a place is found, its record has the field
found_there : (records : List Record) (id : RecordId) (class : ClassId) (position place : ℕ) → Ok place ≡ at_reference records (Some id) class (λ id. first_field records id + position) → HasField records (Some id) class position
    → (eqb (record_at records id).class.0 class.0 ≡ true) × (place ≡ first_field records id + position) × (position < length (record_at records id).fields)
found_there records id class position place is has =
    let found = chosen (eqb (record_at records id).class.0 class.0) place (first_field records id + position) WrongRecordClass is in
    (found.0, found.1, has.1 (same_class (record_at records id).class class found.0))

-- what is read there is the field
pub read_there : (records : List Record) (reference : Option RecordId) (class : ClassId) (position place : ℕ) → Ok place ≡ at_reference records reference class (λ id. first_field records id + position) → HasField records reference class position
    → Ok (get_or (all_fields records) place None) ≡ at_reference records reference class (field_of records position)
read_there records None class position place is has = cc
read_there records (Some id) class position place is has =
    let found = found_there records id class position place is has in
    let read = get_or-flat_map (λ (r : Record). r.fields) records id.0 position (new_record (record { 0 = 0 }) 0) None has.0 found.2 in
    rw found.0 (ap (λ (v : Option Value). Ok v) (ap (λ k. get_or (all_fields records) k None) found.1 ∙ read))

-- what is set there is the field, and nothing else
pub set_there : (records next : List Record) (reference : Option RecordId) (class : ClassId) (position place : ℕ) (value : Value) → Ok place ≡ at_reference records reference class (λ id. first_field records id + position) → HasField records reference class position
    → all_fields next ≡ set (all_fields records) place (Some value) → shapes next ≡ shapes records → IfSome reference (λ id. next ≡ with_field records id position value)
set_there records next None class position place value is has filled formed = tt
set_there records next (Some id) class position place value is has filled formed =
    let found = found_there records id class position place is has in
    let none : Record = new_record (record { 0 = 0 }) 0 in
    same_records next (with_field records id position value)
    (formed ∙ sym (shapes-with_value records id.0 none position value))
    (filled ∙ ap (λ k. set (all_fields records) k (Some value)) found.1 ∙ sym (all_fields-with_value records id.0 none position value has.0 found.2))
