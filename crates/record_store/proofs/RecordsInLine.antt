-- Records whose heads and fields are in line.
use Rattle.std.proofs.Common.{◌≡◌, ℕ, zero, suc, ◌+◌, ◌<◌, ◌≤◌, List, [], ◌∷◌, ◌++◌, Option, Some, None, true, false, eqb, Ok, length, map, take, drop, set, get_or, replicate, refl, sym, ap, ◌∙◌, arith}
use Rattle.std.proofs.Math.Seq.{take-add, take-set-lt}
use Rattle.std.proofs.lemmas.List.{append_assoc, append-nil, take-take, drop-take, take_at, drop_at, length-append, length-take-le, length-drop, length-replicate, take_more_set, map-append, take-map, get_or-take, get_or-map, length-map, length-set}
use Rattle.value_ops.specs.declared.values.ClassId.{ClassId}
use Rattle.value_ops.specs.declared.values.RecordId.{RecordId}
use Rattle.value_ops.specs.declared.values.Value.{Value}
use Rattle.record_store.specs.Records.{Record, Shape, all_fields, shapes, new_record, has_room, HasField, at_reference, first_field, record_at}
use Rattle.record_store.specs.Kept.{Kept, record_of, Laid}
use Rattle.record_store.specs.declared.records.Head.{Head}
use Rattle.record_store.proofs.FieldsInLine.{same_class}

-- lines go on
pub laid_upwards : (heads : List Head) (from to : ℕ) → Laid from heads to → from ≤ to
laid_upwards [] from to laid = omega arith
laid_upwards (h ∷ heads) from to laid = omega (arith, laid_upwards heads (from + h.count) to laid.1)

-- the fields of all records are those in use
laid_behind : (fields : List (Option Value)) (heads : List Head) (from to : ℕ) → Laid from heads to → take from fields ++ all_fields (map (record_of fields) heads) ≡ take to fields
laid_behind fields [] from to laid = append-nil (take from fields) ∙ ap (λ n. take n fields) laid
laid_behind fields (h ∷ heads) from to laid =
    let rest = all_fields (map (record_of fields) heads) in
    ap (λ n. take from fields ++ (take h.count (drop n fields) ++ rest)) laid.0
    ∙ sym (append_assoc (take from fields) (take h.count (drop from fields)) rest)
    ∙ ap (λ (some : List (Option Value)). some ++ rest) (sym (take-add from h.count fields))
    ∙ laid_behind fields heads (from + h.count) to laid.1

pub all_fields_laid : (fields : List (Option Value)) (heads : List Head) (to : ℕ) → Laid 0 heads to → all_fields (map (record_of fields) heads) ≡ take to fields
all_fields_laid fields heads to laid = laid_behind fields heads 0 to laid

-- their shapes are those of their heads
abbrev pub shape_at : Head → Shape
shape_at h = record { class = h.class; count = h.count }

pub shapes_laid : (fields : List (Option Value)) (heads : List Head) (from to : ℕ) → Laid from heads to → to ≤ length fields → shapes (map (record_of fields) heads) ≡ map shape_at heads
shapes_laid fields [] from to laid within = refl
shapes_laid fields (h ∷ heads) from to laid within =
    let up = laid_upwards heads (from + h.count) to laid.1 in
    let long : length (take h.count (drop h.first fields)) ≡ h.count = length-take-le h.count (drop h.first fields) (omega (arith, length-drop h.first fields, laid.0)) in
    ap (λ (n : ℕ). let s : Shape = record { class = h.class; count = n } in s ∷ shapes (map (record_of fields) heads)) long
    ∙ ap (λ (some : List Shape). shape_at h ∷ some) (shapes_laid fields heads (from + h.count) to laid.1 within)

-- what lies below a record's fields, and where these end
pub laid_at : (heads : List Head) (from to i : ℕ) (d : Head) → Laid from heads to → i < length heads → Laid from (take i heads) (get_or heads i d).first × ((get_or heads i d).first + (get_or heads i d).count ≤ to)
laid_at [] from to i d laid within = absurd (omega arith)
laid_at (h ∷ heads) from to zero d laid within = (sym laid.0, omega (arith, laid.0, laid_upwards heads (from + h.count) to laid.1))
laid_at (h ∷ heads) from to (suc i) d laid within =
    let rest = laid_at heads (from + h.count) to i d laid.1 (omega arith) in
    ((laid.0, rest.0), rest.1)

-- one head more
pub laid_more : (heads : List Head) (from to : ℕ) (h : Head) → Laid from heads to → h.first ≡ to → Laid from (heads ++ h ∷ []) (to + h.count)
laid_more [] from to h laid first = (first ∙ sym laid, ap (λ n. n + h.count) laid)
laid_more (g ∷ heads) from to h laid first = (laid.0, laid_more heads (from + g.count) to h laid.1 first)

-- records are what is in use
pub same_in_use : (fields others : List (Option Value)) (heads : List Head) (from to : ℕ) → Laid from heads to → take to fields ≡ take to others → map (record_of fields) heads ≡ map (record_of others) heads
same_in_use fields others [] from to laid same = refl
same_in_use fields others (h ∷ heads) from to laid same =
    let end = h.first + h.count in
    let within : end ≤ to = omega (arith, laid.0, laid_upwards heads (from + h.count) to laid.1) in
    let low : take end fields ≡ take end others = sym (take-take end to fields within) ∙ ap (take end) same ∙ take-take end to others within in
    let here : take h.count (drop h.first fields) ≡ take h.count (drop h.first others) = sym (drop-take h.first h.count fields) ∙ ap (drop h.first) low ∙ drop-take h.first h.count others in
    ap (λ (some : List (Option Value)). let r : Record = record { class = h.class; fields = some } in r ∷ map (record_of fields) heads) here
    ∙ ap (λ (some : List Record). record_of others h ∷ some) (same_in_use fields others heads (from + h.count) to laid.1 same)

-- a record is made behind the others
pub made_behind : (fields : List (Option Value)) (heads : List Head) (made taken : ℕ) (h : Head) → Laid 0 (take made heads) taken → made < length heads → taken + h.count ≤ length fields → h.first ≡ taken
    → map (record_of (take taken fields ++ replicate h.count None ++ drop (taken + h.count) fields)) (take (made + 1) (set heads made h)) ≡ map (record_of fields) (take made heads) ++ new_record h.class h.count ∷ []
made_behind fields heads made taken h laid room enough first =
    let next = take taken fields ++ replicate h.count None ++ drop (taken + h.count) fields in
    let parts : next ≡ take taken fields ++ (replicate h.count None ++ drop (taken + h.count) fields) = append_assoc (take taken fields) (replicate h.count None) (drop (taken + h.count) fields) in
    let long : length (take taken fields) ≡ taken = length-take-le taken fields (omega arith) in
    let below : take taken fields ≡ take taken next = sym (ap (take taken) parts ∙ take_at (take taken fields) (replicate h.count None ++ drop (taken + h.count) fields) taken long) in
    let above : drop taken next ≡ replicate h.count None ++ drop (taken + h.count) fields = ap (drop taken) parts ∙ drop_at (take taken fields) (replicate h.count None ++ drop (taken + h.count) fields) taken long in
    let fresh : take h.count (drop h.first next) ≡ replicate h.count None = ap (λ n. take h.count (drop n next)) first ∙ ap (take h.count) above ∙ take_at (replicate h.count None) (drop (taken + h.count) fields) h.count (length-replicate h.count None) in
    ap (map (record_of next)) (take_more_set heads made h room)
    ∙ map-append (record_of next) (take made heads) (h ∷ [])
    ∙ ap (λ (some : List Record). some ++ record_of next h ∷ []) (sym (same_in_use fields next (take made heads) 0 taken laid below))
    ∙ ap (λ (some : List (Option Value)). let r : Record = record { class = h.class; fields = some } in map (record_of fields) (take made heads) ++ r ∷ []) fresh

-- a field in use is set
pub all_fields_set : (fields : List (Option Value)) (heads : List Head) (taken place : ℕ) (value : Option Value) → Laid 0 heads taken → place < taken
    → all_fields (map (record_of (set fields place value)) heads) ≡ set (all_fields (map (record_of fields) heads)) place value
all_fields_set fields heads taken place value laid within =
    all_fields_laid (set fields place value) heads taken laid
    ∙ take-set-lt taken fields place value within
    ∙ ap (λ (some : List (Option Value)). set some place value) (sym (all_fields_laid fields heads taken laid))

-- ---- of what is kept

pub kept_fields : (heads : List Head) (made : ℕ) (fields : List (Option Value)) (taken : ℕ) (now : List Record) → Kept heads made fields taken → map (record_of fields) (take made heads) ≡ now → all_fields now ≡ take taken fields
kept_fields heads made fields taken now kept is = ap all_fields (sym is) ∙ all_fields_laid fields (take made heads) taken kept.laid

pub kept_taken : (heads : List Head) (made : ℕ) (fields : List (Option Value)) (taken : ℕ) (now : List Record) → Kept heads made fields taken → map (record_of fields) (take made heads) ≡ now → length (all_fields now) ≡ taken
kept_taken heads made fields taken now kept is =
    ap length (kept_fields heads made fields taken now kept is) ∙ length-take-le taken fields (omega (arith, kept.room, kept.taken_within))

pub kept_made : (heads : List Head) (made : ℕ) (fields : List (Option Value)) (taken : ℕ) (now : List Record) → Kept heads made fields taken → map (record_of fields) (take made heads) ≡ now → length now ≡ made
kept_made heads made fields taken now kept is =
    ap length (sym is) ∙ length-map (take made heads) (record_of fields) ∙ length-take-le made heads (omega (arith, kept.records, kept.made_within))

-- a place is one of a field
pub kept_place : (heads : List Head) (made : ℕ) (fields : List (Option Value)) (taken : ℕ) (now : List Record) (place : ℕ) → Kept heads made fields taken → map (record_of fields) (take made heads) ≡ now → place < length (all_fields now) → (place < taken) × (place < length fields)
kept_place heads made fields taken now place kept is within =
    let long = kept_taken heads made fields taken now kept is in
    (omega arith, omega (arith, kept.room, kept.taken_within))

-- what is read at a place
pub kept_field : (heads : List Head) (made : ℕ) (fields : List (Option Value)) (taken : ℕ) (now : List Record) (place : ℕ) → Kept heads made fields taken → map (record_of fields) (take made heads) ≡ now → place < length (all_fields now)
    → get_or fields place None ≡ get_or (all_fields now) place None
kept_field heads made fields taken now place kept is within =
    let low = kept_place heads made fields taken now place kept is within in
    sym (ap (λ (some : List (Option Value)). get_or some place None) (kept_fields heads made fields taken now kept is) ∙ get_or-take taken fields place None low.0)

-- a record by its head
pub kept_record : (heads : List Head) (made : ℕ) (fields : List (Option Value)) (taken : ℕ) (now : List Record) (i : ℕ) (h : Head) (r : Record) → Kept heads made fields taken → map (record_of fields) (take made heads) ≡ now → i < length now → h ≡ get_or heads i h
    → get_or now i r ≡ record_of fields h
kept_record heads made fields taken now i h r kept is within read =
    let many = kept_made heads made fields taken now kept is in
    let some : length (take made heads) ≡ made = length-take-le made heads (omega (arith, kept.records, kept.made_within)) in
    ap (λ (records : List Record). get_or records i r) (sym is)
    ∙ get_or-map (record_of fields) (take made heads) i h r (omega arith)
    ∙ ap (record_of fields) (get_or-take made heads i h (omega arith) ∙ sym read)

-- where its fields begin, and that they end among those in use
pub kept_first : (heads : List Head) (made : ℕ) (fields : List (Option Value)) (taken : ℕ) (now : List Record) (i : ℕ) (h : Head) → Kept heads made fields taken → map (record_of fields) (take made heads) ≡ now → i < length now → h ≡ get_or heads i h
    → (length (all_fields (take i now)) ≡ h.first) × (h.first + h.count ≤ taken)
kept_first heads made fields taken now i h kept is within read =
    let many = kept_made heads made fields taken now kept is in
    let some : length (take made heads) ≡ made = length-take-le made heads (omega (arith, kept.records, kept.made_within)) in
    let here : get_or (take made heads) i h ≡ h = get_or-take made heads i h (omega arith) ∙ sym read in
    let at = laid_at (take made heads) 0 taken i h kept.laid (omega arith) in
    let ends : h.first + h.count ≤ taken = rw here at at.1 in
    let laid : Laid 0 (take i (take made heads)) h.first = rw here at at.0 in
    let below : all_fields (take i now) ≡ take h.first fields =
    ap (λ (records : List Record). all_fields (take i records)) (sym is)
    ∙ ap all_fields (take-map (record_of fields) i (take made heads))
    ∙ all_fields_laid fields (take i (take made heads)) h.first laid in
    (ap length below ∙ length-take-le h.first fields (omega (arith, kept.room, kept.taken_within)), ends)

-- how many fields it has
pub kept_count : (heads : List Head) (made : ℕ) (fields : List (Option Value)) (taken : ℕ) (now : List Record) (i : ℕ) (h : Head) (r : Record) → Kept heads made fields taken → map (record_of fields) (take made heads) ≡ now → i < length now → h ≡ get_or heads i h
    → length (get_or now i r).fields ≡ h.count
kept_count heads made fields taken now i h r kept is within read =
    let ends = kept_first heads made fields taken now i h kept is within read in
    ap (λ (one : Record). length one.fields) (kept_record heads made fields taken now i h r kept is within read)
    ∙ length-take-le h.count (drop h.first fields) (omega (arith, ends.1, length-drop h.first fields, kept.room, kept.taken_within))

-- a record more is kept
pub kept_more : (heads : List Head) (made : ℕ) (fields next : List (Option Value)) (taken i : ℕ) (h : Head) → Kept heads made fields taken → i ≡ made → made < 4096 → taken + h.count ≤ 16384 → h.first ≡ taken → length next ≡ length fields
    → Kept (set heads i h) (made + 1) next (taken + h.count)
kept_more heads made fields next taken i h kept at room enough first long = record {
  records = length-set heads i h ∙ kept.records;
  room = long ∙ kept.room;
  made_within = omega arith;
  taken_within = enough;
  laid =
      let heads_are : take (made + 1) (set heads i h) ≡ take made heads ++ h ∷ [] = ap (λ k. take (made + 1) (set heads k h)) at ∙ take_more_set heads made h (omega (arith, kept.records)) in
      rw heads_are (laid_more (take made heads) 0 taken h kept.laid first);
}

-- there is no room for one
pub full_of_records : (now : List Record) (count : ℕ) → 4096 ≤ length now → has_room now count ≡ false
full_of_records now count many = grind arith

pub full_of_fields : (now : List Record) (count : ℕ) → 16384 < length (all_fields now) + count → has_room now count ≡ false
full_of_fields now count many = grind arith

-- there is
pub has_room_for : (now : List Record) (count : ℕ) → length now < 4096 → length (all_fields now) + count ≤ 16384 → has_room now count ≡ true
has_room_for now count few short = grind arith

-- the fields of a record that is made are taken from those behind
pub next_long : (fields : List (Option Value)) (taken count : ℕ) → taken + count ≤ length fields → length (take taken fields ++ replicate count None ++ drop (taken + count) fields) ≡ length fields
next_long fields taken count within =
    let below : length (take taken fields) ≡ taken = length-take-le taken fields (omega arith) in
    omega (arith, below, length-append (take taken fields ++ replicate count None) (drop (taken + count) fields), length-append (take taken fields) (replicate count None), length-replicate {A = Option Value} count None, length-drop (taken + count) fields)

pub kept_behind : (heads : List Head) (made : ℕ) (fields next : List (Option Value)) (taken i : ℕ) (h : Head) (now : List Record) → Kept heads made fields taken → map (record_of fields) (take made heads) ≡ now
    → i ≡ made → made < 4096 → taken + h.count ≤ 16384 → h.first ≡ taken → next ≡ take taken fields ++ replicate h.count None ++ drop (taken + h.count) fields
    → map (record_of next) (take (made + 1) (set heads i h)) ≡ now ++ new_record h.class h.count ∷ []
kept_behind heads made fields next taken i h now kept is at room enough first next_is =
    ap (λ k. map (record_of next) (take (made + 1) (set heads k h))) at
    ∙ ap (λ (some : List (Option Value)). map (record_of some) (take (made + 1) (set heads made h))) next_is
    ∙ made_behind fields heads made taken h kept.laid (omega (arith, kept.records)) (omega (arith, kept.room)) first
    ∙ ap (λ (records : List Record). records ++ new_record h.class h.count ∷ []) is

-- the place of a field is found by the head of its record
pub kept_found : (heads : List Head) (made : ℕ) (fields : List (Option Value)) (taken : ℕ) (now : List Record) (reference : Option RecordId) (id : RecordId) (class : ClassId) (position i : ℕ) (h : Head)
    → Kept heads made fields taken → map (record_of fields) (take made heads) ≡ now → reference ≡ Some id → i ≡ id.0 → h ≡ get_or heads i h → eqb h.class.0 class.0 ≡ true → HasField now reference class position
    → (Ok (h.first + position) ≡ at_reference now reference class (λ id. first_field now id + position)) × (h.first + position < length (all_fields now))
kept_found heads made fields taken now reference id class position i h kept is to at read same has =
    let there : HasField now (Some id) class position = rw to at has in
    let found : h ≡ get_or heads id.0 h = rw at at read in
    let one = kept_record heads made fields taken now id.0 h (new_record (record { 0 = 0 }) 0) kept is there.0 found in
    let class_is : (record_at now id).class ≡ h.class = ap (λ (r : Record). r.class) one in
    let same_number : eqb (record_at now id).class.0 class.0 ≡ true = ap (λ (c : ClassId). eqb c.0 class.0) class_is ∙ same in
    let first = kept_first heads made fields taken now id.0 h kept is there.0 found in
    let count = kept_count heads made fields taken now id.0 h (new_record (record { 0 = 0 }) 0) kept is there.0 found in
    let short : position < length (record_at now id).fields = there.1 (same_class (record_at now id).class class same_number) in
    let taken_is = kept_taken heads made fields taken now kept is in
    (rw (to, same_number) (ap (λ n. Ok (n + position)) (sym first.0)), omega arith)

-- a field is set
pub kept_fields_set : (heads : List Head) (made : ℕ) (fields next : List (Option Value)) (taken : ℕ) (now : List Record) (place : ℕ) (value : Option Value) → Kept heads made fields taken → map (record_of fields) (take made heads) ≡ now
    → place < length (all_fields now) → next ≡ set fields place value → all_fields (map (record_of next) (take made heads)) ≡ set (all_fields now) place value
kept_fields_set heads made fields next taken now place value kept is within next_is =
    ap (λ (some : List (Option Value)). all_fields (map (record_of some) (take made heads))) next_is
    ∙ all_fields_set fields (take made heads) taken place value kept.laid (kept_place heads made fields taken now place kept is within).0
    ∙ ap (λ (records : List Record). set (all_fields records) place value) is

pub kept_shapes_set : (heads : List Head) (made : ℕ) (fields next : List (Option Value)) (taken : ℕ) (now : List Record) (place : ℕ) (value : Option Value) → Kept heads made fields taken → map (record_of fields) (take made heads) ≡ now
    → next ≡ set fields place value → shapes (map (record_of next) (take made heads)) ≡ shapes now
kept_shapes_set heads made fields next taken now place value kept is next_is =
    let long : length next ≡ length fields = ap length next_is ∙ length-set fields place value in
    shapes_laid next (take made heads) 0 taken kept.laid (omega (arith, kept.room, kept.taken_within))
    ∙ sym (shapes_laid fields (take made heads) 0 taken kept.laid (omega (arith, kept.room, kept.taken_within)))
    ∙ ap shapes is
