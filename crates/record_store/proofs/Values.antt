-- What fields hold when their slots and texts change.
use Rattle.std.proofs.Common.{◌≡◌, ℕ, zero, suc, ◌+◌, ◌-◌, ◌<◌, ◌≤◌, List, [], ◌∷◌, ◌++◌, Option, None, length, take, drop, set, get_or, replicate, refl, sym, ap, ◌∙◌, arith}
use Rattle.std.proofs.lemmas.List.{append_assoc, length-append, length-drop, length-replicate, length-set, length-take-le, drop-drop}
use Rattle.value_ops.specs.declared.values.Value.{Value}
use Rattle.record_store.specs.declared.fields.Slot.{Slot}
use Rattle.record_store.specs.declared.fields.Slot.TheVariants.{Undefined}
use Rattle.record_store.specs.Slots.{value_of, values_of}

pub length_values_of : (slots : List Slot) (texts : List (List ℕ)) → length (values_of slots texts) ≡ length slots
length_values_of [] texts = refl
length_values_of (slot ∷ slots) [] = ap suc (length_values_of slots [])
length_values_of (slot ∷ slots) (text ∷ texts) = ap suc (length_values_of slots texts)

pub get_or-values_of : (slots : List Slot) (texts : List (List ℕ)) (i : ℕ) (slot : Slot) → i < length slots → get_or (values_of slots texts) i None ≡ value_of (get_or slots i slot) (get_or texts i [])
get_or-values_of [] texts i slot within = absurd (omega arith)
get_or-values_of (s ∷ slots) [] zero slot within = refl
get_or-values_of (s ∷ slots) [] (suc i) slot within = get_or-values_of slots [] i slot (omega arith)
get_or-values_of (s ∷ slots) (t ∷ texts) zero slot within = refl
get_or-values_of (s ∷ slots) (t ∷ texts) (suc i) slot within = get_or-values_of slots texts i slot (omega arith)

-- a slot is set, and its text too
pub values_of-set : (slots : List Slot) (texts : List (List ℕ)) (i : ℕ) (slot : Slot) (text : List ℕ) → i < length texts
    → values_of (set slots i slot) (set texts i text) ≡ set (values_of slots texts) i (value_of slot text)
values_of-set [] texts i slot text within = refl
values_of-set (s ∷ slots) [] i slot text within = absurd (omega arith)
values_of-set (s ∷ slots) (t ∷ texts) zero slot text within = refl
values_of-set (s ∷ slots) (t ∷ texts) (suc i) slot text within = ap (λ (values : List (Option Value)). value_of s t ∷ values) (values_of-set slots texts i slot text (omega arith))

-- a slot is set that needs no text
pub values_of-set_slot : (slots : List Slot) (texts : List (List ℕ)) (i : ℕ) (slot : Slot) (value : Option Value) → ((text : List ℕ) → value_of slot text ≡ value)
    → values_of (set slots i slot) texts ≡ set (values_of slots texts) i value
values_of-set_slot [] texts i slot value is = refl
values_of-set_slot (s ∷ slots) [] zero slot value is = ap (λ (v : Option Value). v ∷ values_of slots []) (is [])
values_of-set_slot (s ∷ slots) [] (suc i) slot value is = ap (λ (values : List (Option Value)). value_of s [] ∷ values) (values_of-set_slot slots [] i slot value is)
values_of-set_slot (s ∷ slots) (t ∷ texts) zero slot value is = ap (λ (v : Option Value). v ∷ values_of slots texts) (is t)
values_of-set_slot (s ∷ slots) (t ∷ texts) (suc i) slot value is = ap (λ (values : List (Option Value)). value_of s t ∷ values) (values_of-set_slot slots texts i slot value is)

-- texts without characters at the end change nothing
pub values_of-padded : (slots : List Slot) (texts : List (List ℕ)) (more : ℕ) → values_of slots (texts ++ replicate more []) ≡ values_of slots texts
values_of-padded [] texts more = refl
values_of-padded (s ∷ slots) [] zero = refl
values_of-padded (s ∷ slots) [] (suc more) = ap (λ (values : List (Option Value)). value_of s [] ∷ values) (values_of-padded slots [] more)
values_of-padded (s ∷ slots) (t ∷ texts) more = ap (λ (values : List (Option Value)). value_of s t ∷ values) (values_of-padded slots texts more)

-- slots become undefined
first_undefined : (count : ℕ) (slots : List Slot) (texts : List (List ℕ)) → count ≤ length slots
    → values_of (replicate count Undefined ++ drop count slots) texts ≡ replicate count None ++ drop count (values_of slots texts)
first_undefined zero slots texts within = refl
first_undefined (suc count) [] texts within = absurd (omega arith)
first_undefined (suc count) (s ∷ slots) [] within = ap (λ (values : List (Option Value)). None ∷ values) (first_undefined count slots [] (omega arith))
first_undefined (suc count) (s ∷ slots) (t ∷ texts) within = ap (λ (values : List (Option Value)). None ∷ values) (first_undefined count slots texts (omega arith))

pub values_of-undefined : (first count : ℕ) (slots : List Slot) (texts : List (List ℕ)) → first + count ≤ length slots
    → values_of (take first slots ++ (replicate count Undefined ++ drop count (drop first slots))) texts ≡ take first (values_of slots texts) ++ (replicate count None ++ drop count (drop first (values_of slots texts)))
values_of-undefined zero count slots texts within = first_undefined count slots texts (omega arith)
values_of-undefined (suc first) count [] texts within = absurd (omega arith)
values_of-undefined (suc first) count (s ∷ slots) [] within = ap (λ (values : List (Option Value)). value_of s [] ∷ values) (values_of-undefined first count slots [] (omega arith))
values_of-undefined (suc first) count (s ∷ slots) (t ∷ texts) within = ap (λ (values : List (Option Value)). value_of s t ∷ values) (values_of-undefined first count slots texts (omega arith))

pub values_of-replicate : (count : ℕ) → values_of (replicate count Undefined) [] ≡ replicate count None
values_of-replicate zero = refl
values_of-replicate (suc count) = ap (λ (values : List (Option Value)). None ∷ values) (values_of-replicate count)

-- what is read at a place, by the slot that is found there
pub held_at : (slots : List Slot) (texts : List (List ℕ)) (now : List (Option Value)) (i : ℕ) (slot found : Slot) → values_of slots texts ≡ now → i < length now → found ≡ get_or slots i found → found ≡ slot
    → value_of slot (get_or texts i []) ≡ get_or now i None
held_at slots texts now i slot found is within read which =
    let long : length now ≡ length slots = ap length (sym is) ∙ length_values_of slots texts in
    ap (λ (s : Slot). value_of s (get_or texts i [])) (sym which ∙ read)
    ∙ sym (get_or-values_of slots texts i found (omega arith))
    ∙ ap (λ (values : List (Option Value)). get_or values i None) is

-- a place is within the slots
pub within_slots : (slots : List Slot) (texts : List (List ℕ)) (now : List (Option Value)) (i : ℕ) → values_of slots texts ≡ now → i < length now → i < length slots
within_slots slots texts now i is within =
    let long : length now ≡ length slots = ap length (sym is) ∙ length_values_of slots texts in
    omega arith

-- a slot that needs no text is set where other values stand
pub set_alone : (slots : List Slot) (texts : List (List ℕ)) (now : List (Option Value)) (i : ℕ) (slot : Slot) (value : Option Value) → values_of slots texts ≡ now → ((text : List ℕ) → value_of slot text ≡ value)
    → values_of (set slots i slot) texts ≡ set now i value
set_alone slots texts now i slot value is which =
    values_of-set_slot slots texts i slot value which ∙ ap (λ (values : List (Option Value)). set values i value) is

-- likewise with a text, up to whose place there are texts
pub set_both : (slots : List Slot) (texts put : List (List ℕ)) (now : List (Option Value)) (i : ℕ) (slot : Slot) (text : List ℕ) → values_of slots texts ≡ now
    → (more : ℕ) × (put ≡ set (texts ++ replicate more []) i text) × (i < length put) → values_of (set slots i slot) put ≡ set now i (value_of slot text)
set_both slots texts put now i slot text is more =
    let all = texts ++ replicate more.0 [] in
    let within : i < length all = omega (arith, more.2, ap length more.1, length-set all i text) in
    ap (values_of (set slots i slot)) more.1
    ∙ values_of-set slots all i slot text within
    ∙ ap (λ (values : List (Option Value)). set values i (value_of slot text)) (values_of-padded slots texts more.0 ∙ is)

-- a part of the slots becomes undefined: n is its length
pub part_undefined : (slots : List Slot) (texts : List (List ℕ)) (now : List (Option Value)) (first count n : ℕ) (part : List Slot) → values_of slots texts ≡ now → first + count ≤ length now → n ≡ count
    → part ≡ replicate (length (take n (drop first slots))) Undefined
    → values_of (take first slots ++ (part ++ drop n (drop first slots))) texts ≡ take first now ++ replicate count None ++ drop (first + count) now
part_undefined slots texts now first count n part is within long undefined =
    let whole : length now ≡ length slots = ap length (sym is) ∙ length_values_of slots texts in
    let rest : length (drop first slots) ≡ length slots - first = length-drop first slots in
    let full : length (take n (drop first slots)) ≡ count = length-take-le n (drop first slots) (omega arith) ∙ long in
    ap (λ (some : List Slot). values_of (take first slots ++ (some ++ drop n (drop first slots))) texts) (undefined ∙ ap (λ k. replicate k Undefined) full)
    ∙ ap (λ k. values_of (take first slots ++ (replicate count Undefined ++ drop k (drop first slots))) texts) long
    ∙ values_of-undefined first count slots texts (omega arith)
    ∙ ap (λ (values : List (Option Value)). take first values ++ (replicate count None ++ drop count (drop first values))) is
    ∙ ap (λ (values : List (Option Value)). take first now ++ (replicate count None ++ values)) (drop-drop count first now)
    ∙ sym (append_assoc (take first now) (replicate count None) (drop (first + count) now))

-- those slots are as many as before
pub part_kept_long : (slots : List Slot) (texts : List (List ℕ)) (now : List (Option Value)) (first count n : ℕ) (part : List Slot) → values_of slots texts ≡ now → first + count ≤ length now → n ≡ count
    → part ≡ replicate (length (take n (drop first slots))) Undefined → length (take first slots ++ (part ++ drop n (drop first slots))) ≡ length slots
part_kept_long slots texts now first count n part is within long undefined =
    let whole : length now ≡ length slots = ap length (sym is) ∙ length_values_of slots texts in
    let below : length (take first slots) ≡ first = length-take-le first slots (omega arith) in
    let full : length (take n (drop first slots)) ≡ n = length-take-le n (drop first slots) (omega (arith, length-drop first slots)) in
    let replaced : length part ≡ n = ap length undefined ∙ length-replicate (length (take n (drop first slots))) Undefined ∙ full in
    omega (arith, length-append (take first slots) (part ++ drop n (drop first slots)), length-append part (drop n (drop first slots)), length-drop n (drop first slots), length-drop first slots)
