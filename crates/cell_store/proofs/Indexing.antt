-- Where an element stands.
use Rattle.std.proofs.Common.{◌≡◌, ℕ, zero, suc, ◌+◌, ◌*◌, ◌<◌, ◌≤◌, min, ℤ, Bool, true, false, ◌&&◌, nat_lt, List, [], ◌∷◌, drop, map, length, get_or, Option, Some, None, Result, Ok, Err, inl, inr, is_some, not, add-zero, add-one, refl, sym, ap, ◌∙◌, arith}
use Rattle.std.specs.Prelude.{slice_get, if◌then◌else◌, IfSome}
use Rattle.std.specs.Option.{option_or, option_flatten}
use mir.Val.{bool_byte}
use Rattle.std.specs.Bool.{then_some}
use Rattle.std.proofs.lemmas.Bool.{cases_lt, lt-ltb, le-ltb}
use Rattle.std.proofs.lemmas.List.{at_drop_more}
use Rattle.std.proofs.lemmas.Option.{cond_some}
use Rattle.std.proofs.Math.Nat.{mul_assoc, add-mul}
use Rattle.value_ops.specs.declared.faults.Fault.TheVariants.{SubscriptOutsideBounds}
use Rattle.value_ops.specs.declared.faults.Fault.{Fault}
use Rattle.cell_store.specs.declared.dimension.Dimension.{Dimension}
use Rattle.cell_store.specs.Arrays.{Array, element, elements, extent, chosen, left_of, filled, is_within, all_within, place, offset, index_of}
use Rattle.cell_store.specs.Held.{further, further_all}
use Rattle.cell_store.proofs.Counting.{capped_more}

-- ---- the next subscript

pub chosen_next : (given : Option ℤ) (subscripts : List ℤ) (next : ℕ) → chosen given (drop next (map (λ i. Some i) subscripts)) ≡ option_or given (slice_get subscripts next)
chosen_next (Some i) subscripts next = refl
chosen_next None [] zero = refl
chosen_next None [] (suc next) = refl
chosen_next None (i ∷ subscripts) zero = refl
chosen_next None (i ∷ subscripts) (suc next) = chosen_next None subscripts next

pub chosen_given : (given : Option ℤ) (subscripts : List (Option ℤ)) (next : ℕ) → chosen given (drop next subscripts) ≡ option_or given (option_flatten (slice_get subscripts next))
chosen_given (Some i) subscripts next = refl
chosen_given None [] zero = refl
chosen_given None [] (suc next) = refl
chosen_given None (i ∷ subscripts) zero = refl
chosen_given None (i ∷ subscripts) (suc next) = chosen_given None subscripts next

left_of_none : (subscripts : List (Option ℤ)) (next : ℕ) → left_of None (drop next subscripts) ≡ drop (suc next) subscripts
left_of_none [] zero = refl
left_of_none [] (suc next) = refl
left_of_none (i ∷ subscripts) zero = refl
left_of_none (i ∷ subscripts) (suc next) = left_of_none subscripts next

pub left_next : (given : Option ℤ) (subscripts : List (Option ℤ)) (next after taken : ℕ) (r : Bool) → is_some given ≡ not r → taken ≡ bool_byte r → after ≡ next + taken → left_of given (drop next subscripts) ≡ drop after subscripts
left_next (Some i) subscripts next after taken true is t e = cc
left_next (Some i) subscripts next after taken false is t e = ap (λ n. drop n subscripts) (sym (e ∙ ap (λ n. next + n) t ∙ add-zero next))
left_next None subscripts next after taken true is t e = left_of_none subscripts next ∙ ap (λ n. drop n subscripts) (sym (e ∙ ap (λ n. next + n) t ∙ add-one next))
left_next None subscripts next after taken false is t e = cc

pub taken_few : (r : Bool) → bool_byte r ≤ 1
taken_few true = omega arith
taken_few false = omega arith

-- ---- all dimensions

pub further_most : (d : Dimension) (given : Option ℤ) (n m : ℕ) → further d given n ≡ Some m → m ≤ 32768
further_most d given n m e =
    let h = cond_some (is_within d given) (min (n * extent d + place d given) 32768) m e in
    omega (arith, h.1)

further_more : (ds : List Dimension) (k : ℕ) (blank : Dimension) (more : List (Option ℤ)) (n : ℕ) → k < length ds → further_all (drop k ds) more n ≡ further_all (get_or ds k blank ∷ drop (k + 1) ds) more n
further_more ds k blank more n h = at_drop_more (λ xs. further_all xs more n) ds k blank h

-- a dimension on
pub further_on : (ds : List Dimension) (k : ℕ) (d : Dimension) (given : Option ℤ) (more after : List (Option ℤ)) (n m : ℕ) → k < length ds → get_or ds k d ≡ d → given ≡ chosen d.given more → left_of d.given more ≡ after → further d given n ≡ Some m
    → further_all (drop (k + 1) ds) after m ≡ further_all (drop k ds) more n
further_on ds k d given more after n m h is given_is left_is on =
    sym (further_more ds k d more n h
    ∙ ap (λ e. further_all (e ∷ drop (k + 1) ds) more n) is
    ∙ ap (λ o. elim o [ None ↦ None | Some n ↦ further_all (drop (k + 1) ds) (left_of d.given more) n ]) (ap (λ g. further d g n) (sym given_is) ∙ on)
    ∙ ap (λ rest. further_all (drop (k + 1) ds) rest m) left_is)

-- a dimension whose subscript is outside
pub further_stops : (ds : List Dimension) (k : ℕ) (d : Dimension) (given : Option ℤ) (more : List (Option ℤ)) (n : ℕ) → k < length ds → get_or ds k d ≡ d → given ≡ chosen d.given more → further d given n ≡ None
    → further_all (drop k ds) more n ≡ None
further_stops ds k d given more n h is given_is stops =
    further_more ds k d more n h
    ∙ ap (λ e. further_all (e ∷ drop (k + 1) ds) more n) is
    ∙ ap (λ o. elim o [ None ↦ None | Some n ↦ further_all (drop (k + 1) ds) (left_of d.given more) n ]) (ap (λ g. further d g n) (sym given_is) ∙ stops)

-- subscripts leave the bounds
pub elements_filled : (ds : List Dimension) (more : List (Option ℤ)) → elements (filled ds more) ≡ elements ds
elements_filled [] more = refl
elements_filled (d ∷ ds) more = ap (λ n. extent d * n) (elements_filled ds (left_of d.given more))

-- how many stand in front of an element, where all subscripts are within
abbrev pub in_front : List Dimension → List (Option ℤ) → ℕ → Option ℕ
in_front ds more n = if all_within (filled ds more) then Some (min (n * elements ds + offset (filled ds more)) 32768) else None

-- (n * e + p) * E + o
regrouped : (n e p all rest o : ℕ) → rest ≡ all → (n * e + p) * all + o ≡ n * (e * all) + (p * rest + o)
regrouped n e p all rest o same =
    ap (λ m. m + o) (add-mul (n * e) p all)
    ∙ ap (λ m. (m + p * all) + o) (mul_assoc n e all)
    ∙ ap (λ m. (n * (e * all) + p * m) + o) (sym same)
    ∙ omega arith

one_further : (b : Bool) (ds : List Dimension) (more : List (Option ℤ)) (n e p : ℕ) → ((m : ℕ) → m ≤ 32768 → further_all ds more m ≡ in_front ds more m)
    → (elim (if b then Some (min (n * e + p) 32768) else None) [ None ↦ None | Some m ↦ further_all ds more m ])
    ≡ (if b && all_within (filled ds more) then Some (min (n * (e * elements ds) + (p * elements (filled ds more) + offset (filled ds more))) 32768) else None)
one_further false ds more n e p all = refl
one_further true ds more n e p all =
    all (min (n * e + p) 32768) (omega arith)
    ∙ ap (λ m. if all_within (filled ds more) then Some m else None)
    (capped_more (n * e + p) (offset (filled ds more)) (elements ds) 32768
    ∙ ap (λ m. min m 32768) (regrouped n e p (elements ds) (elements (filled ds more)) (offset (filled ds more)) (elements_filled ds more)))

pub further_all_is : (ds : List Dimension) (more : List (Option ℤ)) (n : ℕ) → n ≤ 32768 → further_all ds more n ≡ in_front ds more n
further_all_is [] more n h = ap (λ m. Some m) (omega arith)
further_all_is (d ∷ ds) more n h =
    one_further (is_within d (chosen d.given more)) ds (left_of d.given more) n (extent d) (place d (chosen d.given more)) (further_all_is ds (left_of d.given more))

-- ---- the cell of an element

-- a dimension on of which nothing is given
one_more : (d : Dimension) (ds : List Dimension) (i : ℤ) (more : List (Option ℤ)) (n m : ℕ) → d.given ≡ None → further d (Some i) n ≡ Some m → further_all (d ∷ ds) (Some i ∷ more) n ≡ further_all ds more m
one_more d ds i more n m free on =
    ap (λ o. elim (further d (chosen o (Some i ∷ more)) n) [ None ↦ None | Some k ↦ further_all ds (left_of o (Some i ∷ more)) k ]) free
    ∙ ap (λ r. elim r [ None ↦ None | Some k ↦ further_all ds more k ]) on

abbrev pub found : (first total : ℕ) → Option ℕ → Result (Option ℕ) Fault
found first total None = Err SubscriptOutsideBounds
found first total (Some n) = Ok (then_some (nat_lt n total) (first + n))

then_some_is : (b : Bool) (n : ℕ) → ◌≡◌ {A = Option ℕ} (if b then Some n else None) (then_some b n)
then_some_is true n = refl
then_some_is false n = refl

none_past : (first total o : ℕ) → total ≤ 32768 → total ≤ o → ◌≡◌ {A = Option ℕ} (if nat_lt o total then Some (first + o) else None) (if nat_lt 32768 total then Some (first + 32768) else None)
none_past first total o h past = grind arith

within_cells : (first total o : ℕ) → total ≤ 32768 → ◌≡◌ {A = Option ℕ} (if nat_lt o total then Some (first + o) else None) (if nat_lt (min o 32768) total then Some (first + min o 32768) else None)
within_cells first total o h = elim (cases_lt 32768 o) [
  | inl over ↦ let full : min o 32768 ≡ 32768 = omega arith in rw full (none_past first total o h (omega arith))
  | inr below ↦ let same : min o 32768 ≡ o = omega arith in rw same refl
]

chosen_all : (b : Bool) (first total all o none : ℕ) → none ≡ 0 → all ≡ total → total ≤ 32768
    → ◌≡◌ {A = Result (Option ℕ) Fault} (if b then Ok (if nat_lt o all then Some (first + o) else None) else Err SubscriptOutsideBounds) (found first total (if b then Some (min (none + o) 32768) else None))
chosen_all false first total all o none zero_is all_is h = refl
chosen_all true first total all o none zero_is all_is h =
    ap (λ n. Ok (if nat_lt o n then Some (first + o) else None)) all_is
    ∙ ap (λ r. Ok r) (within_cells first total o h)
    ∙ ap (λ r. Ok r) (then_some_is (nat_lt (min o 32768) total) (first + min o 32768))
    ∙ ap (λ n. Ok (then_some (nat_lt (min n 32768) total) (first + min n 32768))) (omega arith)

pub index_is : (a : Array) (subscripts : List ℤ) (total : ℕ) → total ≡ elements a.dimensions → total ≤ 32768 → index_of a subscripts ≡ found a.first total (further_all a.dimensions (map (λ i. Some i) subscripts) 0)
index_is a subscripts total counted h =
    let more : List (Option ℤ) = map (λ i. Some i) subscripts in
    let all : elements (filled a.dimensions more) ≡ total = elements_filled a.dimensions more ∙ sym counted in
    rw (further_all_is a.dimensions more 0 (omega arith)) (chosen_all (all_within (filled a.dimensions more)) a.first total (elements (filled a.dimensions more)) (offset (filled a.dimensions more)) (0 * elements a.dimensions) (omega arith) all h)

none_within : {A : Type 0} (b : Bool) (a : A) (n : ℕ) → ◌≡◌ {A = Option ℕ} (if b then Some n else None) None → ◌≡◌ {A = Result A Fault} (Err SubscriptOutsideBounds) (if b then Ok a else Err SubscriptOutsideBounds)
none_within true a n h = cc
none_within false a n h = refl

pub not_found : (a : Array) (subscripts : List ℤ) → further_all a.dimensions (map (λ i. Some i) subscripts) 0 ≡ None → ◌≡◌ {A = Result (Option ℕ) Fault} (Err SubscriptOutsideBounds) (index_of a subscripts)
not_found a subscripts stops =
    let more : List (Option ℤ) = map (λ i. Some i) subscripts in
    none_within (all_within (filled a.dimensions more)) (element a (filled a.dimensions more)) (min (0 * elements a.dimensions + offset (filled a.dimensions more)) 32768) (sym (further_all_is a.dimensions more 0 (omega arith)) ∙ stops)

-- a cell that is found is one of the cells
pub found_within : (first total n : ℕ) → first + total ≤ 32768 → IfSome (then_some (nat_lt n total) (first + n)) (λ cell. cell < 32768)
found_within first total n h = elim (cases_lt n total) [
  | inl below ↦ let is : nat_lt n total ≡ true = lt-ltb n total below in rw is (omega (arith, h, below))
  | inr past ↦ let is : nat_lt n total ≡ false = le-ltb n total past in rw is tt
]

-- an element that an array has
found_there : (a : Array) (subscripts : List ℤ) (total n cell : ℕ) → total ≡ elements a.dimensions → total ≤ 32768 → further_all a.dimensions (map (λ i. Some i) subscripts) 0 ≡ Some n → then_some (nat_lt n total) (a.first + n) ≡ Some cell → index_of a subscripts ≡ Ok (Some cell)
found_there a subscripts total n cell counted h walked is = index_is a subscripts total counted h ∙ ap (found a.first total) walked ∙ ap (λ r. Ok r) is

pub found_of_one : (a : Array) (d : Dimension) (i : ℤ) (total n cell : ℕ) → total ≡ elements a.dimensions → total ≤ 32768 → a.dimensions ≡ d ∷ [] → d.given ≡ None → further d (Some i) 0 ≡ Some n → then_some (nat_lt n total) (a.first + n) ≡ Some cell → index_of a (i ∷ []) ≡ Ok (Some cell)
found_of_one a d i total n cell counted h are free on is = found_there a (i ∷ []) total n cell counted h (ap (λ ds. further_all ds (Some i ∷ []) 0) are ∙ one_more d [] i [] 0 n free on) is

pub found_of_two : (a : Array) (d e : Dimension) (i j : ℤ) (total m n cell : ℕ) → total ≡ elements a.dimensions → total ≤ 32768 → a.dimensions ≡ d ∷ e ∷ [] → d.given ≡ None → e.given ≡ None → further d (Some i) 0 ≡ Some m → further e (Some j) m ≡ Some n → then_some (nat_lt n total) (a.first + n) ≡ Some cell → index_of a (i ∷ j ∷ []) ≡ Ok (Some cell)
found_of_two a d e i j total m n cell counted h are free free' on on' is = found_there a (i ∷ j ∷ []) total n cell counted h (ap (λ ds. further_all ds (Some i ∷ Some j ∷ []) 0) are ∙ one_more d (e ∷ []) i (Some j ∷ []) 0 m free on ∙ one_more e [] j [] m n free' on') is

-- ---- the same of one or two dimensions, found without a loop

pub none_given : (o : Option ℤ) → is_some o ≡ false → o ≡ None
none_given None e = refl
none_given (Some i) e = absurd (cc e)

pub one_only : (ds : List Dimension) (blank : Dimension) → 1 ≤ length ds → length ds < 2 → ds ≡ get_or ds 0 blank ∷ []
one_only [] blank l m = absurd (omega (arith, l))
one_only (d ∷ []) blank l m = refl
one_only (d ∷ e ∷ ds) blank l m = absurd (omega (arith, m))

pub two_only : (ds : List Dimension) (blank : Dimension) → 2 ≤ length ds → length ds < 3 → ds ≡ get_or ds 0 blank ∷ get_or ds 1 blank ∷ []
two_only [] blank l m = absurd (omega (arith, l))
two_only (d ∷ []) blank l m = absurd (omega (arith, l))
two_only (d ∷ e ∷ []) blank l m = refl
two_only (d ∷ e ∷ f ∷ ds) blank l m = absurd (omega (arith, m))

pub if_there : (a : Array) (subscripts : List ℤ) (o r : Option ℕ) → ((cell : ℕ) → r ≡ Some cell → index_of a subscripts ≡ Ok (Some cell)) → o ≡ r → IfSome o (λ cell. index_of a subscripts ≡ Ok (Some cell))
if_there a subscripts None r f e = tt
if_there a subscripts (Some cell) r f e = f cell (sym e)
