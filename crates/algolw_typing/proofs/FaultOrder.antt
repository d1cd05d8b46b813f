-- The faults of a program are put in order: each as often as it was found, and none before one that comes earlier.
use Rattle.std.proofs.Common.{◌≡◌, ℕ, zero, suc, ◌<◌, List, [], ◌∷◌, length, slice_index_or, Bool, true, false, nat_eq, nat_lt, nat_le, refl, sym, subst, inl, inr, ◌⊎◌, arith, is_lt, IsPermutation, add-one}
use Rattle.std.specs.List.Sorted.{IsSorted}
use Rattle.std.proofs.lemmas.List.Sorted.{IsPermutation-refl, IsPermutation-sym, IsPermutation-cons, IsPermutation-middle, IsPermutation-trans}
use Rattle.std.proofs.lemmas.Bool.Decides.{eqb_tells, leb_tells}
use Rattle.value_ops.specs.declared.places.Diagnostic.{Diagnostic}
use Rattle.algolw_typing.specs.Faults.{is_in_front, inserted, in_order, typed_program, faults_found}
use Rattle.algolw_typing.specs.Laws.{diagnostic_cmp, FaultsInOrder}

-- putting in order only moves faults
placed_moves : (d : Diagnostic) (es : List Diagnostic) → IsPermutation (d ∷ es) (inserted d es)
placed_moves d [] = IsPermutation-refl (d ∷ [])
placed_moves d (e ∷ es) = by (is_in_front d e) (placed_moves d es)
  where
    by : (t : Bool) → IsPermutation (d ∷ es) (inserted d es) → IsPermutation (d ∷ e ∷ es) (elim t [ true ↦ d ∷ e ∷ es | false ↦ e ∷ inserted d es ])
    by true moves = IsPermutation-refl (d ∷ e ∷ es)
    by false moves = IsPermutation-trans (d ∷ e ∷ es) (e ∷ d ∷ es) (e ∷ inserted d es) (IsPermutation-sym (e ∷ d ∷ es) (d ∷ e ∷ es) (IsPermutation-middle (e ∷ []) d es)) (IsPermutation-cons e (d ∷ es) (inserted d es) moves)

in_order_moves : (ds : List Diagnostic) → IsPermutation ds (in_order ds)
in_order_moves [] = IsPermutation-refl []
in_order_moves (d ∷ ds) = IsPermutation-trans (d ∷ ds) (d ∷ in_order ds) (inserted d (in_order ds)) (IsPermutation-cons d ds (in_order ds) (in_order_moves ds)) (placed_moves d (in_order ds))

-- two numbers: which one is less, by each test
record IsLess (a b : ℕ) : Type 0 where
  less : nat_lt a b ≡ true
  not_equal : nat_eq a b ≡ false
  not_more : nat_lt b a ≡ false
  not_equal_back : nat_eq b a ≡ false
  at_most : nat_le a b ≡ true
  not_at_most : nat_le b a ≡ false

record IsEqual (a b : ℕ) : Type 0 where
  not_less : nat_lt a b ≡ false
  equal : nat_eq a b ≡ true
  not_more : nat_lt b a ≡ false
  equal_back : nat_eq b a ≡ true
  at_most : nat_le a b ≡ true

less : (a b : ℕ) → a < b → IsLess a b
less a b h = record { less = grind (arith, leb_tells, eqb_tells); not_equal = grind (arith, leb_tells, eqb_tells); not_more = grind (arith, leb_tells, eqb_tells); not_equal_back = grind (arith, leb_tells, eqb_tells); at_most = grind (arith, leb_tells, eqb_tells); not_at_most = grind (arith, leb_tells, eqb_tells) }

equal : (a b : ℕ) → a ≡ b → IsEqual a b
equal a b h = record { not_less = grind (arith, leb_tells, eqb_tells); equal = grind (arith, leb_tells, eqb_tells); not_more = grind (arith, leb_tells, eqb_tells); equal_back = grind (arith, leb_tells, eqb_tells); at_most = grind (arith, leb_tells, eqb_tells) }

compared : (a b : ℕ) → IsLess a b ⊎ (IsEqual a b ⊎ IsLess b a)
compared a b = elim (leb_tells (suc a) b) [ inl p ↦ inl (less a b p.1) | inr p ↦ elim (eqb_tells a b) [ inl q ↦ inr (inl (equal a b q.1)) | inr q ↦ inr (inr (less b a (omega (arith, p.1, q.1)))) ] ]

-- what the test of two faults tells
Told : Diagnostic → Diagnostic → Type 0
Told d e = ((is_in_front d e ≡ true) × (is_lt (diagnostic_cmp e d) ≡ false)) ⊎ ((is_in_front d e ≡ false) × (is_lt (diagnostic_cmp d e) ≡ false))

front_tells : (d e : Diagnostic) → Told d e
unfolding Told
front_tells d e = elim (compared d.place.card e.place.card) [
  | inl a ↦ inl (rw (a.less) refl, rw (a.not_more, a.not_equal_back) refl)
  | inr (inr a) ↦ inr (rw (a.not_more, a.not_equal_back) refl, rw (a.not_more, a.not_equal_back) refl)
  | inr (inl a) ↦ elim (compared d.place.column e.place.column) [
    | inl b ↦ inl (rw (a.not_less, a.equal, b.less) refl, rw (a.not_more, a.equal_back, b.not_more, b.not_equal_back) refl)
    | inr (inr b) ↦ inr (rw (a.not_less, a.equal, b.not_more, b.not_equal_back) refl, rw (a.not_less, a.equal, b.not_more, b.not_equal_back) refl)
    | inr (inl b) ↦ elim (compared d.number e.number) [
      | inl n ↦ inl (rw (a.not_less, a.equal, b.not_less, b.equal, n.at_most) refl, rw (a.not_more, a.equal_back, b.not_more, b.equal_back, n.not_more, n.not_equal_back) refl)
      | inr (inl n) ↦ inl (rw (a.not_less, a.equal, b.not_less, b.equal, n.at_most) refl, rw (a.not_more, a.equal_back, b.not_more, b.equal_back, n.not_more, n.equal_back) refl)
      | inr (inr n) ↦ inr (rw (a.not_less, a.equal, b.not_less, b.equal, n.not_at_most) refl, rw (a.not_less, a.equal, b.not_less, b.equal, n.not_more, n.not_equal_back) refl)
    ]
  ]
]

-- faults that rise: the first is no later than the next, and the others rise
abbrev Leads : Diagnostic → List Diagnostic → Type 0
Leads d [] = Unit {0}
Leads d (e ∷ es) = is_lt (diagnostic_cmp e d) ≡ false

abbrev Rising : List Diagnostic → Type 0
Rising [] = Unit {0}
Rising (d ∷ ds) = Leads d ds × Rising ds

placed_leads : (d e : Diagnostic) (es : List Diagnostic) → is_lt (diagnostic_cmp d e) ≡ false → Leads e es → Leads e (inserted d es)
placed_leads d e [] h l = h
placed_leads d e (f ∷ es) h l = by (is_in_front d f)
  where
    by : (t : Bool) → Leads e (elim t [ true ↦ d ∷ f ∷ es | false ↦ f ∷ inserted d es ])
    by true = h
    by false = l

placed_in_front : (d e : Diagnostic) (es : List Diagnostic) → is_in_front d e ≡ true → inserted d (e ∷ es) ≡ d ∷ e ∷ es
placed_in_front d e es h = rw (h, inserted) refl

placed_behind : (d e : Diagnostic) (es : List Diagnostic) → is_in_front d e ≡ false → inserted d (e ∷ es) ≡ e ∷ inserted d es
placed_behind d e es h = rw (h, inserted) refl

placed_rises : (d : Diagnostic) (es : List Diagnostic) → Rising es → Rising (inserted d es)
unfolding Told
placed_rises d [] r = (tt, tt)
placed_rises d (e ∷ es) r = elim (front_tells d e) [ inl h ↦ subst Rising (sym (placed_in_front d e es h.0)) (h.1, r) | inr h ↦ subst Rising (sym (placed_behind d e es h.0)) (placed_leads d e es h.1 r.0, placed_rises d es r.1) ]

in_order_rises : (ds : List Diagnostic) → Rising (in_order ds)
in_order_rises [] = tt
in_order_rises (d ∷ ds) = placed_rises d (in_order ds) (in_order_rises ds)

-- what rises is sorted at each index
sorted_at : (ds : List Diagnostic) (k : ℕ) (d : Diagnostic) → Rising ds → suc k < length ds → is_lt (diagnostic_cmp (slice_index_or ds (suc k) d) (slice_index_or ds k d)) ≡ false
sorted_at [] k d r h = absurd (omega (arith, h))
sorted_at (e ∷ []) k d r h = absurd (omega (arith, h))
sorted_at (e ∷ f ∷ es) zero d r h = r.0
sorted_at (e ∷ f ∷ es) (suc k) d r h = sorted_at (f ∷ es) k d r.1 (omega (arith, h))

rising_sorted : (ds : List Diagnostic) → Rising ds → IsSorted diagnostic_cmp ds
rising_sorted ds r k d low h = rw (add-one k) (sorted_at ds k d r (omega (arith, h)))

pub put_in_order : FaultsInOrder
put_in_order = record { same = λ x. in_order_moves (faults_found x (typed_program x)); sorted = λ x. rising_sorted (in_order (faults_found x (typed_program x))) (in_order_rises (faults_found x (typed_program x))) }
