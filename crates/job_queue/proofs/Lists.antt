-- Sums over lists of which one element is changed or added, and lists of tickets whose numbers rise.
use Rattle.std.proofs.Common.{◌≡◌, ◌≢◌, ℕ, zero, suc, ◌<◌, ◌≤◌, ◌+◌, ◌*◌, ◌^◌, List, [], ◌∷◌, ◌++◌, set, sum_by, All, sym, refl, ap, subst, ⊎_elim, arith}
use Rattle.std.proofs.lemmas.List.Sums.{sum_by-cons}
use Rattle.std.proofs.lemmas.List.Elements.{All-head, All-tail}
use mathlib.Core.Option.{some, some-injective, some-ne-none}
use lib.ListN.{get_elem?}
use Rattle.crossbeam_queue.proofs.Lists.{at_set, at_snoc}
use Rattle.job_queue.specs.declared.ticket.Ticket.{Ticket}
use Rattle.job_queue.specs.Rule.{amount_of, Rises}

module _ {X : Type 0} (f : X → ℕ) where
  -- a sum after the change of one element
  pub sum_set : (xs : List X) (i : ℕ) (x y : X) → get_elem? xs i ≡ some x → sum_by f (set xs i y) + f x ≡ sum_by f xs + f y
  sum_set [] i x y e = absurd (some-ne-none x (sym e))
  sum_set (z ∷ xs) zero x y e = let s = ap f (some-injective z x e) in let a = sum_by-cons f y xs in let b = sum_by-cons f z xs in omega (arith, s, a, b)
  sum_set (z ∷ xs) (suc i) x y e = let s = sum_set xs i x y e in let a = sum_by-cons f z (set xs i y) in let b = sum_by-cons f z xs in omega (arith, s, a, b)

  -- a sum of less
  pub sum_less : (g : X → ℕ) → ((x : X) → f x ≤ g x) → (xs : List X) → sum_by f xs ≤ sum_by g xs
  sum_less g less [] = omega arith
  sum_less g less (z ∷ xs) = let s = sum_less g less xs in let l = less z in let a = sum_by-cons f z xs in let b = sum_by-cons g z xs in omega (arith, s, l, a, b)

  -- each element is in it
  pub in_sum : (xs : List X) (i : ℕ) (x : X) → get_elem? xs i ≡ some x → f x ≤ sum_by f xs
  in_sum [] i x e = absurd (some-ne-none x (sym e))
  in_sum (z ∷ xs) zero x e = let s = ap f (some-injective z x e) in let b = sum_by-cons f z xs in omega (arith, s, b)
  in_sum (z ∷ xs) (suc i) x e = let s = in_sum xs i x e in let b = sum_by-cons f z xs in omega (arith, s, b)

  pub two_in_sum : (xs : List X) (i j : ℕ) (x y : X) → j ≢ i → get_elem? xs i ≡ some x → get_elem? xs j ≡ some y → f x + f y ≤ sum_by f xs
  two_in_sum [] i j x y apart e d = absurd (some-ne-none x (sym e))
  two_in_sum (z ∷ xs) zero zero x y apart e d = absurd (apart refl)
  two_in_sum (z ∷ xs) zero (suc j) x y apart e d = let s = ap f (some-injective z x e) in let t = in_sum xs j y d in let b = sum_by-cons f z xs in omega (arith, s, t, b)
  two_in_sum (z ∷ xs) (suc i) zero x y apart e d = let s = ap f (some-injective z y d) in let t = in_sum xs i x e in let b = sum_by-cons f z xs in omega (arith, s, t, b)
  two_in_sum (z ∷ xs) (suc i) (suc j) x y apart e d = let t = two_in_sum xs i j x y (λ p. apart (ap suc p)) e d in let b = sum_by-cons f z xs in omega (arith, t, b)

  -- a sum of which each part is 0, and one of which each part but one is
  pub sum_none : (xs : List X) → ((j : ℕ) (y : X) → get_elem? xs j ≡ some y → f y ≡ 0) → sum_by f xs ≡ 0
  sum_none [] none = refl
  sum_none (z ∷ xs) none = let s = none 0 z refl in let t = sum_none xs (λ j y e. none (suc j) y e) in let b = sum_by-cons f z xs in omega (arith, s, t, b)

  pub sum_one : (xs : List X) (i : ℕ) (x : X) → get_elem? xs i ≡ some x → ((j : ℕ) (y : X) → j ≢ i → get_elem? xs j ≡ some y → f y ≡ 0) → sum_by f xs ≡ f x
  sum_one [] i x e none = absurd (some-ne-none x (sym e))
  sum_one (z ∷ xs) zero x e none =
      let s = ap f (some-injective z x e) in
      let t = sum_none xs (λ j y d. none (suc j) y (λ p. absurd (omega (arith, p))) d) in
      let b = sum_by-cons f z xs in
      omega (arith, s, t, b)
  sum_one (z ∷ xs) (suc i) x e none =
      let s = none 0 z (λ p. absurd (omega (arith, p))) refl in
      let t = sum_one xs i x e (λ j y apart d. none (suc j) y (λ p. apart (omega (arith, p))) d) in
      let b = sum_by-cons f z xs in
      omega (arith, s, t, b)

module _ {X : Type 0} (F : X → Type 0) where
  -- F holds of each element
  abbrev pub Each : List X → Type 0
  Each xs = (i : ℕ) (x : X) → get_elem? xs i ≡ some x → F x

  pub each_set : (xs : List X) (i : ℕ) (x : X) → F x → ((j : ℕ) (y : X) → j ≢ i → get_elem? xs j ≡ some y → F y) → Each (set xs i x)
  each_set xs i x mine others j y e =
      ⊎_elim (λ (p : (j ≡ i) × (x ≡ y)). subst F p.1 mine) (λ (p : (j ≢ i) × (get_elem? xs j ≡ some y)). others j y p.0 p.1) (at_set xs i j x y e)

  pub each_push : (xs : List X) (x : X) → F x → Each xs → Each (xs ++ x ∷ [])
  each_push xs x mine others j y e = ⊎_elim (λ p. others j y p) (λ (p : x ≡ y). subst F p mine) (at_snoc xs x y j e)

-- the first number above all of a rising list
abbrev pub next_number : ℕ → List Ticket → ℕ
next_number n [] = n
next_number n (x ∷ xs) = next_number (suc x.number) xs

pub rises_push : (n : ℕ) (ts : List Ticket) (x : Ticket) → Rises n ts → next_number n ts ≤ x.number → Rises n (ts ++ x ∷ [])
rises_push n [] x r e = (e, tt)
rises_push n (t ∷ ts) x r e = (r.0, rises_push (suc t.number) ts x r.1 e)

pub next_above : (n m : ℕ) (ts : List Ticket) → n ≤ m → All (λ t. t.number < m) ts → next_number n ts ≤ m
next_above n m [] e all = e
next_above n m (t ∷ ts) e all = next_above (suc t.number) m ts (let s = All-head (λ u. u.number < m) t ts all in omega (arith, s)) (All-tail (λ u. u.number < m) t ts all)

next_fits : (n : ℕ) (ts : List Ticket) → n ≤ 2 ^ 32 → next_number n ts ≤ 2 ^ 32
next_fits n [] e = e
next_fits n (t ∷ ts) e = next_fits (suc t.number) ts (let s = t.numbered in omega (arith, s))

amounts_within : (n : ℕ) (ts : List Ticket) → Rises n ts → amount_of ts + 999999999 * n ≤ 999999999 * next_number n ts
amounts_within n [] r = omega arith
amounts_within n (t ∷ ts) r =
    let e = amounts_within (suc t.number) ts r.1 in
    let s = r.0 in
    let f = t.fits in
    let c = sum_by-cons (λ (u : Ticket). u.amount) t ts in
    omega (arith, e, s, f, c)

-- so all amounts together are small
pub amounts_fit : (ts : List Ticket) → Rises 0 ts → amount_of ts < 2 ^ 62
amounts_fit ts r = let e = amounts_within 0 ts r in let s = next_fits 0 ts (omega arith) in omega (arith, e, s)

pub next_from : (n : ℕ) (ts : List Ticket) → Rises n ts → n ≤ next_number n ts
next_from n [] r = omega arith
next_from n (t ∷ ts) r = let e = next_from (suc t.number) ts r.1 in let s = r.0 in omega (arith, e, s)

-- of two rising lists in a row each rises
pub rises_front : (n : ℕ) (a b : List Ticket) → Rises n (a ++ b) → Rises n a
rises_front n [] b r = tt
rises_front n (t ∷ a) b r = (r.0, rises_front (suc t.number) a b r.1)

pub rises_rest : (n : ℕ) (a b : List Ticket) → Rises n (a ++ b) → Rises (next_number n a) b
rises_rest n [] b r = r
rises_rest n (t ∷ a) b r = rises_rest (suc t.number) a b r.1

-- what weighs nothing below n is nothing in a list whose numbers are below n
pub weighs_nothing : (weight : Ticket → ℕ) (n m : ℕ) (ts : List Ticket) → Rises n ts → next_number n ts ≤ m → ((t : Ticket) → t.number < m → weight t ≡ 0) → sum_by weight ts ≡ 0
weighs_nothing weight n m [] r e low = refl
weighs_nothing weight n m (t ∷ ts) r e low =
    let s = low t (let q = next_from (suc t.number) ts r.1 in omega (arith, q, e)) in
    let z = weighs_nothing weight (suc t.number) m ts r.1 e low in
    let c = sum_by-cons weight t ts in
    omega (arith, s, z, c)

pub rises_all : (n : ℕ) (ts : List Ticket) → Rises n ts → All (λ t. n ≤ t.number) ts
rises_all n [] r k d lt = absurd (omega (arith, lt))
rises_all n (t ∷ ts) r zero d lt = r.0
rises_all n (t ∷ ts) r (suc k) d lt = let s = rises_all (suc t.number) ts r.1 k d (omega (arith, lt)) in let q = r.0 in omega (arith, s, q)
