-- Sets of kinds of tokens.
use Rattle.std.proofs.Common.{◌≡◌, ◌==◌, ℕ, Bool, true, false, List, [], ◌∷◌, ◌++◌, refl, inl, inr, ◌||◌, ◌&&◌, ◌⊎◌}
use Rattle.std.proofs.lemmas.Bool.{eqb-true}
use Rattle.std.specs.Prelude.{not}
use Rattle.algolw_grammar.specs.Kinds.{has}

abbrev pub when : Bool → List ℕ → List ℕ
when true xs = xs
when false xs = []

pub or_left : (a b : Bool) → a ≡ true → (a || b) ≡ true
or_left a b e = rw e refl

pub or_right : (a b : Bool) → b ≡ true → (a || b) ≡ true
or_right true b e = refl
or_right false b e = e

pub or_split : (a b : Bool) → (a || b) ≡ true → (a ≡ true) ⊎ (b ≡ true)
or_split true b e = inl refl
or_split false b e = inr e

pub or_none : (a b : Bool) → (a || b) ≡ false → (a ≡ false) × (b ≡ false)
or_none true b e = cc
or_none false b e = (refl, e)

pub and_split : (a b : Bool) → (a && b) ≡ true → (a ≡ true) × (b ≡ true)
and_split true b e = (refl, e)
and_split false b e = cc

pub has-left : (k : ℕ) (xs ys : List ℕ) → has k xs ≡ true → has k (xs ++ ys) ≡ true
has-left k [] ys e = cc
has-left k (x ∷ xs) ys e = go (k == x) e (has-left k xs ys)
  where
    go : (b : Bool) → (b || has k xs) ≡ true → (has k xs ≡ true → has k (xs ++ ys) ≡ true) → (b || has k (xs ++ ys)) ≡ true
    go true e r = refl
    go false e r = r e

pub has-right : (k : ℕ) (xs ys : List ℕ) → has k ys ≡ true → has k (xs ++ ys) ≡ true
has-right k [] ys e = e
has-right k (x ∷ xs) ys e = or_right (k == x) _ (has-right k xs ys e)

pub has_none : (k : ℕ) (xs ys : List ℕ) → has k (xs ++ ys) ≡ false → (has k xs ≡ false) × (has k ys ≡ false)
has_none k xs ys e = (go (has k xs) refl, go2 (has k ys) refl)
  where
    go : (b : Bool) → has k xs ≡ b → b ≡ false
    go true h = let j : has k (xs ++ ys) ≡ true = has-left k xs ys h in cc
    go false h = refl

    go2 : (b : Bool) → has k ys ≡ b → b ≡ false
    go2 true h = let j : has k (xs ++ ys) ≡ true = has-right k xs ys h in cc
    go2 false h = refl

-- no kind is in both
abbrev pub apart : List ℕ → List ℕ → Bool
apart [] ys = true
apart (x ∷ xs) ys = not (has x ys) && apart xs ys

-- each of the first is one of the second
abbrev pub within : List ℕ → List ℕ → Bool
within [] ys = true
within (x ∷ xs) ys = has x ys && within xs ys

pub eq_of : (k x : ℕ) → (k == x) ≡ true → k ≡ x
eq_of k x e = eqb-true k x e

pub within_has : (k : ℕ) (xs ys : List ℕ) → within xs ys ≡ true → has k xs ≡ true → has k ys ≡ true
within_has k [] ys w e = cc
within_has k (x ∷ xs) ys w e = go (or_split (k == x) (has k xs) e) (within_has k xs ys (and_split (has x ys) _ w).1)
  where
    go : ((k == x) ≡ true) ⊎ (has k xs ≡ true) → (has k xs ≡ true → has k ys ≡ true) → has k ys ≡ true
    go (inl h) r = rw (eq_of k x h) ((and_split (has x ys) _ w).0)
    go (inr h) r = r h

not_true : (b : Bool) → not b ≡ true → b ≡ false
not_true true e = cc
not_true false e = refl

pub apart_has : (k : ℕ) (xs ys : List ℕ) → apart xs ys ≡ true → has k xs ≡ true → has k ys ≡ false
apart_has k [] ys w e = cc
apart_has k (x ∷ xs) ys w e = go (or_split (k == x) (has k xs) e) (apart_has k xs ys (and_split (not (has x ys)) _ w).1)
  where
    go : ((k == x) ≡ true) ⊎ (has k xs ≡ true) → (has k xs ≡ true → has k ys ≡ false) → has k ys ≡ false
    go (inl h) r = rw (eq_of k x h) (not_true (has x ys) (and_split (not (has x ys)) _ w).0)
    go (inr h) r = r h
