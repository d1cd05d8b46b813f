-- What stands before the first that passes a test, and what holds of each card.
use Rattle.std.proofs.Common.{◌≡◌, ℕ, suc, zero, ◌+◌, ◌||◌, not, Bool, true, false, cond, List, [], ◌∷◌, ◌++◌, take, refl, ap, ◌∙◌, arith}
use Rattle.std.specs.List.{AllByRecursion as AllOf, list_any, before_first, position_or_len}

pub neither_of : (a b : Bool) → (a || b) ≡ false → (a ≡ false) × (b ≡ false)
neither_of true b h = cc
neither_of false b h = (refl, h)

-- ---- what stands before the first that passes

clear_by : {X : Type 0} (b : Bool) (p : X → Bool) (x : X) (xs : List X) → p x ≡ b → list_any p (before_first p xs) ≡ false → list_any p (take (cond (not b) (1 + position_or_len p xs) 0) (x ∷ xs)) ≡ false
clear_by true p x xs is rest = refl
clear_by false p x xs is rest =
    let e : 1 + position_or_len p xs ≡ suc (position_or_len p xs) = omega arith in
    ap (λ (n : ℕ). list_any p (take n (x ∷ xs))) e ∙ ap (λ (b : Bool). b || list_any p (before_first p xs)) is ∙ rest

-- none of them passes
pub before-clear : {X : Type 0} (p : X → Bool) (xs : List X) → list_any p (before_first p xs) ≡ false
before-clear p [] = refl
before-clear p (x ∷ xs) = clear_by (p x) p x xs refl (before-clear p xs)

pub any_take : {X : Type 0} (p : X → Bool) (n : ℕ) (xs : List X) → list_any p xs ≡ false → list_any p (take n xs) ≡ false
any_take p zero xs h = refl
any_take p (suc n) [] h = refl
any_take p (suc n) (x ∷ xs) h =
    let parts = neither_of (p x) (list_any p xs) h in
    ap (λ (b : Bool). b || list_any p (take n xs)) parts.0 ∙ any_take p n xs parts.1

-- behind those of which none passes, the first is found in the rest
pub before-past_all : {X : Type 0} (p : X → Bool) (xs ys : List X) → list_any p xs ≡ false → before_first p (xs ++ ys) ≡ xs ++ before_first p ys
before-past_all p [] ys h = refl
before-past_all p (x ∷ xs) ys h =
    let parts = neither_of (p x) (list_any p xs) h in
    let e : 1 + position_or_len p (xs ++ ys) ≡ suc (position_or_len p (xs ++ ys)) = omega arith in
    ap (λ (b : Bool). take (cond (not b) (1 + position_or_len p (xs ++ ys)) 0) (x ∷ xs ++ ys)) parts.0
    ∙ ap (λ (n : ℕ). take n (x ∷ xs ++ ys)) e
    ∙ ap (λ (l : List _). x ∷ l) (before-past_all p xs ys parts.1)

pub before-at_once : {X : Type 0} (p : X → Bool) (x : X) (xs : List X) → p x ≡ true → before_first p (x ∷ xs) ≡ []
before-at_once p x xs h = ap (λ (b : Bool). take (cond (not b) (1 + position_or_len p xs) 0) (x ∷ xs)) h

-- ---- what holds of each card

pub all_take : (P : List ℕ → Type 0) (n : ℕ) (cs : List (List ℕ)) → AllOf P cs → AllOf P (take n cs)
all_take P zero cs h = tt
all_take P (suc n) [] h = tt
all_take P (suc n) (c ∷ cs) h = (h.0, all_take P n cs h.1)

pub all_append : (P : List ℕ → Type 0) (cs ds : List (List ℕ)) → AllOf P cs → AllOf P ds → AllOf P (cs ++ ds)
all_append P [] ds h k = k
all_append P (c ∷ cs) ds h k = (h.0, all_append P cs ds h.1 k)
