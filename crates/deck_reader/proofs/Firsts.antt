-- What stands before and behind the first element that passes a test, when one element more comes.
use Rattle.std.proofs.Common.{◌≡◌, ℕ, suc, ◌+◌, ◌<◌, ◌==◌, Bool, true, false, cond, not, ◌||◌, List, [], ◌∷◌, ◌++◌, length, take, drop, refl, ap, ◌∙◌, arith}
use Rattle.std.specs.List.{list_any, position_or_len, before_first, after_first}
use Rattle.std.proofs.lemmas.Bool.Decides.{nat_tests}
use Rattle.std.proofs.lemmas.List.{take-append-le, drop-append-le, length-append}
use Rattle.std.proofs.lemmas.List.Folds.{position_or_len_push, list_any-append}
use Rattle.std.proofs.Math.ListN.{drop_of_length-le}
use Rattle.std.proofs.Math.Seq.{take-length}

pub or_false : (b : Bool) → (b || false) ≡ b
or_false true = refl
or_false false = refl

or_swap : (a b : Bool) → (a || (b || false)) ≡ (a || b)
or_swap true b = refl
or_swap false b = or_false b

pub list_any-push : {X : Type 0} (p : X → Bool) (xs : List X) (c : X) → list_any p (xs ++ c ∷ []) ≡ (list_any p xs || p c)
list_any-push p xs c = list_any-append p xs (c ∷ []) ∙ or_swap (list_any p xs) (p c)

place_found_by : {X : Type 0} (b : Bool) (p : X → Bool) (xs : List X) → (b || list_any p xs) ≡ true → (list_any p xs ≡ true → position_or_len p xs < length xs) → cond (not b) (1 + position_or_len p xs) 0 < suc (length xs)
place_found_by true p xs h rest = omega arith
place_found_by false p xs h rest = let less : position_or_len p xs < length xs = rest h in omega arith

-- the first place that passes, where there is one
place_found : {X : Type 0} (p : X → Bool) (xs : List X) → list_any p xs ≡ true → position_or_len p xs < length xs
place_found p [] h = cc
place_found p (x ∷ xs) h = place_found_by (p x) p xs h (place_found p xs)

place_missed_by : {X : Type 0} (b : Bool) (p : X → Bool) (xs : List X) → (b || list_any p xs) ≡ false → (list_any p xs ≡ false → position_or_len p xs ≡ length xs) → cond (not b) (1 + position_or_len p xs) 0 ≡ suc (length xs)
place_missed_by true p xs h rest = cc
place_missed_by false p xs h rest = let same : position_or_len p xs ≡ length xs = rest h in omega arith

place_missed : {X : Type 0} (p : X → Bool) (xs : List X) → list_any p xs ≡ false → position_or_len p xs ≡ length xs
place_missed p [] h = refl
place_missed p (x ∷ xs) h = place_missed_by (p x) p xs h (place_missed p xs)

-- where none passes
pub before-none : {X : Type 0} (p : X → Bool) (xs : List X) → list_any p xs ≡ false → before_first p xs ≡ xs
before-none p xs h = ap (λ (n : ℕ). take n xs) (place_missed p xs h) ∙ take-length xs

pub after-none : {X : Type 0} (p : X → Bool) (xs : List X) → list_any p xs ≡ false → after_first p xs ≡ []
after-none p xs h = let at : position_or_len p xs ≡ length xs = place_missed p xs h in drop_of_length-le xs (omega arith)

found_place : {X : Type 0} (p : X → Bool) (xs : List X) (c : X) → list_any p xs ≡ true → position_or_len p (xs ++ c ∷ []) ≡ position_or_len p xs
found_place p xs c h =
    let less : position_or_len p xs < length xs = place_found p xs h in
    let differs : (position_or_len p xs == length xs) ≡ false = grind (arith, nat_tests) in
    position_or_len_push p xs c ∙ ap (λ (b : Bool). cond b (length xs + cond (p c) 0 1) (position_or_len p xs)) differs

-- where one has passed, the one more stands behind
pub before-found : {X : Type 0} (p : X → Bool) (xs : List X) (c : X) → list_any p xs ≡ true → before_first p (xs ++ c ∷ []) ≡ before_first p xs
before-found p xs c h =
    let less : position_or_len p xs < length xs = place_found p xs h in
    ap (λ (n : ℕ). take n (xs ++ c ∷ [])) (found_place p xs c h) ∙ take-append-le (position_or_len p xs) xs (c ∷ []) (omega arith)

pub after-found : {X : Type 0} (p : X → Bool) (xs : List X) (c : X) → list_any p xs ≡ true → after_first p (xs ++ c ∷ []) ≡ after_first p xs ++ c ∷ []
after-found p xs c h =
    let less : position_or_len p xs < length xs = place_found p xs h in
    ap (λ (n : ℕ). drop (n + 1) (xs ++ c ∷ [])) (found_place p xs c h) ∙ drop-append-le (position_or_len p xs + 1) xs (c ∷ []) (omega arith)

here_place : {X : Type 0} (p : X → Bool) (xs : List X) (c : X) → list_any p xs ≡ false → p c ≡ true → position_or_len p (xs ++ c ∷ []) ≡ length xs
here_place p xs c h this =
    let all : position_or_len p xs ≡ length xs = place_missed p xs h in
    let same : (position_or_len p xs == length xs) ≡ true = grind (arith, nat_tests) in
    let past : length xs + 0 ≡ length xs = omega arith in
    position_or_len_push p xs c
    ∙ ap (λ (b : Bool). cond b (length xs + cond (p c) 0 1) (position_or_len p xs)) same
    ∙ ap (λ (b : Bool). length xs + cond b 0 1) this ∙ past

-- where the one more is the first that passes
pub before-here : {X : Type 0} (p : X → Bool) (xs : List X) (c : X) → list_any p xs ≡ false → p c ≡ true → before_first p (xs ++ c ∷ []) ≡ xs
before-here p xs c h this =
    ap (λ (n : ℕ). take n (xs ++ c ∷ [])) (here_place p xs c h this) ∙ take-append-le (length xs) xs (c ∷ []) (omega arith) ∙ take-length xs

pub after-here : {X : Type 0} (p : X → Bool) (xs : List X) (c : X) → list_any p xs ≡ false → p c ≡ true → after_first p (xs ++ c ∷ []) ≡ []
after-here p xs c h this =
    let at : position_or_len p (xs ++ c ∷ []) ≡ length xs = here_place p xs c h this in
    drop_of_length-le (xs ++ c ∷ []) (omega (arith, at, length-append xs (c ∷ [])))

-- where none passes, the one more neither
pub before-past : {X : Type 0} (p : X → Bool) (xs : List X) (c : X) → list_any p xs ≡ false → p c ≡ false → before_first p (xs ++ c ∷ []) ≡ xs ++ c ∷ []
before-past p xs c h other = before-none p (xs ++ c ∷ []) (list_any-push p xs c ∙ ap (λ (b : Bool). b || p c) h ∙ other)

pub after-past : {X : Type 0} (p : X → Bool) (xs : List X) (c : X) → list_any p xs ≡ false → p c ≡ false → after_first p (xs ++ c ∷ []) ≡ []
after-past p xs c h other = after-none p (xs ++ c ∷ []) (list_any-push p xs c ∙ ap (λ (b : Bool). b || p c) h ∙ other)
