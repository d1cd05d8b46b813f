-- Tests of lines.
use Rattle.std.proofs.Common.{◌≡◌, ℕ, ◌==◌, ◌&&◌, Bool, true, false, List, [], ◌∷◌, ◌++◌, length, refl, ap, arith, bytes_eq}
use Rattle.std.specs.List.{list_all, prefix_len}
use Rattle.std.proofs.lemmas.Bool.{eqb-true}
use Rattle.listing_parts.specs.Sections.{begins, is_card}

pub and_left : (a b : Bool) → a && b ≡ true → a ≡ true
and_left true b e = refl
and_left false b e = e

pub and_right : (a b : Bool) → a && b ≡ true → b ≡ true
and_right true b e = e
and_right false b e = absurd (cc e)

pub all_append : {X : Type 0} (p : X → Bool) (xs ys : List X) → list_all p xs ≡ true → list_all p ys ≡ true → list_all p (xs ++ ys) ≡ true
all_append p [] ys h k = k
all_append p (x ∷ xs) ys h k = rw (and_left (p x) (list_all p xs) h) (all_append p xs ys (and_right (p x) (list_all p xs) h) k)

-- the front of a list of which all pass, up to one that doesn't
pub front_passes : {X : Type 0} (p : X → Bool) (xs : List X) (y : X) (ys : List X) → list_all p xs ≡ true → p y ≡ false → prefix_len p (xs ++ y ∷ ys) ≡ length xs
front_passes p [] y ys h n = rw n refl
front_passes p (x ∷ xs) y ys h n =
    let rest = front_passes p xs y ys (and_right (p x) (list_all p xs) h) n in
    rw (and_left (p x) (list_all p xs) h) (omega (arith, rest))

pub all_pass : {X : Type 0} (p : X → Bool) (xs : List X) → list_all p xs ≡ true → prefix_len p xs ≡ length xs
all_pass p [] h = refl
all_pass p (x ∷ xs) h =
    let rest = all_pass p xs (and_right (p x) (list_all p xs) h) in
    rw (and_left (p x) (list_all p xs) h) (omega (arith, rest))

-- ---- first bytes

-- a line that begins with a byte begins with no other
pub begins_alone : (a b : ℕ) (line : List ℕ) → begins a line ≡ true → (a == b) ≡ false → begins b line ≡ false
begins_alone a b [] h n = refl
begins_alone a b (c ∷ line) h n = let e : c ≡ a = eqb-true c a h in rw e n

pub begins_no_card : (a : ℕ) (line : List ℕ) → begins a line ≡ true → is_card (a ∷ []) ≡ false → is_card line ≡ false
begins_no_card a [] h n = refl
begins_no_card a (c ∷ line) h n = let e : c ≡ a = eqb-true c a h in rw e n

-- a line that doesn't begin as a text isn't it
pub other_text : (b : ℕ) (line text : List ℕ) → begins b line ≡ false → bytes_eq line (b ∷ text) ≡ false
other_text b [] text h = refl
other_text b (c ∷ line) text h = rw h refl

by_byte : (b c : ℕ) (same : Bool) → (c == b) ≡ same → is_card (c ∷ []) ≡ true → is_card (b ∷ []) ≡ false → (c == b) ≡ false
by_byte b c false is h n = is
by_byte b c true is h n = let e : c ≡ b = eqb-true c b is in absurd (cc (h, n, ap (λ (x : ℕ). is_card (x ∷ [])) e))

-- a card begins with no byte that is neither a blank nor a digit
pub card_begins : (b : ℕ) (line : List ℕ) → is_card line ≡ true → is_card (b ∷ []) ≡ false → begins b line ≡ false
card_begins b [] h n = refl
card_begins b (c ∷ line) h n = by_byte b c (c == b) refl h n
