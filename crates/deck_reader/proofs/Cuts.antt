-- The pieces of an input that grows at its end.
use Rattle.std.proofs.Common.{◌≡◌, ℕ, ◌+◌, ◌<◌, ◌≤◌, ◌==◌, Bool, true, false, cond, ◌||◌, not, nat_lt, List, [], ◌∷◌, ◌++◌, length, take, drop, get_or, Some, None, refl, ap, sym, ◌∙◌, arith, append_assoc, append-nil, take_all, one-add}
use Rattle.std.specs.List.{slice_split, onto_first, list_any, flat_map, position_or_len, before_first}
use Rattle.std.specs.Option.{option_map}
use Rattle.std.proofs.lemmas.Bool.Decides.{nat_tests}
use Rattle.std.proofs.lemmas.Bool.{eqb-true}
use Rattle.std.proofs.lemmas.List.Splits.{slice_split-cons_yes, slice_split-cons_no, length-slice_split}
use Rattle.std.proofs.lemmas.List.Sums.{split_at_first, passes_at_first}
use Rattle.deck_reader.specs.Cards.{parts, all_but_last, last_of, ended, under_way}
use Rattle.deck_reader.specs.Forms.{parted}

-- the first of these pieces stands behind the piece under way
abbrev onto_last : List ℕ → List (List ℕ) → List (List ℕ)
onto_last last [] = []
onto_last last (piece ∷ pieces) = (last ++ piece) ∷ pieces

onto_nothing : (pieces : List (List ℕ)) → onto_last [] pieces ≡ pieces
onto_nothing [] = refl
onto_nothing (piece ∷ pieces) = refl

some_parts : (t : ℕ) (bytes : List ℕ) → 0 < length (slice_split (λ b. b == t) bytes)
some_parts t bytes = omega (arith, length-slice_split (λ b. b == t) bytes)

more_behind_cut : (before behind : List (List ℕ)) → 0 < length before
    → [] ∷ (all_but_last before ++ onto_last (last_of before) behind) ≡ all_but_last ([] ∷ before) ++ onto_last (last_of ([] ∷ before)) behind
more_behind_cut [] behind some = absurd (omega arith)
more_behind_cut (piece ∷ before) behind some = refl

more_behind_byte : (x : ℕ) (before behind : List (List ℕ)) → 0 < length before → 0 < length behind
    → onto_first x (all_but_last before ++ onto_last (last_of before) behind) ≡ all_but_last (onto_first x before) ++ onto_last (last_of (onto_first x before)) behind
more_behind_byte x [] behind some more = absurd (omega arith)
more_behind_byte x (piece ∷ before) [] some more = absurd (omega arith)
more_behind_byte x (piece ∷ []) (next ∷ behind) some more = refl
more_behind_byte x (piece ∷ other ∷ before) (next ∷ behind) some more = refl

abbrev Together : ℕ → List ℕ → List ℕ → Type 0
Together t bytes more =
    slice_split (λ b. b == t) (bytes ++ more)
    ≡ all_but_last (slice_split (λ b. b == t) bytes) ++ onto_last (last_of (slice_split (λ b. b == t) bytes)) (slice_split (λ b. b == t) more)

together_at : (v : Bool) (t x : ℕ) (xs more : List ℕ) → (x == t) ≡ v → Together t xs more → Together t (x ∷ xs) more
together_at true t x xs more is rest =
    slice_split-cons_yes (λ b. b == t) x (xs ++ more) is
    ∙ ap (λ (ps : List (List ℕ)). [] ∷ ps) rest
    ∙ more_behind_cut (slice_split (λ b. b == t) xs) (slice_split (λ b. b == t) more) (some_parts t xs)
    ∙ ap (λ ps. all_but_last ps ++ onto_last (last_of ps) (slice_split (λ b. b == t) more)) (sym (slice_split-cons_yes (λ b. b == t) x xs is))
together_at false t x xs more is rest =
    slice_split-cons_no (λ b. b == t) x (xs ++ more) is
    ∙ ap (λ (ps : List (List ℕ)). onto_first x ps) rest
    ∙ more_behind_byte x (slice_split (λ b. b == t) xs) (slice_split (λ b. b == t) more) (some_parts t xs) (some_parts t more)
    ∙ ap (λ ps. all_but_last ps ++ onto_last (last_of ps) (slice_split (λ b. b == t) more)) (sym (slice_split-cons_no (λ b. b == t) x xs is))

-- the parts of two lists that stand one behind the other
together : (t : ℕ) (bytes more : List ℕ) → Together t bytes more
together t [] more = sym (onto_nothing (slice_split (λ b. b == t) more))
together t (x ∷ xs) more = together_at (x == t) t x xs more refl (together t xs more)

ended-push : (pieces : List (List ℕ)) (piece : List ℕ) → all_but_last (pieces ++ piece ∷ []) ≡ pieces
ended-push [] piece = refl
ended-push (first ∷ []) piece = refl
ended-push (first ∷ second ∷ pieces) piece = ap (λ (ps : List (List ℕ)). first ∷ ps) (ended-push (second ∷ pieces) piece)

last-push : (pieces : List (List ℕ)) (piece : List ℕ) → last_of (pieces ++ piece ∷ []) ≡ piece
last-push [] piece = refl
last-push (first ∷ []) piece = refl
last-push (first ∷ second ∷ pieces) piece = last-push (second ∷ pieces) piece

one_part_at : (v : Bool) (t x : ℕ) (xs : List ℕ) → (x == t) ≡ v → (v || list_any (λ b. b == t) xs) ≡ false
    → (list_any (λ b. b == t) xs ≡ false → slice_split (λ b. b == t) xs ≡ xs ∷ []) → slice_split (λ b. b == t) (x ∷ xs) ≡ (x ∷ xs) ∷ []
one_part_at true t x xs is none rest = cc
one_part_at false t x xs is none rest = slice_split-cons_no (λ b. b == t) x xs is ∙ ap (onto_first x) (rest none)

-- where the byte doesn't stand, there is one part
pub one_part : (t : ℕ) (xs : List ℕ) → list_any (λ b. b == t) xs ≡ false → slice_split (λ b. b == t) xs ≡ xs ∷ []
one_part t [] none = refl
one_part t (x ∷ xs) none = one_part_at (x == t) t x xs refl none (one_part t xs)

parts-more : (bytes front : List ℕ) → list_any (λ b. b == 10) front ≡ false → parts (bytes ++ front) ≡ ended bytes ++ (under_way bytes ++ front) ∷ []
parts-more bytes front none =
    together 10 bytes front ∙ ap (λ ps. ended bytes ++ onto_last (under_way bytes) ps) (one_part 10 front none)

-- bytes with no line feed end no piece
pub ended-more : (bytes front : List ℕ) → list_any (λ b. b == 10) front ≡ false → ended (bytes ++ front) ≡ ended bytes
ended-more bytes front none = ap all_but_last (parts-more bytes front none) ∙ ended-push (ended bytes) (under_way bytes ++ front)

-- bytes with no line feed stand behind the piece under way
pub under_way-more : (bytes front : List ℕ) → list_any (λ b. b == 10) front ≡ false → under_way (bytes ++ front) ≡ under_way bytes ++ front
under_way-more bytes front none = ap last_of (parts-more bytes front none) ∙ last-push (ended bytes) (under_way bytes ++ front)

parts-feed : (bytes : List ℕ) → parts (bytes ++ 10 ∷ []) ≡ (ended bytes ++ under_way bytes ∷ []) ++ [] ∷ []
parts-feed bytes =
    together 10 bytes (10 ∷ [])
    ∙ ap (λ last. ended bytes ++ last ∷ [] ∷ []) (append-nil (under_way bytes))
    ∙ sym (append_assoc (ended bytes) (under_way bytes ∷ []) ([] ∷ []))

-- a line feed ends the piece under way
pub ended-feed : (bytes front : List ℕ) → list_any (λ b. b == 10) front ≡ false → ended (bytes ++ front ++ 10 ∷ []) ≡ ended bytes ++ (under_way bytes ++ front) ∷ []
ended-feed bytes front none =
    ap all_but_last (parts-feed (bytes ++ front))
    ∙ ended-push (ended (bytes ++ front) ++ under_way (bytes ++ front) ∷ []) []
    ∙ ap (λ pieces. pieces ++ under_way (bytes ++ front) ∷ []) (ended-more bytes front none)
    ∙ ap (λ piece. ended bytes ++ piece ∷ []) (under_way-more bytes front none)

-- behind a line feed nothing is under way
pub under_way-feed : (bytes front : List ℕ) → under_way (bytes ++ front ++ 10 ∷ []) ≡ []
under_way-feed bytes front =
    ap last_of (parts-feed (bytes ++ front)) ∙ last-push (ended (bytes ++ front) ++ under_way (bytes ++ front) ∷ []) []

abbrev in_one : ℕ → List (List ℕ) → List ℕ
in_one t pieces = flat_map (λ piece. piece ++ t ∷ []) (all_but_last pieces) ++ last_of pieces

in_one-cut : (t : ℕ) (pieces : List (List ℕ)) → 0 < length pieces → in_one t ([] ∷ pieces) ≡ t ∷ in_one t pieces
in_one-cut t [] some = absurd (omega arith)
in_one-cut t (piece ∷ pieces) some = refl

in_one-byte : (t x : ℕ) (pieces : List (List ℕ)) → in_one t (onto_first x pieces) ≡ x ∷ in_one t pieces
in_one-byte t x [] = refl
in_one-byte t x (piece ∷ []) = refl
in_one-byte t x (piece ∷ next ∷ pieces) = refl

in_one-parts_at : (v : Bool) (t x : ℕ) (xs : List ℕ) → (x == t) ≡ v → in_one t (slice_split (λ b. b == t) xs) ≡ xs → in_one t (slice_split (λ b. b == t) (x ∷ xs)) ≡ x ∷ xs
in_one-parts_at true t x xs is rest =
    ap (in_one t) (slice_split-cons_yes (λ b. b == t) x xs is)
    ∙ in_one-cut t (slice_split (λ b. b == t) xs) (some_parts t xs)
    ∙ ap (λ ys. t ∷ ys) rest
    ∙ ap (λ y. y ∷ xs) (sym (eqb-true x t is))
in_one-parts_at false t x xs is rest =
    ap (in_one t) (slice_split-cons_no (λ b. b == t) x xs is)
    ∙ in_one-byte t x (slice_split (λ b. b == t) xs)
    ∙ ap (λ ys. x ∷ ys) rest

in_one-parts : (t : ℕ) (bytes : List ℕ) → in_one t (slice_split (λ b. b == t) bytes) ≡ bytes
in_one-parts t [] = refl
in_one-parts t (x ∷ xs) = in_one-parts_at (x == t) t x xs refl (in_one-parts t xs)

-- the pieces, put together with line feeds, are the input again
pub joined : (bytes : List ℕ) → flat_map (λ piece. piece ++ 10 ∷ []) (ended bytes) ++ under_way bytes ≡ bytes
joined bytes = in_one-parts 10 bytes

pub found_at : {A : Type 0} (b : Bool) (m n : ℕ) (f : ℕ → A) (p : A) → nat_lt m n ≡ b → option_map f (cond b (Some m) None) ≡ Some p → (m < n) × (f m ≡ p)
found_at true m n f p is h = (grind (arith, nat_tests), cc)
found_at false m n f p is h = cc

missed_at : {A : Type 0} (b : Bool) (m n : ℕ) (f : ℕ → A) → nat_lt m n ≡ b → option_map f (cond b (Some m) None) ≡ None → n ≤ m
missed_at true m n f is h = cc
missed_at false m n f is h = grind (arith, nat_tests)

none_before_at : (v : Bool) (t x n : ℕ) (xs : List ℕ) → (x == t) ≡ v → list_any (λ b. b == t) (take n xs) ≡ false
    → list_any (λ b. b == t) (take (cond (not v) (1 + n) 0) (x ∷ xs)) ≡ false
none_before_at true t x n xs is rest = refl
none_before_at false t x n xs is rest =
    ap (λ k. list_any (λ b. b == t) (take k (x ∷ xs))) (one-add n) ∙ ap (λ v. v || list_any (λ b. b == t) (take n xs)) is ∙ rest

none_before : (t : ℕ) (xs : List ℕ) → list_any (λ b. b == t) (before_first (λ b. b == t) xs) ≡ false
none_before t [] = refl
none_before t (x ∷ xs) = none_before_at (x == t) t x (position_or_len (λ b. b == t) xs) xs refl (none_before t xs)

-- what stands before and behind the first of these bytes
pub parted-is : (t : ℕ) (bytes front behind : List ℕ) → parted t bytes ≡ Some (front, behind) → (bytes ≡ front ++ t ∷ behind) × (list_any (λ b. b == t) front ≡ false)
parted-is t bytes front behind h =
    let at = position_or_len (λ b. b == t) bytes in
    let found = found_at (nat_lt at (length bytes)) at (length bytes) (λ k. (take k bytes, drop (k + 1) bytes)) (front, behind) refl h in (
      split_at_first (λ b. b == t) bytes 0 found.0
          ∙ ap (λ b. take at bytes ++ b ∷ drop (at + 1) bytes) (eqb-true (get_or bytes at 0) t (passes_at_first (λ b. b == t) bytes 0 found.0))
          ∙ ap (λ (p : List ℕ × List ℕ). p.0 ++ t ∷ p.1) found.1,
      ap (λ (p : List ℕ × List ℕ). list_any (λ b. b == t) p.0) (sym found.1) ∙ none_before t bytes,
    )

-- where the byte isn't found, it doesn't stand
pub parted-none : (t : ℕ) (bytes : List ℕ) → parted t bytes ≡ None → list_any (λ b. b == t) bytes ≡ false
parted-none t bytes h =
    let at = position_or_len (λ b. b == t) bytes in
    let missed = missed_at (nat_lt at (length bytes)) at (length bytes) (λ k. (take k bytes, drop (k + 1) bytes)) refl h in
    ap (list_any (λ b. b == t)) (sym (take_all at bytes missed)) ∙ none_before t bytes

behind_all : (pieces : List (List ℕ)) (piece : List ℕ) (more : List (List ℕ)) → all_but_last (pieces ++ piece ∷ more) ≡ pieces ++ all_but_last (piece ∷ more)
behind_all [] piece more = refl
behind_all (first ∷ []) piece more = refl
behind_all (first ∷ second ∷ pieces) piece more = ap (λ (ps : List (List ℕ)). first ∷ ps) (behind_all (second ∷ pieces) piece more)

prefix_by : (bytes more : List ℕ) (behind : List (List ℕ)) → parts more ≡ behind → 0 < length behind → (others : List (List ℕ)) × (ended (bytes ++ more) ≡ ended bytes ++ others)
prefix_by bytes more [] is some = absurd (omega arith)
prefix_by bytes more (piece ∷ pieces) is some = (
  all_but_last ((under_way bytes ++ piece) ∷ pieces),
  ap all_but_last (together 10 bytes more ∙ ap (λ (ps : List (List ℕ)). ended bytes ++ onto_last (under_way bytes) ps) is)
      ∙ behind_all (ended bytes) (under_way bytes ++ piece) pieces,
)

-- pieces that have ended stay as they are
pub ended-prefix : (bytes more : List ℕ) → (others : List (List ℕ)) × (ended (bytes ++ more) ≡ ended bytes ++ others)
ended-prefix bytes more = prefix_by bytes more (parts more) refl (some_parts 10 more)
