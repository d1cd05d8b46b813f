-- Lines put over others, the last one first.
use Rattle.std.proofs.Common.{◌≡◌, ℕ, ◌+◌, List, [], ◌∷◌, ◌++◌, length, All, Bool, true, refl, sym, ap, ◌∙◌, append_assoc, append-nil, arith}
use Rattle.std.specs.List.{list_all}
use Rattle.std.proofs.lemmas.List.Elements.{All-nil, All-cons, All-head, All-tail}
use Rattle.std.proofs.lemmas.List.Sums.{list_all-from_AllPass}
use Rattle.algolw_meaning.specs.Texts.{line}
use Rattle.algolw_meaning.specs.Running.{lines}
use Rattle.listing_parts.specs.Lines.{text_up}

-- these lines below others: the first of them stands next to those
abbrev pub under : List (List ℕ) → List (List ℕ) → List (List ℕ)
under [] up = up
under (x ∷ xs) up = under xs (x ∷ up)

pub under_both : (xs ys up : List (List ℕ)) → under (xs ++ ys) up ≡ under ys (under xs up)
under_both [] ys up = refl
under_both (x ∷ xs) ys up = under_both xs ys (x ∷ up)

pub under_apart : (xs up over : List (List ℕ)) → under xs (up ++ over) ≡ under xs up ++ over
under_apart [] up over = refl
under_apart (x ∷ xs) up over = under_apart xs (x ∷ up) over

pub under_length : (xs up : List (List ℕ)) → length (under xs up) ≡ length xs + length up
under_length [] up = omega arith
under_length (x ∷ xs) up = omega (arith, under_length xs (x ∷ up))

pub under_all : (P : List ℕ → Type 0) (xs up : List (List ℕ)) → All P xs → All P up → All P (under xs up)
under_all P [] up h k = k
under_all P (x ∷ xs) up h k = under_all P xs (x ∷ up) (All-tail P x xs h) (All-cons P x up (All-head P x xs h) k)

-- put below nothing, they pass the tests that they pass
pub under_passes : (p : List ℕ → Bool) (xs : List (List ℕ)) → All (λ x. p x ≡ true) xs → list_all p (under xs []) ≡ true
under_passes p xs h = list_all-from_AllPass p (under xs []) (under_all (λ x. p x ≡ true) xs [] h (All-nil (λ x. p x ≡ true)))

-- the text of lines that are put below others
pub text_under : (xs up : List (List ℕ)) → text_up (under xs up) ≡ text_up up ++ lines xs
text_under [] up = sym (append-nil (text_up up))
text_under (x ∷ xs) up =
    text_under xs (x ∷ up)
    ∙ ap (λ (t : List ℕ). t ++ lines xs) (append_assoc (text_up up) x (10 ∷ []))
    ∙ append_assoc (text_up up) (line x) (lines xs)

pub lines_both : (xs ys : List (List ℕ)) → lines (xs ++ ys) ≡ lines xs ++ lines ys
lines_both [] ys = refl
lines_both (x ∷ xs) ys = ap (λ (t : List ℕ). line x ++ t) (lines_both xs ys) ∙ sym (append_assoc (line x) (lines xs) (lines ys))
