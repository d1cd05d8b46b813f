-- No line feed stands in a line of an input.
use Rattle.std.proofs.Common.{◌≡◌, ℕ, ◌==◌, ◌||◌, Bool, true, false, List, [], ◌∷◌, ◌++◌, refl, sym, subst, ap, ◌∙◌}
use Rattle.std.specs.List.{AllByRecursion as AllOf, list_any, onto_first, slice_split}
use Rattle.std.proofs.lemmas.List.Splits.{slice_split-cons_no, slice_split-cons_yes}
use Rattle.deck_reader.specs.Cards.{all_but_last, ended, last_of, parts, pieces, under_way, unless_empty}
use Rattle.night_shares.specs.Reading.{IsInLine}

pub all_append : {X : Type 0} (P : X → Type 0) (xs ys : List X) → AllOf P xs → AllOf P ys → AllOf P (xs ++ ys)
all_append P [] ys h k = k
all_append P (x ∷ xs) ys h k = (h.0, all_append P xs ys h.1 k)

one_more : (b : ℕ) (bs : List ℕ) → (b == 10) ≡ false → IsInLine bs → IsInLine (b ∷ bs)
one_more b bs this rest = ap (λ (v : Bool). v || list_any (λ c. c == 10) bs) this ∙ rest

split_by : (v : Bool) (x : ℕ) (xs : List ℕ) (ps : List (List ℕ)) → (x == 10) ≡ v → slice_split (λ c. c == 10) xs ≡ ps → AllOf IsInLine ps → AllOf IsInLine (slice_split (λ c. c == 10) (x ∷ xs))
split_by true x xs ps is e all = subst (AllOf IsInLine) (sym (slice_split-cons_yes (λ c. c == 10) x xs is ∙ ap (λ (qs : List (List ℕ)). [] ∷ qs) e)) (refl, all)
split_by false x xs [] is e all = subst (AllOf IsInLine) (sym (slice_split-cons_no (λ c. c == 10) x xs is ∙ ap (onto_first x) e)) (one_more x [] is refl, tt)
split_by false x xs (p ∷ ps) is e all = subst (AllOf IsInLine) (sym (slice_split-cons_no (λ c. c == 10) x xs is ∙ ap (onto_first x) e)) (one_more x p is all.0, all.1)

parts_in_line : (bytes : List ℕ) → AllOf IsInLine (parts bytes)
parts_in_line [] = (refl, tt)
parts_in_line (x ∷ xs) = split_by (x == 10) x xs (parts xs) refl refl (parts_in_line xs)

ended_in_line : (ps : List (List ℕ)) → AllOf IsInLine ps → AllOf IsInLine (all_but_last ps)
ended_in_line [] all = tt
ended_in_line (p ∷ []) all = tt
ended_in_line (p ∷ q ∷ ps) all = (all.0, ended_in_line (q ∷ ps) all.1)

last_in_line : (ps : List (List ℕ)) → AllOf IsInLine ps → IsInLine (last_of ps)
last_in_line [] all = refl
last_in_line (p ∷ []) all = all.0
last_in_line (p ∷ q ∷ ps) all = last_in_line (q ∷ ps) all.1

unless_in_line : (p : List ℕ) → IsInLine p → AllOf IsInLine (unless_empty p)
unless_in_line [] h = tt
unless_in_line (b ∷ bs) h = (h, tt)

pub pieces_in_line : (bytes : List ℕ) → AllOf IsInLine (pieces bytes)
pieces_in_line bytes =
    all_append IsInLine (ended bytes) (unless_empty (under_way bytes)) (ended_in_line (parts bytes) (parts_in_line bytes))
    (unless_in_line (under_way bytes) (last_in_line (parts bytes) (parts_in_line bytes)))
