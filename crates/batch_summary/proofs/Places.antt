-- What is counted of each element at its place.
use Rattle.std.proofs.Common.{◌≡◌, ◌∙◌, sym, refl, ap, ℕ, ◌+◌, List, [], ◌∷◌, ◌++◌, length, map, take, flat_map, append_assoc, append-nil, arith}
use Rattle.std.specs.Prelude.{sum_by}
use Rattle.std.specs.List.{enumerate_from}
use Rattle.std.proofs.lemmas.List.{length-append}
use Rattle.std.proofs.lemmas.List.Sums.{sum_by-append}
use Rattle.std.proofs.Math.Seq.{take-append_seam}
use Rattle.batch_summary.specs.declared.tally.Entry.{Entry}
use Rattle.batch_summary.specs.Tally.{at_places, tally_of, tally_with}
use Rattle.batch_summary.proofs.Tallies.{tally_more}

-- the same from left to right, behind these elements
abbrev behind : {X : Type 0} → (List X → X → Entry) → List X → List X → List Entry
behind f earlier [] = []
behind f earlier (x ∷ xs) = f earlier x ∷ behind f (earlier ++ x ∷ []) xs

behind_from : {X : Type 0} (f : List X → X → Entry) (earlier xs : List X) → behind f earlier xs ≡ map (λ p. f (take p.0 (earlier ++ xs)) p.1) (enumerate_from (length earlier) xs)
behind_from f earlier [] = refl
behind_from {X} f earlier (x ∷ xs) =
    let one_more : length (earlier ++ x ∷ []) ≡ length earlier + 1 = length-append earlier (x ∷ []) in
    ap (λ (ys : List X). f ys x ∷ behind f (earlier ++ x ∷ []) xs) (sym (take-append_seam earlier (x ∷ xs)))
    ∙ ap (λ (entries : List Entry). f (take (length earlier) (earlier ++ x ∷ xs)) x ∷ entries)
    (behind_from f (earlier ++ x ∷ []) xs
    ∙ ap (λ (ys : List X). map (λ p. f (take p.0 ys) p.1) (enumerate_from (length (earlier ++ x ∷ [])) xs)) (append_assoc earlier (x ∷ []) xs)
    ∙ ap (λ (n : ℕ). map (λ p. f (take p.0 (earlier ++ x ∷ xs)) p.1) (enumerate_from n xs)) one_more)

behind_more : {X : Type 0} (f : List X → X → Entry) (earlier xs : List X) (last : X) → behind f earlier (xs ++ last ∷ []) ≡ behind f earlier xs ++ f (earlier ++ xs) last ∷ []
behind_more {X} f earlier [] last = ap (λ (ys : List X). f ys last ∷ []) (sym (append-nil earlier))
behind_more {X} f earlier (x ∷ xs) last =
    ap (λ (entries : List Entry). f earlier x ∷ entries)
    (behind_more f (earlier ++ x ∷ []) xs last
    ∙ ap (λ (ys : List X). behind f (earlier ++ x ∷ []) xs ++ f ys last ∷ []) (append_assoc earlier (x ∷ []) xs))

places_more : {X : Type 0} (f : List X → X → Entry) (xs : List X) (last : X) → at_places f (xs ++ last ∷ []) ≡ at_places f xs ++ f xs last ∷ []
places_more f xs last =
    sym (behind_from f [] (xs ++ last ∷ []))
    ∙ behind_more f [] xs last
    ∙ ap (λ (entries : List Entry). entries ++ f xs last ∷ []) (behind_from f [] xs)

-- the tally of elements at their places, with one more
pub tally_at_places : {X : Type 0} (before : ℕ) (f : List X → X → Entry) (xs : List X) (last : X)
    → tally_with (tally_of before (at_places f xs)) (f xs last) ≡ tally_of before (at_places f (xs ++ last ∷ []))
tally_at_places before f xs last = tally_more before (at_places f xs) (f xs last) ∙ ap (tally_of before) (sym (places_more f xs last))

bytes_from : {X : Type 0} (f : List X → X → Entry) (text : List X → X → List ℕ) → ((earlier : List X) (x : X) → (f earlier x).bytes ≡ length (text earlier x))
    → (places : List (ℕ × X)) (xs : List X) → sum_by (λ e. e.bytes) (map (λ p. f (take p.0 xs) p.1) places) ≡ length (flat_map (λ p. text (take p.0 xs) p.1) places)
bytes_from f text is [] xs = refl
bytes_from f text is (p ∷ places) xs = omega (
  arith,
  is (take p.0 xs) p.1,
  sum_by-append (λ (e : Entry). e.bytes) (f (take p.0 xs) p.1 ∷ []) (map (λ p. f (take p.0 xs) p.1) places),
  length-append (text (take p.0 xs) p.1) (flat_map (λ p. text (take p.0 xs) p.1) places),
  bytes_from f text is places xs,
)

-- the bytes of a tally are those of the texts at their places
pub bytes_at_places : {X : Type 0} (before : ℕ) (f : List X → X → Entry) (text : List X → X → List ℕ) → ((earlier : List X) (x : X) → (f earlier x).bytes ≡ length (text earlier x))
    → (xs : List X) → (tally_of before (at_places f xs)).bytes ≡ before + length (flat_map (λ p. text (take p.0 xs) p.1) (enumerate_from 0 xs))
bytes_at_places before f text is xs = ap (λ (n : ℕ). before + n) (bytes_from f text is (enumerate_from 0 xs) xs)
