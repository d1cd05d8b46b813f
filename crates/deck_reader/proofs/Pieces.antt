-- A list and its parts round a byte.
use Rattle.std.proofs.Common.{◌≡◌, ℕ, ◌+◌, ◌==◌, nat_lt, List, [], ◌∷◌, length, take, drop, Some, None, refl, ap, ◌∙◌}
use Rattle.std.specs.List.{slice_split, position_or_len}
use Rattle.std.proofs.lemmas.List.Splits.{slice_split_first}
use Rattle.deck_reader.specs.Forms.{parted}
use Rattle.deck_reader.proofs.Cuts.{found_at, one_part, parted-none}

-- the first part, and the parts of what stands behind it
pub first_part : (t : ℕ) (bytes before behind : List ℕ) → parted t bytes ≡ Some (before, behind)
    → slice_split (λ b. b == t) bytes ≡ before ∷ slice_split (λ b. b == t) behind
first_part t bytes before behind h =
    let at = position_or_len (λ b. b == t) bytes in
    let found = found_at (nat_lt at (length bytes)) at (length bytes) (λ k. (take k bytes, drop (k + 1) bytes)) (before, behind) refl h in
    slice_split_first (λ b. b == t) bytes 0 found.0
    ∙ ap (λ (p : List ℕ × List ℕ). p.0 ∷ slice_split (λ b. b == t) p.1) found.1

-- where the byte doesn't stand, there is one part
pub only_part : (t : ℕ) (bytes : List ℕ) → parted t bytes ≡ None → slice_split (λ b. b == t) bytes ≡ bytes ∷ []
only_part t bytes h = one_part t bytes (parted-none t bytes h)
