-- What the reading of a text gives, where the text has these lines.
use Rattle.std.specs.Prelude.{ℕ, ◌≡◌, List, [], ◌∷◌, Option, Some, None, MatchOption}
use Rattle.std.specs.Borrow.{Bor}
use Rattle.listing_parts.specs.Lines.{IsUpward}

-- the last line is this one, and above it stands this text
pub record LastLine (lines : List (List ℕ)) (above line : List ℕ) : Type 0 where
  pub up : List (List ℕ)
  pub is : lines ≡ line ∷ up
  pub rest : IsUpward above up

abbrev pub ReadsLine : List (List ℕ) → Option (Bor (List ℕ) × Bor (List ℕ)) → Type 0
ReadsLine lines result = MatchOption result (lines ≡ []) (λ r. LastLine lines r.0.now r.1.now)

-- these lines are wanted, and the text has them
pub record Left (wanted : Option (List (List ℕ))) (above : List ℕ) : Type 0 where
  pub up : List (List ℕ)
  pub is : wanted ≡ Some up
  pub rest : IsUpward above up

abbrev pub Leaves : Option (List (List ℕ)) → Option (Bor (List ℕ)) → Type 0
Leaves wanted result = MatchOption result (wanted ≡ None) (λ r. Left wanted r.now)
