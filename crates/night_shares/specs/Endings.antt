-- How a last line, which no line feed ends, is ended.
use Rattle.std.specs.Prelude.{ℕ, ◌≡◌, ◌<◌, Bool, true, false, List, [], length}
use Rattle.night_shares.specs.Plan.{row}

-- a last line is ended by a line feed, unless it is empty
abbrev pub EndsLine : List ℕ → List ℕ → Bool → Type 0
EndsLine before now true = (0 < length before) × (now ≡ row before)
EndsLine before now false = (before ≡ []) × (now ≡ [])
