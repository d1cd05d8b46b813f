-- Literals.
use Rattle.std.proofs.Common.{ℕ, List, ◌++◌, Option, Some, None}

-- the longer of what was closed so far and what is closed later
abbrev pub better : Option (List ℕ × List ℕ) → Option (List ℕ × List ℕ) → Option (List ℕ × List ℕ)
better old None = old
better old (Some x) = Some x

-- behind what was said so far
abbrev pub behind : List ℕ → Option (List ℕ × List ℕ) → Option (List ℕ × List ℕ)
behind m None = None
behind m (Some x) = Some (m ++ x.0, x.1)
