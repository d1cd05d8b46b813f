-- Names that are short.
use Rattle.std.specs.Prelude.{ℕ, Bool, true, ◌&&◌, nat_le, List, [], ◌∷◌, length}
use denote.Ref.{Bor}
use Rattle.algolw_tree.specs.declared.standard.Standard.{Standard}

-- each fits in a name
abbrev pub all_short : List (Bor (List ℕ) × Standard) → Bool
all_short [] = true
all_short (x ∷ xs) = nat_le (length x.0.now) 80 && all_short xs
