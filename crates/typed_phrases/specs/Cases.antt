-- What the statements of a CASE give together.
use Rattle.std.specs.Prelude.{List, [], ◌∷◌, Option, Some, None}
use Rattle.algolw_typing.specs.Types.{Gives, Statement, Simple}

-- a statement where both are, else what the first that is none gives, where both have types
abbrev pub both_give : Option Gives → Option Gives → Option Gives
both_give None b = None
both_give (Some Statement) b = b
both_give (Some (Simple t)) None = None
both_give (Some (Simple t)) (Some g) = Some (Simple t)

-- the same of all
abbrev pub together : List (Option Gives) → Option Gives
together [] = Some Statement
together (g ∷ gs) = both_give g (together gs)
