-- Names that stand on no card.
use Rattle.std.specs.Prelude.{ℕ, List}
use Rattle.algolw_tree.specs.Standards.{StandardNames}
use Rattle.algolw_tree.specs.Tree.{Placed}
use Rattle.algolw_typing.specs.Naming.{placed_of}
use Rattle.algolw_typing.specs.Scopes.{standard_entries}

-- each on card 0, in the next column
abbrev pub on_no_card : ℕ → StandardNames → List Placed
on_no_card n names = placed_of (standard_entries n names)
