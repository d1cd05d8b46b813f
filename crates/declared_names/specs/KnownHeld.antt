-- What a scope with meanings holds to.
use Rattle.std.specs.Prelude.{◌≡◌, List, length}
use Rattle.algolw_tree.specs.Tree.{Placed}
use Rattle.declared_names.specs.declared.known.Facts.{Facts}

-- as much is known as there are names
pub record AsMany (names : List Placed) (facts : List Facts) : Type 0 where
  pub each : length facts ≡ length names
