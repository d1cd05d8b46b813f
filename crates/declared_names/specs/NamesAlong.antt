-- A path of scopes by the names alone that they declare.
use Rattle.std.specs.Prelude.{List, [], ◌∷◌}
use Rattle.algolw_typing.specs.Naming.{NamePath, placed_of, scope_of}
use Rattle.algolw_typing.specs.Scopes.{Scopes}

abbrev pub names_along : Scopes → NamePath
names_along [] = []
names_along (scope ∷ path) = scope_of (placed_of scope) ∷ names_along path
