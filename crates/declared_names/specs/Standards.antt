-- Standard names, which stand on no card.
use Rattle.std.specs.Prelude.{[], ◌∷◌}
use Rattle.algolw_typing.specs.Scopes.{Scopes, standard_scope}

-- the scopes of a program, before its own
abbrev pub standard_path : Scopes
standard_path = standard_scope ∷ []
