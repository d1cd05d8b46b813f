-- The values among the parts of a phrase, and how they join one by one.
use Rattle.std.specs.Prelude.{List, [], ◌∷◌, Option, Some, None}
use Rattle.algolw_typing.specs.Types as types
use Rattle.typing_rules.specs.View.{value_type}
use Rattle.typing_rules.specs.declared.types.PhraseType.{PhraseType}
use Rattle.typing_rules.specs.declared.types.PhraseType.TheVariants as phrase

abbrev pub values_of : List PhraseType → List types.ValueType
values_of [] = []
values_of (phrase.Statement ∷ parts) = values_of parts
values_of (phrase.Value t ∷ parts) = value_type t ∷ values_of parts

-- what a value joins to with those before it, of which there may be none
abbrev pub join_next : Option types.ValueType → types.ValueType → Option types.ValueType
join_next None u = Some u
join_next (Some t) u = types.join t u
