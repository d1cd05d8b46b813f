-- What a row of many values says, once all of them are known.
use Rattle.std.proofs.Common.{◌≡◌, List, [], ◌∷◌, map, refl}
use Rattle.value_ops.specs.declared.places.Place.{Place}
use Rattle.algolw_typing.specs.Types as types
use Rattle.algolw_typing.specs.Verdicts.{Verdict, value, all_values}
use Rattle.typing_rules.specs.Parts.{values_of}
use Rattle.typing_rules.specs.View.{phrase_type, value_type}
use Rattle.typing_rules.specs.declared.types.PhraseType.{PhraseType}
use Rattle.typing_rules.specs.declared.types.PhraseType.TheVariants as phrase

-- each part is a value
abbrev pub each_value : Place → List PhraseType → Verdict → Verdict
each_value p [] row = row
each_value p (part ∷ parts) row = value p (phrase_type part) (λ t. each_value p parts row)

pub all_values_each : (p : Place) (parts : List PhraseType) (row : List types.ValueType → Verdict) → all_values p (map phrase_type parts) row ≡ each_value p parts (row (values_of parts))
all_values_each p [] row = refl
all_values_each p (phrase.Statement ∷ parts) row = refl
all_values_each p (phrase.Value t ∷ parts) row = all_values_each p parts (λ ts. row (value_type t ∷ ts))
