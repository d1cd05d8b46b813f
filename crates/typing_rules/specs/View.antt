-- Types and verdicts as the rules see them.
use Rattle.std.specs.Prelude.{List, Result, Ok, Err}
use Rattle.value_ops.specs.declared.places.Place.{Place}
use Rattle.algolw_typing.specs.Types as types
use Rattle.algolw_typing.specs.Verdicts as verdicts
use Rattle.typing_rules.specs.declared.class_set.ClassSet.{ClassSet}
use Rattle.typing_rules.specs.declared.types.ValueType.{ValueType}
use Rattle.typing_rules.specs.declared.types.ValueType.TheVariants as value
use Rattle.typing_rules.specs.declared.types.PhraseType.{PhraseType}
use Rattle.typing_rules.specs.declared.types.PhraseType.TheVariants as phrase
use Rattle.typing_rules.specs.declared.verdicts.NoType.{NoType}
use Rattle.typing_rules.specs.declared.verdicts.NoType.TheVariants as no

abbrev pub classes_of : ClassSet → List Place
classes_of set = set.places.now.now

abbrev pub value_type : ValueType → types.ValueType
value_type value.Integer = types.Integer
value_type value.Logical = types.Logical
value_type value.Bits = types.Bits
value_type (value.Str n) = types.Str n
value_type (value.Reference set) = types.Reference (classes_of set)

abbrev pub phrase_type : PhraseType → types.Gives
phrase_type phrase.Statement = types.Statement
phrase_type (phrase.Value t) = types.Simple (value_type t)

abbrev pub verdict : Result PhraseType NoType → verdicts.Verdict
verdict (Ok g) = verdicts.Good (phrase_type g)
verdict (Err (no.Fault d)) = verdicts.Fault d.number d.place
verdict (Err no.Silent) = verdicts.Silent
