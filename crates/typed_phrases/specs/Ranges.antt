-- The range of a FOR: its start, its step, which may be missing, and its limit, as the rules see them.
use Rattle.std.specs.Prelude.{List, [], ◌∷◌, ◌++◌, Option, Some, None, Result}
use Rattle.algolw_typing.specs.Types.{Gives}
use Rattle.algolw_typing.specs.Verdicts.{type_of}
use Rattle.typing_rules.specs.View as view
use Rattle.typing_rules.specs.declared.types.PhraseType.{PhraseType}
use Rattle.typing_rules.specs.declared.verdicts.NoType.{NoType}
use Rattle.typed_phrases.specs.declared.statements.Range.{Range}

abbrev pub step_given : Option (Result PhraseType NoType) → List (Option Gives)
step_given None = []
step_given (Some step) = type_of (view.verdict step) ∷ []

-- what its parts give
abbrev pub range_given : Range → List (Option Gives)
range_given r = type_of (view.verdict r.start) ∷ step_given r.step ++ type_of (view.verdict r.limit) ∷ []
