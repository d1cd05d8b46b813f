-- What phrases give, one or more in a row, as the rules see it.
use Rattle.std.specs.Prelude.{◌≡◌, [], ◌∷◌, ◌++◌, List, map, Option, Some, None}
use Rattle.std.specs.Option.{option_map}
use Rattle.std.specs.declared.vec.Vec.{Vec}
use Rattle.std.specs.declared.alloc.Global.{Global}
use Rattle.algolw_typing.specs.Types.{Gives}
use Rattle.algolw_typing.specs.Verdicts.{Verdict, Silent, all_parts}
use Rattle.typing_rules.specs.View as view
use Rattle.typing_rules.specs.declared.types.PhraseType.{PhraseType}

abbrev pub given_view : Option PhraseType → Option Gives
given_view g = option_map view.phrase_type g

-- what all give, where each has a type
abbrev pub all_view : Option (Vec PhraseType Global) → Option (List Gives)
all_view all = option_map (λ v. map view.phrase_type v.items) all

-- with what one more gives
abbrev pub with_one_more : Option (List Gives) → Option Gives → Option (List Gives)
with_one_more None g = None
with_one_more (Some gs) None = None
with_one_more (Some gs) (Some g) = Some (gs ++ g ∷ [])

-- a row of what all give, where each has a type
abbrev pub by_all : Option (List Gives) → (List Gives → Verdict) → Verdict
by_all None row = Silent
by_all (Some gs) row = row gs

-- these are given, where each has a type
abbrev pub AreGiven : Option (List Gives) → List (Option Gives) → Type 0
AreGiven all gs = (row : List Gives → Verdict) → all_parts gs row ≡ by_all all row
