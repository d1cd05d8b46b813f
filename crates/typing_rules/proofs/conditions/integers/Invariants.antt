use Rattle.std.proofs.Common.{◌≡◌, drop, map}
use Rattle.algolw_typing.specs.Verdicts.{Verdict, ints}
use Rattle.typing_rules.specs.View.{phrase_type}
use Rattle.typing_rules.proofs.conditions.integers.Given as goal

-- what is left of the parts decides
abbrev pub invariant-loop-part : goal.invariant-loop-part
invariant-loop-part l = (row : Verdict) → ints l.place (map phrase_type l.parts) row ≡ ints l.place (map phrase_type (drop l.part-index l.parts)) row
