use Rattle.std.proofs.Common.{◌≡◌, drop, map}
use Rattle.typing_rules.proofs.Rests as rests
use Rattle.algolw_typing.specs.Verdicts as verdicts
use Rattle.typing_rules.specs.MeaningView as view
use Rattle.typing_rules.proofs.meanings.variables.Given as goal

-- what is left of the parts decides
abbrev pub invariant-loop-part : goal.invariant-loop-part
invariant-loop-part l =
    (row : verdicts.Verdict) → rests.each_variable l.place (map view.part l.parts) row ≡ rests.each_variable l.place (map view.part (drop l.part-index l.parts)) row
