use Rattle.std.proofs.Common.{◌≡◌, drop, map}
use Rattle.algolw_typing.specs.Actuals as actuals
use Rattle.algolw_typing.specs.Verdicts as verdicts
use Rattle.typing_rules.specs.MeaningView as view
use Rattle.typing_rules.proofs.actuals.subscripts.Given as goal

-- what is left of the parts decides
abbrev pub invariant-loop-part : goal.invariant-loop-part
invariant-loop-part l =
    (row : verdicts.Verdict) → actuals.subscripts l.place (map view.part l.parts) row ≡ actuals.subscripts l.place (map view.part (drop l.part-index l.parts)) row
