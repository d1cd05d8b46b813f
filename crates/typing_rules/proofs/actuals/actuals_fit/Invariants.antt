use Rattle.std.proofs.Common.{◌≡◌, map}
use Rattle.algolw_typing.specs.Actuals as actuals
use Rattle.algolw_typing.specs.Verdicts as verdicts
use Rattle.typing_rules.specs.MeaningView as view
use Rattle.typing_rules.proofs.actuals.actuals_fit.Given as goal

-- what is left of both decides
abbrev pub invariant-loop-formal : goal.invariant-loop-formal
invariant-loop-formal l =
    (row : verdicts.Verdict) → actuals.actuals_fit l.place (map view.formal_type l.formals) (map view.part l.parts) row ≡ actuals.actuals_fit l.place (map view.formal_type l.formal-iterator.a.rest.now) (map view.part l.formal-iterator.b.rest.now) row
