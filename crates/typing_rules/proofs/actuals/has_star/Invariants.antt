use Rattle.std.proofs.Common.{◌≡◌, drop, map}
use Rattle.algolw_typing.specs.Actuals as actuals
use Rattle.typing_rules.specs.MeaningView as view
use Rattle.typing_rules.proofs.actuals.has_star.Given as goal

-- what is left of the parts decides
abbrev pub invariant-loop-part : goal.invariant-loop-part
invariant-loop-part l =
    actuals.has_star (map view.part l.parts) ≡ actuals.has_star (map view.part (drop l.part-index l.parts))
