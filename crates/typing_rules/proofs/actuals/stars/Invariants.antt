use Rattle.std.proofs.Common.{◌≡◌, ◌+◌, ◌≤◌, drop, map}
use Rattle.algolw_typing.specs.Actuals as actuals
use Rattle.typing_rules.specs.MeaningView as view
use Rattle.typing_rules.proofs.actuals.stars.Given as goal

-- the rest of the stars are among the rest of the parts
abbrev pub invariant-loop-part : goal.invariant-loop-part
invariant-loop-part l =
    (l.stars ≤ l.part-index) × (l.stars + actuals.stars (map view.part (drop l.part-index l.parts)) ≡ actuals.stars (map view.part l.parts))
