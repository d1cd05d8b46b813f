use Rattle.std.proofs.Common.{◌≡◌, drop, map}
use Rattle.algolw_typing.specs.Meanings as meanings
use Rattle.algolw_typing.specs.Verdicts as verdicts
use Rattle.typing_rules.specs.MeaningView as view
use Rattle.typing_rules.proofs.actuals.all_read.Given as goal

-- what is left of the parts decides
abbrev pub invariant-loop-part : goal.invariant-loop-part
invariant-loop-part l =
    (row : verdicts.Verdict) → meanings.all_read (map view.part l.parts) row ≡ meanings.all_read (map view.part (drop l.part-index l.parts)) row
