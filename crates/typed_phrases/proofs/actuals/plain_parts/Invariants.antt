use Rattle.std.proofs.Common.{◌≡◌, ◌++◌, drop, map}
use Rattle.typing_rules.specs.MeaningView as view
use Rattle.typed_phrases.specs.Readings.{plain}
use Rattle.typed_phrases.proofs.actuals.plain_parts.Given as goal

-- what is read and what is left are all
abbrev pub invariant-loop-part : goal.invariant-loop-part
invariant-loop-part l = map view.part l.read.items ++ map plain (map view.part (drop l.part-index l.parts)) ≡ map plain (map view.part l.parts)
