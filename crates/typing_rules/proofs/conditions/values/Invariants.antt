use Rattle.std.proofs.Common.{◌≡◌, drop}
use Rattle.algolw_typing.specs.Verdicts.{Verdict}
use Rattle.typing_rules.proofs.EachPart.{each_value}
use Rattle.typing_rules.proofs.conditions.values.Given as goal

-- what is left of the parts decides
abbrev pub invariant-loop-part : goal.invariant-loop-part
invariant-loop-part l = (row : Verdict) → each_value l.place l.parts row ≡ each_value l.place (drop l.part-index l.parts) row
