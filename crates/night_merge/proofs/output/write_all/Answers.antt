use Rattle.std.proofs.Common.{rules, ◌∙◌}
use Rattle.night_merge.proofs.Written.{write_on}
use Rattle.night_merge.proofs.output.write_all.Goals as goal

pub loop-at-preserved : goal.loop-at-preserved
loop-at-preserved g c = (
  search rules,
  write_on _ _ _ c.args.bytes.now c.loop-at.at c.in_ok-at.field-0 c.loop-at.invariant.1 c.in_ok-at.ensures.bytes,
  c.in_ok-at.ensures.cause.same ∙ c.loop-at.invariant.2,
)
