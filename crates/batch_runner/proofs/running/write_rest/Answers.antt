use Rattle.std.proofs.Common.{◌∙◌}
use Rattle.batch_runner.specs.ProgressLaws.{goes_further}
use Rattle.batch_runner.proofs.running.write_rest.Goals as goal

pub loop-clerk-preserved : goal.loop-clerk-preserved
loop-clerk-preserved g c = (
  c.write_next.ensures.same_ports.0 ∙ c.loop-clerk.invariant.0,
  c.write_next.ensures.same_ports.1 ∙ c.loop-clerk.invariant.1,
  goes_further _ _ _ c.loop-clerk.invariant.2 (goes_further _ _ _ c.write_next.ensures.goes_on (c.tell-in-loop-clerk.ensures.goes_on _)),
  c.tell-in-loop-clerk.ensures.same.0 ∙ c.write_next.ensures.intake ∙ c.loop-clerk.invariant.3,
  λ _. c.loop-clerk.invariant.4 (c.has_more.ensures.0 c.loop-clerk-test.true).0,
)

pub returns-clause-goes_on : goal.returns-clause-goes_on
returns-clause-goes_on g c = goes_further _ _ _ (c.tell.ensures.goes_on _) c.loop-clerk.invariant.2
