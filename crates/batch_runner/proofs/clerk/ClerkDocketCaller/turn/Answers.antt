use Rattle.std.proofs.Common.{◌∙◌}
use Rattle.batch_runner.specs.ProgressLaws.{goes_further}
use Rattle.batch_runner.proofs.clerk.ClerkDocketCaller.turn.Goals as goal

pub returns-then-has_arrivals-clause-went : goal.returns-then-has_arrivals-clause-went
returns-then-has_arrivals-clause-went g c = (
  c.take_in.ensures.same_ports.0 ∙ c.serve_next.ensures.same_ports.0,
  c.take_in.ensures.same_ports.1 ∙ c.serve_next.ensures.same_ports.1,
  goes_further _ _ _ c.serve_next.ensures.goes_on c.take_in.ensures.goes_on,
)
