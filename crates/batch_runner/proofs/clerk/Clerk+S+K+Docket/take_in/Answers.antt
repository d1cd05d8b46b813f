use Rattle.batch_runner.specs.ProgressLaws.{goes_further}
use Rattle.batch_runner.proofs.clerk.Clerk+S+K+Docket.take_in.Goals as goal

pub returns-clause-goes_on : goal.returns-clause-goes_on
returns-clause-goes_on g c = goes_further _ _ _ c.read_on.ensures.goes_on (c.hand_over.ensures.goes_on _)
