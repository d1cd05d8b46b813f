use Rattle.batch_runner.specs.ProgressLaws.{goes_further}
use Rattle.batch_runner.proofs.clerk.Docket.hand_over.Goals as goal

pub returns-then-is_err : goal.returns-then-is_err
returns-then-is_err g c = record { goes_on = λ now. goes_further _ _ _ (c.let_arrive.ensures.goes_on now) (c.stop_without_memory.ensures.goes_on now) }
