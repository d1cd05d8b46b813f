use Rattle.std.proofs.Common.{refl}
use Rattle.batch_runner.proofs.Progressing.{stops_anywhere}
use Rattle.batch_runner.proofs.clerk.Docket.stop_without_memory.Goals as goal

pub returns-clause-goes_on : goal.returns-clause-goes_on
returns-clause-goes_on c = λ now. stops_anywhere _ _ c.requires refl refl
