use Rattle.std.proofs.Common.{refl}
use Rattle.batch_runner.proofs.Progressing.{reads_on, stops_reading}
use Rattle.batch_runner.proofs.clerk.Clerk+S+K+Docket.read_on.Goals as goal

pub returns-in-Ok-clause-goes_on : goal.returns-in-Ok-clause-goes_on
returns-in-Ok-clause-goes_on g c = reads_on _ _ c.requires c.requires refl refl refl refl refl c.in-Ok.ensures.ok

pub returns-in-Err-clause-goes_on : goal.returns-in-Err-clause-goes_on
returns-in-Err-clause-goes_on g c = stops_reading _ _ c.in-Err.halt c.requires refl refl c.in-Err.ensures.err
