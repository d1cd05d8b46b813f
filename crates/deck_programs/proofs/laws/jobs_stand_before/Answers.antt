use Rattle.deck_programs.proofs.Batches.{jobs_stand_before}
use Rattle.deck_programs.proofs.laws.jobs_stand_before.Goals as goal

pub returns : goal.returns
returns c = jobs_stand_before
