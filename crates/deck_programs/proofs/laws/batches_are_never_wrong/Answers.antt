use Rattle.deck_programs.proofs.Batches.{batches_are_never_wrong}
use Rattle.deck_programs.proofs.laws.batches_are_never_wrong.Goals as goal

pub returns : goal.returns
returns c = batches_are_never_wrong
