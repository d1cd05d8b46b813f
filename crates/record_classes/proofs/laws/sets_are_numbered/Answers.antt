use Rattle.record_classes.proofs.SetNumbers.{sets_are_numbered}
use Rattle.record_classes.proofs.laws.sets_are_numbered.Goals as goal

pub returns : goal.returns
returns c = sets_are_numbered
