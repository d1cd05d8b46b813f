use Rattle.program_meaning.proofs.Balanced.{phrases_are_balanced}
use Rattle.program_meaning.proofs.laws.phrases_are_balanced.Goals as goal

pub returns : goal.returns
returns c = phrases_are_balanced
