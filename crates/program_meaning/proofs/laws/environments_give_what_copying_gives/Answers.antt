use Rattle.program_meaning.proofs.Law.{environments_give_what_copying_gives}
use Rattle.program_meaning.proofs.laws.environments_give_what_copying_gives.Goals as goal

pub returns : goal.returns
returns c = environments_give_what_copying_gives
