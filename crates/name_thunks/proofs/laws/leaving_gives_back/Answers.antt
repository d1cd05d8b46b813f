use Rattle.name_thunks.proofs.Leaving.{leaving_gives_back, leaving_gives_display_back}
use Rattle.name_thunks.proofs.laws.leaving_gives_back.Goals as goal

pub returns-clause-store : goal.returns-clause-store
returns-clause-store c = leaving_gives_back

pub returns-clause-display : goal.returns-clause-display
returns-clause-display c = leaving_gives_display_back
