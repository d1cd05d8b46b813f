use Rattle.night_shares.proofs.WindowJobs.{jobs_are_the_nights as law}
use Rattle.night_shares.proofs.laws.jobs_are_the_nights.Goals as goal

pub returns : goal.returns
returns c = law
