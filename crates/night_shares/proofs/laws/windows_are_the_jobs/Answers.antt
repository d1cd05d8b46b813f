use Rattle.night_shares.proofs.WindowJobs.{windows_are_the_jobs as law}
use Rattle.night_shares.proofs.laws.windows_are_the_jobs.Goals as goal

pub returns : goal.returns
returns c = law
