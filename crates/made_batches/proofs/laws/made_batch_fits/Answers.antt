use Rattle.made_batches.proofs.Fitting.{fits}
use Rattle.made_batches.proofs.laws.made_batch_fits.Goals as goal

pub returns : goal.returns
returns c = fits
