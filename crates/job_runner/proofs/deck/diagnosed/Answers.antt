use Rattle.job_runner.proofs.Compiling.{one_shown}
use Rattle.job_runner.proofs.deck.diagnosed.Goals as goal

pub returns : goal.returns
returns c = λ library deck h. one_shown library deck c.args.fault c.in_ok-vec.field-0.items h c.in_ok-vec.ensures.items
