use Rattle.std.proofs.Common.{◌≡◌, ◌*◌}
use Rattle.std.specs.Fn.{iterate}
use Rattle.made_batches.specs.Draws.{next}
use Rattle.made_batches.specs.MadeBatch.{made_batch}
use Rattle.made_batches.proofs.batch.make_batch.Given as goal

abbrev pub invariant-loop-made : goal.invariant-loop-made
invariant-loop-made l = (l.batch.items ≡ made_batch l.seed l.made) × (l.draws.state ≡ iterate next (2 * l.made) l.seed)
