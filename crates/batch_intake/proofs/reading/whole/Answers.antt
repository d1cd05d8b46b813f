use Rattle.std.proofs.Common.{Err, [], ap, ◌∙◌}
use Rattle.deck_reader.specs.declared.reader.FeedError.{FeedError}
use Rattle.batch_intake.proofs.Takings.{large_error, whole_so}
use Rattle.batch_intake.proofs.reading.whole.Goals as goal

pub returns-in_err-batch-clause-large : goal.returns-in_err-batch-clause-large
returns-in_err-batch-clause-large c = λ given input stands is.
    c.in_err-batch.ensures.large given [] input stands (ap (λ (e : FeedError). Err e) (large_error c.from_residual.result c.in_err-batch.field-0.0 c.from_residual.ensures.1 is))

pub returns-clause-ok : goal.returns-clause-ok
returns-clause-ok c = λ given input stands. record {
  known = whole_so given c.in_ok-intake.intake _ c.in_ok-batch.batch input (c.in_ok-batch.ensures.batch given [] input stands) (c.in_ok-batch.ensures.fits given [] input stands) c.into_vec-accounts.ensures
      c.in_ok-intake.ensures.0 c.in_ok-intake.ensures.1 (c.in_ok-intake.ensures.2 ∙ c.into_vec.ensures);
  few = rw c.into_vec-accounts.ensures c.in_ok-batch.ensures.few;
}
