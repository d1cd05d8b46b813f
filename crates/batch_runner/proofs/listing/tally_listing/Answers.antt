use Rattle.std.proofs.Common.{◌+◌, length, None, ap, refl, ◌∙◌}
use Rattle.batch_summary.specs.declared.tally.Tally.{Tally}
use Rattle.deck_reader.specs.Batch.{batch}
use Rattle.batch_intake.proofs.Results.{same_error}
use Rattle.batch_runner.proofs.Serving.{all_too_large, closing_is, large_cause, not_risen, tally_is, write_cause}
use Rattle.batch_runner.proofs.listing.tally_listing.Goals as goal

pub returns-in_err-served-clause-write : goal.returns-in_err-served-clause-write
returns-in_err-served-clause-write g c = λ is. not_risen (write_cause c.in_err-served.field-0.0 _ _ (same_error c.from_residual.result _ _ c.from_residual.ensures.1 is) c.in_err-served.ensures.err.cause)

pub returns-in_err-served-clause-large : goal.returns-in_err-served-clause-large
returns-in_err-served-clause-large g c = λ is.
    all_too_large c.args.src.left _ (large_cause c.in_err-served.field-0.0 _ _ (same_error c.from_residual.result _ _ c.from_residual.ensures.1 is) c.in_err-served.ensures.err.cause)

pub returns-clause-tally : goal.returns-clause-tally
returns-clause-tally g c =
    let served = c.in_ok-served.ensures.ok.served in
    c.in_ok-listing.ensures
    ∙ ap (λ (t : Tally). record t { bytes = t.bytes + length c.as_slice.result.now }) c.tally-sections.ensures
    ∙ tally_is _ _ _ _ served c.args.src.left c.as_slice.result.now refl (c.as_slice.ensures.value ∙ c.in_ok-closing.ensures (batch served.input).jobs served.behind ∙ closing_is None _ _ _ _ served)
