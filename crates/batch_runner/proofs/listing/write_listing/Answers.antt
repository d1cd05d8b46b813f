use Rattle.std.proofs.Common.{◌∙◌}
use Rattle.deck_reader.specs.Batch.{batch_with}
use Rattle.batch_intake.proofs.Results.{at_err, same_error}
use Rattle.batch_runner.proofs.Serving.{closing_cut, closing_done, closing_is, large_cause, read_cause, served_cut, write_cause}
use Rattle.batch_runner.proofs.listing.write_listing.Goals as goal

pub returns-in_err-served-clause-cut : goal.returns-in_err-served-clause-cut
returns-in_err-served-clause-cut g c = at_err c.from_residual.result c.in_err-served.ensures.err.cut

pub returns-in_err-served-clause-read : goal.returns-in_err-served-clause-read
returns-in_err-served-clause-read g c = λ is. read_cause c.in_err-served.field-0.0 _ _ (same_error c.from_residual.result _ _ c.from_residual.ensures.1 is) c.in_err-served.ensures.err.cause

pub returns-in_err-served-clause-write : goal.returns-in_err-served-clause-write
returns-in_err-served-clause-write g c = λ is. write_cause c.in_err-served.field-0.0 _ _ (same_error c.from_residual.result _ _ c.from_residual.ensures.1 is) c.in_err-served.ensures.err.cause

pub returns-in_err-served-clause-large : goal.returns-in_err-served-clause-large
returns-in_err-served-clause-large g c = λ is. large_cause c.in_err-served.field-0.0 _ _ (same_error c.from_residual.result _ _ c.from_residual.ensures.1 is) c.in_err-served.ensures.err.cause

pub returns-in_err-closing-clause-cut : goal.returns-in_err-closing-clause-cut
returns-in_err-closing-clause-cut g c = at_err c.from_residual-in_err-closing.result (served_cut c.args.given _ _ _ _ c.in_ok-served.ensures.ok.served)

pub returns-in_err-write_all_of-clause-cut : goal.returns-in_err-write_all_of-clause-cut
returns-in_err-write_all_of-clause-cut g c =
    let served = c.in_ok-served.ensures.ok.served in
    at_err c.from_residual-in_err-write_all_of.result
    (closing_cut c.args.given _ _ _ _ served _ c.as_slice.result.now (c.as_slice.ensures.value ∙ c.in_ok-closing.ensures (batch_with c.args.given served.input).jobs served.behind ∙ closing_is c.args.given _ _ _ _ served) c.in_err-write_all_of.ensures.err)

pub returns-clause-done : goal.returns-clause-done
returns-clause-done g c =
    let served = c.in_ok-served.ensures.ok.served in
    closing_done c.args.given _ _ _ _ served _ c.as_slice.result.now (c.as_slice.ensures.value ∙ c.in_ok-closing.ensures (batch_with c.args.given served.input).jobs served.behind ∙ closing_is c.args.given _ _ _ _ served) c.in_ok-write_all_of.ensures.ok
