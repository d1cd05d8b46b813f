use Rattle.std.proofs.Common.{None, map, sym, ap, ◌∙◌}
use Rattle.account_book.specs.BookView.{BookView}
use Rattle.deck_reader.specs.Batch.{batch}
use Rattle.batch_intake.proofs.Results.{same_error}
use Rattle.batch_runner.proofs.Serving.{large_cause, not_risen, read_cause, write_cause}
use Rattle.batch_runner.proofs.statement.make_statement.Goals as goal

pub returns-in_err-served-clause-read : goal.returns-in_err-served-clause-read
returns-in_err-served-clause-read g c = λ is. read_cause c.in_err-served.field-0.0 _ _ (same_error c.from_residual.result _ _ c.from_residual.ensures.1 is) c.in_err-served.ensures.err.cause

pub returns-in_err-served-clause-write : goal.returns-in_err-served-clause-write
returns-in_err-served-clause-write g c = λ is. not_risen (write_cause c.in_err-served.field-0.0 _ _ (same_error c.from_residual.result _ _ c.from_residual.ensures.1 is) c.in_err-served.ensures.err.cause)

pub returns-in_err-served-clause-large : goal.returns-in_err-served-clause-large
returns-in_err-served-clause-large g c = λ is. large_cause c.in_err-served.field-0.0 _ _ (same_error c.from_residual.result _ _ c.from_residual.ensures.1 is) c.in_err-served.ensures.err.cause

pub returns-clause-done : goal.returns-clause-done
returns-clause-done g c =
    let decided = c.in_ok-served.ensures.ok in
    let served = decided.served in
    record {
      input = served.input;
      read = served.read;
      to_end = served.to_end;
      fits = served.fits;
      states = c.in_ok-text.ensures (batch served.input) (sym served.accounts ∙ sym (ap (λ (b : BookView). b.accounts) c.book.ensures))
          (sym decided.jobs_are ∙ ap (map (λ j. j.value)) (sym c.as_slice.ensures.value))
          (c.as_slice-2.ensures.value ∙ decided.decided);
    }
