use Rattle.std.proofs.Common.{ℕ, List, ap, ◌∙◌, subst}
use Rattle.std.specs.Io.KnownBytes.{Appends}
use Rattle.batch_summary.specs.Summary.{summary}
use Rattle.batch_listing.specs.Writing.{AppendsPrefix}
use Rattle.batch_monitor.specs.Made.{made_summary}
use Rattle.batch_monitor.proofs.Endings.{nothing_written}
use Rattle.batch_monitor.proofs.Known.{at_err}
use Rattle.batch_monitor.proofs.made.run_made.Goals as goal

pub returns-in_err-tally-clause-cut : goal.returns-in_err-tally-clause-cut
returns-in_err-tally-clause-cut g c = at_err c.from_residual.result (nothing_written (g.K.Sink.written c.args.sink.now) (made_summary c.args.seed c.args.jobs))

pub returns-in_err-summary-clause-cut : goal.returns-in_err-summary-clause-cut
returns-in_err-summary-clause-cut g c = at_err c.from_residual-in_err-summary.result (nothing_written (g.K.Sink.written c.args.sink.now) (made_summary c.args.seed c.args.jobs))

pub returns-in_err-write_all_of-clause-cut : goal.returns-in_err-write_all_of-clause-cut
returns-in_err-write_all_of-clause-cut g c =
    let text = c.as_slice.ensures.value ∙ c.in_ok-summary.ensures ∙ ap (summary c.args.seed c.args.jobs) c.in_ok-tally.ensures in
    at_err c.from_residual-in_err-write_all_of.result
    (subst (λ (bytes : List ℕ). AppendsPrefix (g.K.Sink.written c.args.sink.now) (g.K.Sink.written c.write_all_of.new.sink) bytes) text c.in_err-write_all_of.ensures.err)

pub returns-clause-done : goal.returns-clause-done
returns-clause-done g c =
    let text = c.as_slice.ensures.value ∙ c.in_ok-summary.ensures ∙ ap (summary c.args.seed c.args.jobs) c.in_ok-tally.ensures in
    subst (λ (bytes : List ℕ). Appends (g.K.Sink.written c.args.sink.now) (g.K.Sink.written c.write_all_of.new.sink) bytes) text c.in_ok-write_all_of.ensures.ok
