use Rattle.std.proofs.Common.{rules, sym, ap, ◌∙◌}
use Rattle.batch_runner.specs.declared.clerk.Docket.{Docket}
use Rattle.batch_runner.specs.Outcome.{outside}
use Rattle.batch_runner.proofs.Progressing.{began, carried}
use Rattle.batch_runner.proofs.listing.serve.Goals as goal

pub returns-clause-all : goal.returns-clause-all
returns-clause-all g c = λ given start h none.
    let after = c.run_jobs-after.result in
    let end = outside (g.S.Source.left after.src.now) (g.S.Source.faults after.src.now) (g.K.Sink.written after.sink.now) (g.K.Sink.faults after.sink.now) in
    let kept = c.into_docket.ensures.docket in
    carried given start end _ after.docket c.into_docket.result (search rules) (sym kept)
    (c.run_jobs-after.ensures.all given start (began given start _ c.args.intake c.new-docket.result.intake c.args.audit c.new-docket.result.audit c.new-docket.ensures.0 c.new-docket.ensures.1 h) (sym (ap (λ (d : Docket). d.halt) kept) ∙ none))
