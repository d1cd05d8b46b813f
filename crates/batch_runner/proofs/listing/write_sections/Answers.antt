use Rattle.std.proofs.Common.{List, ℕ, refl, subst, sym}
use Rattle.std.specs.Io.KnownBytes.{Appends}
use Rattle.batch_listing.specs.Writing.{AppendsPrefix}
use Rattle.batch_intake.specs.declared.halt.Halt.TheVariants.{WriteFault}
use Rattle.batch_intake.specs.Taking.{jobs_by}
use Rattle.batch_runner.specs.Outcome.{HasHalted, outside}
use Rattle.batch_runner.specs.Progress.{IsDecided}
use Rattle.batch_runner.proofs.Progressing.{front_halted, heading_halted, opened_so}
use Rattle.batch_intake.proofs.Results.{at_this, some_at}
use Rattle.batch_runner.proofs.listing.write_sections.Goals as goal

pub returns-in_err-opened-clause-err : goal.returns-in_err-opened-clause-err
returns-in_err-opened-clause-err g c =
    let start = outside (g.S.Source.left c.args.src.now) (g.S.Source.faults c.args.src.now) (g.K.Sink.written c.args.sink.now) (g.K.Sink.faults c.args.sink.now) in
    let now = outside (g.S.Source.left c.open_batch.new.src) (g.S.Source.faults c.open_batch.new.src) (g.K.Sink.written c.args.sink.now) (g.K.Sink.faults c.args.sink.now) in
    at_this c.from_residual.result c.in_err-opened.field-0.0 (λ halt. HasHalted c.args.given start now halt) c.from_residual.ensures.1
    (front_halted c.args.given start now c.in_err-opened.field-0.0 refl c.in_err-opened.ensures.err)

pub returns-in_err-write_all_of-clause-err : goal.returns-in_err-write_all_of-clause-err
returns-in_err-write_all_of-clause-err g c =
    let start = outside (g.S.Source.left c.args.src.now) (g.S.Source.faults c.args.src.now) (g.K.Sink.written c.args.sink.now) (g.K.Sink.faults c.args.sink.now) in
    let now = outside (g.S.Source.left c.open_batch.new.src) (g.S.Source.faults c.open_batch.new.src) (g.K.Sink.written c.write_all_of.new.sink) (g.K.Sink.faults c.write_all_of.new.sink) in
    let prefix : List ℕ → Type 0 = λ bytes. AppendsPrefix start.written now.written bytes in
    at_this c.from_residual-in_err-write_all_of.result WriteFault (λ halt. HasHalted c.args.given start now halt) c.from_residual-in_err-write_all_of.ensures.1
    (heading_halted c.args.given start now c.in_ok-opened.opened.intake c.in_ok-opened.opened.audit c.in_ok-opened.ensures.ok (subst prefix c.heading.ensures c.in_err-write_all_of.ensures.err) c.in_err-write_all_of.ensures.cause.failed)

pub returns-clause-err : goal.returns-clause-err
returns-clause-err g c =
    let start = outside (g.S.Source.left c.args.src.now) (g.S.Source.faults c.args.src.now) (g.K.Sink.written c.args.sink.now) (g.K.Sink.faults c.args.sink.now) in
    let now = outside (g.S.Source.left c.open_batch.new.src) (g.S.Source.faults c.open_batch.new.src) (g.K.Sink.written c.write_all_of.new.sink) (g.K.Sink.faults c.write_all_of.new.sink) in
    let appends : List ℕ → Type 0 = λ bytes. Appends start.written now.written bytes in
    some_at _ _ _ c.in-Some.is
    (c.serve-docket.ensures.some c.args.given start
    (opened_so c.args.given start now c.in_ok-opened.opened.intake c.in_ok-opened.opened.audit c.in_ok-opened.ensures.ok (subst appends c.heading.ensures c.in_ok-write_all_of.ensures.ok) c.in_ok-opened.ensures.kept c.in_ok-write_all_of.ensures.cause.same))

pub returns-in-None-clause-ok : goal.returns-in-None-clause-ok
returns-in-None-clause-ok g c =
    let start = outside (g.S.Source.left c.args.src.now) (g.S.Source.faults c.args.src.now) (g.K.Sink.written c.args.sink.now) (g.K.Sink.faults c.args.sink.now) in
    let now = outside (g.S.Source.left c.open_batch.new.src) (g.S.Source.faults c.open_batch.new.src) (g.K.Sink.written c.write_all_of.new.sink) (g.K.Sink.faults c.write_all_of.new.sink) in
    let end = outside (g.S.Source.left c.serve-docket.new.src) (g.S.Source.faults c.serve-docket.new.src) (g.K.Sink.written c.serve-docket.new.sink) (g.K.Sink.faults c.serve-docket.new.sink) in
    let docket = c.serve-docket.result in
    let appends : List ℕ → Type 0 = λ bytes. Appends start.written now.written bytes in
    subst (λ (stray : ℕ). IsDecided c.args.given start end docket.audit stray (jobs_by docket.intake) docket.decisions.items) (sym c.stray.ensures)
    (c.serve-docket.ensures.all c.args.given start
    (opened_so c.args.given start now c.in_ok-opened.opened.intake c.in_ok-opened.opened.audit c.in_ok-opened.ensures.ok (subst appends c.heading.ensures c.in_ok-write_all_of.ensures.ok) c.in_ok-opened.ensures.kept c.in_ok-write_all_of.ensures.cause.same)
    c.in-None.is).all
