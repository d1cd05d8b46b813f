use Rattle.std.proofs.Common.{◌+◌, ◌∷◌, Some, map, drop, refl, sym, ap, ◌∙◌}
use Rattle.std.proofs.lemmas.List.{drop_more}
use Rattle.deck_reader.specs.JobView.{JobView}
use Rattle.batch_intake.specs.declared.halt.Halt.TheVariants.{NoMemory, WriteFault}
use Rattle.batch_runner.specs.Outcome.{outside}
use Rattle.batch_runner.specs.Progress.{GoesOn, progress}
use Rattle.batch_runner.proofs.Progressing.{left_of, halts_next, stops_anywhere, writes_next}
use Rattle.batch_intake.proofs.Results.{at_this}
use Rattle.batch_runner.proofs.clerk.Clerk+S+K+Docket.write_section.Goals as goal

pub returns-in_err-section-clause-err : goal.returns-in_err-section-clause-err
returns-in_err-section-clause-err g c =
    at_this c.from_residual.result NoMemory (λ halt. GoesOn _ (progress (record c.args.self.now.docket { audit = c.section.new.self; desk = c.section.new.desk; halt = Some halt }) (outside (g.S.Source.left c.args.self.now.src.now) (g.S.Source.faults c.args.self.now.src.now) (g.K.Sink.written c.args.self.now.sink.now) (g.K.Sink.faults c.args.self.now.sink.now))))
    c.from_residual.ensures.1
    (stops_anywhere _ _ c.requires.free refl refl)

pub returns-in_err-keep-clause-err : goal.returns-in_err-keep-clause-err
returns-in_err-keep-clause-err g c =
    at_this c.from_residual-in_err-keep.result NoMemory (λ halt. GoesOn _ (progress (record c.args.self.now.docket { audit = c.section.new.self; desk = c.section.new.desk; decisions = c.keep.new.decisions; halt = Some halt }) (outside (g.S.Source.left c.args.self.now.src.now) (g.S.Source.faults c.args.self.now.src.now) (g.K.Sink.written c.args.self.now.sink.now) (g.K.Sink.faults c.args.self.now.sink.now))))
    c.from_residual-in_err-keep.ensures.1
    (stops_anywhere _ _ c.requires.free refl refl)

pub returns-in_err-write_all_of-clause-err : goal.returns-in_err-write_all_of-clause-err
returns-in_err-write_all_of-clause-err g c =
    let items = c.args.self.now.docket.intake.jobs.items in
    let job : JobView = c.index-job.result.now.value in
    at_this c.from_residual-in_err-write_all_of.result WriteFault (λ halt. GoesOn _ (progress (record c.args.self.now.docket { audit = c.section.new.self; desk = c.section.new.desk; decisions = c.keep.new.decisions; halt = Some halt }) (outside (g.S.Source.left c.args.self.now.src.now) (g.S.Source.faults c.args.self.now.src.now) (g.K.Sink.written c.write_all_of.new.sink) (g.K.Sink.faults c.write_all_of.new.sink))))
    c.from_residual-in_err-write_all_of.ensures.1
    (halts_next _ _ job (map (λ j. j.value) (drop (c.args.self.now.docket.written + 1) items)) c.as_slice.result.now (record {
      free = c.requires.free;
      left = left_of (λ j. j.value) items c.args.self.now.docket.written _ _ (drop_more items c.args.self.now.docket.written c.index-job.result.now c.requires.more ∙ ap (λ j. j ∷ drop (c.args.self.now.docket.written + 1) items) (sym c.index-job.ensures));
      intake = refl;
      accounts = c.in_ok-section.ensures.accounts;
      source = refl;
      read_faults = refl;
      text = λ earlier h. c.as_slice.ensures.value ∙ c.in_ok-section.ensures.text earlier h;
    })
    (record { halted = refl; wrote = c.in_err-write_all_of.ensures.err; cause = c.in_err-write_all_of.ensures.cause.failed }))

pub returns-clause-ok : goal.returns-clause-ok
returns-clause-ok g c =
    let items = c.args.self.now.docket.intake.jobs.items in
    let job : JobView = c.index-job.result.now.value in
    writes_next _ _ job (map (λ j. j.value) (drop (c.args.self.now.docket.written + 1) items)) c.as_slice.result.now (record {
      free = c.requires.free;
      left = left_of (λ j. j.value) items c.args.self.now.docket.written _ _ (drop_more items c.args.self.now.docket.written c.index-job.result.now c.requires.more ∙ ap (λ j. j ∷ drop (c.args.self.now.docket.written + 1) items) (sym c.index-job.ensures));
      intake = refl;
      accounts = c.in_ok-section.ensures.accounts;
      source = refl;
      read_faults = refl;
      text = λ earlier h. c.as_slice.ensures.value ∙ c.in_ok-section.ensures.text earlier h;
    })
    (record {
      free = c.requires.free;
      count = refl;
      behind = c.in_ok-section.ensures.behind;
      tally = c.in_ok-section.ensures.tally;
      decided = λ earlier h. c.in_ok-keep.ensures _ (c.decision.ensures ∙ c.in_ok-section.ensures.last earlier h);
      wrote = c.in_ok-write_all_of.ensures.ok;
      faults = c.in_ok-write_all_of.ensures.cause.same;
    })
