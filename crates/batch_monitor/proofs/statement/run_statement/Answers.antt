use Rattle.std.proofs.Common.{◌≡◌, ◌⊎◌, inr, refl, subst}
use Rattle.std.specs.Io.KnownBytes.{Appends}
use Rattle.batch_listing.specs.Writing.{AppendsPrefix}
use Rattle.batch_intake.proofs.Results.{at_this}
use Rattle.batch_intake.specs.declared.halt.Halt.TheVariants.{WriteFault}
use Rattle.batch_monitor.specs.Stated.{WroteStatementInPart}
use Rattle.batch_monitor.proofs.Stating.{wrote_in_part, wrote_whole}
use Rattle.batch_monitor.proofs.statement.run_statement.Goals as goal

pub returns-in_err-write_all_of-clause-cut : goal.returns-in_err-write_all_of-clause-cut
returns-in_err-write_all_of-clause-cut g c =
    let prefix = subst (AppendsPrefix (g.K.Sink.written c.args.sink.now) (g.K.Sink.written c.write_all_of.new.sink)) c.as_slice.ensures.value c.in_err-write_all_of.ensures.err in
    at_this c.from_residual-in_err-write_all_of.result WriteFault
    (λ halt. (c.write_all_of.new.sink ≡ c.args.sink.now) ⊎ ((halt ≡ WriteFault) × WroteStatementInPart c.args.name.now (g.S.Source.left c.args.src.now) (g.S.Source.left c.make_statement.new.src) (g.K.Sink.written c.args.sink.now) (g.K.Sink.written c.write_all_of.new.sink)))
    c.from_residual-in_err-write_all_of.ensures.1
    (inr (refl, wrote_in_part c.args.name.now _ _ _ _ c.in_ok-text.text.items c.in_ok-text.ensures.done prefix))

pub returns-clause-done : goal.returns-clause-done
returns-clause-done g c =
    let whole = subst (Appends (g.K.Sink.written c.args.sink.now) (g.K.Sink.written c.write_all_of.new.sink)) c.as_slice.ensures.value c.in_ok-write_all_of.ensures.ok in
    wrote_whole c.args.name.now _ _ _ _ c.in_ok-text.text.items c.in_ok-text.ensures.done whole
