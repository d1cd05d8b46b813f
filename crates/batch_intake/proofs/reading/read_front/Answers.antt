use Rattle.std.proofs.Common.{[], ◌++◌, Some, arith, ap, sym, ◌∙◌}
use Rattle.std.proofs.KnownBytes.{Consumes-trans}
use Rattle.std.proofs.lemmas.List.{length-append}
use Rattle.batch_intake.specs.declared.halt.Halt.TheVariants.{NoMemory}
use Rattle.batch_intake.specs.Taking.{StopsFront}
use Rattle.batch_intake.proofs.Results.{at_this}
use Rattle.batch_intake.proofs.Takings.{feeding_stops, whole_opens, whole_stops}
use Rattle.batch_intake.proofs.reading.read_front.Goals as goal

pub returns-in_err-more-clause-err : goal.returns-in_err-more-clause-err
returns-in_err-more-clause-err g c =
    at_this c.from_residual-in_err-more.result c.in_err-more.field-0.0 (λ halt. StopsFront (g.S.Source.left c.args.src.now) (g.S.Source.left c.feed_piece.new.src) (g.S.Source.faults c.args.src.now) (g.S.Source.faults c.feed_piece.new.src) halt)
    c.from_residual-in_err-more.ensures.1
    (feeding_stops c.args.given c.loop-reader.reader _ _ _ _ _ _ c.in_err-more.field-0.0 c.loop-reader.invariant.0 c.loop-reader.invariant.1 c.loop-reader.invariant.2 c.loop-reader.invariant.3 c.in_err-more.ensures.err)

pub returns-in_err-accounts-clause-err : goal.returns-in_err-accounts-clause-err
returns-in_err-accounts-clause-err g c =
    let fed = c.in_ok-more.ensures.ok in
    at_this c.from_residual-in_err-accounts.result NoMemory (λ halt. StopsFront (g.S.Source.left c.args.src.now) (g.S.Source.left c.feed_piece.new.src) (g.S.Source.faults c.args.src.now) (g.S.Source.faults c.feed_piece.new.src) halt)
    c.from_residual-in_err-accounts.ensures.1
    (record { input = c.loop-reader.invariant.0 ++ fed.piece; read = Consumes-trans _ _ _ _ _ c.loop-reader.invariant.1 fed.read; cause = tt })

pub returns-in_err-intake-clause-err : goal.returns-in_err-intake-clause-err
returns-in_err-intake-clause-err g c =
    let fed = c.in_ok-more.ensures.ok in
    at_this c.from_residual-in_err-intake.result NoMemory (λ halt. StopsFront (g.S.Source.left c.args.src.now) (g.S.Source.left c.feed_piece.new.src) (g.S.Source.faults c.args.src.now) (g.S.Source.faults c.feed_piece.new.src) halt)
    c.from_residual-in_err-intake.ensures.1
    (record { input = c.loop-reader.invariant.0 ++ fed.piece; read = Consumes-trans _ _ _ _ _ c.loop-reader.invariant.1 fed.read; cause = tt })

pub returns-in-Some-clause-ok : goal.returns-in-Some-clause-ok
returns-in-Some-clause-ok g c =
    let fed = c.in_ok-more.ensures.ok in
    let input = c.loop-reader.invariant.0 ++ fed.piece in
    let stands = fed.fed c.args.given [] c.loop-reader.invariant.0 c.loop-reader.invariant.2 in
    record {
      input = input;
      read = Consumes-trans _ _ _ _ _ c.loop-reader.invariant.1 fed.read;
      known = c.in_ok-intake.ensures c.args.given (g.S.Source.left c.feed_piece.new.src) c.in_ok-accounts.accounts.items input stands (c.in-Some.ensures.known c.args.given [] input stands ∙ ap Some (sym c.in_ok-accounts.ensures.items));
      few = rw c.in_ok-accounts.ensures.items c.in-Some.ensures.few;
    }

pub returns-else-more-clause-ok : goal.returns-else-more-clause-ok
returns-else-more-clause-ok g c =
    let fed = c.in_ok-more.ensures.ok in
    let input = c.loop-reader.invariant.0 ++ fed.piece in
    whole_opens c.args.given c.whole.result _ _ input (Consumes-trans _ _ _ _ _ c.loop-reader.invariant.1 fed.read) (fed.to_end c.if-more.false)
    (c.whole.ensures.ok c.args.given input (fed.fed c.args.given [] c.loop-reader.invariant.0 c.loop-reader.invariant.2))

pub returns-else-more-clause-err : goal.returns-else-more-clause-err
returns-else-more-clause-err g c =
    let fed = c.in_ok-more.ensures.ok in
    let input = c.loop-reader.invariant.0 ++ fed.piece in
    whole_stops c.whole.result _ _ _ _ input (Consumes-trans _ _ _ _ _ c.loop-reader.invariant.1 fed.read) (fed.to_end c.if-more.false)
    (c.whole.ensures.large c.args.given input (fed.fed c.args.given [] c.loop-reader.invariant.0 c.loop-reader.invariant.2)) c.whole.ensures.read c.whole.ensures.write

pub loop-reader-preserved : goal.loop-reader-preserved
loop-reader-preserved g c =
    let fed = c.in_ok-more.ensures.ok in
    let input = c.loop-reader.invariant.0 in (
      input ++ fed.piece,
      Consumes-trans _ _ _ _ _ c.loop-reader.invariant.1 fed.read,
      fed.fed c.args.given [] input c.loop-reader.invariant.2,
      fed.kept ∙ c.loop-reader.invariant.3,
    )

pub loop-reader-smaller : goal.loop-reader-smaller
loop-reader-smaller g c =
    let fed = c.in_ok-more.ensures.ok in
    let input = c.loop-reader.invariant.0 in
    let stands = c.loop-reader.invariant.2 in
    let now = fed.fed c.args.given [] input stands in
    omega (arith, stands.fed_is, now.fed_is, now.few_bytes, length-append input fed.piece, fed.some c.if-more.true)
