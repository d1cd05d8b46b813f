use Rattle.std.proofs.Common.{Err, ap, arith, take}
use Rattle.std.proofs.lemmas.List.{length-take}
use Rattle.deck_reader.specs.declared.reader.FeedError.{FeedError}
use Rattle.batch_intake.specs.Halts.{halt_of}
use Rattle.batch_intake.specs.Taking.{StopsFeeding}
use Rattle.batch_intake.proofs.Results.{at_this}
use Rattle.batch_intake.proofs.Takings.{piece_refused}
use Rattle.batch_intake.proofs.reading.feed_piece.Goals as goal

pub returns-in_err-feed-clause-err : goal.returns-in_err-feed-clause-err
returns-in_err-feed-clause-err g c =
    let error = c.in_err-feed.field-0.0 in
    at_this c.from_residual-in_err-feed.result (halt_of error) (λ halt. StopsFeeding c.args.reader.now (g.S.Source.left c.args.src.now) (g.S.Source.left c.read.new.self) (g.S.Source.faults c.args.src.now) (g.S.Source.faults c.read.new.self) halt)
    c.from_residual-in_err-feed.ensures.1
    (piece_refused c.args.reader.now _ _ _ _ (take c.in_ok-count.count c.read.new.buf) error c.in_ok-count.ensures.bytes.0
    (λ given taken input stands is. c.in_err-feed.ensures.large given taken input stands (ap (λ (e : FeedError). Err e) is)))

pub returns-clause-ok : goal.returns-clause-ok
returns-clause-ok g c = record {
  piece = take c.in_ok-count.count c.read.new.buf;
  read = c.in_ok-count.ensures.bytes.0;
  fed = c.in_ok-feed.ensures.fed;
  some = λ _. omega (arith, length-take c.in_ok-count.count c.read.new.buf, c.in_ok-count.ensures.bound, c.if-count-eq0.false);
  to_end = λ none. cc;
  kept = c.in_ok-count.ensures.cause.same;
}
