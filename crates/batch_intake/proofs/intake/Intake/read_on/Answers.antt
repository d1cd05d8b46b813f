use Rattle.std.proofs.Common.{Some, refl}
use Rattle.batch_intake.specs.Taking.{StopsReading}
use Rattle.batch_intake.proofs.Results.{at_this}
use Rattle.batch_intake.proofs.Takings.{if_ok, reading_stops, reads_so, reads_to_end, stops_at_end}
use Rattle.batch_intake.proofs.intake.Intake.read_on.Goals as goal

pub returns-then-branch-clause-ok : goal.returns-then-branch-clause-ok
returns-then-branch-clause-ok g c =
    reads_so c.args.self.now (record c.args.self.now { reader = Some c.take_ended.new.reader; jobs = c.take_ended.new.jobs }) c.in-Some.reader c.feed_piece.new.reader c.take_ended.new.reader
    (g.S.Source.left c.args.src.now) (g.S.Source.left c.feed_piece.new.src) (g.S.Source.faults c.args.src.now) (g.S.Source.faults c.feed_piece.new.src) c.in_ok-feed_piece.field-0
    c.in-Some.is refl c.in_ok-feed_piece.ensures.ok c.in_ok-take_ended.ensures.stands c.in_ok-take_ended.ensures.more

pub returns-in_err-feed_piece-clause-err : goal.returns-in_err-feed_piece-clause-err
returns-in_err-feed_piece-clause-err g c =
    at_this c.from_residual.result c.in_err-feed_piece.field-0.0 (λ halt. StopsReading c.args.self.now (g.S.Source.left c.args.src.now) (g.S.Source.left c.feed_piece.new.src) (g.S.Source.faults c.args.src.now) (g.S.Source.faults c.feed_piece.new.src) halt)
    c.from_residual.ensures.1
    (reading_stops c.args.self.now c.in-Some.reader _ _ _ _ c.in_err-feed_piece.field-0.0 c.in-Some.is c.in_err-feed_piece.ensures.err)

pub returns-clause-ok : goal.returns-clause-ok
returns-clause-ok g c = if_ok c.end.result c.end.ensures.ok (λ ends.
    reads_to_end c.args.self.now c.end.new.self c.in-Some.reader c.feed_piece.new.reader
    (g.S.Source.left c.args.src.now) (g.S.Source.left c.feed_piece.new.src) (g.S.Source.faults c.args.src.now) (g.S.Source.faults c.feed_piece.new.src) c.in_ok-feed_piece.field-0
    c.in-Some.is c.in_ok-feed_piece.ensures.ok c.if-branch.false ends)

pub returns-clause-err : goal.returns-clause-err
returns-clause-err g c =
    stops_at_end c.end.result c.args.self.now c.in-Some.reader c.feed_piece.new.reader
    (g.S.Source.left c.args.src.now) (g.S.Source.left c.feed_piece.new.src) (g.S.Source.faults c.args.src.now) (g.S.Source.faults c.feed_piece.new.src) c.in_ok-feed_piece.field-0
    c.in-Some.is c.in_ok-feed_piece.ensures.ok c.if-branch.false c.end.ensures.large c.end.ensures.read c.end.ensures.write
