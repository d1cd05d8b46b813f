use Rattle.std.proofs.Common.{◌∙◌, sym, subst}
use Rattle.batch_monitor.specs.Asked.{IsBoard}
use Rattle.batch_monitor.proofs.Boards.{board_shows, part_of_line, part_of_listing, part_of_whole, written_so}
use Rattle.batch_monitor.proofs.Closings.{closed_in_part_so, closed_so, closed_without}
use Rattle.batch_monitor.proofs.Known.{at_err, if_ok, not_so, part_of, so}
use Rattle.batch_monitor.proofs.run.run_given.Goals as goal

pub returns-in_err-written-clause-cut : goal.returns-in_err-written-clause-cut
returns-in_err-written-clause-cut g c = at_err c.from_residual.result (part_of_listing c.args.asked c.args.given _ _ _ _ c.in_err-written.ensures.cut)

pub returns-in_err-write_all_of-clause-cut : goal.returns-in_err-write_all_of-clause-cut
returns-in_err-write_all_of-clause-cut g c =
    let shows = subst (IsBoard c.args.asked.board) (sym (c.as_slice.ensures.value ∙ c.line_text-line.ensures)) (board_shows c.args.asked.board _ c.in_ok-written.ensures.line) in
    at_err c.from_residual-in_err-write_all_of.result (part_of_line c.args.asked c.args.given _ _ _ _ _ _ c.in_ok-written.ensures.done c.as_slice.result.now shows c.in_err-write_all_of.ensures.err)

pub returns-then-not-asked-clause-done : goal.returns-then-not-asked-clause-done
returns-then-not-asked-clause-done g c =
    let shows = subst (IsBoard c.args.asked.board) (sym (c.as_slice.ensures.value ∙ c.line_text-line.ensures)) (board_shows c.args.asked.board _ c.in_ok-written.ensures.line) in
    closed_without c.args.asked c.args.given _ _ _ _ (g.B.Sink.written c.args.accounts_sink.now) _
    (written_so c.args.asked c.args.given _ _ _ _ _ _ c.in_ok-written.ensures.done c.as_slice.result.now shows c.in_ok-write_all_of.ensures.ok) (not_so c.args.asked.accounts c.if-not-asked.true)

pub returns-clause-done : goal.returns-clause-done
returns-clause-done g c =
    let listed = c.in_ok-written.ensures.done in
    let shows = subst (IsBoard c.args.asked.board) (sym (c.as_slice.ensures.value ∙ c.line_text-line.ensures)) (board_shows c.args.asked.board _ c.in_ok-written.ensures.line) in
    if_ok c.write_balances.result (c.write_balances.ensures.done _ listed.behind)
    (closed_so c.args.asked c.args.given _ _ _ _ _ (g.B.Sink.written c.args.accounts_sink.now) (g.B.Sink.written c.write_balances.new.sink) c.in_ok-written.written.audit listed
    (written_so c.args.asked c.args.given _ _ _ _ _ _ listed c.as_slice.result.now shows c.in_ok-write_all_of.ensures.ok) (so c.args.asked.accounts c.if-not-asked.false))

pub returns-clause-cut : goal.returns-clause-cut
returns-clause-cut g c =
    let shows = subst (IsBoard c.args.asked.board) (sym (c.as_slice.ensures.value ∙ c.line_text-line.ensures)) (board_shows c.args.asked.board _ c.in_ok-written.ensures.line) in
    at_err c.write_balances.result
    (part_of_whole c.args.asked c.args.given _ _ _ _ _ (written_so c.args.asked c.args.given _ _ _ _ _ _ c.in_ok-written.ensures.done c.as_slice.result.now shows c.in_ok-write_all_of.ensures.ok))

pub returns-clause-balances : goal.returns-clause-balances
returns-clause-balances g c =
    let listed = c.in_ok-written.ensures.done in
    let shows = subst (IsBoard c.args.asked.board) (sym (c.as_slice.ensures.value ∙ c.line_text-line.ensures)) (board_shows c.args.asked.board _ c.in_ok-written.ensures.line) in
    part_of _ c.write_balances.result (c.write_balances.ensures.cut _ listed.behind)
    (closed_in_part_so c.args.asked c.args.given _ _ _ _ _ (g.B.Sink.written c.args.accounts_sink.now) (g.B.Sink.written c.write_balances.new.sink) c.in_ok-written.written.audit listed
    (written_so c.args.asked c.args.given _ _ _ _ _ _ listed c.as_slice.result.now shows c.in_ok-write_all_of.ensures.ok) (so c.args.asked.accounts c.if-not-asked.false))
