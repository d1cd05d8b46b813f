use Rattle.std.proofs.Common.{List, ℕ, sym, subst, arith}
use Rattle.night_shares.specs.Reading.{Fills, HasLongFirst, IsInLine, Moves, held}
use Rattle.night_shares.proofs.FirstLines.{end_taken, in_line_more, line_taken, long_line, moved}
use Rattle.night_shares.proofs.lines.Lines.next.Goals as goal

pub returns-then-branch-clause-line : goal.returns-then-branch-clause-line
returns-then-branch-clause-line g c = λ bytes is.
    let old = c.loop-line.self in
    let new = c.take_line.new.self in
    let left = g.S.Source.left c.loop-line.src in
    let before = c.loop-line.line.items in
    let text = c.take_line.new.line.items in
    let come = c.loop-line.invariant.2 bytes is in
    let moves = subst (Moves old new before text) c.if-branch.true c.in_ok-take_line.ensures in
    line_taken old new left bytes before text come.0 c.loop-line.invariant.0 come.1 come.2 moves

pub returns-then-len-gt-MOST_BYTES-clause-err : goal.returns-then-len-gt-MOST_BYTES-clause-err
returns-then-len-gt-MOST_BYTES-clause-err g c = λ bytes is.
    let old = c.loop-line.self in
    let new = c.take_line.new.self in
    let left = g.S.Source.left c.loop-line.src in
    let before = c.loop-line.line.items in
    let text = c.take_line.new.line.items in
    let come = c.loop-line.invariant.2 bytes is in
    let moves = subst (Moves old new before text) c.if-branch.false c.in_ok-take_line.ensures in
    let rest = moved old left bytes before text come.0 come.1 come.2 moves.2 in
    let none = subst (λ (t : List ℕ). IsInLine t) (sym moves.2) (in_line_more before (held old) c.loop-line.invariant.0 moves.0) in
    subst HasLongFirst (sym rest.2) (long_line text rest.0 none (omega (arith, c.len.ensures, c.if-len-gt-MOST_BYTES.true)))

pub returns-then-not-branch-clause-line : goal.returns-then-not-branch-clause-line
returns-then-not-branch-clause-line g c = λ bytes is.
    let old = c.loop-line.self in
    let new = c.take_line.new.self in
    let left = g.S.Source.left c.loop-line.src in
    let left' = g.S.Source.left c.fill.new.src in
    let before = c.loop-line.line.items in
    let text = c.take_line.new.line.items in
    let come = c.loop-line.invariant.2 bytes is in
    let moves = subst (Moves old new before text) c.if-branch.false c.in_ok-take_line.ensures in
    let rest = moved old left bytes before text come.0 come.1 come.2 moves.2 in
    let none = subst (λ (t : List ℕ). IsInLine t) (sym moves.2) (in_line_more before (held old) c.loop-line.invariant.0 moves.0) in
    let fills = subst (Fills c.fill.new.self left left') c.if-not-branch.true c.in_ok-fill.ensures.ok in
    end_taken c.in_ok-end_line.field-0 c.fill.new.self left left' bytes text rest.0 c.end_line.new.line.items none rest.1 rest.2 fills.0 fills.1 fills.2 c.in_ok-end_line.ensures
