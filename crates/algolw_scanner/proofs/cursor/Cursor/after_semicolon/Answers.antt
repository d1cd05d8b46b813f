use Rattle.std.proofs.Common.{refl, arith, [], ◌∷◌, get_or}
use Rattle.algolw_scanner.proofs.Steps.{first_rest, passed_char, passed_last, behind_shorter, not_eq_test}
use Rattle.algolw_scanner.proofs.cursor.Cursor.after_semicolon.Goals as goal

pub loop-cursor-preserved-then-cursor-lt1 : goal.loop-cursor-preserved-then-cursor-lt1
loop-cursor-preserved-then-cursor-lt1 c = passed_char c.args.self c.loop-cursor.cursor c.in-Some.next 10 refl c.loop-cursor.invariant c.in-Some.ensures

pub returns-then-c-eq59 : goal.returns-then-c-eq59
returns-then-c-eq59 c =
    passed_last c.args.self c.loop-cursor.cursor c.past-next.result (get_or c.loop-cursor.cursor.line.now 0 0) c.if-c-eq59.true c.loop-cursor.invariant (c.past-next.ensures _ (first_rest c.loop-cursor.cursor.line.now c.in-len1-up.len_at_least))

pub loop-cursor-smaller : goal.loop-cursor-smaller
loop-cursor-smaller c =
    behind_shorter c.loop-cursor.cursor c.past-next.result (get_or c.loop-cursor.cursor.line.now 0 0 ∷ []) (c.past-next.ensures _ (first_rest c.loop-cursor.cursor.line.now c.in-len1-up.len_at_least)) (omega arith)

pub loop-cursor-preserved : goal.loop-cursor-preserved
loop-cursor-preserved c =
    passed_char c.args.self c.loop-cursor.cursor c.past-next.result (get_or c.loop-cursor.cursor.line.now 0 0) (not_eq_test (get_or c.loop-cursor.cursor.line.now 0 0) 59 c.if-c-eq59.false) c.loop-cursor.invariant (c.past-next.ensures _ (first_rest c.loop-cursor.cursor.line.now c.in-len1-up.len_at_least))
