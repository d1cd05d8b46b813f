use Rattle.std.proofs.Common.{subst}
use Rattle.algolw_scanner.proofs.Chain.{kept_skip, kept_token, kept_finish, kept_fault, kept_as, finish_as}
use Rattle.algolw_scanner.specs.Cursors.{IsNext}
use Rattle.algolw_scanner.proofs.scanning.tokens_from.Goals as goal

pub pieces-preserved-in-Token : goal.pieces-preserved-in-Token
pieces-preserved-in-Token c =
    kept_as c.args.start c.in-Token.next _ _ _ _ c.in_ok-keep-in-Token.ensures c.is_end-ends.ensures (kept_token c.args.start c.pieces.cursor c.in-Token.next c.pieces.tokens.items c.pieces.after_end c.next_piece.new.kind c.pieces.invariant (subst (λ n. IsNext c.pieces.cursor c.next_piece.new.kind n) c.in-Token.is c.in_ok-piece.ensures))

pub pieces-preserved : goal.pieces-preserved
pieces-preserved c = kept_skip c.args.start c.pieces.cursor c.in-Skipped.next c.pieces.tokens.items c.pieces.after_end c.pieces.invariant (subst (λ n. IsNext c.pieces.cursor c.next_piece.new.kind n) c.in-Skipped.is c.in_ok-piece.ensures)

pub pieces-preserved-in-Skipped : goal.pieces-preserved-in-Skipped
pieces-preserved-in-Skipped c = kept_skip c.args.start c.pieces.cursor c.in-Skipped.next c.pieces.tokens.items c.pieces.after_end c.pieces.invariant (subst (λ n. IsNext c.pieces.cursor c.next_piece.new.kind n) c.in-Skipped.is c.in_ok-piece.ensures)

pub pieces-preserved-in-Skipped-2 : goal.pieces-preserved-in-Skipped-2
pieces-preserved-in-Skipped-2 c = kept_skip c.args.start c.pieces.cursor c.in-Skipped.next c.pieces.tokens.items c.pieces.after_end c.pieces.invariant (subst (λ n. IsNext c.pieces.cursor c.next_piece.new.kind n) c.in-Skipped.is c.in_ok-piece.ensures)

pub pieces-preserved-in-Skipped-3 : goal.pieces-preserved-in-Skipped-3
pieces-preserved-in-Skipped-3 c = kept_skip c.args.start c.pieces.cursor c.in-Skipped.next c.pieces.tokens.items c.pieces.after_end c.pieces.invariant (subst (λ n. IsNext c.pieces.cursor c.next_piece.new.kind n) c.in-Skipped.is c.in_ok-piece.ensures)

pub pieces-preserved-in-Skipped-4 : goal.pieces-preserved-in-Skipped-4
pieces-preserved-in-Skipped-4 c = kept_skip c.args.start c.pieces.cursor c.in-Skipped.next c.pieces.tokens.items c.pieces.after_end c.pieces.invariant (subst (λ n. IsNext c.pieces.cursor c.next_piece.new.kind n) c.in-Skipped.is c.in_ok-piece.ensures)

pub returns-in-Finished : goal.returns-in-Finished
returns-in-Finished c =
    finish_as c.args.start _ _ c.in_ok-keep-in-Finished.ensures (kept_finish c.args.start c.pieces.cursor c.pieces.tokens.items c.pieces.after_end c.in-Finished.place c.pieces.invariant (subst (λ n. IsNext c.pieces.cursor c.next_piece.new.kind n) c.in-Finished.is c.in_ok-piece.ensures))

pub returns-in-Fault : goal.returns-in-Fault
returns-in-Fault c = kept_fault c.args.start c.pieces.cursor c.pieces.tokens.items c.pieces.after_end c.in-Fault.diagnostic c.pieces.invariant (subst (λ n. IsNext c.pieces.cursor c.next_piece.new.kind n) c.in-Fault.is c.in_ok-piece.ensures)
