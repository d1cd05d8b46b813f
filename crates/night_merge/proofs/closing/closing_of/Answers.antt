use Rattle.std.proofs.Common.{slice_index, arith}
use Rattle.night_merge.proofs.ClosingLines.{closing_ends}
use Rattle.night_merge.proofs.closing.closing_of.Goals as goal

pub returns : goal.returns
returns c =
    closing_ends (slice_index c.args.left.now) c.loop-at.at c.args.accounts.now _ _ _ _ c.args.stray (omega arith) c.loop-at.invariant c.in_ok-extend_from_slice-2.ensures.items c.in_ok-push_number.ensures
    c.in_ok-push.ensures.items
