use Rattle.night_merge.proofs.ClosingLines.{pushed_line}
use Rattle.night_merge.proofs.closing.push_closing_line.Goals as goal

pub returns : goal.returns
returns c =
    pushed_line _ _ _ _ _ _ _ _ _ c.args.name.now c.args.opening c.args.left _ c.saturating_sub.ensures c.in_ok-extend_from_slice.ensures.items c.in_ok-extend_from_slice-2.ensures.items
    c.in_ok-push_number.ensures c.in_ok-extend_from_slice-3.ensures.items c.in_ok-push_number-2.ensures c.in_ok-extend_from_slice-4.ensures.items c.in_ok-push_number-3.ensures c.in_ok-push.ensures.items
