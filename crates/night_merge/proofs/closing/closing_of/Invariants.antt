use Rattle.std.proofs.Common.{◌≡◌, ◌++◌, drop, slice_index}
use Rattle.night_merge.specs.Texts.{closing_lines, closing_title}
use Rattle.night_merge.proofs.closing.closing_of.Given as goal

abbrev pub invariant-loop-at : goal.invariant-loop-at
invariant-loop-at l = l.out.items ++ closing_lines (slice_index l.left) l.at (drop l.at l.accounts) ≡ closing_title ++ closing_lines (slice_index l.left) 0 l.accounts
