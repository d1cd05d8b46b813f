use Rattle.std.proofs.Common.{◌≡◌, ◌++◌, drop, slice_index}
use Rattle.night_merge.specs.Texts.{balance_lines, balances_file}
use Rattle.night_merge.proofs.closing.balances_of.Given as goal

abbrev pub invariant-loop-at : goal.invariant-loop-at
invariant-loop-at l = l.out.items ++ balance_lines (slice_index l.left) l.at (drop l.at l.accounts) ≡ balances_file (slice_index l.left) l.accounts
