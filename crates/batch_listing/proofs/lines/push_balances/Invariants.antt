use Rattle.std.proofs.Common.{◌≡◌, ◌++◌, drop}
use Rattle.batch_listing.specs.Texts.{balance_lines}
use Rattle.batch_listing.proofs.lines.push_balances.Given as goal

abbrev pub invariant-loop-i : goal.invariant-loop-i
invariant-loop-i l = l.out.items ++ balance_lines (drop l.i l.accounts) (drop l.i l.balances) ≡ l.initial.out.items ++ balance_lines l.accounts l.balances
