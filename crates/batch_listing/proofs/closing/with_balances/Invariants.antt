use Rattle.std.proofs.Common.{◌≡◌, ◌++◌, drop}
use Rattle.batch_listing.specs.Behind.{with_balances}
use Rattle.batch_listing.proofs.closing.with_balances.Given as goal

-- what is made and what is to come are all
abbrev pub invariant-loop-i : goal.invariant-loop-i
invariant-loop-i l = l.closed.items ++ with_balances (drop l.i l.accounts) (drop l.i l.balances) ≡ with_balances l.accounts l.balances
