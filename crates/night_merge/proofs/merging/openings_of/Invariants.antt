use Rattle.std.proofs.Common.{◌≡◌, ◌++◌, drop, map}
use Rattle.night_merge.proofs.merging.openings_of.Given as goal

abbrev pub invariant-loop-account : goal.invariant-loop-account
invariant-loop-account l = l.openings.items ++ map (λ account. account.opening) (drop l.account-index l.accounts) ≡ map (λ account. account.opening) l.accounts
