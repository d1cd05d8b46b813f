use Rattle.std.proofs.Common.{◌≡◌, ◌++◌, drop}
use Rattle.std.specs.List.{flat_map}
use Rattle.night_shares.specs.Plan.{account_row, front_rows}
use Rattle.night_shares.proofs.rows.front_rows.Given as goal

-- the lines that are made and those to come are all
abbrev pub invariant-loop-account : goal.invariant-loop-account
invariant-loop-account l = l.text.items ++ flat_map account_row (drop l.account-index l.accounts) ≡ front_rows l.fn.chains l.accounts
