use Rattle.std.proofs.Common.{◌≡◌, true, ◌++◌, List}
use Rattle.std.specs.List.{list_all}
use Rattle.toml.specs.View.{members_view}
use Rattle.toml.proofs.Views.{Entry}
use Rattle.accounts_text.specs.Text.{is_account, members_of}
use Rattle.night_shares.proofs.accounts.accounts_in.Given as goal

-- the accounts so far are those that the entries so far state
abbrev pub invariant-entries : goal.invariant-entries
invariant-entries l =
    goal.iterator-entries.can_next l.name-iterator
    × goal.iterator-entries.is_finite l.name-iterator
    × (done : List Entry) × (l.fn.table.entries ≡ done ++ l.name-iterator)
    × (members_view done ≡ members_of l.accounts.items) × (list_all is_account l.accounts.items ≡ true)
