-- What charges keep.
use Rattle.std.specs.Prelude.{ℕ, ◌≡◌, ◌≤◌, List, slice_index}
use Rattle.deck_reader.specs.JobView.{JobView}
use Rattle.account_book.specs.declared.charges.Counts.{Counts}
use Rattle.account_book.specs.Charges.{charge, reserve}
use Rattle.account_book.specs.Places.{Claim, place_balance, balances_behind}

-- a job that kept its limits is charged at least its cards and at most its reserve
abbrev pub ChargeWithin : Type 0
ChargeWithin = (counts : Counts) (job : JobView) → counts.cards ≡ job.cards → counts.steps ≤ job.steps → counts.lines ≤ job.lines → (job.cards ≤ charge counts) × (charge counts ≤ reserve job)

-- a table of balances that is kept from claim to claim holds the balance of each account at each place
abbrev pub TableByPlaces : Type 0
TableByPlaces = (openings : List ℕ) (claims : List (Claim × ℕ)) (account : ℕ) → slice_index (balances_behind openings claims) account ≡ place_balance openings claims account
