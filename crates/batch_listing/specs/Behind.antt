-- How far the audit of a batch has come, and which jobs it runs itself.
use Rattle.std.specs.Prelude.{ℕ, ◌≡◌, List, [], ◌∷◌, Option, Some, None, map}
use Rattle.deck_reader.specs.declared.batch.Account.{Account}
use Rattle.deck_reader.specs.JobView.{JobView}
use Rattle.account_book.specs.BookView.{BookView, openings_of}
use Rattle.account_book.specs.Places.{balances_behind}
use Rattle.algolw_meaning.specs.declared.brought.Brought.{Brought}
use Rattle.algolw_meaning.specs.declared.brought.Brought.TheVariants as brought
use Rattle.algolw_meaning.specs.Charging.{charged}

-- the balances of a book are those behind these jobs
abbrev pub IsBehind : BookView → List JobView → Type 0
IsBehind book jobs = book.balances ≡ balances_behind (openings_of book.accounts) (map charged jobs)

-- a result was brought that is for this job
abbrev pub Fits : Option Brought → JobView → Type 0
Fits None job = ⊥
Fits (Some brought.Refused) job = ⊥
Fits (Some (brought.Ended ended)) job = ended.job ≡ job

-- each account with its balance as its opening
abbrev pub with_balances : List Account → List ℕ → List Account
with_balances [] balances = []
with_balances (account ∷ accounts) [] = []
with_balances (account ∷ accounts) (balance ∷ balances) = record { name = account.name; opening = balance } ∷ with_balances accounts balances
