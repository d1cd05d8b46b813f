-- What a part of an input tells of the whole.
use Rattle.std.specs.Prelude.{◌≡◌, ℕ, List, ◌++◌, Option, Some}
use Rattle.deck_reader.specs.declared.batch.Account.{Account}
use Rattle.deck_reader.specs.Batch.{batch_with, ended_jobs, known_accounts, known_libraries, shelf_of}
use Rattle.deck_reader.specs.Cards.{cards}
use Rattle.deck_reader.specs.LibraryView.{Shelved}
use Rattle.deck_reader.specs.JobView.{JobView}

-- the jobs that a part of an input has ended are the first jobs of the whole, whatever accounts are given
abbrev pub JobsStay : Type 0
JobsStay = (given : Option (List Account)) (input more : List ℕ) → (rest : List JobView) × ((batch_with given (input ++ more)).jobs ≡ ended_jobs given input ++ rest)

-- the accounts that are known from a part of an input are those of the whole
abbrev pub AccountsStay : Type 0
AccountsStay = (given : Option (List Account)) (input more : List ℕ) (accounts : List Account) → known_accounts given input ≡ Some accounts → (batch_with given (input ++ more)).accounts ≡ accounts

-- so are the libraries
abbrev pub LibrariesStay : Type 0
LibrariesStay = (input more : List ℕ) (shelf : List Shelved) → known_libraries input ≡ Some shelf → shelf_of (cards (input ++ more)) ≡ shelf
