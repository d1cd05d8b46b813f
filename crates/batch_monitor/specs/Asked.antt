-- What is written for a batch, by what is asked for.
use Rattle.std.specs.Prelude.{ℕ, ◌≡◌, Bool, true, false, List, []}
use Rattle.deck_reader.specs.declared.batch.Batch.{Batch}
use Rattle.accounts_text.specs.Text.{AccountsList}
use Rattle.batch_monitor.specs.declared.asked.Asked.{Asked}
use Rattle.batch_listing.specs.Listing.{closing_accounts_of, listing_of}
use Rattle.batch_runner.specs.Board.{IsBoardLine}

-- what is written for a batch
abbrev pub text_for : Asked → Batch → List ℕ
text_for asked b = listing_of b

-- what is written behind it: a line of the operator's board, where it is asked for, and otherwise nothing
abbrev pub IsBoard : Bool → List ℕ → Type 0
IsBoard true text = IsBoardLine text
IsBoard false text = text ≡ []

-- what is written to the accounts file for a batch: a text that states the closing balances, where it is asked for, and otherwise nothing
abbrev pub IsBalances : Bool → Batch → List ℕ → Type 0
IsBalances true b text = AccountsList text (closing_accounts_of b)
IsBalances false b text = text ≡ []
