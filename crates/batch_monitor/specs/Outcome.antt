-- What a run has written.
use Rattle.std.specs.Prelude.{ℕ, ◌≡◌, ◌⊎◌, ◌++◌, true, false, List, Option}
use Rattle.std.specs.Io.KnownBytes.{Appends, Consumes, IsAtEnd}
use Rattle.batch_io.specs.Causes.{Rose}
use Rattle.deck_reader.specs.declared.batch.Account.{Account}
use Rattle.deck_reader.specs.Batch.{batch_with, too_large}
use Rattle.batch_listing.specs.Writing.{AppendsPrefix}
use Rattle.operator_board.specs.declared.tallies.Tallies.{Tallies}
use Rattle.operator_board.specs.Tallies.{AddsUp}
use Rattle.batch_listing.specs.Listing.{listing_with}
use Rattle.batch_runner.specs.Board.{board_text}
use Rattle.batch_monitor.specs.declared.top.Status.{Status}
use Rattle.batch_monitor.specs.declared.top.Status.TheVariants as status
use Rattle.batch_monitor.specs.Accounts.{Given}
use Rattle.batch_monitor.specs.declared.asked.Asked.{Asked}
use Rattle.batch_monitor.specs.Asked.{IsBalances, IsBoard, text_for}
use Rattle.batch_monitor.specs.Made.{made_summary}

-- this is the whole source, it wasn't too large, and what is asked for was written whole
pub record IsWritten (asked : Asked) (given : Option (List Account)) (left left' written written' : Option (List ℕ)) (input : List ℕ) : Type 0 where
  pub read : Consumes left left' input
  pub to_end : IsAtEnd left'
  pub fits : too_large input ≡ false
  pub board : List ℕ
  pub shows : IsBoard asked.board board
  pub wrote : Appends written written' (text_for asked (batch_with given input) ++ board)

-- so it was, and behind it the closing balances, whole
pub record IsClosed (asked : Asked) (given : Option (List Account)) (left left' written written' closed closed' : Option (List ℕ)) : Type 0 where
  pub input : List ℕ
  pub whole : IsWritten asked given left left' written written' input
  pub balances : List ℕ
  pub states : IsBalances asked.accounts (batch_with given input) balances
  pub stated : Appends closed closed' balances

-- so it was, and behind it a prefix of a text of the closing balances
pub record IsClosedInPart (asked : Asked) (given : Option (List Account)) (left left' written written' closed closed' : Option (List ℕ)) : Type 0 where
  pub input : List ℕ
  pub whole : IsWritten asked given left left' written written' input
  pub balances : List ℕ
  pub states : IsBalances asked.accounts (batch_with given input) balances
  pub stated : AppendsPrefix closed closed' balances

-- a part of the source was read, and a prefix of what is asked for that part was written
pub record IsPart (asked : Asked) (given : Option (List Account)) (left left' written written' : Option (List ℕ)) : Type 0 where
  pub input : List ℕ
  pub read : Consumes left left' input
  pub board : List ℕ
  pub shows : IsBoard asked.board board
  pub wrote : AppendsPrefix written written' (text_for asked (batch_with given input) ++ board)

-- the accounts are known, and all was written whole
pub record IsDone (asked : Asked) (left left' written written' known known' closed closed' : Option (List ℕ)) : Type 0 where
  pub given : Option (List Account)
  pub is_given : Given asked.accounts known known' given
  pub all : IsClosed asked given left left' written written' closed closed'

-- the accounts are known, a part of the source was read, and a prefix of what is asked for that part was written
pub record IsCut (asked : Asked) (left left' written written' known known' : Option (List ℕ)) : Type 0 where
  pub given : Option (List Account)
  pub is_given : Given asked.accounts known known' given
  pub cut : IsPart asked given left left' written written'

-- the accounts are known, and all was written whole, but for the closing balances
pub record IsCutInBalances (asked : Asked) (left left' written written' known known' closed closed' : Option (List ℕ)) : Type 0 where
  pub given : Option (List Account)
  pub is_given : Given asked.accounts known known' given
  pub all : IsClosedInPart asked given left left' written written' closed closed'

-- the accounts are known, and what was written is the listing, and behind it a line whose numbers add up
pub record IsShown (asked : Asked) (left left' written written' known known' : Option (List ℕ)) : Type 0 where
  pub given : Option (List Account)
  pub is_given : Given asked.accounts known known' given
  pub input : List ℕ
  pub read : Consumes left left' input
  pub counts : Tallies
  pub add_up : AddsUp counts
  pub wrote : Appends written written' (listing_with given input ++ board_text counts)

-- no count of faults rose, of cards and listing, nor with an accounts file of the accounts
pub record NoneRose (asked : Asked) (read read' written written' known known' closed closed' : ℕ) : Type 0 where
  pub cards : Rose read read' → ⊥
  pub listing : Rose written written' → ⊥
  pub accounts : asked.accounts ≡ true → Rose known known' → ⊥
  pub balances : asked.accounts ≡ true → Rose closed closed' → ⊥

-- the summary of a made batch's listing was written whole, or a prefix of it where memory was wanting or a write failed
pub record IsMade (seed jobs : ℕ) (written written' : Option (List ℕ)) (ended : Status) : Type 0 where
  pub done : ended ≡ status.Done → Appends written written' (made_summary seed jobs)
  pub cut : (ended ≡ status.Done → ⊥) → AppendsPrefix written written' (made_summary seed jobs)
  pub answers : (ended ≡ status.Done) ⊎ (ended ≡ status.NoMemory) ⊎ (ended ≡ status.WriteFault)
