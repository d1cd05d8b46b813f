-- What a run has written that states an account.
use Rattle.std.specs.Prelude.{ℕ, ◌≡◌, ◌⊎◌, Bool, true, false, List, Option}
use Rattle.std.specs.Io.KnownBytes.{Appends, Consumes, IsAtEnd}
use Rattle.deck_reader.specs.Batch.{batch, too_large}
use Rattle.account_statements.specs.Statement.{statement_in}
use Rattle.batch_listing.specs.Writing.{AppendsPrefix}
use Rattle.batch_monitor.specs.declared.top.Status.{Status}
use Rattle.batch_monitor.specs.declared.top.Status.TheVariants as status

-- this is the whole source, it wasn't too large, and the statement of the account with this name in its batch was written whole
pub record WroteStatement (name : List ℕ) (left left' written written' : Option (List ℕ)) : Type 0 where
  pub input : List ℕ
  pub read : Consumes left left' input
  pub to_end : IsAtEnd left'
  pub fits : too_large input ≡ false
  pub wrote : Appends written written' (statement_in name (batch input))

-- so it is, and a prefix of that statement was
pub record WroteStatementInPart (name : List ℕ) (left left' written written' : Option (List ℕ)) : Type 0 where
  pub input : List ℕ
  pub read : Consumes left left' input
  pub to_end : IsAtEnd left'
  pub fits : too_large input ≡ false
  pub wrote : AppendsPrefix written written' (statement_in name (batch input))

-- the statement was written whole, or nothing was, or where a write failed a prefix of it
pub record HasStated (name : List ℕ) (left left' written written' : Option (List ℕ)) (Untouched : Type 0) (ended : Status) : Type 0 where
  pub done : ended ≡ status.Done → WroteStatement name left left' written written'
  pub cut : (ended ≡ status.Done → ⊥) → Untouched ⊎ ((ended ≡ status.WriteFault) × WroteStatementInPart name left left' written written')

-- how a run ends where no read and no write failed, by whether the batch is too large
abbrev pub EndsBy : Bool → Status → Type 0
EndsBy true ended = (ended ≡ status.TooLarge) ⊎ (ended ≡ status.NoMemory)
EndsBy false ended = (ended ≡ status.Done) ⊎ (ended ≡ status.NoMemory)
