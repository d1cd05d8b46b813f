-- What a run has read and written, and why it stopped.
use Rattle.std.specs.Prelude.{ℕ, ◌≡◌, false, List, Option}
use Rattle.std.specs.Io.KnownBytes.{Consumes, Appends, IsAtEnd}
use Rattle.batch_io.specs.Causes.{Rose}
use Rattle.deck_reader.specs.declared.batch.Account.{Account}
use Rattle.deck_reader.specs.Batch.{batch, batch_with, too_large}
use Rattle.account_statements.specs.Statement.{statement_in}
use Rattle.batch_listing.specs.declared.audit.Audit.{Audit}
use Rattle.batch_listing.specs.Behind.{IsBehind}
use Rattle.batch_listing.specs.Listing.{listing_with}
use Rattle.batch_listing.specs.Writing.{AppendsPrefix}
use Rattle.batch_intake.specs.declared.halt.Halt.{Halt}
use Rattle.batch_intake.specs.Halts.{IsTooLarge}
use Rattle.batch_intake.specs.declared.halt.Halt.TheVariants.{NoMemory, ReadFault, WriteFault, TooLarge}

-- the whole source was read, it wasn't too large, its listing was written whole, and this audit is behind its last job
pub record IsListed (given : Option (List Account)) (left left' written written' : Option (List ℕ)) (audit : Audit) : Type 0 where
  pub input : List ℕ
  pub read : Consumes left left' input
  pub to_end : IsAtEnd left'
  pub fits : too_large input ≡ false
  pub wrote : Appends written written' (listing_with given input)
  pub accounts : audit.book.accounts ≡ (batch_with given input).accounts
  pub behind : IsBehind audit.book (batch_with given input).jobs

-- a part of the source was read, and a prefix of the listing of that part was written
pub record IsCutShort (given : Option (List Account)) (left left' written written' : Option (List ℕ)) : Type 0 where
  pub input : List ℕ
  pub read : Consumes left left' input
  pub wrote : AppendsPrefix written written' (listing_with given input)

-- the whole source was read, it wasn't too large, and this is the statement of the account with this name in its batch, or the text that says
-- that there is none
pub record IsStated (name : List ℕ) (left left' : Option (List ℕ)) (text : List ℕ) : Type 0 where
  pub input : List ℕ
  pub read : Consumes left left' input
  pub to_end : IsAtEnd left'
  pub fits : too_large input ≡ false
  pub states : text ≡ statement_in name (batch input)

-- what a source has left and a sink was given, as far as they tell, and how many faults each has met
pub record Outside : Type 0 where
  pub left : Option (List ℕ)
  pub read_faults : ℕ
  pub written : Option (List ℕ)
  pub write_faults : ℕ

abbrev pub outside : Option (List ℕ) → ℕ → Option (List ℕ) → ℕ → Outside
outside left read_faults written write_faults = record { left = left; read_faults = read_faults; written = written; write_faults = write_faults }

-- memory may be wanting at any time; a read or a write that failed was counted; a batch that is too large was read so far
abbrev pub HasCause : Halt → Outside → Outside → Type 0
HasCause NoMemory start now = Unit {0}
HasCause ReadFault start now = Rose start.read_faults now.read_faults
HasCause WriteFault start now = Rose start.write_faults now.write_faults
HasCause TooLarge start now = IsTooLarge start.left now.left

-- a prefix of the listing of what was read was written since the start, and why no more was
pub record HasHalted (given : Option (List Account)) (start now : Outside) (halt : Halt) : Type 0 where
  pub cut : IsCutShort given start.left now.left start.written now.written
  pub cause : HasCause halt start now
