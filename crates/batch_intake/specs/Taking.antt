-- How a batch is read, piece by piece.
use Rattle.std.specs.Prelude.{ℕ, ◌≡◌, ◌⊎◌, ◌<◌, ◌≤◌, ◌++◌, Bool, true, false, List, Option, Some, None, length, map}
use Rattle.std.specs.Io.KnownBytes.{Consumes, IsAtEnd}
use Rattle.batch_io.specs.Causes.{Rose}
use Rattle.deck_reader.specs.declared.batch.Account.{Account}
use Rattle.deck_reader.specs.declared.reader.Reader.{Reader}
use Rattle.deck_reader.specs.Batch.{batch_with, known_accounts, passes, too_large}
use Rattle.deck_reader.specs.Fed.{StandsFor}
use Rattle.deck_reader.specs.JobView.{JobView}
use Rattle.batch_intake.specs.declared.halt.Halt.{Halt}
use Rattle.batch_intake.specs.declared.halt.Halt.TheVariants.{NoMemory, ReadFault, WriteFault, TooLarge}
use Rattle.batch_intake.specs.declared.intake.Intake.{Intake}
use Rattle.batch_intake.specs.declared.reading.Front.{Front}
use Rattle.batch_intake.specs.Halts.{IsTooLarge}

-- the jobs by now
abbrev pub jobs_by : Intake → List JobView
jobs_by intake = map (λ j. j.value) intake.jobs.items

-- the reader, until the input has ended
abbrev pub reader_of : Intake → Option Reader
reader_of intake = intake.reader

-- how many stray cards there are, once it has
abbrev pub stray_of : Intake → ℕ
stray_of intake = intake.stray

-- where there is a reader, it stands for the input so far, these jobs were taken from it, and these are the accounts; where there is none, the
-- input has ended, and all of its batch is known
abbrev pub Knows : Option (List Account) → Option Reader → Option (List ℕ) → List Account → List JobView → ℕ → List ℕ → Type 0
Knows given (Some reader) left accounts jobs stray input = StandsFor given reader jobs input × (known_accounts given input ≡ Some accounts)
Knows given None left accounts jobs stray input = IsAtEnd left × (too_large input ≡ false) × (batch_with given input ≡ record { accounts = accounts; jobs = jobs; stray = stray })

-- the intake of a batch with these accounts has read this input
abbrev pub HasRead : Option (List Account) → Intake → Option (List ℕ) → List Account → List ℕ → Type 0
HasRead given intake left accounts input = Knows given (reader_of intake) left accounts (jobs_by intake) (stray_of intake) input

-- why reading stopped: a read that failed was counted, nothing was written, and what was read is too large only where this holds
abbrev pub StopCause : Halt → ℕ → ℕ → Type 0 → Type 0
StopCause NoMemory faults faults' Large = Unit {0}
StopCause ReadFault faults faults' Large = Rose faults faults'
StopCause WriteFault faults faults' Large = ⊥
StopCause TooLarge faults faults' Large = Large

-- a reader was fed a piece more, or none at the end
pub record HasFed (old new : Reader) (left left' : Option (List ℕ)) (faults faults' : ℕ) (more : Bool) : Type 0 where
  pub piece : List ℕ
  pub read : Consumes left left' piece
  pub fed : (given : Option (List Account)) (taken : List JobView) (input : List ℕ) → StandsFor given old taken input → StandsFor given new taken (input ++ piece)
  pub some : more ≡ true → 0 < length piece
  pub to_end : more ≡ false → IsAtEnd left'
  pub kept : faults' ≡ faults

-- it wasn't fed the next piece
pub record StopsFeeding (old : Reader) (left left' : Option (List ℕ)) (faults faults' : ℕ) (halt : Halt) : Type 0 where
  pub piece : List ℕ
  pub read : Consumes left left' piece
  pub cause : StopCause halt faults faults' ((given : Option (List Account)) (taken : List JobView) (input : List ℕ) → StandsFor given old taken input → passes (input ++ piece) ≡ true)

-- a batch is read on by a piece; the jobs stay the first ones
pub record ReadsOn (old new : Intake) (left left' : Option (List ℕ)) (faults faults' : ℕ) : Type 0 where
  pub piece : List ℕ
  pub read : Consumes left left' piece
  pub known : (given : Option (List Account)) (accounts : List Account) (input : List ℕ) → HasRead given old left accounts input → HasRead given new left' accounts (input ++ piece)
  pub more : (rest : List JobView) × (jobs_by new ≡ jobs_by old ++ rest)
  pub kept : faults' ≡ faults

-- it isn't; then its input hadn't ended
pub record StopsReading (old : Intake) (left left' : Option (List ℕ)) (faults faults' : ℕ) (halt : Halt) : Type 0 where
  pub going : old.reader ≡ None → ⊥
  pub piece : List ℕ
  pub read : Consumes left left' piece
  pub cause :
      StopCause halt faults faults' ((given : Option (List Account)) (accounts : List Account) (input : List ℕ) → HasRead given old left accounts input → (passes (input ++ piece) ≡ true) ⊎ (IsAtEnd left' × (too_large (input ++ piece) ≡ true)))

-- a batch whose input has ended is read whole
pub record Ends (old new : Intake) : Type 0 where
  pub known : (given : Option (List Account)) (left : Option (List ℕ)) (accounts : List Account) (input : List ℕ) → IsAtEnd left → HasRead given old left accounts input → HasRead given new left accounts input
  pub more : (rest : List JobView) × (jobs_by new ≡ jobs_by old ++ rest)

-- the accounts of a batch, of which so much was read, are known
pub record Opens (given : Option (List Account)) (left left' : Option (List ℕ)) (front : Front) : Type 0 where
  pub input : List ℕ
  pub read : Consumes left left' input
  pub known : HasRead given front.intake left' front.accounts.items input
  pub few : length front.accounts.items ≤ 500

-- the whole batch is
pub record IsWhole (given : Option (List Account)) (front : Front) (input : List ℕ) : Type 0 where
  pub known : (left : Option (List ℕ)) → IsAtEnd left → HasRead given front.intake left front.accounts.items input
  pub few : length front.accounts.items ≤ 500

-- they aren't
pub record StopsFront (left left' : Option (List ℕ)) (faults faults' : ℕ) (halt : Halt) : Type 0 where
  pub input : List ℕ
  pub read : Consumes left left' input
  pub cause : StopCause halt faults faults' (IsTooLarge left left')
