-- Why a night isn't cut.
use Rattle.std.specs.Prelude.{ℕ, ⊤}
use Rattle.batch_io.specs.Causes.{Rose}
use Rattle.deck_reader.specs.declared.reader.FeedError.{FeedError}
use Rattle.deck_reader.specs.declared.reader.FeedError.TheVariants as feed
use Rattle.night_shares.specs.declared.stop.Stop.{Stop}
use Rattle.night_shares.specs.declared.stop.Stop.TheVariants.{NoMemory, ReadFault, WriteFault, TooLarge, BadAccounts}

abbrev pub stop_of : FeedError → Stop
stop_of feed.TooLarge = TooLarge
stop_of feed.NoMemory = NoMemory

-- why reading stopped: a read that failed was counted, and what was read is too large only where this holds
abbrev pub ReadCause : Stop → ℕ → ℕ → Type 0 → Type 0
ReadCause NoMemory faults faults' Large = ⊤
ReadCause ReadFault faults faults' Large = Rose faults faults'
ReadCause WriteFault faults faults' Large = ⊥
ReadCause TooLarge faults faults' Large = Large
ReadCause BadAccounts faults faults' Large = ⊥

-- why writing stopped: a write that failed was counted
abbrev pub WriteCause : Stop → ℕ → ℕ → Type 0
WriteCause NoMemory faults faults' = ⊤
WriteCause ReadFault faults faults' = ⊥
WriteCause WriteFault faults faults' = Rose faults faults'
WriteCause TooLarge faults faults' = ⊥
WriteCause BadAccounts faults faults' = ⊥

-- why a run isn't taken: a write that failed was counted, or the run is too large
abbrev pub RunCause : Stop → ℕ → ℕ → Type 0 → Type 0
RunCause NoMemory faults faults' Large = ⊤
RunCause ReadFault faults faults' Large = ⊥
RunCause WriteFault faults faults' Large = Rose faults faults'
RunCause TooLarge faults faults' Large = Large
RunCause BadAccounts faults faults' Large = ⊥

-- why a night has no accounts: a read that failed was counted, or the accounts file is bad
abbrev pub AccountsCause : Stop → ℕ → ℕ → Type 0 → Type 0
AccountsCause NoMemory faults faults' Bad = ⊤
AccountsCause ReadFault faults faults' Bad = Rose faults faults'
AccountsCause WriteFault faults faults' Bad = ⊥
AccountsCause TooLarge faults faults' Bad = ⊥
AccountsCause BadAccounts faults faults' Bad = Bad

-- why a text isn't read
abbrev pub TextCause : Stop → ℕ → ℕ → Type 0
TextCause NoMemory faults faults' = ⊤
TextCause ReadFault faults faults' = Rose faults faults'
TextCause WriteFault faults faults' = ⊥
TextCause TooLarge faults faults' = ⊥
TextCause BadAccounts faults faults' = ⊥
