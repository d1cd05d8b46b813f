-- How a run ended, and the number that it ends with.
use Rattle.std.specs.Prelude.{ℕ, Result, Ok, Err}
use Rattle.batch_intake.specs.declared.halt.Halt.{Halt}
use Rattle.batch_intake.specs.declared.halt.Halt.TheVariants as halt
use Rattle.batch_monitor.specs.declared.accounts.Unread.{Unread}
use Rattle.batch_monitor.specs.declared.accounts.Unread.TheVariants as unread
use Rattle.batch_monitor.specs.declared.top.Status.{Status}
use Rattle.batch_monitor.specs.declared.top.Status.TheVariants as status

abbrev pub status_of : Halt → Status
status_of halt.NoMemory = status.NoMemory
status_of halt.ReadFault = status.ReadFault
status_of halt.WriteFault = status.WriteFault
status_of halt.TooLarge = status.TooLarge

-- how a run ended that has no accounts
abbrev pub status_unread : Unread → Status
status_unread unread.NoMemory = status.NoMemory
status_unread unread.ReadFault = status.ReadFault
status_unread unread.BadAccounts = status.BadAccounts

-- how a run ended
abbrev pub status_after : {T : Type 0} → Result T Halt → Status
status_after (Ok x) = status.Done
status_after (Err halt) = status_of halt

-- the number with which the program ends
abbrev pub number_of : Status → ℕ
number_of status.Done = 0
number_of status.BadWords = 2
number_of status.NoMemory = 3
number_of status.ReadFault = 4
number_of status.WriteFault = 5
number_of status.TooLarge = 6
number_of status.BadAccounts = 7
