-- How the calls of a source or a sink in memory go: how many bytes each handles, and which fail.
use Rattle.std.specs.Prelude.{◌⊎◌, ◌≤◌, ◌+◌, ◌-◌, ◌^◌, ℕ, min, List, Option, Some, None, Contains, IsSomeAnd}
use Rattle.batch_io.specs.Causes.{one_more}

-- the bounds on the calls, and how many bytes, calls and faults there have been
pub record Pace : Type 0 where
  pub piece : ℕ
  pub failing : List ℕ
  pub stop_after : Option ℕ
  pub gone : ℕ
  pub calls : ℕ
  pub faults : ℕ

-- the pace before the first call
abbrev pub opening : ℕ → List ℕ → Option ℕ → Pace
opening piece failing stop_after =
    record { piece = piece; failing = failing; stop_after = stop_after; gone = 0; calls = 0; faults = 0 }

-- the number of the call to come, from 1: it stops at the end of its type
abbrev pub next_call : Pace → ℕ
next_call pace = min (pace.calls + 1) (2 ^ 32 - 1)

-- all the bytes that may go have gone
abbrev pub IsStopped : Pace → Type 0
IsStopped pace = IsSomeAnd pace.stop_after (λ stop. stop ≤ pace.gone)

-- the call to come fails: its number is listed, or the pace is stopped
abbrev pub Refuses : Pace → Type 0
Refuses pace = Contains pace.failing (next_call pace) ⊎ IsStopped pace

-- as many of n bytes as may go before a stop, once some are gone
abbrev pub before_stop : Option ℕ → ℕ → ℕ → ℕ
before_stop None gone n = n
before_stop (Some stop) gone n = min n (stop - gone)

-- as many of n bytes as the call to come handles: no more than a piece, and none past the stop
abbrev pub share : Pace → ℕ → ℕ
share pace n = before_stop pace.stop_after pace.gone (min n pace.piece)

-- memory of this capacity has room for all the bytes that may go
abbrev pub HasRoom : Pace → ℕ → Type 0
HasRoom pace capacity = IsSomeAnd pace.stop_after (λ stop. (pace.gone ≤ stop) × (stop ≤ capacity))

-- the pace after a call that failed
abbrev pub after_fault : Pace → Pace
after_fault pace = record pace { calls = next_call pace; faults = one_more pace.faults }

-- the pace after a call that handled n bytes
abbrev pub after_bytes : Pace → ℕ → Pace
after_bytes pace n = record pace { calls = next_call pace; gone = pace.gone + n }
