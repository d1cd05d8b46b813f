-- The bounds of each account as running numbers.
use Rattle.std.specs.Prelude.{ℕ, ◌≡◌, ◌≤◌, List, length, slice_index}
use Rattle.batch_core.specs.Core.{Core, low, high}
use Rattle.batch_core.specs.Kept.{Kept}

-- these are the bounds of each account, in a state that keeps what a reachable one keeps
pub record Runs (core : Core) (lows highs : List ℕ) : Type 0 where
  pub kept : Kept core
  pub numbers : length core.jobs ≤ 4294967295
  pub low_of : (account : ℕ) → slice_index lows account ≡ low core account
  pub high_of : (account : ℕ) → slice_index highs account ≡ high core account
  pub low_count : length lows ≡ length core.openings
  pub high_count : length highs ≡ length core.openings
