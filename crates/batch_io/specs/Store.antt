-- What a sink in memory is seen as, and what a write to it does.
use Rattle.std.specs.Prelude.{◌≡◌, ℕ, List, ◌++◌, length, take}
use Rattle.batch_io.specs.Pace.{Pace, share, after_bytes}

-- the bytes written, and the pace at which they were
pub record Store : Type 0 where
  pub written : List ℕ
  pub pace : Pace

-- a write takes the first n bytes: as many as the pace allows
pub record TakesIn (old new : Store) (bytes : List ℕ) (n : ℕ) : Type 0 where
  pub count : n ≡ share old.pace (length bytes)
  pub state : new ≡ record { written = old.written ++ take n bytes; pace = after_bytes old.pace n }
