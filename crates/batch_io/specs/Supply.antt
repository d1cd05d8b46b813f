-- What a source in memory is seen as, and what a read of it does.
use Rattle.std.specs.Prelude.{◌≡◌, ℕ, min, List, ◌++◌, length, take, drop}
use Rattle.batch_io.specs.Pace.{Pace, share, after_bytes}

-- the bytes still to come, and the pace at which they do
pub record Supply : Type 0 where
  pub left : List ℕ
  pub pace : Pace

-- a read hands out the next n bytes: as many as the pace, what is left and the buffer allow
pub record HandsOut (old new : Supply) (buffer filled : List ℕ) (n : ℕ) : Type 0 where
  pub count : n ≡ share old.pace (min (length old.left) (length buffer))
  pub bytes : filled ≡ take n old.left ++ drop n buffer
  pub state : new ≡ record { left = drop n old.left; pace = after_bytes old.pace n }
