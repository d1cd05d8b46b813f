-- What a source over a reader, or a sink over a writer, is seen as.
use Rattle.std.specs.Prelude.{ℕ}

-- a reader or a writer, and how many of its calls have failed
pub record Counted (Inner : Type 0) : Type 0 where
  pub inner : Inner
  pub faults : ℕ
