-- When a count of faults has risen, and what a call does to the count.
use Rattle.std.specs.Prelude.{◌≡◌, ◌≤◌, ◌+◌, ◌-◌, ◌^◌, ℕ, min, OnOk, OnErr, Result}

-- the count after one more fault: it stops at the end of its type
abbrev pub one_more : ℕ → ℕ
one_more count = min (count + 1) (2 ^ 64 - 1)

-- the count is greater than it was, or stands at the end of its type
abbrev pub Rose : ℕ → ℕ → Type 0
Rose before now = one_more before ≤ now

-- a call that succeeds leaves the count, and one that fails has raised it
pub record HasCause {T E : Type 0} (before now : ℕ) (result : Result T E) : Type 0 where
  pub same : OnOk result (now ≡ before)
  pub later : before ≤ now
  pub failed : OnErr result (Rose before now)
