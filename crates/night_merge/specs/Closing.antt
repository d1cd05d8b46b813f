-- What the closing lines of a part settle.
use Rattle.std.specs.Prelude.{ℕ, ◌≡◌, ◌≤◌, ◌<◌, ◌%◌, List, Option, Some, None, length, slice_index}
use Rattle.std.specs.Borrow.{Bor}

-- a closing line was read: what it leaves, and what stands behind it
abbrev pub StatesLeft : ℕ → List ℕ → Option (ℕ × Bor (List ℕ)) → Type 0
StatesLeft left rest None = ⊥
StatesLeft left rest (Some read) = (read.0 ≡ left) × (read.1.now ≡ rest)

-- what the accounts of a chain are left with; the others' balances stay as they were
pub record Settled (chains chain : ℕ) (after : ℕ → ℕ) (old new : List ℕ) : Type 0 where
  pub own : (k : ℕ) → k < length old → k % chains ≡ chain → slice_index new k ≡ after k
  pub others : (k : ℕ) → (k % chains ≡ chain → ⊥) → slice_index new k ≡ slice_index old k

-- each account has been left so much, by its number
abbrev pub HasLeft : List ℕ → (ℕ → ℕ) → Type 0
HasLeft left balance = (k : ℕ) → k < length left → slice_index left k ≡ balance k

-- so have the accounts of a chain
abbrev pub HasOwn : ℕ → ℕ → List ℕ → (ℕ → ℕ) → Type 0
HasOwn chains chain left balance = (k : ℕ) → k < length left → k % chains ≡ chain → slice_index left k ≡ balance k

-- none of so many accounts is left with more
abbrev pub IsLower : ℕ → (ℕ → ℕ) → (ℕ → ℕ) → Type 0
IsLower count after before = (k : ℕ) → k < count → after k ≤ before k

-- a window with so many jobs of a chain settles what its accounts are left with, where there are any
pub record Settles (chains chain count : ℕ) (after : ℕ → ℕ) (old new : List ℕ) : Type 0 where
  pub some : 0 < count → Settled chains chain after old new
  pub none : count ≡ 0 → new ≡ old
