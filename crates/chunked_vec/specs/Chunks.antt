-- A list that is held in chunks.
use Rattle.std.specs.Prelude.{◌≡◌, ℕ, ◌+◌, ◌/◌, ◌≤◌, List, [], ◌∷◌, ◌++◌, length}
use Rattle.std.specs.declared.vec.Vec.{Vec}
use Rattle.std.specs.declared.alloc.Global.{Global}

-- the items of all chunks, in order
abbrev pub items_in : {T : Type 0} → List (Vec T Global) → List T
items_in [] = []
items_in (c ∷ cs) = c.items ++ items_in cs

-- each chunk but the last has as many as a chunk may have
abbrev pub AreFull : {T : Type 0} → List (Vec T Global) → Type 0
AreFull [] = Unit {0}
AreFull (c ∷ []) = length c.items ≤ 4096
AreFull (c ∷ (d ∷ cs)) = (length c.items ≡ 4096) × AreFull (d ∷ cs)

-- so many items, and room for one more in the last chunk
pub record HasRoom {T : Type 0} (len : ℕ) (cs : List (Vec T Global)) : Type 0 where
  pub full : AreFull cs
  pub all : len ≡ length (items_in cs)
  pub last : len / 4096 + 1 ≡ length cs
