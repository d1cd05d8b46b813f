-- How records are kept: their heads in line, and their fields in line, each record's behind those of the one before.
use Rattle.std.specs.Prelude.{◌≡◌, ◌+◌, ◌≤◌, ℕ, List, [], ◌∷◌, Option, length, take, drop}
use Rattle.value_ops.specs.declared.values.Value.{Value}
use Rattle.record_store.specs.Records.{Record}
use Rattle.record_store.specs.declared.records.Head.{Head}

-- the record whose head this is, among the fields of all
abbrev pub record_of : List (Option Value) → Head → Record
record_of fields h = record { class = h.class; fields = take h.count (drop h.first fields) }

-- from a place on, the fields of each record begin where those of the one before end, and so up to another place
abbrev pub Laid : ℕ → List Head → ℕ → Type 0
Laid from [] to = from ≡ to
Laid from (h ∷ heads) to = (h.first ≡ from) × Laid (from + h.count) heads to

-- of room for 4,096 records and 16,384 fields, the heads of the first records are in use, and the first fields
pub record Kept (heads : List Head) (made : ℕ) (fields : List (Option Value)) (taken : ℕ) : Type 0 where
  pub records : length heads ≡ 4096
  pub room : length fields ≡ 16384
  pub made_within : made ≤ 4096
  pub taken_within : taken ≤ 16384
  pub laid : Laid 0 (take made heads) taken
