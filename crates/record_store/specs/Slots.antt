-- What fields hold, by their slots and the texts beside them.
use Rattle.std.specs.Prelude.{ℕ, List, [], ◌∷◌, Option, Some, None}
use Rattle.value_ops.specs.declared.values.Value.{Value}
use Rattle.value_ops.specs.declared.values.Value.TheVariants as value
use Rattle.record_store.specs.declared.fields.Slot.{Slot}
use Rattle.record_store.specs.declared.fields.Slot.TheVariants.{Undefined, Integer, Logical, Bits, Str, Reference}

-- what a field holds
abbrev pub value_of : Slot → List ℕ → Option Value
value_of Undefined text = None
value_of (Integer number) text = Some (value.Integer number)
value_of (Logical truth) text = Some (value.Logical truth)
value_of (Bits bits) text = Some (value.Bits bits)
value_of Str text = Some (value.Str text)
value_of (Reference record_id) text = Some (value.Reference record_id)

-- the same of fields in line; there are no characters past the end of the texts
abbrev pub values_of : List Slot → List (List ℕ) → List (Option Value)
values_of [] texts = []
values_of (slot ∷ slots) [] = value_of slot [] ∷ values_of slots []
values_of (slot ∷ slots) (text ∷ texts) = value_of slot text ∷ values_of slots texts
