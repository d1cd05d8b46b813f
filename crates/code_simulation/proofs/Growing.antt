-- Variables that are added.
use Rattle.std.proofs.Common.{◌≡◌, ℕ, List, ◌++◌, map, Option, Some, None, refl, ap}
use Rattle.value_ops.specs.declared.values.Value.{Value}
use Rattle.program_meaning.specs.State.{RecordInfo}
use Rattle.stack_code.specs.Machine as machine
use Rattle.stack_code.specs.Machine.{on_top_of}
use Rattle.code_simulation.specs.Relation.{Slot, Base, Heap, Settled, content_of, field_of}
use Rattle.code_simulation.proofs.Stacks.{map_same, get_append_below}

-- more variables change no cell and no field
pub cells_appended : (b : Base) (h : Heap) (memory more : List (Option Value)) (records : List RecordInfo) (fields : ℕ) → Settled b h memory records fields → map (content_of (memory ++ more)) b.slots ≡ map (content_of memory) b.slots
cells_appended b h memory more records fields a = map_same (content_of memory) (content_of (memory ++ more)) b.slots same
  where
    same : (c : ℕ) (x : Slot) → on_top_of b.slots c ≡ Some x → content_of (memory ++ more) x ≡ content_of memory x
    same c (Rattle.code_simulation.specs.Relation.variable k) e = ap Rattle.code_simulation.specs.Relation.content_of_variable (get_append_below memory more k (a.within k (machine.in_cell c) e))
    same c (Rattle.code_simulation.specs.Relation.fixed y) e = refl

pub fields_appended : (b : Base) (h : Heap) (memory more : List (Option Value)) (records : List RecordInfo) (fields : ℕ) → Settled b h memory records fields → map (field_of (memory ++ more)) h.fields ≡ map (field_of memory) h.fields
fields_appended b h memory more records fields a = map_same (field_of memory) (field_of (memory ++ more)) h.fields (λ f k e. ap (λ (o : Option (Option Value)). let y : Option Value = elim o [ None ↦ None | Some u ↦ u ] in y) (get_append_below memory more k (a.within k (machine.in_field f) e)))
