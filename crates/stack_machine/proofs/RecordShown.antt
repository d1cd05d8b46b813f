-- A record as a dump shows it.
use Rattle.std.proofs.Common.{◌≡◌, ℕ, zero, suc, ◌+◌, List, [], ◌∷◌, reverse, length, Option, Some, None, refl, ap, ◌∙◌, slice_get}
use Rattle.value_ops.specs.declared.values.RecordId.{RecordId}
use Rattle.post_mortem.specs.declared.entries.Shown.{Shown}
use Rattle.post_mortem.specs.declared.entries.Shown.TheVariants as shown
use Rattle.record_classes.specs.Classes.{class_of}
use Rattle.record_store.specs.Records.{Record}
use Rattle.stack_code.specs.CodeView.{Given}
use Rattle.stack_code.specs.Machine.{on_top_of}
use Rattle.stack_code.specs.Run.{shown_record}
use Rattle.machine_rows.specs.Seen.{records_of}
use Rattle.machine_rows.proofs.Lists.{on_top_of-reverse}

abbrev pub shown_made : Given → RecordId → Option Record → Shown
shown_made g id None = shown.Undefined
shown_made g id (Some r) = shown.Record (class_of g.classes r.class).name id

by_number : (g : Given) (id : RecordId) (first : ℕ) (rs : List Record) (k : ℕ) → shown_record id (slice_get (records_of g first rs) k) ≡ shown_made g id (slice_get rs k)
by_number g id first [] k = refl
by_number g id first (r ∷ rs) zero = refl
by_number g id first (r ∷ rs) (suc k) = by_number g id (first + length r.fields) rs k

pub record_found : (g : Given) (id : RecordId) (rs : List Record) → shown_record id (on_top_of (reverse (records_of g 2 rs)) id.0) ≡ shown_made g id (slice_get rs id.0)
record_found g id rs = ap (shown_record id) (on_top_of-reverse (records_of g 2 rs) id.0) ∙ by_number g id 2 rs id.0
