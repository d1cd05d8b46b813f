use Rattle.std.proofs.Common.{Option, Ok, ap, ◌∙◌}
use Rattle.value_ops.specs.declared.values.Value.{Value}
use Rattle.record_store.proofs.FieldsInLine.{read_there}
use Rattle.record_store.proofs.records.Records.field.Goals as goal

pub returns : goal.returns
returns c =
    ap (λ (v : Option Value). Ok v) c.field_at.ensures
    ∙ read_there _ _ _ _ _ c.in_ok-place.ensures.answer c.requires
