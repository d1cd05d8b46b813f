use Rattle.record_store.proofs.FieldsInLine.{set_there}
use Rattle.record_store.proofs.records.Records.set_field.Goals as goal

pub returns-clause-set : goal.returns-clause-set
returns-clause-set c = set_there _ _ _ _ _ _ _ c.in_ok-place.ensures.answer c.requires c.set_field_at.ensures.fields c.set_field_at.ensures.shapes
