use Rattle.record_store.proofs.RecordsInLine.{kept_place, kept_fields_set, kept_shapes_set}
use Rattle.record_store.proofs.records.Records.set_reference_at.Goals as goal

pub set_reference-requires : goal.set_reference-requires
set_reference-requires c = (kept_place _ _ _ _ _ _ c.self.invariant c.self.view_is c.requires).1

pub returns-clause-fields : goal.returns-clause-fields
returns-clause-fields c = kept_fields_set _ _ _ _ _ _ _ _ c.self.invariant c.self.view_is c.requires c.set_reference.ensures

pub returns-clause-shapes : goal.returns-clause-shapes
returns-clause-shapes c = kept_shapes_set _ _ _ _ _ _ _ _ c.self.invariant c.self.view_is c.set_reference.ensures
