use Rattle.std.proofs.Common.{sym}
use Rattle.record_store.specs.declared.fields.Slot.TheVariants.{Reference}
use Rattle.record_store.proofs.Values.{held_at}
use Rattle.record_store.proofs.fields.Fields.reference_at.Goals as goal

pub returns-in-Reference : goal.returns-in-Reference
returns-in-Reference c = sym (held_at _ _ _ _ (Reference c.in-Reference.record) _ c.self.view_is c.requires c.index.ensures c.in-Reference.is)
