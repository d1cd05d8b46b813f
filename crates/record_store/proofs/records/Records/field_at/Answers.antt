use Rattle.std.proofs.Common.{◌∙◌}
use Rattle.record_store.proofs.RecordsInLine.{kept_place, kept_field}
use Rattle.record_store.proofs.records.Records.field_at.Goals as goal

pub at-requires : goal.at-requires
at-requires c = (kept_place _ _ _ _ _ _ c.self.invariant c.self.view_is c.requires).1

pub returns : goal.returns
returns c = c.at.ensures ∙ kept_field _ _ _ _ _ _ c.self.invariant c.self.view_is c.requires
