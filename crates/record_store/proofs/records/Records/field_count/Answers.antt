use Rattle.std.proofs.Common.{sym}
use Rattle.record_store.proofs.RecordsInLine.{kept_taken}
use Rattle.record_store.proofs.records.Records.field_count.Goals as goal

pub returns : goal.returns
returns c = sym (kept_taken _ _ _ _ _ c.self.invariant c.self.view_is)
