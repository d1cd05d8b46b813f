use Rattle.std.proofs.Common.{refl}
use Rattle.record_store.proofs.Values.{set_alone}
use Rattle.record_store.proofs.fields.Fields.set_reference.Goals as goal

pub returns : goal.returns
returns c = set_alone _ _ _ _ _ _ c.self.view_is (λ text. refl)
