use Rattle.std.proofs.Common.{◌≡◌, Option, Some, subst}
use Rattle.std.specs.Prelude.{IfSome}
use Rattle.value_ops.specs.declared.values.Value.{Value}
use Rattle.value_ops.specs.declared.values.Value.TheVariants as value
use Rattle.record_store.proofs.RecordsInLine.{kept_place, kept_field}
use Rattle.record_store.proofs.records.Records.integer_at.Goals as goal

pub integer_at-requires : goal.integer_at-requires
integer_at-requires c = (kept_place _ _ _ _ _ _ c.self.invariant c.self.view_is c.requires).1

pub returns : goal.returns
returns c = subst (λ (v : Option Value). IfSome c.integer_at.result (λ x. v ≡ Some (value.Integer x))) (kept_field _ _ _ _ _ _ c.self.invariant c.self.view_is c.requires) c.integer_at.ensures
