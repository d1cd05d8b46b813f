use Rattle.std.proofs.Common.{Some, ap, rules, w32, ℤ, FitsSigned}
use Rattle.std.proofs.lemmas.Int.{to_z-of_z}
use Rattle.value_ops.specs.declared.values.Value.TheVariants as value
use Rattle.record_store.proofs.Values.{set_alone}
use Rattle.record_store.proofs.fields.Fields.set_integer.Goals as goal

pub returns : goal.returns
returns c =
    let fits : FitsSigned w32 c.args.number = search rules in
    set_alone _ _ _ _ _ _ c.self.view_is (λ text. ap (λ (number : ℤ). let v = value.Integer number in Some v) (to_z-of_z w32 c.args.number fits))
