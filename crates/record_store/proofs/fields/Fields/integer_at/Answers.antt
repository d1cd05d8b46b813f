use Rattle.std.proofs.Common.{Some, sym, ap, ◌∙◌, rules, w32, ℤ, FitsSigned}
use Rattle.std.proofs.lemmas.Int.{to_z-of_z}
use Rattle.value_ops.specs.declared.values.Value.TheVariants as value
use Rattle.record_store.specs.declared.fields.Slot.TheVariants.{Integer}
use Rattle.record_store.proofs.Values.{held_at}
use Rattle.record_store.proofs.fields.Fields.integer_at.Goals as goal

pub returns-in-Integer : goal.returns-in-Integer
returns-in-Integer c =
    let fits : FitsSigned w32 c.in-Integer.number = search rules in
    sym
    (ap (λ (number : ℤ). let v = value.Integer number in Some v) (to_z-of_z w32 c.in-Integer.number fits)
    ∙ held_at _ _ _ _ (Integer c.in-Integer.number) _ c.self.view_is c.requires c.index.ensures c.in-Integer.is)
