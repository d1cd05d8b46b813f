use Rattle.std.proofs.Common.{ℤ, Some, set, ap, ◌∙◌, rules, w32, FitsSigned}
use Rattle.std.proofs.lemmas.Int.{to_z-of_z}
use Rattle.value_ops.specs.declared.values.Value.TheVariants as value
use Rattle.record_store.specs.Records.{all_fields}
use Rattle.record_store.proofs.RecordsInLine.{kept_place, kept_fields_set, kept_shapes_set}
use Rattle.record_store.proofs.records.Records.set_integer_at.Goals as goal

pub set_integer-requires : goal.set_integer-requires
set_integer-requires c = (kept_place _ _ _ _ _ _ c.self.invariant c.self.view_is c.requires).1

pub returns-clause-fields : goal.returns-clause-fields
returns-clause-fields c =
    let fits : FitsSigned w32 c.args.number = search rules in
    kept_fields_set _ _ _ _ _ _ _ _ c.self.invariant c.self.view_is c.requires c.set_integer.ensures
    ∙ ap (λ (number : ℤ). set (all_fields c.args.self.now) c.args.place (let v = value.Integer number in Some v)) (to_z-of_z w32 c.args.number fits)

pub returns-clause-shapes : goal.returns-clause-shapes
returns-clause-shapes c = kept_shapes_set _ _ _ _ _ _ _ _ c.self.invariant c.self.view_is c.set_integer.ensures
