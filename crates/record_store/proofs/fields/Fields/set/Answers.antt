use Rattle.std.proofs.Common.{List, ℤ, Option, Some, set, ap, refl, rules, w32, FitsSigned}
use Rattle.std.proofs.lemmas.Int.{to_z-of_z}
use Rattle.value_ops.specs.declared.values.Value.{Value}
use Rattle.value_ops.specs.declared.values.Value.TheVariants as value
use Rattle.record_store.proofs.Values.{set_alone, set_both}
use Rattle.record_store.proofs.fields.Fields.set.Goals as goal
use Rattle.record_store.proofs.fields.Fields.set.Goals.{in-Integer, in-Logical, in-Bits, in-Str, in-Reference}

pub returns : goal.returns
returns c =
    let At : Value → List (Option Value) = λ v. set c.args.self.now c.args.place (Some v) in
    elim c.match-value.branch [
      | in-Integer w ↦
          let fits : FitsSigned w32 w.in-Integer.number = search rules in
          rw (w.self-inside-is, w.slot-is, w.in-Integer.is) (set_alone _ _ _ _ _ _ c.self.view_is (λ text. ap (λ (number : ℤ). let v = value.Integer number in Some v) (to_z-of_z w32 w.in-Integer.number fits)))
      | in-Logical w ↦ rw (w.self-inside-is, w.slot-is, w.in-Logical.is) (set_alone _ _ _ _ _ _ c.self.view_is (λ text. refl))
      | in-Bits w ↦ rw (w.self-inside-is, w.slot-is, w.in-Bits.is) (set_alone _ _ _ _ _ _ c.self.view_is (λ text. refl))
      | in-Str w ↦ rw (w.self-inside-is, w.slot-is, w.in-Str.is) (set_both _ _ _ _ _ _ _ c.self.view_is w.put_text.ensures.put)
      | in-Reference w ↦ rw (w.self-inside-is, w.slot-is, w.in-Reference.is) (set_alone _ _ _ _ _ _ c.self.view_is (λ text. refl))
    ]
