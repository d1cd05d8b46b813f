use Rattle.std.proofs.Common.{ℕ, List, [], Some, get_or, ap, ◌∙◌, rules, w32, ℤ, FitsSigned}
use Rattle.std.proofs.lemmas.Int.{to_z-of_z}
use Rattle.value_ops.specs.declared.values.Value.TheVariants as value
use Rattle.record_store.specs.declared.fields.Slot.TheVariants.{Undefined, Integer, Logical, Bits, Str, Reference}
use Rattle.record_store.proofs.Values.{held_at}
use Rattle.record_store.proofs.fields.Fields.at.Goals as goal

pub returns-in-Undefined : goal.returns-in-Undefined
returns-in-Undefined c = held_at _ _ _ _ Undefined _ c.self.view_is c.requires c.index.ensures c.in-Undefined.is

pub returns-in-Integer : goal.returns-in-Integer
returns-in-Integer c =
    let fits : FitsSigned w32 c.in-Integer.number = search rules in
    ap (λ (number : ℤ). let v = value.Integer number in Some v) (to_z-of_z w32 c.in-Integer.number fits)
    ∙ held_at _ _ _ _ (Integer c.in-Integer.number) _ c.self.view_is c.requires c.index.ensures c.in-Integer.is

pub returns-in-Logical : goal.returns-in-Logical
returns-in-Logical c = held_at _ _ _ _ (Logical c.in-Logical.truth) _ c.self.view_is c.requires c.index.ensures c.in-Logical.is

pub returns-in-Bits : goal.returns-in-Bits
returns-in-Bits c = held_at _ _ _ _ (Bits c.in-Bits.bits) _ c.self.view_is c.requires c.index.ensures c.in-Bits.is

pub returns-in-Str : goal.returns-in-Str
returns-in-Str c =
    ap (λ (text : List ℕ). let v = value.Str text in Some v) (c.text_at.ensures ∙ ap (λ (texts : List (List ℕ)). get_or texts c.args.place []) c.deref.ensures.value)
    ∙ held_at _ _ _ _ Str _ c.self.view_is c.requires c.index.ensures c.in-Str.is

pub returns-in-Reference : goal.returns-in-Reference
returns-in-Reference c = held_at _ _ _ _ (Reference c.in-Reference.record) _ c.self.view_is c.requires c.index.ensures c.in-Reference.is
