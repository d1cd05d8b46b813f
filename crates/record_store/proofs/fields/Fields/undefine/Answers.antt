use Rattle.std.proofs.Common.{◌≡◌, ◌+◌, ◌-◌, List, ◌++◌, take, drop, sym, ap, ◌∙◌, arith}
use Rattle.std.proofs.lemmas.List.{with_items_is}
use Rattle.record_store.specs.declared.fields.Slot.{Slot}
use Rattle.record_store.specs.Slots.{values_of}
use Rattle.record_store.proofs.Values.{part_undefined, part_kept_long}
use Rattle.record_store.proofs.fields.Fields.undefine.Goals as goal

pub returns : goal.returns
returns c =
    let held = c.self.inside.slots in
    let first = c.args.first in
    let n = first + c.args.count - first in
    let next = take first held.items ++ (c.fill.new.self ++ drop n (drop first held.items)) in
    let undefined = rw c.deref_mut.ensures.value at (c.fill.ensures.after (λ y same. same)) in
    let all : n ≡ c.args.count = omega arith in
    let long = part_kept_long _ _ _ _ _ _ _ c.self.view_is c.requires all undefined ∙ sym held.ok.0 in
    rw c.deref_mut.ensures.value (
    ap (λ (slots : List Slot). values_of slots c.self.inside.texts.items) (with_items_is held next long)
    ∙ part_undefined _ _ _ _ _ _ _ c.self.view_is c.requires all undefined)
