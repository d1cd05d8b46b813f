use Rattle.std.proofs.Common.{List, ℕ, replicate, ap, ◌∙◌}
use Rattle.record_store.specs.declared.fields.Slot.{Slot}
use Rattle.record_store.specs.declared.fields.Slot.TheVariants.{Undefined}
use Rattle.record_store.specs.Slots.{values_of}
use Rattle.record_store.proofs.Values.{values_of-replicate}
use Rattle.record_store.proofs.fields.Fields.new.Goals as goal

pub returns : goal.returns
returns c =
    ap (λ (slots : List Slot). values_of slots c.reserve_exact.new.self.items) (c.in_ok-vec.ensures.items_if_clones_equal (λ y same. same))
    ∙ ap (λ (texts : List (List ℕ)). values_of (replicate c.args.count Undefined) texts) (c.in_ok-reserve_exact.ensures.items ∙ c.new-texts.ensures.items)
    ∙ values_of-replicate c.args.count
