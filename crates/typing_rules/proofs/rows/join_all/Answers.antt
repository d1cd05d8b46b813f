use Rattle.std.proofs.Common.{◌∙◌, ◌+◌, sym, ap, drop}
use Rattle.std.specs.Option.{option_map}
use Rattle.typing_rules.specs.Parts.{values_of}
use Rattle.typing_rules.specs.View.{value_type}
use Rattle.typing_rules.proofs.Joins.{join_more, join_more-stops, values_of-value}
use Rattle.typing_rules.proofs.rows.join_all.Goals as goal

pub returns-in_default-2 : goal.returns-in_default-2
returns-in_default-2 c =
    let parts = c.args.parts.now in
    let before = option_map value_type c.loop-part.joined in
    let here = values_of-value parts c.loop-part.part-index c.part-item.result c.in-Value.next c.loop-part-test.true c.part-item.is c.in-Value.is in
    let none = sym c.in_ok-both.ensures ∙ ap (option_map value_type) c.in_default-2.is in
    let stops = join_more-stops before (value_type c.in-Value.next) (values_of (drop (c.loop-part.part-index + 1) parts)) none in
    sym stops ∙ sym (ap (join_more before) here) ∙ c.loop-part.invariant
