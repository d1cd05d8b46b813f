use Rattle.std.proofs.Common.{sym, ◌∙◌}
use Rattle.std.proofs.lemmas.Slice.Zip.{either_empty_from_Zip}
use Rattle.typing_rules.specs.View.{value_type}
use Rattle.typing_rules.specs.MeaningView as view
use Rattle.typing_rules.proofs.Rests.{fields_at_end}
use Rattle.typing_rules.proofs.meanings.field_values.Goals as goal

pub returns : goal.returns
returns c = λ row.
    let left = c.loop-field.field-iterator in
    sym (c.loop-field.invariant row ∙ fields_at_end value_type view.part c.args.place left.a.rest.now left.b.rest.now row (either_empty_from_Zip left c.next.new.self _ c.in-None.is c.next.ensures.steps))
