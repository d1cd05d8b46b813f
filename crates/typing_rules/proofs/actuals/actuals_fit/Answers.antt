use Rattle.std.proofs.Common.{sym, ◌∙◌}
use Rattle.std.proofs.lemmas.Slice.Zip.{either_empty_from_Zip}
use Rattle.typing_rules.specs.MeaningView as view
use Rattle.typing_rules.proofs.Rests.{fits_at_end}
use Rattle.typing_rules.proofs.actuals.actuals_fit.Goals as goal

pub returns : goal.returns
returns c = λ row.
    let left = c.loop-formal.formal-iterator in
    sym (c.loop-formal.invariant row ∙ fits_at_end view.formal_type view.part c.args.place left.a.rest.now left.b.rest.now row (either_empty_from_Zip left c.next.new.self _ c.in-None.is c.next.ensures.steps))
