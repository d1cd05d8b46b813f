use Rattle.typing_rules.specs.MeaningView as view
use Rattle.typing_rules.proofs.Rests.{number_from_right}
use Rattle.typing_rules.proofs.actuals.subarray_row.Goals as goal

pub returns-clause-number : goal.returns-clause-number
returns-clause-number c = number_from_right view.part c.args.place c.args.dimensions c.args.parts.now c.in_ok-right_number.ensures
