use Rattle.stack_codegen.proofs.StringParts.{parted_by}
use Rattle.stack_codegen.proofs.lists.first_list.Goals as goal

pub returns-in-Actuals : goal.returns-in-Actuals
returns-in-Actuals c = parted_by c.args.lists.now c.in_ok-first.first.now c.in-Actuals.actuals c.as_slice.result.now c.in_ok-first.rest.now c.in_ok-first.ensures.cases.0 c.in-Actuals.is c.as_slice.ensures.value
