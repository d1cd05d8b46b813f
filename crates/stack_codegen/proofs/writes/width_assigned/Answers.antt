use Rattle.stack_codegen.proofs.SettingParts.{assigns}
use Rattle.stack_codegen.proofs.writes.width_assigned.Goals as goal

pub returns-in_ok-width-in-Assign-clause-value : goal.returns-in_ok-width-in-Assign-clause-value
returns-in_ok-width-in-Assign-clause-value c = assigns c.args.kind.now c.in-Assign.target c.in-Assign.value c.deref-in-Assign.result.now c.in-Assign.is c.deref-in-Assign.ensures
