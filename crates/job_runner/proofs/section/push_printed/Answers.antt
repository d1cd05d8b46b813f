use Rattle.stack_machine.specs.Desks.{shown_by}
use Rattle.job_runner.proofs.Printed.{line_more}
use Rattle.job_runner.proofs.section.push_printed.Goals as goal

pub loop-number-preserved : goal.loop-number-preserved
loop-number-preserved c = line_more (shown_by c.args.desk.now).lines c.loop-number.number c.line.result.now c.loop-number.out.items c.push_line.new.out.items _ c.line.ensures c.in_ok-push_line.ensures c.loop-number.invariant
