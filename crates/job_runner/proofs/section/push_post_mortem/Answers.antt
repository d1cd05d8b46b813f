use Rattle.std.specs.Prelude.{codes}
use Rattle.stack_machine.specs.Desks.{shown_by}
use Rattle.job_runner.proofs.Printed.{first_line, line_more}
use Rattle.job_runner.proofs.section.push_post_mortem.Goals as goal

pub loop-number-init : goal.loop-number-init
loop-number-init c = first_line (codes "POST-MORTEM") c.args.out.now.items c.push_line.new.out.items (shown_by c.args.desk.now).dump c.in_ok-push_line.ensures

pub loop-number-preserved : goal.loop-number-preserved
loop-number-preserved c = line_more (shown_by c.args.desk.now).dump c.loop-number.number c.dump.result.now c.loop-number.out.items c.push_line-in-loop-number.new.out.items _ c.dump.ensures c.in_ok-push_line-2.ensures c.loop-number.invariant
