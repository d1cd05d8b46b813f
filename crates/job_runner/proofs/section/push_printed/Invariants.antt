use Rattle.std.proofs.Common.{◌≡◌, ◌++◌, drop}
use Rattle.stack_machine.specs.Desks.{shown_by}
use Rattle.algolw_meaning.specs.Running.{lines}
use Rattle.job_runner.proofs.section.push_printed.Given as goal

abbrev pub invariant-loop-number : goal.invariant-loop-number
invariant-loop-number l = l.out.items ++ lines (drop l.number (shown_by l.desk).lines) ≡ l.initial.out.items ++ lines (shown_by l.desk).lines
