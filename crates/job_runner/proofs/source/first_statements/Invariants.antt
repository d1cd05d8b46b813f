use Rattle.std.proofs.Common.{◌≡◌, ◌+◌, length}
use Rattle.stack_machine.specs.Desks.{shown_by}
use Rattle.job_runner.proofs.Firsts.{AreTold}
use Rattle.job_runner.proofs.source.first_statements.Given as goal

abbrev pub invariant-loop-number : goal.invariant-loop-number
invariant-loop-number g l = (length l.firsts.items ≡ l.cards + 1) × AreTold l.code.given.statements (shown_by l.desk).counts l.number l.firsts.items
