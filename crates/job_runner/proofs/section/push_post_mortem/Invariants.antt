use Rattle.std.proofs.Common.{◌≡◌, ◌∷◌, ◌++◌, drop}
use Rattle.std.specs.Prelude.{codes}
use Rattle.stack_machine.specs.Desks.{shown_by}
use Rattle.algolw_meaning.specs.Running.{lines}
use Rattle.job_runner.proofs.section.push_post_mortem.Given as goal

abbrev pub invariant-loop-number : goal.invariant-loop-number
invariant-loop-number l = l.out.items ++ lines (drop l.number (shown_by l.desk).dump) ≡ l.fn.out.items ++ lines (codes "POST-MORTEM" ∷ (shown_by l.desk).dump)
