use Rattle.std.proofs.Common.{◌≡◌, ◌+◌, ◌++◌, drop}
use Rattle.algolw_meaning.specs.Running.{lines}
use Rattle.job_runner.specs.Counted.{lines_beside}
use Rattle.job_runner.proofs.source.push_counted_source.Given as goal

abbrev pub invariant-loop-i : goal.invariant-loop-i
invariant-loop-i l = l.out.items ++ lines (lines_beside l.firsts (l.i + 1) (drop l.i l.deck)) ≡ l.initial.out.items ++ lines (lines_beside l.firsts 1 l.deck)
