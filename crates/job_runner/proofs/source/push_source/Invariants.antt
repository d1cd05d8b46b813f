use Rattle.std.proofs.Common.{◌≡◌, ◌+◌, ◌++◌, drop}
use Rattle.algolw_meaning.specs.Texts.{source_lines}
use Rattle.job_runner.proofs.source.push_source.Given as goal

abbrev pub invariant-loop-i : goal.invariant-loop-i
invariant-loop-i l = l.out.items ++ source_lines (l.i + 1) (drop l.i l.deck) ≡ l.initial.out.items ++ source_lines 1 l.deck
