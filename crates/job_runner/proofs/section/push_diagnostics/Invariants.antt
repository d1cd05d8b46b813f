use Rattle.std.proofs.Common.{◌≡◌, ◌++◌, drop}
use Rattle.algolw_meaning.specs.Texts.{diagnostic_lines}
use Rattle.job_runner.proofs.section.push_diagnostics.Given as goal

abbrev pub invariant-loop-fault : goal.invariant-loop-fault
invariant-loop-fault l = l.out.items ++ diagnostic_lines (drop l.fault-index l.faults) ≡ l.initial.out.items ++ diagnostic_lines l.faults
