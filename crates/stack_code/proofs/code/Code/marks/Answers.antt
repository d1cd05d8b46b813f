use Rattle.std.proofs.Common.{subst}
use Rattle.stack_code.specs.Limits.{CodeRuns}
use Rattle.stack_code.proofs.Limited.{code_runs}
use Rattle.stack_code.proofs.code.Code.marks.Goals as goal

pub returns-clause-runs : goal.returns-clause-runs
returns-clause-runs c = subst CodeRuns c.self.view_is (code_runs _ c.self.invariant)
