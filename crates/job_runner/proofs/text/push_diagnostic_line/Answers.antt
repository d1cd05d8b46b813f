use Rattle.std.proofs.Common.{List, ℕ, ◌++◌, ap, ◌∙◌}
use Rattle.std.proofs.lemmas.Result.{on_ok_weaker}
use Rattle.job_runner.proofs.Printed.{diagnostic_is}
use Rattle.job_runner.proofs.text.push_diagnostic_line.Goals as goal

pub returns : goal.returns
returns c = on_ok_weaker c.push_numbered_line.result (λ h. h ∙ ap (λ (text : List ℕ). c.args.out.now.items ++ text) (diagnostic_is c.args.fault c.text.result.now c.text.ensures)) c.push_numbered_line.ensures
