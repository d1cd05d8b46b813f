use Rattle.std.proofs.Common.{ap, ◌∙◌, subst}
use Rattle.deck_reader.specs.JobView.{JobView}
use Rattle.program_meaning.specs.State.{Setting}
use Rattle.stack_machine.specs.Desks.{shown_by}
use Rattle.stack_machine.specs.Runs.{ComesTo}
use Rattle.job_runner.proofs.Ran.{setting_is}
use Rattle.job_runner.proofs.run.run_prepared.Goals as goal

pub returns : goal.returns
returns c =
    subst (λ (set : Setting). ComesTo set c.args.code.now c.run.result (shown_by c.run.new.desk))
    (setting_is c.args.job.now c.job.inside.steps c.job.inside.lines c.as_slice.result.now
    (ap (λ (j : JobView). j.steps) c.job.view_is) (ap (λ (j : JobView). j.lines) c.job.view_is) (c.as_slice.ensures ∙ ap (λ (j : JobView). j.data_cards) c.job.view_is))
    c.run.ensures
