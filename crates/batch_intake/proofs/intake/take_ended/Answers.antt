use Rattle.std.proofs.Common.{◌++◌, ◌∷◌, [], List, ap, append_assoc, map, subst, sym, ◌∙◌}
use Rattle.deck_reader.specs.Fed.{StandsFor}
use Rattle.deck_reader.specs.JobView.{JobView}
use Rattle.batch_intake.proofs.Takings.{shared_push}
use Rattle.batch_intake.proofs.intake.take_ended.Goals as goal

pub loop-job-preserved : goal.loop-job-preserved
loop-job-preserved c =
    let before : List JobView = map (λ j. j.value) c.loop-job.jobs.items in
    let job : JobView = c.in-Some.job in
    let pushed = shared_push (λ j. j.value) c.loop-job.jobs.items c.push.new.self.items c.in_ok-new.field-0 job c.in_ok-push.ensures.items c.in_ok-new.ensures.ok in (
      λ given input h. subst (λ (js : List JobView). StandsFor given c.take_job.new.self js input) (sym pushed) (c.in-Some.ensures.next given before input (c.loop-job.invariant.0 given input h)),
      (
        c.loop-job.invariant.1.0 ++ job ∷ [],
        pushed ∙ ap (λ (js : List JobView). js ++ job ∷ []) c.loop-job.invariant.1.1 ∙ append_assoc (map (λ j. j.value) c.args.jobs.now.items) c.loop-job.invariant.1.0 (job ∷ []),
      ),
    )

pub returns-clause-stands : goal.returns-clause-stands
returns-clause-stands c = λ given input h. c.in_default.ensures.kept given (map (λ j. j.value) c.loop-job.jobs.items) input (c.loop-job.invariant.0 given input h)
