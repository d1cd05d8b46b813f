use Rattle.std.proofs.Common.{◌++◌, List, ap, refl, sym, ◌∙◌}
use Rattle.deck_reader.specs.JobView.{JobView}
use Rattle.batch_intake.specs.Taking.{jobs_by}
use Rattle.batch_intake.proofs.Takings.{ends_so}
use Rattle.batch_intake.proofs.intake.Intake.end.Goals as goal

pub returns-clause-ok : goal.returns-clause-ok
returns-clause-ok c =
    ends_so c.args.self.now _ c.in-Some.reader c.in_ok-batch.batch (sym c.take.ensures.value ∙ c.in-Some.is) c.take.ensures.after refl
    (c.in_ok-share_all.ensures ∙ ap (λ (js : List JobView). jobs_by c.args.self.now ++ js) c.into_vec.ensures) c.in_ok-batch.ensures.batch c.in_ok-batch.ensures.fits
