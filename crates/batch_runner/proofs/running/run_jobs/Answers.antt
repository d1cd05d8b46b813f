use Rattle.std.proofs.Common.{◌≤◌, ◌∙◌, ap, subst, sym}
use Rattle.std.proofs.lemmas.List.{length-map}
use Rattle.batch_intake.specs.declared.intake.Intake.{Intake}
use Rattle.batch_runner.specs.ProgressLaws.{goes_further}
use Rattle.batch_runner.specs.Progress.{progress}
use Rattle.batch_runner.proofs.Progressing.{begun_so, decided_so, stopped_so}
use Rattle.batch_intake.proofs.Results.{at_some}
use Rattle.batch_runner.proofs.running.run_jobs.Goals as goal

pub returns-in_default-clause-some : goal.returns-in_default-clause-some
returns-in_default-clause-some g c = λ given start h. at_some _ _ (λ halt halted.
    stopped_so given start (progress c.stop_without_memory.new.self _) halt halted ((c.stop_without_memory.ensures.goes_on _).stands given start (begun_so given start _ c.args.clerk.docket c.requires.none c.requires.undecided c.requires.free h)))

pub returns-clause-all : goal.returns-clause-all
returns-clause-all g c = λ given start h none.
    record {
      all = decided_so given start (progress c.finish.result.docket _) none
          (ap (λ (i : Intake). i.reader) c.finish.ensures.intake ∙ c.run_pool-pooled.ensures.finished (c.finish.ensures.halted none))
          (subst (λ n. n ≤ c.finish.result.docket.written) (sym (length-map c.finish.result.docket.intake.jobs.items (λ j. j.value))) (c.finish.ensures.finished none))
          ((goes_further _ _ _ c.run_pool-pooled.ensures.went.2 c.finish.ensures.goes_on).stands given start (begun_so given start _ c.args.clerk.docket c.requires.none c.requires.undecided c.requires.free h));
    }

pub returns-clause-some : goal.returns-clause-some
returns-clause-some g c = λ given start h. at_some _ _ (λ halt halted.
    stopped_so given start (progress c.finish.result.docket _) halt halted
    ((goes_further _ _ _ c.run_pool-pooled.ensures.went.2 c.finish.ensures.goes_on).stands given start (begun_so given start _ c.args.clerk.docket c.requires.none c.requires.undecided c.requires.free h)))

pub returns-clause-line : goal.returns-clause-line
returns-clause-line g c = λ none. c.finish.ensures.line none ∙ c.requires.board
