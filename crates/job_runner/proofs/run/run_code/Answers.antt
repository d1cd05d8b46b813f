use Rattle.std.proofs.Common.{◌≤◌, length, ap, ◌∙◌, subst, sym}
use Rattle.deck_reader.specs.JobView.{JobView}
use Rattle.account_book.specs.Charges.{charge, reserve}
use Rattle.stack_machine.specs.Desks.{shown_by}
use Rattle.stack_machine.specs.Runs.{ComesTo}
use Rattle.algolw_meaning.specs.EndedView.{EndedView}
use Rattle.algolw_meaning.specs.Meaning.{JobResult}
use Rattle.algolw_meaning.specs.Running.{setting_of}
use Rattle.algolw_meaning.proofs.Within.{job_within}
use Rattle.job_runner.specs.Counted.{IsCounted, IsWithinSteps}
use Rattle.job_runner.specs.Shown.{ShowsRun}
use Rattle.job_runner.proofs.Ran.{begun_of, code_ends, counted, ended_is, shows_run, stands, within_steps}
use Rattle.job_runner.proofs.run.run_code.Goals as goal

pub run_prepared-outcome-requires-clause-ends : goal.run_prepared-outcome-requires-clause-ends
run_prepared-outcome-requires-clause-ends c = code_ends c.args.job.now.value c.args.code.now c.requires.code (stands c.args.job.now.value c.requires.deck c.requires.few)

pub run_section-requires : goal.run_section-requires
run_section-requires c =
    let job : JobView = c.args.job.now.value in
    let shown = shown_by c.run_prepared-outcome.new.desk in
    let comes : ComesTo (setting_of job) c.args.code.now c.run_prepared-outcome.result shown = subst (λ (j : JobView). ComesTo (setting_of j) c.args.code.now c.run_prepared-outcome.result shown) c.deref.ensures c.run_prepared-outcome.ensures in
    subst (λ (j : JobView). (length j.deck ≤ 2000) × (IsCounted c.args.code.now.given.statements shown.counts (begun_of j) × IsWithinSteps (begun_of j))) (sym c.deref-2.ensures)
    (c.requires.deck.few, (counted job c.args.code.now c.requires.code (stands c.args.job.now.value c.requires.deck c.requires.few) c.run_prepared-outcome.result shown comes, within_steps job c.args.code.now c.requires.code (stands c.args.job.now.value c.requires.deck c.requires.few) c.requires.most))

pub new-requires : goal.new-requires
new-requires c =
    let job : JobView = c.args.job.now.value in
    let shown = shown_by c.run_prepared-outcome.new.desk in
    let comes : ComesTo (setting_of job) c.args.code.now c.run_prepared-outcome.result shown = subst (λ (j : JobView). ComesTo (setting_of j) c.args.code.now c.run_prepared-outcome.result shown) c.deref.ensures c.run_prepared-outcome.ensures in
    ended_is job c.args.code.now c.requires.code (stands c.args.job.now.value c.requires.deck c.requires.few) c.run_prepared-outcome.result shown comes c.in_ok-clone.field-0.value c.deref-2.result.now c.deref-3.result.now c.in_ok-body.body.items c.used-counts.result c.ending_of.result
    c.in_ok-clone.ensures.cases c.deref-2.ensures c.deref-3.ensures c.in_ok-body.ensures c.used-counts.ensures c.ending_of.ensures

pub returns-clause-within : goal.returns-clause-within
returns-clause-within c =
    let job : JobView = c.args.job.now.value in
    let shown = shown_by c.run_prepared-outcome.new.desk in
    let comes : ComesTo (setting_of job) c.args.code.now c.run_prepared-outcome.result shown = subst (λ (j : JobView). ComesTo (setting_of j) c.args.code.now c.run_prepared-outcome.result shown) c.deref.ensures c.run_prepared-outcome.ensures in
    let clone : JobView = c.in_ok-clone.field-0.value in
    let ended = ended_is job c.args.code.now c.requires.code (stands c.args.job.now.value c.requires.deck c.requires.few) c.run_prepared-outcome.result shown comes clone c.deref-2.result.now c.deref-3.result.now c.in_ok-body.body.items c.used-counts.result c.ending_of.result
    c.in_ok-clone.ensures.cases c.deref-2.ensures c.deref-3.ensures c.in_ok-body.ensures c.used-counts.ensures c.ending_of.ensures in
    let within : charge c.used-counts.result ≤ reserve clone = subst (λ (r : JobResult). charge r.counts ≤ reserve clone) ended (job_within clone).1 in
    subst (λ (e : EndedView). charge e.counts ≤ reserve e.job) (sym c.new.ensures) within

pub returns-clause-shown : goal.returns-clause-shown
returns-clause-shown c =
    let job : JobView = c.args.job.now.value in
    let shown = shown_by c.run_prepared-outcome.new.desk in
    let comes : ComesTo (setting_of job) c.args.code.now c.run_prepared-outcome.result shown = subst (λ (j : JobView). ComesTo (setting_of j) c.args.code.now c.run_prepared-outcome.result shown) c.deref.ensures c.run_prepared-outcome.ensures in
    subst (λ (j : JobView). ShowsRun j shown) (sym (ap (λ (e : EndedView). e.job) c.new.ensures ∙ c.in_ok-clone.ensures.cases)) (shows_run job c.args.code.now c.requires.code (stands c.args.job.now.value c.requires.deck c.requires.few) c.run_prepared-outcome.result shown comes)
