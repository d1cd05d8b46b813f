-- What is brought of a job that is printed.
use Rattle.std.proofs.Common.{◌≡◌, ℕ, zero, suc, ◌+◌, ◌<◌, List, [], ◌∷◌, Option, Some, None, get_or, length, refl, ap, sym, subst, ◌∙◌, inl, inr, arith, add-one}
use Rattle.std.specs.Prelude.{option_map, slice_get}
use Rattle.std.proofs.lemmas.Option.{slice_get_cases}
use Rattle.deck_reader.specs.JobView.{JobView}
use Rattle.algolw_meaning.specs.EndedView.{EndedView}
use Rattle.algolw_meaning.specs.declared.brought.Brought.{Brought}
use Rattle.batch_core.specs.declared.job.JobState.{JobState}
use Rattle.batch_core.specs.declared.job.Stage.{Stage}
use Rattle.batch_core.specs.declared.job.Stage.TheVariants.{Undecided, Refused, Outstanding, Ended}
use Rattle.batch_core.specs.Core.{job_at, no_job}
use Rattle.batch_core.specs.Events.{IsOver, MayPrint}
use Rattle.office.specs.Register.{RegisterView}
use Rattle.office.specs.RegisterStands.{IsKept, RegisterStands}
use Rattle.office.specs.Standings.{IfResult, brought_by, standing_by, standing_of, standing_told}
use Rattle.office.proofs.Stands.{as_many}

-- it tells how the next unprinted job stands, and is of this job
pub record Brings (r : RegisterView) (brought : Brought) : Type 0 where
  pub standing : standing_of r (r.core.printed + 1) ≡ standing_told brought
  pub result : IfResult brought (λ ended. slice_get r.jobs r.core.printed ≡ Some ended.job)

stage_there : (jobs : List JobState) (place : ℕ) → place < length jobs → option_map (λ j. j.stage) (slice_get jobs place) ≡ Some (get_or jobs place no_job).stage
stage_there [] place within = absurd (omega (arith, within))
stage_there (job ∷ jobs) zero within = refl
stage_there (job ∷ jobs) (suc place) within = stage_there jobs place (omega (arith, within))

stands_at : (r : RegisterView) (stage : Stage) → r.core.printed < length r.core.jobs → (job_at r.core r.core.printed).stage ≡ stage → standing_of r (r.core.printed + 1) ≡ standing_by (Some stage)
stands_at r stage within is =
    ap (λ (n : ℕ). standing_of r n) (add-one r.core.printed)
    ∙ ap standing_by (stage_there r.core.jobs r.core.printed within ∙ ap (λ (x : Stage). Some x) is)

brings_by : (r : RegisterView) (job : JobView) (stage : Stage) (result : Option EndedView) → r.core.printed < length r.core.jobs → (job_at r.core r.core.printed).stage ≡ stage → IsOver stage
    → slice_get r.jobs r.core.printed ≡ Some job → IsKept r.core.printed r.core.printed stage job result → Brings r (brought_by result)
brings_by r job Undecided result within is over there kept = absurd over
brings_by r job Refused result within is over there kept =
    let none : result ≡ None = kept.none (λ e. e) in
    subst (λ (x : Option EndedView). Brings r (brought_by x)) (sym none) (record { standing = stands_at r Refused within is; result = tt })
brings_by r job Outstanding result within is over there kept = absurd over
brings_by r job (Ended paid) None within is over there kept = absurd (kept.result tt (omega arith))
brings_by r job (Ended paid) (Some result) within is over there kept = record {
  standing = stands_at r (Ended paid) within is;
  result = there ∙ ap (λ (x : JobView). Some x) (sym (kept.result tt (omega arith)));
}

pub brings : (r : RegisterView) → RegisterStands r → MayPrint r.core → Brings r (brought_by (get_or r.results r.core.printed None))
brings r stands may =
    let many = as_many r stands in
    elim (slice_get_cases r.jobs r.core.printed).1 [
      | inl found ↦ brings_by r found.0 (job_at r.core r.core.printed).stage (get_or r.results r.core.printed None) may.0 refl may.1 found.2 (stands.results r.core.printed found.0 found.2)
      | inr past ↦ absurd (omega (arith, past.0, may.0))
    ]

-- as the code gives it
pub brings_told : (inside now : RegisterView) (brought : Brought) (place : ℕ) (handed : Option EndedView) → RegisterStands inside → MayPrint inside.core → inside ≡ now
    → brought ≡ brought_by handed → handed ≡ get_or inside.results place None → place ≡ inside.core.printed → Brings now brought
brings_told inside now brought place handed stands may seen by out at =
    subst (λ (b : Brought). Brings now b) (sym (by ∙ ap brought_by (out ∙ ap (λ (n : ℕ). get_or inside.results n None) at)))
    (subst (λ (r : RegisterView). Brings r (brought_by (get_or inside.results inside.core.printed None))) seen (brings inside stands may))
