-- What changes when a job arrives, and when one comes to another stage.
use Rattle.std.proofs.Common.{◌≡◌, ◌≢◌, ℕ, ◌+◌, ◌<◌, cond, List, [], ◌∷◌, ◌++◌, length, get_or, take, zip, sym, subst, inl, inr, arith}
use Rattle.std.proofs.lemmas.Bool.{cases_eq, cases_lt}
use Rattle.std.proofs.lemmas.List.{get_or-set_same, get_or-set_other, get_or_append_left, get_or_push, length_push}
use Rattle.std.proofs.lemmas.List.Sums.{sum_by-set, sum_by_push}
use Rattle.account_book.specs.Places as places
use Rattle.batch_core.specs.declared.job.Claim.{Claim}
use Rattle.batch_core.specs.declared.job.Stage.{Stage}
use Rattle.batch_core.specs.declared.job.JobState.{JobState}
use Rattle.batch_core.specs.Core.{Core, no_job, arrived, job_at, charged, held, share, settled_on, reserved_on, cards_on}
use Rattle.batch_core.specs.Events.{staged}
use Rattle.batch_core.specs.Order.{MayCost, AreCharges, Agrees, claimed, priced, accepted_at}
use Rattle.batch_core.proofs.Charges.{fewer, priced_before, claims_stay, costs_stay}

-- a fact of each job, once one is at another stage
pub all_staged : (core : Core) (place : ℕ) (stage : Stage) (P : ℕ → JobState → Type 0) → place < length core.jobs → P place (record { claim = (job_at core place).claim; stage = stage })
    → ((other : ℕ) → other ≢ place → P other (job_at core other)) → (other : ℕ) → P other (get_or (staged core place stage) other no_job)
all_staged core place stage P within here elsewhere other =
    let new : JobState = record { claim = (job_at core place).claim; stage = stage } in
    elim (cases_eq other place) [
      | inl same ↦ subst (λ (n : ℕ). P n (get_or (staged core place stage) n no_job)) (sym same) (subst (P place) (sym (get_or-set_same core.jobs place new no_job within)) here)
      | inr apart ↦ subst (P other) (sym (get_or-set_other core.jobs place other new no_job apart)) (elsewhere other apart)
    ]

-- a fact of each job, once one more has arrived
pub all_added : (core : Core) (claim : Claim) (P : ℕ → JobState → Type 0) → ((place : ℕ) → place < length core.jobs → P place (job_at core place)) → P (length core.jobs) (arrived claim)
    → (place : ℕ) → place < length (core.jobs ++ arrived claim ∷ []) → P place (get_or (core.jobs ++ arrived claim ∷ []) place no_job)
all_added core claim P before here place within = elim (cases_lt place (length core.jobs)) [
  | inl less ↦ subst (P place) (sym (get_or_append_left core.jobs (arrived claim ∷ []) no_job place less)) (before place less)
  | inr more ↦
      let same : place ≡ length core.jobs = omega (arith, length_push core.jobs (arrived claim)) in
      subst (P place) (sym (get_or_push core.jobs (arrived claim) no_job place (sym same))) (subst (λ (n : ℕ). P n (arrived claim)) (sym same) here)
]

-- the decisions stay those of the places
pub order_staged : (core : Core) (place : ℕ) (stage : Stage) → place < length core.jobs
    → ((charges : List ℕ) → AreCharges core.jobs charges → (other : ℕ) → other < length core.jobs → Agrees (job_at core other).stage (accepted_at core charges other))
    → ((charge : ℕ) → MayCost stage (job_at core place).claim charge → MayCost (job_at core place).stage (job_at core place).claim charge)
    → ((charges : List ℕ) → AreCharges core.jobs charges → Agrees stage (accepted_at core charges place))
    → (charges : List ℕ) → AreCharges (staged core place stage) charges → (other : ℕ) → other < length core.jobs
    → Agrees (get_or (staged core place stage) other no_job).stage (places.is_accepted (λ a. places.place_balance core.openings (take other (priced (staged core place stage) charges)) a) (claimed (get_or (staged core place stage) other no_job)))
order_staged core place stage within ordered cost agrees charges are other within' =
    let old : AreCharges core.jobs charges = costs_stay core.jobs place stage charges cost are in
    let job : JobState = get_or (staged core place stage) other no_job in
    let F : List places.Claim → Type 0 = λ claims. Agrees job.stage (places.is_accepted (λ a. places.place_balance core.openings (take other (zip claims charges)) a) (claimed job)) in
    subst F (sym (claims_stay (λ claim. record { account = claim.account; reserve = claim.reserve }) core.jobs place stage))
    (all_staged core place stage (λ n j. n < length core.jobs → Agrees j.stage (places.is_accepted (λ a. places.place_balance core.openings (take n (priced core.jobs charges)) a) (claimed j)))
    within (λ _. agrees charges old) (λ n apart inside. ordered charges old n inside) other within')

pub order_added : (core : Core) (claim : Claim)
    → ((charges : List ℕ) → AreCharges core.jobs charges → (place : ℕ) → place < length core.jobs → Agrees (job_at core place).stage (accepted_at core charges place))
    → (charges : List ℕ) → AreCharges (core.jobs ++ arrived claim ∷ []) charges → (place : ℕ) → place < length (core.jobs ++ arrived claim ∷ [])
    → Agrees (get_or (core.jobs ++ arrived claim ∷ []) place no_job).stage (places.is_accepted (λ a. places.place_balance core.openings (take place (priced (core.jobs ++ arrived claim ∷ []) charges)) a) (claimed (get_or (core.jobs ++ arrived claim ∷ []) place no_job)))
order_added core claim ordered charges are =
    let old : AreCharges core.jobs charges = fewer core.jobs (arrived claim ∷ []) charges are in
    all_added core claim (λ n j. Agrees j.stage (places.is_accepted (λ a. places.place_balance core.openings (take n (priced (core.jobs ++ arrived claim ∷ []) charges)) a) (claimed j)))
    (λ n inside.
    let job : JobState = job_at core n in
    let F : List (places.Claim × ℕ) → Type 0 = λ before. Agrees job.stage (places.is_accepted (λ a. places.place_balance core.openings before a) (claimed job)) in
    subst F (sym (priced_before n core.jobs (arrived claim ∷ []) charges (omega arith))) (ordered charges old n inside))
    tt

-- the sums of each account
pub settled_staged : (core : Core) (place account : ℕ) (old stage : Stage) → place < length core.jobs → (job_at core place).stage ≡ old
    → settled_on (staged core place stage) account + cond (places.is_on account (job_at core place).claim.account) (charged old) 0
    ≡ settled_on core.jobs account + cond (places.is_on account (job_at core place).claim.account) (charged stage) 0
settled_staged core place account old stage within is =
    let F : Stage → Type 0 = λ s. settled_on (staged core place stage) account + cond (places.is_on account (job_at core place).claim.account) (charged s) 0
    ≡ settled_on core.jobs account + cond (places.is_on account (job_at core place).claim.account) (charged stage) 0 in
    subst F is (sum_by-set (share (λ j. charged j.stage) account) core.jobs place (record { claim = (job_at core place).claim; stage = stage }) no_job within)

pub reserved_staged : (core : Core) (place account : ℕ) (old stage : Stage) → place < length core.jobs → (job_at core place).stage ≡ old
    → reserved_on (staged core place stage) account + cond (places.is_on account (job_at core place).claim.account) (held old (job_at core place).claim.reserve) 0
    ≡ reserved_on core.jobs account + cond (places.is_on account (job_at core place).claim.account) (held stage (job_at core place).claim.reserve) 0
reserved_staged core place account old stage within is =
    let F : Stage → Type 0 = λ s. reserved_on (staged core place stage) account + cond (places.is_on account (job_at core place).claim.account) (held s (job_at core place).claim.reserve) 0
    ≡ reserved_on core.jobs account + cond (places.is_on account (job_at core place).claim.account) (held stage (job_at core place).claim.reserve) 0 in
    subst F is (sum_by-set (share (λ j. held j.stage j.claim.reserve) account) core.jobs place (record { claim = (job_at core place).claim; stage = stage }) no_job within)

pub cards_staged : (core : Core) (place account : ℕ) (old stage : Stage) → place < length core.jobs → (job_at core place).stage ≡ old
    → cards_on (staged core place stage) account + cond (places.is_on account (job_at core place).claim.account) (held old (job_at core place).claim.cards) 0
    ≡ cards_on core.jobs account + cond (places.is_on account (job_at core place).claim.account) (held stage (job_at core place).claim.cards) 0
cards_staged core place account old stage within is =
    let F : Stage → Type 0 = λ s. cards_on (staged core place stage) account + cond (places.is_on account (job_at core place).claim.account) (held s (job_at core place).claim.cards) 0
    ≡ cards_on core.jobs account + cond (places.is_on account (job_at core place).claim.account) (held stage (job_at core place).claim.cards) 0 in
    subst F is (sum_by-set (share (λ j. held j.stage j.claim.cards) account) core.jobs place (record { claim = (job_at core place).claim; stage = stage }) no_job within)

pub settled_added : (core : Core) (claim : Claim) (account : ℕ) → settled_on (core.jobs ++ arrived claim ∷ []) account ≡ settled_on core.jobs account + cond (places.is_on account claim.account) 0 0
settled_added core claim account = sum_by_push (share (λ j. charged j.stage) account) core.jobs (arrived claim)

pub reserved_added : (core : Core) (claim : Claim) (account : ℕ) → reserved_on (core.jobs ++ arrived claim ∷ []) account ≡ reserved_on core.jobs account + cond (places.is_on account claim.account) 0 0
reserved_added core claim account = sum_by_push (share (λ j. held j.stage j.claim.reserve) account) core.jobs (arrived claim)

pub cards_added : (core : Core) (claim : Claim) (account : ℕ) → cards_on (core.jobs ++ arrived claim ∷ []) account ≡ cards_on core.jobs account + cond (places.is_on account claim.account) 0 0
cards_added core claim account = sum_by_push (share (λ j. held j.stage j.claim.cards) account) core.jobs (arrived claim)
