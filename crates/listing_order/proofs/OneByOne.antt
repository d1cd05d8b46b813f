-- A list of events that decides on one job after the other, and lets each end before the next one arrives.
use Rattle.std.proofs.Common.{◌≡◌, ℕ, suc, ◌+◌, ◌-◌, ◌<◌, ◌≤◌, Bool, true, false, cond, List, [], ◌∷◌, ◌++◌, Option, Some, None, filter_map, get_or, length, map, set, slice_get, sum_by, refl, sym, ap, subst, ◌∙◌, inl, inr, arith, Contains}
use Rattle.std.proofs.lemmas.Bool.{cases_lt, leb-false, leb-true}
use Rattle.std.proofs.lemmas.List.{get_or_append_left, get_or_push, length_push}
use Rattle.std.proofs.lemmas.List.Sums.{sum_by-cons}
use Rattle.std.proofs.Math.Seq.{set-append_seam}
use Rattle.deck_reader.specs.JobView.{JobView}
use Rattle.account_book.specs.Charges.{reserve}
use Rattle.account_book.specs.Places as places
use Rattle.algolw_meaning.proofs.Within.{job_within}
use Rattle.batch_core.specs.declared.event.Event.{Event}
use Rattle.batch_core.specs.declared.event.Event.TheVariants.{Arrive, Accept, Refuse, End, Print}
use Rattle.batch_core.specs.declared.job.Claim.{Claim}
use Rattle.batch_core.specs.declared.job.JobState.{JobState}
use Rattle.batch_core.specs.declared.job.Stage.{Stage}
use Rattle.batch_core.specs.declared.job.Stage.TheVariants.{Undecided, Refused, Outstanding, Ended}
use Rattle.batch_core.specs.Claims.{claim_of_job}
use Rattle.batch_core.specs.Core.{Core, held, high, job_at, low, no_job, reserved_on, cards_on, share}
use Rattle.batch_core.specs.Events.{Admits, Allowed, AlwaysCovers, IsComplete, IsOutstanding, IsOver, IsThere, Legal, NeverCovers, add, replay, staged, step}
use Rattle.batch_core.specs.Laws.{claim_of}
use Rattle.batch_core.proofs.Bounds.{cond_zero}
use Rattle.batch_core.proofs.Listed.{either}
use Rattle.batch_core.proofs.Stages.{settled_added, reserved_added, cards_added}
use Rattle.listing_order.specs.Decisions.{cost}

abbrev pub at_stage : JobView → Stage → JobState
at_stage job stage = record { claim = claim_of_job job; stage = stage }

-- a state with these jobs
abbrev pub with_jobs : Core → List JobState → ℕ → ℕ → Core
with_jobs core jobs decided printed = record core { jobs = jobs; decided = decided; printed = printed }

-- a state behind a job more, which was decided and printed
abbrev pub behind : Core → JobView → Stage → Core
behind core job stage = with_jobs core (core.jobs ++ at_stage job stage ∷ []) (core.decided + 1) (core.printed + 1)

-- the events of a job, where it is accepted or isn't, before these events
abbrev pub turn : Bool → JobView → ℕ → List Event → List Event
turn true job number rest = Arrive (claim_of_job job) ∷ Accept number ∷ End number (cost job) ∷ Print number ∷ rest
turn false job number rest = Arrive (claim_of_job job) ∷ Refuse number ∷ Print number ∷ rest

abbrev pub stage_by : Bool → JobView → Stage
stage_by true job = Ended (cost job)
stage_by false job = Refused

abbrev pub covered : Core → JobView → Bool
covered core job = places.covers (low core) (claim_of_job job).account (reserve job)

-- the events of these jobs, one job after the other
abbrev pub one_by_one : Core → List JobView → List Event
one_by_one core [] = []
one_by_one core (job ∷ jobs) = turn (covered core job) job (length core.jobs + 1) (one_by_one (behind core job (stage_by (covered core job) job)) jobs)

-- no job is under way
pub record AtRest (core : Core) : Type 0 where
  pub decided : core.decided ≡ length core.jobs
  pub printed : core.printed ≡ length core.jobs
  pub over : (place : ℕ) → place < length core.jobs → IsOver (get_or core.jobs place no_job).stage

-- jobs that are over hold nothing
nothing : (stage : Stage) (amount : ℕ) → IsOver stage → held stage amount ≡ 0
nothing Undecided amount over = absurd over
nothing Refused amount over = refl
nothing Outstanding amount over = absurd over
nothing (Ended paid) amount over = refl

nothing_held : (jobs : List JobState) (amount : JobState → ℕ) (account : ℕ) → ((place : ℕ) → place < length jobs → IsOver (get_or jobs place no_job).stage) → sum_by (share (λ j. held j.stage (amount j)) account) jobs ≡ 0
nothing_held [] amount account over = refl
nothing_held (job ∷ jobs) amount account over =
    let rest = nothing_held jobs amount account (λ place within. over (suc place) (omega arith)) in
    let first : share (λ j. held j.stage (amount j)) account job ≡ 0 =
    ap (λ (n : ℕ). cond (places.is_on account job.claim.account) n 0) (nothing job.stage (amount job) (over 0 (omega arith))) ∙ cond_zero (places.is_on account job.claim.account) in
    let all = sum_by-cons (share (λ (j : JobState). held j.stage (amount j)) account) job jobs in
    omega (arith, rest, first, all)

-- so the bounds of each account are its balance
bounds_meet : (core : Core) (account : ℕ) → AtRest core → low core account ≡ high core account
bounds_meet core account rest =
    let reserved : reserved_on core.jobs account ≡ 0 = nothing_held core.jobs (λ j. j.claim.reserve) account rest.over in
    let cards : cards_on core.jobs account ≡ 0 = nothing_held core.jobs (λ j. j.claim.cards) account rest.over in
    omega (arith, reserved, cards)

-- an arrival doesn't change them
low_stays : (core : Core) (claim : Claim) (account : ℕ) → low (add core claim) account ≡ low core account
low_stays core claim account = omega (arith, settled_added core claim account, reserved_added core claim account, cond_zero (places.is_on account claim.account))

high_stays : (core : Core) (claim : Claim) (account : ℕ) → high (add core claim) account ≡ high core account
high_stays core claim account = omega (arith, settled_added core claim account, cards_added core claim account, cond_zero (places.is_on account claim.account))

always : (core next : Core) (account : Option ℕ) (asked : ℕ) → ((a : ℕ) → low next a ≡ low core a) → places.covers (low core) account asked ≡ true → AlwaysCovers next account asked
always core next None asked same is = cc
always core next (Some account) asked same is = omega (arith, leb-true asked (low core account) is, same account)

never : (core next : Core) (account : Option ℕ) (asked : ℕ) → ((a : ℕ) → high next a ≡ low core a) → places.covers (low core) account asked ≡ false → NeverCovers next account asked
never core next None asked same is = tt
never core next (Some account) asked same is = omega (arith, leb-false asked (low core account) is, same account)

-- the last job at another stage
staged_last : (core : Core) (jobs : List JobState) (job : JobView) (old new : Stage) (decided printed place : ℕ) → place ≡ length jobs
    → staged (with_jobs core (jobs ++ at_stage job old ∷ []) decided printed) place new ≡ jobs ++ at_stage job new ∷ []
staged_last core jobs job old new decided printed place last =
    ap (λ (j : JobState). set (jobs ++ at_stage job old ∷ []) place (record { claim = j.claim; stage = new })) (get_or_push jobs (at_stage job old) no_job place (sym last))
    ∙ ap (λ (n : ℕ). set (jobs ++ at_stage job old ∷ []) n (at_stage job new)) last
    ∙ set-append_seam jobs (at_stage job old) [] (at_stage job new)

-- these events are allowed one behind the other, and leave all jobs printed
abbrev pub ComesToAnEnd : Core → List Event → Type 0
ComesToAnEnd core events = Legal core events × IsComplete (replay core events)

first_comes : (core next : Core) (event : Event) (events : List Event) → Allowed core event → step core event ≡ next → ComesToAnEnd next events → ComesToAnEnd core (event ∷ events)
first_comes core next event events may leads rest =
    let F : Core → Type 0 = λ c. ComesToAnEnd c events in
    let (legal, complete) = subst F (sym leads) rest in
    ((may, legal), complete)

-- the events of a job may come
accepted_comes : (core : Core) (job : JobView) (rest : List Event) → AtRest core → IsThere core.openings (claim_of_job job).account → length core.jobs < 4294967295 → covered core job ≡ true
    → ComesToAnEnd (behind core job (Ended (cost job))) rest → ComesToAnEnd core (turn true job (length core.jobs + 1) rest)
accepted_comes core job rest still there few is end =
    let claim = claim_of_job job in
    let number = length core.jobs + 1 in
    let place : number - 1 ≡ length core.jobs = omega arith in
    let jobs_at : Stage → List JobState = λ stage. core.jobs ++ at_stage job stage ∷ [] in
    let one : Core = with_jobs core (jobs_at Undecided) core.decided core.printed in
    let two : Core = with_jobs core (jobs_at Outstanding) (core.decided + 1) core.printed in
    let three : Core = with_jobs core (jobs_at (Ended (cost job))) (core.decided + 1) core.printed in
    let long : (stage : Stage) → length (jobs_at stage) ≡ length core.jobs + 1 = λ stage. length_push core.jobs (at_stage job stage) in
    let at : (stage : Stage) (n : ℕ) → n ≡ length core.jobs → get_or (jobs_at stage) n no_job ≡ at_stage job stage = λ stage n same. get_or_push core.jobs (at_stage job stage) no_job n (sym same) in
    let within = job_within job in
    let F : JobState → Type 0 = λ j. AlwaysCovers one j.claim.account j.claim.reserve in
    let may_accept : F (job_at one one.decided) = subst F (sym (at Undecided core.decided still.decided)) (always core one claim.account claim.reserve (low_stays core claim) is) in
    let G : JobState → Type 0 = λ j. IsOutstanding j.stage × Admits j.claim (cost job) in
    let may_end : G (job_at two (number - 1)) = subst G (sym (at Outstanding (number - 1) place)) (tt, within) in
    let H : JobState → Type 0 = λ j. IsOver j.stage in
    let may_print : H (job_at three three.printed) = subst H (sym (at (Ended (cost job)) core.printed still.printed)) tt in
    let behind_end = Print number ∷ rest in
    let behind_accept = End number (cost job) ∷ behind_end in
    first_comes core one (Arrive claim) (Accept number ∷ behind_accept) (there, omega arith, few) refl
    (first_comes one two (Accept number) behind_accept (omega (arith, still.decided), (omega (arith, still.decided, long Undecided), may_accept))
    (ap (λ (jobs : List JobState). with_jobs core jobs (core.decided + 1) core.printed) (staged_last core core.jobs job Undecided Outstanding core.decided core.printed (number - 1) place))
    (first_comes two three (End number (cost job)) behind_end (omega arith, (omega (arith, long Outstanding), may_end.0, may_end.1))
    (ap (λ (jobs : List JobState). with_jobs core jobs (core.decided + 1) core.printed) (staged_last core core.jobs job Outstanding (Ended (cost job)) (core.decided + 1) core.printed (number - 1) place))
    (first_comes three (behind core job (Ended (cost job))) (Print number) rest (omega (arith, still.printed), (omega (arith, still.printed, long (Ended (cost job))), may_print)) refl end)))

refused_comes : (core : Core) (job : JobView) (rest : List Event) → AtRest core → IsThere core.openings (claim_of_job job).account → length core.jobs < 4294967295 → covered core job ≡ false
    → ComesToAnEnd (behind core job Refused) rest → ComesToAnEnd core (turn false job (length core.jobs + 1) rest)
refused_comes core job rest still there few is end =
    let claim = claim_of_job job in
    let number = length core.jobs + 1 in
    let place : number - 1 ≡ length core.jobs = omega arith in
    let jobs_at : Stage → List JobState = λ stage. core.jobs ++ at_stage job stage ∷ [] in
    let one : Core = with_jobs core (jobs_at Undecided) core.decided core.printed in
    let two : Core = with_jobs core (jobs_at Refused) (core.decided + 1) core.printed in
    let long : (stage : Stage) → length (jobs_at stage) ≡ length core.jobs + 1 = λ stage. length_push core.jobs (at_stage job stage) in
    let at : (stage : Stage) (n : ℕ) → n ≡ length core.jobs → get_or (jobs_at stage) n no_job ≡ at_stage job stage = λ stage n same. get_or_push core.jobs (at_stage job stage) no_job n (sym same) in
    let F : JobState → Type 0 = λ j. NeverCovers one j.claim.account j.claim.reserve in
    let may_refuse : F (job_at one one.decided) = subst F (sym (at Undecided core.decided still.decided))
    (never core one claim.account claim.reserve (λ a. high_stays core claim a ∙ sym (bounds_meet core a still)) is) in
    let H : JobState → Type 0 = λ j. IsOver j.stage in
    let may_print : H (job_at two two.printed) = subst H (sym (at Refused core.printed still.printed)) tt in
    let behind_refuse = Print number ∷ rest in
    first_comes core one (Arrive claim) (Refuse number ∷ behind_refuse) (there, omega arith, few) refl
    (first_comes one two (Refuse number) behind_refuse (omega (arith, still.decided), (omega (arith, still.decided, long Undecided), may_refuse))
    (ap (λ (jobs : List JobState). with_jobs core jobs (core.decided + 1) core.printed) (staged_last core core.jobs job Undecided Refused core.decided core.printed (number - 1) place))
    (first_comes two (behind core job Refused) (Print number) rest (omega (arith, still.printed), (omega (arith, still.printed, long Refused), may_print)) refl end))

over_by : (b : Bool) (job : JobView) → IsOver (stage_by b job)
over_by true job = tt
over_by false job = tt

rests : (core : Core) (job : JobView) (stage : Stage) → IsOver stage → AtRest core → AtRest (behind core job stage)
rests core job stage over still =
    let long : length (core.jobs ++ at_stage job stage ∷ []) ≡ length core.jobs + 1 = length_push core.jobs (at_stage job stage) in
    let F : JobState → Type 0 = λ j. IsOver j.stage in
    record {
      decided = omega (arith, still.decided, long);
      printed = omega (arith, still.printed, long);
      over = λ place within. elim (cases_lt place (length core.jobs)) [
        | inl less ↦ subst F (sym (get_or_append_left core.jobs (at_stage job stage ∷ []) no_job place less)) (still.over place less)
        | inr more ↦
            let last : length core.jobs ≡ place = omega (arith, long) in
            subst F (sym (get_or_push core.jobs (at_stage job stage) no_job place last)) over
      ];
    }

turn_comes : (b : Bool) (core : Core) (job : JobView) (rest : List Event) → AtRest core → IsThere core.openings (claim_of_job job).account → length core.jobs < 4294967295 → covered core job ≡ b
    → ComesToAnEnd (behind core job (stage_by b job)) rest → ComesToAnEnd core (turn b job (length core.jobs + 1) rest)
turn_comes true core job rest = accepted_comes core job rest
turn_comes false core job rest = refused_comes core job rest

-- the accounts of these jobs are there
abbrev pub AreThere : List ℕ → List JobView → Type 0
AreThere openings jobs = (place : ℕ) (job : JobView) → slice_get jobs place ≡ Some job → IsThere openings (claim_of_job job).account

pub all_come : (core : Core) (jobs : List JobView) → AtRest core → AreThere core.openings jobs → length core.jobs + length jobs ≤ 4294967295 → ComesToAnEnd core (one_by_one core jobs)
all_come core [] still there few = (tt, still.printed)
all_come core (job ∷ jobs) still there few =
    let stage : Stage = stage_by (covered core job) job in
    let long : length (core.jobs ++ at_stage job stage ∷ []) ≡ length core.jobs + 1 = length_push core.jobs (at_stage job stage) in
    turn_comes (covered core job) core job (one_by_one (behind core job stage) jobs) still (there 0 job refl) (omega arith) refl
    (all_come (behind core job stage) jobs (rests core job stage (over_by (covered core job) job) still) (λ place other is. there (suc place) other is) (omega (arith, long)))

-- their claims arrive
claims_turn : (b : Bool) (job : JobView) (number : ℕ) (rest : List Event) → filter_map claim_of (turn b job number rest) ≡ claim_of_job job ∷ filter_map claim_of rest
claims_turn true job number rest = refl
claims_turn false job number rest = refl

pub all_arrive : (core : Core) (jobs : List JobView) → filter_map claim_of (one_by_one core jobs) ≡ map claim_of_job jobs
all_arrive core [] = refl
all_arrive core (job ∷ jobs) =
    let stage : Stage = stage_by (covered core job) job in
    claims_turn (covered core job) job (length core.jobs + 1) (one_by_one (behind core job stage) jobs)
    ∙ ap (λ (claims : List Claim). claim_of_job job ∷ claims) (all_arrive (behind core job stage) jobs)

-- an end is that of one of these jobs, the first of which has this number, at what it costs
pub record IsEndOf (jobs : List JobView) (first number paid : ℕ) : Type 0 where
  pub place : ℕ
  pub job : JobView
  pub is : slice_get jobs place ≡ Some job
  pub at : number ≡ first + place
  pub costs : paid ≡ cost job

later_end : (job : JobView) (jobs : List JobView) (first next number paid : ℕ) → next ≡ first + 1 → IsEndOf jobs next number paid → IsEndOf (job ∷ jobs) first number paid
later_end job jobs first next number paid is end = record { place = suc end.place; job = end.job; is = end.is; at = omega (arith, is, end.at); costs = end.costs }

skip : (event other : Event) (events : List Event) → (event ≡ other → ⊥) → Contains (event ∷ events) other → Contains events other
skip event other events apart has = elim (either event other events has) [ inl is ↦ absurd (apart is) | inr has ↦ has ]

ends_turn : (b : Bool) (job : JobView) (jobs : List JobView) (first number paid : ℕ) (rest : List Event) → (Contains rest (End number paid) → IsEndOf (job ∷ jobs) first number paid)
    → Contains (turn b job first rest) (End number paid) → IsEndOf (job ∷ jobs) first number paid
ends_turn true job jobs first number paid rest later has =
    let behind_end = Print first ∷ rest in
    let behind_accept = End first (cost job) ∷ behind_end in
    let last = skip (Accept first) (End number paid) behind_accept (λ is. cc) (skip (Arrive (claim_of_job job)) (End number paid) (Accept first ∷ behind_accept) (λ is. cc) has) in
    elim (either (End first (cost job)) (End number paid) behind_end last) [
      | inl is ↦
          let same : first ≡ number = cc in
          let costs : cost job ≡ paid = cc in
          record { place = 0; job = job; is = refl; at = omega (arith, same); costs = sym costs }
      | inr has ↦ later (skip (Print first) (End number paid) rest (λ is. cc) has)
    ]
ends_turn false job jobs first number paid rest later has =
    let behind_refuse = Print first ∷ rest in
    let last = skip (Refuse first) (End number paid) behind_refuse (λ is. cc) (skip (Arrive (claim_of_job job)) (End number paid) (Refuse first ∷ behind_refuse) (λ is. cc) has) in
    later (skip (Print first) (End number paid) rest (λ is. cc) last)

pub all_end : (core : Core) (jobs : List JobView) (number paid : ℕ) → Contains (one_by_one core jobs) (End number paid) → IsEndOf jobs (length core.jobs + 1) number paid
all_end core [] number paid (k, within, is) = let below : k < 0 = within in absurd (omega arith)
all_end core (job ∷ jobs) number paid has =
    let stage : Stage = stage_by (covered core job) job in
    let long : length (core.jobs ++ at_stage job stage ∷ []) ≡ length core.jobs + 1 = length_push core.jobs (at_stage job stage) in
    ends_turn (covered core job) job jobs (length core.jobs + 1) number paid (one_by_one (behind core job stage) jobs)
    (λ has. later_end job jobs (length core.jobs + 1) (length (core.jobs ++ at_stage job stage ∷ []) + 1) number paid (omega (arith, long)) (all_end (behind core job stage) jobs number paid has)) has
