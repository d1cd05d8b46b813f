-- A register has room for every event that may come, and knows when its batch is over.
use Rattle.std.proofs.Common.{◌≡◌, ℕ, suc, ◌+◌, ◌-◌, ◌*◌, ◌<◌, ◌≤◌, List, [], ◌∷◌, Option, Some, None, length, get_or, refl, ap, sym, subst, inl, inr, arith}
use Rattle.std.specs.Prelude.{slice_get}
use Rattle.std.proofs.lemmas.Bool.{cases_lt}
use Rattle.std.proofs.lemmas.List.{length_push}
use Rattle.std.proofs.lemmas.List.Sums.{get_or-le-sum_by, sum_by-cons, sum_by_push}
use Rattle.deck_reader.specs.declared.batch.Flaw.{Flaw}
use Rattle.deck_reader.specs.JobView.{JobView}
use Rattle.account_book.specs.Charges.{charge}
use Rattle.account_book.specs.Places.{account_by}
use Rattle.algolw_meaning.specs.EndedView.{EndedView}
use Rattle.algolw_meaning.specs.Running.{job_result}
use Rattle.batch_core.specs.declared.event.Event.{Event}
use Rattle.batch_core.specs.declared.event.Event.TheVariants.{Arrive, Accept, Refuse, End, Print}
use Rattle.batch_core.specs.declared.job.Stage.{Stage}
use Rattle.batch_core.specs.declared.job.Stage.TheVariants.{Undecided, Refused, Outstanding, Ended}
use Rattle.batch_core.specs.declared.job.JobState.{JobState}
use Rattle.batch_core.specs.Core as batch
use Rattle.batch_core.specs.Core.{Core, no_job, job_at, held}
use Rattle.batch_core.specs.Events.{IsOver, IsThere, MayArrive, MayAccept, MayRefuse, MayEnd, MayPrint, Allowed, staged}
use Rattle.batch_core.specs.Kept.{AllOver, IsDecided, Kept}
use Rattle.batch_core.proofs.Steps.{is_undecided, outstanding}
use Rattle.batch_core.specs.Claims.{claim_of_job}
use Rattle.office.specs.Register.{RegisterView, accepted, arrived, finished, printed, refused}
use Rattle.office.specs.RegisterStands.{RegisterStands}
use Rattle.office.specs.Registered.{Registered}
use Rattle.office.specs.Sums.{outstanding_in}
use Rattle.office.proofs.Stands.{kept, as_many, sum_staged, stands_accept, stands_arrive, stands_finish, stands_print, stands_refuse}

-- the events so far leave room for a decision
pub room_to_decide : (r : RegisterView) (room running : ℕ) → Registered r room running → r.core.decided < length r.core.jobs → length r.journal < room
room_to_decide r room running is within =
    let many = as_many r is.stands in
    let core = kept r is.stands in
    omega (arith, core.printed, is.used, is.enough)

-- for an end
pub room_to_end : (r : RegisterView) (room running place charge : ℕ) → Registered r room running → MayEnd r.core place charge → (length r.journal < room) × (0 < running)
room_to_end r room running place charge is may =
    let many = as_many r is.stands in
    let core = kept r is.stands in
    let was : (job_at r.core place).stage ≡ Outstanding = outstanding (job_at r.core place).stage may.1 in
    let one : held (job_at r.core place).stage 1 ≡ 1 = ap (λ (s : Stage). held s 1) was in
    let some = get_or-le-sum_by (λ (j : JobState). held j.stage 1) r.core.jobs place no_job may.0 in
    (omega (arith, core.printed, core.decided, is.used, is.enough, is.running, one, some), omega (arith, is.running, one, some))

-- and for a printing
pub room_to_print : (r : RegisterView) (room running : ℕ) → Registered r room running → MayPrint r.core → length r.journal < room
room_to_print r room running is may =
    let many = as_many r is.stands in
    let core = kept r is.stands in
    omega (arith, core.decided, is.used, is.enough, may.0)

-- what an outstanding job has reserved is among what is reserved
pub reserve_is_there : (r : RegisterView) (room running place charge : ℕ) → Registered r room running → MayEnd r.core place charge → (job_at r.core place).claim.reserve ≤ r.reserved
reserve_is_there r room running place charge is may =
    let was : (job_at r.core place).stage ≡ Outstanding = outstanding (job_at r.core place).stage may.1 in
    let one : held (job_at r.core place).stage (job_at r.core place).claim.reserve ≡ (job_at r.core place).claim.reserve = ap (λ (s : Stage). held s (job_at r.core place).claim.reserve) was in
    let some = get_or-le-sum_by (λ (j : JobState). held j.stage j.claim.reserve) r.core.jobs place no_job may.0 in
    omega (arith, is.stands.reserved, one, some)

pub registered_arrive : (r : RegisterView) (job : JobView) (room more running : ℕ) → Registered r room running → MayArrive r.core (claim_of_job job) → job.number ≡ length r.jobs + 1 → 4 * (length r.jobs + 1) ≤ more → Registered (arrived r job) more running
registered_arrive r job room more running is may number fits =
    let many = as_many r is.stands in
    let jobs = length_push r.jobs job in
    let events = length_push r.journal (Arrive (claim_of_job job)) in
    let sums = sum_by_push (λ (j : JobState). held j.stage 1) r.core.jobs (batch.arrived (claim_of_job job)) in
    record {
      stands = stands_arrive r job is.stands may number;
      running = omega (arith, is.running, sums);
      numbers = omega (arith, may.2, jobs, many);
      enough = omega (arith, fits, jobs);
      used = omega (arith, is.used, events, jobs);
    }

pub registered_accept : (r : RegisterView) (room running : ℕ) → Registered r room running → MayAccept r.core → Registered (accepted r) room (running + 1)
registered_accept r room running is may =
    let was : (job_at r.core r.core.decided).stage ≡ Undecided = is_undecided r.core (kept r is.stands) may.0 in
    let at : r.core.decided + 1 - 1 ≡ r.core.decided = omega arith in
    let sums = sum_staged (λ s c. held s 1) r.core r.core.decided Undecided Outstanding may.0 was in
    let here : outstanding_in (staged r.core (r.core.decided + 1 - 1) Outstanding) ≡ outstanding_in (staged r.core r.core.decided Outstanding) = ap (λ (n : ℕ). outstanding_in (staged r.core n Outstanding)) at in
    let events = length_push r.journal (Accept (r.core.decided + 1)) in
    record {
      stands = stands_accept r is.stands may;
      running = omega (arith, is.running, sums, here);
      numbers = is.numbers;
      enough = is.enough;
      used = omega (arith, is.used, events);
    }

pub registered_refuse : (r : RegisterView) (room running : ℕ) → Registered r room running → MayRefuse r.core → Registered (refused r) room running
registered_refuse r room running is may =
    let was : (job_at r.core r.core.decided).stage ≡ Undecided = is_undecided r.core (kept r is.stands) may.0 in
    let at : r.core.decided + 1 - 1 ≡ r.core.decided = omega arith in
    let sums = sum_staged (λ s c. held s 1) r.core r.core.decided Undecided Refused may.0 was in
    let here : outstanding_in (staged r.core (r.core.decided + 1 - 1) Refused) ≡ outstanding_in (staged r.core r.core.decided Refused) = ap (λ (n : ℕ). outstanding_in (staged r.core n Refused)) at in
    let events = length_push r.journal (Refuse (r.core.decided + 1)) in
    record {
      stands = stands_refuse r is.stands may;
      running = omega (arith, is.running, sums, here);
      numbers = is.numbers;
      enough = is.enough;
      used = omega (arith, is.used, events);
    }

pub registered_finish : (r : RegisterView) (room running number : ℕ) (job : JobView) (result : EndedView) → Registered r room running → Allowed r.core (End number (charge result.counts))
    → slice_get r.jobs (number - 1) ≡ Some job → result.job ≡ job → result.counts ≡ (job_result job).counts → Registered (finished r number result) room (running - 1)
registered_finish r room running number job result is may there own counts =
    let was : (job_at r.core (number - 1)).stage ≡ Outstanding = outstanding (job_at r.core (number - 1)).stage may.1.1 in
    let sums = sum_staged (λ s c. held s 1) r.core (number - 1) Outstanding (Ended (charge result.counts)) may.1.0 was in
    let some = room_to_end r room running (number - 1) (charge result.counts) is may.1 in
    let events = length_push r.journal (End number (charge result.counts)) in
    record {
      stands = stands_finish r number job result is.stands may there own counts;
      running = omega (arith, is.running, sums, some.1);
      numbers = is.numbers;
      enough = is.enough;
      used = omega (arith, is.used, events, some.1);
    }

pub registered_print : (r : RegisterView) (room running : ℕ) → Registered r room running → MayPrint r.core → Registered (printed r) room running
registered_print r room running is may =
    let events = length_push r.journal (Print (r.core.printed + 1)) in
    record {
      stands = stands_print r is.stands may;
      running = is.running;
      numbers = is.numbers;
      enough = is.enough;
      used = omega (arith, is.used, events);
    }

is_over_if : (stage : Stage) → IsDecided stage → held stage 1 ≡ 0 → IsOver stage
is_over_if Undecided decided none = absurd decided
is_over_if Refused decided none = tt
is_over_if Outstanding decided none = absurd (omega (arith, none))
is_over_if (Ended charge) decided none = tt

-- where none is outstanding and all are decided, all are over
pub all_over : (core : Core) → Kept core → outstanding_in core.jobs ≡ 0 → core.decided ≡ length core.jobs → AllOver core
all_over core is none all place within =
    let some = get_or-le-sum_by (λ (j : JobState). held j.stage 1) core.jobs place no_job within in
    is_over_if (job_at core place).stage ((is.decisions place within).1 (omega arith)) (omega (arith, some))

held_over : (stage : Stage) → IsOver stage → held stage 1 ≡ 0
held_over Undecided over = absurd over
held_over Refused over = refl
held_over Outstanding over = absurd over
held_over (Ended charge) over = refl

none_held : (jobs : List JobState) → ((place : ℕ) → place < length jobs → IsOver (get_or jobs place no_job).stage) → outstanding_in jobs ≡ 0
none_held [] over = refl
none_held (job ∷ jobs) over =
    let rest : outstanding_in jobs ≡ 0 = none_held jobs (λ place within. over (suc place) (omega arith)) in
    let here : held job.stage 1 ≡ 0 = held_over job.stage (over 0 (omega arith)) in
    let sums = sum_by-cons (λ (j : JobState). held j.stage 1) job jobs in
    omega (arith, rest, here, sums)

-- and where all are over, none is outstanding
pub over_none : (core : Core) → AllOver core → outstanding_in core.jobs ≡ 0
over_none core over = none_held core.jobs over

-- and all are decided
pub over_all : (core : Core) → Kept core → AllOver core → core.decided ≡ length core.jobs
over_all core is over = elim (cases_lt core.decided (length core.jobs)) [
  | inl less ↦
      let was : (job_at core core.decided).stage ≡ Undecided = is_undecided core is less in
      absurd (subst IsOver was (over core.decided less))
  | inr not ↦ omega (arith, is.decided)
]

-- a register whose parts are those of another is that one
pub same_register : (r : RegisterView) (core : Core) (journal : List Event) (jobs : List JobView) (results : List (Option EndedView)) (reserved : ℕ)
    → core ≡ r.core → journal ≡ r.journal → jobs ≡ r.jobs → results ≡ r.results → reserved ≡ r.reserved
    → ◌≡◌ {A = RegisterView} (record { core = core; journal = journal; jobs = jobs; results = results; reserved = reserved }) r
same_register r core journal jobs results reserved e_core e_journal e_jobs e_results e_reserved =
    λ i. record { core = e_core i; journal = e_journal i; jobs = e_jobs i; results = e_results i; reserved = e_reserved i }

pub rebuilt : (r : RegisterView) (core : Core) (journal : List Event) (jobs : List JobView) (results : List (Option EndedView)) (reserved room room' running : ℕ)
    → core ≡ r.core → journal ≡ r.journal → jobs ≡ r.jobs → results ≡ r.results → reserved ≡ r.reserved → room' ≡ room → Registered r room running
    → Registered (record { core = core; journal = journal; jobs = jobs; results = results; reserved = reserved }) room' running
rebuilt r core journal jobs results reserved room room' running e_core e_journal e_jobs e_results e_reserved e_room is =
    subst (λ (x : RegisterView). Registered x room' running) (sym (same_register r core journal jobs results reserved e_core e_journal e_jobs e_results e_reserved))
    (subst (λ (n : ℕ). Registered r n running) (sym e_room) is)

-- the numbers that are kept are small
pub few_running : (r : RegisterView) (room running : ℕ) → Registered r room running → running ≤ 17179869180
few_running r room running is =
    let many = as_many r is.stands in
    let core = kept r is.stands in
    omega (arith, core.printed, core.decided, is.used, is.numbers)

-- whether all are over
pub over_by_count : (r : RegisterView) (room running decided arrived : ℕ) → Registered r room running → running ≡ 0 → decided ≡ r.core.decided → arrived ≡ length r.jobs → decided ≡ arrived → AllOver r.core
over_by_count r room running decided arrived is none same long all =
    let many = as_many r is.stands in
    all_over r.core (kept r is.stands) (omega (arith, is.running)) (omega arith)

pub count_by_over : (r : RegisterView) (room running : ℕ) → Registered r room running → AllOver r.core → (running ≡ 0) × (r.core.decided ≡ length r.jobs)
count_by_over r room running is over =
    let many = as_many r is.stands in
    let none = over_none r.core over in
    let all = over_all r.core (kept r is.stands) over in
    (omega (arith, is.running), omega arith)

pub room_before : (r : RegisterView) (room running : ℕ) → Registered r room running → length r.journal ≤ 4 * length r.jobs
room_before r room running is =
    let many = as_many r is.stands in
    let core = kept r is.stands in
    omega (arith, core.printed, core.decided, is.used)

there_by : (openings : List ℕ) (flaw : Option Flaw) (account : Option ℕ) → IsThere openings account → IsThere openings (account_by flaw account)
there_by openings None account there = there
there_by openings (Some flaw) account there = tt

-- a job on an account that is there may arrive
pub may_arrive : (r : RegisterView) (job : JobView) → RegisterStands r → IsThere r.core.openings job.account → length r.jobs < 4294967295 → MayArrive r.core (claim_of_job job)
may_arrive r job stands there few =
    let many = as_many r stands in
    (there_by r.core.openings job.flaw job.account there, omega arith, omega arith)
