-- Each event keeps what a register keeps.
use Rattle.std.proofs.Common.{◌≡◌, ℕ, zero, suc, ◌+◌, ◌-◌, ◌<◌, List, [], ◌∷◌, ◌++◌, Option, Some, None, length, get_or, set, refl, ap, sym, subst, inl, inr, ◌∙◌, arith, length-set}
use Rattle.std.specs.Prelude.{slice_get, sum_by}
use Rattle.std.specs.List.{range_with_len}
use Rattle.std.proofs.lemmas.Bool.{cases_eq, cases_lt}
use Rattle.std.proofs.lemmas.Option.{get_or_from_slice_get, same_Some, slice_get_within}
use Rattle.std.proofs.lemmas.List.{get_or-map, get_or-set_same, get_or-set_other, get_or_append_left, get_or_push, length-map, length_push, map_push}
use Rattle.std.proofs.lemmas.List.Sums.{sum_by-set, sum_by_push}
use Rattle.deck_reader.specs.declared.batch.Flaw.{Flaw}
use Rattle.deck_reader.specs.JobView.{JobView}
use Rattle.account_book.specs.Charges.{charge}
use Rattle.account_book.specs.Places.{account_by}
use Rattle.algolw_meaning.specs.EndedView.{EndedView}
use Rattle.algolw_meaning.specs.Running.{job_result}
use Rattle.batch_core.specs.declared.event.Event.{Event}
use Rattle.batch_core.specs.declared.event.Event.TheVariants.{Arrive, Accept, Refuse, End, Print}
use Rattle.batch_core.specs.declared.job.Claim.{Claim}
use Rattle.batch_core.specs.declared.job.Stage.{Stage}
use Rattle.batch_core.specs.declared.job.Stage.TheVariants.{Undecided, Refused, Outstanding, Ended}
use Rattle.batch_core.specs.declared.job.JobState.{JobState}
use Rattle.batch_core.specs.Core as batch
use Rattle.batch_core.specs.Core.{Core, start, no_job, job_at, held}
use Rattle.batch_core.specs.Events.{AlwaysCovers, MayArrive, MayAccept, MayRefuse, MayPrint, Allowed, Legal, staged, decide, replay, step}
use Rattle.batch_core.specs.Kept.{Kept}
use Rattle.batch_core.specs.Laws.{IsAccepted}
use Rattle.batch_core.proofs.Charges.{claims_stay}
use Rattle.batch_core.proofs.Journals.{legal_more, replay_more}
use Rattle.batch_core.proofs.Lists.{one_more}
use Rattle.batch_core.proofs.Stages.{all_staged}
use Rattle.batch_core.proofs.Steps.{is_undecided, keeps_all, keeps_start, outstanding}
use Rattle.batch_core.specs.Claims.{claim_of_job}
use Rattle.office.specs.Register.{RegisterView, accepted, arrived, finished, printed, refused}
use Rattle.office.specs.RegisterStands.{IsCharged, IsEnded, IsKept, IsResultOf, RegisterStands}
use Rattle.office.specs.Sums.{reserved_in}

-- the batch is one that a legal list of events leads to
pub kept : (r : RegisterView) → RegisterStands r → Kept r.core
kept r stands = subst Kept stands.replays (keeps_all r.journal (start r.core.openings) (keeps_start r.core.openings) stands.legal)

pub as_many : (r : RegisterView) → RegisterStands r → length r.core.jobs ≡ length r.jobs
as_many r stands = sym (length-map r.core.jobs (λ (j : JobState). j.claim)) ∙ ap (λ (claims : List Claim). length claims) stands.claims ∙ length-map r.jobs claim_of_job

legal_with : (r : RegisterView) (event : Event) → RegisterStands r → Allowed r.core event → Legal (start r.core.openings) (r.journal ++ event ∷ [])
legal_with r event stands may = legal_more r.journal (start r.core.openings) event stands.legal (subst (λ (c : Core). Allowed c event) (sym stands.replays) may)

replays_with : (r : RegisterView) (event : Event) → RegisterStands r → replay (start r.core.openings) (r.journal ++ event ∷ []) ≡ step r.core event
replays_with r event stands = replay_more r.journal (start r.core.openings) event ∙ ap (λ (c : Core). step c event) stands.replays

-- what a job claims is what it asks
pub claim_at : (r : RegisterView) (place : ℕ) (job : JobView) → RegisterStands r → slice_get r.jobs place ≡ Some job → (job_at r.core place).claim ≡ claim_of_job job
claim_at r place job stands is =
    let many = as_many r stands in
    let within = slice_get_within r.jobs place job is in
    sym (get_or-map (λ (j : JobState). j.claim) r.core.jobs place no_job no_job.claim (omega arith))
    ∙ ap (λ (claims : List Claim). get_or claims place no_job.claim) stands.claims
    ∙ get_or-map claim_of_job r.jobs place job no_job.claim within
    ∙ ap claim_of_job (get_or_from_slice_get r.jobs place job job is)

-- what is kept of a job depends on its stage and on the result that is there
kept_at : (printed place : ℕ) (job : JobView) (stage stage' : Stage) (result result' : Option EndedView) → stage ≡ stage' → result ≡ result' → IsKept printed place stage job result → IsKept printed place stage' job result'
kept_at printed place job stage stage' result result' same alike is =
    subst (λ (s : Stage). IsKept printed place s job result') same (subst (λ (x : Option EndedView). IsKept printed place stage job x) alike is)

kept_of_undecided : (printed place : ℕ) (job : JobView) → IsKept printed place Undecided job None
kept_of_undecided printed place job = record { flaw = λ a. absurd a; charge = tt; result = λ e. absurd e; none = λ _. refl }

get_before : {X : Type 0} (xs ys : List X) (place : ℕ) → place < length xs → slice_get (xs ++ ys) place ≡ slice_get xs place
get_before [] ys place within = absurd (omega arith)
get_before (x ∷ xs) ys zero within = refl
get_before (x ∷ xs) ys (suc place) within = get_before xs ys place (omega arith)

pub stands_arrive : (r : RegisterView) (job : JobView) → RegisterStands r → MayArrive r.core (claim_of_job job) → job.number ≡ length r.jobs + 1 → RegisterStands (arrived r job)
stands_arrive r job stands may number =
    let claim : Claim = claim_of_job job in
    let many = as_many r stands in
    let each = stands.each in
    let nothing : Option EndedView = None in
    record {
      legal = legal_with r (Arrive claim) stands may;
      replays = replays_with r (Arrive claim) stands;
      numbers =
          let next : job.number ≡ 1 + length r.jobs = omega arith in
          map_push (λ (j : JobView). j.number) r.jobs job
          ∙ ap (λ (front : List ℕ). front ++ job.number ∷ []) stands.numbers
          ∙ ap (λ (n : ℕ). range_with_len 1 (length r.jobs) ++ n ∷ []) next
          ∙ sym (one_more 1 (length r.jobs))
          ∙ ap (λ (n : ℕ). range_with_len 1 n) (sym (length_push r.jobs job));
      claims =
          map_push (λ (j : JobState). j.claim) r.core.jobs (batch.arrived claim)
          ∙ ap (λ (front : List Claim). front ++ claim ∷ []) stands.claims
          ∙ sym (map_push claim_of_job r.jobs job);
      each = let results = length_push r.results nothing in let jobs = length_push r.jobs job in omega arith;
      results = λ place other is. elim (cases_lt place (length r.jobs)) [
        | inl less ↦
            let old = stands.results place other (sym (get_before r.jobs (job ∷ []) place less) ∙ is) in
            kept_at r.core.printed place other (job_at r.core place).stage _ (get_or r.results place None) _
            (ap (λ (j : JobState). j.stage) (sym (get_or_append_left r.core.jobs (batch.arrived claim ∷ []) no_job place (omega arith))))
            (sym (get_or_append_left r.results (None ∷ []) None place (omega arith))) old
        | inr more ↦
            let within = slice_get_within (r.jobs ++ job ∷ []) place other is in
            let long = length_push r.jobs job in
            let here : length r.core.jobs ≡ place = omega arith in
            let there : length r.results ≡ place = omega arith in
            kept_at r.core.printed place other Undecided _ None _
            (ap (λ (j : JobState). j.stage) (sym (get_or_push r.core.jobs (batch.arrived claim) no_job place here)))
            (sym (get_or_push r.results None None place there)) (kept_of_undecided r.core.printed place other)
      ];
      reserved =
          let more = sum_by_push (λ (j : JobState). held j.stage j.claim.reserve) r.core.jobs (batch.arrived claim) in
          omega (arith, more, stands.reserved);
    }

-- how a sum over the jobs changes when one comes to another stage
pub sum_staged : (amount : Stage → Claim → ℕ) (core : Core) (place : ℕ) (old stage : Stage) → place < length core.jobs → (job_at core place).stage ≡ old
    → sum_by (λ j. amount j.stage j.claim) (staged core place stage) + amount old (job_at core place).claim ≡ sum_by (λ j. amount j.stage j.claim) core.jobs + amount stage (job_at core place).claim
sum_staged amount core place old stage within is =
    let F : Stage → Type 0 = λ s. sum_by (λ (j : JobState). amount j.stage j.claim) (staged core place stage) + amount s (job_at core place).claim ≡ sum_by (λ (j : JobState). amount j.stage j.claim) core.jobs + amount stage (job_at core place).claim in
    subst F is (sum_by-set (λ j. amount j.stage j.claim) core.jobs place (record { claim = (job_at core place).claim; stage = stage }) no_job within)

-- a decision on the next undecided job
stands_decide : (r : RegisterView) (event : Event) (stage : Stage) (reserved : ℕ) → RegisterStands r → Allowed r.core event → r.core.decided < length r.core.jobs
    → step r.core event ≡ decide r.core r.core.decided stage → (IsEnded stage → ⊥) → ((job : JobView) → IsCharged job stage)
    → ((job : JobView) → slice_get r.jobs r.core.decided ≡ Some job → IsAccepted stage → job.flaw ≡ None)
    → reserved ≡ reserved_in (staged r.core r.core.decided stage)
    → RegisterStands (record r { core = step r.core event; journal = r.journal ++ event ∷ []; reserved = reserved })
stands_decide r event stage reserved stands may within makes not charged flawless sums =
    let F : Core → Type 0 = λ core. RegisterStands (record r { core = core; journal = r.journal ++ event ∷ []; reserved = reserved }) in
    let was : (job_at r.core r.core.decided).stage ≡ Undecided = is_undecided r.core (kept r stands) within in
    let new : F (decide r.core r.core.decided stage) = record {
      legal = legal_with r event stands may;
      replays = replays_with r event stands ∙ makes;
      numbers = stands.numbers;
      claims = claims_stay (λ claim. claim) r.core.jobs r.core.decided stage ∙ stands.claims;
      each = stands.each;
      results = λ place job is. all_staged r.core r.core.decided stage
          (λ n j. (other : JobView) → slice_get r.jobs n ≡ Some other → IsKept r.core.printed n j.stage other (get_or r.results n None)) within
          (λ other is.
          let old = stands.results r.core.decided other is in
          let G : Stage → Type 0 = λ s. IsEnded s → ⊥ in
          let nothing : get_or r.results r.core.decided None ≡ None = old.none (subst G (sym was) (λ e. e)) in
          record { flaw = flawless other is; charge = charged other; result = λ e. absurd (not e); none = λ _. nothing })
          (λ n apart other is. stands.results n other is) place job is;
      reserved = sums;
    } in
    subst F (sym makes) new

flawless_if : (core : Core) (flaw : Option Flaw) (account : Option ℕ) (reserve : ℕ) → AlwaysCovers core (account_by flaw account) reserve → flaw ≡ None
flawless_if core None account reserve covers = refl
flawless_if core (Some flaw) account reserve covers = absurd covers

pub stands_accept : (r : RegisterView) → RegisterStands r → MayAccept r.core → RegisterStands (accepted r)
stands_accept r stands may =
    let at : r.core.decided + 1 - 1 ≡ r.core.decided = omega arith in
    let was : (job_at r.core r.core.decided).stage ≡ Undecided = is_undecided r.core (kept r stands) may.0 in
    stands_decide r (Accept (r.core.decided + 1)) Outstanding (r.reserved + (job_at r.core r.core.decided).claim.reserve) stands (refl, may) may.0
    (ap (λ (n : ℕ). decide r.core n Outstanding) at) (λ e. e) (λ job. tt)
    (λ job is _.
    let covers : AlwaysCovers r.core (claim_of_job job).account (claim_of_job job).reserve = subst (λ (c : Claim). AlwaysCovers r.core c.account c.reserve) (claim_at r r.core.decided job stands is) may.1 in
    flawless_if r.core job.flaw job.account (claim_of_job job).reserve covers)
    (let sums = sum_staged (λ s c. held s c.reserve) r.core r.core.decided Undecided Outstanding may.0 was in omega (arith, sums, stands.reserved))

pub stands_refuse : (r : RegisterView) → RegisterStands r → MayRefuse r.core → RegisterStands (refused r)
stands_refuse r stands may =
    let at : r.core.decided + 1 - 1 ≡ r.core.decided = omega arith in
    let was : (job_at r.core r.core.decided).stage ≡ Undecided = is_undecided r.core (kept r stands) may.0 in
    stands_decide r (Refuse (r.core.decided + 1)) Refused r.reserved stands (refl, may) may.0
    (ap (λ (n : ℕ). decide r.core n Refused) at) (λ e. e) (λ job. tt) (λ job is a. absurd a)
    (let sums = sum_staged (λ s c. held s c.reserve) r.core r.core.decided Undecided Refused may.0 was in omega (arith, sums, stands.reserved))

pub stands_finish : (r : RegisterView) (number : ℕ) (job : JobView) (result : EndedView) → RegisterStands r → Allowed r.core (End number (charge result.counts))
    → slice_get r.jobs (number - 1) ≡ Some job → result.job ≡ job → result.counts ≡ (job_result job).counts → RegisterStands (finished r number result)
stands_finish r number job result stands may there own counts =
    let place : ℕ = number - 1 in
    let paid : ℕ = charge result.counts in
    let within : place < length r.core.jobs = may.1.0 in
    let many = as_many r stands in
    let was : (job_at r.core place).stage ≡ Outstanding = outstanding (job_at r.core place).stage may.1.1 in
    let each = stands.each in
    record {
      legal = legal_with r (End number paid) stands may;
      replays = replays_with r (End number paid) stands;
      numbers = stands.numbers;
      claims = claims_stay (λ claim. claim) r.core.jobs place (Ended paid) ∙ stands.claims;
      each = let results = length-set r.results place (Some result) in omega arith;
      results = λ at other is. all_staged r.core place (Ended paid)
          (λ n j. (other : JobView) → slice_get r.jobs n ≡ Some other → IsKept r.core.printed n j.stage other (get_or (set r.results place (Some result)) n None)) within
          (λ other is.
          let old = stands.results place other is in
          let same : job ≡ other = same_Some job other (sym there ∙ is) in
          record {
            flaw = λ _. old.flaw (subst IsAccepted (sym was) tt);
            charge = ap charge (counts ∙ ap (λ (j : JobView). (job_result j).counts) same);
            result = λ _ _. subst (IsResultOf other) (sym (get_or-set_same r.results place (Some result) None (omega arith))) (own ∙ same);
            none = λ not. absurd (not tt);
          })
          (λ n apart other is. kept_at r.core.printed n other (job_at r.core n).stage _ (get_or r.results n None) _ refl (sym (get_or-set_other r.results place n (Some result) None apart)) (stands.results n other is))
          at other is;
      reserved =
          let sums = sum_staged (λ s c. held s c.reserve) r.core place Outstanding (Ended paid) within was in
          omega (arith, sums, stands.reserved);
    }

pub stands_print : (r : RegisterView) → RegisterStands r → MayPrint r.core → RegisterStands (printed r)
stands_print r stands may =
    let many = as_many r stands in
    let each = stands.each in
    let nothing : Option EndedView = None in
    record {
      legal = legal_with r (Print (r.core.printed + 1)) stands (refl, may);
      replays = replays_with r (Print (r.core.printed + 1)) stands;
      numbers = stands.numbers;
      claims = stands.claims;
      each = let results = length-set r.results r.core.printed nothing in omega arith;
      results = λ place job is.
          let old = stands.results place job is in
          elim (cases_eq place r.core.printed) [
            | inl same ↦
                let gone : get_or (set r.results r.core.printed None) place None ≡ None = ap (λ (n : ℕ). get_or (set r.results r.core.printed None) n None) same ∙ get_or-set_same r.results r.core.printed None None (omega (arith, may.0)) in
                record { flaw = old.flaw; charge = old.charge; result = λ e before. absurd (omega arith); none = λ _. gone }
            | inr apart ↦
                let other : get_or (set r.results r.core.printed None) place None ≡ get_or r.results place None = get_or-set_other r.results r.core.printed place None None apart in
                record {
                  flaw = old.flaw;
                  charge = old.charge;
                  result = λ e before. subst (IsResultOf job) (sym other) (old.result e (omega arith));
                  none = λ not. other ∙ old.none not;
                }
          ];
      reserved = stands.reserved;
    }
