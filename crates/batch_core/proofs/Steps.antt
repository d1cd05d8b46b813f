-- Each event keeps what every reachable state keeps.
use Rattle.std.proofs.Common.{◌≡◌, ℕ, ◌+◌, ◌-◌, ◌<◌, ◌≤◌, ◌↔◌, ◌==◌, Bool, true, false, cond, List, [], ◌∷◌, ◌++◌, Option, Some, None, length, get_or, refl, ap, sym, subst, inl, inr, ◌∙◌, arith, length-set}
use Rattle.std.proofs.lemmas.Bool.{cases_lt, cases_Bool, le-leb, lt-leb, eqb-true}
use Rattle.std.proofs.lemmas.List.{length_push}
use Rattle.account_book.specs.Places as places
use Rattle.batch_core.specs.declared.event.Event.{Event}
use Rattle.batch_core.specs.declared.event.Event.TheVariants.{Arrive, Accept, Refuse, End, Print}
use Rattle.batch_core.specs.declared.job.Claim.{Claim}
use Rattle.batch_core.specs.declared.job.Stage.{Stage}
use Rattle.batch_core.specs.declared.job.Stage.TheVariants.{Undecided, Refused, Outstanding, Ended}
use Rattle.batch_core.specs.Core.{Core, start, no_job, arrived, job_at, charged, held, settled_on, reserved_on, balance, low, high}
use Rattle.batch_core.specs.Events.{AlwaysCovers, NeverCovers, IsOutstanding, IsOver, Admits, MayArrive, MayAccept, MayRefuse, MayEnd, MayPrint, Allowed, staged, add, decide, finish, print, step, replay, Legal}
use Rattle.batch_core.specs.Order.{MayCost, AreCharges, Agrees, balance_at, accepted_at}
use Rattle.batch_core.specs.Kept.{IsDecided, IsAdmitted, KeptOfJob, Kept}
use Rattle.batch_core.proofs.Bounds.{between, undecided, cond_zero}
use Rattle.batch_core.proofs.Stages.{all_staged, all_added, order_staged, order_added, settled_staged, reserved_staged, settled_added, reserved_added}

-- the bounds follow from the rest
bounded : (core : Core) → ((place : ℕ) → place < length core.jobs → IsDecided (job_at core place).stage ↔ (place < core.decided))
    → ((charges : List ℕ) → AreCharges core.jobs charges → (place : ℕ) → place < length core.jobs → Agrees (job_at core place).stage (accepted_at core charges place))
    → (charges : List ℕ) → AreCharges core.jobs charges → (account : ℕ) → (low core account ≤ balance_at core charges core.decided account) × (balance_at core charges core.decided account ≤ high core account)
bounded core decisions ordered charges are account =
    let found = between core.decided core.jobs charges (λ a. get_or core.openings a 0) account are (ordered charges are) decisions in
    (omega (arith, found.low), omega (arith, found.high))

pub outstanding : (stage : Stage) → IsOutstanding stage → stage ≡ Outstanding
outstanding Undecided is = absurd is
outstanding Refused is = absurd is
outstanding Outstanding is = refl
outstanding (Ended charge) is = absurd is

over_is_decided : (stage : Stage) → IsOver stage → IsDecided stage
over_is_decided Undecided over = absurd over
over_is_decided Refused over = tt
over_is_decided Outstanding over = absurd over
over_is_decided (Ended charge) over = tt

-- a job that is covered in any case is covered by each balance above the low bound
covered : (core : Core) (account : Option ℕ) (reserve : ℕ) (balance : ℕ → ℕ) → ((a : ℕ) → low core a ≤ balance a) → AlwaysCovers core account reserve → places.covers balance account reserve ≡ true
covered core None reserve balance above covers = absurd covers
covered core (Some account) reserve balance above covers = le-leb reserve (balance account) (omega (arith, above account))

-- and one that is covered in no case is covered by no balance below the high one
uncovered : (core : Core) (account : Option ℕ) (reserve : ℕ) (balance : ℕ → ℕ) → ((a : ℕ) → balance a ≤ high core a) → NeverCovers core account reserve → places.covers balance account reserve ≡ false
uncovered core None reserve balance below never = refl
uncovered core (Some account) reserve balance below never = lt-leb reserve (balance account) (omega (arith, below account))

-- what a covered job takes of an account is there
pub taken : (core : Core) (payer : Option ℕ) (reserve account : ℕ) → AlwaysCovers core payer reserve → cond (places.is_on account payer) reserve 0 ≤ low core account
taken core None reserve account covers = absurd covers
taken core (Some payer) reserve account covers = elim (cases_Bool (payer == account)) [
  | inl is ↦
      let same : payer ≡ account = eqb-true payer account is in
      let F : Bool → Type 0 = λ b. cond b reserve 0 ≤ low core account in
      subst F (sym is) (subst (λ (n : ℕ). reserve ≤ low core n) same covers)
  | inr not ↦ let F : Bool → Type 0 = λ b. cond b reserve 0 ≤ low core account in subst F (sym not) (omega arith)
]

pub cond_least : (b : Bool) (m n : ℕ) → m ≤ n → cond b m 0 ≤ cond b n 0
cond_least true m n h = h
cond_least false m n h = omega arith

-- the stage of the next undecided job
pub is_undecided : (core : Core) → Kept core → core.decided < length core.jobs → (job_at core core.decided).stage ≡ Undecided
is_undecided core kept within = undecided (job_at core core.decided).stage (λ is. absurd (omega (arith, (kept.decisions core.decided within).0 is)))

-- a decision on the next undecided job
keeps_decision : (core : Core) (stage : Stage) → Kept core → core.decided < length core.jobs → IsDecided stage → (charged stage ≡ 0)
    → IsAdmitted stage (job_at core core.decided).claim
    → ((account : ℕ) → settled_on core.jobs account + (reserved_on core.jobs account + cond (places.is_on account (job_at core core.decided).claim.account) (held stage (job_at core core.decided).claim.reserve) 0) ≤ get_or core.openings account 0)
    → ((charges : List ℕ) → AreCharges core.jobs charges → Agrees stage (accepted_at core charges core.decided))
    → Kept (decide core core.decided stage)
keeps_decision core stage kept within decided none admitted covers agrees =
    let is : (job_at core core.decided).stage ≡ Undecided = is_undecided core kept within in
    let long : length (staged core core.decided stage) ≡ length core.jobs = length-set core.jobs core.decided (record { claim = (job_at core core.decided).claim; stage = stage }) in
    let decisions : (place : ℕ) → place < length (staged core core.decided stage) → IsDecided (get_or (staged core core.decided stage) place no_job).stage ↔ (place < core.decided + 1) =
    λ place inside. all_staged core core.decided stage (λ n j. n < length core.jobs → IsDecided j.stage ↔ (n < core.decided + 1)) within
    (λ _. ((λ _. omega arith), (λ _. decided)))
    (λ n apart inside. ((λ d. omega (arith, (kept.decisions n inside).0 d)), (λ before. (kept.decisions n inside).1 (omega arith)))) place (omega arith) in
    let order : (charges : List ℕ) → AreCharges (staged core core.decided stage) charges → (place : ℕ) → place < length (staged core core.decided stage)
    → Agrees (get_or (staged core core.decided stage) place no_job).stage (accepted_at (decide core core.decided stage) charges place) =
    λ charges are place inside. order_staged core core.decided stage within kept.order
    (λ charge _. let F : Stage → Type 0 = λ s. MayCost s (job_at core core.decided).claim charge in subst F (sym is) tt)
    agrees charges are place (omega arith) in
    record {
      decided = omega arith;
      decisions = decisions;
      printed = omega (arith, kept.printed);
      over = λ place before. all_staged core core.decided stage (λ n j. n < core.printed → IsOver j.stage) within
          (λ before. absurd (omega (arith, kept.printed))) (λ n apart before. kept.over n before) place before;
      claims = λ place inside. all_staged core core.decided stage (λ n j. n < length core.jobs → KeptOfJob core.openings j) within
          (λ inside. let old = kept.claims core.decided inside in record { there = old.there; cards = old.cards; charge = admitted })
          (λ n apart inside. kept.claims n inside) place (omega arith);
      money = λ account.
          let settled = settled_staged core core.decided account Undecided stage within is in
          let reserved = reserved_staged core core.decided account Undecided stage within is in
          let zero_is = cond_zero (places.is_on account (job_at core core.decided).claim.account) in
          let none_is : cond (places.is_on account (job_at core core.decided).claim.account) (charged stage) 0 ≡ 0 = ap (λ (n : ℕ). cond (places.is_on account (job_at core core.decided).claim.account) n 0) none ∙ zero_is in
          omega (arith, settled, reserved, zero_is, none_is, covers account);
      order = order;
      bounds = bounded (decide core core.decided stage) decisions order;
    }

pub keeps_accept : (core : Core) → Kept core → MayAccept core → Kept (decide core core.decided Outstanding)
keeps_accept core kept may = keeps_decision core Outstanding kept may.0 tt refl tt
    (λ account. omega (arith, kept.money account, taken core (job_at core core.decided).claim.account (job_at core core.decided).claim.reserve account may.1))
    (λ charges are. covered core (job_at core core.decided).claim.account (job_at core core.decided).claim.reserve (balance_at core charges core.decided) (λ a. (kept.bounds charges are a).0) may.1)

pub keeps_refuse : (core : Core) → Kept core → MayRefuse core → Kept (decide core core.decided Refused)
keeps_refuse core kept may = keeps_decision core Refused kept may.0 tt refl tt
    (λ account. omega (arith, kept.money account, cond_zero (places.is_on account (job_at core core.decided).claim.account)))
    (λ charges are. uncovered core (job_at core core.decided).claim.account (job_at core core.decided).claim.reserve (balance_at core charges core.decided) (λ a. (kept.bounds charges are a).1) may.1)

pub keeps_end : (core : Core) (place charge : ℕ) → Kept core → MayEnd core place charge → Kept (finish core place charge)
keeps_end core place charge kept may =
    let within : place < length core.jobs = may.0 in
    let is : (job_at core place).stage ≡ Outstanding = outstanding (job_at core place).stage may.1 in
    let long : length (staged core place (Ended charge)) ≡ length core.jobs = length-set core.jobs place (record { claim = (job_at core place).claim; stage = Ended charge }) in
    let was_decided : IsDecided (job_at core place).stage = let F : Stage → Type 0 = IsDecided in subst F (sym is) tt in
    let before : place < core.decided = (kept.decisions place within).0 was_decided in
    let decisions : (other : ℕ) → other < length (staged core place (Ended charge)) → IsDecided (get_or (staged core place (Ended charge)) other no_job).stage ↔ (other < core.decided) =
    λ other inside. all_staged core place (Ended charge) (λ n j. n < length core.jobs → IsDecided j.stage ↔ (n < core.decided)) within
    (λ _. ((λ _. before), (λ _. tt))) (λ n apart inside. kept.decisions n inside) other (omega arith) in
    let order : (charges : List ℕ) → AreCharges (staged core place (Ended charge)) charges → (other : ℕ) → other < length (staged core place (Ended charge))
    → Agrees (get_or (staged core place (Ended charge)) other no_job).stage (accepted_at (finish core place charge) charges other) =
    λ charges are other inside. order_staged core place (Ended charge) within kept.order
    (λ paid same. let F : Stage → Type 0 = λ s. MayCost s (job_at core place).claim paid in subst F (sym is) (subst (Admits (job_at core place).claim) (sym same) may.2))
    (λ charges are. let F : Stage → Type 0 = λ s. Agrees s (accepted_at core charges place) in subst F is (kept.order charges are place within))
    charges are other (omega arith) in
    record {
      decided = omega (arith, kept.decided);
      decisions = decisions;
      printed = kept.printed;
      over = λ other printed. all_staged core place (Ended charge) (λ n j. n < core.printed → IsOver j.stage) within
          (λ _. tt) (λ n apart printed. kept.over n printed) other printed;
      claims = λ other inside. all_staged core place (Ended charge) (λ n j. n < length core.jobs → KeptOfJob core.openings j) within
          (λ inside. let old = kept.claims place inside in record { there = old.there; cards = old.cards; charge = may.2 })
          (λ n apart inside. kept.claims n inside) other (omega arith);
      money = λ account.
          let settled = settled_staged core place account Outstanding (Ended charge) within is in
          let reserved = reserved_staged core place account Outstanding (Ended charge) within is in
          let zero_is = cond_zero (places.is_on account (job_at core place).claim.account) in
          let less = cond_least (places.is_on account (job_at core place).claim.account) charge (job_at core place).claim.reserve may.2.1 in
          omega (arith, settled, reserved, zero_is, less, kept.money account);
      order = order;
      bounds = bounded (finish core place charge) decisions order;
    }

pub keeps_print : (core : Core) → Kept core → MayPrint core → Kept (print core)
keeps_print core kept may = record {
  decided = kept.decided;
  decisions = kept.decisions;
  printed =
      let before : core.printed < core.decided = (kept.decisions core.printed may.0).0 (over_is_decided (job_at core core.printed).stage may.1) in
      omega arith;
  over = λ place before. elim (cases_lt place core.printed) [
    | inl less ↦ kept.over place less
    | inr more ↦ let same : core.printed ≡ place = omega arith in subst (λ (n : ℕ). IsOver (job_at core n).stage) same may.1
  ];
  claims = kept.claims;
  money = kept.money;
  order = kept.order;
  bounds = kept.bounds;
}

pub keeps_arrive : (core : Core) (claim : Claim) → Kept core → MayArrive core claim → Kept (add core claim)
keeps_arrive core claim kept may =
    let long : length (core.jobs ++ arrived claim ∷ []) ≡ length core.jobs + 1 = length_push core.jobs (arrived claim) in
    let decisions : (place : ℕ) → place < length (core.jobs ++ arrived claim ∷ []) → IsDecided (get_or (core.jobs ++ arrived claim ∷ []) place no_job).stage ↔ (place < core.decided) =
    all_added core claim (λ n j. IsDecided j.stage ↔ (n < core.decided)) kept.decisions ((λ is. absurd is), (λ before. absurd (omega (arith, kept.decided)))) in
    let order = order_added core claim kept.order in
    record {
      decided = omega (arith, kept.decided);
      decisions = decisions;
      printed = kept.printed;
      over = λ place before. all_added core claim (λ n j. n < core.printed → IsOver j.stage) (λ n inside before. kept.over n before)
          (λ before. absurd (omega (arith, kept.printed, kept.decided))) place (omega (arith, kept.printed, kept.decided)) before;
      claims = all_added core claim (λ n j. KeptOfJob core.openings j) kept.claims (record { there = may.0; cards = may.1; charge = tt });
      money = λ account. omega (arith, kept.money account, settled_added core claim account, reserved_added core claim account, cond_zero (places.is_on account claim.account));
      order = order;
      bounds = bounded (add core claim) decisions order;
    }

pub keeps : (core : Core) (event : Event) → Kept core → Allowed core event → Kept (step core event)
keeps core (Arrive claim) kept may = keeps_arrive core claim kept may
keeps core (Accept number) kept may =
    let same : core.decided ≡ number - 1 = omega (arith, may.0) in
    subst (λ (n : ℕ). Kept (decide core n Outstanding)) same (keeps_accept core kept may.1)
keeps core (Refuse number) kept may =
    let same : core.decided ≡ number - 1 = omega (arith, may.0) in
    subst (λ (n : ℕ). Kept (decide core n Refused)) same (keeps_refuse core kept may.1)
keeps core (End number charge) kept may = keeps_end core (number - 1) charge kept may.1
keeps core (Print number) kept may = keeps_print core kept may.1

pub keeps_start : (openings : List ℕ) → Kept (start openings)
keeps_start openings =
    let decisions : (place : ℕ) → place < 0 → IsDecided no_job.stage ↔ (place < 0) = λ place inside. absurd (omega arith) in
    let order : (charges : List ℕ) → AreCharges [] charges → (place : ℕ) → place < 0 → Agrees no_job.stage (accepted_at (start openings) charges place) = λ charges are place inside. absurd (omega arith) in
    record {
      decided = omega arith;
      decisions = decisions;
      printed = omega arith;
      over = λ place before. absurd (omega arith);
      claims = λ place inside. absurd (omega arith);
      money = λ account. omega arith;
      order = order;
      bounds = bounded (start openings) decisions order;
    }

pub keeps_all : (events : List Event) (core : Core) → Kept core → Legal core events → Kept (replay core events)
keeps_all [] core kept legal = kept
keeps_all (event ∷ events) core kept legal = keeps_all events (step core event) (keeps core event kept legal.0) legal.1
