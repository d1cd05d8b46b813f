-- The running numbers stay the bounds.
use Rattle.std.proofs.Common.{◌≡◌, ℕ, ◌+◌, ◌-◌, ◌<◌, ◌≤◌, ◌==◌, Bool, true, false, cond, List, Option, Some, None, length, set, slice_index, refl, ap, sym, subst, inl, inr, ◌∙◌, arith, length-set}
use Rattle.std.proofs.lemmas.Bool.{cases_Bool, eqb-true, eqb-false, eq-eqb}
use Rattle.std.proofs.lemmas.List.{get_or-set_same, get_or-set_other, length_push}
use Rattle.account_book.specs.Places as places
use Rattle.batch_core.specs.declared.job.Claim.{Claim}
use Rattle.batch_core.specs.declared.job.Stage.TheVariants.{Undecided, Refused, Outstanding, Ended}
use Rattle.batch_core.specs.Core.{Core, start, job_at, arrived}
use Rattle.batch_core.specs.Events.{IsThere, MayArrive, MayAccept, MayRefuse, MayEnd, MayPrint, staged, add, decide, finish, print}
use Rattle.batch_core.specs.Sums.{Runs}
use Rattle.batch_core.proofs.Bounds.{cond_zero}
use Rattle.batch_core.proofs.Stages.{settled_staged, reserved_staged, cards_staged, settled_added, reserved_added, cards_added}
use Rattle.batch_core.proofs.Steps.{keeps_start, keeps_arrive, keeps_accept, keeps_refuse, keeps_end, keeps_print, is_undecided, outstanding, taken, cond_least}
use Rattle.batch_core.proofs.Money.{cards_within}

-- a table of amounts in which that of one account has risen
abbrev pub raised : List ℕ → Option ℕ → ℕ → List ℕ
raised amounts None more = amounts
raised amounts (Some account) more = set amounts account (slice_index amounts account + more)

-- an account is there and has an amount
abbrev pub Has : List ℕ → Option ℕ → ℕ → Type 0
Has amounts None less = Unit {0}
Has amounts (Some account) less = (account < length amounts) × (less ≤ slice_index amounts account)

-- an account is there
abbrev pub Names : List ℕ → Option ℕ → Type 0
Names amounts None = Unit {0}
Names amounts (Some account) = account < length amounts

-- a table in which the amount of one account is set
set_at : (amounts : List ℕ) (payer account amount : ℕ) → payer < length amounts → slice_index (set amounts payer amount) account ≡ cond (payer == account) amount (slice_index amounts account)
set_at amounts payer account amount within = elim (cases_Bool (payer == account)) [
  | inl is ↦
      let F : Bool → Type 0 = λ b. slice_index (set amounts payer amount) account ≡ cond b amount (slice_index amounts account) in
      subst F (sym is) (subst (λ (n : ℕ). slice_index (set amounts payer amount) n ≡ amount) (eqb-true payer account is) (get_or-set_same amounts payer amount 0 within))
  | inr not ↦
      let F : Bool → Type 0 = λ b. slice_index (set amounts payer amount) account ≡ cond b amount (slice_index amounts account) in
      subst F (sym not) (get_or-set_other amounts payer account amount 0 (λ same. eqb-false payer account not (sym same)))
]

cond_less : (b : Bool) (payer account less : ℕ) (amounts : List ℕ) → (b ≡ true → payer ≡ account)
    → cond b (slice_index amounts payer - less) (slice_index amounts account) ≡ slice_index amounts account - cond b less 0
cond_less true payer account less amounts is = ap (λ (n : ℕ). slice_index amounts n - less) (is refl)
cond_less false payer account less amounts is = omega arith

cond_more : (b : Bool) (payer account more : ℕ) (amounts : List ℕ) → (b ≡ true → payer ≡ account)
    → cond b (slice_index amounts payer + more) (slice_index amounts account) ≡ slice_index amounts account + cond b more 0
cond_more true payer account more amounts is = ap (λ (n : ℕ). slice_index amounts n + more) (is refl)
cond_more false payer account more amounts is = omega arith

pub lowered_at : (amounts : List ℕ) (payer : Option ℕ) (less account : ℕ) → Has amounts payer less
    → slice_index (places.lowered amounts payer less) account ≡ slice_index amounts account - cond (places.is_on account payer) less 0
lowered_at amounts None less account has = omega arith
lowered_at amounts (Some payer) less account has =
    set_at amounts payer account (slice_index amounts payer - less) has.0 ∙ cond_less (payer == account) payer account less amounts (λ is. eqb-true payer account is)

pub raised_at : (amounts : List ℕ) (payer : Option ℕ) (more account : ℕ) → Names amounts payer
    → slice_index (raised amounts payer more) account ≡ slice_index amounts account + cond (places.is_on account payer) more 0
raised_at amounts None more account has = omega arith
raised_at amounts (Some payer) more account has =
    set_at amounts payer account (slice_index amounts payer + more) has ∙ cond_more (payer == account) payer account more amounts (λ is. eqb-true payer account is)

lowered_long : (amounts : List ℕ) (payer : Option ℕ) (less : ℕ) → length (places.lowered amounts payer less) ≡ length amounts
lowered_long amounts None less = refl
lowered_long amounts (Some payer) less = length-set amounts payer (slice_index amounts payer - less)

raised_long : (amounts : List ℕ) (payer : Option ℕ) (more : ℕ) → length (raised amounts payer more) ≡ length amounts
raised_long amounts None more = refl
raised_long amounts (Some payer) more = length-set amounts payer (slice_index amounts payer + more)

-- what is at most each account's amount is there to be taken
has : (amounts openings : List ℕ) (payer : Option ℕ) (less : ℕ) → length amounts ≡ length openings → IsThere openings payer → ((account : ℕ) → cond (places.is_on account payer) less 0 ≤ slice_index amounts account) → Has amounts payer less
has amounts openings None less long there below = tt
has amounts openings (Some payer) less long there below =
    let F : Bool → Type 0 = λ b. cond b less 0 ≤ slice_index amounts payer in
    (omega (arith, there), subst F (eq-eqb payer payer refl) (below payer))

names : (amounts openings : List ℕ) (payer : Option ℕ) → length amounts ≡ length openings → IsThere openings payer → Names amounts payer
names amounts openings None long there = tt
names amounts openings (Some payer) long there = omega (arith, there)

-- the next undecided job is accepted
pub has_reserve : (core : Core) (lows highs : List ℕ) → Runs core lows highs → MayAccept core → Has lows (job_at core core.decided).claim.account (job_at core core.decided).claim.reserve
has_reserve core lows highs runs may =
    let job = job_at core core.decided in
    has lows core.openings job.claim.account job.claim.reserve runs.low_count (runs.kept.claims core.decided may.0).there
    (λ account. omega (arith, runs.low_of account, taken core job.claim.account job.claim.reserve account may.1))

pub has_cards : (core : Core) (lows highs : List ℕ) → Runs core lows highs → MayAccept core → Has highs (job_at core core.decided).claim.account (job_at core core.decided).claim.cards
has_cards core lows highs runs may =
    let job = job_at core core.decided in
    let old = runs.kept.claims core.decided may.0 in
    has highs core.openings job.claim.account job.claim.cards runs.high_count old.there
    (λ account. omega (
      arith,
      runs.high_of account,
      taken core job.claim.account job.claim.reserve account may.1,
      cond_least (places.is_on account job.claim.account) job.claim.cards job.claim.reserve old.cards,
      cards_within core.jobs account (λ place within. (runs.kept.claims place within).cards),
    ))

pub runs_accept : (core : Core) (lows highs : List ℕ) → Runs core lows highs → MayAccept core
    → Runs (decide core core.decided Outstanding) (places.lowered lows (job_at core core.decided).claim.account (job_at core core.decided).claim.reserve) (places.lowered highs (job_at core core.decided).claim.account (job_at core core.decided).claim.cards)
runs_accept core lows highs runs may =
    let job = job_at core core.decided in
    let is = is_undecided core runs.kept may.0 in
    let long : length (staged core core.decided Outstanding) ≡ length core.jobs = length-set core.jobs core.decided (record { claim = job.claim; stage = Outstanding }) in
    record {
      kept = keeps_accept core runs.kept may;
      numbers = omega (arith, runs.numbers);
      low_of = λ account.
          let settled = settled_staged core core.decided account Undecided Outstanding may.0 is in
          let reserved = reserved_staged core core.decided account Undecided Outstanding may.0 is in
          omega (arith, settled, reserved, runs.low_of account, cond_zero (places.is_on account job.claim.account), lowered_at lows job.claim.account job.claim.reserve account (has_reserve core lows highs runs may));
      high_of = λ account.
          let settled = settled_staged core core.decided account Undecided Outstanding may.0 is in
          let cards = cards_staged core core.decided account Undecided Outstanding may.0 is in
          omega (arith, settled, cards, runs.high_of account, cond_zero (places.is_on account job.claim.account), lowered_at highs job.claim.account job.claim.cards account (has_cards core lows highs runs may));
      low_count = lowered_long lows job.claim.account job.claim.reserve ∙ runs.low_count;
      high_count = lowered_long highs job.claim.account job.claim.cards ∙ runs.high_count;
    }

-- it is refused
pub runs_refuse : (core : Core) (lows highs : List ℕ) → Runs core lows highs → MayRefuse core → Runs (decide core core.decided Refused) lows highs
runs_refuse core lows highs runs may =
    let job = job_at core core.decided in
    let is = is_undecided core runs.kept may.0 in
    let long : length (staged core core.decided Refused) ≡ length core.jobs = length-set core.jobs core.decided (record { claim = job.claim; stage = Refused }) in
    record {
      kept = keeps_refuse core runs.kept may;
      numbers = omega (arith, runs.numbers);
      low_of = λ account.
          let settled = settled_staged core core.decided account Undecided Refused may.0 is in
          let reserved = reserved_staged core core.decided account Undecided Refused may.0 is in
          omega (arith, settled, reserved, runs.low_of account, cond_zero (places.is_on account job.claim.account));
      high_of = λ account.
          let settled = settled_staged core core.decided account Undecided Refused may.0 is in
          let cards = cards_staged core core.decided account Undecided Refused may.0 is in
          omega (arith, settled, cards, runs.high_of account, cond_zero (places.is_on account job.claim.account));
      low_count = runs.low_count;
      high_count = runs.high_count;
    }

-- an outstanding job ends: what it had reserved and isn't charged, and what it is charged beyond its cards
less_to : (b : Bool) (m n : ℕ) → m ≤ n → cond b (n - m) 0 + cond b m 0 ≡ cond b n 0
less_to true m n h = omega arith
less_to false m n h = refl

pub names_payer : (core : Core) (lows highs : List ℕ) (place : ℕ) → Runs core lows highs → place < length core.jobs → Names lows (job_at core place).claim.account
names_payer core lows highs place runs within = names lows core.openings (job_at core place).claim.account runs.low_count (runs.kept.claims place within).there

pub has_charge : (core : Core) (lows highs : List ℕ) (place charge : ℕ) → Runs core lows highs → MayEnd core place charge → Has highs (job_at core place).claim.account (charge - (job_at core place).claim.cards)
has_charge core lows highs place charge runs may =
    let job = job_at core place in
    let is = outstanding job.stage may.1 in
    let kept = keeps_end core place charge runs.kept may in
    has highs core.openings job.claim.account (charge - job.claim.cards) runs.high_count (runs.kept.claims place may.0).there
    (λ account. omega (
      arith,
      runs.high_of account,
      kept.money account,
      less_to (places.is_on account job.claim.account) job.claim.cards charge may.2.0,
      cond_zero (places.is_on account job.claim.account),
      settled_staged core place account Outstanding (Ended charge) may.0 is,
      cards_staged core place account Outstanding (Ended charge) may.0 is,
      cards_within (staged core place (Ended charge)) account (λ other within. (kept.claims other within).cards),
    ))

pub runs_end : (core : Core) (lows highs : List ℕ) (place charge : ℕ) → Runs core lows highs → MayEnd core place charge
    → Runs (finish core place charge) (raised lows (job_at core place).claim.account ((job_at core place).claim.reserve - charge)) (places.lowered highs (job_at core place).claim.account (charge - (job_at core place).claim.cards))
runs_end core lows highs place charge runs may =
    let job = job_at core place in
    let is = outstanding job.stage may.1 in
    let long : length (staged core place (Ended charge)) ≡ length core.jobs = length-set core.jobs place (record { claim = job.claim; stage = Ended charge }) in
    let kept = keeps_end core place charge runs.kept may in
    record {
      kept = kept;
      numbers = omega (arith, runs.numbers);
      low_of = λ account.
          let settled = settled_staged core place account Outstanding (Ended charge) may.0 is in
          let reserved = reserved_staged core place account Outstanding (Ended charge) may.0 is in
          omega (
            arith,
            settled,
            reserved,
            runs.low_of account,
            runs.kept.money account,
            cond_zero (places.is_on account job.claim.account),
            less_to (places.is_on account job.claim.account) charge job.claim.reserve may.2.1,
            raised_at lows job.claim.account (job.claim.reserve - charge) account (names_payer core lows highs place runs may.0),
          );
      high_of = λ account.
          let settled = settled_staged core place account Outstanding (Ended charge) may.0 is in
          let cards = cards_staged core place account Outstanding (Ended charge) may.0 is in
          omega (
            arith,
            settled,
            cards,
            runs.high_of account,
            kept.money account,
            cond_zero (places.is_on account job.claim.account),
            less_to (places.is_on account job.claim.account) job.claim.cards charge may.2.0,
            lowered_at highs job.claim.account (charge - job.claim.cards) account (has_charge core lows highs place charge runs may),
          );
      low_count = raised_long lows job.claim.account (job.claim.reserve - charge) ∙ runs.low_count;
      high_count = lowered_long highs job.claim.account (charge - job.claim.cards) ∙ runs.high_count;
    }

-- the low bound stays below the high one
pub low_below_high : (core : Core) (lows highs : List ℕ) (account : ℕ) → Runs core lows highs → slice_index lows account ≤ slice_index highs account
low_below_high core lows highs account runs = omega (arith, runs.low_of account, runs.high_of account, cards_within core.jobs account (λ place within. (runs.kept.claims place within).cards))

-- a job is printed
pub runs_print : (core : Core) (lows highs : List ℕ) → Runs core lows highs → MayPrint core → Runs (print core) lows highs
runs_print core lows highs runs may = record { kept = keeps_print core runs.kept may; numbers = runs.numbers; low_of = runs.low_of; high_of = runs.high_of; low_count = runs.low_count; high_count = runs.high_count }

-- one arrives
pub runs_arrive : (core : Core) (lows highs : List ℕ) (claim : Claim) → Runs core lows highs → MayArrive core claim → Runs (add core claim) lows highs
runs_arrive core lows highs claim runs may = record {
  kept = keeps_arrive core claim runs.kept may;
  numbers = omega (arith, may.2, length_push core.jobs (arrived claim));
  low_of = λ account. omega (arith, runs.low_of account, settled_added core claim account, reserved_added core claim account, cond_zero (places.is_on account claim.account));
  high_of = λ account. omega (arith, runs.high_of account, settled_added core claim account, cards_added core claim account, cond_zero (places.is_on account claim.account));
  low_count = runs.low_count;
  high_count = runs.high_count;
}

-- before any event
pub runs_start : (openings : List ℕ) → Runs (start openings) openings openings
runs_start openings = record { kept = keeps_start openings; numbers = omega arith; low_of = λ account. omega arith; high_of = λ account. omega arith; low_count = refl; high_count = refl }
