-- The fields of the state as the code writes them.
use Rattle.std.proofs.Common.{◌≡◌, ℕ, ◌+◌, ◌-◌, ◌≤◌, List, Option, Some, None, get_or, set, slice_index, sym, subst, arith}
use Rattle.std.proofs.lemmas.List.{get_or_read, get_or-set_same}
use Rattle.account_book.specs.Places as places
use Rattle.batch_core.specs.declared.job.Claim.{Claim}
use Rattle.batch_core.specs.declared.job.JobState.{JobState}
use Rattle.batch_core.specs.declared.job.Stage.TheVariants.{Refused, Outstanding, Ended}
use Rattle.batch_core.specs.Core.{Core, job_at}
use Rattle.batch_core.specs.Events.{MayAccept, MayRefuse, MayEnd}
use Rattle.batch_core.specs.Sums.{Runs}
use Rattle.batch_core.proofs.Running.{Has, Names, raised, has_reserve, has_cards, has_charge, names_payer, low_below_high, runs_accept, runs_refuse, runs_end}

-- what was read of an account is its amount
read : (amounts : List ℕ) (payer less amount : ℕ) → Has amounts (Some payer) less → amount ≡ get_or amounts payer amount → amount ≡ slice_index amounts payer
read amounts payer less amount has is = get_or_read amounts payer amount has.0 is 0

-- the account that a job names
at_payer : (job there : JobState) (payer : ℕ) (P : Option ℕ → Claim → Type 0) → job ≡ there → job.claim.account ≡ Some payer → P there.claim.account there.claim → P (Some payer) job.claim
at_payer job there payer P is named holds =
    subst (λ (a : Option ℕ). P a job.claim) named (subst (λ (j : JobState). P j.claim.account j.claim) (sym is) holds)

pub cards_are_there : (core : Core) (lows highs : List ℕ) (job : JobState) (payer amount : ℕ) → Runs core lows highs → MayAccept core → job ≡ job_at core core.decided → job.claim.account ≡ Some payer
    → amount ≡ get_or highs payer amount → job.claim.cards ≤ amount
cards_are_there core lows highs job payer amount runs may is named value =
    let has : Has highs (Some payer) job.claim.cards = at_payer job (job_at core core.decided) payer (λ a claim. Has highs a claim.cards) is named (has_cards core lows highs runs may) in
    omega (arith, has.1, read highs payer job.claim.cards amount has value)

pub written_accept : (core : Core) (lows highs : List ℕ) (job : JobState) (payer low high : ℕ) → Runs core lows highs → MayAccept core → job ≡ job_at core core.decided → job.claim.account ≡ Some payer
    → low ≡ get_or lows payer low → high ≡ get_or highs payer high
    → Runs (record core { jobs = set core.jobs core.decided (record { claim = job.claim; stage = Outstanding }); decided = core.decided + 1 }) (set lows payer (low - job.claim.reserve)) (set highs payer (high - job.claim.cards))
written_accept core lows highs job payer low high runs may is named low_is high_is =
    let has_low : Has lows (Some payer) job.claim.reserve = at_payer job (job_at core core.decided) payer (λ a claim. Has lows a claim.reserve) is named (has_reserve core lows highs runs may) in
    let has_high : Has highs (Some payer) job.claim.cards = at_payer job (job_at core core.decided) payer (λ a claim. Has highs a claim.cards) is named (has_cards core lows highs runs may) in
    let F : Option ℕ → Claim → Type 0 = λ a claim. Runs (record core { jobs = set core.jobs core.decided (record { claim = claim; stage = Outstanding }); decided = core.decided + 1 })
    (places.lowered lows a claim.reserve) (places.lowered highs a claim.cards) in
    let moved : F (Some payer) job.claim = at_payer job (job_at core core.decided) payer F is named (runs_accept core lows highs runs may) in
    rw (read lows payer job.claim.reserve low has_low low_is, read highs payer job.claim.cards high has_high high_is) moved

pub written_refuse : (core : Core) (lows highs : List ℕ) (job : JobState) → Runs core lows highs → MayRefuse core → job ≡ job_at core core.decided
    → Runs (record core { jobs = set core.jobs core.decided (record { claim = job.claim; stage = Refused }); decided = core.decided + 1 }) lows highs
written_refuse core lows highs job runs may is =
    let F : JobState → Type 0 = λ j. Runs (record core { jobs = set core.jobs core.decided (record { claim = j.claim; stage = Refused }); decided = core.decided + 1 }) lows highs in
    subst F (sym is) (runs_refuse core lows highs runs may)

pub charge_is_there : (core : Core) (lows highs : List ℕ) (place charge : ℕ) (job : JobState) (payer amount : ℕ) → Runs core lows highs → MayEnd core place charge → job ≡ job_at core place → job.claim.account ≡ Some payer
    → amount ≡ get_or highs payer amount → charge - job.claim.cards ≤ amount
charge_is_there core lows highs place charge job payer amount runs may is named value =
    let has : Has highs (Some payer) (charge - job.claim.cards) = at_payer job (job_at core place) payer (λ a claim. Has highs a (charge - claim.cards)) is named (has_charge core lows highs place charge runs may) in
    omega (arith, has.1, read highs payer (charge - job.claim.cards) amount has value)

pub written_end : (core : Core) (lows highs : List ℕ) (place charge : ℕ) (job : JobState) (payer low high : ℕ) → Runs core lows highs → MayEnd core place charge → job ≡ job_at core place → job.claim.account ≡ Some payer
    → low ≡ get_or lows payer low → high ≡ get_or highs payer high
    → Runs (record core { jobs = set core.jobs place (record { claim = job.claim; stage = Ended charge }) }) (set lows payer (low + (job.claim.reserve - charge))) (set highs payer (high - (charge - job.claim.cards)))
written_end core lows highs place charge job payer low high runs may is named low_is high_is =
    let within : Names lows (Some payer) = at_payer job (job_at core place) payer (λ a claim. Names lows a) is named (names_payer core lows highs place runs may.0) in
    let has_high : Has highs (Some payer) (charge - job.claim.cards) = at_payer job (job_at core place) payer (λ a claim. Has highs a (charge - claim.cards)) is named (has_charge core lows highs place charge runs may) in
    let F : Option ℕ → Claim → Type 0 = λ a claim. Runs (record core { jobs = set core.jobs place (record { claim = claim; stage = Ended charge }) })
    (raised lows a (claim.reserve - charge)) (places.lowered highs a (charge - claim.cards)) in
    let moved : F (Some payer) job.claim = at_payer job (job_at core place) payer F is named (runs_end core lows highs place charge runs may) in
    rw (get_or_read lows payer low within low_is 0, read highs payer (charge - job.claim.cards) high has_high high_is) moved

-- what a job gives back leaves the low bound below a number that was the high one
pub refund_fits : (core : Core) (lows highs : List ℕ) (place charge : ℕ) (job : JobState) (payer low high : ℕ) → Runs core lows highs → MayEnd core place charge → job ≡ job_at core place → job.claim.account ≡ Some payer
    → low ≡ get_or lows payer low → high ≡ get_or highs payer high → low + (job.claim.reserve - charge) ≤ high
refund_fits core lows highs place charge job payer low high runs may is named low_is high_is =
    let within : Names lows (Some payer) = at_payer job (job_at core place) payer (λ a claim. Names lows a) is named (names_payer core lows highs place runs may.0) in
    let has_high : Has highs (Some payer) (charge - job.claim.cards) = at_payer job (job_at core place) payer (λ a claim. Has highs a (charge - claim.cards)) is named (has_charge core lows highs place charge runs may) in
    let after = written_end core lows highs place charge job payer low high runs may is named low_is high_is in
    let low_new = get_or-set_same lows payer (low + (job.claim.reserve - charge)) 0 within in
    let high_new = get_or-set_same highs payer (high - (charge - job.claim.cards)) 0 has_high.0 in
    omega (arith, low_new, high_new, low_below_high (record core { jobs = set core.jobs place (record { claim = job.claim; stage = Ended charge }) }) (set lows payer (low + (job.claim.reserve - charge))) (set highs payer (high - (charge - job.claim.cards))) payer after)

-- a job of no account changes no bound
pub written_end_none : (core : Core) (lows highs : List ℕ) (place charge : ℕ) (job : JobState) → Runs core lows highs → MayEnd core place charge → job ≡ job_at core place → job.claim.account ≡ None
    → Runs (record core { jobs = set core.jobs place (record { claim = job.claim; stage = Ended charge }) }) lows highs
written_end_none core lows highs place charge job runs may is named =
    let F : JobState → Type 0 = λ j. Runs (record core { jobs = set core.jobs place (record { claim = j.claim; stage = Ended charge }) })
    (raised lows j.claim.account (j.claim.reserve - charge)) (places.lowered highs j.claim.account (charge - j.claim.cards)) in
    let moved : F job = subst F (sym is) (runs_end core lows highs place charge runs may) in
    let G : Option ℕ → Type 0 = λ a. Runs (record core { jobs = set core.jobs place (record { claim = job.claim; stage = Ended charge }) })
    (raised lows a (job.claim.reserve - charge)) (places.lowered highs a (charge - job.claim.cards)) in
    subst G named moved
