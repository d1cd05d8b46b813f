-- The money of each account adds up.
use Rattle.std.proofs.Common.{ℕ, ◌<◌, ◌≤◌, Bool, true, false, cond, List, [], ◌∷◌, length, get_or, suc, arith}
use Rattle.std.proofs.lemmas.List.Sums.{sum_by-cons}
use Rattle.account_book.specs.Places as places
use Rattle.batch_core.specs.declared.job.Stage.{Stage}
use Rattle.batch_core.specs.declared.job.Stage.TheVariants.{Undecided, Refused, Outstanding, Ended}
use Rattle.batch_core.specs.declared.job.JobState.{JobState}
use Rattle.batch_core.specs.Core.{Core, no_job, held, share, reserved_on, cards_on}
use Rattle.batch_core.specs.Kept.{Kept}
use Rattle.batch_core.specs.Laws.{AddsUp}

held_less : (stage : Stage) (b : Bool) (cards reserve : ℕ) → cards ≤ reserve → cond b (held stage cards) 0 ≤ cond b (held stage reserve) 0
held_less Undecided true cards reserve h = omega arith
held_less Refused true cards reserve h = omega arith
held_less Outstanding true cards reserve h = h
held_less (Ended charge) true cards reserve h = omega arith
held_less stage false cards reserve h = omega arith

-- the cards of outstanding jobs are at most their reserves
pub cards_within : (jobs : List JobState) (account : ℕ) → ((place : ℕ) → place < length jobs → (get_or jobs place no_job).claim.cards ≤ (get_or jobs place no_job).claim.reserve) → cards_on jobs account ≤ reserved_on jobs account
cards_within [] account less = omega arith
cards_within (job ∷ jobs) account less =
    let rest : cards_on jobs account ≤ reserved_on jobs account = cards_within jobs account (λ place within. less (suc place) (omega arith)) in
    let first = held_less job.stage (places.is_on account job.claim.account) job.claim.cards job.claim.reserve (less 0 (omega arith)) in
    let cards = sum_by-cons (share (λ (j : JobState). held j.stage j.claim.cards) account) job jobs in
    let reserved = sum_by-cons (share (λ (j : JobState). held j.stage j.claim.reserve) account) job jobs in
    omega (arith, rest, first, cards, reserved)

pub adds_up : (core : Core) (account : ℕ) → Kept core → AddsUp core account
adds_up core account kept =
    let less = cards_within core.jobs account (λ place within. (kept.claims place within).cards) in
    record { opening = omega (arith, kept.money account); low = omega (arith, kept.money account); high = omega (arith, kept.money account, less) }
