-- What an account has left by the decisions of a list of events is its balance at that place.
use Rattle.std.proofs.Common.{◌≡◌, ℕ, zero, suc, ◌+◌, ◌-◌, ◌&&◌, ◌==◌, Bool, true, false, cond, nat_le, List, [], ◌∷◌, Option, Some, None, fold, map, slice_get, sum_by, take, refl, sym, ap, ◌∙◌, arith}
use Rattle.std.specs.List.{enumerate_from}
use Rattle.std.proofs.lemmas.Bool.{eqb-true}
use Rattle.std.proofs.lemmas.List.Sums.{sum_by-cons}
use Rattle.deck_reader.specs.declared.batch.Flaw.{Flaw}
use Rattle.deck_reader.specs.JobView.{JobView}
use Rattle.account_book.specs.Charges.{reserve}
use Rattle.account_book.specs.Places as places
use Rattle.batch_core.specs.declared.event.Event.{Event}
use Rattle.algolw_meaning.specs.Charging.{charged}
use Rattle.listing_order.specs.Decisions.{accepts, cost, payment}

pays_nothing : (b : Bool) (balance paid : ℕ) → balance ≡ balance - cond (b && false) paid 0
pays_nothing true balance paid = omega arith
pays_nothing false balance paid = omega arith

pays_if : (b : Bool) (balance paid : ℕ) → cond b (balance - paid) balance ≡ balance - cond b paid 0
pays_if true balance paid = refl
pays_if false balance paid = omega arith

pays_on : (same : Bool) (payer account asked paid : ℕ) (balance : ℕ → ℕ) → (payer == account) ≡ same
    → cond (same && nat_le asked (balance account)) (balance account - paid) (balance account) ≡ balance account - cond (same && nat_le asked (balance payer)) paid 0
pays_on true payer account asked paid balance is =
    pays_if (nat_le asked (balance account)) (balance account) paid
    ∙ ap (λ (n : ℕ). balance account - cond (nat_le asked (balance n)) paid 0) (sym (eqb-true payer account is))
pays_on false payer account asked paid balance is = omega arith

-- an account behind a job pays for it where it is accepted there
pays : (flaw : Option Flaw) (payer : Option ℕ) (account asked paid : ℕ) (balance : ℕ → ℕ)
    → places.after account (balance account) (record { account = places.account_by flaw payer; reserve = asked }, paid)
    ≡ balance account - cond (places.is_on account payer && places.is_accepted balance (record { account = places.account_by flaw payer; reserve = asked })) paid 0
pays (Some flaw) payer account asked paid balance = pays_nothing (places.is_on account payer) (balance account) paid
pays None None account asked paid balance = omega arith
pays None (Some payer) account asked paid balance = pays_on (payer == account) payer account asked paid balance refl

pays_by : (events : List Event) (number account : ℕ) (balance : ℕ → ℕ) (job : JobView) → accepts events number ≡ places.is_accepted balance (places.claim_of job)
    → places.after account (balance account) (charged job) ≡ balance account - payment events account (number, job)
pays_by events number account balance job is =
    pays job.flaw job.account account (reserve job) (cost job) balance
    ∙ ap (λ (b : Bool). balance account - cond (places.is_on account job.account && b) (cost job) 0) (sym is)

-- the events accept each of these jobs, the first of which has this number, as its place does from these balances on
abbrev pub AcceptsByPlace : List Event → ℕ → (ℕ → ℕ) → List JobView → Type 0
AcceptsByPlace events number balance jobs = (place : ℕ) (job : JobView) → slice_get jobs place ≡ Some job
    → accepts events (number + place) ≡ places.is_accepted (λ account. fold (places.after account) (balance account) (map charged (take place jobs))) (places.claim_of job)

pub left_behind : (count : ℕ) (jobs : List JobView) (events : List Event) (number : ℕ) (balance : ℕ → ℕ) (account : ℕ) → AcceptsByPlace events number balance jobs
    → balance account - sum_by (payment events account) (enumerate_from number (take count jobs)) ≡ fold (places.after account) (balance account) (map charged (take count jobs))
left_behind zero jobs events number balance account by = omega arith
left_behind (suc count) [] events number balance account by = omega arith
left_behind (suc count) (job ∷ jobs) events number balance account by =
    let same : number + 0 ≡ number = omega arith in
    let here = pays_by events number account balance job (ap (accepts events) (sym same) ∙ by 0 job refl) in
    let rest = left_behind count jobs events (number + 1) (λ a. places.after a (balance a) (charged job)) account
    (λ place other is. let next : number + 1 + place ≡ number + suc place = omega arith in ap (accepts events) next ∙ by (suc place) other is) in
    let more = sum_by-cons (payment events account) (number, job) (enumerate_from (number + 1) (take count jobs)) in
    let taken : balance account - sum_by (payment events account) (enumerate_from number (job ∷ take count jobs))
    ≡ balance account - payment events account (number, job) - sum_by (payment events account) (enumerate_from (number + 1) (take count jobs)) = omega (arith, more) in
    taken ∙ ap (λ (n : ℕ). n - sum_by (payment events account) (enumerate_from (number + 1) (take count jobs))) (sym here) ∙ rest
