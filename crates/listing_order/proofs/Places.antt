-- A list of events that brings all jobs to their end decides each of them by its place.
use Rattle.std.proofs.Common.{◌≡◌, ℕ, zero, suc, ◌+◌, ◌<◌, List, [], ◌∷◌, Some, drop, get_or, length, map, slice_get, take, refl, sym, ap, subst, ◌∙◌, arith}
use Rattle.std.proofs.lemmas.List.{length-map, take-map}
use Rattle.std.proofs.lemmas.Option.{slice_get_within}
use Rattle.deck_reader.specs.JobView.{JobView}
use Rattle.account_book.specs.Places as places
use Rattle.batch_core.specs.declared.event.Event.{Event}
use Rattle.batch_core.specs.declared.event.Event.TheVariants.{Arrive, Accept, Refuse, End, Print}
use Rattle.batch_core.specs.declared.job.Claim.{Claim}
use Rattle.batch_core.specs.declared.job.JobState.{JobState}
use Rattle.batch_core.specs.declared.job.Stage.{Stage}
use Rattle.batch_core.specs.declared.job.Stage.TheVariants.{Undecided, Refused, Outstanding, Ended}
use Rattle.batch_core.specs.Claims.{claim_of_job}
use Rattle.batch_core.specs.Core.{Core, start, no_job, job_at}
use Rattle.batch_core.specs.Events.{IsOver, replay, step}
use Rattle.batch_core.specs.Kept.{Kept}
use Rattle.batch_core.specs.Laws.{AsListed}
use Rattle.batch_core.specs.Order.{MayCost, AreCharges, Agrees, accepted_at, claimed, priced}
use Rattle.batch_core.proofs.Lists.{have_arrived}
use Rattle.batch_core.proofs.Listed.{as_listed}
use Rattle.batch_core.proofs.Steps.{keeps_start, keeps_all}
use Rattle.algolw_meaning.specs.Charging.{charged}
use Rattle.batch_listing.specs.Listing.{accepted}
use Rattle.listing_order.specs.Decisions.{accepts, refuses, cost}
use Rattle.listing_order.specs.Laws.{BringsToEnd}
use Rattle.listing_order.proofs.Decided.{DecidedAs, accepts_listed, refuses_listed, decided_as}

-- no event changes what the accounts were opened with
openings_stay : (events : List Event) (core : Core) → (replay core events).openings ≡ core.openings
openings_stay [] core = refl
openings_stay (Arrive claim ∷ events) core = openings_stay events (step core (Arrive claim))
openings_stay (Accept number ∷ events) core = openings_stay events (step core (Accept number))
openings_stay (Refuse number ∷ events) core = openings_stay events (step core (Refuse number))
openings_stay (End number paid ∷ events) core = openings_stay events (step core (End number paid))
openings_stay (Print number ∷ events) core = openings_stay events (step core (Print number))

abbrev pub claims : List JobState → List Claim
claims states = map (λ job. job.claim) states

claim_at : (states : List JobState) (jobs : List JobView) (place : ℕ) (job : JobView) → claims states ≡ map claim_of_job jobs → slice_get jobs place ≡ Some job
    → (get_or states place no_job).claim ≡ claim_of_job job
claim_at states [] place job same is = cc
claim_at [] (first ∷ jobs) place job same is = let e : 0 ≡ suc (length (map claim_of_job jobs)) = ap length same in absurd (omega arith)
claim_at (state ∷ states) (first ∷ jobs) zero job same is =
    let here : state.claim ≡ claim_of_job first = ap (λ (cs : List Claim). get_or cs 0 state.claim) same in
    let e : first ≡ job = cc in
    here ∙ ap claim_of_job e
claim_at (state ∷ states) (first ∷ jobs) (suc place) job same is = claim_at states jobs place job (ap (λ (cs : List Claim). drop (suc zero) cs) same) is

priced_so : (states : List JobState) (jobs : List JobView) → claims states ≡ map claim_of_job jobs → priced states (map cost jobs) ≡ map charged jobs
priced_so [] [] same = refl
priced_so (state ∷ states) [] same = let e : suc (length (claims states)) ≡ 0 = ap length same in absurd (omega arith)
priced_so [] (job ∷ jobs) same = let e : 0 ≡ suc (length (map claim_of_job jobs)) = ap length same in absurd (omega arith)
priced_so (state ∷ states) (job ∷ jobs) same =
    let here : state.claim ≡ claim_of_job job = ap (λ (cs : List Claim). get_or cs 0 state.claim) same in
    ap (λ (claim : Claim). (record { account = claim.account; reserve = claim.reserve }, cost job) ∷ priced states (map cost jobs)) here
    ∙ ap (λ (rest : List (places.Claim × ℕ)). charged job ∷ rest) (priced_so states jobs (ap (λ (cs : List Claim). drop (suc zero) cs) same))

-- what a job that is over costs
may_cost : (stage : Stage) (claim : Claim) (paid : ℕ) → IsOver stage → ((charge : ℕ) → stage ≡ Ended charge → charge ≡ paid) → MayCost stage claim paid
may_cost Undecided claim paid over ended = tt
may_cost Refused claim paid over ended = tt
may_cost Outstanding claim paid over ended = absurd over
may_cost (Ended charge) claim paid over ended = sym (ended charge refl)

are_charges : (states : List JobState) (jobs : List JobView) → length states ≡ length jobs
    → ((place : ℕ) (job : JobView) → slice_get jobs place ≡ Some job → MayCost (get_or states place no_job).stage (get_or states place no_job).claim (cost job)) → AreCharges states (map cost jobs)
are_charges [] jobs same each = tt
are_charges (state ∷ states) [] same each = absurd (omega arith)
are_charges (state ∷ states) (job ∷ jobs) same each = (each 0 job refl, are_charges states jobs (omega arith) (λ place other is. each (suc place) other is))

-- the list decides each job as its place does
pub at_place : (openings : List ℕ) (jobs : List JobView) (events : List Event) (place : ℕ) (job : JobView) → BringsToEnd openings jobs events → slice_get jobs place ≡ Some job
    → DecidedAs (accepts events (place + 1)) (refuses events (place + 1)) (accepted openings (take place jobs) job)
at_place openings jobs events place job brings is =
    let core : Core = replay (start openings) events in
    let kept : Kept core = keeps_all events (start openings) (keeps_start openings) brings.legal in
    let same : claims core.jobs ≡ map claim_of_job jobs = have_arrived events (start openings) ∙ brings.claims in
    let long : length core.jobs ≡ length jobs = sym (length-map core.jobs (λ (j : JobState). j.claim)) ∙ ap length same ∙ length-map jobs claim_of_job in
    let over : (n : ℕ) (j : JobView) → slice_get jobs n ≡ Some j → IsOver (job_at core n).stage = λ n j at. kept.over n (omega (arith, brings.complete, long, slice_get_within jobs n j at)) in
    let listed : (n : ℕ) → AsListed events core n = λ n. as_listed openings events n (keeps_start openings) brings.legal in
    let charges : AreCharges core.jobs (map cost jobs) = are_charges core.jobs jobs long
    (λ n j at. may_cost (job_at core n).stage (job_at core n).claim (cost j) (over n j at) (λ paid ended. brings.charges n paid j at (((listed n).ended paid).1 ended))) in
    let within : place < length core.jobs = omega (arith, long, slice_get_within jobs place job is) in
    let agrees : Agrees (job_at core place).stage (accepted_at core (map cost jobs) place) = kept.order (map cost jobs) charges place within in
    let here : accepted_at core (map cost jobs) place ≡ accepted openings (take place jobs) job =
    ap (λ (priced : List (places.Claim × ℕ)). places.is_accepted (λ account. places.place_balance core.openings (take place priced) account) (claimed (job_at core place))) (priced_so core.jobs jobs same)
    ∙ ap (λ (priced : List (places.Claim × ℕ)). places.is_accepted (λ account. places.place_balance core.openings priced account) (claimed (job_at core place))) (take-map charged place jobs)
    ∙ ap (λ (opened : List ℕ). places.is_accepted (λ account. places.place_balance opened (map charged (take place jobs)) account) (claimed (job_at core place))) (openings_stay events (start openings))
    ∙ ap (λ (claim : Claim). places.is_accepted (λ account. places.place_balance openings (map charged (take place jobs)) account) (record { account = claim.account; reserve = claim.reserve })) (claim_at core.jobs jobs place job same is) in
    let takes = accepts_listed events (place + 1) in
    let refusals = refuses_listed events (place + 1) in
    let of_job = listed place in
    decided_as (job_at core place).stage (accepts events (place + 1)) (refuses events (place + 1)) (accepted openings (take place jobs) job) (over place job is)
    (subst (Agrees (job_at core place).stage) here agrees)
    ((λ yes. of_job.accepted.0 (takes.0 yes)), (λ yes. takes.1 (of_job.accepted.1 yes)))
    ((λ yes. of_job.refused.0 (refusals.0 yes)), (λ yes. refusals.1 (of_job.refused.1 yes)))
