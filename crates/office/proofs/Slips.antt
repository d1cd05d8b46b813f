-- The tickets of the accepted jobs.
use Rattle.std.proofs.Common.{◌≡◌, ℕ, zero, suc, ◌+◌, ◌<◌, ◌≤◌, List, [], ◌∷◌, ◌++◌, length, get_or, set, refl, ap, sym, ◌∙◌, arith}
use Rattle.std.proofs.lemmas.List.{append_assoc}
use Rattle.std.proofs.lemmas.List.Sums.{sum_by-append, sum_by-cons}
use Rattle.job_queue.specs.declared.ticket.Ticket.{Ticket}
use Rattle.job_queue.specs.Rule.{amount_of}
use Rattle.batch_core.specs.declared.job.Claim.{Claim}
use Rattle.batch_core.specs.declared.job.Stage.{Stage}
use Rattle.batch_core.specs.declared.job.Stage.TheVariants.{Undecided, Refused, Outstanding, Ended}
use Rattle.batch_core.specs.declared.job.JobState.{JobState}
use Rattle.batch_core.specs.Core as batch
use Rattle.batch_core.specs.Core.{no_job, held}
use Rattle.office.specs.Sums.{released, reserved_in, settled_in}
use Rattle.office.specs.Tickets.{Slip, issued, slip, slips, slips_amount, tickets_from}

-- what the tickets say has their amounts
pub amount_of_slips : (tickets : List Ticket) → slips_amount (slips tickets) ≡ amount_of tickets
amount_of_slips [] = refl
amount_of_slips (ticket ∷ tickets) =
    let rest = amount_of_slips tickets in
    let here = sum_by-cons (λ (t : Slip). t.amount) (slip ticket.number ticket.amount) (slips tickets) in
    let there = sum_by-cons (λ (t : Ticket). t.amount) ticket tickets in
    omega (arith, rest, here, there)

-- a new job has none
pub tickets_arrive : (number : ℕ) (jobs : List JobState) (claim : Claim) → tickets_from number (jobs ++ batch.arrived claim ∷ []) ≡ tickets_from number jobs
tickets_arrive number [] claim = refl
tickets_arrive number (job ∷ jobs) claim = ap (λ (rest : List Slip). issued job.stage (slip number job.claim.reserve) ++ rest) (tickets_arrive (suc number) jobs claim)

-- nor have undecided ones
tickets_none : (number : ℕ) (jobs : List JobState) → ((place : ℕ) → place < length jobs → (get_or jobs place no_job).stage ≡ Undecided) → tickets_from number jobs ≡ []
tickets_none number [] undecided = refl
tickets_none number (job ∷ jobs) undecided =
    ap (λ (s : Stage). issued s (slip number job.claim.reserve) ++ tickets_from (suc number) jobs) (undecided 0 (omega arith))
    ∙ tickets_none (suc number) jobs (λ place within. undecided (suc place) (omega arith))

-- they stay where a job comes to a stage at which as many are issued
pub tickets_stay : (number : ℕ) (jobs : List JobState) (place : ℕ) (stage : Stage) → ((ticket : Slip) → issued stage ticket ≡ issued (get_or jobs place no_job).stage ticket)
    → tickets_from number (set jobs place (record { claim = (get_or jobs place no_job).claim; stage = stage })) ≡ tickets_from number jobs
tickets_stay number [] place stage same = refl
tickets_stay number (job ∷ jobs) zero stage same = ap (λ (front : List Slip). front ++ tickets_from (suc number) jobs) (same (slip number job.claim.reserve))
tickets_stay number (job ∷ jobs) (suc place) stage same = ap (λ (rest : List Slip). issued job.stage (slip number job.claim.reserve) ++ rest) (tickets_stay (suc number) jobs place stage same)

-- and there is one more at the end where the first undecided one is accepted
pub tickets_accept : (number : ℕ) (jobs : List JobState) (place next : ℕ) → place < length jobs → number + place ≡ next
    → ((other : ℕ) → place ≤ other → other < length jobs → (get_or jobs other no_job).stage ≡ Undecided)
    → tickets_from number (set jobs place (record { claim = (get_or jobs place no_job).claim; stage = Outstanding })) ≡ tickets_from number jobs ++ slip next (get_or jobs place no_job).claim.reserve ∷ []
tickets_accept number [] place next within at undecided = absurd (omega arith)
tickets_accept number (job ∷ jobs) zero next within at undecided =
    let none : tickets_from (suc number) jobs ≡ [] = tickets_none (suc number) jobs (λ other inside. undecided (suc other) (omega arith) (omega arith)) in
    let same : number ≡ next = omega arith in
    let first : tickets_from number (job ∷ jobs) ≡ [] = ap (λ (s : Stage). issued s (slip number job.claim.reserve) ++ tickets_from (suc number) jobs) (undecided 0 (omega arith) (omega arith)) ∙ none in
    ap (λ (rest : List Slip). slip number job.claim.reserve ∷ rest) none
    ∙ ap (λ (n : ℕ). slip n job.claim.reserve ∷ []) same
    ∙ ap (λ (front : List Slip). front ++ slip next job.claim.reserve ∷ []) (sym first)
tickets_accept number (job ∷ jobs) (suc place) next within at undecided =
    ap (λ (rest : List Slip). issued job.stage (slip number job.claim.reserve) ++ rest)
    (tickets_accept (suc number) jobs place next (omega arith) (omega arith) (λ other after inside. undecided (suc other) (omega arith) (omega arith)))
    ∙ sym (append_assoc (issued job.stage (slip number job.claim.reserve)) (tickets_from (suc number) jobs) (slip next (get_or jobs place no_job).claim.reserve ∷ []))

amount_issued : (stage : Stage) (ticket : Slip) → slips_amount (issued stage ticket) ≡ held stage ticket.amount + released stage ticket.amount
amount_issued Undecided ticket = refl
amount_issued Refused ticket = refl
amount_issued Outstanding ticket = omega (arith, sum_by-cons (λ (t : Slip). t.amount) ticket [])
amount_issued (Ended charge) ticket = omega (arith, sum_by-cons (λ (t : Slip). t.amount) ticket [])

-- their amounts are what is reserved and what is settled
pub amount_of_tickets : (number : ℕ) (jobs : List JobState) → slips_amount (tickets_from number jobs) ≡ reserved_in jobs + settled_in jobs
amount_of_tickets number [] = refl
amount_of_tickets number (job ∷ jobs) =
    let rest = amount_of_tickets (suc number) jobs in
    let here = amount_issued job.stage (slip number job.claim.reserve) in
    let parts = sum_by-append (λ (t : Slip). t.amount) (issued job.stage (slip number job.claim.reserve)) (tickets_from (suc number) jobs) in
    let reserved = sum_by-cons (λ (j : JobState). held j.stage j.claim.reserve) job jobs in
    let settled = sum_by-cons (λ (j : JobState). released j.stage j.claim.reserve) job jobs in
    omega (arith, rest, here, parts, reserved, settled)
