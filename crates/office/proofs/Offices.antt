-- Each call keeps what an office keeps.
use Rattle.std.proofs.Common.{◌≡◌, ℕ, ◌+◌, ◌-◌, ◌<◌, ◌≤◌, ◌^◌, Bool, List, [], ◌∷◌, ◌++◌, Option, Some, None, length, refl, ap, sym, subst, ◌∙◌, arith}
use Rattle.std.specs.Prelude.{◌↔◌, IfNone, IsSome, OnErr, OnOk, OnSome, Result, Ok, Err}
use Rattle.std.proofs.lemmas.Option.{slice_get_within}
use Rattle.std.proofs.lemmas.List.Elements.{All-push, All-weaker}
use Rattle.std.proofs.lemmas.List.Sums.{sum_by_push}
use Rattle.job_queue.specs.declared.ticket.Ticket.{Ticket}
use Rattle.job_queue.specs.Rule.{amount_of}
use Rattle.deck_reader.specs.declared.batch.Flaw.{Flaw}
use Rattle.deck_reader.specs.JobView.{JobView}
use Rattle.account_book.specs.Charges.{charge, reserve}
use Rattle.account_book.specs.Places.{account_by}
use Rattle.algolw_meaning.specs.declared.brought.Brought.{Brought}
use Rattle.algolw_meaning.specs.EndedView.{EndedView}
use Rattle.algolw_meaning.specs.Running.{job_result}
use Rattle.batch_core.specs.declared.job.Claim.{Claim}
use Rattle.batch_core.specs.declared.job.Stage.{Stage}
use Rattle.batch_core.specs.declared.job.Stage.TheVariants.{Undecided, Refused, Outstanding, Ended}
use Rattle.batch_core.specs.declared.job.JobState.{JobState}
use Rattle.batch_core.specs.Core as batch
use Rattle.batch_core.specs.Core.{Core, no_job, job_at}
use Rattle.batch_core.specs.Events.{AlwaysCovers, IsThere, NeverCovers, MayArrive, MayAccept, MayRefuse, MayPrint, staged}
use Rattle.batch_core.proofs.Bounds.{undecided}
use Rattle.batch_core.proofs.Steps.{is_undecided}
use Rattle.office.specs.Arrivals.{IsBelow}
use Rattle.batch_core.specs.Claims.{claim_of_job}
use Rattle.office.specs.Kept.{Kept}
use Rattle.office.specs.OfficeView.{OfficeView, next_ticket, with_accepted, with_ended, with_register}
use Rattle.office.specs.Prospects.{IsNext, high_of, low_of}
use Rattle.office.specs.Register.{RegisterView, arrived, printed, refused}
use Rattle.office.specs.RegisterStands.{RegisterStands}
use Rattle.office.specs.Standings.{IsRunning}
use Rattle.office.specs.StandsFor.{StandsFor}
use Rattle.office.specs.Sums.{released, settled_in}
use Rattle.office.specs.Tickets.{Slip, issued, slip, slips, slips_amount, tickets}
use Rattle.office.proofs.Room.{may_arrive}
use Rattle.office.proofs.Running.{amount_at, may_end, running_at}
use Rattle.office.proofs.Slips.{amount_of_slips, amount_of_tickets, tickets_accept, tickets_arrive, tickets_stay}
use Rattle.office.proofs.Stands.{as_many, claim_at, kept, stands_accept, stands_arrive, stands_finish, stands_print, stands_refuse, sum_staged}

pub kept_arrived : (o : OfficeView) (put : List Ticket) (job : JobView) → Kept o put → MayArrive o.register.core (claim_of_job job) → job.number ≡ length o.register.jobs + 1 → Kept (with_register o (arrived o.register job)) put
kept_arrived o put job is may number =
    let sums = sum_by_push (λ (j : JobState). released j.stage j.claim.reserve) o.register.core.jobs (batch.arrived (claim_of_job job)) in
    record {
      stands = record {
        register = stands_arrive o.register job is.stands.register may number;
        put = is.stands.put ∙ sym (tickets_arrive 1 o.register.core.jobs (claim_of_job job));
        settled = omega (arith, is.stands.settled, sums);
      };
      decided = is.decided;
      fits = is.fits;
    }

pub kept_refused : (o : OfficeView) (put : List Ticket) → Kept o put → MayRefuse o.register.core → Kept (with_register o (refused o.register)) put
kept_refused o put is may =
    let core : Core = o.register.core in
    let at : core.decided + 1 - 1 ≡ core.decided = omega arith in
    let was : (job_at core core.decided).stage ≡ Undecided = is_undecided core (kept o.register is.stands.register) may.0 in
    let sums = sum_staged (λ s c. released s c.reserve) core core.decided Undecided Refused may.0 was in
    let F : ℕ → List Slip = λ n. tickets (staged core n Refused) in
    let G : ℕ → ℕ = λ n. settled_in (staged core n Refused) in
    let moved : G (core.decided + 1 - 1) ≡ G core.decided = ap G at in
    record {
      stands = record {
        register = stands_refuse o.register is.stands.register may;
        put = is.stands.put ∙ sym (ap F at ∙ tickets_stay 1 core.jobs core.decided Refused (λ t. ap (λ (s : Stage). issued s t) (sym was)));
        settled = omega (arith, is.stands.settled, sums, moved);
      };
      decided = All-weaker (λ t. t.number ≤ core.decided) (λ t. t.number ≤ core.decided + 1) (λ t below. omega (arith, below)) put is.decided;
      fits = is.fits;
    }

pub kept_accepted : (o : OfficeView) (put : List Ticket) (ticket : Ticket) → Kept o put → MayAccept o.register.core → slip ticket.number ticket.amount ≡ next_ticket o.register → amount_of (put ++ ticket ∷ []) < 2 ^ 62 → Kept (with_accepted o) (put ++ ticket ∷ [])
kept_accepted o put ticket is may next small =
    let core : Core = o.register.core in
    let at : core.decided + 1 - 1 ≡ core.decided = omega arith in
    let known = kept o.register is.stands.register in
    let was : (job_at core core.decided).stage ≡ Undecided = is_undecided core known may.0 in
    let sums = sum_staged (λ s c. released s c.reserve) core core.decided Undecided Outstanding may.0 was in
    let F : ℕ → List Slip = λ n. tickets (staged core n Outstanding) in
    let G : ℕ → ℕ = λ n. settled_in (staged core n Outstanding) in
    let moved : G (core.decided + 1 - 1) ≡ G core.decided = ap G at in
    let number : ticket.number ≡ core.decided + 1 = ap (λ (t : Slip). t.number) next in
    record {
      stands = record {
        register = stands_accept o.register is.stands.register may;
        put =
            ap (λ (front : List Slip). front ++ next_ticket o.register ∷ []) is.stands.put
            ∙ sym (ap F at ∙ tickets_accept 1 core.jobs core.decided (core.decided + 1) may.0 (omega arith)
            (λ other after inside. undecided (job_at core other).stage (λ d. absurd (omega (arith, (known.decisions other inside).0 d)))));
        settled = omega (arith, is.stands.settled, sums, moved);
      };
      decided = All-push (λ t. t.number ≤ core.decided + 1) put ticket (All-weaker (λ t. t.number ≤ core.decided) (λ t. t.number ≤ core.decided + 1) (λ t below. omega (arith, below)) put is.decided) (omega (arith, number));
      fits = small;
    }

pub kept_ended : (o : OfficeView) (put : List Ticket) (number amount : ℕ) (result : EndedView) → Kept o put → IsRunning o.register number amount result.job → result.counts ≡ (job_result result.job).counts → Kept (with_ended o number amount result) put
kept_ended o put number amount result is running counts =
    let core : Core = o.register.core in
    let at = running_at o.register number running.running in
    let paid : ℕ = charge result.counts in
    let may = may_end o.register number amount paid result.job result.counts is.stands.register running counts refl in
    let sums = sum_staged (λ s c. released s c.reserve) core (number - 1) Outstanding (Ended paid) at.within at.outstanding in
    let own = amount_at o.register number amount result.job is.stands.register running in
    record {
      stands = record {
        register = stands_finish o.register number result.job result is.stands.register may running.kept refl counts;
        put = is.stands.put ∙ sym (tickets_stay 1 core.jobs (number - 1) (Ended paid) (λ t. ap (λ (s : Stage). issued s t) (sym at.outstanding)));
        settled = omega (arith, is.stands.settled, sums, own);
      };
      decided = is.decided;
      fits = is.fits;
    }

pub kept_printed : (o : OfficeView) (put : List Ticket) → Kept o put → MayPrint o.register.core → Kept (with_register o (printed o.register)) put
kept_printed o put is may = record {
  stands = record { register = stands_print o.register is.stands.register may; put = is.stands.put; settled = is.stands.settled };
  decided = is.decided;
  fits = is.fits;
}

-- an office whose parts are those of another is that one
pub same_office : (o : OfficeView) (register : RegisterView) (put : List Slip) (full settled : ℕ) (closed stopped : Bool)
    → register ≡ o.register → put ≡ o.put → full ≡ o.full → settled ≡ o.settled → closed ≡ o.closed → stopped ≡ o.stopped
    → ◌≡◌ {A = OfficeView} (record { register = register; put = put; full = full; settled = settled; closed = closed; stopped = stopped }) o
same_office o register put full settled closed stopped e_register e_put e_full e_settled e_closed e_stopped =
    λ i. record { register = e_register i; put = e_put i; full = e_full i; settled = e_settled i; closed = e_closed i; stopped = e_stopped i }

pub kept_same : (o o' : OfficeView) (put put' : List Ticket) → o' ≡ o → put' ≡ put → Kept o put → Kept o' put'
kept_same o o' put put' same alike is = subst (λ (x : OfficeView). Kept x put') (sym same) (subst (λ (x : List Ticket). Kept o x) (sym alike) is)

-- what was put is what is reserved and what was settled
pub adds_up : (o : OfficeView) (put : List Ticket) → o.put ≡ slips put → StandsFor o → amount_of put ≡ o.register.reserved + o.settled
adds_up o put same stands =
    let amounts = sym (amount_of_slips put) ∙ ap slips_amount (sym same ∙ stands.put) ∙ amount_of_tickets 1 o.register.core.jobs in
    omega (arith, amounts, stands.settled, stands.register.reserved)

below_there : (openings : List ℕ) (accounts : ℕ) (account : Option ℕ) → accounts ≡ length openings → IsBelow accounts account → IsThere openings account
below_there openings accounts None same below = tt
below_there openings accounts (Some account) same below = omega (arith, same, below)

-- a job that fits may arrive
pub fitting : (r : RegisterView) (job : JobView) (accounts : ℕ) → RegisterStands r → accounts ≡ length r.core.openings → IsBelow accounts job.account → length r.jobs < 4294967295 → MayArrive r.core (claim_of_job job)
fitting r job accounts stands same below few = may_arrive r job stands (below_there r.core.openings accounts job.account same below) few

-- what can be decided of the next undecided job says what may be done
refuse_flawed : (core : Core) (flaw : Option Flaw) (account : Option ℕ) (reserve : ℕ) (found : Flaw) → flaw ≡ Some found → NeverCovers core (account_by flaw account) reserve
refuse_flawed core None account reserve found is = cc
refuse_flawed core (Some flaw) account reserve found is = tt

refuse_high : (core : Core) (account : Option ℕ) (reserve : ℕ) → high_of core account < reserve → NeverCovers core account reserve
refuse_high core None reserve above = tt
refuse_high core (Some account) reserve above = above

accept_low : (core : Core) (account : Option ℕ) (reserve : ℕ) → 0 < reserve → reserve ≤ low_of core account → AlwaysCovers core account reserve
accept_low core None reserve some covered = absurd (omega (arith, some, covered))
accept_low core (Some account) reserve some covered = covered

next_within : (r : RegisterView) (number : ℕ) (job : JobView) → RegisterStands r → IsNext r number job → r.core.decided < length r.core.jobs
next_within r number job stands next =
    let many = as_many r stands in
    let within = slice_get_within r.jobs r.core.decided job next.kept in
    omega (arith, many, within)

pub may_refuse_flawed : (r : RegisterView) (number : ℕ) (job : JobView) (flaw : Flaw) → RegisterStands r → IsNext r number job → job.flaw ≡ Some flaw → MayRefuse r.core
may_refuse_flawed r number job flaw stands next is = (
  next_within r number job stands next,
  subst (λ (c : Claim). NeverCovers r.core c.account c.reserve) (sym (claim_at r r.core.decided job stands next.kept)) (refuse_flawed r.core job.flaw job.account (reserve job) flaw is),
)

unflawed : (job : JobView) → job.flaw ≡ None → account_by job.flaw job.account ≡ job.account
unflawed job is = ap (λ (f : Option Flaw). account_by f job.account) is

pub may_refuse_high : (r : RegisterView) (number : ℕ) (job : JobView) → RegisterStands r → IsNext r number job → job.flaw ≡ None → high_of r.core job.account < reserve job → MayRefuse r.core
may_refuse_high r number job stands next is above = (
  next_within r number job stands next,
  subst (λ (c : Claim). NeverCovers r.core c.account c.reserve) (sym (claim_at r r.core.decided job stands next.kept))
      (subst (λ (a : Option ℕ). NeverCovers r.core a (reserve job)) (sym (unflawed job is)) (refuse_high r.core job.account (reserve job) above)),
)

pub may_accept : (r : RegisterView) (number : ℕ) (job : JobView) → RegisterStands r → IsNext r number job → job.flaw ≡ None → 0 < reserve job → reserve job ≤ low_of r.core job.account → MayAccept r.core
may_accept r number job stands next is some covered = (
  next_within r number job stands next,
  subst (λ (c : Claim). AlwaysCovers r.core c.account c.reserve) (sym (claim_at r r.core.decided job stands next.kept))
      (subst (λ (a : Option ℕ). AlwaysCovers r.core a (reserve job)) (sym (unflawed job is)) (accept_low r.core job.account (reserve job) some covered)),
)

-- the ticket of the next undecided job
pub next_slip : (r : RegisterView) (number amount : ℕ) (job : JobView) → RegisterStands r → IsNext r number job → amount ≡ reserve job → slip number amount ≡ next_ticket r
next_slip r number amount job stands next costs =
    let asked : amount ≡ (job_at r.core r.core.decided).claim.reserve = costs ∙ ap (λ (c : Claim). c.reserve) (sym (claim_at r r.core.decided job stands next.kept)) in
    λ i. record { number = next.next i; amount = asked i }
