-- Which answer comes is determined by the register.
use Rattle.std.proofs.Common.{◌≡◌, ℕ, ◌+◌, ◌<◌, ◌≤◌, Bool, true, false, cond, Option, Some, None, ap, sym, ◌∙◌, arith}
use Rattle.std.specs.Prelude.{nat_lt}
use Rattle.std.proofs.lemmas.Bool.Decides.{nat_tests}
use Rattle.std.proofs.lemmas.Option.{slice_get_past}
use Rattle.deck_reader.specs.declared.batch.Flaw.{Flaw}
use Rattle.deck_reader.specs.JobView.{JobView}
use Rattle.account_book.specs.Charges.{reserve}
use Rattle.batch_core.proofs.Money.{cards_within}
use Rattle.office.specs.declared.answers.Admitted.TheVariants.{Accepted, Refused, Flawed, Waits, Full, NoneArrived}
use Rattle.office.specs.Answers.{by_balance, by_flaw, by_job, decision}
use Rattle.office.specs.Laws.{AnswersAreExact}
use Rattle.office.specs.Prospects.{IsNext, high_of, low_of}
use Rattle.office.specs.Register.{RegisterView}
use Rattle.office.specs.RegisterStands.{RegisterStands}
use Rattle.office.proofs.Stands.{kept}

low_below_high : (r : RegisterView) (account : Option ℕ) → RegisterStands r → low_of r.core account ≤ high_of r.core account
low_below_high r None stands = omega arith
low_below_high r (Some account) stands =
    let core = kept r stands in
    let less = cards_within r.core.jobs account (λ place within. (core.claims place within).cards) in
    omega (arith, less)

less : (a b : ℕ) → a < b → nat_lt a b ≡ true
less a b is = grind (arith, nat_tests)

not_less : (a b : ℕ) → b ≤ a → nat_lt a b ≡ false
not_less a b is = grind (arith, nat_tests)

when_refused : (number asked least most : ℕ) → most < asked → by_balance number asked least most ≡ Refused number asked most
when_refused number asked least most above = ap (λ (b : Bool). cond b (Refused number asked most) (cond (nat_lt least asked) (Waits number least most) (Accepted number))) (less most asked above)

when_open : (number asked least most : ℕ) → least < asked → asked ≤ most → by_balance number asked least most ≡ Waits number least most
when_open number asked least most above below =
    ap (λ (b : Bool). cond b (Refused number asked most) (cond (nat_lt least asked) (Waits number least most) (Accepted number))) (not_less most asked below)
    ∙ ap (λ (b : Bool). cond b (Waits number least most) (Accepted number)) (less least asked above)

when_covered : (number asked least most : ℕ) → asked ≤ least → least ≤ most → by_balance number asked least most ≡ Accepted number
when_covered number asked least most covered within =
    ap (λ (b : Bool). cond b (Refused number asked most) (cond (nat_lt least asked) (Waits number least most) (Accepted number))) (not_less most asked (omega arith))
    ∙ ap (λ (b : Bool). cond b (Waits number least most) (Accepted number)) (not_less least asked covered)

-- the decision on a job that is the next one
on_next : (r : RegisterView) (number : ℕ) (job : JobView) (flaw : Option Flaw) → IsNext r number job → job.flaw ≡ flaw → decision r ≡ by_flaw r.core number job flaw
on_next r number job flaw next is =
    ap (by_job r.core (r.core.decided + 1)) next.kept ∙ ap (λ (n : ℕ). by_flaw r.core n job job.flaw) (sym next.next) ∙ ap (by_flaw r.core number job) is

covered_is : (r : RegisterView) (number : ℕ) (job : JobView) → RegisterStands r → IsNext r number job → job.flaw ≡ None → reserve job ≤ low_of r.core job.account → decision r ≡ Accepted number
covered_is r number job stands next flaw covered =
    on_next r number job None next flaw ∙ when_covered number (reserve job) (low_of r.core job.account) (high_of r.core job.account) covered (low_below_high r job.account stands)

pub exact : AnswersAreExact
exact r (Accepted number) stands (job, is) = sym (covered_is r number job stands is.next is.flaw is.covered)
exact r (Refused number asked most) stands (job, is) =
    sym (on_next r number job None is.next is.flaw
    ∙ when_refused number (reserve job) (low_of r.core job.account) (high_of r.core job.account) (omega (arith, is.reserve, is.high, is.uncovered))
    ∙ ap (λ (n : ℕ). Refused number n (high_of r.core job.account)) (sym is.reserve) ∙ ap (λ (n : ℕ). Refused number asked n) (sym is.high))
exact r (Flawed number flaw) stands (job, next, is) = sym (on_next r number job (Some flaw) next is)
exact r (Waits number least most) stands (job, is) =
    sym (on_next r number job None is.next is.flaw
    ∙ when_open number (reserve job) (low_of r.core job.account) (high_of r.core job.account) (omega (arith, is.low, is.above)) (omega (arith, is.high, is.below))
    ∙ ap (λ (n : ℕ). Waits number n (high_of r.core job.account)) (sym is.low) ∙ ap (λ (n : ℕ). Waits number least n) (sym is.high))
exact r (Full number) stands (job, is) = sym (covered_is r number job stands is.next is.flaw is.covered)
exact r NoneArrived stands none = sym (ap (by_job r.core (r.core.decided + 1)) (slice_get_past r.jobs r.core.decided none))
