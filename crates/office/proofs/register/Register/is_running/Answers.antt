use Rattle.std.proofs.Common.{◌≡◌, ℕ, true, ◌∙◌, ap, refl, sym, arith}
use Rattle.std.specs.Prelude.{nat_eq}
use Rattle.std.proofs.lemmas.Bool.{eqb-true, false≢true}
use Rattle.std.proofs.lemmas.Bool.Decides.{nat_tests}
use Rattle.deck_reader.specs.JobView.{JobView}
use Rattle.account_book.specs.Charges.{reserve}
use Rattle.deck_reader.specs.JobEquality.{equal_jobs_are_same}
use Rattle.office.proofs.Running.{is_own, own_amount, own_job}
use Rattle.office.proofs.register.Register.is_running.Goals as goal

equal : (a b : ℕ) → a ≡ b → nat_eq a b ≡ true
equal a b same = grind (arith, nat_tests)

pub returns-then-eq : goal.returns-then-eq
returns-then-eq c =
    let mine : JobView = c.in-Some.kept.now.value in
    let same : mine ≡ c.args.job.now = sym c.deref.ensures ∙ (equal_jobs_are_same c.deref.result.now c.args.job.now).0 (sym c.eq.ensures ∙ c.if-eq.true) in
    let costs = c.reserve_of.ensures ∙ ap reserve c.deref-then-eq.ensures in (
      (λ test. is_own c.args.self.now c.args.number c.args.amount c.reserve_of.result c.args.job.now mine (c.in-Some.ensures.some.0 refl) c.in-Some.ensures.job same costs (eqb-true c.reserve_of.result c.args.amount test)),
      (λ is. equal c.reserve_of.result c.args.amount (own_amount c.args.self.now c.args.number c.args.amount c.reserve_of.result c.args.job.now mine c.in-Some.ensures.job costs is)),
    )

pub returns-else-eq : goal.returns-else-eq
returns-else-eq c =
    let mine : JobView = c.in-Some.kept.now.value in (
      (λ test. absurd (false≢true (sym c.if-eq.false ∙ test))),
      (λ is. c.eq.ensures ∙ (equal_jobs_are_same c.deref.result.now c.args.job.now).1 (c.deref.ensures ∙ own_job c.args.self.now c.args.number c.args.amount c.args.job.now mine c.in-Some.ensures.job is)),
    )
