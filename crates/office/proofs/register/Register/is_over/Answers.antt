use Rattle.std.proofs.Common.{◌≡◌, ℕ, true, Global, sym, subst, arith}
use Rattle.std.specs.Prelude.{nat_eq}
use Rattle.std.specs.declared.sync.Arc.{Arc}
use Rattle.std.proofs.lemmas.Bool.{eqb-true}
use Rattle.std.proofs.lemmas.Bool.Decides.{nat_tests}
use Rattle.std.proofs.lemmas.List.{length-map}
use Rattle.deck_reader.specs.declared.batch.Job.{Job}
use Rattle.batch_core.specs.Kept.{AllOver}
use Rattle.office.specs.Register.{RegisterView}
use Rattle.office.proofs.Room.{count_by_over, over_by_count}
use Rattle.office.proofs.register.Register.is_over.Goals as goal

equal : (a b : ℕ) → a ≡ b → nat_eq a b ≡ true
equal a b same = grind (arith, nat_tests)

pub returns-then-self-eq0 : goal.returns-then-self-eq0
returns-then-self-eq0 c =
    let s = c.self.inside in
    let many = length-map s.jobs.items (λ (j : Arc Job Global). j.value) in (
      (λ all. subst (λ (r : RegisterView). AllOver r.core) c.self.view_is
          (over_by_count _ _ _ c.decided.result c.len.result c.self.invariant c.if-self-eq0.true c.decided.ensures (omega (arith, c.len.ensures, many)) (eqb-true c.decided.result c.len.result all))),
      (λ over.
          let count = count_by_over _ _ _ c.self.invariant (subst (λ (r : RegisterView). AllOver r.core) (sym c.self.view_is) over) in
          equal c.decided.result c.len.result (omega (arith, c.len.ensures, c.decided.ensures, many, count.1))),
    )

pub returns-else-self-eq0 : goal.returns-else-self-eq0
returns-else-self-eq0 c =
    let s = c.self.inside in (
      (λ none. absurd (omega (arith, eqb-true s.outstanding 0 none))),
      (λ over.
          let count = count_by_over _ _ _ c.self.invariant (subst (λ (r : RegisterView). AllOver r.core) (sym c.self.view_is) over) in
          equal s.outstanding 0 count.0),
    )
