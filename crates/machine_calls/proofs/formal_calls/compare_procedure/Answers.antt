use Rattle.std.proofs.Common.{refl, ◌≡◌, true, false, sym, subst, ◌∙◌}
use Rattle.std.specs.Prelude.{IsSome, IfSome, length}
use Rattle.value_ops.specs.declared.places.Place.{Place}
use Rattle.stack_code.specs.CodeView.{CodeView}
use Rattle.machine_calls.specs.Found as found
use Rattle.machine_calls.specs.Fitting as fitting
use Rattle.machine_calls.proofs.Compared.{the_head, the_parts, plain_done, fit_done, unfit_done}
use Rattle.machine_calls.proofs.formal_calls.compare_procedure.Goals as goal

pub returns-then-not-compares : goal.returns-then-not-compares
returns-then-not-compares g c = plain_done g.seen c.args.state.now c.args.held c.requires.0 c.args.call.now c.args.procedure c.requires.1.1.1.1 (sym c.compares.ensures ∙ c.if-not-compares.true) c.args.pc c.requires.1.1.0 c.go_to.result c.go_to.ensures

pub they_fit-requires-clause-head : goal.they_fit-requires-clause-head
they_fit-requires-clause-head g c = subst (λ (x : CodeView). IsSome (found.procedure_at x c.args.procedure.head)) c.requires.1.0 (subst (λ o. IsSome o) (sym (the_head g.seen c.args.state.now c.args.held c.requires.0 c.args.call.now c.args.procedure c.requires.1.1.1.1).1) refl)

pub they_fit-requires-clause-parts : goal.they_fit-requires-clause-parts
they_fit-requires-clause-parts g c =
    subst (λ (x : CodeView). IsSome (fitting.parts x c.args.state.now.store (found.formals_of (found.procedure_at x c.args.procedure.head)) c.args.call.now.heads)) c.requires.1.0
    (subst (λ o. IsSome o) (sym (the_parts g.seen c.args.state.now c.args.held c.requires.0 c.args.call.now c.args.procedure c.requires.1.1.1.1 (sym c.compares.ensures ∙ c.if-not-compares.false)).1) refl)

pub returns-then-they_fit : goal.returns-then-they_fit
returns-then-they_fit g c =
    fit_done g.seen c.args.state.now c.args.held c.requires.0 c.args.call.now c.args.procedure c.requires.1.1.1.1 (sym c.compares.ensures ∙ c.if-not-compares.false)
    (subst (λ (x : CodeView). IfSome (fitting.parts x c.args.state.now.store (found.formals_of (found.procedure_at x c.args.procedure.head)) c.args.call.now.heads) (λ ps. (w : Place) → fitting.they_fit x.given w (found.formals_of (found.procedure_at x c.args.procedure.head)) (length c.args.call.now.heads) ps ≡ true)) (sym c.requires.1.0)
    (subst (λ b. IfSome (fitting.parts c.args.code.now c.args.state.now.store (found.formals_of (found.procedure_at c.args.code.now c.args.procedure.head)) c.args.call.now.heads) (λ ps. (w : Place) → fitting.they_fit c.args.code.now.given w (found.formals_of (found.procedure_at c.args.code.now c.args.procedure.head)) (length c.args.call.now.heads) ps ≡ b)) c.if-they_fit.true c.they_fit.ensures)) c.args.pc c.requires.1.1.0 c.go_to-then-they_fit.result c.go_to-then-they_fit.ensures

pub returns : goal.returns
returns g c =
    unfit_done g.seen c.args.state.now c.args.held c.requires.0 c.args.call.now c.args.procedure c.requires.1.1.1.1 (sym c.compares.ensures ∙ c.if-not-compares.false)
    (subst (λ (x : CodeView). IfSome (fitting.parts x c.args.state.now.store (found.formals_of (found.procedure_at x c.args.procedure.head)) c.args.call.now.heads) (λ ps. (w : Place) → fitting.they_fit x.given w (found.formals_of (found.procedure_at x c.args.procedure.head)) (length c.args.call.now.heads) ps ≡ false)) (sym c.requires.1.0)
    (subst (λ b. IfSome (fitting.parts c.args.code.now c.args.state.now.store (found.formals_of (found.procedure_at c.args.code.now c.args.procedure.head)) c.args.call.now.heads) (λ ps. (w : Place) → fitting.they_fit c.args.code.now.given w (found.formals_of (found.procedure_at c.args.code.now c.args.procedure.head)) (length c.args.call.now.heads) ps ≡ b)) c.if-they_fit.false c.they_fit.ensures))
