use Rattle.std.proofs.Common.{ℕ, ◌∙◌, ap, subst, arith}
use Rattle.batch_core.specs.Events.{MayAccept, MayRefuse}
use Rattle.office.specs.declared.prospect.Prospect.{Prospect}
use Rattle.office.specs.OfficeView.{OfficeView, next_ticket}
use Rattle.office.specs.Prospects.{Sees}
use Rattle.office.specs.Tickets.{slip}
use Rattle.office.proofs.Offices.{may_accept, may_refuse_flawed, may_refuse_high, next_slip}
use Rattle.office.proofs.office.Office.admit.Goals as goal

pub refuse-requires : goal.refuse-requires
refuse-requires g c =
    let r = c.self.inside.register in
    let found = c.in-Some-default-Flawed.ensures.sees in
    let sees = subst (λ (p : Prospect). Sees r.core found.0 p) c.in-Some-default-Flawed.field-0-1-is found.2 in
    subst (λ (o : OfficeView). MayRefuse o.register.core) c.self.view_is (may_refuse_flawed r _ found.0 _ c.self.invariant.0.stands.register found.1 sees)

pub refuse-requires-in-Some-default-Uncovered : goal.refuse-requires-in-Some-default-Uncovered
refuse-requires-in-Some-default-Uncovered g c =
    let r = c.self.inside.register in
    let found = c.in-Some-default-Uncovered.ensures.sees in
    let sees = subst (λ (p : Prospect). Sees r.core found.0 p) c.in-Some-default-Uncovered.field-0-1-is found.2 in
    subst (λ (o : OfficeView). MayRefuse o.register.core) c.self.view_is (may_refuse_high r _ found.0 c.self.invariant.0.stands.register found.1 sees.0 (omega (arith, sees.1.1, sees.1.2)))

pub accept-requires-clause-may : goal.accept-requires-clause-may
accept-requires-clause-may g c =
    let r = c.self.inside.register in
    let found = c.in-Some-default-Covered.ensures.sees in
    let sees = subst (λ (p : Prospect). Sees r.core found.0 p) c.in-Some-default-Covered.field-0-1-is found.2 in
    subst (λ (o : OfficeView). MayAccept o.register.core) c.self.view_is
    (may_accept r _ found.0 c.self.invariant.0.stands.register found.1 sees.0 (omega (arith, sees.2, sees.3.0)) sees.3.1)

pub accept-requires-clause-ticket : goal.accept-requires-clause-ticket
accept-requires-clause-ticket g c =
    let r = c.self.inside.register in
    let found = c.in-Some-default-Covered.ensures.sees in
    let sees = subst (λ (p : Prospect). Sees r.core found.0 p) c.in-Some-default-Covered.field-0-1-is found.2 in
    ap (λ (n : ℕ). slip n c.new.result.amount) c.new.ensures.number
    ∙ ap (λ (n : ℕ). slip c.in-Some-default-Covered.job n) c.new.ensures.amount
    ∙ next_slip r _ _ found.0 c.self.invariant.0.stands.register found.1 sees.3.0
    ∙ ap (λ (o : OfficeView). next_ticket o.register) c.self.view_is
