use Rattle.std.proofs.Common.{◌≡◌, sym, ◌∙◌, subst}
use Rattle.std.specs.Prelude.{Result, Ok, Err, IsSome, IfSome, IfOk, IfErr}
use Rattle.value_ops.specs.declared.faults.Fault.{Fault}
use Rattle.value_ops.specs.declared.values.Value.{Value}
use Rattle.input_editing.specs.Columns.{card_read}
use Rattle.stack_code.specs.CodeView.{CodeView}
use Rattle.stack_code.specs.Limits.{KindRuns}
use Rattle.machine_rows.specs.Assigned.{spotted, assigned_of, as_value, Gives}
use Rattle.machine_rows.specs.Seen.{IsClear, machine_of}
use Rattle.machine_rows.proofs.AssignRows.{is_there, held_spot_fits}
use Rattle.machine_rows.proofs.GiveRows.{spot_is_held, at_place, stands_at, card_on, card_row_is, gives_some, gives_on}
use Rattle.machine_rows.specs.declared.held.Halt.TheVariants as halt
use Rattle.machine_rows.proofs.editing.read_card.Goals as goal

pub spot_held-spot-requires : goal.spot_held-spot-requires
spot_held-spot-requires g c =
    let s = c.args.state.now in
    let p = spot_is_held g.seen.code.given s.wide c.args.held (card_on g.seen s c.args.held c.args.kind) (machine_of g.seen s c.args.held) c.requires.1.1.1.1 in
    is_there (spotted s.wide c.args.held) p.place p.is

pub give-requires-clause-kind : goal.give-requires-clause-kind
give-requires-clause-kind g c = subst (λ (x : CodeView). KindRuns x.given c.args.kind) c.requires.1.0 c.requires.1.1.1.0

pub give-requires-clause-fits : goal.give-requires-clause-fits
give-requires-clause-fits g c = held_spot_fits g.seen.code.given c.args.state.now.wide c.args.held c.spot_held-spot.result c.spot_held-spot.ensures c.requires.0.kinds.wide

pub give-requires-clause-some : goal.give-requires-clause-some
give-requires-clause-some g c =
    let s = c.args.state.now in
    let h = c.args.held in
    let n = c.read_card.new.self in
    let r = c.read_card.result in
    let k = c.spot_held-spot.result in
    let ok = subst (λ cards. IfOk r (λ x. card_read cards s.input ≡ Ok (x, n))) (sym c.requires.1.1.0) c.read_card.ensures.card in
    let fault = subst (λ cards. IfErr r (λ f. card_read cards s.input ≡ Err f)) (sym c.requires.1.1.0) c.read_card.ensures.fault in
    let is = card_row_is g.seen s h c.args.kind k r n c.requires.1.1.1.1 c.spot_held-spot.ensures ok fault c.read_card.ensures.kept in
    subst (λ (z : Result Value Fault). IfOk z (λ y. IsSome (assigned_of c.args.code.now.given (at_place g.seen s h n) c.args.kind k y))) (sym c.card_value-card.ensures)
    (subst (λ (x : CodeView). IfOk (as_value r) (λ y. IsSome (assigned_of x.given (at_place g.seen s h n) c.args.kind k y))) c.requires.1.0
    (gives_some g.seen (at_place g.seen s h n) h c.args.kind k (as_value r) (stands_at g.seen s h n c.requires.0) c.requires.1.1.1.0 (subst IsClear is c.requires.1.1.1.1)))

pub returns : goal.returns
returns g c =
    let s = c.args.state.now in
    let h = c.args.held in
    let n = c.read_card.new.self in
    let r = c.read_card.result in
    let k = c.spot_held-spot.result in
    let ok = subst (λ cards. IfOk r (λ x. card_read cards s.input ≡ Ok (x, n))) (sym c.requires.1.1.0) c.read_card.ensures.card in
    let fault = subst (λ cards. IfErr r (λ f. card_read cards s.input ≡ Err f)) (sym c.requires.1.1.0) c.read_card.ensures.fault in
    let is = card_row_is g.seen s h c.args.kind k r n c.requires.1.1.1.1 c.spot_held-spot.ensures ok fault c.read_card.ensures.kept in
    let s1 = at_place g.seen s h n in
    let given_ok = subst (λ (z : Result Value Fault). IfOk z (λ y. IfSome (assigned_of c.args.code.now.given s1 c.args.kind k y) (λ q. Gives s1 c.give.new.state h q c.give.result))) c.card_value-card.ensures c.give.ensures.ok in
    let given_fault = subst (λ (z : Result Value Fault). IfErr z (λ f. (c.give.result ≡ Err (halt.Fault f)) × (c.give.new.state ≡ s1))) c.card_value-card.ensures c.give.ensures.fault in
    let on = gives_on g.seen s1 h c.args.kind k (as_value r) c.give.new.state c.give.result (stands_at g.seen s h n c.requires.0) c.requires.1.1.1.0 (subst IsClear is c.requires.1.1.1.1)
    (subst (λ (x : CodeView). IfOk (as_value r) (λ y. IfSome (assigned_of x.given s1 c.args.kind k y) (λ q. Gives s1 c.give.new.state h q c.give.result))) (sym c.requires.1.0) given_ok) given_fault in
    record { is = is ∙ on.is; stands = on.stands }
