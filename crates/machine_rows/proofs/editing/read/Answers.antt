use Rattle.std.proofs.Common.{◌≡◌, sym, ◌∙◌, subst}
use Rattle.std.specs.Prelude.{Ok, Err, IsSome, IfSome, IfOk, IfErr}
use Rattle.input_editing.specs.Columns.{read_from}
use Rattle.input_editing.specs.Scanning.{scanned}
use Rattle.stack_code.specs.CodeView.{CodeView}
use Rattle.stack_code.specs.Limits.{KindRuns}
use Rattle.machine_rows.specs.Assigned.{spot_view, spotted, assigned_of, Gives}
use Rattle.machine_rows.specs.Seen.{IsClear, machine_of}
use Rattle.machine_rows.proofs.AssignRows.{is_there, held_spot_fits}
use Rattle.machine_rows.proofs.GiveRows.{spot_is_held, at_place, stands_at, read_on, readable, read_row_is, gives_some, gives_on}
use Rattle.machine_rows.proofs.editing.read.Goals as goal

pub spot_held-spot-requires : goal.spot_held-spot-requires
spot_held-spot-requires g c =
    let s = c.args.state.now in
    let p = spot_is_held g.seen.code.given s.wide c.args.held (read_on g.seen s c.args.held c.args.kind c.args.next) (machine_of g.seen s c.args.held) c.requires.1.1.1.1 in
    is_there (spotted s.wide c.args.held) p.place p.is

pub read-value-requires : goal.read-value-requires
read-value-requires g c =
    let s = c.args.state.now in
    let p = spot_is_held g.seen.code.given s.wide c.args.held (read_on g.seen s c.args.held c.args.kind c.args.next) (machine_of g.seen s c.args.held) c.requires.1.1.1.1 in
    readable g.seen s c.args.held c.args.kind c.args.next (spot_view p.place) c.requires.1.1.1.0 (subst IsClear p.row c.requires.1.1.1.1)

pub give-requires-clause-kind : goal.give-requires-clause-kind
give-requires-clause-kind g c = subst (λ (x : CodeView). KindRuns x.given c.args.kind) c.requires.1.0 c.requires.1.1.1.0

pub give-requires-clause-fits : goal.give-requires-clause-fits
give-requires-clause-fits g c = held_spot_fits g.seen.code.given c.args.state.now.wide c.args.held c.spot_held-spot.result c.spot_held-spot.ensures c.requires.0.kinds.wide

pub give-requires-clause-some : goal.give-requires-clause-some
give-requires-clause-some g c =
    let s = c.args.state.now in
    let h = c.args.held in
    let n = c.read-value.new.self in
    let r = c.read-value.result in
    let k = c.spot_held-spot.result in
    let ok = subst (λ cards. IfOk r (λ x. scanned cards (read_from c.args.next s.input) c.args.kind ≡ Ok (x, n))) (sym c.requires.1.1.0) c.read-value.ensures.value in
    let fault = subst (λ cards. IfErr r (λ f. scanned cards (read_from c.args.next s.input) c.args.kind ≡ Err f)) (sym c.requires.1.1.0) c.read-value.ensures.fault in
    let is = read_row_is g.seen s h c.args.kind c.args.next k r n c.requires.1.1.1.0 c.requires.1.1.1.1 c.spot_held-spot.ensures ok fault c.read-value.ensures.kept in
    subst (λ (x : CodeView). IfOk r (λ y. IsSome (assigned_of x.given (at_place g.seen s h n) c.args.kind k y))) c.requires.1.0
    (gives_some g.seen (at_place g.seen s h n) h c.args.kind k r (stands_at g.seen s h n c.requires.0) c.requires.1.1.1.0 (subst IsClear is c.requires.1.1.1.1))

pub returns : goal.returns
returns g c =
    let s = c.args.state.now in
    let h = c.args.held in
    let n = c.read-value.new.self in
    let r = c.read-value.result in
    let k = c.spot_held-spot.result in
    let ok = subst (λ cards. IfOk r (λ x. scanned cards (read_from c.args.next s.input) c.args.kind ≡ Ok (x, n))) (sym c.requires.1.1.0) c.read-value.ensures.value in
    let fault = subst (λ cards. IfErr r (λ f. scanned cards (read_from c.args.next s.input) c.args.kind ≡ Err f)) (sym c.requires.1.1.0) c.read-value.ensures.fault in
    let is = read_row_is g.seen s h c.args.kind c.args.next k r n c.requires.1.1.1.0 c.requires.1.1.1.1 c.spot_held-spot.ensures ok fault c.read-value.ensures.kept in
    let s1 = at_place g.seen s h n in
    let on = gives_on g.seen s1 h c.args.kind k r c.give.new.state c.give.result (stands_at g.seen s h n c.requires.0) c.requires.1.1.1.0 (subst IsClear is c.requires.1.1.1.1)
    (subst (λ (x : CodeView). IfOk r (λ y. IfSome (assigned_of x.given s1 c.args.kind k y) (λ q. Gives s1 c.give.new.state h q c.give.result))) (sym c.requires.1.0) c.give.ensures.ok) c.give.ensures.fault in
    record { is = is ∙ on.is; stands = on.stands }
