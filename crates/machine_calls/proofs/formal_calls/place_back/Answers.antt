use Rattle.std.proofs.Common.{◌≡◌, ◌-◌, Some, length, refl, sym, ap, ◌∙◌, subst, arith}
use Rattle.std.specs.Prelude.{IsSome, option_copied, slice_get}
use Rattle.stack_code.specs.CodeView.{CodeView}
use Rattle.machine_rows.specs.Seen.{IsClear}
use Rattle.machine_calls.specs.Found as found
use Rattle.machine_rows.specs.Rows.{Goes, Lands}
use Rattle.machine_calls.proofs.Ending.{last_of}
use Rattle.machine_calls.proofs.Preparing.{place_there, placed_back, formal_there, place_typed, place_enters, place_steps, place_over}
use Rattle.machine_calls.proofs.formal_calls.place_back.Goals as goal

pub unreachable-requires : goal.unreachable-requires
unreachable-requires g c = cc ((last_of c.args.state.now.store.frames (place_there g.seen c.args.state.now c.args.held c.requires.0 c.args.formal c.args.head c.requires.1.1.1.1.0)).1, sym c.newest.ensures ∙ ap option_copied c.in_default.is)

pub formal_at-requires : goal.formal_at-requires
formal_at-requires g c =
    let f = c.in-Some.frame.now in
    let is : slice_get c.args.state.now.store.frames (length c.args.state.now.store.frames - 1) ≡ Some f = sym c.newest.ensures ∙ ap option_copied c.in-Some.is in
    let p = placed_back g.seen c.args.state.now c.args.held c.requires.0 c.args.formal c.args.head f is c.requires.1.1.1.1.0 in
    subst (λ (x : CodeView). IsSome (found.formal_at x f.head c.args.formal)) c.requires.1.0 (subst (λ o. IsSome o) (sym (formal_there g.seen.code f.head c.args.formal p.found_head p.formal p.head_is p.formal_is)) refl)

pub enter_aside-requires : goal.enter_aside-requires
enter_aside-requires g c =
    let f = c.in-Some.frame.now in
    let is : slice_get c.args.state.now.store.frames (length c.args.state.now.store.frames - 1) ≡ Some f = sym c.newest.ensures ∙ ap option_copied c.in-Some.is in
    let p = placed_back g.seen c.args.state.now c.args.held c.requires.0 c.args.formal c.args.head f is c.requires.1.1.1.1.0 in
    let row = place_typed g.seen c.args.state.now c.args.held c.requires.0 c.args.formal c.args.head f p c.args.code.now c.requires.1.0 c.formal_at.result c.formal_at.ensures.is ∙ place_enters g.seen c.args.state.now c.args.held c.requires.0 c.args.formal c.args.head c.formal_at.result c.in-Result.is in
    (c.requires.0, (c.requires.1.1.0, (c.requires.1.1.1.0, (tt, (subst IsClear row c.requires.1.1.1.1.0, subst (Lands g.seen) row c.requires.1.1.1.1.1)))))

pub overflow_add-pc : goal.overflow_add-pc
overflow_add-pc g c =
    let f = c.in-Some.frame.now in
    let is : slice_get c.args.state.now.store.frames (length c.args.state.now.store.frames - 1) ≡ Some f = sym c.newest.ensures ∙ ap option_copied c.in-Some.is in
    let p = placed_back g.seen c.args.state.now c.args.held c.requires.0 c.args.formal c.args.head f is c.requires.1.1.1.1.0 in
    let row = place_typed g.seen c.args.state.now c.args.held c.requires.0 c.args.formal c.args.head f p c.args.code.now c.requires.1.0 c.formal_at.result c.formal_at.ensures.is ∙ place_steps g.seen c.args.state.now c.args.held c.requires.0 c.args.formal c.args.head c.formal_at.result c.in_default-formal_at.not-Result c.in_default-formal_at.not-ValueResult in
    omega (arith, subst (Lands g.seen) row c.requires.1.1.1.1.1, c.requires.1.1.0, c.requires.0.few)

pub returns-in-Result : goal.returns-in-Result
returns-in-Result g c =
    let f = c.in-Some.frame.now in
    let is : slice_get c.args.state.now.store.frames (length c.args.state.now.store.frames - 1) ≡ Some f = sym c.newest.ensures ∙ ap option_copied c.in-Some.is in
    let p = placed_back g.seen c.args.state.now c.args.held c.requires.0 c.args.formal c.args.head f is c.requires.1.1.1.1.0 in
    let row = place_typed g.seen c.args.state.now c.args.held c.requires.0 c.args.formal c.args.head f p c.args.code.now c.requires.1.0 c.formal_at.result c.formal_at.ensures.is ∙ place_enters g.seen c.args.state.now c.args.held c.requires.0 c.args.formal c.args.head c.formal_at.result c.in-Result.is in
    subst (Goes g.seen c.enter_aside.new.state c.args.held c.enter_aside.result) (sym row) c.enter_aside.ensures

pub returns-in_default-formal_at : goal.returns-in_default-formal_at
returns-in_default-formal_at g c =
    let f = c.in-Some.frame.now in
    let is : slice_get c.args.state.now.store.frames (length c.args.state.now.store.frames - 1) ≡ Some f = sym c.newest.ensures ∙ ap option_copied c.in-Some.is in
    let p = placed_back g.seen c.args.state.now c.args.held c.requires.0 c.args.formal c.args.head f is c.requires.1.1.1.1.0 in
    let row = place_typed g.seen c.args.state.now c.args.held c.requires.0 c.args.formal c.args.head f p c.args.code.now c.requires.1.0 c.formal_at.result c.formal_at.ensures.is ∙ place_steps g.seen c.args.state.now c.args.held c.requires.0 c.args.formal c.args.head c.formal_at.result c.in_default-formal_at.not-Result c.in_default-formal_at.not-ValueResult in
    place_over g.seen c.args.state.now c.args.held c.requires.0 c.args.formal c.args.head row c.args.pc c.requires.1.1.0 c.go_to.result c.go_to.ensures
