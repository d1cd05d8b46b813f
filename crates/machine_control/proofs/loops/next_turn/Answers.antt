use Rattle.std.proofs.Common.{rules, ◌≡◌, ◌+◌, ◌<◌, pos, ◌+ℤ◌, true, false, length, sym, ap, ◌∙◌, subst, w32, FitsSigned}
use Rattle.std.proofs.lemmas.Int.{to_z-of_z}
use Rattle.program_meaning.specs.Copying.{has_turn}
use Rattle.machine_rows.specs.Seen.{IsClear, machine_of}
use Rattle.stack_code.specs.Table.{next_turn, turn_or_exit}
use Rattle.machine_control.proofs.HeldRows.{control_there, step_below, limit_below, counted_some, loop_has_cells}
use Rattle.machine_control.proofs.LoopRows.{next_start, left_stands, left_clear, left_turns, wide_sum, next_fits}
use Rattle.machine_control.proofs.loops.next_turn.Goals as goal

pub cut_to_position-requires : goal.cut_to_position-requires
cut_to_position-requires g c = next_start g.seen c.args.state.now c.args.held c.requires.0 c.args.target c.args.position c.requires.1.1.1.1

pub counts_with-counting-requires-clause-control : goal.counts_with-counting-requires-clause-control
counts_with-counting-requires-clause-control g c =
    let z = c.cut_to_position.new.state in
    let stands = left_stands g.seen c.args.state.now c.args.held c.requires.0 c.args.target c.args.position z c.cut_to_position.ensures c.requires.1.1.1.1 in
    let clear = left_clear g.seen c.args.state.now c.args.held c.requires.0 c.args.target c.args.position z c.cut_to_position.ensures c.requires.1.1.1.1 in
    control_there g.seen z c.args.held stands (next_turn g.seen.setting c.args.target) clear

pub counts_with-counting-requires-clause-step : goal.counts_with-counting-requires-clause-step
counts_with-counting-requires-clause-step g c =
    let z = c.cut_to_position.new.state in
    let stands = left_stands g.seen c.args.state.now c.args.held c.requires.0 c.args.target c.args.position z c.cut_to_position.ensures c.requires.1.1.1.1 in
    let clear = left_clear g.seen c.args.state.now c.args.held c.requires.0 c.args.target c.args.position z c.cut_to_position.ensures c.requires.1.1.1.1 in
    step_below g.seen z c.args.held stands (next_turn g.seen.setting c.args.target) clear

pub counts_with-counting-requires-clause-limit : goal.counts_with-counting-requires-clause-limit
counts_with-counting-requires-clause-limit g c =
    let z = c.cut_to_position.new.state in
    let stands = left_stands g.seen c.args.state.now c.args.held c.requires.0 c.args.target c.args.position z c.cut_to_position.ensures c.requires.1.1.1.1 in
    let clear = left_clear g.seen c.args.state.now c.args.held c.requires.0 c.args.target c.args.position z c.cut_to_position.ensures c.requires.1.1.1.1 in
    limit_below g.seen z c.args.held stands (next_turn g.seen.setting c.args.target) clear

pub overflow_cast-control : goal.overflow_cast-control
overflow_cast-control g c =
    let v = g.seen in
    let s = c.args.state.now in
    let h = c.args.held in
    let z = c.cut_to_position.new.state in
    let w = c.counts_with-counting in
    let i = w.result.control in
    let j = w.result.step in
    let k = w.result.limit in
    let fi : FitsSigned w32 i = search rules in
    let fj : FitsSigned w32 j = search rules in
    let fk : FitsSigned w32 k = search rules in
    let sum = wide_sum i j fi fj c.from.result c.from-2.result c.from.ensures c.from-2.ensures in
    let turn : has_turn (i +ℤ j) j k ≡ true = ap (λ x. has_turn x j k) (sym sum) ∙ sym c.has_turn.ensures ∙ c.if-has_turn.true in
    subst (FitsSigned w32) (sym sum) (next_fits i j k fi fk turn)

pub take_turn-requires : goal.take_turn-requires
take_turn-requires g c =
    let z = c.cut_to_position.new.state in
    let stands = left_stands g.seen c.args.state.now c.args.held c.requires.0 c.args.target c.args.position z c.cut_to_position.ensures c.requires.1.1.1.1 in
    let some : 0 < length z.store.cells = counted_some z.store c.counts_with-counting.result.control c.counts_with-counting.ensures.control in
    (stands, (c.requires.1.0, some))

pub leave_loop-requires : goal.leave_loop-requires
leave_loop-requires g c =
    let v = g.seen in
    let s = c.args.state.now in
    let h = c.args.held in
    let z = c.cut_to_position.new.state in
    let w = c.counts_with-counting in
    let i = w.result.control in
    let j = w.result.step in
    let k = w.result.limit in
    let fi : FitsSigned w32 i = search rules in
    let fj : FitsSigned w32 j = search rules in
    let fk : FitsSigned w32 k = search rules in
    let sum = wide_sum i j fi fj c.from.result c.from-2.result c.from.ensures c.from-2.ensures in
    let turn : has_turn (i +ℤ j) j k ≡ false = ap (λ x. has_turn x j k) (sym sum) ∙ sym c.has_turn.ensures ∙ c.if-has_turn.false in
    let stands = left_stands v s h c.requires.0 c.args.target c.args.position z c.cut_to_position.ensures c.requires.1.1.1.1 in
    let is = left_turns v s h c.requires.0 c.args.target c.args.position z c.cut_to_position.ensures c.requires.1.1.1.1 i j k w.ensures.control w.ensures.step w.ensures.limit false turn in
    (stands, loop_has_cells v z h stands (v.pc + 1) c.args.target (i +ℤ j) (subst IsClear is c.requires.1.1.1.1))

pub returns-then-has_turn : goal.returns-then-has_turn
returns-then-has_turn g c =
    let v = g.seen in
    let s = c.args.state.now in
    let h = c.args.held in
    let z = c.cut_to_position.new.state in
    let w = c.counts_with-counting in
    let i = w.result.control in
    let j = w.result.step in
    let k = w.result.limit in
    let fi : FitsSigned w32 i = search rules in
    let fj : FitsSigned w32 j = search rules in
    let fk : FitsSigned w32 k = search rules in
    let sum = wide_sum i j fi fj c.from.result c.from-2.result c.from.ensures c.from-2.ensures in
    let turn : has_turn (i +ℤ j) j k ≡ true = ap (λ x. has_turn x j k) (sym sum) ∙ sym c.has_turn.ensures ∙ c.if-has_turn.true in
    let is = left_turns v s h c.requires.0 c.args.target c.args.position z c.cut_to_position.ensures c.requires.1.1.1.1 i j k w.ensures.control w.ensures.step w.ensures.limit true turn in
    let fits = subst (FitsSigned w32) (sym sum) (next_fits i j k fi fk turn) in record {
      is = is ∙ ap (λ x. turn_or_exit v.setting c.args.target 0 true x (machine_of v z h)) (sym (to_z-of_z w32 _ fits ∙ sum)) ∙ c.take_turn.ensures.is;
      stands = c.take_turn.ensures.stands;
    }

pub returns-else-has_turn : goal.returns-else-has_turn
returns-else-has_turn g c =
    let v = g.seen in
    let s = c.args.state.now in
    let h = c.args.held in
    let z = c.cut_to_position.new.state in
    let w = c.counts_with-counting in
    let i = w.result.control in
    let j = w.result.step in
    let k = w.result.limit in
    let fi : FitsSigned w32 i = search rules in
    let fj : FitsSigned w32 j = search rules in
    let fk : FitsSigned w32 k = search rules in
    let sum = wide_sum i j fi fj c.from.result c.from-2.result c.from.ensures c.from-2.ensures in
    let turn : has_turn (i +ℤ j) j k ≡ false = ap (λ x. has_turn x j k) (sym sum) ∙ sym c.has_turn.ensures ∙ c.if-has_turn.false in
    let is = left_turns v s h c.requires.0 c.args.target c.args.position z c.cut_to_position.ensures c.requires.1.1.1.1 i j k w.ensures.control w.ensures.step w.ensures.limit false turn in
    let left = c.leave_loop.ensures h in record {
      is = is ∙ ap (λ n. turn_or_exit v.setting 0 (n + 1) false (pos 0) (machine_of v z h)) c.requires.1.1.0 ∙ left.is;
      stands = left.stands;
    }
