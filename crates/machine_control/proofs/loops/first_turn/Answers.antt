use Rattle.std.proofs.Common.{rules, ◌≡◌, ◌+◌, true, false, sym, ap, ◌∙◌, subst}
use Rattle.std.specs.Int.{w32}
use Rattle.std.specs.Prelude.{FitsSigned}
use Rattle.std.proofs.lemmas.Int.{to_z-of_z}
use Rattle.program_meaning.specs.Copying.{has_turn}
use Rattle.stack_code.specs.Table.{first_turn, turn_or_exit}
use Rattle.machine_rows.specs.Seen.{IsClear, machine_of}
use Rattle.machine_control.proofs.HeldRows.{control_there, step_below, limit_below, loop_has_cells}
use Rattle.machine_control.proofs.LoopRows.{first_zero, first_goes, step_zero, step_more, turn_is}
use Rattle.machine_control.proofs.loops.first_turn.Goals as goal

pub counts_with-counting-requires-clause-control : goal.counts_with-counting-requires-clause-control
counts_with-counting-requires-clause-control g c = control_there g.seen c.args.state.now c.args.held c.requires.0 (first_turn g.seen.setting c.args.exit) c.requires.1.1.1.1

pub counts_with-counting-requires-clause-step : goal.counts_with-counting-requires-clause-step
counts_with-counting-requires-clause-step g c = step_below g.seen c.args.state.now c.args.held c.requires.0 (first_turn g.seen.setting c.args.exit) c.requires.1.1.1.1

pub counts_with-counting-requires-clause-limit : goal.counts_with-counting-requires-clause-limit
counts_with-counting-requires-clause-limit g c = limit_below g.seen c.args.state.now c.args.held c.requires.0 (first_turn g.seen.setting c.args.exit) c.requires.1.1.1.1

pub returns-then-counting-eq0 : goal.returns-then-counting-eq0
returns-then-counting-eq0 g c =
    let w = c.counts_with-counting in
    let step : FitsSigned w32 w.result.step = search rules in record {
      is = first_zero g.seen c.args.state.now c.args.held c.requires.0 c.args.exit w.result.control w.result.step w.result.limit w.ensures.control w.ensures.step w.ensures.limit (step_zero w.result.step step c.if-counting-eq0.true);
      stands = c.requires.0;
    }

pub leave_loop-requires : goal.leave_loop-requires
leave_loop-requires g c =
    let v = g.seen in
    let s = c.args.state.now in
    let h = c.args.held in
    let w = c.counts_with-counting in
    let i = w.result.control in
    let j = w.result.step in
    let k = w.result.limit in
    let fi : FitsSigned w32 i = search rules in
    let fj : FitsSigned w32 j = search rules in
    let fk : FitsSigned w32 k = search rules in
    let out : has_turn i j k ≡ false = turn_is i j k false fi fj fk c.from.result c.from.ensures c.has_turn.result c.has_turn.ensures c.if-has_turn.false in (
      c.requires.0,
      loop_has_cells v s h c.requires.0 c.args.exit (v.pc + 1) i (subst IsClear (first_goes v s h c.requires.0 c.args.exit i j k w.ensures.control w.ensures.step w.ensures.limit false (step_more j c.if-counting-eq0.false) out) c.requires.1.1.1.1),
    )

pub returns-then-has_turn : goal.returns-then-has_turn
returns-then-has_turn g c =
    let v = g.seen in
    let s = c.args.state.now in
    let h = c.args.held in
    let w = c.counts_with-counting in
    let i = w.result.control in
    let j = w.result.step in
    let k = w.result.limit in
    let fi : FitsSigned w32 i = search rules in
    let fj : FitsSigned w32 j = search rules in
    let fk : FitsSigned w32 k = search rules in
    let on : has_turn i j k ≡ true = turn_is i j k true fi fj fk c.from.result c.from.ensures c.has_turn.result c.has_turn.ensures c.if-has_turn.true in record {
      is = first_goes v s h c.requires.0 c.args.exit i j k w.ensures.control w.ensures.step w.ensures.limit true (step_more j c.if-counting-eq0.false) on
          ∙ ap (λ n. turn_or_exit v.setting (n + 1) 0 true i (machine_of v s h)) c.requires.1.1.0
          ∙ ap (λ x. turn_or_exit v.setting (c.args.pc + 1) 0 true x (machine_of v s h)) (sym (to_z-of_z w32 i fi))
          ∙ c.take_turn.ensures.is;
      stands = c.take_turn.ensures.stands;
    }

pub returns-else-has_turn : goal.returns-else-has_turn
returns-else-has_turn g c =
    let v = g.seen in
    let s = c.args.state.now in
    let h = c.args.held in
    let w = c.counts_with-counting in
    let i = w.result.control in
    let j = w.result.step in
    let k = w.result.limit in
    let fi : FitsSigned w32 i = search rules in
    let fj : FitsSigned w32 j = search rules in
    let fk : FitsSigned w32 k = search rules in
    let out : has_turn i j k ≡ false = turn_is i j k false fi fj fk c.from.result c.from.ensures c.has_turn.result c.has_turn.ensures c.if-has_turn.false in
    let left = c.leave_loop.ensures h in record {
      is = first_goes v s h c.requires.0 c.args.exit i j k w.ensures.control w.ensures.step w.ensures.limit false (step_more j c.if-counting-eq0.false) out ∙ left.is;
      stands = left.stands;
    }
