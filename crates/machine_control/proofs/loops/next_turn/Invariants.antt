use Rattle.machine_control.proofs.loops.next_turn.Given as goal

abbrev pub ghost-take_turn : goal.ghost-take_turn
ghost-take_turn g a = g.seen

abbrev pub ghost-leave_loop : goal.ghost-leave_loop
ghost-leave_loop g a = g.seen
