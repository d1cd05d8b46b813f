use Rattle.machine_calls.proofs.formal_calls.prepare_nothing.Given as goal

abbrev pub ghost-enter_aside : goal.ghost-enter_aside
ghost-enter_aside g a = g.seen
