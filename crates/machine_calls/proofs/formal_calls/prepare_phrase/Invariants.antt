use Rattle.machine_calls.proofs.formal_calls.prepare_phrase.Given as goal

abbrev pub ghost-enter_aside : goal.ghost-enter_aside
ghost-enter_aside g a = g.seen
