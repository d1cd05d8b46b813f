use Rattle.machine_calls.proofs.formal_calls.prepare.Given as goal

abbrev pub ghost-prepare_phrase : goal.ghost-prepare_phrase
ghost-prepare_phrase g a = g.seen

abbrev pub ghost-prepare_name : goal.ghost-prepare_name
ghost-prepare_name g a = g.seen

abbrev pub ghost-enter_aside : goal.ghost-enter_aside
ghost-enter_aside g a = g.seen

abbrev pub ghost-prepare_nothing : goal.ghost-prepare_nothing
ghost-prepare_nothing g a = g.seen
