use Rattle.machine_calls.proofs.formal_calls.compare.Given as goal

abbrev pub ghost-compare_procedure : goal.ghost-compare_procedure
ghost-compare_procedure g a = g.seen

abbrev pub ghost-compare_thunk : goal.ghost-compare_thunk
ghost-compare_thunk g a = g.seen
