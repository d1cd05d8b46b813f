use Rattle.machine_calls.proofs.formal_calls.call_through.Given as goal

abbrev pub ghost-call_procedure : goal.ghost-call_procedure
ghost-call_procedure g a = g.seen
