use Rattle.worker_pool.proofs.caller.take_turns.Given as goal

abbrev pub invariant-loop : goal.invariant-loop
invariant-loop g l = g.C.Caller.went l.fn.caller l.caller
