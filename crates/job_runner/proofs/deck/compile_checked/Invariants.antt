use Rattle.job_runner.proofs.deck.compile_checked.Given as goal

abbrev pub ghost-compile : goal.ghost-compile
ghost-compile g a = g.x
