use Rattle.job_runner.proofs.deck.compile_composed.Given as goal

abbrev pub ghost-compile_checked : goal.ghost-compile_checked
ghost-compile_checked g a = g.x
