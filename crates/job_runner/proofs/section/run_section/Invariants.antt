use Rattle.job_runner.proofs.section.run_section.Given as goal

abbrev pub ghost-first_statements : goal.ghost-first_statements
ghost-first_statements g a = g.begun
