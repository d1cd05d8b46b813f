use Rattle.job_runner.proofs.Ran.{begun_of}
use Rattle.job_runner.proofs.run.run_code.Given as goal

abbrev pub ghost-run_section : goal.ghost-run_section
ghost-run_section a = begun_of a.job.now
