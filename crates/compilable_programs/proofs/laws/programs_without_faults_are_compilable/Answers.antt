use Rattle.compilable_programs.proofs.Programs.{programs_without_faults_are_compilable}
use Rattle.compilable_programs.proofs.laws.programs_without_faults_are_compilable.Goals as goal

pub returns : goal.returns
returns c = programs_without_faults_are_compilable
