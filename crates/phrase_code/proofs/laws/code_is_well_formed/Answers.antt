use Rattle.phrase_code.proofs.Fitting.{program_code_is_well_formed}
use Rattle.phrase_code.proofs.laws.code_is_well_formed.Goals as goal

pub returns : goal.returns
returns c = program_code_is_well_formed
