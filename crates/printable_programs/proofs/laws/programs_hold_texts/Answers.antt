use Rattle.printable_programs.proofs.Programs.{programs_hold_texts}
use Rattle.printable_programs.proofs.laws.programs_hold_texts.Goals as goal

pub returns : goal.returns
returns c = programs_hold_texts c.nothing_forgotten.ensures
