use Rattle.program_runs.proofs.Decks.{code_of_decks_is_right}
use Rattle.program_runs.proofs.laws.code_of_decks_is_right.Goals as goal

pub returns : goal.returns
returns c = code_of_decks_is_right
