use Rattle.printable_decks.proofs.Jobs.{jobs_print_texts}
use Rattle.printable_decks.proofs.laws.jobs_print_texts.Goals as goal

pub returns : goal.returns
returns c = jobs_print_texts c.nothing_forgotten.ensures
