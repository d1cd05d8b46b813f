use Rattle.printable_decks.proofs.Batches.{batches_print_texts}
use Rattle.printable_decks.proofs.laws.batches_print_texts.Goals as goal

pub returns : goal.returns
returns c = batches_print_texts c.nothing_forgotten.ensures
