use Rattle.input_editing.proofs.CardLaw.{cards_are_read_whole}
use Rattle.input_editing.proofs.laws.cards_are_read_whole.Goals as goal

pub returns : goal.returns
returns c = cards_are_read_whole
