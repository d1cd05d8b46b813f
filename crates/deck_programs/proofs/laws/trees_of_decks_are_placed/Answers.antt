use Rattle.deck_programs.proofs.Decks.{trees_of_decks_are_placed}
use Rattle.deck_programs.proofs.laws.trees_of_decks_are_placed.Goals as goal

pub returns : goal.returns
returns c = trees_of_decks_are_placed
