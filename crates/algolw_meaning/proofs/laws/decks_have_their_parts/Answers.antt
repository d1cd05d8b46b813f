use Rattle.std.specs.Prelude.{refl}
use Rattle.algolw_meaning.specs.DeckDiagnostics.{deck_of}
use Rattle.algolw_meaning.specs.ProgramDecks.{DecksHaveTheirParts}
use Rattle.algolw_meaning.proofs.laws.decks_have_their_parts.Goals as goal

decks : DecksHaveTheirParts
unfolding deck_of
decks = record { procedures = refl; bounds = refl; assignments = refl; classes = refl; labels = refl; nested = refl; blocks = refl; sets = refl; strings = refl }

pub returns : goal.returns
returns c = decks
