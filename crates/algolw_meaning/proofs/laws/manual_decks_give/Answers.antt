use Rattle.std.specs.Prelude.{refl}
use Rattle.std.specs.Fmt.{digits}
use Rattle.algolw_meaning.specs.DeckDiagnostics.{deck_of}
use Rattle.algolw_meaning.specs.ManualDecks.{ManualDecksGive}
use Rattle.algolw_meaning.proofs.laws.manual_decks_give.Goals as goal

decks : ManualDecksGive
unfolding deck_of digits
decks = record {
  order = refl;
  statements = refl;
  loops = refl;
  values = refl;
  parameters = refl;
  names = refl;
  procedures = refl;
  limits = refl;
}

pub returns : goal.returns
returns c = decks
