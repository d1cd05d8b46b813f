use Rattle.std.specs.Prelude.{refl}
use Rattle.algolw_meaning.specs.DeckDiagnostics.{deck_diagnostics}
use Rattle.algolw_meaning.specs.SettingDecks.{SettingsHaveTheirFaults}
use Rattle.algolw_meaning.proofs.laws.settings_have_their_faults.Goals as goal

decks : SettingsHaveTheirFaults
unfolding deck_diagnostics
decks = refl

pub returns : goal.returns
returns c = decks
