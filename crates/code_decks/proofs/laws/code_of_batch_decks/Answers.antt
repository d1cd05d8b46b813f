use Rattle.std.specs.Prelude.{refl}
use Rattle.std.specs.Fmt.{digits}
use Rattle.algolw_meaning.specs.DeckDiagnostics.{deck_of}
use Rattle.code_decks.specs.CodeRows.{AllRun, AllSeen}
use Rattle.code_decks.specs.BatchDecks.{short_decks, long_decks, record_decks, full_depth_decks}
use Rattle.code_decks.proofs.laws.code_of_batch_decks.Goals as goal

short_run : AllRun short_decks
unfolding deck_of digits
short_run = refl

long_run : AllRun long_decks
unfolding deck_of digits
long_run = refl

records_run : AllSeen record_decks
unfolding deck_of digits
records_run = refl

full_depth_run : AllSeen full_depth_decks
unfolding deck_of digits
full_depth_run = refl

pub returns : goal.returns
returns c = record { short = short_run; long = long_run; records = records_run; full_depth = full_depth_run }
