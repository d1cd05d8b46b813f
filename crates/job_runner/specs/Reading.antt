-- What a deck and a library are found to be, as they lie in memory.
use Rattle.std.specs.Prelude.{◌≡◌, List, ℕ}
use Rattle.algolw_tree.specs.View.{tree}
use Rattle.algolw_meaning.specs.DeckDiagnostics.{Deck, IsProgram, IsWrong}
use Rattle.procedure_library.specs.Views.{library_tree}
use Rattle.job_runner.specs.declared.reading.Read.{Read}
use Rattle.job_runner.specs.declared.reading.Read.TheVariants as read

abbrev pub deck_read : Read → Deck
deck_read (read.Tree phrase tokens) = IsProgram (tree phrase)
deck_read (read.Bad d) = IsWrong d
