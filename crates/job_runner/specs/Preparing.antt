-- What a library is found to be, as it lies in memory.
use Rattle.std.specs.Prelude.{Option, Some, None}
use Rattle.algolw_tree.specs.Libraries.{library_place}
use Rattle.algolw_meaning.specs.DeckDiagnostics.{Deck, IsProgram, IsWrong}
use Rattle.procedure_library.specs.declared.library_tree.LibraryTree.{LibraryTree}
use Rattle.procedure_library.specs.Views.{library_tree}
use Rattle.job_runner.specs.declared.preparing.Found.{Found}
use Rattle.job_runner.specs.declared.preparing.Found.TheVariants as found

abbrev pub library_found : Found → Deck
library_found (found.Tree t) = IsProgram (library_tree t)
library_found (found.Bad d) = IsWrong d

-- its tree, or 44
abbrev pub judged : Option LibraryTree → Found
judged (Some t) = found.Tree t
judged None = found.Bad (record { number = 44; place = library_place })
