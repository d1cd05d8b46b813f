use Rattle.algolw_tree.specs.Libraries.{composed}
use Rattle.algolw_tree.specs.View.{tree}
use Rattle.procedure_library.specs.Views.{library_tree}
use Rattle.job_runner.proofs.deck.compile_within.Given as goal

abbrev pub ghost-compile_composed : goal.ghost-compile_composed
ghost-compile_composed a = composed (library_tree a.library.now) (tree a.phrase)
