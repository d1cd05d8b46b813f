use Rattle.algolw_tree.specs.View.{tree}
use Rattle.job_runner.proofs.deck.compile_deck.Given as goal

abbrev pub ghost-compile_alone : goal.ghost-compile_alone
ghost-compile_alone a = tree a.phrase
