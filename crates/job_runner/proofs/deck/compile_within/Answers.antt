use Rattle.std.proofs.Common.{refl, subst, Some, inr}
use Rattle.algolw_meaning.specs.DeckDiagnostics.{IsFound}
use Rattle.procedure_library.specs.Views.{library_tree}
use Rattle.job_runner.specs.Reading.{deck_read}
use Rattle.job_runner.proofs.deck.compile_within.Goals as goal

pub compile_composed-requires : goal.compile_composed-requires
compile_composed-requires c = (refl, (c.requires.library, (c.args.deck.now, c.requires.deck, c.requires.few, subst (λ r. IsFound c.args.deck.now (deck_read r)) c.in-Tree.is c.in_ok-phrase.ensures)))

pub returns-in-Tree : goal.returns-in-Tree
returns-in-Tree c = λ cards library.
    c.compile_composed.ensures cards c.args.deck.now library (subst (λ r. IsFound c.args.deck.now (deck_read r)) c.in-Tree.is c.in_ok-phrase.ensures)

pub returns-in-Bad : goal.returns-in-Bad
returns-in-Bad c = λ cards library.
    c.diagnosed.ensures (Some cards) c.args.deck.now (inr (library_tree c.args.library.now, library, subst (λ r. IsFound c.args.deck.now (deck_read r)) c.in-Bad.is c.in_ok-phrase.ensures))
