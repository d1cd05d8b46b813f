use Rattle.std.proofs.Common.{refl, subst, None}
use Rattle.algolw_meaning.specs.DeckDiagnostics.{IsFound}
use Rattle.job_runner.specs.Reading.{deck_read}
use Rattle.job_runner.proofs.deck.compile_deck.Goals as goal

pub compile_alone-requires : goal.compile_alone-requires
compile_alone-requires c = (refl, (c.args.deck.now, subst (λ r. IsFound c.args.deck.now (deck_read r)) c.in-Tree.is c.in_ok-phrase.ensures))

pub returns-in-Tree : goal.returns-in-Tree
returns-in-Tree c = c.compile_alone.ensures c.args.deck.now (subst (λ r. IsFound c.args.deck.now (deck_read r)) c.in-Tree.is c.in_ok-phrase.ensures)

pub returns-in-Bad : goal.returns-in-Bad
returns-in-Bad c = c.diagnosed.ensures None c.args.deck.now (subst (λ r. IsFound c.args.deck.now (deck_read r)) c.in-Bad.is c.in_ok-phrase.ensures)
