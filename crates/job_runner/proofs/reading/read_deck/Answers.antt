use Rattle.std.proofs.Common.{inl, subst}
use Rattle.algolw_scanner.specs.Laws.{IsScanOf}
use Rattle.job_runner.proofs.reading.read_deck.Goals as goal

pub returns-in-Tokens : goal.returns-in-Tokens
returns-in-Tokens c = c.read_tokens.ensures c.args.deck.now (subst (IsScanOf c.args.deck.now) c.in-Tokens.is c.in_ok-tokens.ensures.said)

pub returns-in-Bad : goal.returns-in-Bad
returns-in-Bad c = inl (subst (IsScanOf c.args.deck.now) c.in-Bad.is c.in_ok-tokens.ensures.said)
