use Rattle.std.proofs.Common.{arith}
use Rattle.std.proofs.lemmas.Grind.{div_ceil_times}
use Rattle.night_shares.proofs.chains.chains_for.Goals as goal

pub returns-clause-least : goal.returns-clause-least
returns-clause-least c = λ chains wanted some enough. omega (arith, c.div_ceil.ensures, c.max.ensures, c.max-2.ensures, div_ceil_times c.args.accounts 500 (omega arith), wanted, some, enough)
