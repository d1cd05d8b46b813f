use Rattle.algolw_grammar.proofs.Verdict.{one_program}
use Rattle.algolw_grammar.proofs.laws.one_program.Goals as goal

pub returns : goal.returns
returns c = one_program
