use Rattle.algolw_grammar.proofs.Verdict.{programs_begin, fronts_begin}
use Rattle.algolw_grammar.proofs.laws.fronts_begin.Goals as goal

pub returns-clause-programs : goal.returns-clause-programs
returns-clause-programs c = programs_begin

pub returns-clause-fronts : goal.returns-clause-fronts
returns-clause-fronts c = fronts_begin
