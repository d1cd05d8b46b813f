use Rattle.algolw_grammar.proofs.Verdict.{one_answer, answered}
use Rattle.algolw_grammar.proofs.laws.answers.Goals as goal

pub returns-clause-one : goal.returns-clause-one
returns-clause-one c = one_answer

pub returns-clause-parsed : goal.returns-clause-parsed
returns-clause-parsed c = answered
