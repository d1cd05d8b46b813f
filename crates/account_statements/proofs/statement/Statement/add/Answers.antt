use Rattle.account_statements.proofs.Adding.{added, if_ok, subst_statement}
use Rattle.account_statements.proofs.statement.Statement.add.Goals as goal

pub returns-clause-added : goal.returns-clause-added
returns-clause-added c = λ name opening jobs stands is.
    if_ok c.put.result c.put.ensures.one (λ new. subst_statement new (added c.args.self.now c.args.job.now c.args.decision.now name opening jobs stands is))
