use Rattle.std.proofs.Common.{map}
use Rattle.account_book.specs.OwnJobs.{own_jobs}
use Rattle.account_statements.proofs.Adding.{subst_statement}
use Rattle.account_statements.proofs.Stating.{stated}
use Rattle.account_statements.proofs.statement.own_statement.Goals as goal

pub returns : goal.returns
returns c = λ openings at so.
    let jobs = map (λ j. j.value) c.args.jobs.now in
    c.finish.ensures c.args.name.now c.args.opening (own_jobs c.args.account jobs)
    (subst_statement c.in_ok-add_own.ensures (stated c.in_ok-statement.statement c.args.name.now openings c.args.account c.args.opening jobs c.args.became.now c.in_ok-statement.ensures at so))
