use Rattle.std.proofs.Common.{sym, ◌∙◌}
use Rattle.std.proofs.lemmas.Slice.Zip.{either_empty_from_Zip}
use Rattle.account_statements.proofs.Stating.{own_at_end}
use Rattle.account_statements.proofs.statement.Statement.add_own.Goals as goal

pub returns : goal.returns
returns c =
    let left = c.loop-job.job-iterator in
    sym (c.loop-job.invariant ∙ own_at_end (λ j. j.value) c.args.account c.loop-job.self left.a.rest.now left.b.rest.now (either_empty_from_Zip left c.next.new.self _ c.in-None.is c.next.ensures.steps))
