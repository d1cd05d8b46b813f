use Rattle.std.proofs.Common.{◌≡◌, map}
use Rattle.account_statements.specs.Standing.{with_own}
use Rattle.account_statements.proofs.statement.Statement.add_own.Given as goal

-- what is added by now and what is left are all
abbrev pub invariant-loop-job : goal.invariant-loop-job
invariant-loop-job l =
    with_own l.account l.initial.self (map (λ j. j.value) l.jobs) l.became
    ≡ with_own l.account l.self (map (λ j. j.value) l.job-iterator.a.rest.now) l.job-iterator.b.rest.now
