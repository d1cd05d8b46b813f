use Rattle.std.proofs.Common.{◌≡◌}
use Rattle.unit_tests.proofs.tickets.drain.Given as goal

abbrev pub invariant-loop : goal.invariant-loop
invariant-loop g l = l.pass.share.parts ≡ l.fn.pass.share.parts
