use Rattle.std.proofs.Common.{◌<◌}
use Rattle.unit_tests.proofs.decisions.+ways.Given as goal

abbrev pub decreases-ways : goal.decreases-ways
decreases-ways l = l.most

abbrev pub invariant-loop-event : goal.invariant-loop-event
invariant-loop-event l = l.fewer < l.most

abbrev pub invariant-loop-number : goal.invariant-loop-number
invariant-loop-number l = l.fewer < l.most
