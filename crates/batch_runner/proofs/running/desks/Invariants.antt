use Rattle.std.proofs.Common.{◌≡◌, length}
use Rattle.batch_runner.proofs.running.desks.Given as goal

abbrev pub invariant-loop : goal.invariant-loop
invariant-loop l = length l.all.items ≡ l.counter
