use Rattle.std.proofs.Common.{◌≡◌, ◌≤◌, take, length}
use Rattle.stack_machine.specs.Dumped as dumped
use Rattle.stack_machine.proofs.dump.bounds_left.Given as goal

abbrev pub invariant-loop-dimension : goal.invariant-loop-dimension
invariant-loop-dimension l = (l.count ≤ l.dimension-index) × (length l.dimension-items ≤ 8) × (length l.bounds ≡ 8) × (take l.count l.bounds ≡ dumped.bounds_left (take l.dimension-index l.dimension-items))
