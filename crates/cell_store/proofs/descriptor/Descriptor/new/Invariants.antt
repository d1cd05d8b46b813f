use Rattle.std.proofs.Common.{◌≡◌, ◌-◌, ◌++◌, map, take, replicate}
use Rattle.cell_store.specs.Arrays.{dimension}
use Rattle.cell_store.specs.Held.{blank}
use Rattle.cell_store.proofs.descriptor.Descriptor.new.Given as goal

abbrev pub invariant-loop-k : goal.invariant-loop-k
invariant-loop-k l = l.dimensions ≡ map dimension (take l.k l.bounds) ++ replicate (8 - l.k) blank
