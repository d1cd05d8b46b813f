use Rattle.std.proofs.Common.{◌≡◌, set, drop}
use Rattle.machine_rows.proofs.Filling.{part_filled}
use Rattle.machine_rows.proofs.record_rows.fill.Given as goal

abbrev pub invariant-loop-position : goal.invariant-loop-position
invariant-loop-position l = l.records ≡ set l.initial.records l.id.0 (part_filled l.class (drop l.first l.store.cells) l.count l.position)
