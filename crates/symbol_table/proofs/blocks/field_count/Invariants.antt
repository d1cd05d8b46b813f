use Rattle.std.proofs.Common.{◌≡◌, ◌+◌, drop}
use Rattle.symbol_table.specs.Blocks.{field_count}
use Rattle.symbol_table.proofs.blocks.field_count.Given as goal

abbrev pub invariant-loop-names : goal.invariant-loop-names
invariant-loop-names l = l.count + field_count (drop l.names-index l.names-items) ≡ field_count l.names-items
