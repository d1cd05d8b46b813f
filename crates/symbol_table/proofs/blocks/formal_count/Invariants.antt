use Rattle.std.proofs.Common.{◌≡◌, ◌+◌, drop}
use Rattle.symbol_table.specs.Blocks.{formal_count}
use Rattle.symbol_table.proofs.blocks.formal_count.Given as goal

abbrev pub invariant-loop-formal : goal.invariant-loop-formal
invariant-loop-formal l = l.count + formal_count (drop l.formal-index l.formal-items) ≡ formal_count l.formal-items
