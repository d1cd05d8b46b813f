use Rattle.std.proofs.Common.{◌≡◌, ◌+◌, drop}
use Rattle.symbol_table.specs.Blocks.{procedure_count}
use Rattle.symbol_table.proofs.blocks.procedure_count.Given as goal

abbrev pub invariant-loop-decl : goal.invariant-loop-decl
invariant-loop-decl l = l.count + procedure_count (drop l.decl-index l.decls) ≡ procedure_count l.decls
