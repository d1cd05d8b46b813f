use Rattle.std.proofs.Common.{◌≡◌, ◌+◌, drop}
use Rattle.symbol_table.specs.Blocks.{entry_count}
use Rattle.symbol_table.proofs.blocks.entry_count.Given as goal

abbrev pub invariant-loop-decl : goal.invariant-loop-decl
invariant-loop-decl l = l.count + entry_count (drop l.decl-index l.decls) ≡ entry_count l.decls
