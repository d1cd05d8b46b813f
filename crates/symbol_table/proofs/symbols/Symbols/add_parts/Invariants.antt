use Rattle.std.proofs.Common.{◌≡◌, drop}
use Rattle.symbol_table.specs.Blocks.{with_parts}
use Rattle.symbol_table.proofs.symbols.Symbols.add_parts.Given as goal

abbrev pub invariant-loop-decl : goal.invariant-loop-decl
invariant-loop-decl l = with_parts l.self (drop l.decl-index l.decls) ≡ with_parts l.fn.self l.decls
