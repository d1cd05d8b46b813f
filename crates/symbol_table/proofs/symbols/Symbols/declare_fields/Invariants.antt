use Rattle.std.proofs.Common.{◌≡◌, ◌+◌, drop}
use Rattle.symbol_table.specs.contracts.symbols.Symbols.{the_view}
use Rattle.symbol_table.specs.Blocks.{field_names}
use Rattle.symbol_table.proofs.symbols.Symbols.declare_fields.Given as goal

abbrev pub invariant-loop-index : goal.invariant-loop-index
invariant-loop-index l = the_view l.self-inside ≡ record l.fn.self { names = field_names l.class (l.first + l.index) l.kind (drop l.index l.names.items) l.fn.self.names }
