use Rattle.std.proofs.Common.{◌≡◌, ◌+◌, drop}
use Rattle.symbol_table.specs.contracts.symbols.Symbols.{the_view}
use Rattle.symbol_table.specs.Blocks.{entry_names, standing_held}
use Rattle.symbol_table.proofs.symbols.Symbols.declare_entries.Given as goal

abbrev pub invariant-loop-index : goal.invariant-loop-index
invariant-loop-index l = the_view l.self-inside ≡ record l.fn.self { names = entry_names (standing_held l.holding) l.level (l.first + l.index) (drop l.index l.names.items) l.fn.self.names }
