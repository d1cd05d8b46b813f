use Rattle.std.proofs.Common.{◌≡◌, drop}
use Rattle.symbol_table.specs.contracts.symbols.Symbols.{the_view}
use Rattle.symbol_table.specs.Blocks.{all_names}
use Rattle.symbol_table.proofs.symbols.Symbols.declare_all.Given as goal

abbrev pub invariant-loop-index : goal.invariant-loop-index
invariant-loop-index l = the_view l.self-inside ≡ record l.fn.self { names = all_names l.standing (drop l.index l.names.items) l.fn.self.names }
