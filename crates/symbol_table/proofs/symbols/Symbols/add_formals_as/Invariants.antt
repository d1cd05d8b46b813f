use Rattle.std.proofs.Common.{◌≡◌, ◌++◌, drop}
use Rattle.symbol_table.specs.contracts.symbols.Symbols.{the_view}
use Rattle.symbol_table.specs.Blocks.{formals_as}
use Rattle.symbol_table.specs.Symbols.{SymbolsView}
use Rattle.symbol_table.proofs.symbols.Symbols.add_formals_as.Given as goal

abbrev pub invariant-loop-name : goal.invariant-loop-name
invariant-loop-name l = let s : SymbolsView = the_view l.self-inside in record s { formals = s.formals ++ formals_as l.is (drop l.name-index l.name-items) } ≡ record l.fn.self { formals = l.fn.self.formals ++ formals_as l.is l.name-items }
