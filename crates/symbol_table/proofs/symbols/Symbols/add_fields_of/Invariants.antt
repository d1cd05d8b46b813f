use Rattle.std.proofs.Common.{◌≡◌, ◌-◌, ◌++◌, replicate}
use Rattle.symbol_table.specs.contracts.symbols.Symbols.{the_view}
use Rattle.symbol_table.specs.Symbols.{SymbolsView}
use Rattle.symbol_table.proofs.symbols.Symbols.add_fields_of.Given as goal

abbrev pub invariant-loop-field : goal.invariant-loop-field
invariant-loop-field l = let s : SymbolsView = the_view l.self-inside in record s { fields = s.fields ++ replicate (l.count - l._field) l.kind } ≡ record l.fn.self { fields = l.fn.self.fields ++ replicate l.count l.kind }
