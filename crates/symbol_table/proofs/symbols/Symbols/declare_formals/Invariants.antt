use Rattle.std.proofs.Common.{◌≡◌, ◌+◌, drop}
use Rattle.symbol_table.specs.contracts.symbols.Symbols.{the_view}
use Rattle.symbol_table.specs.Symbols.{formal_names, formals_of}
use Rattle.symbol_table.proofs.symbols.Symbols.declare_formals.Given as goal

abbrev pub invariant-loop-index : goal.invariant-loop-index
invariant-loop-index l = the_view l.self-inside ≡ record l.fn.self { names = formal_names l.level (1 + l.index) (drop l.index (formals_of l.fn.self l.fn.procedure)) l.fn.self.names }
