use Rattle.std.proofs.Common.{◌≡◌, ◌++◌, drop}
use Rattle.symbol_table.specs.Blocks.{all_formals}
use Rattle.symbol_table.proofs.symbols.Symbols.add_formals.Given as goal

abbrev pub invariant-loop-formal : goal.invariant-loop-formal
invariant-loop-formal l = record l.self { formals = l.self.formals ++ all_formals (drop l.formal-index l.formals) } ≡ record l.fn.self { formals = l.fn.self.formals ++ all_formals l.formals }
