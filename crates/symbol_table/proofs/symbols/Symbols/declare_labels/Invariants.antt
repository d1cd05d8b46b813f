use Rattle.std.proofs.Common.{◌≡◌, ◌+◌, drop}
use Rattle.symbol_table.specs.Blocks.{label_names}
use Rattle.symbol_table.proofs.symbols.Symbols.declare_labels.Given as goal

abbrev pub invariant-loop-index : goal.invariant-loop-index
invariant-loop-index l = l.self ≡ record l.fn.self { names = label_names l.level l.first.position (l.first.target + l.index) (drop l.index l.items) l.fn.self.names }
