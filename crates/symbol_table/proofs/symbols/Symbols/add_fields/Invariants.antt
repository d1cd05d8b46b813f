use Rattle.std.proofs.Common.{◌≡◌, ◌++◌, drop}
use Rattle.symbol_table.specs.Blocks.{all_fields}
use Rattle.symbol_table.proofs.symbols.Symbols.add_fields.Given as goal

abbrev pub invariant-loop-kind : goal.invariant-loop-kind
invariant-loop-kind l = record l.self { fields = l.self.fields ++ all_fields (drop l.kind-index l.groups) } ≡ record l.fn.self { fields = l.fn.self.fields ++ all_fields l.groups }
