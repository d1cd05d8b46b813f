use Rattle.std.proofs.Common.{◌≡◌, take, drop}
use Rattle.symbol_table.specs.Blocks.{field_count, group_names}
use Rattle.symbol_table.proofs.symbols.Symbols.declare_groups.Given as goal

abbrev pub invariant-loop-index : goal.invariant-loop-index
invariant-loop-index l = record {
  before : l.next ≡ field_count (take l.index l.class.groups.items);
  names : l.self ≡ record l.fn.self { names = group_names l.number l.next (drop l.index l.class.groups.items) l.fn.self.names };
}
