use Rattle.std.proofs.Common.{◌≡◌, drop}
use Rattle.symbol_table.specs.Blocks.{begin_of, names_before}
use Rattle.symbol_table.proofs.symbols.Symbols.declare_decls.Given as goal

abbrev pub invariant-loop-index : goal.invariant-loop-index
invariant-loop-index l = record {
  begins : l.next ≡ begin_of l.fn.end (drop l.index l.decls);
  names : l.self ≡ record l.fn.self { names = names_before l.fn.self.classes l.level l.fn.end (drop l.index l.decls) l.fn.self.names };
}
