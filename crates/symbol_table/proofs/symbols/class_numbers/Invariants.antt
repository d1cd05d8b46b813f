use Rattle.std.proofs.Common.{◌≡◌, drop, length, replicate, None}
use Rattle.symbol_table.specs.Symbols.{class_numbers, classes_set}
use Rattle.symbol_table.proofs.symbols.class_numbers.Given as goal

abbrev pub invariant-loop-name : goal.invariant-loop-name
invariant-loop-name l = l.classes.items ≡ replicate l._name None

abbrev pub invariant-loop-number : goal.invariant-loop-number
invariant-loop-number l = record {
  counted : length l.classes.items ≡ l.count;
  set : classes_set l.classes.items l.number (drop l.number l.class_names) ≡ class_numbers l.count l.class_names;
}
