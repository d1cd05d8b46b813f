use Rattle.std.proofs.Common.{◌≡◌, ◌-◌, ◌≤◌, drop, length}
use Rattle.symbol_table.proofs.name_table.NameTable.take_back.Given as goal

abbrev pub invariant-loop-self : goal.invariant-loop-self
invariant-loop-self l = record { count : l.self.count ≡ l.initial.self.count; names : l.self.names ≡ drop (length l.initial.self.names - length l.self.names) l.initial.self.names; most : length l.initial.self.names - length l.self.names ≤ length l.initial.self.names - l.declared }

abbrev pub decreases-loop-self : goal.decreases-loop-self
decreases-loop-self l = length l.self.names
