use Rattle.std.proofs.Common.{◌≡◌, ◌-◌, ◌++◌, ◌≤◌, length, max, replicate}
use Rattle.symbol_table.specs.declared.standings.Standing.TheVariants as standing
use Rattle.symbol_table.specs.Standings.{standard_count}
use Rattle.symbol_table.proofs.Begun.{every_standing}
use Rattle.symbol_table.proofs.name_table.NameTable.new.Given as goal

abbrev pub invariant-loop-standings : goal.invariant-loop-standings
invariant-loop-standings l = record {
  many : standard_count ≤ length l.standings.items;
  few : length l.standings.items ≤ max standard_count l.count;
  begun : l.standings.items ≡ every_standing ++ replicate (length l.standings.items - standard_count) standing.Unknown;
}

abbrev pub decreases-loop-standings : goal.decreases-loop-standings
decreases-loop-standings l = l.count - length l.standings.items
