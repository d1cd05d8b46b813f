use Rattle.std.proofs.Common.{◌≡◌, ◌++◌, drop}
use Rattle.algolw_tree.specs.Standards.{spelled}
use Rattle.symbol_table.specs.Standings.{standings_of}
use Rattle.symbol_table.proofs.name_table.standard_standings.Given as goal

abbrev pub invariant-loop-standard : goal.invariant-loop-standard
invariant-loop-standard l = l.standings.items ++ standings_of (spelled (drop l.standard-index l.names)) ≡ standings_of (spelled l.names)
