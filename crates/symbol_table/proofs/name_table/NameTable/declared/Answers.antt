use Rattle.std.proofs.Common.{length, ap, arith}
use Rattle.symbol_table.specs.Standings.{TableView}
use Rattle.symbol_table.proofs.Declared.{length-names}
use Rattle.symbol_table.proofs.name_table.NameTable.declared.Goals as goal

pub returns-clause-all : goal.returns-clause-all
returns-clause-all c =
    let all = length-names c.self.inside.standings.items c.self.inside.before.items in
    let seen = ap (λ (t : TableView). length t.names) c.self.view_is in
    omega (arith, all, seen)
