use Rattle.std.proofs.Common.{◌≡◌, ◌<◌, [], ◌∷◌, ◌++◌, length, sym, ap, ◌∙◌, subst, slice_index_or, slice_set}
use Rattle.symbol_table.specs.declared.standings.Standing.{Standing}
use Rattle.symbol_table.specs.declared.standings.Standing.TheVariants as standing
use Rattle.symbol_table.specs.Standings.{IsTable, TableView, standing_of, table_view}
use Rattle.symbol_table.proofs.Declared.{one_more, one_more_table, standing_found}
use Rattle.symbol_table.proofs.name_table.NameTable.declare.Goals as goal

-- what is behind those that were declared: the name, with what it stood for
pushed : (c : goal.After-self-1) → c.push.new.self.items ≡ c.self.inside.before.items ++ (c.args.name, slice_index_or c.self.inside.standings.items c.args.name standing.Unknown) ∷ []
pushed c =
    let l : c.args.name < length c.self.inside.standings.items = subst (λ (t : TableView). c.args.name < t.count) (sym c.self.view_is) c.requires in
    let was : c.standing-before.result ≡ slice_index_or c.self.inside.standings.items c.args.name standing.Unknown = c.standing-before.ensures ∙ ap (λ (t : TableView). standing_of t.names c.args.name) (sym c.self.view_is) ∙ standing_found c.self.inside.standings.items c.self.inside.before.items c.args.name c.self.invariant l in
    c.in_ok-push.ensures.items ∙ ap (λ (s : Standing). c.self.inside.before.items ++ (c.args.name, s) ∷ []) was

pub invariant_of-self-2 : goal.invariant_of-self-2
invariant_of-self-2 c =
    let l : c.args.name < length c.self.inside.standings.items = subst (λ (t : TableView). c.args.name < t.count) (sym c.self.view_is) c.requires in
    subst (IsTable (slice_set c.self.inside.standings.items c.args.name c.args.standing)) (sym (pushed c)) (one_more_table c.self.inside.standings.items c.self.inside.before.items c.args.name c.args.standing l c.self.invariant)

pub returns-clause-added : goal.returns-clause-added
returns-clause-added c =
    let l : c.args.name < length c.self.inside.standings.items = subst (λ (t : TableView). c.args.name < t.count) (sym c.self.view_is) c.requires in
    ap (table_view (slice_set c.self.inside.standings.items c.args.name c.args.standing)) (pushed c)
    ∙ one_more c.self.inside.standings.items c.self.inside.before.items c.args.name c.args.standing l
    ∙ ap (λ (t : TableView). record t { names = (c.args.name, c.args.standing) ∷ t.names }) c.self.view_is
