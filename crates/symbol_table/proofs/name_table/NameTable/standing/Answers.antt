use Rattle.std.proofs.Common.{◌<◌, ◌≤◌, length, sym, ap, ◌∙◌, subst, slice_index_or}
use Rattle.symbol_table.specs.declared.standings.Standing.TheVariants as standing
use Rattle.symbol_table.specs.Standings.{TableView, standing_of}
use Rattle.symbol_table.proofs.Declared.{standing_found, standing_far}
use Rattle.symbol_table.proofs.name_table.NameTable.standing.Goals as goal

pub returns-in-Some : goal.returns-in-Some
returns-in-Some c =
    let found = c.in-Some.ensures.lookup.3 in
    let inside = subst (λ xs. c.args.name < length xs) c.deref.ensures.value found.0 in
    found.1 standing.Unknown ∙ ap (λ xs. slice_index_or xs c.args.name standing.Unknown) c.deref.ensures.value
    ∙ sym (standing_found c.self.inside.standings.items c.self.inside.before.items c.args.name c.self.invariant inside)
    ∙ ap (λ (t : TableView). standing_of t.names c.args.name) c.self.view_is

pub returns-in-None : goal.returns-in-None
returns-in-None c =
    let outside = subst (λ xs. length xs ≤ c.args.name) c.deref.ensures.value c.in-None.ensures.lookup.3 in
    sym (standing_far c.self.inside.standings.items c.self.inside.before.items c.args.name c.self.invariant outside)
    ∙ ap (λ (t : TableView). standing_of t.names c.args.name) c.self.view_is
