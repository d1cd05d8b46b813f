use Rattle.std.proofs.Common.{◌≡◌, ◌<◌, Option, Some, length, get_or, ap, ◌∙◌, sym, rules}
use Rattle.algolw_tree.specs.Tree.{Placed}
use Rattle.algolw_typing.specs.Names as names
use Rattle.algolw_typing.specs.Names.{in_scope}
use Rattle.algolw_typing.specs.Scopes as rules
use Rattle.name_scopes.proofs.Firsts.{first_stands}
use Rattle.declared_names.specs.KnownView.{entry_with, facts_view, known_view}
use Rattle.declared_names.specs.declared.known.Facts.{Facts}
use Rattle.declared_names.proofs.Knowing.{Entries, absent, entry_is, found}
use Rattle.declared_names.proofs.known.KnownScope.find_marked.Goals as goal

pub name_at-requires : goal.name_at-requires
name_at-requires c = (first_stands c.self.inside.names c.args.name.now c.in-Some.position (sym c.in-Some.ensures)).within

pub index-facts-requires : goal.index-facts-requires
index-facts-requires c =
    let w : c.in-Some.position < length c.self.inside.names = (first_stands c.self.inside.names c.args.name.now c.in-Some.position (sym c.in-Some.ensures)).within in
    let e : length c.self.inside.facts.items ≡ length c.self.inside.names = c.self.invariant.each in
    search rules

pub returns-in-None : goal.returns-in-None
returns-in-None c =
    sym (ap (λ (es : Entries). in_scope es c.args.name.now) (sym c.self.view_is) ∙ absent c.self.inside.names c.self.inside.facts.items c.args.name.now (sym c.in-None.ensures))

pub returns-in-Some : goal.returns-in-Some
returns-in-Some c =
    let q = c.args.name.now in
    let i = c.in-Some.position in
    let own = c.self.inside.names in
    let facts = c.self.inside.facts.items in
    let x = c.name_at.result.now in
    let f = c.index-facts.result.now in
    let it = found own facts q i x f c.self.invariant.each (sym c.in-Some.ensures) in
    entry_is q c.known_at.result.place x.1 (known_view c.known_at.result) (facts_view f) c.known_at.ensures.place c.known_at.ensures.known
    ∙ ap {B = Option (names.Entry rules.Known)} (λ (y : Placed). Some (entry_with (q, y.1) (facts_view f))) c.name_at.ensures
    ∙ ap {B = Option (names.Entry rules.Known)} (λ (g : Facts). Some (entry_with (q, (get_or own i x).1) (facts_view g))) c.index-facts.ensures
    ∙ sym it.1 ∙ ap (λ (es : Entries). in_scope es q) c.self.view_is
