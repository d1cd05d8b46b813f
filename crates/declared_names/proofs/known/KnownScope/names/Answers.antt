use Rattle.std.proofs.Common.{sym, ap, ◌∙◌}
use Rattle.algolw_typing.specs.Naming.{placed_of}
use Rattle.declared_names.proofs.NamesOf.{names_with_facts}
use Rattle.declared_names.proofs.known.KnownScope.names.Goals as goal

pub returns : goal.returns
returns c =
    c.names.ensures ∙ sym (names_with_facts c.self.inside.names c.self.inside.facts.items c.self.invariant.each) ∙ ap placed_of c.self.view_is
