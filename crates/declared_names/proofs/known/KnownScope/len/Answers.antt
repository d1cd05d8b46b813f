use Rattle.std.proofs.Common.{length, sym, ap, ◌∙◌}
use Rattle.declared_names.proofs.Again.{as_many}
use Rattle.declared_names.proofs.known.KnownScope.len.Goals as goal

pub returns : goal.returns
returns c =
    c.len.ensures ∙ sym (as_many c.self.inside.names c.self.inside.facts.items c.self.invariant.each) ∙ ap length c.self.view_is
