use Rattle.std.proofs.Common.{sym, ap, ◌∙◌}
use Rattle.algolw_typing.specs.Names.{in_scope}
use Rattle.declared_names.proofs.Knowing.{Entries, absent}
use Rattle.declared_names.proofs.known.KnownScope.has_mark.Goals as goal

pub returns : goal.returns
returns c unset x mark =
    ap (λ (es : Entries). in_scope es x) (sym c.self.view_is) ∙ absent c.self.inside.names c.self.inside.facts.items x ((c.has_mark.ensures unset).none x mark)
