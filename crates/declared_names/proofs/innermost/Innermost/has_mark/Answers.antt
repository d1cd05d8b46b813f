use Rattle.std.proofs.Common.{ap, ◌∙◌}
use Rattle.algolw_typing.specs.Names.{in_scope}
use Rattle.declared_names.specs.KnownPaths.{known_of}
use Rattle.declared_names.specs.declared.innermost.Innermost.{Innermost}
use Rattle.declared_names.proofs.Knowing.{control_passed}
use Rattle.declared_names.proofs.innermost.Innermost.has_mark.Goals as goal

pub returns-in-Control : goal.returns-in-Control
returns-in-Control c unset x at =
    ap (λ (own : Innermost). in_scope (known_of own) x) c.in-Control.is
    ∙ control_passed c.in-Control.name.now x c.in-Control.field-1 (c.is_marked.ensures unset x at)
