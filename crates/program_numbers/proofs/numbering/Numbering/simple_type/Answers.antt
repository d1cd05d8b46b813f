use Rattle.std.proofs.Common.{refl, sym, ap, ◌∙◌}
use Rattle.algolw_typing.specs.Types.{Reference}
use Rattle.typing_rules.specs.View.{value_type}
use Rattle.program_numbers.proofs.Making.{makes_of}
use Rattle.program_numbers.proofs.numbering.Numbering.simple_type.Goals as goal

pub returns-in_ok-set-in-Reference : goal.returns-in_ok-set-in-Reference
returns-in_ok-set-in-Reference c = makes_of _ _ _ _ _ Reference _ _ (λ sets. refl) (ap value_type c.in-Reference.is ∙ ap Reference (sym c.places.ensures.same)) (c.in_ok-set-in-Reference.ensures {u = tt})
