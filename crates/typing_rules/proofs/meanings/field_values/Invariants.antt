use Rattle.std.proofs.Common.{◌≡◌, map}
use Rattle.algolw_typing.specs.Meanings as meanings
use Rattle.algolw_typing.specs.Verdicts as verdicts
use Rattle.typing_rules.specs.View.{value_type}
use Rattle.typing_rules.specs.MeaningView as view
use Rattle.typing_rules.proofs.meanings.field_values.Given as goal

-- what is left of both decides
abbrev pub invariant-loop-field : goal.invariant-loop-field
invariant-loop-field l =
    (row : verdicts.Verdict) → meanings.field_values l.place (map value_type l.fields) (map view.part l.parts) row ≡ meanings.field_values l.place (map value_type l.field-iterator.a.rest.now) (map view.part l.field-iterator.b.rest.now) row
