-- Names that are declared a second time.
use Rattle.std.specs.Prelude.{List, [], Option, Some, None}
use Rattle.value_ops.specs.declared.places.Place.{Place}
use Rattle.value_ops.specs.declared.places.Diagnostic.{Diagnostic}
use Rattle.algolw_typing.specs.Verdicts.{diagnostic}

-- the fault of a second declaration, where there is one at a place
abbrev pub second_fault : Option Place → List Diagnostic
second_fault None = []
second_fault (Some p) = diagnostic 31 p
