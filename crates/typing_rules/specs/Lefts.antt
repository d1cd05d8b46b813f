-- What stands at the left of an assignment, as its row sees it.
use Rattle.algolw_typing.specs.Typing as typing
use Rattle.typing_rules.specs.declared.rows.Left.{Left}
use Rattle.typing_rules.specs.declared.rows.Left.TheVariants as left

abbrev pub left_view : Left → typing.Left
left_view left.Variable = typing.variable_left
left_view left.Control = typing.control_left
left_view left.NoVariable = typing.no_variable_left
