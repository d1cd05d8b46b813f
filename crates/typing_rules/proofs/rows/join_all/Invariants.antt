use Rattle.std.proofs.Common.{◌≡◌, drop}
use Rattle.std.specs.Option.{option_map}
use Rattle.algolw_typing.specs.Types.{join_all}
use Rattle.typing_rules.specs.Parts.{values_of}
use Rattle.typing_rules.proofs.Joins.{join_more}
use Rattle.typing_rules.specs.View.{value_type}
use Rattle.typing_rules.proofs.rows.join_all.Given as goal

abbrev pub invariant-loop-part : goal.invariant-loop-part
invariant-loop-part l = join_more (option_map value_type l.joined) (values_of (drop l.part-index l.parts)) ≡ join_all (values_of l.parts)
