-- What stands before an operand, as the rules see it.
use Rattle.algolw_tree.specs.Tree as tree
use Rattle.algolw_typing.specs.Rows.{negated_row, integer_row, assert_row}
use Rattle.algolw_typing.specs.Types.{Gives}
use Rattle.algolw_typing.specs.Verdicts.{Verdict}
use Rattle.value_ops.specs.declared.places.Place.{Place}
use Rattle.typed_phrases.specs.declared.operators.Prefix.{Prefix}
use Rattle.typed_phrases.specs.declared.operators.Prefix.TheVariants.{Not, Abs, Sign, Assert}

-- the phrase that an operand is behind it
abbrev pub prefixed : Prefix → tree.Phrase → tree.Kind
prefixed Not a = tree.Negated a
prefixed Abs a = tree.Abs a
prefixed (Sign minus) a = tree.Signed minus a
prefixed Assert a = tree.Assert a

-- its row, at a place
abbrev pub prefix_row : Prefix → Place → Gives → Verdict
prefix_row Not p g = negated_row p g
prefix_row Abs p g = integer_row p g
prefix_row (Sign minus) p g = integer_row p g
prefix_row Assert p g = assert_row p g
