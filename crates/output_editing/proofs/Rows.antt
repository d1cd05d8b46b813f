-- Rows of values: the definitions give their lines by computation alone.
use Rattle.std.proofs.Common.{◌≡◌, [], ◌∷◌, ◌++◌, replicate, refl, true}
use Rattle.std.specs.Prelude.{codes, pos, negsuc}
use Rattle.std.specs.Fmt.{digits}
use Rattle.value_ops.specs.declared.values.Value.TheVariants.{Integer, Logical, Bits, Str}
use Rattle.output_editing.specs.declared.widths.Widths.{Widths}
use Rattle.output_editing.specs.Layout.{lay}
use Rattle.output_editing.specs.Written.{written_first, written_on}

abbrev wide : Widths
wide = record { integer = 14; blanks = 2 }

integers_right_in_14 : lay (written_first (Integer (pos 2)) wide ++ (written_on (Integer (pos 5)) wide ++ written_on (Integer (negsuc 2)) wide)) ≡ codes "             2               5              -3" ∷ []
unfolding digits
integers_right_in_14 = refl

text_behind_a_truth_value : lay (written_first (Logical true) wide ++ (written_on (Str (codes "Q")) wide ++ written_on (Bits 15) wide)) ≡ codes "  TRUE  Q      0000000F" ∷ []
text_behind_a_truth_value = refl

a_string_over_132 : lay (written_on (Str (replicate 256 65)) wide ++ written_on (Integer (pos 7)) wide) ≡ replicate 132 65 ∷ replicate 124 65 ∷ codes "             7" ∷ []
unfolding digits
a_string_over_132 = refl

integers_in_few_columns : lay (written_first (Integer (pos 7)) (record { integer = 3; blanks = 0 }) ++ written_on (Integer (pos 12345)) (record { integer = 3; blanks = 0 })) ≡ codes "  712345" ∷ []
unfolding digits
integers_in_few_columns = refl
