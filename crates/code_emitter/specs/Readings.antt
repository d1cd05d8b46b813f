-- How an actual without a phrase is read.
use Rattle.std.specs.Prelude.{ℕ, Option, Some, None}
use Rattle.stack_code.specs.declared.heads.Reading.{Reading}
use Rattle.stack_code.specs.declared.heads.Reading.TheVariants as reading
use Rattle.stack_code.specs.declared.instructions.Source.{Source}

abbrev pub of_name : Option Source → Reading
of_name None = reading.Nothing
of_name (Some s) = reading.Name s

abbrev pub of_subarray : Option Source → ℕ → Reading
of_subarray None n = reading.Nothing
of_subarray (Some s) n = reading.Subarray s n
