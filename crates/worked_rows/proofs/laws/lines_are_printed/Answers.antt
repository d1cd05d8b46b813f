use Rattle.std.specs.Prelude.{refl}
use Rattle.std.specs.Fmt.{digits}
use Rattle.worked_rows.specs.Lines.{LinesArePrinted}
use Rattle.worked_rows.proofs.laws.lines_are_printed.Goals as goal

rows : LinesArePrinted
unfolding digits
rows = record { lines = refl; by_widths = refl; answers = refl; limited_lines = refl; limited_answers = refl }

pub returns : goal.returns
returns c = rows
