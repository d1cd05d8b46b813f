use Rattle.std.specs.Prelude.{refl}
use Rattle.std.specs.Fmt.{digits}
use Rattle.worked_rows.specs.Dumps.{LinesAreShown}
use Rattle.worked_rows.proofs.laws.lines_are_shown.Goals as goal

rows : LinesAreShown
unfolding digits
rows = record { dump = refl; source = refl }

pub returns : goal.returns
returns c = rows
