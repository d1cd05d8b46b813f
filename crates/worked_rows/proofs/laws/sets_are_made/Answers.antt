use Rattle.std.specs.Prelude.{refl}
use Rattle.worked_rows.specs.Classes.{SetsAreMade}
use Rattle.worked_rows.proofs.laws.sets_are_made.Goals as goal

rows : SetsAreMade
rows = record { numbers = refl; count = refl; first = refl; has_class = refl }

pub returns : goal.returns
returns c = rows
