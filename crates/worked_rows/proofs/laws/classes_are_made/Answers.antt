use Rattle.std.specs.Prelude.{refl}
use Rattle.worked_rows.specs.Classes.{ClassesAreMade}
use Rattle.worked_rows.proofs.laws.classes_are_made.Goals as goal

rows : ClassesAreMade
rows = record { count = refl; first = refl; second = refl; positions = refl }

pub returns : goal.returns
returns c = rows
