use Rattle.std.specs.Prelude.{refl}
use Rattle.std.specs.Fmt.{digits}
use Rattle.worked_rows.specs.Integers.{IntegersGive}
use Rattle.worked_rows.proofs.laws.integers_give.Goals as goal

rows : IntegersGive
unfolding digits
rows = record { pairs = refl; singles = refl }

pub returns : goal.returns
returns c = rows
