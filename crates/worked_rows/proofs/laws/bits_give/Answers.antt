use Rattle.std.specs.Prelude.{refl}
use Rattle.std.specs.Fmt.{digits}
use Rattle.worked_rows.specs.Integers.{BitsGive}
use Rattle.worked_rows.proofs.laws.bits_give.Goals as goal

rows : BitsGive
unfolding digits
rows = record { shifts = refl; refused = refl; both = refl; either = refl; turned = refl }

pub returns : goal.returns
returns c = rows
