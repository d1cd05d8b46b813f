use Rattle.std.specs.Prelude.{refl}
use Rattle.worked_rows.specs.Strings.{StringsGive}
use Rattle.worked_rows.proofs.laws.strings_give.Goals as goal

rows : StringsGive
rows = record { taken = refl; put = refl; ordered = refl; reversed = refl; lengthened = refl; coded = refl; decoded = refl }

pub returns : goal.returns
returns c = rows
