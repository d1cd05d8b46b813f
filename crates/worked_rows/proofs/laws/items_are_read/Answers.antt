use Rattle.std.specs.Prelude.{refl}
use Rattle.worked_rows.specs.Items.{ItemsAreRead}
use Rattle.worked_rows.proofs.laws.items_are_read.Goals as goal

rows : ItemsAreRead
rows = record { by_read = refl; by_readon = refl; runs = refl; no_cards = refl; blanks = refl }

pub returns : goal.returns
returns c = rows
