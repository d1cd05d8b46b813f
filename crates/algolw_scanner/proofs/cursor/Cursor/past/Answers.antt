use Rattle.std.proofs.Common.{refl}
use Rattle.algolw_scanner.proofs.Steps.{behind_line}
use Rattle.algolw_scanner.proofs.cursor.Cursor.past.Goals as goal

pub returns : goal.returns
returns c = λ u e. behind_line c.args.self _ u c.requires.sound e refl refl refl
