use Rattle.std.proofs.Common.{refl}
use Rattle.cell_store.proofs.Restoring.{at_first}
use Rattle.cell_store.proofs.display.Display.new.Goals as goal

pub returns-clause-shown : goal.returns-clause-shown
returns-clause-shown c = at_first c.new.result.items c.push.new.self.items 0 (rw (c.in_ok-push.ensures.items, c.new-shown.ensures.items) refl)
