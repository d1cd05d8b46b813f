use Rattle.cell_store.proofs.Restoring.{none_displayed}
use Rattle.cell_store.proofs.display.Display.clear.Goals as goal

pub returns-clause-shown : goal.returns-clause-shown
returns-clause-shown c = let self = c.args.self.now in none_displayed c.args.frames.now self.entered.items self.shown.items self.level self.torn c.requires
