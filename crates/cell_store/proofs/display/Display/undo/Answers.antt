use Rattle.cell_store.proofs.Restoring.{innermost_undone}
use Rattle.cell_store.proofs.display.Display.undo.Goals as goal

pub returns-clause-stands : goal.returns-clause-stands
returns-clause-stands c =
    let self = c.args.self.now in
    (innermost_undone c.args.frames.now self.entered.items self.torn c.args.innermost c.index-entering.result.now self.shown.items self.level c.requires.stands c.requires.frame c.requires.whole c.requires.innermost c.index-entering.ensures).1

pub returns-clause-below : goal.returns-clause-below
returns-clause-below c =
    let self = c.args.self.now in
    (innermost_undone c.args.frames.now self.entered.items self.torn c.args.innermost c.index-entering.result.now self.shown.items self.level c.requires.stands c.requires.frame c.requires.whole c.requires.innermost c.index-entering.ensures).0
