use Rattle.std.proofs.Common.{◌<◌, arith}
use Rattle.cell_store.proofs.Displays.{level_there, read_there}
use Rattle.cell_store.proofs.Restoring.{program_stands, cut_stands}
use Rattle.cell_store.specs.Displays.{levels_of}
use Rattle.cell_store.proofs.display.Display.cut.Goals as goal

pub returns-then-index-left-clause-stands : goal.returns-then-index-left-clause-stands
returns-then-index-left-clause-stands c = let self = c.args.self.now in program_stands c.args.frames.now self.entered.items self.shown.items self.level self.torn c.requires c.args.left

pub returns-else-index-left-clause-stands : goal.returns-else-index-left-clause-stands
returns-else-index-left-clause-stands c =
    let self = c.args.self.now in
    let there = level_there c.args.frames.now c.requires.text (levels_of self.entered.items) self.shown.items self.level c.requires.display in
    cut_stands c.args.frames.now self.entered.items self.shown.items self.level self.torn c.requires c.args.left c.index.result.now (read_there self.shown.items self.level c.index.result.now there c.index.ensures) (omega (arith, c.if-index-left.false))
