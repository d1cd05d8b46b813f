use Rattle.std.proofs.Common.{◌≡◌, ◌-◌, suc, length, arith}
use Rattle.cell_store.specs.Displays.{levels_of}
use Rattle.cell_store.proofs.Displays.{level_there, read_there}
use Rattle.cell_store.proofs.Restoring.{left_newest, left_other}
use Rattle.cell_store.proofs.display.Display.leave.Goals as goal

pub returns-then-index-frames-clause-shown : goal.returns-then-index-frames-clause-shown
returns-then-index-frames-clause-shown c = λ current d.
    let self = c.args.self.now in
    let there = level_there c.args.frames.now d.text (levels_of self.entered.items) self.shown.items self.level d.display in
    let is = read_there self.shown.items self.level c.index.result.now there c.index.ensures in
    left_newest c.args.frames.now self.entered.items self.shown.items self.level self.torn current d (length c.args.frames.now - 1) (omega (arith, c.requires.one)) c.requires.few c.index.result.now is c.if-index-frames.true

pub returns-else-index-frames-clause-shown : goal.returns-else-index-frames-clause-shown
returns-else-index-frames-clause-shown c = λ current d.
    let self = c.args.self.now in
    let there = level_there c.args.frames.now d.text (levels_of self.entered.items) self.shown.items self.level d.display in
    let is = read_there self.shown.items self.level c.index.result.now there c.index.ensures in
    left_other c.args.frames.now self.entered.items self.shown.items self.level self.torn current d (length c.args.frames.now - 1) (omega (arith, c.requires.one)) c.requires.few c.index.result.now is c.if-index-frames.false
