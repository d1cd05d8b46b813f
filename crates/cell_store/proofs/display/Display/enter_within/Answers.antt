use Rattle.std.proofs.Common.{◌≡◌, ℕ, ◌+◌, ◌-◌, ◌<◌, ◌≤◌, List, ◌∷◌, [], ◌++◌, Option, Some, length, sym, ap, ◌∙◌, subst, arith}
use Rattle.std.specs.Prelude.{slice_get}
use Rattle.cell_store.specs.declared.display.Shown.{Shown}
use Rattle.cell_store.specs.Displays.{IsDisplay, Standing, levels_of}
use Rattle.cell_store.proofs.Displays.{display_low, read_there}
use Rattle.cell_store.proofs.Restoring.{Round, round_there, entered_restores, newest_displayed}
use Rattle.cell_store.proofs.display.Display.enter_within.Goals as goal

pub overflow_sub-level : goal.overflow_sub-level
overflow_sub-level c =
    let self = c.args.self.now in
    (round_there c.args.frames.now c.args._text self.entered.items self.shown.items self.level self.torn c.args.links c.args.frame.now.link c.requires.stands c.requires.way c.requires.link).less

pub overflow_add-level : goal.overflow_add-level
overflow_add-level c =
    let self = c.args.self.now in
    let round = round_there c.args.frames.now c.args._text self.entered.items self.shown.items self.level self.torn c.args.links c.args.frame.now.link c.requires.stands c.requires.way c.requires.link in
    let low = display_low c.args.frames.now c.args.frame.now.link (levels_of self.entered.items) self.shown.items (self.level - c.args.links) round.display in
    omega (arith, low, c.requires.few)

pub index-requires : goal.index-requires
index-requires c =
    let self = c.args.self.now in
    let round = round_there c.args.frames.now c.args._text self.entered.items self.shown.items self.level self.torn c.args.links c.args.frame.now.link c.requires.stands c.requires.way c.requires.link in
    let low = display_low c.args.frames.now c.args.frame.now.link (levels_of self.entered.items) self.shown.items (self.level - c.args.links) round.display in
    omega (arith, low, c.requires.places, self.shown.ok.0)

pub index_mut-requires-2 : goal.index_mut-requires-2
index_mut-requires-2 c =
    let self = c.args.self.now in
    let round = round_there c.args.frames.now c.args._text self.entered.items self.shown.items self.level self.torn c.args.links c.args.frame.now.link c.requires.stands c.requires.way c.requires.link in
    let low = display_low c.args.frames.now c.args.frame.now.link (levels_of self.entered.items) self.shown.items (self.level - c.args.links) round.display in
    omega (arith, low, c.requires.places, self.shown.ok.0)

pub returns-clause-shown : goal.returns-clause-shown
returns-clause-shown c =
    let self = c.args.self.now in
    let frames = c.args.frames.now in
    let f = c.args.frame.now in
    let d = c.requires.stands in
    let x : Shown = c.index.result.now in
    let at : ℕ = self.level - c.args.links + 1 in
    let round = round_there frames c.args._text self.entered.items self.shown.items self.level self.torn c.args.links f.link d c.requires.way c.requires.link in
    let low = display_low frames f.link (levels_of self.entered.items) self.shown.items (self.level - c.args.links) round.display in
    let is : slice_get self.shown.items at ≡ Some x = read_there self.shown.items at x (omega (arith, low, c.requires.places)) c.index.ensures in
    let s : Standing frames self.entered.items self.shown.items self.level self.torn = record { text = d.text; display = d.display; restores = d.restores } in
    newest_displayed frames f self.entered.items self.shown.items (self.level - c.args.links) self.level self.torn x d.display.rising c.requires.entered round.display (omega (arith, low, c.requires.places))
    (entered_restores frames f self.entered.items self.shown.items self.level self.torn self.torn at x (record { text = length frames; start = f.start }) s c.requires.entered is (λ t below torn_below. torn_below))
