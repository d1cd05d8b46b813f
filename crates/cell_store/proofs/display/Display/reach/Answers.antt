use Rattle.std.proofs.Common.{◌≡◌, ◌<◌, ℕ, List, Option, None, length, sym, ap, ◌∙◌, subst, arith}
use Rattle.cell_store.specs.declared.display.Shown.{Shown}
use Rattle.cell_store.specs.Displays.{HasText, IsDisplay, levels_of}
use Rattle.cell_store.proofs.Displays.{reached, of_program, none_stands, level_there}
use Rattle.cell_store.proofs.display.Display.reach.Goals as goal

pub returns-then-is_none-clause-shown : goal.returns-then-is_none-clause-shown
returns-then-is_none-clause-shown c =
    let self = c.args.self.now in
    let d = c.requires.shown in
    none_stands c.args.frames.now (levels_of self.entered.items) self.shown.items c.args.text c.if-is_none.ensures (of_program c.args.frames.now d.0 (levels_of self.entered.items) self.shown.items self.level d.1)

pub shows-requires : goal.shows-requires
shows-requires c =
    let self = c.args.self.now in
    let d = c.requires.shown in
    subst (λ (xs : List Shown). self.level < length xs) (sym c.deref-2.ensures.value) (level_there c.args.frames.now d.0 (levels_of self.entered.items) self.shown.items self.level d.1)

pub returns-else-not-shows-clause-shown : goal.returns-else-not-shows-clause-shown
returns-else-not-shows-clause-shown c =
    let self = c.args.self.now in
    let d = c.requires.shown in
    reached c.args.frames.now d.0 (levels_of self.entered.items) self.shown.items self.level d.1 c.level_of-level.result c.args.text c.requires.there (omega (arith, c.requires.few))
    (subst (λ (xs : List Shown). HasText xs self.level c.level_of-level.result c.args.text) c.deref-2.ensures.value (c.shows.ensures.0 c.if-not-shows.false))
