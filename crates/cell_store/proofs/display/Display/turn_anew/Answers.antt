use Rattle.std.proofs.Common.{◌≡◌, ◌≤◌, ℕ, List, Option, None, Some, length, refl, sym, ap, ◌∙◌, subst, arith}
use Rattle.cell_store.specs.Displays.{IsBelow, IsDisplay, level_in, levels_of, ends}
use Rattle.cell_store.proofs.Links.{below_all}
use Rattle.cell_store.proofs.display.Display.turn_anew.Goals as goal

pub behind-self-requires : goal.behind-self-requires
behind-self-requires c = below_all c.args.text (length c.args.frames.now) 4294967295 (c.is_there.ensures.0 c.if-is_there.true) c.requires.few

pub returns-then-is_there-clause-shown : goal.returns-then-is_there-clause-shown
returns-then-is_there-clause-shown c =
    let self = c.show.new.self in
    let frames = c.args.frames.now in
    let there : IsBelow c.args.text (length frames) = c.is_there.ensures.0 c.if-is_there.true in
    let level : level_in (levels_of self.entered.items) c.args.text ≡ c.level_of-self.result =
    sym (c.level_of-self.ensures ∙ ap (λ es. level_in (levels_of es) c.args.text) c.deref.ensures.value) in
    record {
      text = c.args.text;
      display = subst (λ (l : ℕ). IsDisplay frames c.args.text (levels_of self.entered.items) self.shown.items l) level c.show.ensures.shown;
      restores = ends c.behind-self.ensures;
      runs = λ below. refl;
    }
