use Rattle.std.proofs.Common.{◌≡◌, inl, inr, ℕ, suc, ◌+◌, ◌<◌, ◌≤◌, List, ◌∷◌, [], ◌++◌, Option, Some, None, length, add-one, refl, sym, ap, ◌∙◌, subst, arith}
use Rattle.std.specs.Prelude.{slice_get, slice_set}
use Rattle.std.proofs.lemmas.List.{length-map, map-set}
use Rattle.cell_store.specs.declared.display.Shown.{Shown}
use Rattle.cell_store.specs.declared.display.Entering.{Entering}
use Rattle.cell_store.specs.Displays.{IsBelow, IsDisplay, Restores, ends, Displayed, levels_of}
use Rattle.cell_store.proofs.Displays.{display_low, read_there}
use Rattle.cell_store.proofs.Restoring.{entered_restores, newest_displayed}
use Rattle.cell_store.proofs.display.Display.enter.Goals as goal

pub overflow_add-level : goal.overflow_add-level
overflow_add-level c =
    let self = c.reach-level.new.self in
    let low = display_low c.args.frames.now c.args.frame.now.link (levels_of self.entered.items) self.shown.items c.reach-level.result c.reach-level.ensures.shown in
    omega (arith, low, c.requires.few)

pub index-requires : goal.index-requires
index-requires c =
    let self = c.reach-level.new.self in
    let low = display_low c.args.frames.now c.args.frame.now.link (levels_of self.entered.items) self.shown.items c.reach-level.result c.reach-level.ensures.shown in
    omega (arith, low, c.requires.places, c.reach-level.ensures.places, self.shown.ok.0)

pub index_mut-requires-2 : goal.index_mut-requires-2
index_mut-requires-2 c =
    let self = c.reach-level.new.self in
    let low = display_low c.args.frames.now c.args.frame.now.link (levels_of self.entered.items) self.shown.items c.reach-level.result c.reach-level.ensures.shown in
    omega (arith, low, c.requires.places, c.reach-level.ensures.places, self.shown.ok.0)

-- what is kept gives the display from before
restores : (c : goal.After-self-3-1) → Restores (c.args.frames.now ++ c.args.frame.now ∷ []) (slice_set c.args.self.now.entered.items (length c.args.frames.now) (record { level = c.reach-level.result + 1; before = c.args.self.now.level; replaced = c.index.result.now }))
    c.reach-level.new.self.torn (Some (length c.args.frames.now)) (slice_set c.reach-level.new.self.shown.items (c.reach-level.result + 1) (record { text = length c.args.frames.now; start = c.args.frame.now.start })) (c.reach-level.result + 1)
restores c =
    let old = c.args.self.now in
    let self = c.reach-level.new.self in
    let frames = c.args.frames.now in
    let f = c.args.frame.now in
    let at : ℕ = c.reach-level.result + 1 in
    let x : Shown = c.index.result.now in
    let new : Shown = record { text = length frames; start = f.start } in
    let low = display_low frames f.link (levels_of self.entered.items) self.shown.items c.reach-level.result c.reach-level.ensures.shown in
    let is : slice_get self.shown.items at ≡ Some x = read_there self.shown.items at x (omega (arith, low, c.requires.places, c.reach-level.ensures.places)) c.index.ensures in
    elim c.reach-level.ensures.torn [
      | inl same ↦
          let shown : self.shown.items ≡ old.shown.items = ap (λ v. v.items) same.0 in
          subst (λ (xs : List Shown). Restores (frames ++ f ∷ []) (slice_set old.entered.items (length frames) (record { level = at; before = old.level; replaced = x })) self.torn (Some (length frames)) (slice_set xs at new) at) (sym shown)
          (entered_restores frames f old.entered.items old.shown.items old.level old.torn self.torn at x new c.requires.stands c.requires.entered (ap (λ xs. slice_get xs at) (sym shown) ∙ is)
          (λ t below torn_below. subst (λ (n : ℕ). IsBelow t n) (sym same.1) torn_below))
      | inr all ↦ ends all
    ]

pub returns-clause-shown : goal.returns-clause-shown
returns-clause-shown c =
    let old = c.args.self.now in
    let self = c.reach-level.new.self in
    let frames = c.args.frames.now in
    let f = c.args.frame.now in
    let same : self.entered.items ≡ old.entered.items = ap (λ v. v.items) c.reach-level.ensures.entered in
    let d : IsDisplay frames f.link (levels_of old.entered.items) self.shown.items c.reach-level.result = subst (λ (es : List Entering). IsDisplay frames f.link (levels_of es) self.shown.items c.reach-level.result) same c.reach-level.ensures.shown in
    let low = display_low frames f.link (levels_of old.entered.items) self.shown.items c.reach-level.result d in
    subst (λ (es : List Entering). Displayed (frames ++ f ∷ []) (Some (length frames)) (slice_set es (length frames) (record { level = c.reach-level.result + 1; before = old.level; replaced = c.index.result.now })) (slice_set self.shown.items (c.reach-level.result + 1) (record { text = length frames; start = f.start })) (c.reach-level.result + 1) self.torn) (sym same)
    (newest_displayed frames f old.entered.items self.shown.items c.reach-level.result old.level self.torn c.index.result.now c.requires.stands.display.rising c.requires.entered d (omega (arith, low, c.requires.places, c.reach-level.ensures.places)) (restores c))
