use Rattle.std.proofs.Common.{◌≡◌, ◌<◌, ◌-◌, ◌≤◌, Some, length, sym, ap, ◌∙◌, subst, arith}
use Rattle.std.specs.Prelude.{IsSome}
use Rattle.cell_store.specs.Links.{outwards}
use Rattle.cell_store.specs.Displays.{levels_of}
use Rattle.cell_store.specs.Stores.{Store}
use Rattle.cell_store.proofs.Displays.{level_there, read_there, runs_there, within, text_found}
use Rattle.cell_store.proofs.store.Store.text_out.Goals as goal

pub overflow_sub-self-inside : goal.overflow_sub-self-inside
overflow_sub-self-inside c =
    let s = c.self.inside in
    let d = c.self.invariant.1 in
    let out = subst (λ (t : Store). IsSome (outwards t.frames t.current c.args.links)) (sym c.self.view_is) c.requires in
    within s.frames.items s.current d.text (levels_of s.display.entered.items) s.display.shown.items s.display.level d.display d.runs (runs_there s.frames.items s.current c.args.links (omega (arith, c.if-links-eq0.false)) out) c.args.links out

pub index-requires : goal.index-requires
index-requires c =
    let s = c.self.inside in
    let d = c.self.invariant.1 in
    let there = level_there s.frames.items d.text (levels_of s.display.entered.items) s.display.shown.items s.display.level d.display in
    omega (arith, there, s.display.shown.ok.0)

pub returns : goal.returns
returns c =
    let s = c.self.inside in
    let d = c.self.invariant.1 in
    let out = subst (λ (t : Store). IsSome (outwards t.frames t.current c.args.links)) (sym c.self.view_is) c.requires in
    let there = runs_there s.frames.items s.current c.args.links (omega (arith, c.if-links-eq0.false)) out in
    let level = level_there s.frames.items d.text (levels_of s.display.entered.items) s.display.shown.items s.display.level d.display in
    let few = c.self.invariant.0.few_frames in
    let frames = c.self.invariant.0.frames_within in
    let is = read_there s.display.shown.items (s.display.level - c.args.links) c.index.result.now (omega (arith, level)) c.index.ensures in
    subst (λ (t : Store). outwards t.frames t.current c.args.links ≡ Some c.then_some.result) c.self.view_is
    (text_found s.frames.items s.current d.text (levels_of s.display.entered.items) s.display.shown.items s.display.level d.display d.runs there c.args.links c.index.result.now
    (within s.frames.items s.current d.text (levels_of s.display.entered.items) s.display.shown.items s.display.level d.display d.runs there c.args.links out) is (omega (arith, few, frames))
    ∙ ap (λ t. Some t) (sym c.then_some.ensures))
