use Rattle.std.proofs.Common.{◌≡◌, ◌<◌, ◌-◌, ◌≤◌, Some, length, sym, ap, ◌∙◌, subst, arith}
use Rattle.std.specs.Prelude.{IsSome}
use Rattle.cell_store.specs.Links.{outwards, start_at}
use Rattle.cell_store.specs.Displays.{levels_of}
use Rattle.cell_store.specs.Stores.{Store}
use Rattle.cell_store.proofs.Displays.{level_there, read_there, start_there, starts_there, within, start_found}
use Rattle.cell_store.proofs.store.Store.start_out.Goals as goal

pub overflow_sub-self-inside : goal.overflow_sub-self-inside
overflow_sub-self-inside c =
    let s = c.self.inside in
    let d = c.self.invariant.1 in
    let out = subst (λ (t : Store). IsSome (start_at t.frames (outwards t.frames t.current c.args.links))) (sym c.self.view_is) c.requires in
    within s.frames.items s.current d.text (levels_of s.display.entered.items) s.display.shown.items s.display.level d.display d.runs (starts_there s.frames.items s.current c.args.links out) c.args.links (start_there s.frames.items s.current c.args.links out)

pub index-requires : goal.index-requires
index-requires c =
    let s = c.self.inside in
    let d = c.self.invariant.1 in
    let there = level_there s.frames.items d.text (levels_of s.display.entered.items) s.display.shown.items s.display.level d.display in
    omega (arith, there, s.display.shown.ok.0)

pub returns : goal.returns
returns c =
    let s = c.self.inside in
    let d = c.self.invariant.1 in
    let out = subst (λ (t : Store). IsSome (start_at t.frames (outwards t.frames t.current c.args.links))) (sym c.self.view_is) c.requires in
    let there = starts_there s.frames.items s.current c.args.links out in
    let level = level_there s.frames.items d.text (levels_of s.display.entered.items) s.display.shown.items s.display.level d.display in
    let is = read_there s.display.shown.items (s.display.level - c.args.links) c.index.result.now (omega (arith, level)) c.index.ensures in
    subst (λ (t : Store). start_at t.frames (outwards t.frames t.current c.args.links) ≡ Some c.index.result.now.start) c.self.view_is
    (start_found s.frames.items s.current d.text (levels_of s.display.entered.items) s.display.shown.items s.display.level d.display d.runs there c.args.links c.index.result.now
    (within s.frames.items s.current d.text (levels_of s.display.entered.items) s.display.shown.items s.display.level d.display d.runs there c.args.links (start_there s.frames.items s.current c.args.links out)) is)
