use Rattle.std.proofs.Common.{◌≡◌, None, Some, true, false, length, sym, ap, ◌∙◌, subst, arith}
use Rattle.cell_store.specs.Links.{is_below, displayed}
use Rattle.cell_store.specs.Displays.{levels_of}
use Rattle.cell_store.specs.Stores.{Store}
use Rattle.cell_store.proofs.Displays.{level_there, read_there, is_there, displayed_there, displayed_past, displayed_gone, displayed_gone_past}
use Rattle.cell_store.proofs.store.Store.display.Goals as goal

pub returns-then-level-eq0 : goal.returns-then-level-eq0
returns-then-level-eq0 c =
    let s = c.self.inside in
    let gone = subst (λ (t : Store). is_below t.current (length t.frames) ≡ false) (sym c.self.view_is) (sym c.is_there.ensures ∙ c.if-not-is_there.true) in
    subst (λ (t : Store). s.current ≡ displayed t.frames t.current c.args.level) c.self.view_is
    (sym (ap (λ i. displayed s.frames.items s.current i) c.if-level-eq0.true ∙ displayed_gone s.frames.items s.current gone))

pub returns-else-level-eq0 : goal.returns-else-level-eq0
returns-else-level-eq0 c =
    sym (displayed_gone_past c.args.self.now.frames c.args.self.now.current c.args.level (sym c.is_there.ensures ∙ c.if-not-is_there.true) c.if-level-eq0.false)

pub index-requires : goal.index-requires
index-requires c =
    let s = c.self.inside in
    let d = c.self.invariant.1 in
    let there = level_there s.frames.items d.text (levels_of s.display.entered.items) s.display.shown.items s.display.level d.display in
    omega (arith, there, s.display.shown.ok.0)

pub returns-then-from-self : goal.returns-then-from-self
returns-then-from-self c =
    let s = c.self.inside in
    let d = c.self.invariant.1 in
    let there = is_there s.current (length s.frames.items) (subst (λ (t : Store). is_below t.current (length t.frames) ≡ true) (sym c.self.view_is) (sym c.is_there.ensures ∙ c.if-not-is_there.false)) in
    let level = level_there s.frames.items d.text (levels_of s.display.entered.items) s.display.shown.items s.display.level d.display in
    let is = read_there s.display.shown.items c.from-then-from-self.result c.index.result.now (omega (arith, level)) c.index.ensures in
    subst (λ (t : Store). Some c.index.result.now.text ≡ displayed t.frames t.current c.args.level) c.self.view_is
    (sym (ap (λ i. displayed s.frames.items s.current i) (sym c.from-then-from-self.ensures) ∙ displayed_there s.frames.items s.current d.text (levels_of s.display.entered.items) s.display.shown.items s.display.level d.display d.runs there c.from-then-from-self.result c.index.result.now (omega arith) is))

pub returns-else-from-self : goal.returns-else-from-self
returns-else-from-self c =
    let s = c.self.inside in
    let d = c.self.invariant.1 in
    let there = is_there s.current (length s.frames.items) (subst (λ (t : Store). is_below t.current (length t.frames) ≡ true) (sym c.self.view_is) (sym c.is_there.ensures ∙ c.if-not-is_there.false)) in
    subst (λ (t : Store). None ≡ displayed t.frames t.current c.args.level) c.self.view_is
    (sym (displayed_past s.frames.items s.current d.text (levels_of s.display.entered.items) s.display.shown.items s.display.level d.display d.runs there c.args.level (omega arith)))
