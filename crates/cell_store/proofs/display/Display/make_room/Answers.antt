use Rattle.std.proofs.Common.{◌≡◌, ◌≤◌, ℕ, List, length, take, subst, arith}
use Rattle.cell_store.specs.declared.display.Entering.{Entering}
use Rattle.cell_store.specs.declared.display.Shown.{Shown}
use Rattle.cell_store.proofs.Restoring.{wider_displayed}
use Rattle.cell_store.proofs.display.Display.make_room.Goals as goal

pub returns-clause-shown : goal.returns-clause-shown
returns-clause-shown c = λ current d.
    let self = c.args.self.now in
    let more = c.fill_up.new.items.items in
    let wider = c.fill_up-2.new.items.items in
    let items = c.in_ok-reserve_exact.ensures.items in
    let kept = subst (λ (xs : List Entering). take (length xs) more ≡ xs) items c.fill_up.ensures.kept in
    let kept_shown = subst (λ (xs : List Shown). take (length xs) wider ≡ xs) c.in_ok-reserve_exact-2.ensures.items c.fill_up-2.ensures.kept in
    let long = subst (λ (xs : List Entering). length xs ≤ length more) items c.fill_up.ensures.long.1 in
    wider_displayed c.args.frames.now current self.entered.items more self.shown.items wider self.level self.torn kept kept_shown long d
