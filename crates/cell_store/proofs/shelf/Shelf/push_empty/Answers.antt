use Rattle.std.proofs.Common.{◌≡◌, ℕ, ◌+◌, ◌-◌, ◌≤◌, ◌++◌, ◌∙◌, List, replicate, ap, arith}
use Rattle.cell_store.specs.Cells.{Cell, Shelf, nothing}
use Rattle.cell_store.proofs.CellLines.{more_nothing}
use Rattle.cell_store.proofs.shelf.Shelf.push_empty.Goals as goal

pub loop-left-preserved : goal.loop-left-preserved
loop-left-preserved c =
    let old = c.args.self.now in
    let left = c.loop-left.left in
    let some = c.min-some.result in
    let known = c.loop-left.invariant in
    let within : left ≤ c.args.count = known.most in
    let few : some ≤ left = omega (arith, c.min-some.ensures) in
    let so_many : c.args.count - left + some ≡ c.args.count - (left - some) = omega (arith, within, few) in
    record {
      filled = c.push_blank.ensures
          ∙ ap (λ (s : Shelf). record s { cells = s.cells ++ replicate some nothing }) known.filled
          ∙ ap (λ (cs : List Cell). record old { cells = cs }) (more_nothing old.cells (c.args.count - left) some ∙ ap (λ (n : ℕ). old.cells ++ replicate n nothing) so_many);
      most = omega (arith, within);
    }
