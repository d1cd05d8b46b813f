use Rattle.std.proofs.Common.{ℕ, ◌+◌, ◌<◌, suc, List, Option, None, length, get_or, refl, sym, subst}
use denote.Ref.{Bor}
use Rattle.algolw_typing.specs.Scopes.{Scopes}
use Rattle.name_scopes.specs.Marks.{mark_of}
use Rattle.name_scopes.specs.Nearest.{Nearest}
use Rattle.name_scopes.proofs.Looking.{Going, going_begun, going_kept, going_set}
use Rattle.declared_names.specs.KnownPaths.{behind}
use Rattle.declared_names.specs.Standards.{standard_path}
use Rattle.declared_names.proofs.Passing.{looked_for}
use Rattle.declared_names.proofs.path.KnownPath.nearest.Goals as goal
use Rattle.declared_names.proofs.path.KnownPath.nearest.Goals.{then-has_mark, else-has_mark}

pub loop-mark-init : goal.loop-mark-init
loop-mark-init c =
    let scopes = c.self.inside.scopes in
    let before = c.self.inside.nearest.each in
    let path = c.args.self.now in
    going_begun standard_path (behind scopes) path before (length path) (subst (λ (p : Scopes). Nearest standard_path (behind scopes) 64 (length p) before) c.self.view_is c.self.invariant)

pub loop-mark-preserved : goal.loop-mark-preserved
loop-mark-preserved c =
    let path = c.args.self.now in
    let before = c.self.inside.nearest.each in
    let nearest = c.loop-mark.each in
    let m = c.loop-mark.mark in
    let Next = λ (each : List (Option (Bor Scopes))). Going standard_path path (m + 1) (suc (length path)) before each in
    elim c.if-has_mark.branch [
      | then-has_mark w ↦ subst Next (sym w.each-is) (going_set standard_path path before nearest c.args.self m c.loop-mark-test.true refl c.loop-mark.invariant)
      | else-has_mark w ↦
          subst Next (sym w.each-is)
          (going_kept standard_path path before nearest m (suc (length path)) c.loop-mark.invariant
          (λ x mark kept. looked_for c.self.inside.scopes before path c.in-Some.own c.in-Some.field-0-1 (get_or nearest (mark_of x) None) x c.self.invariant c.self.view_is c.in-Some.is
          (c.has_mark.ensures w.if-has_mark.false x mark)
          kept (subst (λ (n : ℕ). n < 64) (sym mark) c.loop-mark-test.true)))
    ]
