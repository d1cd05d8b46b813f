use Rattle.std.proofs.Common.{◌≡◌, ◌<◌, ◌∷◌, [], ◌++◌, ℕ, List, length, slice_set, sym, ap, subst, true, take, ◌+◌, ◌-◌, ◌∙◌, rules}
use denote.Ref.{Bor}
use Rattle.algolw_tree.specs.Tree.{Placed}
use Rattle.name_scopes.specs.Firsts.{FirstsOf, lent}
use Rattle.name_scopes.specs.Marks.{Marked, mark_of}
use Rattle.name_scopes.proofs.Firsts.{front_kept, lent-length, lent-push, popped}
use Rattle.name_scopes.proofs.Marking.{marked_push}
use Rattle.name_scopes.proofs.scope.Scope.declare.Goals as goal

pub note-requires : goal.note-requires
note-requires c =
    let names = c.self.inside.names.items in
    let new = c.push.new.self.items in
    let i = c.in-Ok.position in
    let at : i ≡ length names = search rules in
    let front : take i new ≡ names = front_kept names new c.args.declared i at c.in_ok-push.ensures.items in (
      subst (λ (xs : List (Bor Placed)). FirstsOf (lent xs) c.self.inside.first) (sym front) c.self.invariant.0,
      (
        at ∙ sym (lent-length names) ∙ ap (λ (xs : List (Bor Placed)). length (lent xs)) (sym front),
        lent-push names new c.args.declared c.in_ok-push.ensures.items ∙ ap (λ (xs : List (Bor Placed)). lent xs ++ c.args.declared.now ∷ []) (sym front),
      ),
    )

pub invariant_of-self-in-Err : goal.invariant_of-self-in-Err
invariant_of-self-in-Err c =
    let names = c.self.inside.names.items in
    let new = c.push.new.self.items in
    let first = c.note.new.first in
    let i = c.in-Ok.position in
    let at : i ≡ length names = search rules in
    let front : take i new ≡ names = front_kept names new c.args.declared i at c.in_ok-push.ensures.items in
    let long : length new ≡ length names + 1 = search rules in
    let less : c.pop.new.self.items ≡ take (length new - 1) new = search rules in
    let back : c.pop.new.self.items ≡ names = popped names new c.pop.new.self.items c.args.declared (length new) long c.in_ok-push.ensures.items less in (
      subst (λ (xs : List (Bor Placed)). FirstsOf (lent xs) first) (front ∙ sym back) c.in-Err.ensures.kept,
      subst (λ (xs : List (Bor Placed)). Marked (lent xs) c.self.inside.marks) (sym back) c.self.invariant.1,
    )

pub invariant_of-self-2 : goal.invariant_of-self-2
invariant_of-self-2 c =
    let names = c.self.inside.names.items in
    let before = lent names in
    let marks = c.self.inside.marks in
    let x : Placed = c.args.declared.now in
    let pushed = sym (lent-push names c.push.new.self.items c.args.declared c.in_ok-push.ensures.items) in
    let mark : c.mark_of.result ≡ mark_of x.0 = c.mark_of.ensures.value ∙ ap mark_of c.as_slice.ensures in
    let within : c.mark_of.result < length marks = search rules in
    let own = subst (λ (m : ℕ). m < length marks) mark within in (
      c.in_default-note.ensures.noted,
      subst (λ (xs : List Placed). Marked xs (slice_set marks c.mark_of.result true)) pushed
          (subst (λ (m : ℕ). Marked (before ++ x ∷ []) (slice_set marks m true)) (sym mark) (marked_push before x marks own c.self.invariant.1)),
    )
