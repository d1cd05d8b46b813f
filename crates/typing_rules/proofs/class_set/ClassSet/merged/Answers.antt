use Rattle.std.proofs.Common.{◌++◌, ◌<◌, ◌⊎◌, List, inl, inr, length, ap, sym, ◌∙◌, append_assoc, rules}
use Rattle.value_ops.specs.declared.places.Place.{Place}
use Rattle.typing_rules.proofs.Sets.{left_rises}
use Rattle.typing_rules.proofs.Unions.{carried, union_less, union_equal, union_greater, union_end}
use Rattle.typing_rules.proofs.class_set.ClassSet.merged.Goals as goal
use Rattle.typing_rules.proofs.class_set.ClassSet.merged.Goals.{in_default, in_default-2}

pub loop-classes-preserved-in_ok-push-in-Less : goal.loop-classes-preserved-in_ok-push-in-Less
loop-classes-preserved-in_ok-push-in-Less c = record {
  same =
      carried c.loop-classes.all.items _ _ _ _ _ c.in_ok-push-in-Less.ensures.items
      (union_less c.loop-classes.classes.now c.loop-classes.others.now _ (search rules) (search rules) (sym c.cmp.ensures ∙ c.in-Less.is) c.loop-classes.invariant.rising c.loop-classes.invariant.others_rising)
      c.loop-classes.invariant.same;
  rising = left_rises c.loop-classes.classes.now (search rules) c.loop-classes.invariant.rising;
  others_rising = c.loop-classes.invariant.others_rising;
}

pub loop-classes-preserved-in_ok-push-in-Equal : goal.loop-classes-preserved-in_ok-push-in-Equal
loop-classes-preserved-in_ok-push-in-Equal c = record {
  same =
      carried c.loop-classes.all.items _ _ _ _ _ c.in_ok-push-in-Equal.ensures.items
      (union_equal c.loop-classes.classes.now c.loop-classes.others.now _ (search rules) (search rules) (sym c.cmp.ensures ∙ c.in-Equal.is) c.loop-classes.invariant.rising)
      c.loop-classes.invariant.same;
  rising = left_rises c.loop-classes.classes.now (search rules) c.loop-classes.invariant.rising;
  others_rising = left_rises c.loop-classes.others.now (search rules) c.loop-classes.invariant.others_rising;
}

pub loop-classes-preserved : goal.loop-classes-preserved
loop-classes-preserved c = record {
  same =
      carried c.loop-classes.all.items _ _ _ _ _ c.in_ok-push-in-Greater.ensures.items
      (union_greater c.loop-classes.classes.now c.loop-classes.others.now _ (search rules) (search rules) (sym c.cmp.ensures ∙ c.in-Greater.is) c.loop-classes.invariant.rising)
      c.loop-classes.invariant.same;
  rising = c.loop-classes.invariant.rising;
  others_rising = left_rises c.loop-classes.others.now (search rules) c.loop-classes.invariant.others_rising;
}

pub returns : goal.returns
returns c =
    let ends : (length c.loop-classes.classes.now < 1) ⊎ (length c.loop-classes.others.now < 1) =
    elim c.if-classes-lt1.branch [ in_default w ↦ inl (search rules) | in_default-2 w ↦ inr (search rules) ] in
    let all = c.loop-classes.all.items in
    c.into_bump_slice.ensures
    ∙ c.in_ok-extend_from_slice-2.ensures.items
    ∙ ap (λ (set : List Place). set ++ c.loop-classes.others.now) c.in_ok-extend_from_slice.ensures.items
    ∙ append_assoc all c.loop-classes.classes.now c.loop-classes.others.now
    ∙ ap (λ (set : List Place). all ++ set) (union_end c.loop-classes.classes.now c.loop-classes.others.now ends c.loop-classes.invariant.rising)
    ∙ c.loop-classes.invariant.same
