use Rattle.std.proofs.Common.{◌<◌, ◌⊎◌, inl, inr, length, sym, ◌∙◌, rules}
use Rattle.typing_rules.proofs.Sets.{left_rises}
use Rattle.typing_rules.proofs.Unions.{within_less, within_equal, within_greater, within_end}
use Rattle.typing_rules.proofs.class_set.ClassSet.is_within.Goals as goal
use Rattle.typing_rules.proofs.class_set.ClassSet.is_within.Goals.{in_default, in_default-2}

pub returns-in-Less : goal.returns-in-Less
returns-in-Less c =
    sym (within_less c.loop-classes.classes.now c.loop-classes.others.now _ (search rules) (search rules) (sym c.cmp.ensures ∙ c.in-Less.is) c.loop-classes.invariant.others_rising)
    ∙ c.loop-classes.invariant.same

pub loop-classes-preserved-in-Equal : goal.loop-classes-preserved-in-Equal
loop-classes-preserved-in-Equal c = record {
  same = within_equal c.loop-classes.classes.now c.loop-classes.others.now _ (search rules) (search rules) (sym c.cmp.ensures ∙ c.in-Equal.is) c.loop-classes.invariant.rising ∙ c.loop-classes.invariant.same;
  rising = left_rises c.loop-classes.classes.now (search rules) c.loop-classes.invariant.rising;
  others_rising = left_rises c.loop-classes.others.now (search rules) c.loop-classes.invariant.others_rising;
}

pub loop-classes-preserved : goal.loop-classes-preserved
loop-classes-preserved c = record {
  same = within_greater c.loop-classes.classes.now c.loop-classes.others.now _ (search rules) (search rules) (sym c.cmp.ensures ∙ c.in-Greater.is) c.loop-classes.invariant.rising ∙ c.loop-classes.invariant.same;
  rising = c.loop-classes.invariant.rising;
  others_rising = left_rises c.loop-classes.others.now (search rules) c.loop-classes.invariant.others_rising;
}

pub returns : goal.returns
returns c =
    let ends : (length c.loop-classes.classes.now < 1) ⊎ (length c.loop-classes.others.now < 1) =
    elim c.if-classes-lt1.branch [ in_default w ↦ inl (search rules) | in_default-2 w ↦ inr (search rules) ] in
    c.is_empty.ensures ∙ within_end c.loop-classes.classes.now c.loop-classes.others.now ends ∙ c.loop-classes.invariant.same
