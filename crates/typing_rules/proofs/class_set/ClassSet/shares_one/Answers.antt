use Rattle.std.proofs.Common.{sym, ◌∙◌, rules}
use Rattle.typing_rules.proofs.Sets.{left_rises, share_less, share_greater, share_none}
use Rattle.typing_rules.proofs.class_set.ClassSet.shares_one.Goals as goal

pub loop-classes-preserved-in-Less : goal.loop-classes-preserved-in-Less
loop-classes-preserved-in-Less c = record {
  same = share_less c.loop-classes.classes.now c.loop-classes.others.now _ (search rules) (search rules) (sym c.cmp.ensures ∙ c.in-Less.is) c.loop-classes.invariant.others_rising ∙ c.loop-classes.invariant.same;
  rising = left_rises c.loop-classes.classes.now (search rules) c.loop-classes.invariant.rising;
  others_rising = c.loop-classes.invariant.others_rising;
}

pub loop-classes-preserved : goal.loop-classes-preserved
loop-classes-preserved c = record {
  same = share_greater c.loop-classes.classes.now c.loop-classes.others.now _ (search rules) (search rules) (sym c.cmp.ensures ∙ c.in-Greater.is) c.loop-classes.invariant.rising ∙ c.loop-classes.invariant.same;
  rising = c.loop-classes.invariant.rising;
  others_rising = left_rises c.loop-classes.others.now (search rules) c.loop-classes.invariant.others_rising;
}

pub returns-in_default-2 : goal.returns-in_default-2
returns-in_default-2 c = sym (share_none c.loop-classes.classes.now c.loop-classes.others.now (search rules)) ∙ c.loop-classes.invariant.same
