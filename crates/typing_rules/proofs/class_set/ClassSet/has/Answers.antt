use Rattle.std.proofs.Common.{◌∙◌}
use Rattle.typing_rules.proofs.Sets.{has-any}
use Rattle.typing_rules.proofs.class_set.ClassSet.has.Goals as goal

pub returns : goal.returns
returns c = c.contains.ensures.value ∙ has-any c.args.self.places.now.now c.args.class
