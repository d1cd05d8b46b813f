use Rattle.std.proofs.Common.{refl}
use Rattle.std.proofs.lemmas.List.{take_at}
use Rattle.algolw_tree.proofs.spelling.write_to.Goals as goal

pub returns : goal.returns
returns c = rw (c.copy_from_slice.ensures.after) (take_at c.args.text.now _ _ refl)
