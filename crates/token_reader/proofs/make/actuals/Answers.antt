use Rattle.std.proofs.Common.{ap}
use Rattle.algolw_tree.specs.Tree.{OfActuals}
use Rattle.algolw_tree.proofs.Rows.{vec_actuals}
use Rattle.token_reader.proofs.make.actuals.Goals as goal

pub returns : goal.returns
returns c = ap (OfActuals c.args.place) (vec_actuals c.args.actuals)
