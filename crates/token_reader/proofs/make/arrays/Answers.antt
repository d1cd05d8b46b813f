use Rattle.std.proofs.Common.{ap}
use Rattle.algolw_tree.specs.Tree.{Array}
use Rattle.algolw_tree.specs.View.{spec_tree}
use Rattle.algolw_tree.proofs.Rows.{vec_bounds}
use Rattle.token_reader.proofs.make.arrays.Goals as goal

pub returns : goal.returns
returns c = ap (Array (spec_tree c.args.spec) c.args.names.items) (vec_bounds c.args.bounds)
