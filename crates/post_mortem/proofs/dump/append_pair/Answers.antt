use Rattle.std.proofs.Common.{rules, w32, FitsSigned}
use Rattle.std.proofs.lemmas.Int.{to_z-of_z}
use Rattle.post_mortem.proofs.Cut.{three}
use Rattle.post_mortem.proofs.dump.append_pair.Goals as goal

pub returns : goal.returns
returns c =
    let least_fits : FitsSigned w32 c.args.pair.now.0 = search rules in
    let greatest_fits : FitsSigned w32 c.args.pair.now.1 = search rules in
    let least = rw (to_z-of_z w32 c.args.pair.now.0 least_fits) at c.append_integer.ensures in
    let greatest = rw (to_z-of_z w32 c.args.pair.now.1 greatest_fits) at c.append_integer-2.ensures in
    three _ _ _ _ _ _ _ least c.append.ensures greatest
