use Rattle.std.proofs.Common.{rules, w32, FitsSigned}
use Rattle.std.proofs.lemmas.Int.{to_z-of_z}
use Rattle.stack_machine.proofs.dump.bounds_of.Goals as goal

pub returns : goal.returns
returns c =
    let lower : FitsSigned w32 c.args.dimension.now.lower = search rules in
    let upper : FitsSigned w32 c.args.dimension.now.upper = search rules in
    cc (to_z-of_z w32 c.args.dimension.now.lower lower, to_z-of_z w32 c.args.dimension.now.upper upper)
