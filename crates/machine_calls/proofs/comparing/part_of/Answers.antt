use Rattle.std.proofs.Common.{ap, ◌∙◌}
use Rattle.machine_calls.specs.Fitting as fitting
use Rattle.machine_calls.proofs.comparing.part_of.Goals as goal

pub returns-in-Subarray-clause-is : goal.returns-in-Subarray-clause-is
returns-in-Subarray-clause-is c = ap (λ r. fitting.read_part c.args.code.now c.args.store.now c.args.formal r) c.in-Subarray.is ∙ c.subarray_part.ensures.is c.args.code.now c.args.formal

pub returns-in-Subarray-clause-fits : goal.returns-in-Subarray-clause-fits
returns-in-Subarray-clause-fits c = c.subarray_part.ensures.fits c.args.code.now.given c.requires.cells
