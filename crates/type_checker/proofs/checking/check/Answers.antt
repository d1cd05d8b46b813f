use Rattle.std.proofs.Common.{sym, ◌∙◌}
use Rattle.algolw_tree.specs.Wholes.{whole_tree}
use Rattle.type_checker.proofs.Programs.{none_said, some_said}
use Rattle.type_checker.proofs.checking.check.Goals as goal

pub good_program-requires-clause-faults : goal.good_program-requires-clause-faults
good_program-requires-clause-faults c = none_said (whole_tree c.args.root) c.in_ok-found.found.faults c.in_ok-found.ensures.faults (sym c.is_empty.ensures ∙ c.if-is_empty.true)

pub returns-then-is_empty : goal.returns-then-is_empty
returns-then-is_empty c = (none_said (whole_tree c.args.root) c.in_ok-found.found.faults c.in_ok-found.ensures.faults (sym c.is_empty.ensures ∙ c.if-is_empty.true), c.in_ok-program.ensures)

pub returns : goal.returns
returns c = some_said (whole_tree c.args.root) c.in_ok-found.found.faults c.in_ok-given.given.items c.in_ok-found.ensures.faults (sym c.is_empty.ensures ∙ c.if-is_empty.false) c.in_ok-given.ensures
