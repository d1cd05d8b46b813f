use Rattle.std.proofs.Common.{◌≡◌, ◌++◌, drop}
use Rattle.algolw_typing.specs.Scopes as rules
use Rattle.declared_names.proofs.declarations.class_faults.Given as goal

-- what is found and what is left are all
abbrev pub invariant-loop-class : goal.invariant-loop-class
invariant-loop-class l = l.faults.items ++ rules.class_faults l.path (drop l.class-index l.classes.items) ≡ l.fn.faults.items ++ rules.class_faults l.path l.classes.items
