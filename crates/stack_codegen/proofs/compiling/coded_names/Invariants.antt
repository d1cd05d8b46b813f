use Rattle.std.proofs.Common.{◌≡◌, map, take}
use Rattle.stack_codegen.specs.Programs.{coded_name}
use Rattle.stack_codegen.proofs.compiling.coded_names.Given as goal

abbrev pub invariant-loop-name : goal.invariant-loop-name
invariant-loop-name l = l.coded.items ≡ map coded_name (take l.name-index l.names)
