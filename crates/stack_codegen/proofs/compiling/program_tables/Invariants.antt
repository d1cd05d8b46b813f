use Rattle.std.proofs.Common.{◌≡◌, take}
use Rattle.stack_codegen.proofs.compiling.program_tables.Given as goal

abbrev pub invariant-loop-place : goal.invariant-loop-place
invariant-loop-place l = l.statements.items ≡ take l.place-index l.place-items
