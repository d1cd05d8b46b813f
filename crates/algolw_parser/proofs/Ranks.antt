-- How far a level of operators is above the primaries.
use Rattle.std.proofs.Common.{ℕ}
use Rattle.token_reader.specs.declared.operators.Level.{Level}
use Rattle.token_reader.specs.declared.operators.Level.TheVariants.{Or, And, Sum, Term, Shift}

abbrev pub rank : Level → ℕ
rank Or = 5
rank And = 4
rank Sum = 2
rank Term = 1
rank Shift = 0
