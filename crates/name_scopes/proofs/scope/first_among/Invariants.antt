use Rattle.std.proofs.Common.{◌≡◌, ◌+◌, drop}
use Rattle.std.specs.Option.{option_map}
use Rattle.name_scopes.specs.Firsts.{first_of, lent}
use Rattle.name_scopes.proofs.scope.first_among.Given as goal

abbrev pub invariant-loop-position : goal.invariant-loop-position
invariant-loop-position l = option_map (λ n. l.position + n) (first_of (lent (drop l.position l.names)) l.name) ≡ first_of (lent l.names) l.name
