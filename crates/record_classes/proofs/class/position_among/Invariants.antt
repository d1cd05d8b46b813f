use Rattle.std.proofs.Common.{◌≡◌, ◌+◌, drop}
use Rattle.std.specs.Option.{option_map}
use Rattle.record_classes.specs.Classes.{position_of}
use Rattle.record_classes.proofs.class.position_among.Given as goal

abbrev pub invariant-loop-position : goal.invariant-loop-position
invariant-loop-position l = option_map (λ n. l.position + n) (position_of (drop l.position l.fields) l.field) ≡ position_of l.fields l.field
