use Rattle.std.proofs.Common.{◌≡◌, ℕ, List, take}
use Rattle.std.specs.HashMap.{get}
use Rattle.std.specs.Str.{bytes_eq}
use Rattle.record_classes.specs.Classes.{position_of}
use Rattle.record_classes.proofs.class.positions_of.Given as goal

abbrev pub invariant-loop-position : goal.invariant-loop-position
invariant-loop-position l = (name : List ℕ) → get bytes_eq l.positions name ≡ position_of (take l.position l.field-items) name
