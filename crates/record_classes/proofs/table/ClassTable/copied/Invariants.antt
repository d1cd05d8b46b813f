use Rattle.std.proofs.Common.{◌≡◌, [], take}
use Rattle.record_classes.proofs.table.ClassTable.copied.Given as goal

abbrev pub invariant-loop-class : goal.invariant-loop-class
invariant-loop-class l = l.table ≡ record { classes = take l.class-index l.class-items; sets = [] }

abbrev pub invariant-loop-set : goal.invariant-loop-set
invariant-loop-set l = l.table ≡ record { classes = l.fn.self.classes; sets = take l.set-index l.set-items }
