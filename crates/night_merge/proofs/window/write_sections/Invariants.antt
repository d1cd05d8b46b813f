use Rattle.std.proofs.Common.{◌≡◌, ℕ, ◌+◌, List, drop, length}
use Rattle.night_merge.specs.Entries.{AreBelow}
use Rattle.night_merge.specs.Joining.{joined}
use Rattle.night_merge.specs.Supplies.{AreEnough, HasRests}
use Rattle.night_merge.proofs.Supplying.{StillJoining}
use Rattle.night_merge.proofs.window.write_sections.Given as goal

abbrev pub invariant-loop-at : goal.invariant-loop-at
invariant-loop-at g l =
    (length l.taken.items ≡ length l.rests)
    × (g.K.Sink.faults l.sink ≡ g.K.Sink.faults l.initial.sink)
    × ((supply : ℕ → List (List ℕ)) → HasRests supply l.rests → AreBelow (length l.rests) l.fn.window.entries.now → AreEnough (length l.rests) supply l.fn.window.entries.now
    → StillJoining l.rests l.taken.items (drop l.at l.fn.window.entries.now) (l.fn.window.first + l.at) (g.K.Sink.written l.initial.sink) (g.K.Sink.written l.sink) (joined l.fn.window.first supply l.fn.window.entries.now))
