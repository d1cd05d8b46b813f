use Rattle.std.proofs.Common.{◌≡◌, ◌-◌, List, [], ℕ}
use Rattle.std.specs.Io.KnownBytes.{Consumes}
use Rattle.deck_reader.specs.Fed.{StandsFor}
use Rattle.batch_intake.proofs.reading.read_front.Given as goal

abbrev pub invariant-loop-reader : goal.invariant-loop-reader
invariant-loop-reader g l =
    (input : List ℕ) × Consumes (g.S.Source.left l.initial.src) (g.S.Source.left l.src) input × StandsFor l.fn.given l.reader [] input
    × (g.S.Source.faults l.src ≡ g.S.Source.faults l.initial.src)

abbrev pub decreases-loop-reader : goal.decreases-loop-reader
decreases-loop-reader g l = 4194304 - l.reader.fed
