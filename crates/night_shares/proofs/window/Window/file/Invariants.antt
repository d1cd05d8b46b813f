use Rattle.std.proofs.Common.{◌≡◌, List, ℕ}
use Rattle.std.specs.List.{flat_map, range_with_len}
use Rattle.night_shares.specs.Filing.{Files, part_filing}
use Rattle.night_shares.specs.Held.{IsWindow}
use Rattle.night_shares.specs.Jobs.{NightJob}
use Rattle.night_shares.proofs.window.Window.file.Given as goal

-- the parts of the first chains are filed
abbrev pub invariant-loop-at : goal.invariant-loop-at
invariant-loop-at g l =
    (g.D.Shelf.faults l.shelf ≡ g.D.Shelf.faults l.fn.shelf)
    × ((chains number : ℕ) (libraries : List ℕ) (jobs : List NightJob) → IsWindow chains libraries number jobs l.self
    → Files (g.D.Shelf.filed l.fn.shelf) (g.D.Shelf.filed l.shelf) (flat_map (part_filing chains libraries number jobs) (range_with_len 0 l.at)))
