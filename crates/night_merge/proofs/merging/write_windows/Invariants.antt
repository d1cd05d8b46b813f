use Rattle.std.proofs.Common.{◌≡◌, ℕ, ◌*◌, ◌++◌, ◌^◌, ◌≤◌, ◌<◌, List, Option, Some, length}
use Rattle.std.specs.Io.KnownBytes.{prepend_known}
use Rattle.night_merge.specs.declared.plan.Entry.{Entry}
use Rattle.night_merge.specs.declared.shelf.Part.{Part}
use Rattle.night_merge.specs.Closing.{HasLeft}
use Rattle.night_merge.specs.Nights.{AreWindows}
use Rattle.night_merge.specs.Plan.{first_line, lines_behind}
use Rattle.night_merge.proofs.Windows.{StillWindows}
use Rattle.night_merge.proofs.merging.write_windows.Given as goal

abbrev pub invariant-loop-number : goal.invariant-loop-number
invariant-loop-number g l =
    (l.first ≤ 2000 * l.number)
    × (length l.left ≡ length l.initial.left)
    × (g.P.Source.faults l.src ≡ g.P.Source.faults l.initial.src)
    × (g.L.Listings.faults l.listings ≡ g.L.Listings.faults l.initial.listings)
    × (g.K.Sink.faults l.sink ≡ g.K.Sink.faults l.initial.sink)
    × ((known : Part → Option (List ℕ)) → g.L.Listings.listings l.initial.listings ≡ Some known → g.L.Listings.listings l.listings ≡ Some known)
    × ((windows : List (List Entry)) (stray : ℕ) (more : List ℕ) (known seen : Part → Option (List ℕ)) (rests : ℕ → ℕ → List (List ℕ)) (balances : ℕ → ℕ → ℕ) → stray < 2 ^ 64 → l.fn.line ≡ first_line 1 windows stray
    → prepend_known l.initial.plan (g.P.Source.left l.initial.src) ≡ Some (lines_behind 1 windows stray ++ more) → g.L.Listings.listings l.initial.listings ≡ Some known → HasLeft l.initial.left (balances 1)
    → AreWindows l.fn.night.chains l.fn.night.accounts.now seen rests balances 1 windows
    → StillWindows l.fn.night.chains l.fn.night.accounts.now seen known rests balances windows stray more l.number l.first l.next (prepend_known l.plan (g.P.Source.left l.src)) l.left
    (g.K.Sink.written l.initial.sink) (g.K.Sink.written l.sink))
