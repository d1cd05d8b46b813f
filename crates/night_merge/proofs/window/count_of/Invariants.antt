use Rattle.std.proofs.Common.{◌≡◌, ◌≤◌, ◌+◌, drop}
use Rattle.night_merge.specs.Entries.{count_of}
use Rattle.night_merge.proofs.window.count_of.Given as goal

abbrev pub invariant-loop-entry : goal.invariant-loop-entry
invariant-loop-entry l = (l.count ≤ l.entry-index) × (l.count + count_of l.chain (drop l.entry-index l.entries) ≡ count_of l.chain l.entries)
