use Rattle.std.proofs.Common.{◌≡◌, ℕ, List, Option, Some, length}
use Rattle.night_merge.specs.declared.shelf.Part.{Part}
use Rattle.night_merge.specs.Supplies.{HasTexts}
use Rattle.night_merge.proofs.window.fetch_texts.Given as goal

abbrev pub invariant-loop-chain : goal.invariant-loop-chain
invariant-loop-chain g l =
    (length l.texts.items ≡ l.chain)
    × (g.L.Listings.faults l.listings ≡ g.L.Listings.faults l.initial.listings)
    × ((known : Part → Option (List ℕ)) → g.L.Listings.listings l.initial.listings ≡ Some known → g.L.Listings.listings l.listings ≡ Some known)
    × ((known : Part → Option (List ℕ)) → g.L.Listings.listings l.initial.listings ≡ Some known → HasTexts known l.fn.window.number l.fn.window.entries.now l.texts.items)
