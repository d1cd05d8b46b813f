use Rattle.std.proofs.Common.{◌≡◌, ℕ, ◌<◌, List, Option, length}
use Rattle.night_merge.specs.declared.shelf.Part.{Part}
use Rattle.night_merge.specs.Closing.{HasLeft}
use Rattle.night_merge.specs.Joining.{IsWindow}
use Rattle.night_merge.specs.Parts.{part_at}
use Rattle.night_merge.specs.Supplies.{HasCounts, HasRests, HasTexts}
use Rattle.night_merge.proofs.Chainwise.{UpTo}
use Rattle.night_merge.proofs.window.rests_by_chain.Given as goal

abbrev pub invariant-loop-chain : goal.invariant-loop-chain
invariant-loop-chain l =
    (length l.rests.items ≡ l.chain)
    × ((known : Part → Option (List ℕ)) (rests : ℕ → List (List ℕ)) (before after : ℕ → ℕ) → HasTexts known l.fn.window.number l.fn.window.entries.now l.texts
    → HasLeft l.initial.left before → IsWindow l.fn.night.chains l.fn.night.accounts.now known l.fn.window.number l.fn.window.entries.now rests before after
    → HasRests rests l.rests.items × UpTo l.fn.night.chains l.chain before after l.left)
    × ((known seen : Part → Option (List ℕ)) (rests : ℕ → List (List ℕ)) (before after : ℕ → ℕ) → HasTexts known l.fn.window.number l.fn.window.entries.now l.texts
    → HasLeft l.initial.left before → IsWindow l.fn.night.chains l.fn.night.accounts.now seen l.fn.window.number l.fn.window.entries.now rests before after
    → ((k : ℕ) → k < l.chain → seen (part_at k l.fn.window.number) ≡ known (part_at k l.fn.window.number)) → UpTo l.fn.night.chains l.chain before after l.left)
    × HasCounts l.fn.window.entries.now l.rests.items
