use Rattle.std.proofs.Common.{◌≡◌, ℕ, List, true, drop, length, map, reverse}
use Rattle.std.specs.List.{list_all}
use Rattle.listing_parts.specs.Sections.{begins}
use Rattle.night_merge.specs.Texts.{numbered_each}
use Rattle.night_merge.proofs.Numbers.{StillNumbered}
use Rattle.night_merge.proofs.parts.rests_of.Given as goal

abbrev pub invariant-loop-at : goal.invariant-loop-at
invariant-loop-at l =
    (length l.rests.items ≡ l.at)
    × ((rests : List (List ℕ)) → list_all (begins 32) rests ≡ true → map (λ s. s.now) l.sections ≡ reverse (numbered_each 1 rests)
    → StillNumbered rests (map (λ s. s.now) (drop l.at l.sections)) (map (λ r. r.now) l.rests.items))
