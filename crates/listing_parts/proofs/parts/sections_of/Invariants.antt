use Rattle.std.proofs.Common.{ℕ, List, map, length}
use Rattle.listing_parts.specs.Lines.{IsUpward}
use Rattle.listing_parts.specs.Sections.{AreSections}
use Rattle.listing_parts.proofs.Stacks.{StillSections}
use Rattle.listing_parts.proofs.parts.sections_of.Given as goal

abbrev pub invariant-loop-rest : goal.invariant-loop-rest
invariant-loop-rest l =
    (lines : List (List ℕ)) (sections : List (List (List ℕ))) → IsUpward l.fn.text lines → AreSections lines sections
    → StillSections sections l.rest (map (λ s. s.now) l.sections.items)

abbrev pub decreases-loop-rest : goal.decreases-loop-rest
decreases-loop-rest l = length l.rest
