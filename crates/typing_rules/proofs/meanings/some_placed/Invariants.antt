use Rattle.std.proofs.Common.{◌≡◌, drop, map}
use Rattle.algolw_typing.specs.Meanings as meanings
use Rattle.typing_rules.specs.MeaningView as view
use Rattle.typing_rules.proofs.meanings.some_placed.Given as goal

-- what is left of the parts decides
abbrev pub invariant-loop-part : goal.invariant-loop-part
invariant-loop-part l =
    meanings.some_placed (map view.part l.parts) ≡ meanings.some_placed (map view.part (drop l.part-index l.parts))
