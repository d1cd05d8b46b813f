use Rattle.std.proofs.Common.{◌≡◌, ◌++◌, length}
use Rattle.deck_reader.specs.Cards.{without_tabs, with_tildes}
use Rattle.deck_reader.proofs.cleaning.put_turned.Given as goal

abbrev pub invariant-loop-first : goal.invariant-loop-first
invariant-loop-first l =
    l.card.items ++ with_tildes (without_tabs l.rest) ≡ l.initial.card.items ++ with_tildes (without_tabs l.bytes)

abbrev pub decreases-loop-first : goal.decreases-loop-first
decreases-loop-first l = length l.rest
