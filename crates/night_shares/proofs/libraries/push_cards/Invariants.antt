use Rattle.std.proofs.Common.{◌≡◌, ◌++◌, drop}
use Rattle.night_shares.specs.Lines.{text_of_lines}
use Rattle.night_shares.proofs.libraries.push_cards.Given as goal

-- the cards that are added and those to come are all
abbrev pub invariant-loop-card : goal.invariant-loop-card
invariant-loop-card l = l.text.items ++ text_of_lines (drop l.card-index l.cards) ≡ l.fn.text.items ++ text_of_lines l.cards
