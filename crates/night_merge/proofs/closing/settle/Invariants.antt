use Rattle.std.proofs.Common.{◌≡◌, ℕ, ◌++◌, ◌-◌, ◌%◌, ◌<◌, List, codes, length}
use Rattle.night_merge.specs.Closing.{HasOwn, IsLower}
use Rattle.night_merge.specs.Texts.{chain_lines, closing_title}
use Rattle.night_merge.proofs.Settling.{Opening, Settling}
use Rattle.night_merge.proofs.closing.settle.Given as goal

abbrev pub invariant-lines : goal.invariant-lines
invariant-lines l =
    (l.at < length l.accounts → l.at % l.fn.place.chains ≡ l.fn.place.chain)
    × ((before after : ℕ → ℕ) (stray : List ℕ) → HasOwn l.fn.place.chains l.fn.place.chain l.initial.left before → IsLower (length l.initial.left) after before
    → l.fn.closing ≡ closing_title ++ (chain_lines l.fn.place.chains l.fn.place.chain before after 0 l.accounts ++ (codes "STRAY CARDS " ++ stray))
    → Settling l.fn.place.chains l.fn.place.chain before after l.accounts (codes "STRAY CARDS " ++ stray) l.at l.rest l.initial.left l.left)
    × Opening l.fn.place.chains l.fn.place.chain l.accounts l.fn.closing l.at l.rest l.initial.left l.left

abbrev pub decreases-lines : goal.decreases-lines
decreases-lines l = length l.accounts - l.at
