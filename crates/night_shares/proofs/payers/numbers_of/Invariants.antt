use Rattle.std.proofs.Common.{◌≡◌, ℕ, List, take}
use Rattle.std.specs.BTreeMap.{get}
use Rattle.short_text.specs.Order.{bytes_cmp}
use Rattle.deck_reader.specs.Batch.{account_of}
use Rattle.night_shares.proofs.payers.numbers_of.Given as goal

abbrev pub invariant-loop-number : goal.invariant-loop-number
invariant-loop-number l = (name : List ℕ) → get bytes_cmp l.numbers name ≡ account_of (take l.number l.accounts.items) name
