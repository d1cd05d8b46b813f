use Rattle.std.proofs.Common.{◌≡◌, ◌++◌, take}
use Rattle.made_batches.specs.Decks.{filled}
use Rattle.made_batches.proofs.batch.push_filled.Given as goal

abbrev pub invariant-loop-byte : goal.invariant-loop-byte
invariant-loop-byte l = l.out.items ≡ l.initial.out.items ++ filled l.number (take l.byte-index l.text)
