-- What made batches keep.
use Rattle.std.specs.Prelude.{ℕ, ◌≡◌, ◌≤◌, false}
use Rattle.deck_reader.specs.Batch.{too_large}
use Rattle.made_batches.specs.MadeBatch.{made_batch}

-- a batch of at most 2,000 made jobs isn't too large
abbrev pub MadeBatchFits : Type 0
MadeBatchFits = (seed jobs : ℕ) → jobs ≤ 2000 → too_large (made_batch seed jobs) ≡ false
