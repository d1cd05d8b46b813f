-- What is written for a batch that is made.
use Rattle.std.specs.Prelude.{ℕ, List}
use Rattle.deck_reader.specs.Batch.{batch}
use Rattle.made_batches.specs.MadeBatch.{made_batch}
use Rattle.batch_summary.specs.Summary.{summary}
use Rattle.batch_listing.specs.Tallies.{listing_tally}

-- the summary of the listing of the batch of so many jobs that is made from a seed
abbrev pub made_summary : ℕ → ℕ → List ℕ
made_summary seed jobs = summary seed jobs (listing_tally (batch (made_batch seed jobs)))
