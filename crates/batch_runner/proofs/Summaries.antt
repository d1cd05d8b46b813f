-- What a listing comes to.
use Rattle.std.proofs.Common.{◌≡◌, ◌+◌, ◌++◌, length, refl, arith}
use Rattle.std.proofs.lemmas.List.{length-append}
use Rattle.deck_reader.specs.declared.batch.Batch.{Batch}
use Rattle.account_book.specs.BookView.{openings_of}
use Rattle.batch_summary.proofs.Places.{bytes_at_places}
use Rattle.batch_listing.specs.Listing.{listing_of, section, sections}
use Rattle.batch_listing.specs.Tallies.{entry, sections_tally}
use Rattle.batch_listing.specs.Texts.{heading}
use Rattle.batch_runner.proofs.Progressing.{closing_of}

-- a listing has the bytes of its heading and sections, and those of its closing lines
pub listing_bytes : (b : Batch) → (sections_tally (openings_of b.accounts) b.jobs).bytes + length (closing_of b) ≡ length (listing_of b)
listing_bytes b = omega (
  arith,
  bytes_at_places (length heading) (entry (openings_of b.accounts)) (section (openings_of b.accounts)) (λ earlier job. refl) b.jobs,
  length-append heading (sections (openings_of b.accounts) b.jobs),
  length-append (heading ++ sections (openings_of b.accounts) b.jobs) (closing_of b),
)
