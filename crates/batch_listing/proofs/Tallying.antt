-- The tally of the sections, kept from job to job.
use Rattle.std.proofs.Common.{◌≡◌, ◌∙◌, ap, ap₂, ℕ, List, [], ◌∷◌, ◌++◌, length, map, slice_index}
use Rattle.deck_reader.specs.JobView.{JobView}
use Rattle.account_book.specs.Places.{balances_behind}
use Rattle.batch_summary.specs.declared.tally.Tally.{Tally}
use Rattle.batch_summary.specs.Tally.{tally_with}
use Rattle.batch_summary.proofs.Places.{tally_at_places}
use Rattle.batch_listing.specs.declared.verdict.Verdict.{Verdict}
use Rattle.algolw_meaning.specs.Charging.{charged}
use Rattle.batch_listing.specs.Listing.{verdict, section_with}
use Rattle.batch_listing.specs.Tallies.{entry, entry_by, entry_with, sections_tally}
use Rattle.batch_listing.specs.Texts.{heading}
use Rattle.batch_listing.proofs.Deciding.{decided_at, section_at}

-- what a section comes to by the table is what it comes to at its place
entry_at : (openings balances : List ℕ) (earlier : List JobView) (job : JobView) → balances ≡ balances_behind openings (map charged earlier)
    → entry_with (slice_index balances) job ≡ entry openings earlier job
entry_at openings balances earlier job behind =
    ap₂ (λ (decided : Verdict) (bytes : ℕ). entry_by decided job bytes) (decided_at openings balances earlier job behind)
    (ap length (section_at openings balances earlier job behind))

-- a tally with a section more is that of the sections with one more
pub tally_behind : (openings balances : List ℕ) (earlier : List JobView) (job : JobView) (text : List ℕ) (old new : Tally)
    → balances ≡ balances_behind openings (map charged earlier) → text ≡ section_with (slice_index balances) job
    → old ≡ sections_tally openings earlier → new ≡ tally_with old (entry_by (verdict (slice_index balances) job) job (length text))
    → new ≡ sections_tally openings (earlier ++ job ∷ [])
tally_behind openings balances earlier job text old new behind is_text is_old is_new =
    is_new
    ∙ ap₂ tally_with is_old (ap (λ (bytes : ℕ). entry_by (verdict (slice_index balances) job) job bytes) (ap length is_text) ∙ entry_at openings balances earlier job behind)
    ∙ tally_at_places (length heading) (entry openings) earlier job
