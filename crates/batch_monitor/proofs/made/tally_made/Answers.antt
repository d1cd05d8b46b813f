use Rattle.std.proofs.Common.{List, ℕ, ap, ◌∙◌}
use Rattle.batch_io.specs.Supply.{Supply}
use Rattle.batch_listing.specs.Tallies.{listing_tally}
use Rattle.deck_reader.specs.Batch.{batch}
use Rattle.batch_monitor.proofs.made.tally_made.Goals as goal

pub returns-in-Ok : goal.returns-in-Ok
returns-in-Ok g c = c.in-Ok.ensures.tally ∙ ap (λ (bytes : List ℕ). listing_tally (batch bytes)) (ap (λ (s : Supply). s.left) c.new-src.ensures ∙ c.in_ok-cards.ensures)
