-- What a job asks of the core of its batch.
use Rattle.deck_reader.specs.JobView.{JobView}
use Rattle.account_book.specs.Charges.{reserve}
use Rattle.account_book.specs.Places.{account_by}
use Rattle.batch_core.specs.declared.job.Claim.{Claim}

-- its reserve and its cards, on its account; on none where it has a flaw
abbrev pub claim_of_job : JobView → Claim
claim_of_job job = record { account = account_by job.flaw job.account; reserve = reserve job; cards = job.cards }
