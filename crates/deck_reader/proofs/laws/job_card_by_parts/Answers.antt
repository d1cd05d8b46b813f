use Rattle.deck_reader.proofs.JobCards.{job_card_by_parts}
use Rattle.deck_reader.proofs.laws.job_card_by_parts.Goals as goal

pub returns : goal.returns
returns c = job_card_by_parts
