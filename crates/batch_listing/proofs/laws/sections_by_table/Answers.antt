use Rattle.batch_listing.proofs.Sections.{table_in_order}
use Rattle.batch_listing.proofs.laws.sections_by_table.Goals as goal

pub returns : goal.returns
returns c = table_in_order
