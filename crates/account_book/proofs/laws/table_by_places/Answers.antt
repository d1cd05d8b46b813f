use Rattle.account_book.proofs.Tables.{table_holds}
use Rattle.account_book.proofs.laws.table_by_places.Goals as goal

pub returns : goal.returns
returns c = table_holds
