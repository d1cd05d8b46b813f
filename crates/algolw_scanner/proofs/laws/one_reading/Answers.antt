use Rattle.algolw_scanner.proofs.One.{one_list, no_list}
use Rattle.algolw_scanner.proofs.laws.one_reading.Goals as goal

pub returns : goal.returns
returns c = record { one = one_list; none = no_list }
