use Rattle.std.proofs.Common.{Some, refl, ap}
use Rattle.office.proofs.board.read.Goals as goal

pub returns-in-Some : goal.returns-in-Some
returns-in-Some g c = rw c.in-Some.is (_, refl, c.read_own.ensures.same, ap (λ t. Some t) c.read_own.ensures.tallies)
