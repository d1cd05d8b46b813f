use Rattle.post_mortem.proofs.Cut.{both, three, four}
use Rattle.post_mortem.proofs.dump.append_entry.Goals as goal

pub returns-in-Block : goal.returns-in-Block
returns-in-Block c = rw c.in-Block.is (both _ _ _ _ _ c.append.ensures c.append_place.ensures)

pub returns-in-Call : goal.returns-in-Call
returns-in-Call c = rw c.in-Call.is (four _ _ _ _ _ _ _ _ _ c.append-in-Call.ensures c.append_name.ensures c.append-in-Call-2.ensures c.append_place-in-Call.ensures)

pub returns-in-Actual : goal.returns-in-Actual
returns-in-Actual c = rw c.in-Actual.is (both _ _ _ _ _ c.append-in-Actual.ensures c.append_place-in-Actual.ensures)

pub returns-in-For : goal.returns-in-For
returns-in-For c = rw c.in-For.is (both _ _ _ _ _ c.append-in-For.ensures c.append_place-in-For.ensures)

pub returns-in-Shown : goal.returns-in-Shown
returns-in-Shown c = rw c.in-Shown.is (three _ _ _ _ _ _ _ c.append-in-Shown.ensures c.append_name-in-Shown.ensures c.append_shown.ensures)
