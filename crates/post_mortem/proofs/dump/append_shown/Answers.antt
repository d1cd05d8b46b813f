use Rattle.post_mortem.proofs.Cut.{both, four}
use Rattle.post_mortem.proofs.dump.append_shown.Goals as goal

pub returns-in-Simple : goal.returns-in-Simple
returns-in-Simple c = rw c.in-Simple.is (both _ _ _ _ _ c.append-in-Simple.ensures c.append_value.ensures)

pub returns-in-Record : goal.returns-in-Record
returns-in-Record c =
    let number = rw c.from.ensures at c.append_number.ensures in
    rw c.in-Record.is (four _ _ _ _ _ _ _ _ _ c.append-in-Record.ensures c.append_name.ensures c.append-in-Record-2.ensures number)
