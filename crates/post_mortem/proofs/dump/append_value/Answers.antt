use Rattle.post_mortem.proofs.Cut.{both}
use Rattle.post_mortem.proofs.dump.append_value.Goals as goal

pub returns-in-Bits : goal.returns-in-Bits
returns-in-Bits c = rw c.in-Bits.is (both _ _ _ _ _ c.append-in-Bits.ensures (rw c.bits_text.ensures at c.append-in-Bits-2.ensures))
