use Rattle.std.proofs.Common.{lit<}
use Rattle.block_scopes.proofs.Standards.{short_at}
use Rattle.block_scopes.proofs.standard.add_on_no_card.Goals as goal

pub from_slice-requires : goal.from_slice-requires
from_slice-requires c = (lit< tt, short_at c.args.names.now c.loop-position.position _ c.loop-position-test.true c.requires.short)
