use Rattle.symbol_table.proofs.Begun.{standard_more}
use Rattle.symbol_table.proofs.name_table.standard_standings.Goals as goal

pub loop-standard-preserved : goal.loop-standard-preserved
loop-standard-preserved c = standard_more c.args.names.now c.loop-standard.standard-index _ c.loop-standard.standings.items _ c.loop-standard-test.true c.in_ok-push.ensures.items c.loop-standard.invariant
