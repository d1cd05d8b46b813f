use Rattle.stack_codegen.proofs.NamesAlone.{hand_on_done, none_marked}
use Rattle.stack_codegen.proofs.actuals.hand_on.Goals as goal

pub returns : goal.returns
returns c = none_marked c.alone.result c.alone.ensures.none c.alone.ensures.appended (hand_on_done c.args.here c.args.name c.standing-standing.result c.requires.fits c.requires.known c.standing-standing.ensures c.in_ok-hand_on.ensures)
