use Rattle.std.proofs.Common.{refl}
use Rattle.stack_codegen.proofs.ProcedureBodies.{begin_still, closes, head_still}
use Rattle.stack_codegen.proofs.blocks.close_procedure.Goals as goal

pub replace-requires-clause-there : goal.replace-requires-clause-there
replace-requires-clause-there c = begin_still c.args.emitter.now c.give_back.new.emitter c.append.new.self c.args.here c.args.kind c.args.opened.begin c.requires.begin c.in_ok-give_back.ensures c.in_ok-append.ensures.appended

pub replace-requires-clause-fits : goal.replace-requires-clause-fits
replace-requires-clause-fits c = head_still c.args.emitter.now c.give_back.new.emitter c.append.new.self c.args.here c.args.kind c.args.opened.head c.requires.head c.in_ok-give_back.ensures c.in_ok-append.ensures.appended

pub returns : goal.returns
returns c = closes c.args.emitter.now c.give_back.new.emitter c.append.new.self _ c.replace.new.self c.args.here c.args.kind c.args.opened c.in_ok-behind.behind c.in_ok-give_back.ensures c.in_ok-append.ensures.appended c.in_ok-behind.ensures c.replace.ensures refl
