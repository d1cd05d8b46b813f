use Rattle.std.proofs.Common.{ap, ◌∙◌}
use Rattle.stack_codegen.proofs.ProcedureBodies.{head_fits, named_is, opens, procedure_there, result_is}
use Rattle.stack_codegen.proofs.blocks.open_procedure.Goals as goal

pub add_procedure-requires : goal.add_procedure-requires
add_procedure-requires c = head_fits c.args.emitter.now c.args.procedure.now _ c.requires.ready (ap (λ x. x.0) (named_is c.args.procedure.now)) (result_is c.args.procedure.now) (c.in_ok-formals.ensures ∙ c.requires.formals)

pub append-requires : goal.append-requires
append-requires c = procedure_there c.args.emitter.now c.place.new.self c.add_procedure.new.self _ c.in_ok-head.head c.in_ok-head.ensures.number c.in_ok-head.ensures.added c.in_ok-begin.ensures.rest

pub returns : goal.returns
returns c = opens c.args.emitter.now c.place.new.self c.append.new.self c.add_procedure.new.self c.args.here c.args.target c.args.procedure.now _ c.in_ok-head.head c.in_ok-begin.begin (ap (λ x. x.0) (named_is c.args.procedure.now)) (result_is c.args.procedure.now) (c.in_ok-formals.ensures ∙ c.requires.formals) c.in_ok-head.ensures.number c.in_ok-head.ensures.added c.in_ok-begin.ensures.number c.in_ok-begin.ensures.placed c.in_ok-begin.ensures.rest c.in_ok-append.ensures.appended
