use Rattle.std.proofs.Common.{ap, ◌∙◌}
use Rattle.symbol_table.specs.Standings.{standing_of}
use Rattle.stack_codegen.proofs.ProcedureBodies.{declared_is, named_is}
use Rattle.stack_codegen.proofs.blocks.declared_as.Goals as goal

pub returns-clause-formals : goal.returns-clause-formals
returns-clause-formals c = (declared_is c.args.emitter.now.symbols c.args.procedure.now c.in-Procedure.declared (c.in-Procedure.ensures ∙ ap (λ x. standing_of c.args.emitter.now.symbols.names x.0) (named_is c.args.procedure.now)) c.requires).0

pub returns-clause-counted : goal.returns-clause-counted
returns-clause-counted c = (declared_is c.args.emitter.now.symbols c.args.procedure.now c.in-Procedure.declared (c.in-Procedure.ensures ∙ ap (λ x. standing_of c.args.emitter.now.symbols.names x.0) (named_is c.args.procedure.now)) c.requires).1

pub unreachable-requires : goal.unreachable-requires
unreachable-requires c = c.in_default.not-Procedure c.requires.procedure (c.standing.ensures ∙ ap (λ x. standing_of c.args.emitter.now.symbols.names x.0) (named_is c.args.procedure.now) ∙ c.requires.stands)
