use Rattle.std.proofs.Common.{◌∙◌, arith}
use Rattle.stack_code.specs.declared.instructions.Instr.TheVariants as held
use Rattle.stack_codegen.proofs.PendingJumps.{ended_more, jump_next, rest_least, taken_less}
use Rattle.stack_codegen.proofs.Steps.{put_as}
use Rattle.stack_codegen.proofs.loops.end_jumps.Goals as goal

pub replace-requires-clause-there : goal.replace-requires-clause-there
replace-requires-clause-there c =
    jump_next c.args.emitter.now c.loop-emitter.emitter c.pop.new.self c.in-Some.jump c.args.pending (held.Jump c.in_ok-behind.behind) c.loop-emitter.invariant.pending c.in-Some.ensures.items c.loop-emitter.invariant.ended (omega arith) c.requires.jumps

pub loop-emitter-preserved-in-Some : goal.loop-emitter-preserved-in-Some
loop-emitter-preserved-in-Some c = record {
  ended = put_as (record c.loop-emitter.emitter { pending = c.pop.new.self }) c.replace.new.self c.in-Some.jump (held.Jump c.in_ok-behind.behind) c.replace.ensures ∙ ended_more c.args.emitter.now c.loop-emitter.emitter c.pop.new.self c.in-Some.jump (held.Jump c.in_ok-behind.behind) c.loop-emitter.invariant.pending c.in-Some.ensures.items c.loop-emitter.invariant.ended;
  pending = taken_less c.args.emitter.now.pending.items c.loop-emitter.emitter.pending.items c.pop.new.self.items c.in-Some.jump c.loop-emitter.invariant.pending c.in-Some.ensures.items;
  least = rest_least c.loop-emitter.emitter.pending.items c.pop.new.self.items c.in-Some.jump c.args.pending c.in-Some.ensures.items (omega arith);
}
