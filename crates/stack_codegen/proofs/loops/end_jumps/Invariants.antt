use Rattle.std.proofs.Common.{◌≡◌, ◌≤◌, drop, length, take}
use Rattle.stack_code.specs.declared.instructions.Instr.TheVariants as held
use Rattle.code_emitter.specs.Forms.{all_replaced}
use Rattle.stack_codegen.proofs.loops.end_jumps.Given as goal

abbrev pub invariant-loop-emitter : goal.invariant-loop-emitter
invariant-loop-emitter l = record {
  ended : l.emitter ≡ record (all_replaced l.initial.emitter (drop (length l.emitter.pending.items) l.initial.emitter.pending.items) (held.Jump l.behind)) { pending = l.emitter.pending };
  pending : l.emitter.pending.items ≡ take (length l.emitter.pending.items) l.initial.emitter.pending.items;
  least : l.pending ≤ length l.emitter.pending.items;
}

abbrev pub decreases-loop-emitter : goal.decreases-loop-emitter
decreases-loop-emitter l = length l.emitter.pending.items
