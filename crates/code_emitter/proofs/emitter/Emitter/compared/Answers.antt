use Rattle.std.proofs.Common.{ℕ, ◌-◌, List, ap, arith, drop, length, length-drop, length-take, ◌∙◌}
use Rattle.std.proofs.lemmas.List.{take_all}
use Rattle.std.proofs.lemmas.Result.{on_ok_weaker}
use Rattle.stack_code.specs.CodeView.{CodeView}
use Rattle.stack_code.specs.Making.{with_call}
use Rattle.code_emitter.proofs.emitter.Emitter.compared.Goals as goal

pub returns-clause-added : goal.returns-clause-added
returns-clause-added c = on_ok_weaker c.add_call.result
    (λ e. record {
      heads = c.loop-head.heads.items;
      are = c.loop-head.invariant ∙ take_all c.loop-head.head-index (drop c.args.pending c.args.self.now.pending.items) (omega (arith, ap (λ (xs : List ℕ). length (drop c.args.pending xs)) c.deref.ensures.value, length-take (length c.deref.result.now - c.args.pending) (drop c.args.pending c.deref.result.now), length-drop c.args.pending c.deref.result.now));
      added = ap (λ (code : CodeView). record c.args.self.now { code = code }) (e ∙ ap (with_call c.args.self.now.code) c.in_ok-call.ensures);
    })
    c.add_call.ensures.added
