use Rattle.std.proofs.Common.{arith, ◌≤◌, length}
use Rattle.std.proofs.lemmas.Grind.{common_steps}
use Rattle.std.proofs.lemmas.List.{take-append-drop, drop_all}
use Rattle.batch_io.proofs.memory.MemSourceSource.read.Goals as goal

-- What was left is the piece handed out, and then what is left now. An empty piece was the end.
pub returns-clause-bytes : goal.returns-clause-bytes
returns-clause-bytes c = (
  grind (arith, common_steps, take-append-drop c.in-Some.count c.args.self.now.left),
  λ empty room.
      let at_end : length c.self.inside.bytes.items ≤ c.pass.new.self.gone = grind (arith, common_steps) in
      drop_all _ _ at_end,
)
