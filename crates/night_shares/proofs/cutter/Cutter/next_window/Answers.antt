use Rattle.std.proofs.Common.{[], ℕ, ◌+◌, subst}
use Rattle.night_shares.specs.Held.{IsWindow}
use Rattle.night_shares.proofs.cutter.Cutter.next_window.Goals as goal

pub returns-clause-ok : goal.returns-clause-ok
returns-clause-ok g c = λ libraries number jobs is. (
  subst (λ (n : ℕ). IsWindow c.args.self.now.chains libraries (n + 1) [] c.in_ok-self.field-0) is.number_is (c.in_ok-self.ensures.window libraries),
  c.in_ok-file.ensures.ok c.args.self.now.chains number libraries jobs is,
)
