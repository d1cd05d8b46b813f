use Rattle.std.proofs.Common.{ap, ◌∙◌}
use Rattle.name_scopes.proofs.Firsts.{in_front, first_in_front}
use Rattle.name_scopes.proofs.scope.Scope.has_before.Goals as goal

pub returns-in-Some : goal.returns-in-Some
returns-in-Some c = ap (λ p. in_front p c.args.position) c.in-Some.ensures ∙ first_in_front c.args.self.now c.args.name.now c.args.position

pub returns-in-None : goal.returns-in-None
returns-in-None c = ap (λ p. in_front p c.args.position) c.in-None.ensures ∙ first_in_front c.args.self.now c.args.name.now c.args.position
