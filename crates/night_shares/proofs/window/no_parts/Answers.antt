use Rattle.std.proofs.Common.{[], List, ℕ, get_or, ap, ◌∙◌}
use Rattle.night_shares.proofs.Windows.{none_there}
use Rattle.night_shares.proofs.window.no_parts.Goals as goal

pub returns-clause-empty : goal.returns-clause-empty
returns-clause-empty c = λ chain. ap (λ (ts : List (List ℕ)). get_or ts chain []) c.loop.invariant.1 ∙ none_there c.loop.counter chain
