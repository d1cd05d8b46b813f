use Rattle.std.proofs.Common.{◌∙◌, subst}
use Rattle.token_reader.specs.Gives.{ReadsLabel}
use Rattle.token_reader.proofs.Labels.{one_more}
use Rattle.token_reader.proofs.parser.Parser.labels.Goals as goal

pub turns-preserved : goal.turns-preserved
turns-preserved c =
    let found = subst (λ label. ReadsLabel label c.turns.self.rest.now c.label.new.self.rest.now) c.in-Some.is c.in_ok-label.ensures in
    λ p. c.turns.invariant p ∙ one_more p c.turns.labels.items _ c.turns.self.rest.now _ _ c.in_ok-push.ensures.items found
