use Rattle.std.proofs.Common.{ℕ, ap, ◌∙◌, arith, Option}
use Rattle.std.proofs.lemmas.Grind.{common_steps}
use Rattle.std.specs.HashMap.{get}
use Rattle.std.specs.Option.{unwrap_or}
use Rattle.std.specs.Str.{bytes_eq}
use Rattle.record_classes.proofs.FieldPositions.{positions-push}
use Rattle.record_classes.proofs.class.positions_of.Goals as goal

pub loop-position-preserved : goal.loop-position-preserved
loop-position-preserved c =
    λ name. positions-push c.deref-field-items.result.now c.loop-position.position c.field-item.result c.loop-position.positions _ c.or_insert.result.now name c.loop-position-test.true c.field-item.is c.loop-position.invariant
    (c.or_insert.ensures.value ∙ ap (λ (held : Option ℕ). unwrap_or held c.loop-position.position) (c.in_ok-positions-2.ensures.value ∙ ap (get bytes_eq c.loop-position.positions) c.new.ensures))
    (grind (arith, common_steps))
