use Rattle.std.proofs.Common.{refl, sym, ap, ◌∙◌}
use Rattle.record_classes.specs.Classes.{set_of}
use Rattle.stack_code.proofs.Sets.{pointwise_is, same_classes, same_types}
use Rattle.stack_code.proofs.types.is_same_set.Goals as goal

pub returns : goal.returns
returns c =
    let g = c.args.code.now.given in
    c.eq.ensures ∙ pointwise_is _ (λ a b. refl) c.set_classes.result.now c.set_classes-2.result.now
    ∙ ap (λ xs. same_classes xs c.set_classes-2.result.now) c.set_classes.ensures
    ∙ ap (λ ys. same_classes (set_of g.classes c.args.one) ys) c.set_classes-2.ensures
    ∙ sym (same_types g c.requires.whole c.args.one c.args.other c.requires.one c.requires.other)
