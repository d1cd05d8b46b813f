use Rattle.std.proofs.Common.{◌≡◌, ◌∷◌, [], length, map, refl, ap, ◌∙◌, subst, arith}
use Rattle.std.proofs.lemmas.Grind.{common_steps}
use Rattle.std.specs.Prelude.{IfOk}
use Rattle.std.specs.declared.vec.Vec.{Vec}
use Rattle.std.specs.declared.alloc.Global.{Global}
use Rattle.algolw_tree.specs.declared.phrases.Actual.{Actual}
use Rattle.algolw_tree.specs.Tree.{OfActuals}
use Rattle.algolw_tree.specs.Grammar.{named_of, actuals_of}
use Rattle.algolw_tree.specs.View.{actual_tree}
use Rattle.token_reader.specs.Gives.{boxed_tree}
use Rattle.token_reader.proofs.Made.{named_applied}
use Rattle.token_reader.proofs.make.named.Goals as goal

pub returns-then-is_empty : goal.returns-then-is_empty
returns-then-is_empty c =
    let none : length c.pop.new.self.items ≡ 0 = grind (arith, common_steps, c.is_empty.ensures, c.if-is_empty.true, c.pop.new.self.ok.0) in
    let read = ap (λ (v : Vec Actual Global). named_of ((c.in-Some.short, c.args.name.1), OfActuals c.in-Some-pop.last.place (actuals_of (map actual_tree v.items)) ∷ [])) c.in-Actuals.actuals-is in
    let whole = named_applied c.args.name.0 c.in-Some.short c.args.name.1 c.args.lists.items c.pop.new.self.items c.in-Some-pop.last c.in-Some-pop.last.place c.in-Actuals.actuals c.in-Some.ensures c.in-Some-pop.ensures.items none refl c.in-Actuals.is in
    subst (λ t. IfOk c.applied.result (λ p. boxed_tree p ≡ t)) (read ∙ whole) c.applied.ensures
