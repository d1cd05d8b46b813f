use Rattle.std.proofs.Common.{map, ap, sym, ◌∙◌, rules}
use Rattle.std.proofs.lemmas.List.Sorted.{answers_always}
use Rattle.typed_findings.specs.ClassView.{class_view}
use Rattle.block_scopes.proofs.PlaceOrder.{sorted_by_place, by_place_map}
use Rattle.block_scopes.proofs.order.sort_classes.Goals as goal

pub returns : goal.returns
returns c =
    ap (map class_view)
    (sorted_by_place (λ class. class.place) c.args.classes.now.items c.sort_by_key.new.self.items (c.in_ok-sort_by_key.ensures.sorted (λ class. class.place) (answers_always _ _ _ (λ f a r g h. search rules)))
    (c.sort_by_key.ensures.stable (λ class. class.place) (answers_always _ _ _ (λ f a r g h. search rules))))
    ∙ sym (by_place_map class_view (λ class. class.place) c.args.classes.now.items)
