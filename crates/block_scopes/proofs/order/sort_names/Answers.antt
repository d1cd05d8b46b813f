use Rattle.std.proofs.Common.{rules}
use Rattle.std.proofs.lemmas.List.Sorted.{answers_always}
use Rattle.block_scopes.proofs.PlaceOrder.{sorted_by_place}
use Rattle.block_scopes.proofs.order.sort_names.Goals as goal

pub returns : goal.returns
returns c =
    sorted_by_place (λ info. info.place) c.args.names.now.items c.sort_by_key.new.self.items (c.in_ok-sort_by_key.ensures.sorted (λ info. info.place) (answers_always _ _ _ (λ f a r g h. search rules)))
    (c.sort_by_key.ensures.stable (λ info. info.place) (answers_always _ _ _ (λ f a r g h. search rules)))
