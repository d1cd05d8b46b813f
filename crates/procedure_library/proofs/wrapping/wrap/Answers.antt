use Rattle.std.proofs.Common.{List, [], ◌∷◌, ◌++◌, map, ap, ◌∙◌}
use Rattle.algolw_tree.specs.declared.tokens.Token.{Token}
use Rattle.algolw_tree.specs.Libraries.{moved_place, moved_token}
use Rattle.procedure_library.proofs.MovedTokens.{begin, added, placed_end, placed_finish}
use Rattle.procedure_library.proofs.wrapping.wrap.Goals as goal

pub returns : goal.returns
returns c =
    let front = c.in-Some.front.now in
    let t = c.in-Some.finish.now in
    added c.args.tokens.now front c.push-3.new.program.items t c.in-Some.ensures.cases.0
    (c.in_ok-push-3.ensures
    ∙ ap (λ (ts : List Token). ts ++ placed_finish c.moved_place-place.result ∷ [])
    (c.in_ok-push-2.ensures
    ∙ ap (λ (ts : List Token). ts ++ placed_end c.moved_place-place.result ∷ [])
    (c.in_ok-push_moved.ensures
    ∙ ap (λ (ts : List Token). ts ++ map moved_token front) (c.in_ok-push.ensures ∙ ap (λ (ts : List Token). ts ++ begin ∷ []) c.in_ok-program.ensures.items)))
    ∙ ap (λ p. ((([] ++ begin ∷ []) ++ map moved_token front) ++ placed_end p ∷ []) ++ placed_finish p ∷ []) (c.moved_place-place.ensures ∙ ap moved_place c.place.ensures))
