use Rattle.std.proofs.Common.{List, [], ◌∷◌, ◌++◌, length, OnErr, sym, ap, ◌∙◌, arith}
use Rattle.std.specs.declared.result.Result.{Result}
use Rattle.std.specs.declared.result.Result.TheVariants.{Ok, Err}
use Rattle.std.proofs.lemmas.List.{length-append}
use Rattle.chunked_vec.proofs.Chunked.{small, grown, kept}
use Rattle.chunked_vec.proofs.ChunkedVec.push.Goals as goal

at_err : {T E P : Type 0} (r : Result T E) → P → OnErr r P
at_err (Ok x) p = tt
at_err (Err e) p = p

pub invariant_of-self-in_err-push : goal.invariant_of-self-in_err-push
invariant_of-self-in_err-push g c =
    let room = c.in_ok-make_room.ensures.room in
    let q = kept c.make_room.new.chunks.items room.full _ c.index_mut.result.now c.push.new.self c.index_mut.ensures.value c.in_err-push.ensures.items in
    (q.0, room.all ∙ ap (λ (xs : List _). length xs) (sym q.1))

pub returns-in_err-push-clause-unchanged : goal.returns-in_err-push-clause-unchanged
returns-in_err-push-clause-unchanged g c =
    let room = c.in_ok-make_room.ensures.room in
    let q = kept c.make_room.new.chunks.items room.full _ c.index_mut.result.now c.push.new.self c.index_mut.ensures.value c.in_err-push.ensures.items in
    at_err c.from_residual-in_err-push.result (q.1 ∙ c.in_ok-make_room.ensures.same ∙ c.self.view_is)

pub invariant_of-self-2 : goal.invariant_of-self-2
invariant_of-self-2 g c =
    let room = c.in_ok-make_room.ensures.room in
    let p = c.index_mut.result.now in
    let q = grown c.make_room.new.chunks.items room.full _ room.last p c.push.new.self c.args.item c.index_mut.ensures.value c.in_ok-push.ensures.items (small _ _ room p c.index_mut.ensures.value) in
    let more = c.in-Some.ensures in
    let all = room.all in
    let long = ap (λ (xs : List _). length xs) q.1 ∙ length-append _ (c.args.item ∷ []) in
    (q.0, omega (arith, more, all, long))

pub returns-clause-items : goal.returns-clause-items
returns-clause-items g c =
    let room = c.in_ok-make_room.ensures.room in
    let p = c.index_mut.result.now in
    let q = grown c.make_room.new.chunks.items room.full _ room.last p c.push.new.self c.args.item c.index_mut.ensures.value c.in_ok-push.ensures.items (small _ _ room p c.index_mut.ensures.value) in
    q.1 ∙ ap (λ (xs : List _). xs ++ c.args.item ∷ []) (c.in_ok-make_room.ensures.same ∙ c.self.view_is)
