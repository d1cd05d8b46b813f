use Rattle.std.proofs.Common.{◌<◌, List, length, slice_index_or, slice_set, ◌/◌, ◌%◌, refl, sym, ap, ◌∙◌, subst, length-set}
use Rattle.std.specs.Vec.{with_item}
use Rattle.chunked_vec.specs.Chunks.{items_in}
use Rattle.chunked_vec.proofs.Chunked.{found, set}
use Rattle.chunked_vec.proofs.ChunkedVecIndexMutUsize.index_mut.Goals as goal

pub index_mut-chunk-requires : goal.index_mut-chunk-requires
index_mut-chunk-requires g c =
    let n = c.args.number in
    let chunks = c.self.inside.chunks in
    let there = subst (λ (xs : List _). n < length xs) (sym c.self.view_is) c.requires in
    subst (λ k. n / 4096 < k) (sym chunks.ok.0) (found chunks.items c.self.invariant.0 n there).chunk

pub index_mut-requires : goal.index_mut-requires
index_mut-requires g c =
    let n = c.args.number in
    let there = subst (λ (xs : List _). n < length xs) (sym c.self.view_is) c.requires in
    let chunk = c.index_mut-chunk.result.now in
    subst (λ k. n % 4096 < k) (sym chunk.ok.0) ((found c.self.inside.chunks.items c.self.invariant.0 n there).within chunk c.index_mut-chunk.ensures.value)

pub invariant_of-self-lent : goal.invariant_of-self-lent
invariant_of-self-lent g c w =
    let n = c.args.number in
    let ps = c.self.inside.chunks.items in
    let there = subst (λ (xs : List _). n < length xs) (sym c.self.view_is) c.requires in
    let chunk = c.index_mut-chunk.result.now in
    let made = set ps c.self.invariant.0 n there chunk (with_item chunk (n % 4096) w) w c.index_mut-chunk.ensures.value refl in
    (made.0, c.self.invariant.1 ∙ sym (ap (λ (xs : List _). length xs) made.1 ∙ length-set (items_in ps) n w))

pub returns : goal.returns
returns g c =
    let n = c.args.number in
    let ps = c.self.inside.chunks.items in
    let there = subst (λ (xs : List _). n < length xs) (sym c.self.view_is) c.requires in
    let chunk = c.index_mut-chunk.result.now in
    let x = c.index_mut.result.now in (
      (
        refl,
        λ w. (set ps c.self.invariant.0 n there chunk (with_item chunk (n % 4096) w) w c.index_mut-chunk.ensures.value refl).1 ∙ ap (λ (xs : List _). slice_set xs n w) c.self.view_is,
      ),
      record {
        writes_back = tt;
        value = c.index_mut.ensures.value
            ∙ (found ps c.self.invariant.0 n there).item chunk x c.index_mut-chunk.ensures.value
            ∙ ap (λ (xs : List _). slice_index_or xs n x) c.self.view_is;
      },
    )
