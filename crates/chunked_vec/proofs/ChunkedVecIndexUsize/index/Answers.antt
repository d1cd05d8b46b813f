use Rattle.std.proofs.Common.{◌<◌, List, length, slice_index_or, ◌/◌, ◌%◌, sym, ap, ◌∙◌, subst}
use Rattle.chunked_vec.proofs.Chunked.{found}
use Rattle.chunked_vec.proofs.ChunkedVecIndexUsize.index.Goals as goal

pub index-requires : goal.index-requires
index-requires g c =
    let n = c.args.number in
    let chunks = c.self.inside.chunks in
    let there = subst (λ (xs : List _). n < length xs) (sym c.self.view_is) c.requires in
    subst (λ k. n / 4096 < k) (sym chunks.ok.0) (found chunks.items c.self.invariant.0 n there).chunk

pub index-requires-2 : goal.index-requires-2
index-requires-2 g c =
    let n = c.args.number in
    let there = subst (λ (xs : List _). n < length xs) (sym c.self.view_is) c.requires in
    let chunk = c.index.result.now in
    subst (λ k. n % 4096 < k) (sym chunk.ok.0) ((found c.self.inside.chunks.items c.self.invariant.0 n there).within chunk c.index.ensures)

pub returns : goal.returns
returns g c =
    let n = c.args.number in
    let there = subst (λ (xs : List _). n < length xs) (sym c.self.view_is) c.requires in
    let x = c.index-2.result.now in
    c.index-2.ensures
    ∙ (found c.self.inside.chunks.items c.self.invariant.0 n there).item c.index.result.now x c.index.ensures
    ∙ ap (λ (xs : List _). slice_index_or xs n x) c.self.view_is
