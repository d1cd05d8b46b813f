use Rattle.std.proofs.Common.{sym, ap, ◌∙◌}
use Rattle.algolw_tree.specs.Tree as Tree
use Rattle.algolw_tree.proofs.Rows.{block_at}
use Rattle.algolw_tree.proofs.whole.Whole.of.Goals as goal

pub returns-in-Block : goal.returns-in-Block
returns-in-Block c =
    let p = c.args.phrase.now in
    c.of_block.ensures ∙ ap (λ (k : Tree.Kind). Tree.At p.place p.first k) (sym (block_at _ c.in-Block.block _ c.in-Block.is c.deref.ensures))
