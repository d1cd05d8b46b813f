use Rattle.std.proofs.Common.{Bool, cond, Option, Some, None, sym, ap, refl, ◌∙◌}
use Rattle.algolw_tree.specs.Tree as Tree
use Rattle.algolw_tree.specs.View.{kind_tree}
use Rattle.algolw_tree.proofs.Rows.{block_at}
use Rattle.procedure_library.specs.Trees.{if_library}
use Rattle.procedure_library.proofs.Trees.{not_library}
use Rattle.procedure_library.proofs.composing.as_library.Goals as goal

pub returns-in-Block : goal.returns-in-Block
returns-in-Block c =
    let p = c.args.program in
    c.library_at.ensures ∙ ap (λ (k : Tree.Kind). if_library (Tree.At p.place p.first k)) (sym (block_at _ c.in-Block.block _ c.in-Block.is refl))

pub returns : goal.returns
returns c =
    let p = c.args.program in
    let x : Tree.Phrase = Tree.At p.place p.first (kind_tree p.kind) in
    sym (ap (λ (b : Bool). cond b (Some x) None) (not_library p.kind c.in_default.not-Block))
