use Rattle.std.proofs.Common.{ap, sym, subst, ◌∙◌}
use Rattle.std.specs.Prelude.{IfOk}
use Rattle.algolw_tree.specs.Tree as Tree
use Rattle.algolw_tree.specs.Tree.{Phrase}
use Rattle.algolw_tree.proofs.Rows.{block_at}
use Rattle.type_checker.specs.Says.{Says}
use Rattle.job_runner.proofs.Blocks.{never_other}
use Rattle.job_runner.proofs.deck.check_alone.Goals as goal

pub unreachable-requires : goal.unreachable-requires
unreachable-requires c =
    let p = c.args.phrase in
    never_other c.requires.1.0 p.place p.first p.kind c.in_default.not-Block c.requires.1.2

pub returns : goal.returns
returns c =
    let p = c.args.phrase in
    let e = c.of_block-root.ensures ∙ ap (λ (k : Tree.Kind). Tree.At p.place p.first k) (sym (block_at _ c.in-Block.block _ c.in-Block.is c.deref.ensures)) in
    subst (λ (x : Phrase). IfOk c.check.result (Says x)) e c.check.ensures
