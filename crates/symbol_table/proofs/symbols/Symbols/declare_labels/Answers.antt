use Rattle.std.proofs.Common.{◌<◌, ◌-◌, ℕ, length, sym, ap, subst, arith, slice_index_or}
use Rattle.std.specs.List.{All}
use Rattle.std.proofs.lemmas.List.Elements.{All-get_or}
use Rattle.algolw_tree.specs.declared.programs.TypedItem.{TypedItem}
use Rattle.symbol_table.specs.Parts.{item_labels}
use Rattle.symbol_table.specs.Symbols.{SymbolsView}
use Rattle.symbol_table.proofs.Numbered.{TargetBelow, labels_numbered}
use Rattle.symbol_table.proofs.symbols.Symbols.declare_labels.Goals as goal

pub declare_labels_of-requires : goal.declare_labels_of-requires
declare_labels_of-requires c =
    let inside : c.loop-index.index - 1 < length c.args.items.now = omega (arith, c.loop-index.auto.index, c.loop-index-test.true) in
    let all = labels_numbered c.args.self.now.count c.args.level c.args.first.position c.args.first.target c.args.items.now c.requires in
    let here = All-get_or (λ (i : TypedItem). All (TargetBelow c.args.self.now.count) (item_labels i)) c.args.items.now (c.loop-index.index - 1) c.index-items-index.result inside all in
    subst (λ (n : ℕ). All (TargetBelow n) (item_labels c.index-items-index.result)) (sym (ap (λ (s : SymbolsView). s.count) c.loop-index.invariant))
    (subst (λ (i : TypedItem). All (TargetBelow c.args.self.now.count) (item_labels i)) (sym c.index-items-index.is) here)
