use Rattle.std.proofs.Common.{ℕ, [], sym, ap, ◌∙◌, subst}
use Rattle.std.specs.List.{All}
use Rattle.std.proofs.lemmas.Result.{IfOk-equal}
use Rattle.symbol_table.specs.Symbols.{SymbolsView}
use Rattle.symbol_table.specs.Blocks.{label_names, names_before, with_block}
use Rattle.symbol_table.proofs.Cursors.{block_declared, block_decls, block_labels}
use Rattle.symbol_table.proofs.Numbered.{Below}
use Rattle.symbol_table.proofs.symbols.Symbols.declare_block.Goals as goal

pub declare_labels-requires : goal.declare_labels-requires
declare_labels-requires c =
    let below = block_labels c.args.self.now.count c.args.self.now c.args.here c.args.target _ _ c.args.decls.now c.args.items.now c.in_ok-end.end c.in_ok-end.ensures c.requires in
    subst (λ (n : ℕ). All (Below n) (label_names c.args.here.level c.in_ok-end.end.position c.in_ok-end.end.target c.args.items.now [])) (sym (ap (λ (s : SymbolsView). s.count) c.in_ok-add_parts.ensures)) below

pub declare_decls-requires : goal.declare_decls-requires
declare_decls-requires c =
    let below = block_decls c.args.self.now.count c.args.self.now c.add_parts.new.self c.args.here c.args.target c.args.decls.now c.args.items.now c.in_ok-end.end c.in_ok-add_parts.ensures c.in_ok-end.ensures c.requires in
    let known = subst (λ (s : SymbolsView). All (Below c.args.self.now.count) (names_before s.classes c.args.here.level c.in_ok-end.end c.args.decls.now [])) (sym (c.in_ok-declare_labels.ensures ∙ ap (λ (s : SymbolsView). let t : SymbolsView = record s { names = label_names c.args.here.level c.in_ok-end.end.position c.in_ok-end.end.target c.args.items.now s.names } in t) c.in_ok-add_parts.ensures)) below in
    subst (λ (n : ℕ). All (Below n) (names_before c.declare_labels.new.self.classes c.args.here.level c.in_ok-end.end c.args.decls.now [])) (sym (ap (λ (s : SymbolsView). s.count) c.in_ok-declare_labels.ensures ∙ ap (λ (s : SymbolsView). s.count) c.in_ok-add_parts.ensures)) known

pub returns : goal.returns
returns c =
    IfOk-equal c.declare_decls.result c.declare_decls.new.self _ (with_block c.args.self.now c.args.here c.args.target c.args.decls.now c.args.items.now) c.declare_decls.ensures
    (block_declared c.args.self.now c.add_parts.new.self c.declare_labels.new.self c.args.here c.args.target c.args.decls.now c.args.items.now c.in_ok-end.end c.in_ok-add_parts.ensures c.in_ok-end.ensures c.in_ok-declare_labels.ensures)
