use Rattle.std.proofs.Common.{ℕ, ◌<◌, ◌-◌, sym, ap, ◌∙◌, subst}
use Rattle.symbol_table.specs.Symbols.{SymbolsView, class_at}
use Rattle.symbol_table.specs.Blocks.{field_count}
use Rattle.symbol_table.proofs.Numbered.{class_numbered}
use Rattle.symbol_table.proofs.symbols.Symbols.declare_class.Goals as goal

pub declare_groups-requires-clause-known : goal.declare_groups-requires-clause-known
declare_groups-requires-clause-known c =
    (class_numbered c.args.self.now.count (class_at c.args.self.now.classes c.args.class.now.name.0) c.in-Some.number (c.args.end.fields - field_count c.args.class.now.groups.items) c.args.class.now (sym c.class_of.ensures ∙ c.in-Some.is) c.requires).1

pub declare-requires : goal.declare-requires
declare-requires c =
    let below = (class_numbered c.args.self.now.count (class_at c.args.self.now.classes c.args.class.now.name.0) c.in-Some.number (c.args.end.fields - field_count c.args.class.now.groups.items) c.args.class.now (sym c.class_of.ensures ∙ c.in-Some.is) c.requires).0 in
    subst (λ (n : ℕ). c.args.class.now.name.0 < n) (sym (ap (λ (s : SymbolsView). s.count) (c.self.view_is ∙ c.in_ok-declare_groups.ensures))) below
