use Rattle.std.proofs.Common.{◌≡◌, ◌<◌, ◌≤◌, ◌-◌, ℕ, ◌+◌, List, ◌∷◌, length, take, drop, sym, ap, ◌∙◌, subst, arith}
use Rattle.std.specs.List.{All}
use Rattle.std.proofs.lemmas.List.Elements.{All-get_or}
use Rattle.std.specs.declared.vec.Vec.{Vec}
use Rattle.std.specs.declared.alloc.Global.{Global}
use Rattle.value_ops.specs.declared.places.Place.{Place}
use Rattle.value_ops.specs.declared.values.SimpleType.{SimpleType}
use Rattle.symbol_table.specs.Standings.{Names}
use Rattle.symbol_table.specs.Symbols.{SymbolsView}
use Rattle.symbol_table.specs.Blocks.{field_count, field_names, group_names}
use Rattle.symbol_table.proofs.Counting.{field_count-take}
use Rattle.symbol_table.proofs.Declaring.{last_out, more_declared, named_as}
use Rattle.symbol_table.proofs.Numbered.{TargetBelow, groups_numbered}
use Rattle.symbol_table.proofs.symbols.Symbols.declare_groups.Goals as goal

pub declare_fields-requires : goal.declare_fields-requires
declare_fields-requires c =
    let inside : c.loop-index.index - 1 < length c.args.class.now.groups.items = omega (arith, c.len-index.ensures, c.loop-index.auto.index, c.loop-index-test.true) in
    let all = groups_numbered c.args.self.now.count c.args.number 0 c.args.class.now.groups.items c.requires.known in
    let here = All-get_or (λ (g : SimpleType × Vec (ℕ × Place) Global). All (TargetBelow c.args.self.now.count) g.1.items) c.args.class.now.groups.items (c.loop-index.index - 1) c.index.result.now inside all in
    let named = subst (λ (g : SimpleType × Vec (ℕ × Place) Global). All (TargetBelow c.args.self.now.count) g.1.items) (sym c.index.ensures) here in
    subst (λ (n : ℕ). All (TargetBelow n) c.index.result.now.1.items) (sym (ap (λ (s : SymbolsView). s.count) c.loop-index.invariant.names)) named

pub loop-index-preserved : goal.loop-index-preserved
loop-index-preserved c =
    let groups : List (SimpleType × Vec (ℕ × Place) Global) = c.args.class.now.groups.items in
    let i : ℕ = c.loop-index.index in
    let g : SimpleType × Vec (ℕ × Place) Global = c.index.result.now in
    let within : i ≤ length groups = omega (arith, c.len-index.ensures, c.loop-index.auto.index) in
    let out : drop (i - 1) groups ≡ g ∷ drop i groups = last_out groups i g c.loop-index-test.true within c.index.ensures in
    let counted : field_count (take i groups) ≡ field_count (take (i - 1) groups) + length g.1.items = field_count-take groups i g c.loop-index-test.true within c.index.ensures in
    let begins : c.in_ok-next.next ≡ field_count (take (i - 1) groups) = omega (arith, counted, c.loop-index.invariant.before, c.in_ok-next.ensures.begins) in
    let ends : c.loop-index.next ≡ c.in_ok-next.next + length g.1.items = omega (arith, counted, c.loop-index.invariant.before, begins) in
    record {
      before = begins;
      names =
          named_as c.args.self.now c.declare_fields.new.self _ _
          (ap (λ (n : ℕ). field_names c.args.number n g.0 g.1.items (group_names c.args.number c.loop-index.next (drop i groups) c.args.self.now.names)) (sym c.in_ok-next.ensures.begins)
          ∙ ap (λ (n : ℕ). field_names c.args.number c.in_ok-next.next g.0 g.1.items (group_names c.args.number n (drop i groups) c.args.self.now.names)) ends
          ∙ ap (λ (xs : List (SimpleType × Vec (ℕ × Place) Global)). group_names c.args.number c.in_ok-next.next xs c.args.self.now.names) (sym out))
          (more_declared c.args.self.now c.loop-index.self c.declare_fields.new.self _ (λ (names : Names). field_names c.args.number (c.loop-index.next - length g.1.items) g.0 g.1.items names) c.in_ok-next.ensures.names c.loop-index.invariant.names);
    }
