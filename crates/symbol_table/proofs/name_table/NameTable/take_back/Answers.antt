use Rattle.std.proofs.Common.{◌≡◌, ◌<◌, ◌-◌, drop, length, sym, ap, ◌∙◌, subst, arith}
use Rattle.std.proofs.lemmas.List.{length-drop}
use Rattle.symbol_table.specs.Standings.{Names, TableView}
use Rattle.symbol_table.proofs.Declared.{dropped, same_view}
use Rattle.symbol_table.proofs.name_table.NameTable.take_back.Goals as goal

pub loop-self-preserved : goal.loop-self-preserved
loop-self-preserved c =
    let some : 0 < length c.loop-self.self.names = omega (arith, c.loop-self-test.true, c.declared.ensures.all) in
    let is : c.take_one_back.new.self.names ≡ drop 1 c.loop-self.self.names = ap (λ (t : TableView). t.names) c.take_one_back.ensures in
    let one : length c.take_one_back.new.self.names ≡ length c.loop-self.self.names - 1 = ap length is ∙ length-drop 1 c.loop-self.self.names in
    record {
      count = ap (λ (t : TableView). t.count) c.take_one_back.ensures ∙ c.loop-self.invariant.count;
      names = subst (λ (names : Names). names ≡ drop (length c.args.self.now.names - length names) c.args.self.now.names) (sym is) (dropped c.args.self.now.names c.loop-self.self.names some c.loop-self.invariant.names);
      most = omega (arith, one, c.loop-self-test.true, c.declared.ensures.all, c.loop-self.invariant.most);
    }

pub returns : goal.returns
returns c =
    let as_many : length c.args.self.now.names - length c.loop-self.self.names ≡ length c.args.self.now.names - c.args.declared = omega (arith, c.loop-self-test.false, c.declared.ensures.all, c.loop-self.invariant.most) in
    same_view c.loop-self.self (drop (length c.args.self.now.names - c.args.declared) c.args.self.now.names) c.args.self.now.count
    (c.loop-self.invariant.names ∙ ap (λ n. drop n c.args.self.now.names) as_many) c.loop-self.invariant.count
