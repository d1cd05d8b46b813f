use Rattle.std.proofs.Common.{◌≡◌, ◌+◌, ◌-◌, ◌∷◌, [], length, ap, ◌∙◌, arith}
use Rattle.std.proofs.lemmas.List.{length-append}
use Rattle.symbol_table.specs.declared.standings.Standing.TheVariants as standing
use Rattle.symbol_table.specs.Standings.{standard_count}
use Rattle.symbol_table.proofs.Begun.{begun_more, begun_table}
use Rattle.symbol_table.proofs.name_table.NameTable.new.Goals as goal

pub loop-standings-preserved : goal.loop-standings-preserved
loop-standings-preserved c =
    let now = c.loop-standings.standings.items in
    let n : length c.push.new.self.items ≡ length now + 1 = ap length c.in_ok-push.ensures.items ∙ length-append now (standing.Unknown ∷ []) in
    record {
      many = omega (arith, n, c.loop-standings.invariant.many);
      few = omega (arith, n, c.loop-standings-test.true, c.len.ensures);
      begun = begun_more now c.push.new.self.items c.loop-standings.invariant.many c.loop-standings.invariant.begun c.in_ok-push.ensures.items;
    }

pub invariant_of-result : goal.invariant_of-result
invariant_of-result c = begun_table c.loop-standings.standings.items c.new.result.items (length c.loop-standings.standings.items - standard_count) c.new.ensures.items c.loop-standings.invariant.begun
