use Rattle.std.proofs.Common.{◌≡◌, ◌++◌, ◌+◌, Bool, not, false, take, drop, set, get_or, sym, ◌∙◌, subst, arith}
use mir.Val.{bool_byte}
use Rattle.std.proofs.lemmas.List.{get_or_default}
use Rattle.stack_code.specs.Table as table
use Rattle.machine_rows.proofs.Ints.{set_long}
use Rattle.machine_rows.proofs.Starred.{one_most, starred_further}
use Rattle.machine_rows.proofs.arrays.starred.Goals as goal

pub loop-k-preserved : goal.loop-k-preserved
loop-k-preserved c =
    let k = c.loop-k.k in
    let next = c.loop-k.next in
    let stars = c.args.stars.now in
    let numbers = c.args.numbers.now in
    let b : Bool = get_or stars k false in
    let here : get_or stars k b ≡ b = get_or_default stars k b false c.loop-k-test.true in
    let byte : c.from-next.result ≡ bool_byte (not b) = c.from-next.ensures in
    record {
      long = set_long c.loop-k.subscripts k c.subscript.result ∙ c.loop-k.invariant.long;
      few = omega (arith, c.loop-k.invariant.few, byte, one_most (not b));
      so_far = subst (λ n. take (k + 1) (set c.loop-k.subscripts k c.subscript.result) ++ table.starred (drop (k + 1) stars) (drop (next + n) numbers) ≡ table.starred stars numbers) (sym byte)
          (starred_further stars numbers c.loop-k.subscripts k next b c.subscript.result c.loop-k-test.true (omega (arith, c.loop-k.invariant.long, c.loop-k-test.true, c.requires)) here c.subscript.ensures c.loop-k.invariant.so_far);
    }
