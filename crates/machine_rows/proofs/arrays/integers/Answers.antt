use Rattle.std.proofs.Common.{◌≡◌, sym, ap, ◌∙◌, subst, arith, Some, length, take, drop, w32}
use Rattle.std.proofs.lemmas.Int.{to_z-of_z}
use Rattle.std.specs.Prelude.{slice_get, IsSome}
use Rattle.std.proofs.lemmas.List.{length-take-le, length-drop}
use Rattle.machine_rows.specs.Contents.{integer_in}
use Rattle.machine_rows.proofs.Ints.{get_drop, get_take, set_long, int_there, ints_further}
use Rattle.machine_rows.proofs.arrays.integers.Goals as goal

pub integer_at-requires : goal.integer_at-requires
integer_at-requires c =
    let cells = c.args.store.now.cells in
    let first = c.args.first in
    let k = c.loop-k.k in
    let long : length (take c.args.count (drop first cells)) ≡ c.args.count = length-take-le c.args.count (drop first cells) (omega (arith, length-drop first cells, c.requires.within)) in
    let there = int_there (take c.args.count (drop first cells)) k (omega (arith, long, c.loop-k-test.true)) c.requires.integers in
    subst (λ o. IsSome (integer_in o)) (get_take (drop first cells) c.args.count k c.loop-k-test.true ∙ get_drop cells first k) there

pub loop-k-preserved : goal.loop-k-preserved
loop-k-preserved c =
    let cells = c.args.store.now.cells in
    let k = c.loop-k.k in
    let same = to_z-of_z w32 c.integer_at.result (record { sfits = c.integer_at.type_inv }) in
    let is : integer_in (slice_get (drop c.args.first cells) k) ≡ Some c.integer_at.result = ap integer_in (get_drop cells c.args.first k) ∙ c.integer_at.ensures in
    record {
      long = set_long c.loop-k.numbers k _ ∙ c.loop-k.invariant.long;
      so_far = ints_further (drop c.args.first cells) k c.loop-k.numbers _ (omega (arith, c.loop-k.invariant.long, c.loop-k-test.true, c.requires.few)) (is ∙ ap (λ i. Some i) (sym same)) c.loop-k.invariant.so_far;
    }
