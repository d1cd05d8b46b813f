use Rattle.std.proofs.Common.{◌≡◌, drop, Some, ap, ◌∙◌, arith}
use Rattle.std.specs.Prelude.{slice_get}
use Rattle.std.proofs.lemmas.List.{length-drop}
use Rattle.record_store.specs.Records.{with_field}
use Rattle.machine_rows.specs.Contents.{value_in}
use Rattle.machine_rows.proofs.Ints.{get_drop}
use Rattle.machine_rows.proofs.Filling.{next_filled}
use Rattle.machine_rows.proofs.record_rows.fill.Goals as goal

pub loop-position-preserved : goal.loop-position-preserved
loop-position-preserved c =
    let cells = c.args.store.now.cells in
    let k = c.loop-position.position in
    let is : value_in (slice_get (drop c.args.first cells) k) ≡ Some c.value_at-value.result = ap value_in (get_drop cells c.args.first k) ∙ c.value_at-value.ensures in
    c.in-Ok.ensures.set
    ∙ ap (λ rs. with_field rs c.args.id k c.value_at-value.result) c.loop-position.invariant
    ∙ next_filled c.args.records.now c.args.id c.args.class (drop c.args.first cells) c.args.count k c.value_at-value.result c.requires.there c.loop-position-test.true (omega (arith, c.requires.within, length-drop c.args.first cells)) is
