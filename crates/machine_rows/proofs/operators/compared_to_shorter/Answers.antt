use Rattle.std.proofs.Common.{sym, ap, ◌∙◌}
use Rattle.std.specs.Ordering.{ordering_then}
use Rattle.short_text.specs.Order.{bytes_cmp}
use Rattle.machine_rows.proofs.Orders.{shorter_is}
use Rattle.machine_rows.proofs.operators.compared_to_shorter.Goals as goal

pub returns : goal.returns
returns c =
    c.then.ensures
    ∙ ap (λ o. ordering_then o c.compared_to_blanks.result) c.cmp.ensures
    ∙ ap (λ o. ordering_then (bytes_cmp c.split_at.result.0.now c.args.short.now) o) c.compared_to_blanks.ensures
    ∙ sym (shorter_is c.args.long.now c.args.short.now c.split_at.result.0.now c.split_at.result.1.now c.requires.shorter c.split_at.ensures.front c.split_at.ensures.back)
