use Rattle.std.proofs.Common.{ℕ, sym, ap, ◌∙◌}
use Rattle.std.specs.List.{range_with_len}
use Rattle.batch_core.specs.Core.{start}
use Rattle.batch_core.proofs.Lists.{are_printed}
use Rattle.batch_core.proofs.laws.complete_lists_print_in_order.Goals as goal

pub returns : goal.returns
returns c = λ openings events legal complete. sym (are_printed events (start openings) legal) ∙ ap (λ (n : ℕ). range_with_len 1 n) complete
