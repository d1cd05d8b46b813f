use Rattle.std.proofs.Common.{ap, ◌∙◌, length}
use Rattle.std.proofs.lemmas.List.{take-replicate}
use Rattle.short_text.specs.Order.{bytes_cmp}
use Rattle.machine_rows.proofs.operators.blanks_compared.Goals as goal

pub returns : goal.returns
returns c = c.cmp.ensures ∙ ap (λ t. bytes_cmp t c.args.rest.now) (take-replicate (length c.args.rest.now) 256 32 c.requires)
