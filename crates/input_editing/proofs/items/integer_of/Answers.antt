use Rattle.std.proofs.Common.{sym, ◌∙◌}
use Rattle.input_editing.proofs.Numerals.{no_integer, integer_parsed}
use Rattle.input_editing.proofs.items.integer_of.Goals as goal

pub returns-in_default : goal.returns-in_default
returns-in_default c = sym (no_integer c.args.item.now c.in_default.ensures.cases.0)

pub returns : goal.returns
returns c =
    let parsed = rw c.in-Ok.ensures.cases.0 at c.parse.ensures.value.0 in
    c.ok.ensures.value ∙ integer_parsed c.args.item.now c.parse.result parsed
