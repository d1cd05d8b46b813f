use Rattle.std.proofs.Common.{sym, ◌∙◌, arith}
use Rattle.input_editing.proofs.Numerals.{no_digits, hexadecimal_parsed}
use Rattle.input_editing.proofs.items.hexadecimal.Goals as goal

pub returns-in_default : goal.returns-in_default
returns-in_default c = sym (no_digits c.args.digits.now c.in_default.ensures.cases.0)

pub returns : goal.returns
returns c =
    let parsed = rw c.in-Ok.ensures.cases.0 at c.from_str_radix.ensures.value in
    c.ok.ensures.value ∙ hexadecimal_parsed c.args.digits.now c.from_str_radix.result (sym c.are_hexadecimal.ensures ∙ c.if-not-are_hexadecimal.false) (omega arith) parsed
