use Rattle.std.proofs.Common.{◌≡◌, ◌≤◌, ◌++◌, [], ◌∷◌, length, sym, ap, ◌∙◌, arith, length-append}
use Rattle.std.proofs.lemmas.List.{take_all}
use Rattle.post_mortem.specs.Dump.{dump_text}
use Rattle.stack_machine.proofs.DumpLines.{full_stays}
use Rattle.stack_machine.proofs.dump.add_line.Goals as goal

pub returns-then-len-lt-MOST_LINES-clause-added : goal.returns-then-len-lt-MOST_LINES-clause-added
returns-then-len-lt-MOST_LINES-clause-added c =
    let old = c.args.lines.now.items in
    let text = dump_text c.args.entry.now in
    let count : c.len.result ≡ length old = c.len.ensures ∙ c.args.lines.now.ok.0 in
    let few : length (old ++ text ∷ []) ≤ 40 = omega (arith, count, c.if-len-lt-MOST_LINES.true, length-append old (text ∷ [])) in
    c.push_reserved.ensures.items ∙ ap (λ t. old ++ t ∷ []) c.dump_line.ensures ∙ sym (take_all 40 (old ++ text ∷ []) few)

pub returns-else-len-lt-MOST_LINES-clause-added : goal.returns-else-len-lt-MOST_LINES-clause-added
returns-else-len-lt-MOST_LINES-clause-added c =
    let old = c.args.lines.now.items in
    let count : c.len.result ≡ length old = c.len.ensures ∙ c.args.lines.now.ok.0 in
    full_stays old (dump_text c.args.entry.now ∷ []) c.requires.few (omega (arith, count, c.if-len-lt-MOST_LINES.false))
