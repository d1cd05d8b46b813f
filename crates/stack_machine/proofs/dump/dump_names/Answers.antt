use Rattle.std.proofs.Common.{◌≡◌, ◌<◌, ◌≤◌, ◌+◌, ◌++◌, [], ◌∷◌, suc, length, map, take, slice_get, sym, ap, ◌∙◌, subst, arith}
use Rattle.post_mortem.specs.Dump.{dump_text}
use Rattle.stack_machine.specs.Dumped as dumped
use Rattle.machine_control.proofs.Cutting.{if_some_at}
use Rattle.stack_machine.proofs.DumpLines.{names_none, names_over, names_more, some_within, length_take_most}
use Rattle.stack_machine.proofs.dump.dump_names.Goals as goal

pub loop-number-init : goal.loop-number-init
loop-number-init c = (c.requires.room, c.requires.few, names_none c.args.code.now c.args.state.now c.args.first c.args.lines.now.items c.requires.few)

pub returns-then-len-ge-MOST_LINES-clause-added : goal.returns-then-len-ge-MOST_LINES-clause-added
returns-then-len-ge-MOST_LINES-clause-added c =
    let now = c.loop-number.lines.items in
    let count : c.len.result ≡ length now = c.len.ensures ∙ c.loop-number.lines.ok.0 in
    let full : 40 ≤ length now = omega (arith, count, c.if-len-ge-MOST_LINES.true) in
    c.loop-number.invariant.2
    ∙ names_over c.args.code.now c.args.state.now c.args.first c.loop-number.number c.args.end c.args.lines.now.items (omega arith) (omega arith) (subst (λ ls. 40 ≤ length ls) c.loop-number.invariant.2 full)

pub loop-number-preserved : goal.loop-number-preserved
loop-number-preserved c =
    let n = c.loop-number.number in
    let es = c.args.state.now.store.entries in
    let old = c.args.lines.now.items in
    let there : n < length es = omega (arith, c.loop-number-test.true, c.requires.there) in
    let e = some_within es n there in
    let names = map dump_text (dumped.name_lines c.args.code.now c.args.state.now (e.0 ∷ [])) in
    let one : suc n ≡ n + 1 = omega arith in
    let is : c.dump_name.new.lines.items ≡ take 40 (c.loop-number.lines.items ++ names) = if_some_at (slice_get es n) (λ x. c.dump_name.new.lines.items ≡ take 40 (c.loop-number.lines.items ++ map dump_text (dumped.name_lines c.args.code.now c.args.state.now (x ∷ [])))) e.0 e.1 c.dump_name.ensures.added in (
      c.dump_name.ensures.room,
      subst (λ ls. length ls ≤ 40) (sym is) (length_take_most 40 (c.loop-number.lines.items ++ names)),
      is ∙ ap (λ ls. take 40 (ls ++ names)) c.loop-number.invariant.2 ∙ names_more c.args.code.now c.args.state.now c.args.first n e.0 old (omega arith) e.1
          ∙ ap (λ k. take 40 (old ++ map dump_text (dumped.name_lines c.args.code.now c.args.state.now (dumped.between c.args.first k es)))) one,
    )

pub returns-clause-added : goal.returns-clause-added
returns-clause-added c =
    let last : c.loop-number.number ≡ c.args.end = omega (arith, c.loop-number-test.false, c.requires.ordered) in
    c.loop-number.invariant.2 ∙ ap (λ k. take 40 (c.args.lines.now.items ++ map dump_text (dumped.name_lines c.args.code.now c.args.state.now (dumped.between c.args.first k c.args.state.now.store.entries)))) last
