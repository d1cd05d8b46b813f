use Rattle.std.proofs.Common.{◌≡◌, ◌+◌, ◌-◌, ◌<◌, ◌≤◌, ◌++◌, [], ◌∷◌, suc, Some, None, length, map, take, slice_get, sym, ap, ◌∙◌, subst, arith}
use Rattle.post_mortem.specs.Dump.{dump_text}
use Rattle.stack_machine.specs.Dumped.{mark_line, name_lines, between}
use Rattle.machine_control.proofs.Cutting.{if_some_at}
use Rattle.stack_machine.proofs.DumpLines.{Shows, length_take_most, some_within, passed, shown_mark, shows_all, shows_end}
use Rattle.stack_machine.proofs.dump.dump_into.Goals as goal

pub returns-then-len-ge-MOST_LINES-clause-dump : goal.returns-then-len-ge-MOST_LINES-clause-dump
returns-then-len-ge-MOST_LINES-clause-dump c =
    let count : c.len.result ≡ length c.loop-number.lines.items = c.len.ensures ∙ c.loop-number.lines.ok.0 in
    let full : 40 ≤ length c.loop-number.lines.items = omega (arith, count, c.if-len-ge-MOST_LINES.true) in
    shows_all c.args.code.now c.args.state.now c.loop-number.number c.loop-number.end c.loop-number.lines.items c.loop-number.invariant.2 full

pub dump_names-requires-clause-few : goal.dump_names-requires-clause-few
dump_names-requires-clause-few c =
    subst (λ ls. length ls ≤ 40) (sym c.add_line.ensures.added) (length_take_most 40 (c.loop-number.lines.items ++ dump_text c.in-Some.mark ∷ []))

pub loop-number-preserved-in-Some : goal.loop-number-preserved-in-Some
loop-number-preserved-in-Some c =
    let n = c.loop-number.number - 1 in
    let end = c.loop-number.end in
    let code = c.args.code.now in
    let s = c.args.state.now in
    let es = s.store.entries in
    let lines = c.loop-number.lines.items in
    let mark = c.in-Some.mark in
    let w = c.loop-number.invariant.2 in
    let next : c.loop-number.number ≡ suc n = omega (arith, c.loop-number-test.true) in
    let there : n < length es = omega (arith, next, w.below, w.within) in
    let e = some_within es n there in
    let q : mark_line code e.0 ≡ Some mark = sym (if_some_at (slice_get es n) (λ x. c.shown_mark.result ≡ mark_line code x) e.0 e.1 c.shown_mark.ensures.mark) ∙ c.in-Some.is in
    let one : n + 1 ≡ suc n = omega arith in
    let is : c.dump_names.new.lines.items ≡ take 40 (take 40 (lines ++ dump_text mark ∷ []) ++ map dump_text (name_lines code s (between (suc n) end es))) =
    c.dump_names.ensures.added ∙ ap (λ ls. take 40 (ls ++ map dump_text (name_lines code s (between (n + 1) end es)))) c.add_line.ensures.added
    ∙ ap (λ k. take 40 (take 40 (lines ++ dump_text mark ∷ []) ++ map dump_text (name_lines code s (between k end es)))) one in (
      c.dump_names.ensures.room,
      subst (λ ls. length ls ≤ 40) (sym is) (length_take_most 40 (take 40 (lines ++ dump_text mark ∷ []) ++ map dump_text (name_lines code s (between (suc n) end es)))),
      subst (λ ls. Shows code s n n ls) (sym is) (shown_mark code s n end lines e.0 e.1 (subst (λ k. Shows code s k end lines) next w) mark q),
    )

pub loop-number-preserved : goal.loop-number-preserved
loop-number-preserved c =
    let n = c.loop-number.number - 1 in
    let end = c.loop-number.end in
    let code = c.args.code.now in
    let s = c.args.state.now in
    let es = s.store.entries in
    let lines = c.loop-number.lines.items in
    let w = c.loop-number.invariant.2 in
    let next : c.loop-number.number ≡ suc n = omega (arith, c.loop-number-test.true) in
    let there : n < length es = omega (arith, next, w.below, w.within) in
    let e = some_within es n there in
    let q : mark_line code e.0 ≡ None = sym (if_some_at (slice_get es n) (λ x. c.shown_mark.result ≡ mark_line code x) e.0 e.1 c.shown_mark.ensures.mark) ∙ c.in_default.is in (
      c.loop-number.invariant.0,
      c.loop-number.invariant.1,
      passed code s n end lines e.0 e.1 (subst (λ k. Shows code s k end lines) next w) q,
    )

pub returns-clause-dump : goal.returns-clause-dump
returns-clause-dump c =
    let none : c.loop-number.number ≡ 0 = omega (arith, c.loop-number-test.false) in
    shows_end c.args.code.now c.args.state.now c.loop-number.end c.loop-number.lines.items (subst (λ k. Shows c.args.code.now c.args.state.now k c.loop-number.end c.loop-number.lines.items) none c.loop-number.invariant.2)
