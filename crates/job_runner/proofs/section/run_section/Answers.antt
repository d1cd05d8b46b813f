use Rattle.std.proofs.Common.{List, ℕ, ◌++◌, length, ap, ap₂, ◌∙◌, subst}
use Rattle.account_book.specs.declared.charges.Counts.{Counts}
use Rattle.deck_reader.specs.JobView.{JobView}
use Rattle.stack_machine.specs.Desks.{shown_by}
use Rattle.algolw_meaning.specs.Running.{counted_lines, lines}
use Rattle.algolw_meaning.specs.Texts.{sum_line}
use Rattle.job_runner.specs.Counted.{HasCounts, lines_beside}
use Rattle.job_runner.specs.Sections.{dump_section, ending_text}
use Rattle.job_runner.proofs.Printed.{beside_is, section_is}
use Rattle.job_runner.proofs.section.run_section.Goals as goal

pub returns : goal.returns
returns g c =
    let statements = c.args.code.now.given.statements in
    let deck = c.args.job.now.deck in
    let firsts = c.in_ok-firsts.firsts.items in
    let shown = shown_by c.args.desk.now in
    let counts : HasCounts statements g.begun (length deck) firsts = subst (λ n. HasCounts statements g.begun n firsts) (c.len.ensures ∙ ap (λ (j : JobView). length j.deck) c.job.view_is) c.in_ok-firsts.ensures.counts in
    let source = c.in_ok-push_counted_source.ensures
    ∙ ap (λ (text : List ℕ). text ++ lines (lines_beside c.as_slice-2.result.now 1 c.as_slice.result.now)) c.in_ok-out.ensures.items
    ∙ ap (λ fs. lines (lines_beside fs 1 c.as_slice.result.now)) c.as_slice-2.ensures.value
    ∙ ap (λ (cards : List (List ℕ)). lines (lines_beside firsts 1 cards)) (c.as_slice.ensures ∙ ap (λ (j : JobView). j.deck) c.job.view_is)
    ∙ ap lines (beside_is statements g.begun deck firsts counts) in
    c.in_ok-push_sum_line.ensures
    ∙ ap₂ (λ (text : List ℕ) (used : Counts). text ++ sum_line used)
    (section_is c.push_counted_source.new.out.items c.push_line.new.out.items c.push_printed.new.out.items c.push_ending.new.out.items c.push_dump.new.out.items
    (counted_lines statements g.begun 1 deck) shown.lines (dump_section c.args.outcome shown.dump) (ending_text c.args.code.now c.args.outcome)
    source c.in_ok-push_line.ensures c.in_ok-push_printed.ensures c.in_ok-push_ending.ensures c.in_ok-push_dump.ensures)
    c.used.ensures
