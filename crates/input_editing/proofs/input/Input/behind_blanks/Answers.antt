use Rattle.std.proofs.Common.{◌≡◌, sym, ap, ◌∙◌, length, arith}
use Rattle.std.specs.List.{prefix_len}
use Rattle.input_editing.specs.Columns.{line_at}
use Rattle.input_editing.specs.Scanning.{is_blank, item_start}
use Rattle.input_editing.proofs.ItemStarts.{item_start_here, item_start_later}
use Rattle.input_editing.proofs.input.Input.behind_blanks.Goals as goal

pub returns-then-blanks-len : goal.returns-then-blanks-len
returns-then-blanks-len c =
    let cards = c.args.cards.now in
    let place = c.loop-line.place in
    let line : c.in-Some.line ≡ line_at cards place = c.in-Some.ensures.line.1 in
    let n = c.leading_blanks-blanks.result in
    let blanks : n ≡ prefix_len is_blank (line_at cards place) = c.leading_blanks-blanks.ensures.count ∙ ap (prefix_len is_blank) (c.as_slice.ensures.value ∙ line) in
    let long : length c.in-Some.line ≡ length (line_at cards place) = ap length line in
    c.advanced-place.ensures ∙ sym (item_start_here cards place n blanks (omega arith)) ∙ c.loop-line.invariant

pub loop-line-preserved : goal.loop-line-preserved
loop-line-preserved c =
    let cards = c.args.cards.now in
    let place = c.loop-line.place in
    let line : c.in-Some.line ≡ line_at cards place = c.in-Some.ensures.line.1 in
    let n = c.leading_blanks-blanks.result in
    let blanks : n ≡ prefix_len is_blank (line_at cards place) = c.leading_blanks-blanks.ensures.count ∙ ap (prefix_len is_blank) (c.as_slice.ensures.value ∙ line) in
    let long : length c.in-Some.line ≡ length (line_at cards place) = ap length line in
    ap (item_start cards) c.advanced-place.ensures ∙ sym (item_start_later cards place n blanks (omega arith)) ∙ c.loop-line.invariant
