use Rattle.std.proofs.Common.{◌≡◌, ◌∙◌, sym, ap, Err, [], map, false, true, ℕ, List, Some, None, String, Global, string_bytes, codes}
use Rattle.clap.specs.Words.{found_of}
use Rattle.std.specs.List.{list_any}
use Rattle.std.specs.Str.{bytes_eq}
use Rattle.clap.proofs.WalkLemmas.{list_any-map}
use Rattle.command_words.specs.Form.{dashed, has_dashes}
use Rattle.command_words.specs.declared.order.WordsError.TheVariants.{BadWords}
use Rattle.command_words.proofs.Orders.{accounts_is, assembled, board_is, text_given, order_agrees, order_is_given, given_is_order}
use Rattle.command_words.proofs.order.read_words.Goals as goal

dashes_here : (words : List (String Global)) → list_any (λ word. bytes_eq (string_bytes word) (dashed [])) words ≡ has_dashes (map string_bytes words)
dashes_here words = list_any-map (λ (word : List ℕ). bytes_eq word (dashed [])) string_bytes words

pub returns-then-has_dashes-clause-bad : goal.returns-then-has_dashes-clause-bad
returns-then-has_dashes-clause-bad c = λ e o h.
    let a = order_agrees (map string_bytes c.args.words.now) o h in
    let bad : true ≡ false = sym c.if-has_dashes.true ∙ c.has_dashes.ensures ∙ dashes_here c.args.words.now ∙ a.dashes in
    cc

pub returns-in-Err-clause-bad : goal.returns-in-Err-clause-bad
returns-in-Err-clause-bad c = λ e o h.
    let is : c.in-Err.error ≡ BadWords = cc in
    c.in-Err.ensures.bad (ap Err is) (order_agrees (map string_bytes c.args.words.now) o h).passes

pub returns-in-Some-clause-ok : goal.returns-in-Some-clause-ok
returns-in-Some-clause-ok c =
    let words = map string_bytes c.args.words.now in
    let f = found_of c.in-Ok.matches in
    let text = λ (n : List ℕ). text_given f words n c.in-Ok.ensures.ok.1 in
    let plain = sym (dashes_here c.args.words.now) ∙ sym c.has_dashes.ensures ∙ c.if-has_dashes.false in
    let accounts = accounts_is f words c.get_flag-accounts.result plain c.in-Ok.ensures.ok.0 c.in-Ok.ensures.ok.1 c.get_flag-accounts.ensures.value c.get_flag-accounts.ensures.other in
    let board = board_is f words c.get_flag-board.result plain c.in-Ok.ensures.ok.0 c.in-Ok.ensures.ok.1 c.get_flag-board.ensures.value c.get_flag-board.ensures.other in
    let r = assembled words _ _ _ _ _ _ _ _ _ c.order_from.result (c.get_str-make.ensures ∙ text (codes "make")) (c.get_str-jobs.ensures ∙ text (codes "jobs")) (c.get_str-statement.ensures ∙ text (codes "statement"))
    (c.get_str.ensures ∙ text (codes "workers")) (c.get_str-2.ensures ∙ text (codes "queue")) accounts board c.number_or-workers.ensures c.number_or-queue.ensures c.order_from.ensures in
    given_is_order words c.in-Some.order plain c.in-Ok.ensures.ok.0 (sym r ∙ c.in-Some.is)

pub returns-clause-bad : goal.returns-clause-bad
returns-clause-bad c = λ e o h.
    let words = map string_bytes c.args.words.now in
    let f = found_of c.in-Ok.matches in
    let text = λ (n : List ℕ). text_given f words n c.in-Ok.ensures.ok.1 in
    let plain = sym (dashes_here c.args.words.now) ∙ sym c.has_dashes.ensures ∙ c.if-has_dashes.false in
    let accounts = accounts_is f words c.get_flag-accounts.result plain c.in-Ok.ensures.ok.0 c.in-Ok.ensures.ok.1 c.get_flag-accounts.ensures.value c.get_flag-accounts.ensures.other in
    let board = board_is f words c.get_flag-board.result plain c.in-Ok.ensures.ok.0 c.in-Ok.ensures.ok.1 c.get_flag-board.ensures.value c.get_flag-board.ensures.other in
    let r = assembled words _ _ _ _ _ _ _ _ _ c.order_from.result (c.get_str-make.ensures ∙ text (codes "make")) (c.get_str-jobs.ensures ∙ text (codes "jobs")) (c.get_str-statement.ensures ∙ text (codes "statement"))
    (c.get_str.ensures ∙ text (codes "workers")) (c.get_str-2.ensures ∙ text (codes "queue")) accounts board c.number_or-workers.ensures c.number_or-queue.ensures c.order_from.ensures in
    let bad : None ≡ Some o = sym c.in-None.is ∙ r ∙ order_is_given words o h in
    cc
