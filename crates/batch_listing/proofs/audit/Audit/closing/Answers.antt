use Rattle.std.proofs.Common.{◌++◌, List, ℕ, ap, ◌∙◌}
use Rattle.deck_reader.specs.declared.batch.Account.{Account}
use Rattle.batch_listing.specs.Texts.{balance_lines, closing_title, stray_line}
use Rattle.batch_listing.proofs.Sections.{lines_behind}
use Rattle.batch_listing.proofs.audit.Audit.closing.Goals as goal

pub returns : goal.returns
returns c = λ jobs behind.
    let book = c.args.self.now.book in
    let behind_all = ap (λ (accounts : List Account). balance_lines accounts c.balances.result.now) c.accounts.ensures
    ∙ ap (λ (balances : List ℕ). balance_lines book.accounts balances) c.balances.ensures.value
    ∙ lines_behind book jobs c.balances.ensures.each behind in
    c.in_ok-push_stray.ensures
    ∙ ap (λ (text : List ℕ). text ++ stray_line c.args.stray)
    (c.in_ok-push_balances.ensures
    ∙ ap (λ (text : List ℕ). text ++ balance_lines c.accounts.result.now c.balances.result.now) (c.in_ok-push_closing_title.ensures ∙ ap (λ (text : List ℕ). text ++ closing_title) c.new-out.ensures.items)
    ∙ ap (λ (text : List ℕ). closing_title ++ text) behind_all)
