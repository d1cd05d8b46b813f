use Rattle.std.proofs.Common.{◌≡◌, ℕ, ◌-◌, ◌++◌, ◌∷◌, List, codes, decimal, ap, sym, ◌∙◌, arith}
use Rattle.night_merge.specs.Texts.{closing_line}
use Rattle.night_merge.proofs.ClosingLines.{charged_as, line_begins, line_cut}
use Rattle.night_merge.proofs.closing.left_on.Goals as goal

pub returns-in-Some-behind-clause-left : goal.returns-in-Some-behind-clause-left
returns-in-Some-behind-clause-left c = λ left rest less e.
    let tail : List ℕ = codes "CLOSING " ++ (decimal left ++ 10 ∷ rest) in
    let begins =
    e ∙ line_begins c.args.name.now rest c.args.opening left ∙ ap (λ (l : List ℕ). l ++ (decimal (c.args.opening - left) ++ 32 ∷ tail)) (sym (c.as_slice.ensures.value ∙ c.in_ok-front.ensures)) in
    let same : c.in-Some.balance ≡ left = charged_as c.in-Some.balance c.args.opening left less (c.in-Some.ensures (c.args.opening - left) tail (omega arith) begins) in
    let line = c.as_slice-2.ensures.value ∙ c.in_ok-push_closing_line.ensures ∙ ap (λ (l : List ℕ). l ++ closing_line c.args.name.now c.args.opening c.in-Some.balance) c.new-line.ensures.items in
    (same, line_cut c.args.text.now _ rest c.in-Some-behind.rest.now c.args.name.now c.args.opening left c.in-Some.balance same line c.in-Some-behind.ensures e)

pub returns-in-Some-behind-clause-line : goal.returns-in-Some-behind-clause-line
returns-in-Some-behind-clause-line c =
    let line = c.as_slice-2.ensures.value ∙ c.in_ok-push_closing_line.ensures ∙ ap (λ (l : List ℕ). l ++ closing_line c.args.name.now c.args.opening c.in-Some.balance) c.new-line.ensures.items in
    c.in-Some-behind.ensures ∙ ap (λ (l : List ℕ). l ++ c.in-Some-behind.rest.now) line
