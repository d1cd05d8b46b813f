use Rattle.std.proofs.Common.{◌≡◌, ℕ, List, Some, sym, ◌∙◌, subst, ◌≤◌, length}
use Rattle.night_merge.proofs.Plans.{account_parted, opened_same, parts_are, some_same}
use Rattle.night_merge.proofs.plan.opened_of.Goals as goal

pub returns-in_err-name : goal.returns-in_err-name
returns-in_err-name c = λ account said e.
    absurd (cc (c.in_err-name.ensures.parts, account_parted c.args.text.now c.in_ok-behind.field-0.now account c.in_ok-behind.ensures said e))

pub returns-in_err-word_of : goal.returns-in_err-word_of
returns-in_err-word_of c = λ account said e.
    let parts = parts_are c.in_ok-behind.field-0.now _ _ _ _ c.in_ok-name.ensures.parts (account_parted c.args.text.now c.in_ok-behind.field-0.now account c.in_ok-behind.ensures said e) in
    let P : List ℕ → Type 0 = λ l. length l ≤ 80 in
    absurd (cc (c.in_err-word_of.ensures (subst P (sym parts.0) said.0.short)))

pub returns-in_err-number_of : goal.returns-in_err-number_of
returns-in_err-number_of c = λ account said e.
    let parts = parts_are c.in_ok-behind.field-0.now _ _ _ _ c.in_ok-name.ensures.parts (account_parted c.args.text.now c.in_ok-behind.field-0.now account c.in_ok-behind.ensures said e) in
    absurd (cc (c.in_err-number_of.ensures account.opening said.1 parts.1))

pub returns : goal.returns
returns c = λ account said e.
    let parts = parts_are c.in_ok-behind.field-0.now _ _ _ _ c.in_ok-name.ensures.parts (account_parted c.args.text.now c.in_ok-behind.field-0.now account c.in_ok-behind.ensures said e) in
    let P : List ℕ → Type 0 = λ l. length l ≤ 80 in
    let named : Some c.in_ok-word_of.field-0 ≡ Some c.in_ok-name.name.now = c.in_ok-word_of.ensures (subst P (sym parts.0) said.0.short) in
    let number : Some c.in_ok-number_of.field-0 ≡ Some account.opening = c.in_ok-number_of.ensures account.opening said.1 parts.1 in
    opened_same c.in_ok-word_of.field-0 c.in_ok-number_of.field-0 account (some_same _ _ named ∙ parts.0) (some_same _ _ number)
