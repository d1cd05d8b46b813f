use Rattle.std.proofs.Common.{◌≡◌, ℕ, List, Some, sym, ◌∙◌, subst, ◌≤◌, length}
use Rattle.deck_reader.specs.Flaws.{flaw_number}
use Rattle.night_merge.proofs.Plans.{flaw_fits, names_parted, parts_are, refusal_parted, refused_same, some_same}
use Rattle.night_merge.proofs.plan.refused_of.Goals as goal

pub returns-in_err-flaw : goal.returns-in_err-flaw
returns-in_err-flaw c = λ flaw name account said e.
    absurd (cc (c.in_err-flaw.ensures.parts, refusal_parted c.args.text.now c.in_ok-behind.field-0.now flaw name account c.in_ok-behind.ensures e))

pub returns-in_err-name : goal.returns-in_err-name
returns-in_err-name c = λ flaw name account said e.
    let first = parts_are c.in_ok-behind.field-0.now _ _ _ _ c.in_ok-flaw.ensures.parts (refusal_parted c.args.text.now c.in_ok-behind.field-0.now flaw name account c.in_ok-behind.ensures e) in
    absurd (cc (c.in_err-name.ensures.parts, names_parted c.in_ok-flaw.names.now name account first.1 said.0))

pub returns-in_err-number_of : goal.returns-in_err-number_of
returns-in_err-number_of c = λ flaw name account said e.
    let first = parts_are c.in_ok-behind.field-0.now _ _ _ _ c.in_ok-flaw.ensures.parts (refusal_parted c.args.text.now c.in_ok-behind.field-0.now flaw name account c.in_ok-behind.ensures e) in
    absurd (cc (c.in_err-number_of.ensures _ (flaw_fits flaw) first.0))

pub returns-in_err-flaw_of : goal.returns-in_err-flaw_of
returns-in_err-flaw_of c = λ flaw name account said e.
    let first = parts_are c.in_ok-behind.field-0.now _ _ _ _ c.in_ok-flaw.ensures.parts (refusal_parted c.args.text.now c.in_ok-behind.field-0.now flaw name account c.in_ok-behind.ensures e) in
    let number : Some c.in_ok-number_of.field-0 ≡ Some (flaw_number flaw) = c.in_ok-number_of.ensures _ (flaw_fits flaw) first.0 in
    absurd (cc (c.in_err-flaw_of.ensures flaw (some_same _ _ number)))

pub returns-in_err-word_of : goal.returns-in_err-word_of
returns-in_err-word_of c = λ flaw name account said e.
    let first = parts_are c.in_ok-behind.field-0.now _ _ _ _ c.in_ok-flaw.ensures.parts (refusal_parted c.args.text.now c.in_ok-behind.field-0.now flaw name account c.in_ok-behind.ensures e) in
    let second = parts_are c.in_ok-flaw.names.now _ _ _ _ c.in_ok-name.ensures.parts (names_parted c.in_ok-flaw.names.now name account first.1 said.0) in
    let P : List ℕ → Type 0 = λ l. length l ≤ 80 in
    absurd (cc (c.in_err-word_of.ensures (subst P (sym second.0) said.0.short)))

pub returns-in_err-word_of-2 : goal.returns-in_err-word_of-2
returns-in_err-word_of-2 c = λ flaw name account said e.
    let first = parts_are c.in_ok-behind.field-0.now _ _ _ _ c.in_ok-flaw.ensures.parts (refusal_parted c.args.text.now c.in_ok-behind.field-0.now flaw name account c.in_ok-behind.ensures e) in
    let second = parts_are c.in_ok-flaw.names.now _ _ _ _ c.in_ok-name.ensures.parts (names_parted c.in_ok-flaw.names.now name account first.1 said.0) in
    let P : List ℕ → Type 0 = λ l. length l ≤ 80 in
    absurd (cc (c.in_err-word_of-2.ensures (subst P (sym second.1) said.1.short)))

pub returns : goal.returns
returns c = λ flaw name account said e.
    let first = parts_are c.in_ok-behind.field-0.now _ _ _ _ c.in_ok-flaw.ensures.parts (refusal_parted c.args.text.now c.in_ok-behind.field-0.now flaw name account c.in_ok-behind.ensures e) in
    let second = parts_are c.in_ok-flaw.names.now _ _ _ _ c.in_ok-name.ensures.parts (names_parted c.in_ok-flaw.names.now name account first.1 said.0) in
    let number : Some c.in_ok-number_of.field-0 ≡ Some (flaw_number flaw) = c.in_ok-number_of.ensures _ (flaw_fits flaw) first.0 in
    let kind : Some c.in_ok-flaw_of.field-0 ≡ Some flaw = c.in_ok-flaw_of.ensures flaw (some_same _ _ number) in
    let P : List ℕ → Type 0 = λ l. length l ≤ 80 in
    let named : Some c.in_ok-word_of.field-0 ≡ Some c.in_ok-name.name.now = c.in_ok-word_of.ensures (subst P (sym second.0) said.0.short) in
    let paid : Some c.in_ok-word_of-2.field-0 ≡ Some c.in_ok-name.account_name.now = c.in_ok-word_of-2.ensures (subst P (sym second.1) said.1.short) in
    refused_same c.in_ok-flaw_of.field-0 flaw c.in_ok-word_of.field-0 name c.in_ok-word_of-2.field-0 account (some_same _ _ kind) (some_same _ _ named ∙ second.0) (some_same _ _ paid ∙ second.1)
