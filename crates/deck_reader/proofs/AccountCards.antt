-- An account card and its parts.
use Rattle.std.proofs.Common.{◌≡◌, ℕ, suc, ◌<◌, ◌≤◌, ◌==◌, ◌&&◌, Bool, true, List, [], ◌∷◌, ◌++◌, Option, Some, None, length, take, drop, codes, refl, sym, ap, ◌∙◌, arith, cond, nat_le}
use Rattle.std.proofs.lemmas.Bool.Decides.{nat_tests}
use Rattle.std.proofs.lemmas.List.{drop_at}
use Rattle.std.proofs.lemmas.Option.{same_Some}
use Rattle.std.specs.List.{prefix_len}
use Rattle.std.specs.Str.Parse.{digits_value}
use Rattle.deck_reader.specs.declared.forms.AccountCard.{AccountCard}
use Rattle.deck_reader.specs.Forms.{is_digits, ends_a_word, is_account, parted, behind_blanks, name_of, balance_of, account_with, name_and_balance, account_card}
use Rattle.short_text.specs.Blanks.{blanks}
use Rattle.deck_reader.specs.Texts.{IsName, IsNumber}
use Rattle.deck_reader.specs.CardForms.{IsAccountCard, AccountCardByParts}
use Rattle.deck_reader.proofs.Fields.{Lacks, from_parted, parted_is, with_blanks_in_front, behind_blanks_is}
use Rattle.deck_reader.proofs.Settings.{if_some, both_true, name_lacks, from_is_name, digits_lack, from_is_digits, word-length, from_name_of, name_of_is}
use Rattle.deck_reader.proofs.JobCards.{from_is_control, is_control_with, leading_blank}

from_balance_of : (digits : List ℕ) (balance : ℕ) → balance_of digits ≡ Some balance → IsNumber balance digits × (balance ≤ 999999999)
from_balance_of digits balance h =
    let passed = if_some (is_digits digits && nat_le (digits_value 10 digits) 999999999) (Some (digits_value 10 digits)) balance h in
    let both = both_true (is_digits digits) _ passed.0 in
    let value : digits_value 10 digits ≡ balance = same_Some _ _ passed.1 in
    let small : nat_le (digits_value 10 digits) 999999999 ≡ true = both.1 in
    (record { form = both.0; value = value }, grind (arith, nat_tests))

balance_of_is : (digits : List ℕ) (balance : ℕ) → IsNumber balance digits → balance ≤ 999999999 → balance_of digits ≡ Some balance
balance_of_is digits balance h fits =
    let value : digits_value 10 digits ≡ balance = h.value in
    let small : nat_le (digits_value 10 digits) 999999999 ≡ true = grind (arith, nat_tests) in
    ap (λ (b : Bool). cond (b && nat_le (digits_value 10 digits) 999999999) (Some (digits_value 10 digits)) None) h.form
    ∙ ap (λ (b : Bool). cond b (Some (digits_value 10 digits)) None) small
    ∙ ap Some value

from_account_with : (name : Option (List ℕ)) (balance : Option ℕ) (account : AccountCard) → account_with name balance ≡ Some account → (name ≡ Some account.name) × (balance ≡ Some account.balance)
from_account_with None balance account h = cc
from_account_with (Some name) None account h = cc
from_account_with (Some name) (Some balance) account h =
    let same = same_Some _ account h in
    (ap (λ (a : AccountCard). Some a.name) same, ap (λ (a : AccountCard). Some a.balance) same)

-- the parts of what stands behind the blanks of an account card
record HasAccount (behind : List ℕ) (account : AccountCard) : Type 0 where
  name : List ℕ
  between : ℕ
  digits : List ℕ
  text : behind ≡ name ++ 32 ∷ (blanks between ++ digits)
  name_is : IsName account.name name
  balance_is : IsNumber account.balance digits
  fits : account.balance ≤ 999999999

from_name_and_balance : (behind : List ℕ) (r : Option (List ℕ × List ℕ)) (account : AccountCard) → parted 32 behind ≡ r → name_and_balance r ≡ Some account → HasAccount behind account
from_name_and_balance behind None account e h = cc
from_name_and_balance behind (Some (name, rest)) account e h =
    let parts = from_account_with (name_of name) (balance_of (behind_blanks rest)) account h in
    let number = from_balance_of (behind_blanks rest) account.balance parts.1 in
    record {
      name = name;
      between = prefix_len (λ b. b == 32) rest;
      digits = behind_blanks rest;
      text = (from_parted 32 behind name rest e).0 ∙ ap (λ (r : List ℕ). name ++ 32 ∷ r) (with_blanks_in_front rest);
      name_is = from_name_of name account.name parts.0;
      balance_is = number.0;
      fits = number.1;
    }

from_account_card : (card : List ℕ) (account : AccountCard) → account_card card ≡ Some account → IsAccountCard card account
from_account_card card account h =
    let behind = behind_blanks (drop 8 card) in
    let begun = if_some (is_account card) (name_and_balance (parted 32 behind)) account h in
    let control = from_is_control (codes "%ACCOUNT") card begun.0 in
    let parts = from_name_and_balance behind (parted 32 behind) account refl begun.1 in
    let more = 32 ∷ (blanks parts.between ++ parts.digits) in
    let long : drop 8 card ≡ blanks (prefix_len (λ b. b == 32) (drop 8 card)) ++ (parts.name ++ more) =
    with_blanks_in_front (drop 8 card) ∙ ap (λ (r : List ℕ). blanks (prefix_len (λ b. b == 32) (drop 8 card)) ++ r) parts.text in
    let blank = leading_blank (prefix_len (λ b. b == 32) (drop 8 card)) parts.name more parts.name_is.form (sym (ap ends_a_word long) ∙ control.2) in
    record {
      word = take 8 card;
      before = blank.0;
      name = parts.name;
      between = parts.between;
      digits = parts.digits;
      text = control.1 ∙ ap (λ (r : List ℕ). take 8 card ++ r) (long ∙ ap (λ (n : ℕ). blanks n ++ (parts.name ++ more)) blank.1);
      word_is = control.0;
      name_is = parts.name_is;
      balance_is = parts.balance_is;
      fits = parts.fits;
    }

-- blanks in front of a text that has none are dropped
behind_blanks-text : (n : ℕ) (text more : List ℕ) → 0 < length text → Lacks 32 text → behind_blanks (blanks n ++ (text ++ more)) ≡ text ++ more
behind_blanks-text n [] more some lacks = absurd (omega arith)
behind_blanks-text n (c ∷ cs) more some lacks = behind_blanks_is n c (cs ++ more) (lacks 0 0 some)

pub behind_blanks-all : (n : ℕ) (text : List ℕ) → 0 < length text → Lacks 32 text → behind_blanks (blanks n ++ text) ≡ text
behind_blanks-all n [] some lacks = absurd (omega arith)
behind_blanks-all n (c ∷ cs) some lacks = behind_blanks_is n c cs (lacks 0 0 some)

account_card_is : (card : List ℕ) (account : AccountCard) → IsAccountCard card account → account_card card ≡ Some account
account_card_is card account h =
    let tail = blanks h.between ++ h.digits in
    let rest = blanks h.before ++ (h.name ++ 32 ∷ tail) in
    let named : Lacks 32 h.name = name_lacks 32 h.name refl h.name_is.form in
    let head : is_account card ≡ true = ap is_account h.text ∙ is_control_with (codes "%ACCOUNT") h.word rest h.word_is in
    let behind : drop 8 card ≡ blanks (suc h.before) ++ (h.name ++ 32 ∷ tail) = ap (drop 8) h.text ∙ drop_at h.word (32 ∷ rest) 8 (word-length (codes "%ACCOUNT") h.word h.word_is) in
    let text : behind_blanks (drop 8 card) ≡ h.name ++ 32 ∷ tail = ap behind_blanks behind ∙ behind_blanks-text (suc h.before) h.name (32 ∷ tail) (from_is_name h.name h.name_is.form).1 named in
    let digits : behind_blanks tail ≡ h.digits = behind_blanks-all h.between h.digits (from_is_digits h.digits h.balance_is.form).1 (digits_lack 32 h.digits refl h.balance_is.form) in
    ap (λ (b : Bool). cond b (name_and_balance (parted 32 (behind_blanks (drop 8 card)))) None) head
    ∙ ap (λ (t : List ℕ). name_and_balance (parted 32 t)) text
    ∙ ap name_and_balance (parted_is 32 h.name tail named)
    ∙ ap (λ (n : Option (List ℕ)). account_with n (balance_of (behind_blanks tail))) (name_of_is h.name account.name h.name_is)
    ∙ ap (λ (d : List ℕ). account_with (Some account.name) (balance_of d)) digits
    ∙ ap (λ (b : Option ℕ). account_with (Some account.name) b) (balance_of_is h.digits account.balance h.balance_is h.fits)

pub account_card_by_parts : AccountCardByParts
account_card_by_parts card account = (from_account_card card account, account_card_is card account)
