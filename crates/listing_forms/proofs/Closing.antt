-- The closing lines of a batch.
use Rattle.std.proofs.Common.{◌≡◌, ℕ, ◌+◌, ◌-◌, ◌<◌, ◌≤◌, true, ◌&&◌, nat_lt, List, [], ◌∷◌, ◌++◌, length, map, get_or, All, codes, decimal, flat_map, refl, sym, ap, ◌∙◌, append_assoc, arith, length-append}
use Rattle.std.specs.List.{enumerate_from}
use Rattle.std.proofs.lemmas.Bool.{lt-ltb}
use Rattle.std.proofs.lemmas.List.{get_or-append-add}
use Rattle.std.proofs.lemmas.List.Elements.{All-nil, All-cons, All-head, All-tail, All-append}
use Rattle.deck_reader.specs.declared.batch.Account.{Account}
use Rattle.deck_reader.specs.JobView.{JobView}
use Rattle.account_book.specs.Places.{place_balance}
use Rattle.algolw_meaning.specs.Charging.{charged}
use Rattle.algolw_meaning.specs.Running.{lines}
use Rattle.algolw_meaning.specs.Texts.{line}
use Rattle.batch_listing.specs.Listing.{closing_lines}
use Rattle.batch_listing.specs.Texts.{closing_line, closing_title, stray_line, closing}
use Rattle.listing_parts.specs.Lines.{text_up}
use Rattle.listing_parts.specs.Sections as parts
use Rattle.listing_parts.specs.Sections.{IsClosing, ends_in_digit, is_digit}
use Rattle.printed_lines.specs.Texts.{IsText}
use Rattle.printed_lines.proofs.Texts.{text_nil, text_append, text_of, text_decimal}
use Rattle.printable_programs.proofs.Tests.{and_to, range_to}
use Rattle.section_forms.proofs.Upwards.{under, under_apart, under_all, under_passes, text_under}
use Rattle.section_forms.proofs.Numbers.{IsDigit, decimal_numeral}
use Rattle.listing_forms.specs.Laws.{NameHolds}

-- a text, and a number at its end
ends_so : (s : List ℕ) (n : ℕ) → ends_in_digit (s ++ decimal n) ≡ true
ends_so s n =
    let d = decimal_numeral n in
    let long : 0 < length (decimal n) = omega (arith, ap length d.is) in
    let all : length (s ++ decimal n) ≡ length s + length (decimal n) = length-append s (decimal n) in
    let at : length (s ++ decimal n) - 1 ≡ length s + (length (decimal n) - 1) = omega (arith, all, long) in
    let last : IsDigit (get_or (decimal n) (length (decimal n) - 1) 0) = d.each (length (decimal n) - 1) 0 (omega (arith, long)) in
    let is : get_or (s ++ decimal n) (length (s ++ decimal n) - 1) 0 ≡ get_or (decimal n) (length (decimal n) - 1) 0 = ap (λ (k : ℕ). get_or (s ++ decimal n) k 0) at ∙ get_or-append-add s (decimal n) (length (decimal n) - 1) 0 in
    go (length (s ++ decimal n)) (get_or (s ++ decimal n) (length (s ++ decimal n) - 1) 0) (omega (arith, all, long)) (omega (arith, is, last.0)) (omega (arith, is, last.1))
  where
    go : (k c : ℕ) → 0 < k → 48 ≤ c → c ≤ 57 → nat_lt 0 k && is_digit c ≡ true
    go k c a b e = and_to (nat_lt 0 k) (is_digit c) (lt-ltb 0 k a) (range_to 48 57 c b e)

-- the line of an account
abbrev closing_text : Account → ℕ → List ℕ
closing_text account balance = account.name ++ codes " OPENING " ++ decimal account.opening ++ codes " CHARGES " ++ decimal (account.opening - balance) ++ codes " CLOSING " ++ decimal balance

abbrev closing_texts : (ℕ → ℕ) → ℕ → List Account → List (List ℕ)
closing_texts balance n [] = []
closing_texts balance n (account ∷ accounts) = closing_text account (balance n) ∷ closing_texts balance (n + 1) accounts

texts_are : (balance : ℕ → ℕ) (n : ℕ) (accounts : List Account) → flat_map (λ p. closing_line p.1 (balance p.0)) (enumerate_from n accounts) ≡ lines (closing_texts balance n accounts)
texts_are balance n [] = refl
texts_are balance n (account ∷ accounts) = ap (λ (t : List ℕ). closing_line account (balance n) ++ t) (texts_are balance (n + 1) accounts)

texts_hold : (balance : ℕ → ℕ) (n : ℕ) (accounts : List Account) → All NameHolds accounts → All IsText (closing_texts balance n accounts)
texts_hold balance n [] h = All-nil IsText
texts_hold balance n (account ∷ accounts) h =
    All-cons IsText (closing_text account (balance n)) (closing_texts balance (n + 1) accounts) (text_append (text_append (text_append (text_append (text_append (text_append (All-head NameHolds account accounts h) (text_of (codes " OPENING ") refl)) (text_decimal account.opening)) (text_of (codes " CHARGES ") refl)) (text_decimal (account.opening - balance n))) (text_of (codes " CLOSING ") refl)) (text_decimal (balance n)))
    (texts_hold balance (n + 1) accounts (All-tail NameHolds account accounts h))

texts_end : (balance : ℕ → ℕ) (n : ℕ) (accounts : List Account) → All (λ x. ends_in_digit x ≡ true) (closing_texts balance n accounts)
texts_end balance n [] = All-nil (λ x. ends_in_digit x ≡ true)
texts_end balance n (account ∷ accounts) = All-cons (λ x. ends_in_digit x ≡ true) (closing_text account (balance n)) (closing_texts balance (n + 1) accounts) (ends_so (account.name ++ codes " OPENING " ++ decimal account.opening ++ codes " CHARGES " ++ decimal (account.opening - balance n) ++ codes " CLOSING ") (balance n)) (texts_end balance (n + 1) accounts)

-- the closing lines by their form
pub record ClosingForm (text : List ℕ) : Type 0 where
  pub up : List (List ℕ)
  pub whole : text_up up ≡ text
  pub each : All IsText up
  pub form : IsClosing up

abbrev titles : List (List ℕ)
titles = codes "CLOSING BALANCES" ∷ [] ∷ []

titles_are : text_up titles ≡ closing_title
unfolding closing_title
titles_are = refl

stray_is : (stray : ℕ) → stray_line stray ≡ line (codes "STRAY CARDS " ++ decimal stray)
unfolding stray_line
stray_is stray = refl

pub closing_has : (openings : List ℕ) (jobs : List JobView) (accounts : List Account) (stray : ℕ) → All NameHolds accounts → ClosingForm (closing (closing_lines openings jobs accounts) stray)
closing_has openings jobs accounts stray h =
    let balance = place_balance openings (map charged jobs) in
    let xs = closing_texts balance 0 accounts in
    let last = codes "STRAY CARDS " ++ decimal stray in
    record {
      up = last ∷ (under xs [] ++ titles);
      whole = append_assoc (text_up (under xs [] ++ titles)) last (10 ∷ [])
          ∙ ap (λ (up : List (List ℕ)). text_up up ++ line last) (sym (under_apart xs [] titles))
          ∙ ap (λ (t : List ℕ). t ++ line last) (text_under xs titles ∙ ap (λ (t : List ℕ). t ++ lines xs) titles_are ∙ ap (λ (t : List ℕ). closing_title ++ t) (sym (texts_are balance 0 accounts)))
          ∙ ap (λ (t : List ℕ). closing_title ++ closing_lines openings jobs accounts ++ t) (sym (stray_is stray));
      each = All-cons IsText last (under xs [] ++ titles) (text_append (text_of (codes "STRAY CARDS ") refl) (text_decimal stray)) (All-append IsText (under xs []) titles (under_all IsText xs [] (texts_hold balance 0 accounts h) (All-nil IsText)) (All-cons IsText (codes "CLOSING BALANCES") ([] ∷ []) (text_of (codes "CLOSING BALANCES") refl) (All-cons IsText [] [] text_nil (All-nil IsText))));
      form = parts.closing last (under xs []) (under_passes ends_in_digit xs (texts_end balance 0 accounts));
    }
