-- A library's first card and its name.
use Rattle.std.proofs.Common.{◌≡◌, ◌==◌, ℕ, suc, Bool, true, List, [], ◌∷◌, ◌++◌, Some, None, take, drop, codes, refl, sym, ap, ◌∙◌, cond, append-nil}
use Rattle.std.proofs.lemmas.List.{drop_at}
use Rattle.std.specs.List.{prefix_len}
use Rattle.deck_reader.specs.Forms.{ends_a_word, is_library, behind_blanks, name_of, library_card}
use Rattle.short_text.specs.Blanks.{blanks}
use Rattle.deck_reader.specs.CardForms.{IsLibraryCard, LibraryCardByParts}
use Rattle.deck_reader.proofs.Fields.{with_blanks_in_front}
use Rattle.deck_reader.proofs.Settings.{if_some, name_lacks, from_is_name, word-length, from_name_of, name_of_is}
use Rattle.deck_reader.proofs.JobCards.{from_is_control, is_control_with, leading_blank}
use Rattle.deck_reader.proofs.AccountCards.{behind_blanks-all}

from_library_card : (card name : List ℕ) → library_card card ≡ Some name → IsLibraryCard card name
from_library_card card name h =
    let text = behind_blanks (drop 8 card) in
    let begun = if_some (is_library card) (name_of text) name h in
    let control = from_is_control (codes "%LIBRARY") card begun.0 in
    let is = from_name_of text name begun.1 in
    let before = prefix_len (λ b. b == 32) (drop 8 card) in
    let long : drop 8 card ≡ blanks before ++ text = with_blanks_in_front (drop 8 card) in
    let ends : ends_a_word (blanks before ++ (text ++ [])) ≡ true = ap (λ (t : List ℕ). ends_a_word (blanks before ++ t)) (append-nil text) ∙ sym (ap ends_a_word long) ∙ control.2 in
    let blank = leading_blank before text [] is.form ends in
    record {
      word = take 8 card;
      before = blank.0;
      written = text;
      text = control.1 ∙ ap (λ (r : List ℕ). take 8 card ++ r) (long ∙ ap (λ (n : ℕ). blanks n ++ text) blank.1);
      word_is = control.0;
      name_is = is;
    }

library_card_is : (card name : List ℕ) → IsLibraryCard card name → library_card card ≡ Some name
library_card_is card name h =
    let rest = blanks h.before ++ h.written in
    let head : is_library card ≡ true = ap is_library h.text ∙ is_control_with (codes "%LIBRARY") h.word rest h.word_is in
    let behind : drop 8 card ≡ blanks (suc h.before) ++ h.written = ap (drop 8) h.text ∙ drop_at h.word (32 ∷ rest) 8 (word-length (codes "%LIBRARY") h.word h.word_is) in
    let text : behind_blanks (drop 8 card) ≡ h.written = ap behind_blanks behind ∙ behind_blanks-all (suc h.before) h.written (from_is_name h.written h.name_is.form).1 (name_lacks 32 h.written refl h.name_is.form) in
    ap (λ (b : Bool). cond b (name_of (behind_blanks (drop 8 card))) None) head
    ∙ ap name_of text
    ∙ name_of_is h.written name h.name_is

pub library_card_by_parts : LibraryCardByParts
library_card_by_parts card name = (from_library_card card name, library_card_is card name)
