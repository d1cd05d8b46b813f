-- The libraries' cards, as they stand at the head of a part: they begin the same libraries again, and nothing else.
use Rattle.std.proofs.Common.{◌≡◌, ℕ, suc, ◌+◌, ◌-◌, ◌<◌, ◌==◌, ◌&&◌, ◌||◌, nat_le, Bool, true, false, cond, List, [], ◌∷◌, ◌++◌, Some, None, length, take, drop, reverse, codes, refl, sym, ap, ◌∙◌, arith}
use Rattle.std.specs.List.{list_all, list_any, prefix_len}
use Rattle.std.proofs.lemmas.Bool.Decides.{nat_tests}
use Rattle.std.proofs.lemmas.List.{length-reverse, reverse-append}
use Rattle.std.proofs.lemmas.List.Folds.{list_any-append}
use Rattle.std.proofs.lemmas.Option.{same_Some}
use Rattle.std.proofs.Math.Seq.{take-length}
use Rattle.short_text.specs.Blanks.{trimmed}
use Rattle.short_text.proofs.Trimmed.{trimmed-append_blanks, trimmed_and_blanks}
use Rattle.deck_reader.specs.Cards.{cleaned, with_tildes, without_return, without_tabs}
use Rattle.deck_reader.specs.Forms.{behind_blanks, capital, folded, is_allowed, is_control_card, is_digit, is_head, is_letter, is_name, is_small, library_card, name_of}
use Rattle.account_shares.proofs.Firsts.{neither_of}
use Rattle.night_shares.specs.Reading.{IsInLine}

-- ---- tests

and_left : (a b : Bool) → (a && b) ≡ true → a ≡ true
and_left true b h = refl
and_left false b h = cc

and_right : (a b : Bool) → (a && b) ≡ true → b ≡ true
and_right true b h = h
and_right false b h = cc

-- ---- cards that stay as they are

-- bytes from the blank to the tilde
abbrev IsShown : List ℕ → Type 0
IsShown text = list_all is_allowed text ≡ true

no_return : (b : ℕ) → is_allowed b ≡ true → (b == 13) ≡ false
no_return b h = grind (arith, nat_tests)

no_tab : (b : ℕ) → is_allowed b ≡ true → (b == 9) ≡ false
no_tab b h = grind (arith, nat_tests)

no_sign : (b : ℕ) → is_allowed b ≡ true → (b == 194) ≡ false
no_sign b h = grind (arith, nat_tests)

no_feed : (b : ℕ) → is_allowed b ≡ true → (b == 10) ≡ false
no_feed b h = grind (arith, nat_tests)

return_stays : (text : List ℕ) → IsShown text → without_return text ≡ text
return_stays [] h = refl
return_stays (b ∷ []) h = ap (λ (v : Bool). cond v [] (b ∷ [])) (no_return b (and_left (is_allowed b) true h))
return_stays (b ∷ c ∷ text) h = ap (λ (t : List ℕ). b ∷ t) (return_stays (c ∷ text) (and_right (is_allowed b) (list_all is_allowed (c ∷ text)) h))

tabs_stay : (text : List ℕ) → IsShown text → without_tabs text ≡ text
tabs_stay [] h = refl
tabs_stay (b ∷ text) h =
    ap (λ (v : Bool). cond v 32 b ∷ without_tabs text) (no_tab b (and_left (is_allowed b) (list_all is_allowed text) h))
    ∙ ap (λ (t : List ℕ). b ∷ t) (tabs_stay text (and_right (is_allowed b) (list_all is_allowed text) h))

tildes_stay : (text : List ℕ) → IsShown text → with_tildes text ≡ text
tildes_stay [] h = refl
tildes_stay (b ∷ []) h = refl
tildes_stay (b ∷ c ∷ text) h =
    ap (λ (v : Bool). cond (v && c == 172) (126 ∷ with_tildes text) (b ∷ with_tildes (c ∷ text))) (no_sign b (and_left (is_allowed b) (list_all is_allowed (c ∷ text)) h))
    ∙ ap (λ (t : List ℕ). b ∷ t) (tildes_stay (c ∷ text) (and_right (is_allowed b) (list_all is_allowed (c ∷ text)) h))

pub card_stays : (card : List ℕ) → IsShown card → trimmed card ≡ card → cleaned card ≡ card
card_stays card shown ends =
    ap (λ (t : List ℕ). trimmed (with_tildes (without_tabs t))) (return_stays card shown)
    ∙ ap (λ (t : List ℕ). trimmed (with_tildes t)) (tabs_stay card shown)
    ∙ ap trimmed (tildes_stay card shown)
    ∙ ends

pub one_line : (text : List ℕ) → IsShown text → IsInLine text
one_line [] h = refl
one_line (b ∷ text) h =
    ap (λ (v : Bool). v || list_any (λ c. c == 10) text) (no_feed b (and_left (is_allowed b) (list_all is_allowed text) h)) ∙ one_line text (and_right (is_allowed b) (list_all is_allowed text) h)

-- a card that was trimmed
pub record IsTrimmed (card : List ℕ) : Type 0 where
  pub stays : trimmed card ≡ card

pub trimmed_again : (line : List ℕ) → IsTrimmed (cleaned line)
trimmed_again line =
    let text = with_tildes (without_tabs (without_return line)) in
    record { stays = sym (trimmed-append_blanks (trimmed text) _) ∙ ap trimmed (sym (trimmed_and_blanks text)) }

-- ---- the end of a text

abbrev is_blank : ℕ → Bool
is_blank b = b == 32

any_reverse : (text : List ℕ) → list_any (λ b. b == 32) text ≡ false → list_any (λ b. b == 32) (reverse text) ≡ false
any_reverse [] h = refl
any_reverse (b ∷ text) h =
    let parts = neither_of (b == 32) (list_any (λ c. c == 32) text) h in
    ap (list_any (λ c. c == 32)) (reverse-append (b ∷ []) text)
    ∙ list_any-append (λ (c : ℕ). c == 32) (reverse text) (b ∷ [])
    ∙ ap (λ (v : Bool). v || (b == 32 || false)) (any_reverse text parts.1)
    ∙ ap (λ (v : Bool). v || false) parts.0

none_first : (text more : List ℕ) → 0 < length text → list_any (λ b. b == 32) text ≡ false → prefix_len (λ b. b == 32) (text ++ more) ≡ 0
none_first [] more some h = absurd (omega arith)
none_first (b ∷ text) more some h =
    let parts = neither_of (b == 32) (list_any (λ c. c == 32) text) h in
    ap (λ (v : Bool). cond v (1 + prefix_len (λ c. c == 32) (text ++ more)) 0) parts.0

-- no blank ends a text whose last word has none
word_ends : (front word : List ℕ) → 0 < length word → list_any (λ b. b == 32) word ≡ false → trimmed (front ++ word) ≡ front ++ word
word_ends front word some h =
    let text = front ++ word in
    let turned : 0 < length (reverse word) = omega (arith, some, length-reverse word) in
    let none : prefix_len (λ b. b == 32) (reverse text) ≡ 0 =
    ap (prefix_len (λ b. b == 32)) (reverse-append front word) ∙ none_first (reverse word) (reverse front) turned (any_reverse word h) in
    let all : length text - 0 ≡ length text = omega arith in
    ap (λ (n : ℕ). take (length text - n) text) none ∙ ap (λ (n : ℕ). take n text) all ∙ take-length text

-- ---- names of libraries

letter_again : (s : Bool) (c : ℕ) → is_small c ≡ s → is_letter c ≡ true → is_letter (cond s (c - 32) c) ≡ true
letter_again true c is h = grind (arith, nat_tests)
letter_again false c is h = h

byte_again : (s : Bool) (c : ℕ) → is_small c ≡ s → (is_letter c || is_digit c) ≡ true → (is_letter (cond s (c - 32) c) || is_digit (cond s (c - 32) c)) ≡ true
byte_again true c is h = grind (arith, nat_tests)
byte_again false c is h = h

small_again : (s : Bool) (c : ℕ) → is_small c ≡ s → is_small (cond s (c - 32) c) ≡ false
small_again true c is = grind (arith, nat_tests)
small_again false c is = is

capital_again : (c : ℕ) → capital (capital c) ≡ capital c
capital_again c = ap (λ (v : Bool). cond v (capital c - 32) (capital c)) (small_again (is_small c) c refl)

folded_again : (text : List ℕ) → folded (folded text) ≡ folded text
folded_again [] = refl
folded_again (c ∷ text) = let first = capital_again c in let rest = folded_again text in λ i. first i ∷ rest i

bytes_again : (text : List ℕ) → list_all (λ d. is_letter d || is_digit d) text ≡ true → list_all (λ d. is_letter d || is_digit d) (folded text) ≡ true
bytes_again [] h = refl
bytes_again (c ∷ text) h =
    ap (λ (v : Bool). v && list_all (λ d. is_letter d || is_digit d) (folded text)) (byte_again (is_small c) c refl (and_left (is_letter c || is_digit c) (list_all (λ d. is_letter d || is_digit d) text) h))
    ∙ bytes_again text (and_right (is_letter c || is_digit c) (list_all (λ d. is_letter d || is_digit d) text) h)

folded_long : (text : List ℕ) → length (folded text) ≡ length text
folded_long [] = refl
folded_long (c ∷ text) = ap suc (folded_long text)

name_again : (text : List ℕ) → is_name text ≡ true → is_name (folded text) ≡ true
name_again [] h = cc
name_again (c ∷ cs) h =
    let rest = and_right (is_letter c) (nat_le (length cs) 7 && list_all (λ d. is_letter d || is_digit d) cs) h in
    ap (λ (v : Bool). v && (nat_le (length (folded cs)) 7 && list_all (λ d. is_letter d || is_digit d) (folded cs))) (letter_again (is_small c) c refl (and_left (is_letter c) _ h))
    ∙ ap (λ (n : ℕ). nat_le n 7 && list_all (λ d. is_letter d || is_digit d) (folded cs)) (folded_long cs)
    ∙ ap (λ (v : Bool). v && list_all (λ d. is_letter d || is_digit d) (folded cs)) (and_left (nat_le (length cs) 7) (list_all (λ d. is_letter d || is_digit d) cs) rest)
    ∙ bytes_again cs (and_right (nat_le (length cs) 7) (list_all (λ d. is_letter d || is_digit d) cs) rest)

-- a name, in capitals
pub record IsName (name : List ℕ) : Type 0 where
  pub is : is_name name ≡ true
  pub capitals : folded name ≡ name

named_by : (v : Bool) (text name : List ℕ) → is_name text ≡ v → cond v (Some (folded text)) None ≡ Some name → IsName name
named_by false text name is h = cc
named_by true text name is h =
    let same : folded text ≡ name = same_Some (folded text) name h in
    record {
      is = ap is_name (sym same) ∙ name_again text is;
      capitals = ap folded (sym same) ∙ folded_again text ∙ same;
    }

pub named_on : (v : Bool) (card name : List ℕ) → cond v (name_of (behind_blanks (drop 8 card))) None ≡ Some name → IsName name
named_on false card name h = cc
named_on true card name h = named_by (is_name (behind_blanks (drop 8 card))) (behind_blanks (drop 8 card)) name refl h

byte_shown : (c : ℕ) → (is_letter c || is_digit c) ≡ true → is_allowed c ≡ true
byte_shown c h = grind (arith, nat_tests)

letter_shown : (c : ℕ) → is_letter c ≡ true → is_allowed c ≡ true
letter_shown c h = grind (arith, nat_tests)

byte_no_blank : (c : ℕ) → (is_letter c || is_digit c) ≡ true → (c == 32) ≡ false
byte_no_blank c h = grind (arith, nat_tests)

letter_no_blank : (c : ℕ) → is_letter c ≡ true → (c == 32) ≡ false
letter_no_blank c h = grind (arith, nat_tests)

bytes_shown : (text : List ℕ) → list_all (λ d. is_letter d || is_digit d) text ≡ true → IsShown text
bytes_shown [] h = refl
bytes_shown (c ∷ text) h =
    ap (λ (v : Bool). v && list_all is_allowed text) (byte_shown c (and_left (is_letter c || is_digit c) (list_all (λ d. is_letter d || is_digit d) text) h))
    ∙ bytes_shown text (and_right (is_letter c || is_digit c) (list_all (λ d. is_letter d || is_digit d) text) h)

bytes_no_blank : (text : List ℕ) → list_all (λ d. is_letter d || is_digit d) text ≡ true → list_any (λ b. b == 32) text ≡ false
bytes_no_blank [] h = refl
bytes_no_blank (c ∷ text) h =
    ap (λ (v : Bool). v || list_any (λ b. b == 32) text) (byte_no_blank c (and_left (is_letter c || is_digit c) (list_all (λ d. is_letter d || is_digit d) text) h))
    ∙ bytes_no_blank text (and_right (is_letter c || is_digit c) (list_all (λ d. is_letter d || is_digit d) text) h)

-- what is known of a name's bytes
record IsPlainName (name : List ℕ) : Type 0 where
  pub some : 0 < length name
  pub shown : IsShown name
  pub no_blank : list_any (λ b. b == 32) name ≡ false
  pub behind : behind_blanks (32 ∷ name) ≡ name

plain_name : (name : List ℕ) → is_name name ≡ true → IsPlainName name
plain_name [] h = cc
plain_name (c ∷ cs) h =
    let letter = and_left (is_letter c) (nat_le (length cs) 7 && list_all (λ d. is_letter d || is_digit d) cs) h in
    let rest = and_right (is_letter c) (nat_le (length cs) 7 && list_all (λ d. is_letter d || is_digit d) cs) h in
    let others = and_right (nat_le (length cs) 7) (list_all (λ d. is_letter d || is_digit d) cs) rest in
    record {
      some = omega arith;
      shown = ap (λ (v : Bool). v && list_all is_allowed cs) (letter_shown c letter) ∙ bytes_shown cs others;
      no_blank = ap (λ (v : Bool). v || list_any (λ b. b == 32) cs) (letter_no_blank c letter) ∙ bytes_no_blank cs others;
      behind = ap (λ (v : Bool). drop (1 + cond v (1 + prefix_len (λ b. b == 32) cs) 0) (32 ∷ c ∷ cs)) (letter_no_blank c letter);
    }

-- ---- the card that begins a library

abbrev pub head_of : List ℕ → List ℕ
head_of name = codes "%LIBRARY " ++ name

pub head_controls : (name : List ℕ) → is_control_card (head_of name) ≡ true
head_controls name = refl

pub head_no_job : (name : List ℕ) → is_head (head_of name) ≡ false
head_no_job name = refl

pub head_begins : (name : List ℕ) → IsName name → library_card (head_of name) ≡ Some name
head_begins name is =
    ap name_of (plain_name name is.is).behind
    ∙ ap (λ (v : Bool). cond v (Some (folded name)) None) is.is
    ∙ ap (λ (n : List ℕ). Some n) is.capitals

pub head_shown : (name : List ℕ) → IsName name → IsShown (head_of name)
head_shown name is = (plain_name name is.is).shown

pub head_stays : (name : List ℕ) → IsName name → cleaned (head_of name) ≡ head_of name
head_stays name is =
    let plain = plain_name name is.is in
    card_stays (head_of name) plain.shown (word_ends (codes "%LIBRARY ") name plain.some plain.no_blank)
