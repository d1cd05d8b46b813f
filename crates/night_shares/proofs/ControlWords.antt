-- A control word on a line, and on the line's card.
use Rattle.std.proofs.Common.{◌≡◌, ℕ, zero, suc, ◌<◌, ◌==◌, ◌&&◌, ◌||◌, Bool, true, false, cond, List, [], ◌∷◌, ◌++◌, length, take, drop, refl, sym, ap, ◌∙◌, arith}
use Rattle.std.specs.Str.{bytes_eq}
use Rattle.std.specs.List.{suffix_len}
use Rattle.std.proofs.lemmas.Bool.{eqb-true}
use Rattle.short_text.specs.Blanks.{blanks, trimmed}
use Rattle.short_text.proofs.Trimmed.{trimmed_and_blanks}
use Rattle.deck_reader.specs.Cards.{cleaned, with_tildes, without_return, without_tabs}
use Rattle.deck_reader.specs.Forms.{capital, ends_a_word, folded, is_control}
use Rattle.night_shares.specs.WordEnds.{ArePlain, IsPlain, ends_word}

-- a word stands in front, in either case of letters, and what is behind it passes a test
abbrev begins_by : (List ℕ → Bool) → List ℕ → List ℕ → Bool
begins_by ends [] text = ends text
begins_by ends (c ∷ word) [] = false
begins_by ends (c ∷ word) (b ∷ text) = (capital b == c) && begins_by ends word text

and_assoc : (a b c : Bool) → ((a && b) && c) ≡ (a && (b && c))
and_assoc true b c = refl
and_assoc false b c = refl

-- by its first bytes
by_front : (ends : List ℕ → Bool) (word text : List ℕ) → (bytes_eq (folded (take (length word) text)) word && ends (drop (length word) text)) ≡ begins_by ends word text
by_front ends [] text = refl
by_front ends (c ∷ word) [] = refl
by_front ends (c ∷ word) (b ∷ text) =
    and_assoc (capital b == c) (bytes_eq (folded (take (length word) text)) word) (ends (drop (length word) text))
    ∙ ap (λ (v : Bool). (capital b == c) && v) (by_front ends word text)

too_short : (ends : List ℕ → Bool) (word text : List ℕ) → length text < length word → begins_by ends word text ≡ false
too_short ends [] text h = absurd (omega arith)
too_short ends (c ∷ word) [] h = refl
too_short ends (c ∷ word) (b ∷ text) h = ap (λ (v : Bool). (capital b == c) && v) (too_short ends word text (omega arith)) ∙ none (capital b == c)
  where
    none : (v : Bool) → (v && false) ≡ false
    none true = refl
    none false = refl

-- a test that is false of a first byte is false of what it begins
not_first : (c b d : ℕ) (v : Bool) → b ≡ d → (capital d == c) ≡ false → ((capital b == c) && v) ≡ false
not_first c b d v same h = ap (λ (k : ℕ). (capital k == c) && v) same ∙ ap (λ (w : Bool). w && v) h

-- ---- blanks at the end

ends_blanks : (n : ℕ) → ends_a_word (blanks n) ≡ true
ends_blanks zero = refl
ends_blanks (suc n) = refl

no_blanks : (c : ℕ) (word : List ℕ) (n : ℕ) → IsPlain c → begins_by ends_a_word (c ∷ word) (blanks n) ≡ false
no_blanks c word zero p = refl
no_blanks c word (suc n) p = ap (λ (w : Bool). w && begins_by ends_a_word word (blanks n)) p.blank

with_blanks : (word text : List ℕ) (n : ℕ) → ArePlain word → begins_by ends_a_word word (text ++ blanks n) ≡ begins_by ends_a_word word text
with_blanks [] [] n p = ends_blanks n
with_blanks [] (b ∷ text) n p = refl
with_blanks (c ∷ word) [] n p = no_blanks c word n p.0
with_blanks (c ∷ word) (b ∷ text) n p = ap (λ (v : Bool). (capital b == c) && v) (with_blanks word text n p.1)

in_trimmed : (word text : List ℕ) → ArePlain word → begins_by ends_a_word word (trimmed text) ≡ begins_by ends_a_word word text
in_trimmed word text p =
    sym (with_blanks word (trimmed text) (suffix_len (λ b. b == 32) text) p)
    ∙ ap (begins_by ends_a_word word) (sym (trimmed_and_blanks text))

-- ---- tildes

sign_first : (b : ℕ) (v : Bool) → (b == 194 && v) ≡ true → b ≡ 194
sign_first b v h = by (b == 194) refl h
  where
    by : (w : Bool) → (b == 194) ≡ w → (w && v) ≡ true → b ≡ 194
    by true is k = eqb-true b 194 is
    by false is k = cc

ends_tildes_by : (v : Bool) (b c : ℕ) (text : List ℕ) → (b == 194 && c == 172) ≡ v → ends_a_word (cond v (126 ∷ with_tildes text) (b ∷ with_tildes (c ∷ text))) ≡ (b == 32)
ends_tildes_by true b c text is = sym (ap (λ (k : ℕ). k == 32) (sign_first b (c == 172) is))
ends_tildes_by false b c text is = refl

ends_tildes : (text : List ℕ) → ends_a_word (with_tildes text) ≡ ends_a_word text
ends_tildes [] = refl
ends_tildes (b ∷ []) = refl
ends_tildes (b ∷ c ∷ text) = ends_tildes_by (b == 194 && c == 172) b c text refl

in_tildes_by : (v : Bool) (a : ℕ) (word : List ℕ) (b c : ℕ) (text : List ℕ) → (b == 194 && c == 172) ≡ v → IsPlain a
    → begins_by ends_a_word word (with_tildes (c ∷ text)) ≡ begins_by ends_a_word word (c ∷ text)
    → begins_by ends_a_word (a ∷ word) (cond v (126 ∷ with_tildes text) (b ∷ with_tildes (c ∷ text))) ≡ ((capital b == a) && begins_by ends_a_word word (c ∷ text))
in_tildes_by true a word b c text is p rest =
    not_first a 126 126 (begins_by ends_a_word word (with_tildes text)) refl p.tilde
    ∙ sym (not_first a b 194 (begins_by ends_a_word word (c ∷ text)) (sign_first b (c == 172) is) p.sign)
in_tildes_by false a word b c text is p rest = ap (λ (v : Bool). (capital b == a) && v) rest

in_tildes : (word text : List ℕ) → ArePlain word → begins_by ends_a_word word (with_tildes text) ≡ begins_by ends_a_word word text
in_tildes [] text p = ends_tildes text
in_tildes (a ∷ word) [] p = refl
in_tildes (a ∷ word) (b ∷ []) p = refl
in_tildes (a ∷ word) (b ∷ c ∷ text) p = in_tildes_by (b == 194 && c == 172) a word b c text refl p.0 (in_tildes word (c ∷ text) p.1)

-- ---- tabs

-- as a blank or a tab ends a word
abbrev ends_with_tab : List ℕ → Bool
ends_with_tab [] = true
ends_with_tab (b ∷ text) = b == 32 || b == 9

ends_tabs : (text : List ℕ) → ends_a_word (without_tabs text) ≡ ends_with_tab text
ends_tabs [] = refl
ends_tabs (b ∷ text) = by (b == 9) refl
  where
    by : (v : Bool) → (b == 9) ≡ v → (cond v 32 b == 32) ≡ (b == 32 || v)
    by true is = or_true (b == 32)
      where
        or_true : (w : Bool) → true ≡ (w || true)
        or_true true = refl
        or_true false = refl
    by false is = or_false (b == 32)
      where
        or_false : (w : Bool) → w ≡ (w || false)
        or_false true = refl
        or_false false = refl

tab_by : (v : Bool) (a b : ℕ) (rest : Bool) → (b == 9) ≡ v → IsPlain a → ((capital (cond v 32 b) == a) && rest) ≡ ((capital b == a) && rest)
tab_by true a b rest is p = not_first a 32 32 rest refl p.blank ∙ sym (not_first a b 9 rest (eqb-true b 9 is) p.tab)
tab_by false a b rest is p = refl

in_tabs : (word text : List ℕ) → ArePlain word → begins_by ends_a_word word (without_tabs text) ≡ begins_by ends_with_tab word text
in_tabs [] text p = ends_tabs text
in_tabs (a ∷ word) [] p = refl
in_tabs (a ∷ word) (b ∷ text) p =
    tab_by (b == 9) a b (begins_by ends_a_word word (without_tabs text)) refl p.0
    ∙ ap (λ (v : Bool). (capital b == a) && v) (in_tabs word text p.1)

-- ---- a carriage return

ends_return : (text : List ℕ) → ends_with_tab (without_return text) ≡ ends_word text
ends_return [] = refl
ends_return (b ∷ []) = by (b == 13) refl
  where
    by : (v : Bool) → (b == 13) ≡ v → ends_with_tab (cond v [] (b ∷ [])) ≡ (b == 32 || (b == 9 || v))
    by true is = or_true (b == 32) (b == 9)
      where
        or_true : (w u : Bool) → true ≡ (w || (u || true))
        or_true true u = refl
        or_true false true = refl
        or_true false false = refl
    by false is = or_false (b == 32) (b == 9)
      where
        or_false : (w u : Bool) → (w || u) ≡ (w || (u || false))
        or_false true u = refl
        or_false false true = refl
        or_false false false = refl
ends_return (b ∷ c ∷ text) = refl

return_by : (v : Bool) (a : ℕ) (word : List ℕ) (b : ℕ) → (b == 13) ≡ v → IsPlain a → begins_by ends_with_tab word [] ≡ begins_by ends_word word []
    → begins_by ends_with_tab (a ∷ word) (cond v [] (b ∷ [])) ≡ ((capital b == a) && begins_by ends_word word [])
return_by true a word b is p rest = sym (not_first a b 13 (begins_by ends_word word []) (eqb-true b 13 is) p.end)
return_by false a word b is p rest = ap (λ (v : Bool). (capital b == a) && v) rest

in_nothing : (word : List ℕ) → begins_by ends_with_tab word [] ≡ begins_by ends_word word []
in_nothing [] = refl
in_nothing (a ∷ word) = refl

in_return : (word text : List ℕ) → ArePlain word → begins_by ends_with_tab word (without_return text) ≡ begins_by ends_word word text
in_return [] text p = ends_return text
in_return (a ∷ word) [] p = refl
in_return (a ∷ word) (b ∷ []) p = return_by (b == 13) a word b refl p.0 (in_nothing word)
in_return (a ∷ word) (b ∷ c ∷ text) p = ap (λ (v : Bool). (capital b == a) && v) (in_return word (c ∷ text) p.1)

-- ---- all of it

-- a control word stands on a line's card where it stands on the line, and ends there
pub on_line : (word line : List ℕ) → ArePlain word → is_control word (cleaned line) ≡ (bytes_eq (folded (take (length word) line)) word && ends_word (drop (length word) line))
on_line word line p =
    let tabs = without_tabs (without_return line) in
    by_front ends_a_word word (cleaned line)
    ∙ in_trimmed word (with_tildes tabs) p
    ∙ in_tildes word tabs p
    ∙ in_tabs word (without_return line) p
    ∙ in_return word line p
    ∙ sym (by_front ends_word word line)

-- on a line that is shorter than the word it doesn't
pub not_on_line : (word line : List ℕ) → ArePlain word → length line < length word → is_control word (cleaned line) ≡ false
not_on_line word line p short = on_line word line p ∙ by_front ends_word word line ∙ too_short ends_word word line short
