-- The number that is given where nothing is read says what is wrong there.
use Rattle.std.proofs.Common.{◌≡◌, ◌==◌, ℕ, List, [], ◌∷◌, ◌++◌, Bool, true, false, not, cond, refl, sym, ◌∙◌, ap, subst, arith, append_assoc, append-nil, ◌&&◌, inl, inr, Option, Some, None, nat_lt, pos}
use Rattle.std.specs.List.{list_all}
use Rattle.std.specs.Char.{is_ascii_alphabetic, is_ascii_digit, is_ascii_alphanumeric}
use Rattle.std.proofs.lemmas.Bool.Decides.{nat_tests}
use Rattle.algolw_tree.specs.declared.tokens.TokenKind.TheVariants.{Number, BitsLit, Quoted, Symbol as ASymbol}
use Rattle.algolw_tree.specs.declared.tokens.Symbol.{Symbol}
use Rattle.algolw_tree.specs.Words.{name_kind, opens_comment}
use Rattle.algolw_tree.specs.Chars.{class, Class, Blank, Letter, Digit, Quote, Sharp, Other, name_char, begins, spoils, value_from, hex_from, are_bits}
use Rattle.algolw_tree.specs.Symbols.{short}
use Rattle.algolw_tree.specs.Tokens.{Piece, Separator, OfKind, begins_with, ReadsNothing, IsRun, Spells, fault, fault_of, past_digits, quote_fault}
use Rattle.algolw_scanner.specs.Laws.{IsWrong, not_used, not_closed, too_large, no_integer, no_bits, no_characters, not_ended}
use Rattle.algolw_scanner.proofs.Classes.{blank_test, digit_test, quote_test, sharp_test}
use Rattle.algolw_scanner.proofs.Fronts.{head_is, tail_is}
use Rattle.algolw_scanner.proofs.Names.{letter_in_name}

-- the longest run of such characters at the front, and what follows it
record Longest (p : ℕ → Bool) (text : List ℕ) : Type 0 where
  front : List ℕ
  after : List ℕ
  cut : text ≡ front ++ after
  run : IsRun p front after

run_with : (p : ℕ → Bool) (x : ℕ) (u w : List ℕ) → p x ≡ true → IsRun p u w → IsRun p (x ∷ u) w
run_with p x u w e r = record { all = rw e r.all; ends = r.ends }

longest_with : (p : ℕ → Bool) (x : ℕ) (xs : List ℕ) → Longest p xs → (b : Bool) → p x ≡ b → Longest p (x ∷ xs)
longest_with p x xs l true e = record {
  front = x ∷ l.front;
  after = l.after;
  cut = ap (λ s. x ∷ s) l.cut;
  run = run_with p x l.front l.after e l.run;
}
longest_with p x xs l false e = record { front = []; after = x ∷ xs; cut = refl; run = record { all = refl; ends = e } }

longest : (p : ℕ → Bool) (xs : List ℕ) → Longest p xs
longest p [] = record { front = []; after = []; cut = refl; run = record { all = refl; ends = refl } }
longest p (x ∷ xs) = longest_with p x xs (longest p xs) (p x) refl

-- the classes of one character
blank_is : (c : ℕ) → class c ≡ Blank → c ≡ 32
blank_is c l = let f : (c == 32) ≡ true = blank_test (c == 32) (is_ascii_alphabetic c) (is_ascii_digit c) (c == 34) (c == 35) l in grind (arith, nat_tests)

quote_is : (c : ℕ) → class c ≡ Quote → c ≡ 34
quote_is c l = let f : (c == 34) ≡ true = quote_test (c == 32) (is_ascii_alphabetic c) (is_ascii_digit c) (c == 34) (c == 35) l in grind (arith, nat_tests)

sharp_is : (c : ℕ) → class c ≡ Sharp → c ≡ 35
sharp_is c l = let f : (c == 35) ≡ true = sharp_test (c == 32) (is_ascii_alphabetic c) (is_ascii_digit c) (c == 34) (c == 35) l in grind (arith, nat_tests)

digit_is : (c : ℕ) → class c ≡ Digit → is_ascii_digit c ≡ true
digit_is c l = digit_test (c == 32) (is_ascii_alphabetic c) (is_ascii_digit c) (c == 34) (c == 35) l

semicolon_is : (d : ℕ) → not (d == 59) ≡ false → d ≡ 59
semicolon_is d e = grind (arith, nat_tests)

begins_before : (p : ℕ → Bool) (u w : List ℕ) (x : ℕ) → begins p (u ++ x ∷ w) ≡ false → begins p (u ++ x ∷ []) ≡ false
begins_before p [] w x e = e
begins_before p (y ∷ u) w x e = e

-- where nothing is read, there is no front of the first character's class
module _ (c : ℕ) (rest : List ℕ) (none : ReadsNothing (c ∷ rest)) where
  no_front : (k : Class) → class c ≡ k → (u w : List ℕ) (y : Piece) → rest ≡ u ++ w → begins_with k (c ∷ u) w y → ⊥
  no_front k l u w y e h = none (c ∷ u) w y (ap (λ s. c ∷ s) e) (subst (λ j. begins_with j (c ∷ u) w y) (sym l) h)

  blank_wrong : class c ≡ Blank → IsWrong 10 (c ∷ rest)
  blank_wrong l = absurd (no_front Blank l [] rest Separator refl (ap (λ x. x ∷ []) (blank_is c l), refl))

  -- the word, and a semicolon behind it
  comment_read : (u w words z : List ℕ) → class c ≡ Letter → rest ≡ u ++ w → IsRun name_char (c ∷ u) w → opens_comment (c ∷ u) ≡ true → w ≡ words ++ 59 ∷ z → list_all (λ d. not (d == 59)) words ≡ true → ⊥
  comment_read u w words z l e r o f n = no_front Letter l (u ++ (words ++ 59 ∷ [])) z Separator
      (e ∙ ap (λ s. u ++ s) (f ∙ sym (append_assoc words (59 ∷ []) z)) ∙ sym (append_assoc u (words ++ 59 ∷ []) z))
      (inr (record {
        word = c ∷ u;
        words = words;
        cut = refl;
        run = record { all = r.all; ends = begins_before name_char words z 59 (subst (λ s. begins name_char s ≡ false) f r.ends) };
        comment = o;
        none = n;
        is = refl;
      }))

  -- the word, and what follows it up to the first semicolon, if there is one
  comment_wrong : (u w : List ℕ) → class c ≡ Letter → rest ≡ u ++ w → IsRun name_char (c ∷ u) w → opens_comment (c ∷ u) ≡ true → (words behind : List ℕ) → w ≡ words ++ behind → IsRun (λ d. not (d == 59)) words behind → IsWrong 16 (c ∷ rest)
  comment_wrong u w l e r o words [] f s = not_ended u w e l r o (subst (λ x. list_all (λ d. not (d == 59)) x ≡ true) (sym (append-nil words) ∙ sym f) s.all)
  comment_wrong u w l e r o words (d ∷ z) f s = absurd (comment_read u w words z l e r o (subst (λ x. w ≡ words ++ x ∷ z) (semicolon_is d s.ends) f) s.all)

  letter_wrong : (u w : List ℕ) → class c ≡ Letter → rest ≡ u ++ w → IsRun name_char (c ∷ u) w → (b : Bool) → opens_comment (c ∷ u) ≡ b → IsWrong 16 (c ∷ rest)
  letter_wrong u w l e r true o = let s : Longest (λ d. not (d == 59)) w = longest (λ d. not (d == 59)) w in comment_wrong u w l e r o s.front s.after s.cut s.run
  letter_wrong u w l e r false o = absurd (no_front Letter l u w (OfKind (name_kind (c ∷ u))) e (inl (record { run = r; no_comment = o; is = refl })))

  number_wrong : (u w : List ℕ) → class c ≡ Digit → rest ≡ u ++ w → IsRun is_ascii_digit (c ∷ u) w → (b : Bool) → spoils w ≡ b → (d : Bool) → nat_lt 2147483647 (value_from 0 (c ∷ u)) ≡ d → IsWrong (cond b 13 12) (c ∷ rest)
  number_wrong u w l e r true f d g = no_integer (c ∷ u) w (ap (λ s. c ∷ s) e) (omega arith) r f
  number_wrong u w l e r false f true g = too_large (c ∷ u) w (ap (λ s. c ∷ s) e) (omega arith) r f (grind (arith, nat_tests))
  number_wrong u w l e r false f false g = absurd (no_front Digit l u w (OfKind (Number (pos (value_from 0 (c ∷ u))))) e (record { run = r; clean = f; fits = grind (arith, nat_tests); is = refl }))

  symbol_wrong : class c ≡ Other → (c == 10) ≡ false → (o : Option Symbol) → short c ≡ o → IsWrong 10 (c ∷ rest)
  symbol_wrong l f None e = not_used l f e
  symbol_wrong l f (Some s) e = absurd (no_front Other l [] rest (OfKind (ASymbol s)) refl (inr (s, e, refl)))

  other_wrong : class c ≡ Other → (b : Bool) → (c == 10) ≡ b → IsWrong 10 (c ∷ rest)
  other_wrong l true f = let g : c ≡ 10 = grind (arith, nat_tests) in absurd (no_front Other l [] rest Separator refl (inl (ap (λ x. x ∷ []) g, refl)))
  other_wrong l false f = symbol_wrong l f (short c) refl

-- what follows the run of digits
past_run : (u w : List ℕ) → list_all is_ascii_digit u ≡ true → begins is_ascii_digit w ≡ false → past_digits (u ++ w) ≡ w
past_run [] [] a b = refl
past_run [] (x ∷ w) a b = rw b refl
past_run (x ∷ u) w a b = go (is_ascii_digit x) a (past_run u w)
  where
    go : (d : Bool) → d && list_all is_ascii_digit u ≡ true → (list_all is_ascii_digit u ≡ true → begins is_ascii_digit w ≡ false → past_digits (u ++ w) ≡ w) → cond d (past_digits (u ++ w)) (x ∷ (u ++ w)) ≡ w
    go true h k = k h b
    go false h k = absurd (cc)

module _ (rest : List ℕ) (none : ReadsNothing (34 ∷ rest)) where
  -- a literal that says something would be read
  says_nothing : (inner more after : List ℕ) (d : ℕ) → rest ≡ inner ++ 34 ∷ after → Spells inner (d ∷ more) → ⊥
  says_nothing inner more after d e s = no_front 34 rest none Quote refl (inner ++ 34 ∷ []) after (OfKind (Quoted (d ∷ more))) (e ∙ sym (append_assoc inner (34 ∷ []) after)) (record { inner = inner; first = d; more = more; cut = refl; spells = s; is = refl })

  -- what is closed at its quote is empty
  only_empty : ((after : List ℕ) → rest ≡ 34 ∷ after → begins (λ c. c == 34) after ≡ true) → (inner said after : List ℕ) → rest ≡ inner ++ 34 ∷ after → Spells inner said → (inner ≡ []) × (begins (λ c. c == 34) after ≡ true)
  only_empty h [] [] after e s = (refl, h after e)
  only_empty h (x ∷ inner) [] after e s = elim s [ ]
  only_empty h inner (d ∷ more) after e s = absurd (says_nothing inner more after d e s)

quote_cases : (x : ℕ) (xs : List ℕ) → ReadsNothing (34 ∷ x ∷ xs) → (b : Bool) → (x == 34) ≡ b → (d : Bool) → begins (λ c. c == 34) xs ≡ d → IsWrong (cond b (cond d 11 15) 11) (34 ∷ x ∷ xs)
quote_cases x xs n true e true f = not_closed (only_empty (x ∷ xs) n (λ after g. subst (λ s. begins (λ c. c == 34) s ≡ true) (tail_is g) f))
quote_cases x xs n true e false f = let g : x ≡ 34 = grind (arith, nat_tests) in subst (λ y. IsWrong 15 (34 ∷ y ∷ xs)) (sym g) (no_characters f)
quote_cases x xs n false e d f = not_closed (only_empty (x ∷ xs) n (λ after g. let h : x ≡ 34 = head_is g in let k : (x == 34) ≡ true = ap (λ y. y == 34) h in absurd (cc)))

quote_here : (rest : List ℕ) → ReadsNothing (34 ∷ rest) → IsWrong (quote_fault (34 ∷ rest)) (34 ∷ rest)
quote_here [] n = not_closed (only_empty [] n (λ after g. absurd (cc)))
quote_here (x ∷ xs) n = quote_cases x xs n (x == 34) refl (begins (λ c. c == 34) xs) refl

quote_wrong : (c : ℕ) (rest : List ℕ) → ReadsNothing (c ∷ rest) → class c ≡ Quote → IsWrong (quote_fault (c ∷ rest)) (c ∷ rest)
quote_wrong c rest n l = subst (λ x. IsWrong (quote_fault (x ∷ rest)) (x ∷ rest)) (sym (quote_is c l)) (quote_here rest (subst (λ x. ReadsNothing (x ∷ rest)) (quote_is c l) n))

sharp_cases : (rest u w : List ℕ) → ReadsNothing (35 ∷ rest) → rest ≡ u ++ w → IsRun is_ascii_alphanumeric u w → (b : Bool) → are_bits u ≡ b → IsWrong 14 (35 ∷ rest)
sharp_cases rest u w n e r true f = absurd (no_front 35 rest n Sharp refl u w (OfKind (BitsLit (hex_from 0 u))) e (record { digits = u; cut = refl; run = r; hex = f; is = refl }))
sharp_cases rest u w n e r false f = no_bits u w e r f

sharp_here : (rest : List ℕ) → ReadsNothing (35 ∷ rest) → Longest is_ascii_alphanumeric rest → IsWrong 14 (35 ∷ rest)
sharp_here rest n l = sharp_cases rest l.front l.after n l.cut l.run (are_bits l.front) refl

sharp_wrong : (c : ℕ) (rest : List ℕ) → ReadsNothing (c ∷ rest) → class c ≡ Sharp → IsWrong 14 (c ∷ rest)
sharp_wrong c rest n l = subst (λ x. IsWrong 14 (x ∷ rest)) (sym (sharp_is c l)) (sharp_here rest (subst (λ x. ReadsNothing (x ∷ rest)) (sharp_is c l) n) (longest is_ascii_alphanumeric rest))

name_wrong : (c : ℕ) (rest : List ℕ) → ReadsNothing (c ∷ rest) → class c ≡ Letter → Longest name_char rest → IsWrong 16 (c ∷ rest)
name_wrong c rest n l r = letter_wrong c rest n r.front r.after l r.cut (run_with name_char c r.front r.after (letter_in_name c l) r.run) (opens_comment (c ∷ r.front)) refl

digits_wrong : (c : ℕ) (rest u w : List ℕ) → ReadsNothing (c ∷ rest) → class c ≡ Digit → rest ≡ u ++ w → IsRun is_ascii_digit (c ∷ u) w → IsWrong (cond (spoils (past_digits (c ∷ rest))) 13 12) (c ∷ rest)
digits_wrong c rest u w n l e r =
    let f : w ≡ past_digits (c ∷ rest) = sym (ap (λ s. past_digits (c ∷ s)) e ∙ past_run (c ∷ u) w r.all r.ends) in
    subst (λ s. IsWrong (cond (spoils s) 13 12) (c ∷ rest)) f (number_wrong c rest n u w l e r (spoils w) refl (nat_lt 2147483647 (value_from 0 (c ∷ u))) refl)

digit_wrong : (c : ℕ) (rest : List ℕ) → ReadsNothing (c ∷ rest) → class c ≡ Digit → Longest is_ascii_digit rest → IsWrong (cond (spoils (past_digits (c ∷ rest))) 13 12) (c ∷ rest)
digit_wrong c rest n l r = digits_wrong c rest r.front r.after n l r.cut (run_with is_ascii_digit c r.front r.after (digit_is c l) r.run)

of_class : (c : ℕ) (rest : List ℕ) → ReadsNothing (c ∷ rest) → (k : Class) → class c ≡ k → IsWrong (fault_of k (c ∷ rest)) (c ∷ rest)
of_class c rest n Blank l = blank_wrong c rest n l
of_class c rest n Letter l = name_wrong c rest n l (longest name_char rest)
of_class c rest n Digit l = digit_wrong c rest n l (longest is_ascii_digit rest)
of_class c rest n Quote l = quote_wrong c rest n l
of_class c rest n Sharp l = sharp_wrong c rest n l
of_class c rest n Other l = other_wrong c rest n l (c == 10) refl

pub means_it : (c : ℕ) (rest : List ℕ) → ReadsNothing (c ∷ rest) → IsWrong (fault (c ∷ rest)) (c ∷ rest)
means_it c rest n = of_class c rest n (class c) refl
