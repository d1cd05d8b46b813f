-- The next piece.
use Rattle.std.proofs.Common.{◌≡◌, ◌==◌, ℕ, ◌+◌, ◌≤◌, ◌<◌, List, [], ◌∷◌, ◌++◌, length, Bool, true, false, not, refl, sym, ◌∙◌, ap, subst, arith, append_assoc, length-append, ◌&&◌, Some, ◌⊎◌, inl, inr}
use Rattle.std.specs.Char.{is_ascii_alphabetic, is_ascii_digit}
use Rattle.std.proofs.lemmas.List.{append_cancel_left}
use Rattle.std.proofs.lemmas.Bool.Decides.{nat_tests}
use Rattle.algolw_scanner.specs.declared.cursor.Cursor.{Cursor}
use Rattle.algolw_tree.specs.declared.tokens.Symbol.{Symbol}
use Rattle.algolw_tree.specs.Words.{opens_comment}
use Rattle.algolw_scanner.proofs.Classes.{blank_test}
use Rattle.algolw_tree.specs.Chars.{class, Class, Blank, Letter, Digit, Quote, Sharp, Other, begins, name_char}
use Rattle.algolw_scanner.specs.Front.{Outcome, Pass, front, front_of}
use Rattle.algolw_tree.specs.Tokens.{text, walk, Piece, Separator, Reads, ReadsNothing, IsRun, IsName, IsComment, begins_with, symbol_of, fault, fault_of}
use Rattle.algolw_scanner.specs.Matches.{Matches, Opens}
use Rattle.algolw_scanner.specs.Cursors.{clean, text_at, Sound, Behind, no_semicolon}
use Rattle.algolw_scanner.proofs.Fronts.{reads_by, nothing_by, run_one, tail_is}
use Rattle.algolw_scanner.proofs.Names.{name_matches, same_name, same_comment}
use Rattle.algolw_scanner.proofs.Numbers.{number_matches}
use Rattle.algolw_scanner.proofs.Quotes.{quoted_matches}
use Rattle.algolw_scanner.proofs.Symbols.{symbol_matches}
use Rattle.algolw_scanner.proofs.Bits.{bits_matches}
use Rattle.algolw_scanner.proofs.Steps.{behind_on}

blank_length : (c : ℕ) (v : List ℕ) → c ∷ v ≡ 32 ∷ [] → length v ≤ 0
blank_length c v e = let h : v ≡ [] = tail_is e in omega (arith, ap length h)

blank_matches : (c : ℕ) (cs t : List ℕ) → class c ≡ Blank → Matches (c ∷ cs) t (Pass cs)
blank_matches c cs t l =
    let q : (c == 32) ≡ true = blank_test (c == 32) (is_ascii_alphabetic c) (is_ascii_digit c) (c == 34) (c == 35) l in
    let f : c ≡ 32 = grind (arith, nat_tests) in
    (c ∷ [], refl, reads_by c [] (cs ++ 10 ∷ t) Separator Blank l (ap (λ x. x ∷ []) f, refl) (λ v z y e h. blank_length c v h.0))

clean_first : (b d : Bool) → not b && d ≡ true → b ≡ false
clean_first true d e = sym e
clean_first false d e = refl

clean_others : (b d : Bool) → not b && d ≡ true → d ≡ true
clean_others true d e = absurd (cc)
clean_others false d e = e

of_class : (c : ℕ) (cs t : List ℕ) → clean (c ∷ cs) ≡ true → (k : Class) → class c ≡ k → Matches (c ∷ cs) t (front_of k (c ∷ cs))
of_class c cs t n Blank e = blank_matches c cs t e
of_class c cs t n Letter e = name_matches c cs t e
of_class c cs t n Digit e = number_matches c cs t e
of_class c cs t n Quote e = quoted_matches c cs t e (clean_others (c == 10) (clean cs) n)
of_class c cs t n Sharp e = bits_matches c cs t e
of_class c cs t n Other e = symbol_matches c cs t e (clean_first (c == 10) (clean cs) n)

pub front_matches : (line t : List ℕ) → clean line ≡ true → 0 < length line → Matches line t (front line)
front_matches [] t n h = absurd (omega arith)
front_matches (c ∷ cs) t n h = of_class c cs t n (class c) refl

not_zero : (n : ℕ) → (n == 0) ≡ false → 0 < n
not_zero n e = grind (arith, nat_tests)

pub matches_at : (c : Cursor) → Sound c → (b : Bool) → b ≡ (length c.line.now == 0) → b ≡ false → (o : Outcome) → o ≡ front c.line.now → Matches c.line.now (text c.later.now) o
matches_at c s b h f o e = subst (λ x. Matches c.line.now (text c.later.now) x) (sym e) (front_matches c.line.now (text c.later.now) s.clean (not_zero (length c.line.now) (sym h ∙ f)))

-- what a piece says of the cursor behind it
pub next_reads : (c n : Cursor) (u w : List ℕ) (x : Piece) → Reads (text_at c) u x w → Behind c u n → (u : List ℕ) × Reads (text_at c) u x (text_at n) × (n.place ≡ walk c.place u) × Sound n
next_reads c n u w x r b =
    (u, subst (λ y. Reads (text_at c) u x y) (append_cancel_left u w (text_at n) (sym r.cut ∙ b.cut)) r, b.place, b.sound)

-- a card's end
feed_symbol : (v : List ℕ) (s : Symbol) → symbol_of (10 ∷ v) ≡ Some s → length v ≤ 0
feed_symbol [] s e = omega arith
feed_symbol (d ∷ []) s e = absurd (cc)
feed_symbol (d ∷ x ∷ v) s e = absurd (cc)

feed_alone : (v : List ℕ) → 10 ∷ v ≡ 10 ∷ [] → length v ≤ 0
feed_alone v e = let h : v ≡ [] = tail_is e in omega (arith, ap length h)

feed_length : (v z : List ℕ) (y : Piece) → begins_with Other (10 ∷ v) z y → length v ≤ 0
feed_length v z y (inl a) = feed_alone v a.0
feed_length v z y (inr b) = feed_symbol v b.0 b.1

pub feed_reads : (w : List ℕ) → Reads (10 ∷ w) (10 ∷ []) Separator w
feed_reads w = reads_by 10 [] w Separator Other refl (inl (refl, refl)) (λ v z y e h. feed_length v z y h)

pub card_reads : (c n : Cursor) → Behind c (10 ∷ []) n → (u : List ℕ) × Reads (text_at c) u Separator (text_at n) × (n.place ≡ walk c.place u) × Sound n
card_reads c n b = (10 ∷ [], subst (λ y. Reads y (10 ∷ []) Separator (text_at n)) (sym b.cut) (feed_reads (text_at n)), b.place, b.sound)

pub end_reads : (c : Cursor) → text_at c ≡ 10 ∷ [] → (u : List ℕ) × Reads (text_at c) u Separator [] × (record { card = c.place.card + 1; column = 1 } ≡ walk c.place u)
end_reads c e = (10 ∷ [], subst (λ y. Reads y (10 ∷ []) Separator []) (sym e) (feed_reads []), refl)

-- a comment
begins_less : (p : ℕ → Bool) (b z : List ℕ) (x : ℕ) → begins p ((b ++ x ∷ []) ++ z) ≡ false → begins p (b ++ x ∷ []) ≡ false
begins_less p [] z x e = e
begins_less p (y ∷ b) z x e = e

module _ (c : ℕ) (u w : List ℕ) (letter : class c ≡ Letter) (run : IsRun name_char (c ∷ u) w) (opens : opens_comment (c ∷ u) ≡ true) where
  no_name : (v z : List ℕ) (y : Piece) → u ++ w ≡ v ++ z → IsName (c ∷ v) z y → ⊥
  no_name v z y e n =
      let h : c ∷ u ≡ c ∷ v = same_name c u w letter run.all run.ends v z y e n in
      let g : opens_comment (c ∷ u) ≡ false = subst (λ s. opens_comment s ≡ false) (sym h) n.no_comment in cc

  -- what stands behind the word, in another comment there
  same_behind : (v z : List ℕ) (y : Piece) → u ++ w ≡ v ++ z → (r : IsComment (c ∷ v) y) → w ≡ r.words ++ 59 ∷ z
  same_behind v z y e r =
      let h : c ∷ u ≡ r.word = same_comment c u w letter run.all run.ends v z y e r in
      append_cancel_left (c ∷ u) w (r.words ++ 59 ∷ z) (ap (λ s. c ∷ s) e ∙ ap (λ s. s ++ z) r.cut ∙ append_assoc r.word (r.words ++ 59 ∷ []) z ∙ ap (λ s. r.word ++ s) (append_assoc r.words (59 ∷ []) z) ∙ ap (λ s. s ++ (r.words ++ 59 ∷ z)) (sym h))

  comment_length : (v : List ℕ) (y : Piece) (r : IsComment (c ∷ v) y) → c ∷ u ≡ r.word → length v ≡ length u + (length r.words + 1)
  comment_length v y r h = omega (arith, ap length r.cut, length-append r.word (r.words ++ 59 ∷ []), length-append r.words (59 ∷ []), ap length h)

  no_longer : (b z : List ℕ) → w ≡ b ++ 59 ∷ z → no_semicolon b ≡ true → (v x : List ℕ) (y : Piece) → u ++ w ≡ v ++ x → IsName (c ∷ v) x y ⊎ IsComment (c ∷ v) y → length v ≤ length (u ++ (b ++ 59 ∷ []))
  no_longer b z e n v x y g (inl a) = absurd (no_name v x y g a)
  no_longer b z e n v x y g (inr r) =
      let h : r.words ≡ b = run_one (λ s. not (s == 59)) r.words (59 ∷ x) b (59 ∷ z) (sym (same_behind v x y g r) ∙ e) r.none refl n refl in
      omega (arith, ap length h, comment_length v y r (same_comment c u w letter run.all run.ends v x y g r), length-append u (b ++ 59 ∷ []), length-append b (59 ∷ []))

  pub comment_reads : (b z : List ℕ) → w ≡ (b ++ 59 ∷ []) ++ z → no_semicolon b ≡ true → Reads (c ∷ ((u ++ (b ++ 59 ∷ [])) ++ z)) (c ∷ (u ++ (b ++ 59 ∷ []))) Separator z
  comment_reads b z e n = reads_by c (u ++ (b ++ 59 ∷ [])) z Separator Letter letter
      (inr (record { word = c ∷ u; words = b; cut = refl; run = record { all = run.all; ends = begins_less name_char b z 59 (subst (λ s. begins name_char s ≡ false) e run.ends) }; comment = opens; none = n; is = refl }))
      (λ v x y g h. no_longer b z (e ∙ append_assoc b (59 ∷ []) z) n v x y (ap (λ s. u ++ s) e ∙ sym (append_assoc u (b ++ 59 ∷ []) z) ∙ g) h)

  pub comment_nothing : no_semicolon w ≡ true → ReadsNothing (c ∷ (u ++ w))
  comment_nothing n = nothing_by c (u ++ w) Letter letter (λ v z y e h. go v z y e h)
    where
      has_none : (a b : List ℕ) → no_semicolon (a ++ 59 ∷ b) ≡ true → ⊥
      has_none [] b e = cc
      has_none (x ∷ a) b e = has_none a b (clean_others (x == 59) (no_semicolon (a ++ 59 ∷ b)) e)

      go : (v z : List ℕ) (y : Piece) → u ++ w ≡ v ++ z → IsName (c ∷ v) z y ⊎ IsComment (c ∷ v) y → ⊥
      go v z y e (inl a) = no_name v z y e a
      go v z y e (inr r) = has_none r.words z (subst (λ s. no_semicolon s ≡ true) (same_behind v z y e r) n)

-- at the cursor
module _ (c : Cursor) (r : List ℕ) (o : Opens c.line.now (text c.later.now) r) (m : Cursor) (b : Behind c (o.first ∷ o.more) m) where
  -- the text behind the word
  word_text : r ++ 10 ∷ text c.later.now ≡ text_at m
  word_text = append_cancel_left (o.first ∷ o.more) (r ++ 10 ∷ text c.later.now) (text_at m) (sym (append_assoc (o.first ∷ o.more) r (10 ∷ text c.later.now)) ∙ ap (λ s. s ++ 10 ∷ text c.later.now) (sym o.cut) ∙ b.cut)

  word_run : IsRun name_char (o.first ∷ o.more) (text_at m)
  word_run = subst (λ s. IsRun name_char (o.first ∷ o.more) s) word_text o.run

  pub skipped_comment : (n : Cursor) → (u : List ℕ) × (no_semicolon u ≡ true) × Behind m (u ++ 59 ∷ []) n → (u : List ℕ) × Reads (text_at c) u Separator (text_at n) × (n.place ≡ walk c.place u) × Sound n
  skipped_comment n (u, f, h) =
      let k : Behind c (o.first ∷ (o.more ++ (u ++ 59 ∷ []))) n = behind_on c m n (o.first ∷ o.more) (u ++ 59 ∷ []) b h in
      (o.first ∷ (o.more ++ (u ++ 59 ∷ [])), subst (λ s. Reads s (o.first ∷ (o.more ++ (u ++ 59 ∷ []))) Separator (text_at n)) (sym k.cut) (comment_reads o.first o.more (text_at m) o.letter word_run o.comment u (text_at n) h.cut f), k.place, k.sound)

  pub endless_comment : no_semicolon (text_at m) ≡ true → ReadsNothing (text_at c) × (◌≡◌ {A = ℕ} 16 (fault (text_at c))) × (c.place ≡ c.place)
  endless_comment n =
      (subst ReadsNothing (sym b.cut) (comment_nothing o.first o.more (text_at m) o.letter word_run o.comment n), sym (ap fault b.cut ∙ ap (λ k. fault_of k (o.first ∷ (o.more ++ text_at m))) o.letter), refl)
