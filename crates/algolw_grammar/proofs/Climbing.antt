-- With one more level of nesting a grammar says no less, and its reader changes only where it went beyond the limit.
use Rattle.std.proofs.Common.{◌≡◌, ℕ, zero, suc, ◌+◌, ◌≤◌, Bool, true, false, List, [], ◌∷◌, length, refl, sym, ◌∙◌, ap, subst, inl, inr, arith, ◌⊎◌, Option, Some, None, le_refl}
use Rattle.algolw_tree.specs.declared.tokens.Token.{Token}
use Rattle.algolw_tree.specs.Parts.{Beyond, Part, token, nothing, empty, both, choice, made, many, many_spells, else_part, beyond, nowhere, follow, is_else}
use Rattle.algolw_grammar.specs.Kinds.{opens}
use Rattle.algolw_grammar.specs.Readers.{Out, Got, Bad, Deep, Reader, taken, behind, then, mapped, picked, no_else, on_front, more, turns, behind_label, one_label, read_token, read_nothing, read_empty, read_both, read_made, read_choice, read_else, read_many, read_deep, read_labelled}
use Rattle.algolw_grammar.proofs.Good.{Climbs, IsDeep, marked, read_beyond}
use Rattle.algolw_grammar.proofs.Unread.{Unread}

-- One dives, or the other gives the same.
abbrev Same : {A : Type 0} → Out A → Out A → Type 0
Same o o2 = IsDeep o ⊎ (o ≡ o2)

-- What is read leaves at most so many tokens.
abbrev Leaves : {A : Type 0} → Out A → ℕ → Type 0
Leaves (Got x e r) n = length r ≤ n
Leaves (Bad e r) n = Unit {0}
Leaves (Deep r) n = Unit {0}

leaves : {A : Type 0} (o : Out A) (n : ℕ) → ((x : A) (e : Beyond) (r : List Token) → o ≡ Got x e r → length r ≤ n) → Leaves o n
leaves (Got x e r) n h = h x e r refl
leaves (Bad e r) n h = tt
leaves (Deep r) n h = tt

left_of : {A : Type 0} (o : Out A) (n : ℕ) → Leaves o n → (x : A) (e : Beyond) (r : List Token) → o ≡ Got x e r → length r ≤ n
left_of o n h x e r q = subst (λ o. Leaves o n) q h

of_less : {A : Type 0} {g h : Part A} {p q : Reader A} {j : ℕ} → Climbs g h p q j → (w : List Token) → Leaves (p w) (length w)
of_less {p} c w = leaves (p w) (length w) (c.less w)

leaves_more : {A : Type 0} (o : Out A) (m n : ℕ) → m ≤ n → Leaves o m → Leaves o n
leaves_more (Got x e r) m n i h = omega arith
leaves_more (Bad e r) m n i h = tt
leaves_more (Deep r) m n i h = tt

double_le : (a b j : ℕ) → a ≤ b → b + b ≤ j → a + a ≤ j
double_le a b j i h = omega arith

-- one token

taken_shallow : {A : Type 0} (o : Option A) (t : Token) (w : List Token) → IsDeep (taken o t w) → ⊥
taken_shallow (Some x) t w d = d
taken_shallow None t w d = d

taken_leaves : {A : Type 0} (o : Option A) (t : Token) (w : List Token) → Leaves (taken o t w) (length w)
taken_leaves (Some x) t w = le_refl (length w)
taken_leaves None t w = tt

token_shallow : {A : Type 0} (r : Token → Option A) (w : List Token) → IsDeep (read_token r w) → ⊥
token_shallow r [] d = d
token_shallow r (t ∷ w) d = taken_shallow (r t) t w d

token_leaves : {A : Type 0} (r : Token → Option A) (w : List Token) → Leaves (read_token r w) (length w)
token_leaves r [] = tt
token_leaves r (t ∷ w) = leaves_more (taken (r t) t w) (length w) (suc (length w)) (omega arith) (taken_leaves (r t) t w)

pub token_climbs : {A : Type 0} (f : A → Token) (r : Token → Option A) (j : ℕ) → Climbs (token f) (token f) (read_token r) (read_token r) j
token_climbs f r j = record {
  spelled = λ c u x b s. s;
  begins = λ u b s. s;
  same = λ w. inr refl;
  shallow = λ w l. token_shallow r w;
  less = λ w. left_of (read_token r w) (length w) (token_leaves r w);
}

-- no token

pub nothing_climbs : {A : Type 0} (x : A) (j : ℕ) → Climbs (nothing x) (nothing x) (read_nothing x) (read_nothing x) j
nothing_climbs x j = record {
  spelled = λ c u x b s. s;
  begins = λ u b s. s;
  same = λ w. inr refl;
  shallow = λ w l d. d;
  less = λ w. left_of (read_nothing x w) (length w) (le_refl (length w));
}

empty_shallow : {A : Type 0} (f : Token → A) (w : List Token) → IsDeep (read_empty f w) → ⊥
empty_shallow f [] d = d
empty_shallow f (t ∷ w) d = d

empty_leaves : {A : Type 0} (f : Token → A) (w : List Token) → Leaves (read_empty f w) (length w)
empty_leaves f [] = tt
empty_leaves f (t ∷ w) = le_refl (suc (length w))

pub empty_climbs : {A : Type 0} (f : Token → A) (j : ℕ) → Climbs (empty f) (empty f) (read_empty f) (read_empty f) j
empty_climbs f j = record {
  spelled = λ c u x b s. s;
  begins = λ u b s. s;
  same = λ w. inr refl;
  shallow = λ w l. empty_shallow f w;
  less = λ w. left_of (read_empty f w) (length w) (empty_leaves f w);
}

-- the one and then the other

module _ {A B : Type 0} where
  behind_same : (x : A) (d : Beyond) (o o2 : Out B) → Same o o2 → Same (behind x d o) (behind x d o2)
  behind_same x d o o2 (inr e) = inr (ap (behind x d) e)
  behind_same x d (Got y e r) o2 (inl k) = absurd k
  behind_same x d (Bad e r) o2 (inl k) = absurd k
  behind_same x d (Deep r) o2 (inl k) = inl tt

  behind_deep : (x : A) (d : Beyond) (o : Out B) → IsDeep (behind x d o) → IsDeep o
  behind_deep x d (Got y e r) k = k
  behind_deep x d (Bad e r) k = k
  behind_deep x d (Deep r) k = tt

  behind_leaves : (x : A) (d : Beyond) (o : Out B) (n : ℕ) → Leaves o n → Leaves (behind x d o) n
  behind_leaves x d (Got y e r) n h = h
  behind_leaves x d (Bad e r) n h = tt
  behind_leaves x d (Deep r) n h = tt

  then_same : (p2 q2 : Reader B) → ((w : List Token) → Same (p2 w) (q2 w)) → (o o2 : Out A) → Same o o2 → Same (then p2 o) (then q2 o2)
  then_same p2 q2 h o o2 (inr e) = along o o2 e (next o)
    where
      next : (o : Out A) → Same (then p2 o) (then q2 o)
      next (Got x d r) = behind_same x d (p2 r) (q2 r) (h r)
      next (Bad d r) = inr refl
      next (Deep r) = inl tt

      along : (o o2 : Out A) → o ≡ o2 → Same (then p2 o) (then q2 o) → Same (then p2 o) (then q2 o2)
      along o o2 e (inl d) = inl d
      along o o2 e (inr f) = inr (f ∙ ap (then q2) e)
  then_same p2 q2 h (Got x d r) o2 (inl k) = absurd k
  then_same p2 q2 h (Bad d r) o2 (inl k) = absurd k
  then_same p2 q2 h (Deep r) o2 (inl k) = inl tt

  then_shallow : (p2 : Reader B) (n : ℕ) → ((w : List Token) → length w ≤ n → IsDeep (p2 w) → ⊥) → (o : Out A) → (IsDeep o → ⊥) → Leaves o n → IsDeep (then p2 o) → ⊥
  then_shallow p2 n h (Got x d r) f l k = h r l (behind_deep x d (p2 r) k)
  then_shallow p2 n h (Bad d r) f l k = k
  then_shallow p2 n h (Deep r) f l k = f k

  then_leaves : (p2 : Reader B) (n : ℕ) → ((w : List Token) → Leaves (p2 w) (length w)) → (o : Out A) → Leaves o n → Leaves (then p2 o) n
  then_leaves p2 n h (Got x d r) l = behind_leaves x d (p2 r) n (leaves_more (p2 r) (length r) n l (h r))
  then_leaves p2 n h (Bad d r) l = tt
  then_leaves p2 n h (Deep r) l = tt

  both_spelled : (g h : Part A) (g2 h2 : Part B) → ((c : Option Token) (u : List Token) (x : A) (b : Beyond) → g.spells c u x b → h.spells c u x b) → ((c : Option Token) (u : List Token) (x : B) (b : Beyond) → g2.spells c u x b → h2.spells c u x b) → (c : Option Token) (u : List Token) (x : A × B) (b : Beyond) → (both g g2).spells c u x b → (both h h2).spells c u x b
  unfolding both
  both_spelled g h g2 h2 k k2 c u x b (v, w, d, e, i, j, s, s2) = (v, w, d, e, i, j, k (follow w c) v x.0 d s, k2 c w x.1 e s2)

  both_begins : (g h : Part A) (g2 h2 : Part B) → ((c : Option Token) (u : List Token) (x : A) (b : Beyond) → g.spells c u x b → h.spells c u x b) → ((u : List Token) (b : Beyond) → g.begins u b → h.begins u b) → ((u : List Token) (b : Beyond) → g2.begins u b → h2.begins u b) → (u : List Token) (b : Beyond) → (both g g2).begins u b → (both h h2).begins u b
  unfolding both
  both_begins g h g2 h2 k m m2 u b (inl s) = inl (m u b s)
  both_begins g h g2 h2 k m m2 u b (inr (v, w, d, e, x, i, j, s, s2)) = inr (v, w, d, e, x, i, j, k (follow w None) v x d s, m2 w e s2)

pub both_climbs : {A B : Type 0} {g h : Part A} {p q : Reader A} {g2 h2 : Part B} {p2 q2 : Reader B} {j : ℕ} → Climbs g h p q j → Climbs g2 h2 p2 q2 j → Climbs (both g g2) (both h h2) (read_both p p2) (read_both q q2) j
both_climbs {g} {h} {p} {q} {g2} {h2} {p2} {q2} {j} a b = record {
  spelled = both_spelled g h g2 h2 a.spelled b.spelled;
  begins = both_begins g h g2 h2 a.spelled a.begins b.begins;
  same = λ w. then_same p2 q2 b.same (p w) (q w) (a.same w);
  shallow = λ w l. then_shallow p2 (length w) (λ r i. b.shallow r (double_le (length r) (length w) j i l)) (p w) (a.shallow w l) (of_less a w);
  less = λ w. left_of (read_both p p2 w) (length w) (then_leaves p2 (length w) (of_less b) (p w) (of_less a w));
}

behind_token_shallow : {A B : Type 0} (r : Token → Option A) {g h : Part B} {p q : Reader B} {k : ℕ} → Climbs g h p q k → (w : List Token) → length w + length w ≤ suc k → IsDeep (read_both (read_token r) p w) → ⊥
behind_token_shallow r c [] l d = d
behind_token_shallow r {p} {k} c (t ∷ w) l d = then_shallow p (length w) (λ r i. c.shallow r (double_le (length r) (length w) k i (fewer (length w) k l))) (taken (r t) t w) (taken_shallow (r t) t w) (taken_leaves (r t) t w) d
  where
    fewer : (n k : ℕ) → suc n + suc n ≤ suc k → n + n ≤ k
    fewer n k l = omega arith

pub behind_token_climbs : {A B : Type 0} (f : A → Token) (r : Token → Option A) {g h : Part B} {p q : Reader B} {k : ℕ} → Climbs g h p q k → Climbs (both (token f) g) (both (token f) h) (read_both (read_token r) p) (read_both (read_token r) q) (suc k)
behind_token_climbs f r {g} {h} {p} {q} {k} c = record {
  spelled = both_spelled (token f) (token f) g h (λ c u x b s. s) c.spelled;
  begins = both_begins (token f) (token f) g h (λ c u x b s. s) (λ u b s. s) c.begins;
  same = λ w. then_same p q c.same (read_token r w) (read_token r w) (inr refl);
  shallow = behind_token_shallow r c;
  less = λ w. left_of (read_both (read_token r) p w) (length w) (then_leaves p (length w) (of_less c) (read_token r w) (token_leaves r w));
}

-- a value made of the parts

module _ {A B : Type 0} (f : A → B) where
  mapped_same : (o o2 : Out A) → Same o o2 → Same (mapped f o) (mapped f o2)
  mapped_same o o2 (inr e) = inr (ap (mapped f) e)
  mapped_same (Got x d r) o2 (inl k) = absurd k
  mapped_same (Bad d r) o2 (inl k) = absurd k
  mapped_same (Deep r) o2 (inl k) = inl tt

  mapped_deep : (o : Out A) → IsDeep (mapped f o) → IsDeep o
  mapped_deep (Got x d r) k = k
  mapped_deep (Bad d r) k = k
  mapped_deep (Deep r) k = k

  mapped_leaves : (o : Out A) (n : ℕ) → Leaves o n → Leaves (mapped f o) n
  mapped_leaves (Got x d r) n h = h
  mapped_leaves (Bad d r) n h = tt
  mapped_leaves (Deep r) n h = tt

pub made_climbs : {A B : Type 0} (f : A → B) {g h : Part A} {p q : Reader A} {j : ℕ} → Climbs g h p q j → Climbs (made f g) (made f h) (read_made f p) (read_made f q) j
unfolding made
made_climbs f {g} {h} {p} {q} {j} c = record {
  spelled = λ k u y b s. (s.0, c.spelled k u s.0 b s.1, s.2);
  begins = c.begins;
  same = λ w. mapped_same f (p w) (q w) (c.same w);
  shallow = λ w l d. c.shallow w l (mapped_deep f (p w) d);
  less = λ w. left_of (read_made f p w) (length w) (mapped_leaves f (p w) (length w) (of_less c w));
}

-- the one or the other

module _ {A : Type 0} (p q p2 q2 : Reader A) where
  picked_same : (c : Bool) (w : List Token) → Same (p w) (q w) → Same (p2 w) (q2 w) → Same (picked c p p2 w) (picked c q q2 w)
  picked_same true w h h2 = h
  picked_same false w h h2 = h2

  picked_deep : (c : Bool) (w : List Token) → (IsDeep (p w) → ⊥) → (IsDeep (p2 w) → ⊥) → IsDeep (picked c p p2 w) → ⊥
  picked_deep true w h h2 = h
  picked_deep false w h h2 = h2

  picked_leaves : (c : Bool) (w : List Token) (n : ℕ) → Leaves (p w) n → Leaves (p2 w) n → Leaves (picked c p p2 w) n
  picked_leaves true w n h h2 = h
  picked_leaves false w n h h2 = h2

choice_spelled : {A : Type 0} {g h : Part A} {p q : Reader A} {g2 h2 : Part A} {p2 q2 : Reader A} {j : ℕ} → Climbs g h p q j → Climbs g2 h2 p2 q2 j → (c : Option Token) (u : List Token) (x : A) (b : Beyond) → (choice g g2).spells c u x b → (choice h h2).spells c u x b
unfolding choice
choice_spelled a b c u x d (inl s) = inl (a.spelled c u x d s)
choice_spelled a b c u x d (inr s) = inr (b.spelled c u x d s)

choice_begins : {A : Type 0} {g h : Part A} {p q : Reader A} {g2 h2 : Part A} {p2 q2 : Reader A} {j : ℕ} → Climbs g h p q j → Climbs g2 h2 p2 q2 j → (u : List Token) (b : Beyond) → (choice g g2).begins u b → (choice h h2).begins u b
unfolding choice
choice_begins a b u d (inl s) = inl (a.begins u d s)
choice_begins a b u d (inr s) = inr (b.begins u d s)

pub choice_climbs : {A : Type 0} (s : List ℕ) {g h : Part A} {p q : Reader A} {g2 h2 : Part A} {p2 q2 : Reader A} {j : ℕ} → Climbs g h p q j → Climbs g2 h2 p2 q2 j → Climbs (choice g g2) (choice h h2) (read_choice s p p2) (read_choice s q q2) j
choice_climbs s {p} {q} {p2} {q2} a b = record {
  spelled = choice_spelled a b;
  begins = choice_begins a b;
  same = λ w. picked_same p q p2 q2 (opens s w) w (a.same w) (b.same w);
  shallow = λ w l. picked_deep p q p2 q2 (opens s w) w (a.shallow w l) (b.shallow w l);
  less = λ w. left_of (read_choice s p p2 w) (length w) (picked_leaves p q p2 q2 (opens s w) w (length w) (of_less a w) (of_less b w));
}

-- a part behind ELSE

else_spelled : {A : Type 0} {g h : Part A} {p q : Reader A} {j : ℕ} → Climbs g h p q j → (c : Option Token) (u : List Token) (x : Option A) (b : Beyond) → (else_part g).spells c u x b → (else_part h).spells c u x b
unfolding else_part
else_spelled a c u None b s = s
else_spelled a c u (Some x) b s = a.spelled c u x b s

pub else_climbs : {A : Type 0} {g h : Part A} {p q : Reader A} {j : ℕ} → Climbs g h p q j → Climbs (else_part g) (else_part h) (read_else p) (read_else q) j
unfolding else_part
else_climbs {p} {q} a = record {
  spelled = else_spelled a;
  begins = a.begins;
  same = λ w. picked_same (read_made Some p) (read_made Some q) no_else no_else (is_else (follow w None)) w (mapped_same Some (p w) (q w) (a.same w)) (inr refl);
  shallow = λ w l. picked_deep (read_made Some p) (read_made Some q) no_else no_else (is_else (follow w None)) w (λ d. a.shallow w l (mapped_deep Some (p w) d)) (λ d. d);
  less = λ w. left_of (read_else p w) (length w) (picked_leaves (read_made Some p) (read_made Some q) no_else no_else (is_else (follow w None)) w (length w) (mapped_leaves Some (p w) (length w) (of_less a w)) (le_refl (length w)));
}

-- any number

module _ {A : Type 0} where
  front_same : (x : A) (d : Beyond) (o o2 : Out (List A)) → Same o o2 → Same (on_front x d o) (on_front x d o2)
  front_same x d o o2 (inr e) = inr (ap (on_front x d) e)
  front_same x d (Got y e r) o2 (inl k) = absurd k
  front_same x d (Bad e r) o2 (inl k) = absurd k
  front_same x d (Deep r) o2 (inl k) = inl tt

  front_deep : (x : A) (d : Beyond) (o : Out (List A)) → IsDeep (on_front x d o) → IsDeep o
  front_deep x d (Got y e r) k = k
  front_deep x d (Bad e r) k = k
  front_deep x d (Deep r) k = tt

  front_leaves : (x : A) (d : Beyond) (o : Out (List A)) (n : ℕ) → Leaves o n → Leaves (on_front x d o) n
  front_leaves x d (Got y e r) n h = h
  front_leaves x d (Bad e r) n h = tt
  front_leaves x d (Deep r) n h = tt

  more_same : (p2 q2 : Reader (List A)) → ((w : List Token) → Same (p2 w) (q2 w)) → (o o2 : Out A) → Same o o2 → Same (more p2 o) (more q2 o2)
  more_same p2 q2 h o o2 (inr e) = along o o2 e (next o)
    where
      next : (o : Out A) → Same (more p2 o) (more q2 o)
      next (Got x d r) = front_same x d (p2 r) (q2 r) (h r)
      next (Bad d r) = inr refl
      next (Deep r) = inl tt

      along : (o o2 : Out A) → o ≡ o2 → Same (more p2 o) (more q2 o) → Same (more p2 o) (more q2 o2)
      along o o2 e (inl d) = inl d
      along o o2 e (inr f) = inr (f ∙ ap (more q2) e)
  more_same p2 q2 h (Got x d r) o2 (inl k) = absurd k
  more_same p2 q2 h (Bad d r) o2 (inl k) = absurd k
  more_same p2 q2 h (Deep r) o2 (inl k) = inl tt

  more_shallow : (p2 : Reader (List A)) (n : ℕ) → ((w : List Token) → length w ≤ n → IsDeep (p2 w) → ⊥) → (o : Out A) → (IsDeep o → ⊥) → Leaves o n → IsDeep (more p2 o) → ⊥
  more_shallow p2 n h (Got x d r) f l k = h r l (front_deep x d (p2 r) k)
  more_shallow p2 n h (Bad d r) f l k = k
  more_shallow p2 n h (Deep r) f l k = f k

  more_leaves : (p2 : Reader (List A)) (n : ℕ) → ((w : List Token) → Leaves (p2 w) (length w)) → (o : Out A) → Leaves o n → Leaves (more p2 o) n
  more_leaves p2 n h (Got x d r) l = front_leaves x d (p2 r) n (leaves_more (p2 r) (length r) n l (h r))
  more_leaves p2 n h (Bad d r) l = tt
  more_leaves p2 n h (Deep r) l = tt

  turns_same : (s : List ℕ) {g h : Part A} {p q : Reader A} {j : ℕ} → Climbs g h p q j → (n : ℕ) (w : List Token) → Same (turns s p n w) (turns s q n w)
  turns_same s a zero w = inr refl
  turns_same s {p} {q} a (suc n) w = picked_same (λ w. more (turns s p n) (p w)) (λ w. more (turns s q n) (q w)) (read_nothing []) (read_nothing []) (opens s w) w (more_same (turns s p n) (turns s q n) (turns_same s a n) (p w) (q w) (a.same w)) (inr refl)

  turns_leaves : (s : List ℕ) {g h : Part A} {p q : Reader A} {j : ℕ} → Climbs g h p q j → (n : ℕ) (w : List Token) → Leaves (turns s p n w) (length w)
  turns_leaves s a zero w = le_refl (length w)
  turns_leaves s {p} a (suc n) w = picked_leaves (λ w. more (turns s p n) (p w)) (λ w. more (turns s p n) (p w)) (read_nothing []) (read_nothing []) (opens s w) w (length w) (more_leaves (turns s p n) (length w) (turns_leaves s a n) (p w) (of_less a w)) (le_refl (length w))

  turns_shallow : (s : List ℕ) {g h : Part A} {p q : Reader A} {j : ℕ} → Climbs g h p q j → (n : ℕ) (w : List Token) → length w + length w ≤ j → IsDeep (turns s p n w) → ⊥
  turns_shallow s a zero w l = λ d. d
  turns_shallow s {p} {j} a (suc n) w l = picked_deep (λ w. more (turns s p n) (p w)) (λ w. more (turns s p n) (p w)) (read_nothing []) (read_nothing []) (opens s w) w (more_shallow (turns s p n) (length w) (λ r i. turns_shallow s a n r (double_le (length r) (length w) j i l)) (p w) (a.shallow w l) (of_less a w)) (λ d. d)

  many_grows : {g h : Part A} {p q : Reader A} {j : ℕ} → Climbs g h p q j → (c : Option Token) (u : List Token) (xs : List A) (b : Beyond) → many_spells g c u xs b → many_spells h c u xs b
  many_grows a c u [] b s = s
  many_grows a c u (x ∷ xs) b (v, w, d, e, i, k, s, s2) = (v, w, d, e, i, k, a.spelled (follow w c) v x d s, many_grows a c w xs e s2)

  many_begins : {g h : Part A} {p q : Reader A} {j : ℕ} → Climbs g h p q j → (u : List Token) (b : Beyond) → (many g).begins u b → (many h).begins u b
  unfolding many
  many_begins a u b (v, w, d, e, xs, i, k, s, s2) = (v, w, d, e, xs, i, k, many_grows a (follow w None) v xs d s, a.begins w e s2)

pub many_climbs : {A : Type 0} (s : List ℕ) {g h : Part A} {p q : Reader A} {j : ℕ} → Climbs g h p q j → Climbs (many g) (many h) (read_many s p) (read_many s q) j
unfolding many
many_climbs s {p} a = record {
  spelled = many_grows a;
  begins = many_begins a;
  same = λ w. turns_same s a (length w) w;
  shallow = λ w. turns_shallow s a (length w) w;
  less = λ w. left_of (read_many s p w) (length w) (turns_leaves s a (length w) w);
}

-- labels

module _ {A B : Type 0} where
  label_same : (c : Option B) (o o2 other other2 : Out (List B × A)) → Same o o2 → Same other other2 → Same (one_label c o other) (one_label c o2 other2)
  label_same (Some l) o o2 other other2 h h2 = go o h
    where
      go : (o : Out (List B × A)) → Same o o2 → Same (behind_label l o) (behind_label l o2)
      go o (inr e) = inr (ap (behind_label l) e)
      go (Got x d r) (inl k) = absurd k
      go (Bad d r) (inl k) = absurd k
      go (Deep r) (inl k) = inl tt
  label_same None o o2 other other2 h h2 = h2

  label_shallow : (c : Option B) (o other : Out (List B × A)) → (IsDeep o → ⊥) → (IsDeep other → ⊥) → IsDeep (one_label c o other) → ⊥
  label_shallow (Some l) o other h h2 = go o h
    where
      go : (o : Out (List B × A)) → (IsDeep o → ⊥) → IsDeep (behind_label l o) → ⊥
      go (Got x d r) h k = k
      go (Bad d r) h k = k
      go (Deep r) h k = h k
  label_shallow None o other h h2 = h2

  label_leaves : (c : Option B) (o other : Out (List B × A)) (n : ℕ) → Leaves o n → Leaves other n → Leaves (one_label c o other) n
  label_leaves (Some l) o other n h h2 = go o h
    where
      go : (o : Out (List B × A)) → Leaves o n → Leaves (behind_label l o) n
      go (Got x d r) h = h
      go (Bad d r) h = tt
      go (Deep r) h = tt
  label_leaves None o other n h h2 = h2

  labelled_same : (f : Token → Token → Option B) (p q : Reader A) → ((w : List Token) → Same (p w) (q w)) → (w : List Token) → Same (read_labelled f p w) (read_labelled f q w)
  labelled_same f p q h [] = behind_same [] None (p []) (q []) (h [])
  labelled_same f p q h (t ∷ []) = behind_same [] None (p (t ∷ [])) (q (t ∷ [])) (h (t ∷ []))
  labelled_same f p q h (t ∷ k ∷ w) = label_same (f t k) (read_labelled f p w) (read_labelled f q w) (behind [] None (p (t ∷ k ∷ w))) (behind [] None (q (t ∷ k ∷ w))) (labelled_same f p q h w) (behind_same [] None (p (t ∷ k ∷ w)) (q (t ∷ k ∷ w)) (h (t ∷ k ∷ w)))

  labelled_shallow : (f : Token → Token → Option B) (p : Reader A) (j : ℕ) → ((w : List Token) → length w + length w ≤ j → IsDeep (p w) → ⊥) → (w : List Token) → length w + length w ≤ j → IsDeep (read_labelled f p w) → ⊥
  labelled_shallow f p j h [] l d = h [] l (behind_deep {A = List B} [] None (p []) d)
  labelled_shallow f p j h (t ∷ []) l d = h (t ∷ []) l (behind_deep {A = List B} [] None (p (t ∷ [])) d)
  labelled_shallow f p j h (t ∷ k ∷ w) l d = label_shallow (f t k) (read_labelled f p w) (behind [] None (p (t ∷ k ∷ w))) (labelled_shallow f p j h w (double_le (length w) (suc (suc (length w))) j (omega arith) l)) (λ d. h (t ∷ k ∷ w) l (behind_deep {A = List B} [] None (p (t ∷ k ∷ w)) d)) d

  labelled_leaves : (f : Token → Token → Option B) (p : Reader A) → ((w : List Token) → Leaves (p w) (length w)) → (w : List Token) → Leaves (read_labelled f p w) (length w)
  labelled_leaves f p h [] = behind_leaves {A = List B} [] None (p []) 0 (h [])
  labelled_leaves f p h (t ∷ []) = behind_leaves {A = List B} [] None (p (t ∷ [])) 1 (h (t ∷ []))
  labelled_leaves f p h (t ∷ k ∷ w) = label_leaves (f t k) (read_labelled f p w) (behind [] None (p (t ∷ k ∷ w))) (suc (suc (length w))) (leaves_more (read_labelled f p w) (length w) (suc (suc (length w))) (omega arith) (labelled_leaves f p h w)) (behind_leaves {A = List B} [] None (p (t ∷ k ∷ w)) (suc (suc (length w))) (h (t ∷ k ∷ w)))

pub labelled_climbs : {A B : Type 0} (label : Part B) (f : Token → Token → Option B) {g h : Part A} {p q : Reader A} {j : ℕ} → Climbs g h p q j → Climbs (both (many label) g) (both (many label) h) (read_labelled f p) (read_labelled f q) j
labelled_climbs label f {g} {h} {p} {q} {j} a = record {
  spelled = both_spelled (many label) (many label) g h (λ c u x b s. s) a.spelled;
  begins = both_begins (many label) (many label) g h (λ c u x b s. s) (λ u b s. s) a.begins;
  same = labelled_same f p q a.same;
  shallow = labelled_shallow f p j a.shallow;
  less = λ w. left_of (read_labelled f p w) (length w) (labelled_leaves f p (of_less a) w);
}

-- beyond the limit

module _ {A : Type 0} where
  marked_same : (w : List Token) (o o2 : Out A) → Same o o2 → Same (marked w o) (marked w o2)
  marked_same w o o2 (inr e) = inr (ap (marked w) e)
  marked_same w (Got x d r) o2 (inl k) = absurd k
  marked_same w (Bad d r) o2 (inl k) = absurd k
  marked_same w (Deep r) o2 (inl k) = inl tt

  marked_deep : (w : List Token) (o : Out A) → IsDeep (marked w o) → IsDeep o
  marked_deep w (Got x d r) k = k
  marked_deep w (Bad d r) k = k
  marked_deep w (Deep r) k = k

  marked_leaves : (w : List Token) (o : Out A) (n : ℕ) → Leaves o n → Leaves (marked w o) n
  marked_leaves w (Got x d r) n h = h
  marked_leaves w (Bad d r) n h = tt
  marked_leaves w (Deep r) n h = tt

pub beyond_climbs : {A : Type 0} {g h : Part A} {p q : Reader A} {j : ℕ} → Climbs g h p q j → Climbs (beyond g) (beyond h) (read_beyond p) (read_beyond q) j
unfolding beyond
beyond_climbs {p} {q} a = record {
  spelled = λ c u x b s. (s.0, a.spelled c u x s.0 s.1, s.2);
  begins = λ u b s. (s.0, a.begins u s.0 s.1, s.2);
  same = λ w. marked_same w (p w) (q w) (a.same w);
  shallow = λ w l d. a.shallow w l (marked_deep w (p w) d);
  less = λ w. left_of (read_beyond p w) (length w) (marked_leaves w (p w) (length w) (of_less a w));
}

-- for shorter lists

pub lower_climbs : {A : Type 0} {g h : Part A} {p q : Reader A} {j : ℕ} (i : ℕ) → i ≤ j → Climbs g h p q j → Climbs g h p q i
lower_climbs {j} i k a = record {
  spelled = a.spelled;
  begins = a.begins;
  same = a.same;
  shallow = λ w l. a.shallow w (longer (length w) i j k l);
  less = a.less;
}
  where
    longer : (n i j : ℕ) → i ≤ j → n + n ≤ i → n + n ≤ j
    longer n i j k l = omega arith

-- no level at all

deep_leaves : (A : Type 0) (c : Bool) (w : List Token) → Leaves (picked {A = A} c Deep (Bad None) w) (length w)
deep_leaves A true w = tt
deep_leaves A false w = tt

deep_shallow : (A : Type 0) (s : List ℕ) (w : List Token) → length w + length w ≤ 1 → IsDeep (read_deep {A = A} s w) → ⊥
deep_shallow A s [] l d = d
deep_shallow A s (t ∷ w) l d = none (length w) l
  where
    none : (n : ℕ) → suc n + suc n ≤ 1 → ⊥
    none n l = omega arith

pub nowhere_climbs : {A : Type 0} (s : List ℕ) (h : Part A) (q : Reader A) → h.begins [] None → Unread q s → Climbs (nowhere {A = A}) h (read_deep s) q 1
unfolding nowhere
nowhere_climbs {A} s h q b u = record {
  spelled = λ c v x d s. absurd s;
  begins = λ v d s. subst (λ v. h.begins v d) (sym s.0) (subst (λ d. h.begins [] d) (sym s.1) b);
  same = λ w. go w (opens s w) refl;
  shallow = deep_shallow A s;
  less = λ w. left_of (read_deep {A = A} s w) (length w) (deep_leaves A (opens s w) w);
}
  where
    go : (w : List Token) (c : Bool) → opens s w ≡ c → Same (picked {A = A} c Deep (Bad None) w) (q w)
    go w true e = inl tt
    go w false e = inr (sym (u.refuses w e))
