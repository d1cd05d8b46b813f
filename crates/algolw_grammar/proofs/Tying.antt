-- A reader that stops beyond the limit gives what one that marks it gives, cut there.
use Rattle.std.proofs.Common.{◌≡◌, ℕ, zero, suc, ◌≤◌, Bool, true, false, List, [], ◌∷◌, length, refl, sym, ◌∙◌, ap, subst, arith, Option, Some, None, cond, lt-ltb}
use Rattle.algolw_tree.specs.declared.tokens.Token.{Token}
use Rattle.algolw_tree.specs.Parts.{follow, is_else}
use Rattle.algolw_grammar.specs.Kinds.{kind_number, opens}
use Rattle.algolw_grammar.specs.Readers.{Out, Got, Bad, Deep, Reader, taken, behind, then, mapped, picked, no_else, on_front, more, turns, behind_label, one_label, read_token, read_nothing, read_empty, read_both, read_made, read_choice, read_else, read_many, read_deep, read_labelled}
use Rattle.algolw_grammar.proofs.Good.{Tied, Ends, EndsOut, cut, marked, begun, read_beyond, Eaten, Eats}
use Rattle.algolw_grammar.proofs.Unread.{Unread, begun_self}

-- the end of the deck, from the next token on

ends_next : (t : Token) (w : List Token) → (kind_number t.kind ≡ 69 → ⊥) → Ends (t ∷ w) → Ends w
ends_next t [] h e = h e
ends_next t (k ∷ w) h e = e

-- one token

taken_cuts : {A : Type 0} (o : Option A) (t : Token) (w : List Token) → taken o t w ≡ cut (taken o t w)
taken_cuts (Some x) t w = refl
taken_cuts None t w = refl

token_cuts : {A : Type 0} (r : Token → Option A) (w : List Token) → read_token r w ≡ cut (read_token r w)
token_cuts r [] = refl
token_cuts r (t ∷ w) = taken_cuts (r t) t w

token_ends : {A : Type 0} (r : Token → Option A) → ((t : Token) (x : A) → r t ≡ Some x → kind_number t.kind ≡ 69 → ⊥) → (w : List Token) → Ends w → EndsOut (read_token r w)
token_ends r h [] e = e
token_ends {A} r h (t ∷ w) e = go (r t) refl
  where
    go : (o : Option A) → r t ≡ o → EndsOut (taken o t w)
    go (Some x) q = ends_next t w (h t x q) e
    go None q = e

pub token_tied : {A : Type 0} (r : Token → Option A) → ((t : Token) (x : A) → r t ≡ Some x → kind_number t.kind ≡ 69 → ⊥) → Tied (read_token r) (read_token r)
token_tied r h = record { cuts = token_cuts r; ends = token_ends r h }

-- no token

pub nothing_tied : {A : Type 0} (x : A) → Tied (read_nothing x) (read_nothing x)
nothing_tied x = record { cuts = λ w. refl; ends = λ w e. e }

empty_cuts : {A : Type 0} (f : Token → A) (w : List Token) → read_empty f w ≡ cut (read_empty f w)
empty_cuts f [] = refl
empty_cuts f (t ∷ w) = refl

empty_ends : {A : Type 0} (f : Token → A) (w : List Token) → Ends w → EndsOut (read_empty f w)
empty_ends f [] e = e
empty_ends f (t ∷ w) e = e

pub empty_tied : {A : Type 0} (f : Token → A) → Tied (read_empty f) (read_empty f)
empty_tied f = record { cuts = empty_cuts f; ends = empty_ends f }

-- the one and then the other

module _ {A B : Type 0} where
  behind_stops : (x : A) (from : List Token) (o : Out B) → Deep from ≡ cut (behind x (Some from) o)
  behind_stops x from (Got y e r) = refl
  behind_stops x from (Bad e r) = refl
  behind_stops x from (Deep r) = refl

  behind_cuts : (x : A) (o : Out B) → behind x None (cut o) ≡ cut (behind x None o)
  behind_cuts x (Got y None r) = refl
  behind_cuts x (Got y (Some from) r) = refl
  behind_cuts x (Bad None r) = refl
  behind_cuts x (Bad (Some from) r) = refl
  behind_cuts x (Deep r) = refl

  then_cuts : (p2 q2 : Reader B) → ((w : List Token) → q2 w ≡ cut (p2 w)) → (o : Out A) → then q2 (cut o) ≡ cut (then p2 o)
  then_cuts p2 q2 h (Got x None r) = ap (behind x None) (h r) ∙ behind_cuts x (p2 r)
  then_cuts p2 q2 h (Got x (Some from) r) = behind_stops x from (p2 r)
  then_cuts p2 q2 h (Bad None r) = refl
  then_cuts p2 q2 h (Bad (Some from) r) = refl
  then_cuts p2 q2 h (Deep r) = refl

  behind_ends : (x : A) (o : Out B) → EndsOut o → EndsOut (behind x None o)
  behind_ends x (Got y e r) h = h
  behind_ends x (Bad e r) h = h
  behind_ends x (Deep r) h = h

  then_ends : (q2 : Reader B) → ((w : List Token) → Ends w → EndsOut (q2 w)) → (o : Out A) → EndsOut (cut o) → EndsOut (then q2 (cut o))
  then_ends q2 h (Got x None r) e = behind_ends x (q2 r) (h r e)
  then_ends q2 h (Got x (Some from) r) e = e
  then_ends q2 h (Bad None r) e = e
  then_ends q2 h (Bad (Some from) r) e = e
  then_ends q2 h (Deep r) e = e

-- what q leaves is what is left behind the cut
cut_ends : {A : Type 0} {p q : Reader A} → Tied p q → (w : List Token) → Ends w → EndsOut (cut (p w))
cut_ends a w e = subst EndsOut (a.cuts w) (a.ends w e)

pub both_tied : {A B : Type 0} {p q : Reader A} {p2 q2 : Reader B} → Tied p q → Tied p2 q2 → Tied (read_both p p2) (read_both q q2)
both_tied {p} {q} {p2} {q2} a b = record {
  cuts = λ w. ap (then q2) (a.cuts w) ∙ then_cuts p2 q2 b.cuts (p w);
  ends = λ w e. subst (λ o. EndsOut (then q2 o)) (sym (a.cuts w)) (then_ends q2 b.ends (p w) (cut_ends a w e));
}

-- a value made of the parts

module _ {A B : Type 0} (f : A → B) where
  mapped_cuts : (o : Out A) → mapped f (cut o) ≡ cut (mapped f o)
  mapped_cuts (Got x None r) = refl
  mapped_cuts (Got x (Some from) r) = refl
  mapped_cuts (Bad None r) = refl
  mapped_cuts (Bad (Some from) r) = refl
  mapped_cuts (Deep r) = refl

  mapped_ends : (o : Out A) → EndsOut o → EndsOut (mapped f o)
  mapped_ends (Got x d r) e = e
  mapped_ends (Bad d r) e = e
  mapped_ends (Deep r) e = e

pub made_tied : {A B : Type 0} (f : A → B) {p q : Reader A} → Tied p q → Tied (read_made f p) (read_made f q)
made_tied f {p} {q} a = record {
  cuts = λ w. ap (mapped f) (a.cuts w) ∙ mapped_cuts f (p w);
  ends = λ w e. mapped_ends f (q w) (a.ends w e);
}

-- the one or the other

module _ {A : Type 0} (p q p2 q2 : Reader A) where
  picked_cuts : (c : Bool) (w : List Token) → q w ≡ cut (p w) → q2 w ≡ cut (p2 w) → picked c q q2 w ≡ cut (picked c p p2 w)
  picked_cuts true w h h2 = h
  picked_cuts false w h h2 = h2

  picked_ends : (c : Bool) (w : List Token) → EndsOut (q w) → EndsOut (q2 w) → EndsOut (picked c q q2 w)
  picked_ends true w h h2 = h
  picked_ends false w h h2 = h2

pub choice_tied : {A : Type 0} (s : List ℕ) {p q p2 q2 : Reader A} → Tied p q → Tied p2 q2 → Tied (read_choice s p p2) (read_choice s q q2)
choice_tied s {p} {q} {p2} {q2} a b = record {
  cuts = λ w. picked_cuts p q p2 q2 (opens s w) w (a.cuts w) (b.cuts w);
  ends = λ w e. picked_ends p q p2 q2 (opens s w) w (a.ends w e) (b.ends w e);
}

-- a part behind ELSE

pub else_tied : {A : Type 0} {p q : Reader A} → Tied p q → Tied (read_else p) (read_else q)
else_tied {p} {q} a = record {
  cuts = λ w. picked_cuts (read_made Some p) (read_made Some q) no_else no_else (is_else (follow w None)) w (ap (mapped Some) (a.cuts w) ∙ mapped_cuts Some (p w)) refl;
  ends = λ w e. picked_ends (read_made Some p) (read_made Some q) no_else no_else (is_else (follow w None)) w (mapped_ends Some (q w) (a.ends w e)) e;
}

-- any number

module _ {A : Type 0} where
  front_stops : (x : A) (from : List Token) (o : Out (List A)) → Deep from ≡ cut (on_front x (Some from) o)
  front_stops x from (Got y e r) = refl
  front_stops x from (Bad e r) = refl
  front_stops x from (Deep r) = refl

  front_cuts : (x : A) (o : Out (List A)) → on_front x None (cut o) ≡ cut (on_front x None o)
  front_cuts x (Got y None r) = refl
  front_cuts x (Got y (Some from) r) = refl
  front_cuts x (Bad None r) = refl
  front_cuts x (Bad (Some from) r) = refl
  front_cuts x (Deep r) = refl

  more_cuts : (p2 q2 : Reader (List A)) → ((w : List Token) → q2 w ≡ cut (p2 w)) → (o : Out A) → more q2 (cut o) ≡ cut (more p2 o)
  more_cuts p2 q2 h (Got x None r) = ap (on_front x None) (h r) ∙ front_cuts x (p2 r)
  more_cuts p2 q2 h (Got x (Some from) r) = front_stops x from (p2 r)
  more_cuts p2 q2 h (Bad None r) = refl
  more_cuts p2 q2 h (Bad (Some from) r) = refl
  more_cuts p2 q2 h (Deep r) = refl

  front_ends : (x : A) (o : Out (List A)) → EndsOut o → EndsOut (on_front x None o)
  front_ends x (Got y e r) h = h
  front_ends x (Bad e r) h = h
  front_ends x (Deep r) h = h

  more_ends : (q2 : Reader (List A)) → ((w : List Token) → Ends w → EndsOut (q2 w)) → (o : Out A) → EndsOut (cut o) → EndsOut (more q2 (cut o))
  more_ends q2 h (Got x None r) e = front_ends x (q2 r) (h r e)
  more_ends q2 h (Got x (Some from) r) e = e
  more_ends q2 h (Bad None r) e = e
  more_ends q2 h (Bad (Some from) r) e = e
  more_ends q2 h (Deep r) e = e

  turns_cuts : (s : List ℕ) {p q : Reader A} → Tied p q → (n : ℕ) (w : List Token) → turns s q n w ≡ cut (turns s p n w)
  turns_cuts s a zero w = refl
  turns_cuts s {p} {q} a (suc n) w = picked_cuts (λ w. more (turns s p n) (p w)) (λ w. more (turns s q n) (q w)) (read_nothing []) (read_nothing []) (opens s w) w (ap (more (turns s q n)) (a.cuts w) ∙ more_cuts (turns s p n) (turns s q n) (turns_cuts s a n) (p w)) refl

  turns_ends : (s : List ℕ) {p q : Reader A} → Tied p q → (n : ℕ) (w : List Token) → Ends w → EndsOut (turns s q n w)
  turns_ends s a zero w e = e
  turns_ends s {p} {q} a (suc n) w e = picked_ends (λ w. more (turns s q n) (q w)) (λ w. more (turns s q n) (q w)) (read_nothing []) (read_nothing []) (opens s w) w (subst (λ o. EndsOut (more (turns s q n) o)) (sym (a.cuts w)) (more_ends (turns s q n) (turns_ends s a n) (p w) (cut_ends a w e))) e

pub many_tied : {A : Type 0} (s : List ℕ) {p q : Reader A} → Tied p q → Tied (read_many s p) (read_many s q)
many_tied s a = record {
  cuts = λ w. turns_cuts s a (length w) w;
  ends = λ w. turns_ends s a (length w) w;
}

-- labels

module _ {A B : Type 0} where
  label_cuts : (c : Option B) (o o2 other other2 : Out (List B × A)) → o2 ≡ cut o → other2 ≡ cut other → one_label c o2 other2 ≡ cut (one_label c o other)
  label_cuts (Some l) o o2 other other2 h h2 = ap (behind_label l) h ∙ go o
    where
      go : (o : Out (List B × A)) → behind_label l (cut o) ≡ cut (behind_label l o)
      go (Got x None r) = refl
      go (Got x (Some from) r) = refl
      go (Bad None r) = refl
      go (Bad (Some from) r) = refl
      go (Deep r) = refl
  label_cuts None o o2 other other2 h h2 = h2

  label_ends : (l : B) (o : Out (List B × A)) → EndsOut o → EndsOut (behind_label l o)
  label_ends l (Got x d r) e = e
  label_ends l (Bad d r) e = e
  label_ends l (Deep r) e = e

  labelled_cuts : (f : Token → Token → Option B) (p q : Reader A) → ((w : List Token) → q w ≡ cut (p w)) → (w : List Token) → read_labelled f q w ≡ cut (read_labelled f p w)
  labelled_cuts f p q h [] = ap (behind [] None) (h []) ∙ behind_cuts {A = List B} [] (p [])
  labelled_cuts f p q h (t ∷ []) = ap (behind [] None) (h (t ∷ [])) ∙ behind_cuts {A = List B} [] (p (t ∷ []))
  labelled_cuts f p q h (t ∷ k ∷ w) = label_cuts (f t k) (read_labelled f p w) (read_labelled f q w) (behind [] None (p (t ∷ k ∷ w))) (behind [] None (q (t ∷ k ∷ w))) (labelled_cuts f p q h w) (ap (behind [] None) (h (t ∷ k ∷ w)) ∙ behind_cuts {A = List B} [] (p (t ∷ k ∷ w)))

  labelled_ends : (f : Token → Token → Option B) → ((t k : Token) (l : B) → f t k ≡ Some l → (kind_number t.kind ≡ 69 → ⊥) × (kind_number k.kind ≡ 69 → ⊥)) → (q : Reader A) → ((w : List Token) → Ends w → EndsOut (q w)) → (w : List Token) → Ends w → EndsOut (read_labelled f q w)
  labelled_ends f g q h [] e = absurd e
  labelled_ends f g q h (t ∷ []) e = behind_ends {A = List B} [] (q (t ∷ [])) (h (t ∷ []) e)
  labelled_ends f g q h (t ∷ k ∷ w) e = go (f t k) refl (labelled_ends f g q h w)
    where
      go : (c : Option B) → f t k ≡ c → (Ends w → EndsOut (read_labelled f q w)) → EndsOut (one_label c (read_labelled f q w) (behind [] None (q (t ∷ k ∷ w))))
      go (Some l) z r = label_ends l (read_labelled f q w) (r (ends_next k w ((g t k l z).1) e))
      go None z r = behind_ends {A = List B} [] (q (t ∷ k ∷ w)) (h (t ∷ k ∷ w) e)

pub labelled_tied : {A B : Type 0} (f : Token → Token → Option B) → ((t k : Token) (l : B) → f t k ≡ Some l → (kind_number t.kind ≡ 69 → ⊥) × (kind_number k.kind ≡ 69 → ⊥)) → {p q : Reader A} → Tied p q → Tied (read_labelled f p) (read_labelled f q)
labelled_tied f g {p} {q} a = record {
  cuts = labelled_cuts f p q a.cuts;
  ends = labelled_ends f g q a.ends;
}

-- beyond the limit

begun_more : (t : Token) (w r : List Token) → length r ≤ length w → begun (t ∷ w) r ≡ Some (t ∷ w)
begun_more t w r i = ap (λ c. cond c (Some (t ∷ w)) None) (lt-ltb (length r) (suc (length w)) (omega arith))

deep_ends : (A : Type 0) (c : Bool) (w : List Token) → Ends w → EndsOut (picked {A = A} c Deep (Bad None) w)
deep_ends A true w e = e
deep_ends A false w e = e

module _ {A : Type 0} where
  eaten_cuts : (t : Token) (w : List Token) (o : Out A) → Eaten o w → Deep (t ∷ w) ≡ cut (marked (t ∷ w) o)
  eaten_cuts t w (Got x d r) i = refl
  eaten_cuts t w (Bad d r) i = sym (ap (λ e. cut (Bad e r)) (begun_more t w r i))
  eaten_cuts t w (Deep r) i = refl

  deep_cuts : (p : Reader A) (s : List ℕ) → Eats p s → (w : List Token) → opens s w ≡ true → Deep w ≡ cut (marked w (p w))
  deep_cuts p s k [] z = cc
  deep_cuts p s k (t ∷ w) z = eaten_cuts t w (p (t ∷ w)) (k t w z)

  beyond_cuts : (p : Reader A) (s : List ℕ) → Eats p s → Unread p s → (w : List Token) (c : Bool) → opens s w ≡ c → picked c Deep (Bad None) w ≡ cut (marked w (p w))
  beyond_cuts p s k u w true z = deep_cuts p s k w z
  beyond_cuts p s k u w false z = sym (ap (λ o. cut (marked w o)) (u.refuses w z) ∙ ap (λ e. cut (Bad e w)) (begun_self w))

pub beyond_tied : {A : Type 0} (p : Reader A) (s : List ℕ) → Eats p s → Unread p s → Tied (read_beyond p) (read_deep s)
beyond_tied {A} p s k u = record {
  cuts = λ w. beyond_cuts p s k u w (opens s w) refl;
  ends = λ w e. deep_ends A (opens s w) w e;
}
