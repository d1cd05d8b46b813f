-- Readers that keep the end of the deck, and that mark what goes beyond the limit by its first token.
use Rattle.std.proofs.Common.{◌≡◌, ℕ, zero, suc, Bool, true, false, List, [], ◌∷◌, length, refl, sym, subst, Option, Some, None, cond, nat_lt}
use Rattle.algolw_tree.specs.declared.tokens.Token.{Token}
use Rattle.algolw_tree.specs.Parts.{Beyond, follow, is_else}
use Rattle.algolw_grammar.specs.Kinds.{kind_number, opens}
use Rattle.algolw_grammar.specs.Readers.{Out, Got, Bad, Deep, Reader, earlier, behind, then, mapped, picked, no_else, on_front, more, turns, one_label, read_nothing, read_empty, read_both, read_made, read_choice, read_else, read_many, read_deep, read_labelled}
use Rattle.algolw_grammar.proofs.Good.{Tied, Ends, EndsOut, cut, marked, read_beyond}
use Rattle.algolw_grammar.proofs.Unread.{Unread}

-- There is a token where something goes beyond the limit.
abbrev pub SomeAt : Beyond → Type 0
SomeAt None = Unit {0}
SomeAt (Some []) = ⊥
SomeAt (Some (t ∷ r)) = Unit {0}

-- What is left of w ends the deck where w does.
abbrev pub Keeping : {A : Type 0} → List Token → Out A → Type 0
Keeping w (Got x d r) = SomeAt d × (Ends w → Ends r)
Keeping w (Bad d r) = SomeAt d × (Ends w → Ends r)
Keeping w (Deep r) = Unit {0}

pub record Keeps {A : Type 0} (p : Reader A) : Type 0 where
  pub keeps : (w : List Token) → Keeping w (p w)

pub some_earlier : (d e : Beyond) → SomeAt d → SomeAt e → SomeAt (earlier d e)
some_earlier None e h k = k
some_earlier (Some r) e h k = h

-- What needs no levels goes nowhere beyond the limit.

tied_keeps : {A : Type 0} (w : List Token) (o : Out A) → o ≡ cut o → (Ends w → EndsOut o) → Keeping w o
tied_keeps w (Got x None r) h e = (tt, e)
tied_keeps w (Got x (Some d) r) h e = cc
tied_keeps w (Bad None r) h e = (tt, e)
tied_keeps w (Bad (Some d) r) h e = cc
tied_keeps w (Deep r) h e = tt

pub keeps_tied : {A : Type 0} {p : Reader A} → Tied p p → Keeps p
keeps_tied {p} a = record { keeps = λ w. tied_keeps w (p w) (a.cuts w) (a.ends w) }

-- no token

pub keeps_nothing : {A : Type 0} (x : A) → Keeps (read_nothing x)
keeps_nothing x = record { keeps = λ w. (tt, λ e. e) }

pub keeps_empty : {A : Type 0} (f : Token → A) → Keeps (read_empty f)
keeps_empty f = record { keeps = go }
  where
    go : (w : List Token) → Keeping w (read_empty f w)
    go [] = (tt, λ e. e)
    go (t ∷ w) = (tt, λ e. e)

-- the one and then the other

pub behind_kept : {A B : Type 0} (x : A) (d : Beyond) (o : Out B) (r w : List Token) → SomeAt d → (Ends w → Ends r) → Keeping r o → Keeping w (behind x d o)
behind_kept x d (Got y e z) r w s i h = (some_earlier d e s (h.0), λ n. h.1 (i n))
behind_kept x d (Bad e z) r w s i h = (some_earlier d e s (h.0), λ n. h.1 (i n))
behind_kept x d (Deep z) r w s i h = tt

then_kept : {A B : Type 0} (q : Reader B) → Keeps q → (o : Out A) (w : List Token) → Keeping w o → Keeping w (then q o)
then_kept q k (Got x d r) w h = behind_kept x d (q r) r w (h.0) (h.1) (k.keeps r)
then_kept q k (Bad d r) w h = h
then_kept q k (Deep r) w h = tt

pub keeps_both : {A B : Type 0} {p : Reader A} {q : Reader B} → Keeps p → Keeps q → Keeps (read_both p q)
keeps_both {p} {q} a b = record { keeps = λ w. then_kept q b (p w) w (a.keeps w) }

-- a value made of the parts

mapped_kept : {A B : Type 0} (f : A → B) (o : Out A) (w : List Token) → Keeping w o → Keeping w (mapped f o)
mapped_kept f (Got x e r) w h = h
mapped_kept f (Bad e r) w h = h
mapped_kept f (Deep r) w h = tt

pub keeps_made : {A B : Type 0} (f : A → B) {p : Reader A} → Keeps p → Keeps (read_made f p)
keeps_made f {p} a = record { keeps = λ w. mapped_kept f (p w) w (a.keeps w) }

-- the one or the other

picked_kept : {A : Type 0} (p q : Reader A) (c : Bool) (w : List Token) → Keeping w (p w) → Keeping w (q w) → Keeping w (picked c p q w)
picked_kept p q true w h k = h
picked_kept p q false w h k = k

pub keeps_choice : {A : Type 0} (s : List ℕ) {p q : Reader A} → Keeps p → Keeps q → Keeps (read_choice s p q)
keeps_choice s {p} {q} a b = record { keeps = λ w. picked_kept p q (opens s w) w (a.keeps w) (b.keeps w) }

pub keeps_else : {A : Type 0} {p : Reader A} → Keeps p → Keeps (read_else p)
keeps_else {p} a = record { keeps = λ w. picked_kept (read_made Some p) no_else (is_else (follow w None)) w (mapped_kept Some (p w) w (a.keeps w)) (tt, λ e. e) }

-- any number

module _ {A : Type 0} where
  front_kept : (x : A) (d : Beyond) (o : Out (List A)) (r w : List Token) → SomeAt d → (Ends w → Ends r) → Keeping r o → Keeping w (on_front x d o)
  front_kept x d (Got xs e z) r w s i h = (some_earlier d e s (h.0), λ n. h.1 (i n))
  front_kept x d (Bad e z) r w s i h = (some_earlier d e s (h.0), λ n. h.1 (i n))
  front_kept x d (Deep z) r w s i h = tt

  more_kept : (q : Reader (List A)) → ((w : List Token) → Keeping w (q w)) → (o : Out A) (w : List Token) → Keeping w o → Keeping w (more q o)
  more_kept q k (Got x d r) w h = front_kept x d (q r) r w (h.0) (h.1) (k r)
  more_kept q k (Bad d r) w h = h
  more_kept q k (Deep r) w h = tt

  turns_kept : (s : List ℕ) (p : Reader A) → Keeps p → (n : ℕ) (w : List Token) → Keeping w (turns s p n w)
  turns_kept s p a zero w = (tt, λ e. e)
  turns_kept s p a (suc n) w = picked_kept (λ w. more (turns s p n) (p w)) (read_nothing []) (opens s w) w (more_kept (turns s p n) (turns_kept s p a n) (p w) w (a.keeps w)) (tt, λ e. e)

pub keeps_many : {A : Type 0} (s : List ℕ) {p : Reader A} → Keeps p → Keeps (read_many s p)
keeps_many s {p} a = record { keeps = λ w. turns_kept s p a (length w) w }

-- labels, of which no token is the end of the deck

ends_behind : (t k : Token) (w : List Token) → (kind_number k.kind ≡ 69 → ⊥) → Ends (t ∷ k ∷ w) → Ends w
ends_behind t k [] h e = h e
ends_behind t k (l ∷ w) h e = e

module _ {A B : Type 0} where
  label_kept : (c : Option B) (o other : Out (List B × A)) (w v : List Token) → ((l : B) → c ≡ Some l → Ends v → Ends w) → Keeping w o → Keeping v other → Keeping v (one_label c o other)
  label_kept (Some l) (Got x d r) other w v i h z = (h.0, λ e. h.1 (i l refl e))
  label_kept (Some l) (Bad d r) other w v i h z = (h.0, λ e. h.1 (i l refl e))
  label_kept (Some l) (Deep r) other w v i h z = tt
  label_kept None o other w v i h z = z

  labelled_kept : (f : Token → Token → Option B) → ((t k : Token) (l : B) → f t k ≡ Some l → kind_number k.kind ≡ 69 → ⊥) → (p : Reader A) → Keeps p → (w : List Token) → Keeping w (read_labelled f p w)
  labelled_kept f g p a [] = behind_kept {A = List B} [] None (p []) [] [] tt (λ e. e) (a.keeps [])
  labelled_kept f g p a (t ∷ []) = behind_kept {A = List B} [] None (p (t ∷ [])) (t ∷ []) (t ∷ []) tt (λ e. e) (a.keeps (t ∷ []))
  labelled_kept f g p a (t ∷ k ∷ w) = label_kept (f t k) (read_labelled f p w) (behind [] None (p (t ∷ k ∷ w))) w (t ∷ k ∷ w) (λ l h. ends_behind t k w (g t k l h)) (labelled_kept f g p a w) (behind_kept {A = List B} [] None (p (t ∷ k ∷ w)) (t ∷ k ∷ w) (t ∷ k ∷ w) tt (λ e. e) (a.keeps (t ∷ k ∷ w)))

pub keeps_labelled : {A B : Type 0} (f : Token → Token → Option B) → ((t k : Token) (l : B) → f t k ≡ Some l → kind_number k.kind ≡ 69 → ⊥) → {p : Reader A} → Keeps p → Keeps (read_labelled f p)
keeps_labelled f g {p} a = record { keeps = labelled_kept f g p a }

-- beyond the limit

pub keeps_deep : (A : Type 0) (s : List ℕ) → Keeps (read_deep {A = A} s)
keeps_deep A s = record { keeps = λ w. picked_kept {A = A} Deep (Bad None) (opens s w) w tt (tt, λ e. e) }

some_begun : (t : Token) (w : List Token) (c : Bool) → SomeAt (cond c (Some (t ∷ w)) None)
some_begun t w true = tt
some_begun t w false = tt

module _ {A : Type 0} where
  marked_kept : (t : Token) (w : List Token) (o : Out A) → Keeping (t ∷ w) o → Keeping (t ∷ w) (marked (t ∷ w) o)
  marked_kept t w (Got x d r) h = (tt, h.1)
  marked_kept t w (Bad d r) h = (some_begun t w (nat_lt (length r) (length (t ∷ w))), h.1)
  marked_kept t w (Deep r) h = tt

  beyond_kept : (s : List ℕ) (p : Reader A) → Unread p s → Keeps p → (w : List Token) → Keeping w (marked w (p w))
  beyond_kept s p u a [] = subst (λ o. Keeping [] (marked [] o)) (sym (u.refuses [] refl)) (tt, λ e. e)
  beyond_kept s p u a (t ∷ w) = marked_kept t w (p (t ∷ w)) (a.keeps (t ∷ w))

pub keeps_beyond : {A : Type 0} {s : List ℕ} {p : Reader A} → Unread p s → Keeps p → Keeps (read_beyond p)
keeps_beyond {s} {p} u a = record { keeps = beyond_kept s p u a }
