-- Choices, larger sets, an ELSE and its part, and the limit of nesting, with their readers.
use Rattle.std.proofs.Common.{◌≡◌, ℕ, suc, ◌≤◌, Bool, true, false, List, [], ◌∷◌, ◌++◌, length, refl, sym, ◌∙◌, ap, inl, inr, arith, ◌⊎◌, length-append, Option, Some, None, lt-ltb, le-ltb}
use Rattle.algolw_tree.specs.declared.tokens.Token.{Token}
use Rattle.algolw_tree.specs.declared.tokens.TokenKind.{TokenKind}
use Rattle.algolw_tree.specs.declared.tokens.TokenKind.TheVariants.{Word as AWord, Symbol as ASymbol}
use Rattle.algolw_tree.specs.declared.tokens.Word.{Word}
use Rattle.algolw_tree.specs.declared.tokens.Word.TheVariants.{Else}
use Rattle.algolw_tree.specs.declared.tokens.Symbol.{Symbol}
use Rattle.algolw_tree.specs.declared.tokens.Symbol.TheVariants.{Open}
use Rattle.algolw_tree.specs.Parts.{Beyond, Part, follow, is_else, choice, else_part, else_spells, beyond, nowhere, at_first}
use Rattle.algolw_grammar.specs.Kinds.{kind_number, word_number, symbol_number, has, opens, the_word}
use Rattle.algolw_grammar.specs.Readers.{Out, Got, Bad, Deep, Reader, read_choice, picked, read_else, no_else, read_made, mapped, read_deep}
use Rattle.algolw_grammar.proofs.Sets.{when, has-left, has-right, apart, within, apart_has, within_has}
use Rattle.algolw_grammar.proofs.Good.{Clear, before, Agrees, Good, read_beyond, marked, begun, got_value, got_beyond, got_rest, bad_beyond, bad_rest, clear_left, clear_right}

-- the one or the other

module _ {A : Type 0} {g : Part A} {p : Reader A} {fa la : List ℕ} {h : Part A} {q : Reader A} {fb lb : List ℕ} {nb : Bool} (pg : Good g p fa la false) (qh : Good h q fb lb nb) where
  choice_starts : (t : Token) (v : List Token) (b : Beyond) → (choice g h).begins (t ∷ v) b → has (kind_number t.kind) (fa ++ fb) ≡ true
  unfolding choice
  choice_starts t v b (inl k) = has-left (kind_number t.kind) fa fb (pg.starts t v b k)
  choice_starts t v b (inr k) = has-right (kind_number t.kind) fa fb (qh.starts t v b k)

  choice_silent : (b : Beyond) → (choice g h).begins [] b → b ≡ None
  unfolding choice
  choice_silent b (inl k) = pg.silent b k
  choice_silent b (inr k) = qh.silent b k

  choice_whole : (c : Option Token) (u : List Token) (x : A) (b : Beyond) → (choice g h).spells c u x b → (choice g h).begins u b
  unfolding choice
  choice_whole c u x b (inl s) = inl (pg.whole c u x b s)
  choice_whole c u x b (inr s) = inr (qh.whole c u x b s)

  choice_fronts : (u v : List Token) (b : Beyond) → (choice g h).begins (u ++ v) b → (d : Beyond) × (choice g h).begins u d
  unfolding choice
  choice_fronts u v b k = go k
    where
      left : (d : Beyond) × g.begins u d → (d : Beyond) × (choice g h).begins u d
      left (d, k) = (d, inl k)

      right : (d : Beyond) × h.begins u d → (d : Beyond) × (choice g h).begins u d
      right (d, k) = (d, inr k)

      go : g.begins (u ++ v) b ⊎ h.begins (u ++ v) b → (d : Beyond) × (choice g h).begins u d
      go (inl k) = left (pg.fronts u v b k)
      go (inr k) = right (qh.fronts u v b k)

  choice_nulls : (c : Option Token) (x : A) (b : Beyond) → (choice g h).spells c [] x b → nb ≡ true
  unfolding choice
  choice_nulls c x b (inl s) = let z : false ≡ true = pg.nulls c x b s in cc
  choice_nulls c x b (inr s) = qh.nulls c x b s

  choice_sound : (w : List Token) (x : A) (e : Beyond) (rest : List Token) → read_choice fa p q w ≡ Got x e rest → (u : List Token) × (d : Beyond) × (w ≡ u ++ rest) × (e ≡ before d rest) × (choice g h).spells (follow rest None) u x d
  unfolding choice
  choice_sound w x e rest k = go (opens fa w) k
    where
      left : (u : List Token) × (d : Beyond) × (w ≡ u ++ rest) × (e ≡ before d rest) × g.spells (follow rest None) u x d → (u : List Token) × (d : Beyond) × (w ≡ u ++ rest) × (e ≡ before d rest) × (choice g h).spells (follow rest None) u x d
      left (u, d, m, n, s) = (u, d, m, n, inl s)

      right : (u : List Token) × (d : Beyond) × (w ≡ u ++ rest) × (e ≡ before d rest) × h.spells (follow rest None) u x d → (u : List Token) × (d : Beyond) × (w ≡ u ++ rest) × (e ≡ before d rest) × (choice g h).spells (follow rest None) u x d
      right (u, d, m, n, s) = (u, d, m, n, inr s)

      go : (b : Bool) → picked b p q w ≡ Got x e rest → (u : List Token) × (d : Beyond) × (w ≡ u ++ rest) × (e ≡ before d rest) × (choice g h).spells (follow rest None) u x d
      go true k = left (pg.sound w x e rest k)
      go false k = right (qh.sound w x e rest k)

  choice_stops : (w : List Token) (e : Beyond) (rest : List Token) → read_choice fa p q w ≡ Bad e rest → (u : List Token) × (d : Beyond) × (w ≡ u ++ rest) × (e ≡ before d rest) × (choice g h).begins u d
  unfolding choice
  choice_stops w e rest k = go (opens fa w) k
    where
      left : (u : List Token) × (d : Beyond) × (w ≡ u ++ rest) × (e ≡ before d rest) × g.begins u d → (u : List Token) × (d : Beyond) × (w ≡ u ++ rest) × (e ≡ before d rest) × (choice g h).begins u d
      left (u, d, m, n, s) = (u, d, m, n, inl s)

      right : (u : List Token) × (d : Beyond) × (w ≡ u ++ rest) × (e ≡ before d rest) × h.begins u d → (u : List Token) × (d : Beyond) × (w ≡ u ++ rest) × (e ≡ before d rest) × (choice g h).begins u d
      right (u, d, m, n, s) = (u, d, m, n, inr s)

      go : (b : Bool) → picked b p q w ≡ Bad e rest → (u : List Token) × (d : Beyond) × (w ≡ u ++ rest) × (e ≡ before d rest) × (choice g h).begins u d
      go true k = left (pg.stops w e rest k)
      go false k = right (qh.stops w e rest k)

  choice_takes_left : (u rest : List Token) (x : A) (d : Beyond) → g.spells (follow rest None) u x d → Clear la rest → read_choice fa p q (u ++ rest) ≡ Got x (before d rest) rest
  choice_takes_left [] rest x d s k = let z : false ≡ true = pg.nulls _ x d s in cc
  choice_takes_left (t ∷ u) rest x d s k = let z : has (kind_number t.kind) fa ≡ true = pg.starts t u d (pg.whole _ (t ∷ u) x d s) in rw (z, picked) (pg.takes (t ∷ u) rest x d s k)

  choice_takes_right : apart fb fa ≡ true → (u rest : List Token) (x : A) (d : Beyond) → h.spells (follow rest None) u x d → Clear lb rest → Clear (when nb fa) rest → read_choice fa p q (u ++ rest) ≡ Got x (before d rest) rest
  choice_takes_right a [] [] x d s k1 k2 = qh.takes [] [] x d s k1
  choice_takes_right a [] (t ∷ rest) x d s k1 k2 =
      let z : nb ≡ true = qh.nulls _ x d s in
      let o : has (kind_number t.kind) fa ≡ false = rw z at k2 in
      rw (o, picked) (qh.takes [] (t ∷ rest) x d s k1)
  choice_takes_right a (t ∷ u) rest x d s k1 k2 =
      let o : has (kind_number t.kind) fa ≡ false = apart_has (kind_number t.kind) fb fa a (qh.starts t u d (qh.whole _ (t ∷ u) x d s)) in
      rw (o, picked) (qh.takes (t ∷ u) rest x d s k1)

  choice_takes : apart fb fa ≡ true → (u rest : List Token) (x : A) (d : Beyond) → (choice g h).spells (follow rest None) u x d → Clear (la ++ (lb ++ when nb fa)) rest → read_choice fa p q (u ++ rest) ≡ Got x (before d rest) rest
  unfolding choice
  choice_takes a u rest x d (inl s) k = choice_takes_left u rest x d s (clear_left la _ rest k)
  choice_takes a u rest x d (inr s) k = choice_takes_right a u rest x d s (clear_left lb _ rest (clear_right la _ rest k)) (clear_right lb _ rest (clear_right la _ rest k))

  choice_le : (w : List Token) → Agrees (read_choice fa p q w) None w
  choice_le w = go (opens fa w)
    where
      go : (b : Bool) → Agrees (picked b p q w) None w
      go true = pg.reads [] w None pg.empty
      go false = qh.reads [] w None qh.empty

  choice_reads : apart fb fa ≡ true → (v y : List Token) (d : Beyond) → (choice g h).begins v d → Agrees (read_choice fa p q (v ++ y)) d y
  unfolding choice
  choice_reads a [] y d (inl k) = let z : d ≡ None = pg.silent d k in rw z (choice_le y)
  choice_reads a [] y d (inr k) = let z : d ≡ None = qh.silent d k in rw z (choice_le y)
  choice_reads a (t ∷ v) y d (inl k) = let z : has (kind_number t.kind) fa ≡ true = pg.starts t v d k in rw (z, picked) (pg.reads (t ∷ v) y d k)
  choice_reads a (t ∷ v) y d (inr k) = let z : has (kind_number t.kind) fa ≡ false = apart_has (kind_number t.kind) fb fa a (qh.starts t v d k) in rw (z, picked) (qh.reads (t ∷ v) y d k)

  pub choice_good : apart fb fa ≡ true → Good (choice g h) (read_choice fa p q) (fa ++ fb) (la ++ (lb ++ when nb fa)) nb
  unfolding choice
  choice_good a = record {
    starts = choice_starts;
    empty = inl pg.empty;
    silent = choice_silent;
    whole = choice_whole;
    fronts = choice_fronts;
    nulls = choice_nulls;
    sound = choice_sound;
    stops = choice_stops;
    takes = choice_takes a;
    reads = choice_reads a;
  }

-- larger sets serve too

module _ {A : Type 0} {g : Part A} {p : Reader A} {fa la : List ℕ} {na : Bool} (pg : Good g p fa la na) (first last : List ℕ) where
  wide_clear : within la last ≡ true → (w : List Token) → Clear last w → Clear la w
  wide_clear h [] k = tt
  wide_clear h (t ∷ w) k = go (has (kind_number t.kind) la) refl
    where
      go : (b : Bool) → has (kind_number t.kind) la ≡ b → b ≡ false
      go true e = let j : has (kind_number t.kind) last ≡ true = within_has (kind_number t.kind) la last h e in cc
      go false e = refl

  pub wide_good : within fa first ≡ true → within la last ≡ true → Good g p first last na
  wide_good hf hl = record {
    starts = λ t v b k. within_has (kind_number t.kind) fa first hf (pg.starts t v b k);
    empty = pg.empty;
    silent = pg.silent;
    whole = pg.whole;
    fronts = pg.fronts;
    nulls = pg.nulls;
    sound = pg.sound;
    stops = pg.stops;
    takes = λ u rest x d s k. pg.takes u rest x d s (wide_clear hl rest k);
    reads = pg.reads;
  }

-- an ELSE and its part

word_else : (t : Token) (x : Word) → is_else (Some (record t { kind = AWord x })) ≡ has (word_number x) (the_word Else)
word_else t Else = refl
word_else t _ = refl

symbol_else : (x : Symbol) → has (symbol_number x) (the_word Else) ≡ false
symbol_else Open = refl
symbol_else _ = refl

kind_else : (t : Token) (k : TokenKind) → is_else (Some (record t { kind = k })) ≡ has (kind_number k) (the_word Else)
kind_else t (AWord x) = word_else t x
kind_else t (ASymbol x) = sym (symbol_else x)
kind_else t _ = refl

is_else_has : (t : Token) → is_else (Some t) ≡ has (kind_number t.kind) (the_word Else)
is_else_has t = kind_else t t.kind

module _ {A : Type 0} {g : Part A} {p : Reader A} {la : List ℕ} (pg : Good g p (the_word Else) la false) where
  else_whole : (c : Option Token) (u : List Token) (x : Option A) (b : Beyond) → (else_part g).spells c u x b → (else_part g).begins u b
  unfolding else_part
  else_whole c u None b h = rw (h.0, h.2) pg.empty
  else_whole c u (Some x) b h = pg.whole c u x b h

  some_sound : (w : List Token) (x : Option A) (e : Beyond) (rest : List Token) → read_made Some p w ≡ Got x e rest → (u : List Token) × (d : Beyond) × (w ≡ u ++ rest) × (e ≡ before d rest) × else_spells g (follow rest None) u x d
  some_sound w x e rest k = go (p w) refl k
    where
      found : (y : A) (f : Beyond) (r : List Token) → Some y ≡ x → f ≡ e → r ≡ rest → (u : List Token) × (d : Beyond) × (w ≡ u ++ r) × (f ≡ before d r) × g.spells (follow r None) u y d → (u : List Token) × (d : Beyond) × (w ≡ u ++ rest) × (e ≡ before d rest) × else_spells g (follow rest None) u x d
      found y f r h i j s = rw (← h, ← i, ← j) s

      go : (o : Out A) → p w ≡ o → mapped Some o ≡ Got x e rest → (u : List Token) × (d : Beyond) × (w ≡ u ++ rest) × (e ≡ before d rest) × else_spells g (follow rest None) u x d
      go (Got y f r) z k = found y f r (got_value (Some y) x f e r rest k) (got_beyond (Some y) x f e r rest k) (got_rest (Some y) x f e r rest k) (pg.sound w y f r z)
      go (Bad f r) z k = cc
      go (Deep r) z k = cc

  else_sound : (w : List Token) (x : Option A) (e : Beyond) (rest : List Token) → read_else p w ≡ Got x e rest → (u : List Token) × (d : Beyond) × (w ≡ u ++ rest) × (e ≡ before d rest) × (else_part g).spells (follow rest None) u x d
  unfolding else_part
  else_sound w x e rest k = go (is_else (follow w None)) refl k
    where
      none : None ≡ x → None ≡ e → w ≡ rest → is_else (follow w None) ≡ false → (u : List Token) × (d : Beyond) × (w ≡ u ++ rest) × (e ≡ before d rest) × else_spells g (follow rest None) u x d
      none h i j k = rw (← h, ← i, ← j) ([], None, refl, refl, (refl, k, refl))

      go : (b : Bool) → is_else (follow w None) ≡ b → picked b (read_made Some p) no_else w ≡ Got x e rest → (u : List Token) × (d : Beyond) × (w ≡ u ++ rest) × (e ≡ before d rest) × else_spells g (follow rest None) u x d
      go true z k = some_sound w x e rest k
      go false z k = none (got_value None x None e w rest k) (got_beyond None x None e w rest k) (got_rest None x None e w rest k) z

  else_stops : (w : List Token) (e : Beyond) (rest : List Token) → read_else p w ≡ Bad e rest → p w ≡ Bad e rest
  else_stops w e rest k = go (is_else (follow w None)) k
    where
      inner : (o : Out A) → mapped Some o ≡ Bad e rest → o ≡ Bad e rest
      inner (Got x f r) k = cc
      inner (Bad f r) k = rw (bad_beyond f e r rest k, bad_rest f e r rest k) refl
      inner (Deep r) k = cc

      go : (b : Bool) → picked b (read_made Some p) no_else w ≡ Bad e rest → p w ≡ Bad e rest
      go true k = inner (p w) k
      go false k = cc

  else_takes : (u rest : List Token) (x : Option A) (d : Beyond) → (else_part g).spells (follow rest None) u x d → Clear la rest → read_else p (u ++ rest) ≡ Got x (before d rest) rest
  unfolding else_part
  else_takes u rest None d h k = rw (h.0, h.2) (rw (h.1, picked) refl)
  else_takes [] rest (Some x) d h k = let z : false ≡ true = pg.nulls _ x d h in cc
  else_takes (t ∷ u) rest (Some x) d h k =
      let z : is_else (Some t) ≡ true = is_else_has t ∙ pg.starts t u d (pg.whole _ (t ∷ u) x d h) in
      rw (z, picked) (rw (pg.takes (t ∷ u) rest x d h k, mapped) refl)

  some_agrees : (o : Out A) (d : Beyond) (y : List Token) → Agrees o d y → Agrees (mapped Some o) d y
  some_agrees (Got x e r) d y h = h
  some_agrees (Bad e r) d y h = h
  some_agrees (Deep r) d y h = h

  else_le : (w : List Token) → Agrees (read_else p w) None w
  else_le w = go (is_else (follow w None))
    where
      go : (b : Bool) → Agrees (picked b (read_made Some p) no_else w) None w
      go true = some_agrees (p w) None w (pg.reads [] w None pg.empty)
      go false = (omega arith, tt)

  else_reads : (v y : List Token) (d : Beyond) → (else_part g).begins v d → Agrees (read_else p (v ++ y)) d y
  unfolding else_part
  else_reads [] y d k = let z : d ≡ None = pg.silent d k in rw z (else_le y)
  else_reads (t ∷ v) y d k =
      let z : is_else (Some t) ≡ true = is_else_has t ∙ pg.starts t v d k in
      rw (z, picked) (some_agrees (p ((t ∷ v) ++ y)) d y (pg.reads (t ∷ v) y d k))

  pub else_good : Good (else_part g) (read_else p) (the_word Else) la true
  unfolding else_part
  else_good = record {
    starts = pg.starts;
    empty = pg.empty;
    silent = pg.silent;
    whole = else_whole;
    fronts = pg.fronts;
    nulls = λ c x b h. refl;
    sound = else_sound;
    stops = λ w e rest k. pg.stops w e rest (else_stops w e rest k);
    takes = else_takes;
    reads = else_reads;
  }

-- what nests directly beyond the limit

begun_none : (w r : List Token) → length w ≤ length r → begun w r ≡ None
begun_none w r l = rw (le-ltb (length r) (length w) l) refl

begun_some : (w r : List Token) → suc (length r) ≤ length w → begun w r ≡ Some w
begun_some w r l = rw (lt-ltb (length r) (length w) l) refl

begun_first : (u r : List Token) → begun (u ++ r) r ≡ before (at_first u) r
begun_first [] r = begun_none r r (omega arith)
begun_first (t ∷ u) r = begun_some ((t ∷ u) ++ r) r (omega (arith, length-append u r))

module _ {A : Type 0} {g : Part A} {p : Reader A} {fa la : List ℕ} (pg : Good g p fa la false) where
  beyond_starts : (t : Token) (v : List Token) (b : Beyond) → (beyond g).begins (t ∷ v) b → has (kind_number t.kind) fa ≡ true
  unfolding beyond
  beyond_starts t v b (d, k, e) = pg.starts t v d k

  beyond_silent : (b : Beyond) → (beyond g).begins [] b → b ≡ None
  unfolding beyond
  beyond_silent b (d, k, e) = e

  beyond_whole : (c : Option Token) (u : List Token) (x : A) (b : Beyond) → (beyond g).spells c u x b → (beyond g).begins u b
  unfolding beyond
  beyond_whole c u x b (d, s, e) = (d, pg.whole c u x d s, e)

  beyond_fronts : (u v : List Token) (b : Beyond) → (beyond g).begins (u ++ v) b → (d : Beyond) × (beyond g).begins u d
  unfolding beyond
  beyond_fronts u v b (d, k, e) = go (pg.fronts u v d k)
    where
      go : (d : Beyond) × g.begins u d → (d : Beyond) × (beyond g).begins u d
      go (d, k) = (at_first u, (d, k, refl))

  beyond_nulls : (c : Option Token) (x : A) (b : Beyond) → (beyond g).spells c [] x b → false ≡ true
  unfolding beyond
  beyond_nulls c x b (d, s, e) = pg.nulls c x d s

  -- what is spelled has a token, so it begins where it is marked
  spelled_first : (c : Option Token) (u rest : List Token) (x : A) (d : Beyond) → g.spells c u x d → Some (u ++ rest) ≡ before (at_first u) rest
  spelled_first c [] rest x d s = let z : false ≡ true = pg.nulls c x d s in cc
  spelled_first c (t ∷ u) rest x d s = refl

  beyond_sound : (w : List Token) (x : A) (e : Beyond) (rest : List Token) → read_beyond p w ≡ Got x e rest → (u : List Token) × (d : Beyond) × (w ≡ u ++ rest) × (e ≡ before d rest) × (beyond g).spells (follow rest None) u x d
  unfolding beyond
  beyond_sound w x e rest k = go (p w) refl k
    where
      found : (y : A) (f : Beyond) (r : List Token) → y ≡ x → Some w ≡ e → r ≡ rest → (u : List Token) × (d : Beyond) × (w ≡ u ++ r) × (f ≡ before d r) × g.spells (follow r None) u y d → (u : List Token) × (d : Beyond) × (w ≡ u ++ rest) × (e ≡ before d rest) × (beyond g).spells (follow rest None) u x d
      found y f r h i j (u, d, m, n, s) = rw (← h, ← i, ← j) (u, at_first u, m, ap Some m ∙ spelled_first (follow r None) u r y d s, (d, s, refl))

      go : (o : Out A) → p w ≡ o → marked w o ≡ Got x e rest → (u : List Token) × (d : Beyond) × (w ≡ u ++ rest) × (e ≡ before d rest) × (beyond g).spells (follow rest None) u x d
      go (Got y f r) z k = found y f r (got_value y x (Some w) e r rest k) (got_beyond y x (Some w) e r rest k) (got_rest y x (Some w) e r rest k) (pg.sound w y f r z)
      go (Bad f r) z k = cc
      go (Deep r) z k = cc

  beyond_stops : (w : List Token) (e : Beyond) (rest : List Token) → read_beyond p w ≡ Bad e rest → (u : List Token) × (d : Beyond) × (w ≡ u ++ rest) × (e ≡ before d rest) × (beyond g).begins u d
  unfolding beyond
  beyond_stops w e rest k = go (p w) refl k
    where
      found : (f : Beyond) (r : List Token) → begun w r ≡ e → r ≡ rest → (u : List Token) × (d : Beyond) × (w ≡ u ++ r) × (f ≡ before d r) × g.begins u d → (u : List Token) × (d : Beyond) × (w ≡ u ++ rest) × (e ≡ before d rest) × (beyond g).begins u d
      found f r i j (u, d, m, n, s) = rw (← i, ← j) (u, at_first u, m, ap (λ w. begun w r) m ∙ begun_first u r, (d, s, refl))

      go : (o : Out A) → p w ≡ o → marked w o ≡ Bad e rest → (u : List Token) × (d : Beyond) × (w ≡ u ++ rest) × (e ≡ before d rest) × (beyond g).begins u d
      go (Got y f r) z k = cc
      go (Bad f r) z k = found f r (bad_beyond {A = A} (begun w r) e r rest k) (bad_rest {A = A} (begun w r) e r rest k) (pg.stops w f r z)
      go (Deep r) z k = cc

  beyond_takes : (u rest : List Token) (x : A) (d : Beyond) → (beyond g).spells (follow rest None) u x d → Clear la rest → read_beyond p (u ++ rest) ≡ Got x (before d rest) rest
  unfolding beyond
  beyond_takes u rest x b (d, s, e) k = rw (pg.takes u rest x d s k, marked) (rw e (ap (λ f. Got x f rest) (spelled_first (follow rest None) u rest x d s)))

  marked_reads : (v y : List Token) (o : Out A) (d : Beyond) → Agrees o d y → Agrees (marked (v ++ y) o) (at_first v) y
  marked_reads [] y (Got x e r) d h = (h.0, tt)
  marked_reads [] y (Bad e r) d h = (h.0, tt)
  marked_reads [] y (Deep r) d h = tt
  marked_reads (t ∷ v) y (Got x e r) d h = (h.0, inl refl)
  marked_reads (t ∷ v) y (Bad e r) d h = (h.0, inl (begun_some ((t ∷ v) ++ y) r (let l : length r ≤ length y = h.0 in omega (arith, length-append v y))))
  marked_reads (t ∷ v) y (Deep r) d h = tt

  beyond_reads : (v y : List Token) (d : Beyond) → (beyond g).begins v d → Agrees (read_beyond p (v ++ y)) d y
  unfolding beyond
  beyond_reads v y b (d, k, e) = rw e (marked_reads v y (p (v ++ y)) d (pg.reads v y d k))

  pub beyond_good : Good (beyond g) (read_beyond p) fa la false
  unfolding beyond
  beyond_good = record {
    starts = beyond_starts;
    empty = (None, pg.empty, refl);
    silent = beyond_silent;
    whole = beyond_whole;
    fronts = beyond_fronts;
    nulls = beyond_nulls;
    sound = beyond_sound;
    stops = beyond_stops;
    takes = beyond_takes;
    reads = beyond_reads;
  }

-- what nothing spells

module _ (A : Type 0) (s : List ℕ) where
  nowhere_starts : (t : Token) (v : List Token) (b : Beyond) → (nowhere {A = A}).begins (t ∷ v) b → has (kind_number t.kind) s ≡ true
  unfolding nowhere
  nowhere_starts t v b (h, k) = cc

  nowhere_fronts : (u v : List Token) (b : Beyond) → (nowhere {A = A}).begins (u ++ v) b → (d : Beyond) × (nowhere {A = A}).begins u d
  unfolding nowhere
  nowhere_fronts [] v b h = (None, (refl, refl))
  nowhere_fronts (t ∷ u) v b (h, k) = cc

  deep_got : (w : List Token) (x : A) (e : Beyond) (rest : List Token) → read_deep s w ≡ Got x e rest → ⊥
  deep_got w x e rest k = go (opens s w) k
    where
      go : (b : Bool) → picked b Deep (Bad None) w ≡ Got x e rest → ⊥
      go true k = cc
      go false k = cc

  deep_stops : (w : List Token) (e : Beyond) (rest : List Token) → read_deep {A = A} s w ≡ Bad e rest → (u : List Token) × (d : Beyond) × (w ≡ u ++ rest) × (e ≡ before d rest) × (nowhere {A = A}).begins u d
  unfolding nowhere
  deep_stops w e rest k = go (opens s w) k
    where
      go : (b : Bool) → picked {A = A} b Deep (Bad None) w ≡ Bad e rest → (u : List Token) × (d : Beyond) × (w ≡ u ++ rest) × (e ≡ before d rest) × (nowhere {A = A}).begins u d
      go true k = cc
      go false k = ([], None, bad_rest {A = A} None e w rest k, sym (bad_beyond {A = A} None e w rest k), (refl, refl))

  deep_reads : (v y : List Token) (d : Beyond) → (nowhere {A = A}).begins v d → Agrees (read_deep {A = A} s (v ++ y)) d y
  unfolding nowhere
  deep_reads v y d (h, k) = rw (h, k) (go (opens s y))
    where
      go : (b : Bool) → Agrees (picked {A = A} b Deep (Bad None) y) None y
      go true = tt
      go false = (omega arith, tt)

  pub nowhere_good : Good (nowhere {A = A}) (read_deep s) s [] false
  unfolding nowhere
  nowhere_good = record {
    starts = nowhere_starts;
    empty = (refl, refl);
    silent = λ b h. h.1;
    whole = λ c u x b h. absurd h;
    fronts = nowhere_fronts;
    nulls = λ c x b h. absurd h;
    sound = λ w x e rest k. absurd (deep_got w x e rest k);
    stops = deep_stops;
    takes = λ u rest x d h k. absurd h;
    reads = deep_reads;
  }
