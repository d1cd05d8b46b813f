-- One token, no token, one part after the other, and values made of what is read.
use Rattle.std.proofs.Common.{◌≡◌, ℕ, ◌≤◌, Bool, true, false, List, [], ◌∷◌, ◌++◌, length, refl, sym, ◌∙◌, ap, subst, inl, inr, arith, append_assoc, ◌⊎◌, ◌&&◌, Option, Some, None}
use Rattle.algolw_tree.specs.declared.tokens.Token.{Token}
use Rattle.algolw_tree.specs.Parts.{Beyond, Part, follow, across, token, nothing, empty, both, made}
use Rattle.algolw_tree.specs.Grammar.{left, right, applied}
use Rattle.algolw_grammar.specs.Kinds.{kind_number, has}
use Rattle.algolw_grammar.specs.Readers.{Out, Got, Bad, Deep, Reader, earlier, taken, read_token, read_nothing, read_empty, behind, then, read_both, mapped, read_made, read_left, read_right, read_applied}
use Rattle.algolw_grammar.proofs.Sets.{when, has-left, has-right, apart, apart_has}
use Rattle.algolw_grammar.proofs.Good.{Clear, before, Kept, Agrees, Good, got_value, got_beyond, got_rest, bad_beyond, bad_rest, follow_append, append_nil, clear_left, clear_right, before_across, across_nil, left_le}

-- The front u of a list is a front of v1, which begins that list too, or goes on behind it with a front of the rest w1.
pub split_fronts : {A : Type 0} (u v v1 w1 : List A) → u ++ v ≡ v1 ++ w1 → ((z : List A) × (v1 ≡ u ++ z) × (v ≡ z ++ w1)) ⊎ ((z : List A) × (u ≡ v1 ++ z) × (w1 ≡ z ++ v))
split_fronts [] v v1 w1 e = inl (v1, refl, e)
split_fronts (t ∷ u) v [] w1 e = inr (t ∷ u, refl, sym e)
split_fronts {A} (t ∷ u) v (t1 ∷ v1) w1 e = go (split_fronts u v v1 w1 (tails t t1 (u ++ v) (v1 ++ w1) e))
  where
    heads : (a b : A) (r s : List A) → a ∷ r ≡ b ∷ s → a ≡ b
    heads a b r s e = cc

    tails : (a b : A) (r s : List A) → a ∷ r ≡ b ∷ s → r ≡ s
    tails a b r s e = cc

    same : t ≡ t1
    same = heads t t1 (u ++ v) (v1 ++ w1) e

    cons : (a b : A) (r s : List A) → a ≡ b → r ≡ s → a ∷ r ≡ b ∷ s
    cons a b r s e1 e2 = cc

    go : ((z : List A) × (v1 ≡ u ++ z) × (v ≡ z ++ w1)) ⊎ ((z : List A) × (u ≡ v1 ++ z) × (w1 ≡ z ++ v)) → ((z : List A) × (t1 ∷ v1 ≡ (t ∷ u) ++ z) × (v ≡ z ++ w1)) ⊎ ((z : List A) × (t ∷ u ≡ (t1 ∷ v1) ++ z) × (w1 ≡ z ++ v))
    go (inl (z, a, b)) = inl (z, cons t1 t v1 (u ++ z) (sym same) a, b)
    go (inr (z, a, b)) = inr (z, cons t t1 u (v1 ++ z) same a, b)

-- one token

module _ {A : Type 0} (f : A → Token) (r : Token → Option A) (s : List ℕ) (back : (t : Token) (x : A) → r t ≡ Some x → t ≡ f x) (forth : (x : A) → r (f x) ≡ Some x) (kinds : (x : A) → has (kind_number (f x).kind) s ≡ true) where
  token_starts : (t : Token) (v : List Token) (b : Beyond) → (token f).begins (t ∷ v) b → has (kind_number t.kind) s ≡ true
  unfolding token
  token_starts t v b (inl e, m) = cc
  token_starts t v b (inr (x, e), m) = let h : t ≡ f x = cc in rw h (kinds x)

  token_fronts : (u v : List Token) (b : Beyond) → (token f).begins (u ++ v) b → (d : Beyond) × (token f).begins u d
  unfolding token
  token_fronts [] v b h = (None, (inl refl, refl))
  token_fronts (t ∷ u) v b (inl e, m) = cc
  token_fronts (t ∷ []) v b (inr (x, e), m) = let h : t ≡ f x = cc in (None, (inr (x, ap (λ t. t ∷ []) h), refl))
  token_fronts (t ∷ k ∷ u) v b (inr (x, e), m) = cc

  token_sound : (w : List Token) (x : A) (e : Beyond) (rest : List Token) → read_token r w ≡ Got x e rest → (u : List Token) × (d : Beyond) × (w ≡ u ++ rest) × (e ≡ before d rest) × (token f).spells (follow rest None) u x d
  unfolding token
  token_sound [] x e rest h = cc
  token_sound (t ∷ w) x e rest h = go (r t) refl h
    where
      go : (o : Option A) → r t ≡ o → taken o t w ≡ Got x e rest → (u : List Token) × (d : Beyond) × (t ∷ w ≡ u ++ rest) × (e ≡ before d rest) × (token f).spells (follow rest None) u x d
      go (Some y) k h =
          let h1 : y ≡ x = got_value y x None e w rest h in
          let h2 : w ≡ rest = got_rest y x None e w rest h in
          (t ∷ [], None, ap (λ w. t ∷ w) h2, sym (got_beyond y x None e w rest h), (ap (λ t. t ∷ []) (back t x (k ∙ ap Some h1)), refl))
      go None k h = cc

  token_stops : (w : List Token) (e : Beyond) (rest : List Token) → read_token r w ≡ Bad e rest → (u : List Token) × (d : Beyond) × (w ≡ u ++ rest) × (e ≡ before d rest) × (token f).begins u d
  unfolding token
  token_stops [] e rest h = ([], None, bad_rest None e [] rest h, sym (bad_beyond None e [] rest h), (inl refl, refl))
  token_stops (t ∷ w) e rest h = go (r t) h
    where
      go : (o : Option A) → taken o t w ≡ Bad e rest → (u : List Token) × (d : Beyond) × (t ∷ w ≡ u ++ rest) × (e ≡ before d rest) × (token f).begins u d
      go (Some y) h = cc
      go None h = ([], None, bad_rest None e (t ∷ w) rest h, sym (bad_beyond None e (t ∷ w) rest h), (inl refl, refl))

  token_takes : (u rest : List Token) (x : A) (d : Beyond) → (token f).spells (follow rest None) u x d → read_token r (u ++ rest) ≡ Got x (before d rest) rest
  unfolding token
  token_takes u rest x d h = rw (h.0) (rw (h.1) (rw (forth x, read_token, taken) refl))

  token_reads : (v y : List Token) (d : Beyond) → (token f).begins v d → Agrees (read_token r (v ++ y)) d y
  unfolding token
  token_reads v y d (inl e, m) = rw e (rw m (at_start y))
    where
      at_start : (y : List Token) → Agrees (read_token r y) None y
      at_start [] = (omega arith, tt)
      at_start (t ∷ y) = go (r t)
        where
          go : (o : Option A) → Agrees (taken o t y) None (t ∷ y)
          go (Some x) = (omega arith, tt)
          go None = (omega arith, tt)
  token_reads v y d (inr (x, e), m) = rw e (rw m (rw (forth x, read_token, taken) (omega arith, tt)))

pub token_good : {A : Type 0} (f : A → Token) (r : Token → Option A) (s : List ℕ) → ((t : Token) (x : A) → r t ≡ Some x → t ≡ f x) → ((x : A) → r (f x) ≡ Some x) → ((x : A) → has (kind_number (f x).kind) s ≡ true) → Good (token f) (read_token r) s [] false
unfolding token
token_good f r s back forth kinds = record {
  starts = token_starts f r s back forth kinds;
  empty = (inl refl, refl);
  silent = λ b h. h.1;
  whole = λ c u x b h. (inr (x, h.0), h.1);
  fronts = token_fronts f r s back forth kinds;
  nulls = λ c x b h. let e : [] ≡ f x ∷ [] = h.0 in cc;
  sound = token_sound f r s back forth kinds;
  stops = token_stops f r s back forth kinds;
  takes = λ u rest x d h k. token_takes f r s back forth kinds u rest x d h;
  reads = token_reads f r s back forth kinds;
}

-- no token

-- what begins with no token has only the front of none
none_fronts : (u v : List Token) (b : Beyond) → (u ++ v ≡ []) × (b ≡ None) → (d : Beyond) × ((u ≡ []) × (d ≡ None))
none_fronts [] v b h = (None, (refl, refl))
none_fronts (t ∷ u) v b h = let e : t ∷ (u ++ v) ≡ [] = h.0 in cc

pub nothing_good : {A : Type 0} (x : A) → Good (nothing x) (read_nothing x) [] [] true
unfolding nothing
nothing_good x = record {
  starts = λ t v b h. let e : t ∷ v ≡ [] = h.0 in cc;
  empty = (refl, refl);
  silent = λ b h. h.1;
  whole = λ c u y b h. (h.0, h.2);
  fronts = none_fronts;
  nulls = λ c y b h. refl;
  sound = λ w y e rest h. ([], None, got_rest x y None e w rest h, sym (got_beyond x y None e w rest h), (refl, sym (got_value x y None e w rest h), refl));
  stops = λ w e rest h. cc;
  takes = λ u rest y d h k. rw (h.0) (rw (h.1) (rw (h.2) refl));
  reads = λ v y d h. rw (h.0) (rw (h.1) (omega arith, tt));
}

-- no token, and what the next one makes

module _ {A : Type 0} (f : Token → A) where
  empty_sound : (w : List Token) (x : A) (e : Beyond) (rest : List Token) → read_empty f w ≡ Got x e rest → (u : List Token) × (d : Beyond) × (w ≡ u ++ rest) × (e ≡ before d rest) × (empty f).spells (follow rest None) u x d
  unfolding empty
  empty_sound [] x e rest h = cc
  empty_sound (t ∷ w) x e rest h =
      let h1 : t ∷ w ≡ rest = got_rest (f t) x None e (t ∷ w) rest h in
      ([], None, h1, sym (got_beyond (f t) x None e (t ∷ w) rest h), (refl, (t, ap (λ r. follow r None) (sym h1), sym (got_value (f t) x None e (t ∷ w) rest h)), refl))

  empty_stops : (w : List Token) (e : Beyond) (rest : List Token) → read_empty f w ≡ Bad e rest → (u : List Token) × (d : Beyond) × (w ≡ u ++ rest) × (e ≡ before d rest) × (empty f).begins u d
  unfolding empty
  empty_stops [] e rest h = ([], None, bad_rest None e [] rest h, sym (bad_beyond None e [] rest h), (refl, refl))
  empty_stops (t ∷ w) e rest h = cc

  empty_takes : (u rest : List Token) (x : A) (d : Beyond) → (empty f).spells (follow rest None) u x d → read_empty f (u ++ rest) ≡ Got x (before d rest) rest
  unfolding empty
  empty_takes u [] x d (e, (t, k, l), m) = cc
  empty_takes u (t' ∷ rest) x d (e, (t, k, l), m) = let h : t' ≡ t = cc in rw e (rw l (rw m (rw h refl)))

  empty_reads : (v y : List Token) (d : Beyond) → (empty f).begins v d → Agrees (read_empty f (v ++ y)) d y
  unfolding empty
  empty_reads v [] d h = rw (h.0) (rw (h.1) (omega arith, tt))
  empty_reads v (t ∷ y) d h = rw (h.0) (rw (h.1) (omega arith, tt))

pub empty_good : {A : Type 0} (f : Token → A) → Good (empty f) (read_empty f) [] [] true
unfolding empty
empty_good f = record {
  starts = λ t v b h. let e : t ∷ v ≡ [] = h.0 in cc;
  empty = (refl, refl);
  silent = λ b h. h.1;
  whole = λ c u y b h. (h.0, h.2);
  fronts = none_fronts;
  nulls = λ c y b h. refl;
  sound = empty_sound f;
  stops = empty_stops f;
  takes = λ u rest x d h k. empty_takes f u rest x d h;
  reads = empty_reads f;
}

-- a value made of what is read

module _ {A B : Type 0} (f : A → B) {g : Part A} {p : Reader A} {fa la : List ℕ} {na : Bool} (pg : Good g p fa la na) where
  made_sound : (w : List Token) (y : B) (e : Beyond) (rest : List Token) → read_made f p w ≡ Got y e rest → (u : List Token) × (d : Beyond) × (w ≡ u ++ rest) × (e ≡ before d rest) × (made f g).spells (follow rest None) u y d
  unfolding made
  made_sound w y e rest h = go (p w) refl h
    where
      found : (x : A) → y ≡ f x → (u : List Token) × (d : Beyond) × (w ≡ u ++ rest) × (e ≡ before d rest) × g.spells (follow rest None) u x d → (u : List Token) × (d : Beyond) × (w ≡ u ++ rest) × (e ≡ before d rest) × (made f g).spells (follow rest None) u y d
      found x k (u, d, a, b, s) = (u, d, a, b, (x, s, k))

      go : (o : Out A) → p w ≡ o → mapped f o ≡ Got y e rest → (u : List Token) × (d : Beyond) × (w ≡ u ++ rest) × (e ≡ before d rest) × (made f g).spells (follow rest None) u y d
      go (Got x e1 r) k h =
          let h1 : e1 ≡ e = got_beyond (f x) y e1 e r rest h in
          let h2 : r ≡ rest = got_rest (f x) y e1 e r rest h in
          found x (sym (got_value (f x) y e1 e r rest h)) (pg.sound w x e rest (k ∙ cc))
      go (Bad e1 r) k h = cc
      go (Deep r) k h = cc

  made_stops : (w : List Token) (e : Beyond) (rest : List Token) → read_made f p w ≡ Bad e rest → p w ≡ Bad e rest
  made_stops w e rest h = go (p w) h
    where
      go : (o : Out A) → mapped f o ≡ Bad e rest → o ≡ Bad e rest
      go (Got x e1 r) h = cc
      go (Bad e1 r) h = let h1 : e1 ≡ e = bad_beyond e1 e r rest h in let h2 : r ≡ rest = bad_rest e1 e r rest h in cc
      go (Deep r) h = cc

  mapped_agrees : (o : Out A) (d : Beyond) (y : List Token) → Agrees o d y → Agrees (mapped f o) d y
  mapped_agrees (Got x e r) d y h = h
  mapped_agrees (Bad e r) d y h = h
  mapped_agrees (Deep r) d y h = h

  pub made_good : Good (made f g) (read_made f p) fa la na
  unfolding made
  made_good = record {
    starts = pg.starts;
    empty = pg.empty;
    silent = pg.silent;
    whole = λ c u y b h. pg.whole c u h.0 b h.1;
    fronts = pg.fronts;
    nulls = λ c y b h. pg.nulls c h.0 b h.1;
    sound = made_sound;
    stops = λ w e rest h. pg.stops w e rest (made_stops w e rest h);
    takes = λ u rest y d h k. rw (pg.takes u rest h.0 d h.1 k, mapped) (rw (h.2) refl);
    reads = λ v y d h. mapped_agrees (p (v ++ y)) d y (pg.reads v y d h);
  }

-- one after the other

module _ {A B : Type 0} {g : Part A} {p : Reader A} {fa la : List ℕ} {na : Bool} {h : Part B} {q : Reader B} {fb lb : List ℕ} {nb : Bool} (pg : Good g p fa la na) (qh : Good h q fb lb nb) where
  -- what begins with all of the first part and nothing of the second begins with the first
  first_only : (v u : List Token) (d e b : Beyond) → u ≡ v ++ [] → b ≡ across d [] e → g.begins v d → h.begins [] e → g.begins u b
  first_only v u d e b k l s r =
      let z : e ≡ None = qh.silent e r in
      let m : b ≡ d = l ∙ ap (λ e. across d [] e) z ∙ across_nil d in
      rw k (rw (append_nil v) (rw m s))

  pub both_starts : (t : Token) (v : List Token) (b : Beyond) → (both g h).begins (t ∷ v) b → has (kind_number t.kind) (fa ++ when na fb) ≡ true
  unfolding both
  both_starts t v b (inl k) = has-left (kind_number t.kind) fa _ (pg.starts t v b k)
  both_starts t v b (inr ([], w, d, e, x, k, l, s, r)) =
      let z : na ≡ true = pg.nulls _ x d s in
      rw z (has-right (kind_number t.kind) fa fb (qh.starts t v e (rw (← k) at r)))
  both_starts t v b (inr (t' ∷ u, w, d, e, x, k, l, s, r)) =
      let m : t ≡ t' = cc in
      rw m (has-left (kind_number t'.kind) fa _ (pg.starts t' u d (pg.whole _ (t' ∷ u) x d s)))

  pub both_empty : (both g h).begins [] None
  unfolding both
  both_empty = inl pg.empty

  pub both_silent : (b : Beyond) → (both g h).begins [] b → b ≡ None
  unfolding both
  both_silent b (inl k) = pg.silent b k
  both_silent b (inr ([], [], d, e, x, k, l, s, r)) = pg.silent b (first_only [] [] d e b k l (pg.whole _ [] x d s) r)
  both_silent b (inr ([], t ∷ w, d, e, x, k, l, s, r)) = cc
  both_silent b (inr (t ∷ v, w, d, e, x, k, l, s, r)) = cc

  pub both_whole : (c : Option Token) (u : List Token) (x : A × B) (b : Beyond) → (both g h).spells c u x b → (both g h).begins u b
  unfolding both
  both_whole c u x b (v, [], d, e, k, l, s, r) = inl (first_only v u d e b k l (pg.whole _ v x.0 d s) (qh.whole c [] x.1 e r))
  both_whole c u x b (v, t ∷ w, d, e, k, l, s, r) = inr (v, t ∷ w, d, e, x.0, k, l, s, qh.whole c (t ∷ w) x.1 e r)

  pub both_fronts : (u v : List Token) (b : Beyond) → (both g h).begins (u ++ v) b → (d : Beyond) × (both g h).begins u d
  unfolding both
  both_fronts u v b (inl k) = go (pg.fronts u v b k)
    where
      go : (d : Beyond) × g.begins u d → (d : Beyond) × (both g h).begins u d
      go (d, k) = (d, inl k)
  both_fronts u v b (inr (v1, w1, d, e, x, k, l, s, r)) = go (split_fronts u v v1 w1 k)
    where
      in_first : (d : Beyond) × g.begins u d → (d : Beyond) × (both g h).begins u d
      in_first (d, k) = (d, inl k)

      behind_first : (t : Token) (z : List Token) → u ≡ v1 ++ (t ∷ z) → w1 ≡ (t ∷ z) ++ v → (e : Beyond) × h.begins (t ∷ z) e → (d : Beyond) × (both g h).begins u d
      behind_first t z a m (e2, n) =
          let s1 : g.spells (follow (t ∷ z) None) v1 x d = subst (λ w. g.spells (follow w None) v1 x d) m s in
          (across d (t ∷ z) e2, inr (v1, t ∷ z, d, e2, x, a, refl, s1, n))

      go : ((z : List Token) × (v1 ≡ u ++ z) × (v ≡ z ++ w1)) ⊎ ((z : List Token) × (u ≡ v1 ++ z) × (w1 ≡ z ++ v)) → (d : Beyond) × (both g h).begins u d
      go (inl (z, a, m)) = in_first (pg.fronts u z d (subst (λ y. g.begins y d) a (pg.whole _ v1 x d s)))
      go (inr ([], a, m)) = (d, inl (subst (λ y. g.begins y d) (sym (a ∙ append_nil v1)) (pg.whole _ v1 x d s)))
      go (inr (t ∷ z, a, m)) = behind_first t z a m (qh.fronts (t ∷ z) v e (subst (λ y. h.begins y e) m r))

  pub both_nulls : (c : Option Token) (x : A × B) (b : Beyond) → (both g h).spells c [] x b → (na && nb) ≡ true
  unfolding both
  both_nulls c x b ([], w, d, e, k, l, s, r) = rw (pg.nulls _ x.0 d s) (qh.nulls c x.1 e (rw (← k) at r))
  both_nulls c x b (t ∷ v, w, d, e, k, l, s, r) = cc

  -- places of two lists one after the other
  places : (w u1 r u2 rest : List Token) → w ≡ u1 ++ r → r ≡ u2 ++ rest → w ≡ (u1 ++ u2) ++ rest
  places w u1 r u2 rest f1 f2 = f1 ∙ ap (λ z. u1 ++ z) f2 ∙ sym (append_assoc u1 u2 rest)

  marks : (d1 d2 e1 e2 : Beyond) (r u2 rest : List Token) → e1 ≡ before d1 r → r ≡ u2 ++ rest → e2 ≡ before d2 rest → earlier e1 e2 ≡ before (across d1 u2 d2) rest
  marks d1 d2 e1 e2 r u2 rest b1 f2 b2 = ap (λ e. earlier e e2) (b1 ∙ ap (λ r. before d1 r) f2) ∙ ap (λ e. earlier (before d1 (u2 ++ rest)) e) b2 ∙ before_across d1 u2 d2 rest

  both_sound : (w : List Token) (x : A × B) (e : Beyond) (rest : List Token) → read_both p q w ≡ Got x e rest → (u : List Token) × (d : Beyond) × (w ≡ u ++ rest) × (e ≡ before d rest) × (both g h).spells (follow rest None) u x d
  unfolding both
  both_sound w x e rest k = go (p w) refl k
    where
      found : (a : A) (e1 : Beyond) (r : List Token) (b : B) (e2 : Beyond) (r2 : List Token) → (a, b) ≡ x → earlier e1 e2 ≡ e → r2 ≡ rest → (u : List Token) × (d : Beyond) × (w ≡ u ++ r) × (e1 ≡ before d r) × g.spells (follow r None) u a d → (u : List Token) × (d : Beyond) × (r ≡ u ++ r2) × (e2 ≡ before d r2) × h.spells (follow r2 None) u b d → (u : List Token) × (d : Beyond) × (w ≡ u ++ rest) × (e ≡ before d rest) × (both g h).spells (follow rest None) u x d
      found a e1 r b e2 r2 h1 h2 h3 (u1, d1, f1, b1, s1) (u2, d2, f2, b2, s2) =
          let s1' : g.spells (follow u2 (follow r2 None)) u1 a d1 = subst (λ c. g.spells c u1 a d1) (ap (λ r. follow r None) f2 ∙ follow_append u2 r2 None) s1 in
          rw (← h3) (rw (← h2) (rw (← h1) (u1 ++ u2, across d1 u2 d2, places w u1 r u2 r2 f1 f2, marks d1 d2 e1 e2 r u2 r2 b1 f2 b2, (u1, u2, d1, d2, refl, refl, s1', s2))))

      inner : (a : A) (e1 : Beyond) (r : List Token) → p w ≡ Got a e1 r → (o : Out B) → q r ≡ o → behind a e1 o ≡ Got x e rest → (u : List Token) × (d : Beyond) × (w ≡ u ++ rest) × (e ≡ before d rest) × (both g h).spells (follow rest None) u x d
      inner a e1 r k1 (Got b e2 r2) k2 k = found a e1 r b e2 r2 (got_value (a, b) x (earlier e1 e2) e r2 rest k) (got_beyond (a, b) x (earlier e1 e2) e r2 rest k) (got_rest (a, b) x (earlier e1 e2) e r2 rest k) (pg.sound w a e1 r k1) (qh.sound r b e2 r2 k2)
      inner a e1 r k1 (Bad e2 r2) k2 k = cc
      inner a e1 r k1 (Deep r2) k2 k = cc

      go : (o : Out A) → p w ≡ o → then q o ≡ Got x e rest → (u : List Token) × (d : Beyond) × (w ≡ u ++ rest) × (e ≡ before d rest) × (both g h).spells (follow rest None) u x d
      go (Got a e1 r) k1 k = inner a e1 r k1 (q r) refl k
      go (Bad e1 r) k1 k = cc
      go (Deep r) k1 k = cc

  both_stops : (w : List Token) (e : Beyond) (rest : List Token) → read_both p q w ≡ Bad e rest → (u : List Token) × (d : Beyond) × (w ≡ u ++ rest) × (e ≡ before d rest) × (both g h).begins u d
  unfolding both
  both_stops w e rest k = go (p w) refl k
    where
      bad_begins : (u1 u2 : List Token) (a : A) (d1 d2 : Beyond) → g.spells (follow (u2 ++ rest) None) u1 a d1 → h.begins u2 d2 → (both g h).begins (u1 ++ u2) (across d1 u2 d2)
      bad_begins u1 [] a d1 d2 s r = inl (first_only u1 (u1 ++ []) d1 d2 (across d1 [] d2) refl refl (pg.whole _ u1 a d1 s) r)
      bad_begins u1 (t ∷ u2) a d1 d2 s r = inr (u1, t ∷ u2, d1, d2, a, refl, refl, s, r)

      first_bad : (e1 : Beyond) (r : List Token) → e1 ≡ e → r ≡ rest → (u : List Token) × (d : Beyond) × (w ≡ u ++ r) × (e1 ≡ before d r) × g.begins u d → (u : List Token) × (d : Beyond) × (w ≡ u ++ rest) × (e ≡ before d rest) × (both g h).begins u d
      first_bad e1 r h1 h2 (u, d, f1, b1, m) = (u, d, f1 ∙ ap (λ r. u ++ r) h2, sym h1 ∙ b1 ∙ ap (λ r. before d r) h2, inl m)

      second_bad : (a : A) (e1 : Beyond) (r : List Token) (e2 : Beyond) (r2 : List Token) → earlier e1 e2 ≡ e → r2 ≡ rest → (u : List Token) × (d : Beyond) × (w ≡ u ++ r) × (e1 ≡ before d r) × g.spells (follow r None) u a d → (u : List Token) × (d : Beyond) × (r ≡ u ++ r2) × (e2 ≡ before d r2) × h.begins u d → (u : List Token) × (d : Beyond) × (w ≡ u ++ rest) × (e ≡ before d rest) × (both g h).begins u d
      second_bad a e1 r e2 r2 h2 h3 (u1, d1, f1, b1, s1) (u2, d2, f2, b2, m) =
          let f3 : r ≡ u2 ++ rest = f2 ∙ ap (λ r. u2 ++ r) h3 in
          let b3 : e2 ≡ before d2 rest = b2 ∙ ap (λ r. before d2 r) h3 in
          (u1 ++ u2, across d1 u2 d2, places w u1 r u2 rest f1 f3, sym h2 ∙ marks d1 d2 e1 e2 r u2 rest b1 f3 b3, bad_begins u1 u2 a d1 d2 (subst (λ r. g.spells (follow r None) u1 a d1) f3 s1) m)

      inner : (a : A) (e1 : Beyond) (r : List Token) → p w ≡ Got a e1 r → (o : Out B) → q r ≡ o → behind a e1 o ≡ Bad e rest → (u : List Token) × (d : Beyond) × (w ≡ u ++ rest) × (e ≡ before d rest) × (both g h).begins u d
      inner a e1 r k1 (Got b e2 r2) k2 k = cc
      inner a e1 r k1 (Bad e2 r2) k2 k = second_bad a e1 r e2 r2 (bad_beyond (earlier e1 e2) e r2 rest k) (bad_rest (earlier e1 e2) e r2 rest k) (pg.sound w a e1 r k1) (qh.stops r e2 r2 k2)
      inner a e1 r k1 (Deep r2) k2 k = cc

      go : (o : Out A) → p w ≡ o → then q o ≡ Bad e rest → (u : List Token) × (d : Beyond) × (w ≡ u ++ rest) × (e ≡ before d rest) × (both g h).begins u d
      go (Got a e1 r) k1 k = inner a e1 r k1 (q r) refl k
      go (Bad e1 r) k1 k = first_bad e1 r (bad_beyond e1 e r rest k) (bad_rest e1 e r rest k) (pg.stops w e1 r k1)
      go (Deep r) k1 k = cc

  -- where the second part, or what follows, is no token that goes on the first
  both_clear : apart fb la ≡ true → (c : Option Token) (u2 rest : List Token) (y : B) (e : Beyond) → h.spells c u2 y e → Clear (lb ++ when nb la) rest → Clear la (u2 ++ rest)
  both_clear d c [] rest y e s k = let z : nb ≡ true = qh.nulls c y e s in clear_right lb la rest (rw z at k)
  both_clear d c (t ∷ u2) rest y e s k = apart_has (kind_number t.kind) fb la d (qh.starts t u2 e (qh.whole c (t ∷ u2) y e s))

  both_takes : apart fb la ≡ true → (u rest : List Token) (x : A × B) (b : Beyond) → (both g h).spells (follow rest None) u x b → Clear (lb ++ when nb la) rest → read_both p q (u ++ rest) ≡ Got x (before b rest) rest
  unfolding both
  both_takes d u rest x b (u1, u2, d1, d2, k, l, s1, s2) c =
      let s1' : g.spells (follow (u2 ++ rest) None) u1 x.0 d1 = subst (λ c. g.spells c u1 x.0 d1) (sym (follow_append u2 rest None)) s1 in
      let e1 : p (u1 ++ (u2 ++ rest)) ≡ Got x.0 (before d1 (u2 ++ rest)) (u2 ++ rest) = pg.takes u1 (u2 ++ rest) x.0 d1 s1' (both_clear d _ u2 rest x.1 d2 s2 c) in
      let e2 : q (u2 ++ rest) ≡ Got x.1 (before d2 rest) rest = qh.takes u2 rest x.1 d2 s2 (clear_left lb _ rest c) in
      rw k (rw l (rw (append_assoc u1 u2 rest) (rw (e1, then) (rw (e2, behind) (ap (λ e. Got x e rest) (before_across d1 u2 d2 rest))))))

  -- reading on from a place before which the list went beyond the limit
  behind_kept : (a : A) (d e : Beyond) (r : List Token) (o : Out B) (y : List Token) → Agrees o None r → (length r ≤ length y) × Kept d e r y → Agrees (behind a e o) d y
  behind_kept a None e r (Got z e2 r2) y m k = (omega arith, tt)
  behind_kept a None e r (Bad e2 r2) y m k = (omega arith, tt)
  behind_kept a (Some from) e r (Got z e2 r2) y (m, n) (l, inl k) = (omega arith, inl (ap (λ e. earlier e e2) k))
  behind_kept a (Some from) e r (Got z e2 r2) y (m, n) (l, inr k) = (omega arith, inr (omega arith))
  behind_kept a (Some from) e r (Bad e2 r2) y (m, n) (l, inl k) = (omega arith, inl (ap (λ e. earlier e e2) k))
  behind_kept a (Some from) e r (Bad e2 r2) y (m, n) (l, inr k) = (omega arith, inr (omega arith))
  behind_kept a d e r (Deep r2) y m k = tt

  -- reading on behind the first part
  behind_agrees : (a : A) (d e : Beyond) (w : List Token) (o : Out B) (y : List Token) → Agrees o e y → Agrees (behind a (before d (w ++ y)) o) (across d w e) y
  behind_agrees a None e w (Got z e2 r2) y k = k
  behind_agrees a None e w (Bad e2 r2) y k = k
  behind_agrees a (Some from) e w (Got z e2 r2) y k = (k.0, inl (ap Some (sym (append_assoc from w y))))
  behind_agrees a (Some from) e w (Bad e2 r2) y k = (k.0, inl (ap Some (sym (append_assoc from w y))))
  behind_agrees a d e w (Deep r2) y k = tt

  both_reads_first : (v y : List Token) (d : Beyond) → g.begins v d → Agrees (read_both p q (v ++ y)) d y
  both_reads_first v y d b = on (p (v ++ y)) (pg.reads v y d b)
    where
      on : (o : Out A) → Agrees o d y → Agrees (then q o) d y
      on (Got a e r) k = behind_kept a d e r (q r) y (left_le h q fb lb nb qh r) k
      on (Bad e r) k = k
      on (Deep r) k = k

  both_reads : apart fb la ≡ true → (v y : List Token) (b : Beyond) → (both g h).begins v b → Agrees (read_both p q (v ++ y)) b y
  unfolding both
  both_reads c v y b (inl k) = both_reads_first v y b k
  both_reads c v y b (inr (u1, [], d, e, x, k, l, s, r)) = both_reads_first v y b (first_only u1 v d e b k l (pg.whole _ u1 x d s) r)
  both_reads c v y b (inr (u1, t ∷ u2, d, e, x, k, l, s, r)) =
      let m : Clear la ((t ∷ u2) ++ y) = apart_has (kind_number t.kind) fb la c (qh.starts t u2 e r) in
      let e1 : p (u1 ++ ((t ∷ u2) ++ y)) ≡ Got x (before d ((t ∷ u2) ++ y)) ((t ∷ u2) ++ y) = pg.takes u1 ((t ∷ u2) ++ y) x d s m in
      rw k (rw l (rw (append_assoc u1 (t ∷ u2) y) (rw (e1, then) (behind_agrees x d e (t ∷ u2) (q ((t ∷ u2) ++ y)) y (qh.reads (t ∷ u2) y e r)))))

  pub both_good : apart fb la ≡ true → Good (both g h) (read_both p q) (fa ++ when na fb) (lb ++ when nb la) (na && nb)
  both_good d = record {
    starts = both_starts;
    empty = both_empty;
    silent = both_silent;
    whole = both_whole;
    fronts = both_fronts;
    nulls = both_nulls;
    sound = both_sound;
    stops = both_stops;
    takes = both_takes d;
    reads = both_reads d;
  }

  -- the same where only one of the two counts

  pub left_good : apart fb la ≡ true → Good (made left (both g h)) (read_left p q) (fa ++ when na fb) (lb ++ when nb la) (na && nb)
  left_good d = made_good left (both_good d)

  pub right_good : apart fb la ≡ true → Good (made right (both g h)) (read_right p q) (fa ++ when na fb) (lb ++ when nb la) (na && nb)
  right_good d = made_good right (both_good d)

-- and where the second says what the first becomes

module _ {A B : Type 0} {g : Part A} {p : Reader A} {fa la : List ℕ} {na : Bool} {h : Part (A → B)} {q : Reader (A → B)} {fb lb : List ℕ} {nb : Bool} (pg : Good g p fa la na) (qh : Good h q fb lb nb) where
  pub applied_good : apart fb la ≡ true → Good (made applied (both g h)) (read_applied p q) (fa ++ when na fb) (lb ++ when nb la) (na && nb)
  applied_good d = made_good applied (both_good pg qh d)
