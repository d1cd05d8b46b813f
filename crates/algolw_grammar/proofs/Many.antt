-- Any number of parts, one after the other.
use Rattle.std.proofs.Common.{◌≡◌, ℕ, zero, suc, ◌≤◌, Bool, true, false, List, [], ◌∷◌, ◌++◌, length, refl, sym, ◌∙◌, ap, inl, inr, arith, append_assoc, ◌⊎◌, Option, Some, None, length-append}
use Rattle.algolw_tree.specs.declared.tokens.Token.{Token}
use Rattle.algolw_tree.specs.Parts.{Beyond, Part, follow, across, many, many_spells}
use Rattle.algolw_grammar.specs.Kinds.{kind_number, has, opens}
use Rattle.algolw_grammar.specs.Readers.{Out, Got, Bad, Deep, Reader, earlier, picked, on_front, more, turns, read_many, read_nothing}
use Rattle.algolw_grammar.proofs.Sets.{apart, apart_has}
use Rattle.algolw_grammar.proofs.Good.{Clear, before, Kept, Agrees, Good, got_value, got_beyond, got_rest, bad_beyond, bad_rest, follow_append, append_nil, clear_left, clear_right, before_across, across_nil, left_le}

-- beyond the limit in three lists
across_across : (d : Beyond) (w : List Token) (e : Beyond) (z : List Token) (e2 : Beyond) → across d (w ++ z) (across e z e2) ≡ across (across d w e) z e2
across_across None w e z e2 = refl
across_across (Some from) w e z e2 = ap Some (sym (append_assoc from w z))

-- A list put together in two ways: its first front lies within the other one, or goes beyond it.
abbrev Split : {A : Type 0} → List A → List A → List A → List A → Type 0
Split u v a b = ((z : List _) × (a ≡ u ++ z)) ⊎ ((z : List _) × (u ≡ a ++ z) × (z ++ v ≡ b))

split : {A : Type 0} (u v a b : List A) → u ++ v ≡ a ++ b → Split u v a b
split [] v a b e = inl (a, refl)
split (x ∷ u) v [] b e = inr (x ∷ u, refl, e)
split {A} (x ∷ u) v (y ∷ a) b e = go (split u v a b cc)
  where
    same : x ≡ y
    same = cc

    go : Split u v a b → Split (x ∷ u) v (y ∷ a) b
    go (inl (z, f)) = inl (z, ap (λ t. t ∷ a) (sym same) ∙ ap (λ t. x ∷ t) f)
    go (inr (z, f, k)) = inr (z, ap (λ t. t ∷ u) same ∙ ap (λ t. y ∷ t) f, k)

-- what agrees, further read

kept_on : (d e e2 : Beyond) (r r2 y : List Token) → Kept d e r y → length r2 ≤ length r → Kept d (earlier e e2) r2 y
kept_on None e e2 r r2 y k l = tt
kept_on (Some from) e e2 r r2 y (inl k) l = inl (rw (k, earlier) refl)
kept_on (Some from) e e2 r r2 y (inr b) l = inr (omega arith)

module _ {A : Type 0} where
  on_front_agrees : (x : A) (d e : Beyond) (o : Out (List A)) (r y : List Token) → length r ≤ length y → Kept d e r y → Agrees o None r → Agrees (on_front x e o) d y
  on_front_agrees x d e (Got xs e2 r2) r y l k (m, n) = (omega arith, kept_on d e e2 r r2 y k m)
  on_front_agrees x d e (Bad e2 r2) r y l k (m, n) = (omega arith, kept_on d e e2 r r2 y k m)
  on_front_agrees x d e (Deep r2) r y l k h = tt

  -- an item that was begun, and the turns behind it
  more_agrees : (q : Reader (List A)) → ((w : List Token) → Agrees (q w) None w) → (o : Out A) (d : Beyond) (y : List Token) → Agrees o d y → Agrees (more q o) d y
  more_agrees q le (Got x e r) d y (l, k) = on_front_agrees x d e (q r) r y l k (le r)
  more_agrees q le (Bad e r) d y h = h
  more_agrees q le (Deep r) d y h = h

  -- an item that was spelled, before what agrees
  after_agrees : (x : A) (d : Beyond) (z y : List Token) (e : Beyond) (o : Out (List A)) → Agrees o e y → Agrees (on_front x (before d (z ++ y)) o) (across d z e) y
  after_agrees x None z y e (Got xs e2 r) h = h
  after_agrees x None z y e (Bad e2 r) h = h
  after_agrees x None z y e (Deep r) h = h
  after_agrees x (Some from) z y e (Got xs e2 r) (l, k) = (l, inl (ap Some (sym (append_assoc from z y))))
  after_agrees x (Some from) z y e (Bad e2 r) (l, k) = (l, inl (ap Some (sym (append_assoc from z y))))
  after_agrees x (Some from) z y e (Deep r) h = tt

module _ {A : Type 0} {g : Part A} {p : Reader A} {fa la : List ℕ} (pg : Good g p fa la false) where
  -- what is spelled without tokens
  many_none : (c : Option Token) (u : List Token) (xs : List A) (b : Beyond) → u ≡ [] → many_spells g c u xs b → b ≡ None
  many_none c u [] b h m = m.1
  many_none c u (x ∷ xs) b h ([], w, d, e, f, fb, s, m) = let z : false ≡ true = pg.nulls _ x d s in cc
  many_none c u (x ∷ xs) b h (t ∷ v, w, d, e, f, fb, s, m) = cc

  many_starts : (t : Token) (v : List Token) (b : Beyond) → (many g).begins (t ∷ v) b → has (kind_number t.kind) fa ≡ true
  unfolding many
  many_starts t v b0 (a, b, d, e, xs, f, fb, m, k) = first xs a d m f
    where
      first : (xs : List A) (a : List Token) (d : Beyond) → many_spells g (follow b None) a xs d → t ∷ v ≡ a ++ b → has (kind_number t.kind) fa ≡ true
      first [] a d m f = let h : t ∷ v ≡ b = rw (m.0) at f in pg.starts t v e (rw (← h) at k)
      first (x ∷ xs) a d ([], w, d1, d2, f1, fb, s, m) f = let z : false ≡ true = pg.nulls _ x d1 s in cc
      first (x ∷ xs) a d (t' ∷ v', w, d1, d2, f1, fb, s, m) f = let h : t ≡ t' = cc in rw h (pg.starts t' v' d1 (pg.whole _ (t' ∷ v') x d1 s))

  many_silent : (b : Beyond) → (many g).begins [] b → b ≡ None
  unfolding many
  many_silent b ([], [], d, e, xs, f, fb, m, k) = fb ∙ ap (λ d. across d [] e) (many_none _ [] xs d refl m) ∙ pg.silent e k
  many_silent b ([], t ∷ w, d, e, xs, f, fb, m, k) = cc
  many_silent b (t ∷ v, w, d, e, xs, f, fb, m, k) = cc

  -- one before what is begun
  begins_on : (x : A) (v z : List Token) (d e : Beyond) → g.spells (follow z None) v x d → (many g).begins z e → (many g).begins (v ++ z) (across d z e)
  unfolding many
  begins_on x v z d e s (a, b, da, db, ys, f, fb, m, k) =
      let s' : g.spells (follow a (follow b None)) v x d = rw (← follow_append a b) (rw (← f) s) in
      (v ++ a, b, across d a da, db, x ∷ ys, ap (λ z. v ++ z) f ∙ sym (append_assoc v a b), ap (λ e. across d z e) fb ∙ ap (λ z. across d z (across da b db)) f ∙ across_across d a da b db, (v, a, d, da, refl, refl, s', m), k)

  -- one that is begun
  begins_one : (u : List Token) (d : Beyond) → g.begins u d → (many g).begins u d
  unfolding many
  begins_one u d k = ([], u, None, d, [], refl, refl, (refl, refl), k)

  many_whole : (c : Option Token) (u : List Token) (xs : List A) (b : Beyond) → many_spells g c u xs b → (many g).begins u b
  many_whole c u [] b m = rw (m.0) (rw (m.1) (begins_one [] None pg.empty))
  many_whole c u (x ∷ xs) b (v, [], d, e, f, fb, s, m) =
      let n : e ≡ None = many_none c [] xs e refl m in
      rw (f ∙ append_nil v) (rw (fb ∙ ap (λ e. across d [] e) n ∙ across_nil d) (begins_one v d (pg.whole _ v x d s)))
  many_whole c u (x ∷ xs) b (v, t ∷ w, d, e, f, fb, s, m) = rw f (rw fb (begins_on x v (t ∷ w) d e s (many_whole c (t ∷ w) xs e m)))

  -- fronts of what is begun
  front_on : (x : A) (v1 z v w1 b : List Token) (d1 : Beyond) → g.spells (follow (w1 ++ b) None) v1 x d1 → z ++ v ≡ w1 ++ b → (d : Beyond) × (many g).begins z d → (d : Beyond) × (many g).begins (v1 ++ z) d
  front_on x v1 [] v w1 b d1 s f h = (d1, rw (append_nil v1) (begins_one v1 d1 (pg.whole _ v1 x d1 s)))
  front_on x v1 (t ∷ z) v w1 b d1 s f (d, k) = (across d1 (t ∷ z) d, begins_on x v1 (t ∷ z) d1 d (rw (← f) at s) k)

  fronts_of : (xs : List A) (u v a b : List Token) (d e : Beyond) → u ++ v ≡ a ++ b → many_spells g (follow b None) a xs d → g.begins b e → (d : Beyond) × (many g).begins u d
  fronts_of [] u v a b d e f m k =
      let h : u ++ v ≡ b = f ∙ ap (λ a. a ++ b) (m.0) in
      one (pg.fronts u v e (rw h k))
    where
      one : (d : Beyond) × g.begins u d → (d : Beyond) × (many g).begins u d
      one (d, k) = (d, begins_one u d k)
  fronts_of (x ∷ xs) u v a b d e f (v1, w1, d1, e1, f1, fb, s, m) k =
      go (split u v v1 (w1 ++ b) (f ∙ ap (λ a. a ++ b) f1 ∙ append_assoc v1 w1 b)) (λ z h. fronts_of xs z v w1 b e1 e h m k)
    where
      s' : g.spells (follow (w1 ++ b) None) v1 x d1
      s' = rw (follow_append w1 b None) s

      one : (d : Beyond) × g.begins u d → (d : Beyond) × (many g).begins u d
      one (d, k) = (d, begins_one u d k)

      go : Split u v v1 (w1 ++ b) → ((z : List Token) → z ++ v ≡ w1 ++ b → (d : Beyond) × (many g).begins z d) → (d : Beyond) × (many g).begins u d
      go (inl (z, h)) rec = one (pg.fronts u z d1 (rw (← h) (pg.whole _ v1 x d1 s)))
      go (inr (z, h, l)) rec = rw h (front_on x v1 z v w1 b d1 s' l (rec z l))

  many_fronts : (u v : List Token) (b : Beyond) → (many g).begins (u ++ v) b → (d : Beyond) × (many g).begins u d
  unfolding many
  many_fronts u v b0 (a, b, d, e, xs, f, fb, m, k) = fronts_of xs u v a b d e f m k

  -- what is read

  turn_sound : (n : ℕ) → ((r : List Token) (ys : List A) (e : Beyond) (rest : List Token) → turns fa p n r ≡ Got ys e rest → (u : List Token) × (d : Beyond) × (r ≡ u ++ rest) × (e ≡ before d rest) × many_spells g (follow rest None) u ys d) → (w : List Token) (xs : List A) (e : Beyond) (rest : List Token) → turns fa p (suc n) w ≡ Got xs e rest → (u : List Token) × (d : Beyond) × (w ≡ u ++ rest) × (e ≡ before d rest) × many_spells g (follow rest None) u xs d
  turn_sound n rec w xs e rest h = go (opens fa w) h
    where
      joined : (x : A) (r : List Token) (ys : List A) (e1 e2 : Beyond) → x ∷ ys ≡ xs → earlier e1 e2 ≡ e → (u : List Token) × (d : Beyond) × (w ≡ u ++ r) × (e1 ≡ before d r) × g.spells (follow r None) u x d → (u : List Token) × (d : Beyond) × (r ≡ u ++ rest) × (e2 ≡ before d rest) × many_spells g (follow rest None) u ys d → (u : List Token) × (d : Beyond) × (w ≡ u ++ rest) × (e ≡ before d rest) × many_spells g (follow rest None) u xs d
      joined x r ys e1 e2 k l (u1, d1, f1, b1, s1) (u2, d2, f2, b2, s2) =
          let s1' : g.spells (follow u2 (follow rest None)) u1 x d1 = rw (← follow_append u2 rest) (rw (← f2) s1) in
          rw (← k) (u1 ++ u2, across d1 u2 d2, f1 ∙ ap (λ z. u1 ++ z) f2 ∙ sym (append_assoc u1 u2 rest), sym l ∙ ap (λ e1. earlier e1 e2) (b1 ∙ ap (λ r. before d1 r) f2) ∙ ap (λ e2. earlier (before d1 (u2 ++ rest)) e2) b2 ∙ before_across d1 u2 d2 rest, (u1, u2, d1, d2, refl, refl, s1', s2))

      inner2 : (x : A) (e1 : Beyond) (r : List Token) → p w ≡ Got x e1 r → (o : Out (List A)) → turns fa p n r ≡ o → on_front x e1 o ≡ Got xs e rest → (u : List Token) × (d : Beyond) × (w ≡ u ++ rest) × (e ≡ before d rest) × many_spells g (follow rest None) u xs d
      inner2 x e1 r h1 (Got ys e2 r2) h2 h =
          let k : r2 ≡ rest = got_rest (x ∷ ys) xs (earlier e1 e2) e r2 rest h in
          joined x r ys e1 e2 (got_value (x ∷ ys) xs (earlier e1 e2) e r2 rest h) (got_beyond (x ∷ ys) xs (earlier e1 e2) e r2 rest h) (pg.sound w x e1 r h1) (rec r ys e2 rest (rw (← k) h2))
      inner2 x e1 r h1 (Bad e2 r2) h2 h = cc
      inner2 x e1 r h1 (Deep r2) h2 h = cc

      inner : (o : Out A) → p w ≡ o → more (turns fa p n) o ≡ Got xs e rest → (u : List Token) × (d : Beyond) × (w ≡ u ++ rest) × (e ≡ before d rest) × many_spells g (follow rest None) u xs d
      inner (Got x e1 r) h1 h = inner2 x e1 r h1 (turns fa p n r) refl h
      inner (Bad e1 r) h1 h = cc
      inner (Deep r) h1 h = cc

      go : (b : Bool) → picked b (λ w. more (turns fa p n) (p w)) (read_nothing []) w ≡ Got xs e rest → (u : List Token) × (d : Beyond) × (w ≡ u ++ rest) × (e ≡ before d rest) × many_spells g (follow rest None) u xs d
      go true h = inner (p w) refl h
      go false h = let k : [] ≡ xs = got_value [] xs None e w rest h in rw (← k) ([], None, got_rest [] xs None e w rest h, sym (got_beyond [] xs None e w rest h), (refl, refl))

  turns_sound : (n : ℕ) (w : List Token) (xs : List A) (e : Beyond) (rest : List Token) → turns fa p n w ≡ Got xs e rest → (u : List Token) × (d : Beyond) × (w ≡ u ++ rest) × (e ≡ before d rest) × many_spells g (follow rest None) u xs d
  turns_sound zero w xs e rest h = let k : [] ≡ xs = got_value [] xs None e w rest h in rw (← k) ([], None, got_rest [] xs None e w rest h, sym (got_beyond [] xs None e w rest h), (refl, refl))
  turns_sound (suc n) w xs e rest h = turn_sound n (turns_sound n) w xs e rest h

  turn_stops : (n : ℕ) → ((r : List Token) (e : Beyond) (rest : List Token) → turns fa p n r ≡ Bad e rest → (u : List Token) × (d : Beyond) × (r ≡ u ++ rest) × (e ≡ before d rest) × (many g).begins u d) → (w : List Token) (e : Beyond) (rest : List Token) → turns fa p (suc n) w ≡ Bad e rest → (u : List Token) × (d : Beyond) × (w ≡ u ++ rest) × (e ≡ before d rest) × (many g).begins u d
  turn_stops n rec w e rest h = go (opens fa w) h
    where
      joined : (x : A) (r : List Token) (e1 e2 : Beyond) → earlier e1 e2 ≡ e → (u : List Token) × (d : Beyond) × (w ≡ u ++ r) × (e1 ≡ before d r) × g.spells (follow r None) u x d → (u : List Token) × (d : Beyond) × (r ≡ u ++ rest) × (e2 ≡ before d rest) × (many g).begins u d → (u : List Token) × (d : Beyond) × (w ≡ u ++ rest) × (e ≡ before d rest) × (many g).begins u d
      joined x r e1 e2 l (u1, d1, f1, b1, s1) ([], d2, f2, b2, k) =
          let m : e2 ≡ None = b2 ∙ ap (λ d. before d rest) (many_silent d2 k) in
          (u1, d1, f1 ∙ ap (λ z. u1 ++ z) f2, sym l ∙ ap (λ e1. earlier e1 e2) (b1 ∙ ap (λ r. before d1 r) f2) ∙ ap (λ e2. earlier (before d1 rest) e2) m ∙ before_across d1 [] None rest ∙ ap (λ d. before d rest) (across_nil d1), begins_one u1 d1 (pg.whole _ u1 x d1 s1))
      joined x r e1 e2 l (u1, d1, f1, b1, s1) (t ∷ u2, d2, f2, b2, k) =
          let s1' : g.spells (follow (t ∷ u2) None) u1 x d1 = rw f2 at s1 in
          (u1 ++ (t ∷ u2), across d1 (t ∷ u2) d2, f1 ∙ ap (λ z. u1 ++ z) f2 ∙ sym (append_assoc u1 (t ∷ u2) rest), sym l ∙ ap (λ e1. earlier e1 e2) (b1 ∙ ap (λ r. before d1 r) f2) ∙ ap (λ e2. earlier (before d1 ((t ∷ u2) ++ rest)) e2) b2 ∙ before_across d1 (t ∷ u2) d2 rest, begins_on x u1 (t ∷ u2) d1 d2 s1' k)

      one : (u : List Token) × (d : Beyond) × (w ≡ u ++ rest) × (e ≡ before d rest) × g.begins u d → (u : List Token) × (d : Beyond) × (w ≡ u ++ rest) × (e ≡ before d rest) × (many g).begins u d
      one (u, d, f, b, k) = (u, d, f, b, begins_one u d k)

      inner2 : (x : A) (e1 : Beyond) (r : List Token) → p w ≡ Got x e1 r → (o : Out (List A)) → turns fa p n r ≡ o → on_front x e1 o ≡ Bad e rest → (u : List Token) × (d : Beyond) × (w ≡ u ++ rest) × (e ≡ before d rest) × (many g).begins u d
      inner2 x e1 r h1 (Got ys e2 r2) h2 h = cc
      inner2 x e1 r h1 (Bad e2 r2) h2 h =
          let k : r2 ≡ rest = bad_rest (earlier e1 e2) e r2 rest h in
          joined x r e1 e2 (bad_beyond (earlier e1 e2) e r2 rest h) (pg.sound w x e1 r h1) (rec r e2 rest (rw (← k) h2))
      inner2 x e1 r h1 (Deep r2) h2 h = cc

      inner : (o : Out A) → p w ≡ o → more (turns fa p n) o ≡ Bad e rest → (u : List Token) × (d : Beyond) × (w ≡ u ++ rest) × (e ≡ before d rest) × (many g).begins u d
      inner (Got x e1 r) h1 h = inner2 x e1 r h1 (turns fa p n r) refl h
      inner (Bad e1 r) h1 h =
          let k : r ≡ rest = bad_rest e1 e r rest h in
          let l : e1 ≡ e = bad_beyond e1 e r rest h in
          one (pg.stops w e rest (rw (← k) (rw (← l) h1)))
      inner (Deep r) h1 h = cc

      go : (b : Bool) → picked b (λ w. more (turns fa p n) (p w)) (read_nothing []) w ≡ Bad e rest → (u : List Token) × (d : Beyond) × (w ≡ u ++ rest) × (e ≡ before d rest) × (many g).begins u d
      go true h = inner (p w) refl h
      go false h = cc

  turns_stops : (n : ℕ) (w : List Token) (e : Beyond) (rest : List Token) → turns fa p n w ≡ Bad e rest → (u : List Token) × (d : Beyond) × (w ≡ u ++ rest) × (e ≡ before d rest) × (many g).begins u d
  turns_stops zero w e rest h = cc
  turns_stops (suc n) w e rest h = turn_stops n (turns_stops n) w e rest h

  turns_le : (n : ℕ) (w : List Token) → Agrees (turns fa p n w) None w
  turns_le zero w = (omega arith, tt)
  turns_le (suc n) w = go (opens fa w) (more_agrees (turns fa p n) (turns_le n) (p w) None w (left_le g p fa la false pg w))
    where
      go : (b : Bool) → Agrees (more (turns fa p n) (p w)) None w → Agrees (picked b (λ w. more (turns fa p n) (p w)) (read_nothing []) w) None w
      go true h = h
      go false h = (omega arith, tt)

  many_clear : apart fa la ≡ true → (c : Option Token) (u rest : List Token) (xs : List A) (b : Beyond) → many_spells g c u xs b → Clear (la ++ fa) rest → Clear la (u ++ rest)
  many_clear h c [] rest xs b s k = clear_left la fa rest k
  many_clear h c (t ∷ u) rest xs b s k = apart_has (kind_number t.kind) fa la h (many_starts t u b (many_whole c (t ∷ u) xs b s))

  many_clear_next : apart fa la ≡ true → (w b : List Token) (t : Token) (z : List Token) → w ++ b ≡ t ∷ z → (xs : List A) (d e : Beyond) (y : List Token) → many_spells g (follow b None) w xs d → g.begins b e → Clear la ((w ++ b) ++ y)
  unfolding many
  many_clear_next h w b t z f xs d e y m k = rw f (apart_has (kind_number t.kind) fa la h (many_starts t z (across d b e) (w, b, d, e, xs, sym f, refl, m, k)))

  turns_end : (n : ℕ) (rest : List Token) → Clear fa rest → turns fa p n rest ≡ Got [] None rest
  turns_end zero rest k = refl
  turns_end (suc n) [] k = refl
  turns_end (suc n) (t ∷ rest) k = rw (k, picked) refl

  turns_takes : apart fa la ≡ true → (n : ℕ) (u rest : List Token) (xs : List A) (d : Beyond) → length u ≤ n → many_spells g (follow rest None) u xs d → Clear (la ++ fa) rest → turns fa p n (u ++ rest) ≡ Got xs (before d rest) rest
  turns_takes h n u rest [] d l m k = rw (m.0) (rw (m.1) (turns_end n rest (clear_right la fa rest k)))
  turns_takes h n u rest (x ∷ xs) d l ([], w, d1, e, f, fb, s, m) k = let z : false ≡ true = pg.nulls _ x d1 s in cc
  turns_takes h zero u rest (x ∷ xs) d l (t ∷ v, w, d1, e, f, fb, s, m) k = absurd (let h : length u ≡ suc (length (v ++ w)) = ap length f in omega arith)
  turns_takes h (suc n) u rest (x ∷ xs) d l (t ∷ v, w, d1, e, f, fb, s, m) k =
      let z : has (kind_number t.kind) fa ≡ true = pg.starts t v d1 (pg.whole _ (t ∷ v) x d1 s) in
      let s' : g.spells (follow (w ++ rest) None) (t ∷ v) x d1 = rw (follow_append w rest) s in
      let e1 : p ((t ∷ v) ++ (w ++ rest)) ≡ Got x (before d1 (w ++ rest)) (w ++ rest) = pg.takes (t ∷ v) (w ++ rest) x d1 s' (many_clear h _ w rest xs e m k) in
      let short : length w ≤ n = (let h : length u ≡ suc (length (v ++ w)) = ap length f in omega (arith, length-append v w)) in
      let e2 : turns fa p n (w ++ rest) ≡ Got xs (before e rest) rest = turns_takes h n w rest xs e short m k in
      rw f (rw fb (rw (append_assoc (t ∷ v) w rest) (rw (z, turns, picked) (rw (e1, more) (rw (e2, on_front) (rw (before_across d1 w e rest) refl))))))

  turns_reads_first : (n : ℕ) (v y : List Token) (d : Beyond) → length (v ++ y) ≤ n → g.begins v d → Agrees (turns fa p n (v ++ y)) d y
  turns_reads_first n [] y d l k = rw (pg.silent d k) (turns_le n y)
  turns_reads_first zero (t ∷ v) y d l k = absurd (omega arith)
  turns_reads_first (suc n) (t ∷ v) y d l k =
      let z : has (kind_number t.kind) fa ≡ true = pg.starts t v d k in
      rw (z, turns, picked) (more_agrees (turns fa p n) (turns_le n) (p ((t ∷ v) ++ y)) d y (pg.reads (t ∷ v) y d k))

  -- after one item the turns go on
  turns_on : (n : ℕ) (x : A) (t : Token) (v w b y : List Token) (d e : Beyond) → g.spells (follow ((w ++ b) ++ y) None) (t ∷ v) x d → Clear la ((w ++ b) ++ y) → Agrees (turns fa p n ((w ++ b) ++ y)) e y → Agrees (turns fa p (suc n) ((((t ∷ v) ++ w) ++ b) ++ y)) (across d (w ++ b) e) y
  turns_on n x t v w b y d e s k r =
      let z : has (kind_number t.kind) fa ≡ true = pg.starts t v d (pg.whole _ (t ∷ v) x d s) in
      let e1 : p ((t ∷ v) ++ ((w ++ b) ++ y)) ≡ Got x (before d ((w ++ b) ++ y)) ((w ++ b) ++ y) = pg.takes (t ∷ v) ((w ++ b) ++ y) x d s k in
      let same : (((t ∷ v) ++ w) ++ b) ++ y ≡ (t ∷ v) ++ ((w ++ b) ++ y) = ap (λ z. z ++ y) (append_assoc (t ∷ v) w b) ∙ append_assoc (t ∷ v) (w ++ b) y in
      rw same (rw (z, turns, picked) (rw (e1, more) (after_agrees x d (w ++ b) y e (turns fa p n ((w ++ b) ++ y)) r)))

  turns_short : (n : ℕ) (t : Token) (v w b y : List Token) → length ((((t ∷ v) ++ w) ++ b) ++ y) ≤ suc n → length ((w ++ b) ++ y) ≤ n
  turns_short n t v w b y l = omega (arith, length-append ((v ++ w) ++ b) y, length-append (v ++ w) b, length-append v w, length-append (w ++ b) y, length-append w b)

  turns_reads : apart fa la ≡ true → (n : ℕ) (xs : List A) (a b y : List Token) (d e : Beyond) → length ((a ++ b) ++ y) ≤ n → many_spells g (follow b None) a xs d → g.begins b e → Agrees (turns fa p n ((a ++ b) ++ y)) (across d b e) y
  turns_reads h n [] a b y d e l m k = rw (m.0) (rw (m.1) (turns_reads_first n b y e (rw (m.0) at l) k))
  turns_reads h n (x ∷ xs) a b y d e l ([], w, d1, d2, f, fb, s, m) k = let z : false ≡ true = pg.nulls _ x d1 s in cc
  turns_reads h zero (x ∷ xs) a b y d e l (t ∷ v, w, d1, d2, f, fb, s, m) k = absurd (let h : length ((a ++ b) ++ y) ≡ suc (length ((v ++ w) ++ b ++ y)) = ap (λ a. length ((a ++ b) ++ y)) f in omega arith)
  turns_reads h (suc n) (x ∷ xs) a [] y d e l (t ∷ v, [], d1, d2, f, fb, s, m) k =
      let same : a ++ [] ≡ t ∷ v = append_nil a ∙ f ∙ append_nil (t ∷ v) in
      let n2 : d2 ≡ None = many_none _ [] xs d2 refl m in
      let mark : across d [] e ≡ d1 = ap (λ d. across d [] e) (fb ∙ ap (λ d2. across d1 [] d2) n2 ∙ across_nil d1) ∙ ap (λ e. across d1 [] e) (pg.silent e k) ∙ across_nil d1 in
      rw mark (rw same (turns_reads_first (suc n) (t ∷ v) y d1 (rw same at l) (pg.whole _ (t ∷ v) x d1 s)))
  turns_reads h (suc n) (x ∷ xs) a (t2 ∷ b) y d e l (t ∷ v, [], d1, d2, f, fb, s, m) k =
      let c : Clear la (([] ++ (t2 ∷ b)) ++ y) = many_clear_next h [] (t2 ∷ b) t2 b refl xs d2 e y m k in
      let mark : across d (t2 ∷ b) e ≡ across d1 ([] ++ (t2 ∷ b)) (across d2 (t2 ∷ b) e) = ap (λ d. across d (t2 ∷ b) e) fb ∙ sym (across_across d1 [] d2 (t2 ∷ b) e) in
      rw mark (rw f (turns_on n x t v [] (t2 ∷ b) y d1 (across d2 (t2 ∷ b) e) s c (turns_reads h n xs [] (t2 ∷ b) y d2 e (turns_short n t v [] (t2 ∷ b) y (rw f at l)) m k)))
  turns_reads h (suc n) (x ∷ xs) a b y d e l (t ∷ v, t2 ∷ w, d1, d2, f, fb, s, m) k =
      let c : Clear la (((t2 ∷ w) ++ b) ++ y) = many_clear_next h (t2 ∷ w) b t2 (w ++ b) refl xs d2 e y m k in
      let mark : across d b e ≡ across d1 ((t2 ∷ w) ++ b) (across d2 b e) = ap (λ d. across d b e) fb ∙ sym (across_across d1 (t2 ∷ w) d2 b e) in
      rw mark (rw f (turns_on n x t v (t2 ∷ w) b y d1 (across d2 b e) s c (turns_reads h n xs (t2 ∷ w) b y d2 e (turns_short n t v (t2 ∷ w) b y (rw f at l)) m k)))

  many_takes : apart fa la ≡ true → (u rest : List Token) (xs : List A) (d : Beyond) → many_spells g (follow rest None) u xs d → Clear (la ++ fa) rest → read_many fa p (u ++ rest) ≡ Got xs (before d rest) rest
  many_takes h u rest xs d m k = turns_takes h (length (u ++ rest)) u rest xs d (omega (arith, length-append u rest)) m k

  many_reads : apart fa la ≡ true → (v y : List Token) (d : Beyond) → (many g).begins v d → Agrees (read_many fa p (v ++ y)) d y
  unfolding many
  many_reads h v y b0 (a, b, d, e, xs, f, fb, m, k) = rw f (rw fb (turns_reads h (length ((a ++ b) ++ y)) xs a b y d e (omega arith) m k))

  pub many_good : apart fa la ≡ true → Good (many g) (read_many fa p) fa (la ++ fa) true
  unfolding many
  many_good h = record {
    starts = many_starts;
    empty = ([], [], None, None, [], refl, refl, (refl, refl), pg.empty);
    silent = many_silent;
    whole = many_whole;
    fronts = many_fronts;
    nulls = λ c xs b m. refl;
    sound = λ w xs e rest f. turns_sound (length w) w xs e rest f;
    stops = λ w e rest f. turns_stops (length w) w e rest f;
    takes = many_takes h;
    reads = many_reads h;
  }
