-- Labels before what may begin with a name.
use Rattle.std.proofs.Common.{◌≡◌, ℕ, ◌≤◌, Bool, true, List, [], ◌∷◌, ◌++◌, length, refl, sym, ◌∙◌, ap, inl, inr, arith, append_assoc, Option, Some, None}
use Rattle.algolw_tree.specs.declared.tokens.Symbol.TheVariants.{Colon}
use Rattle.algolw_tree.specs.declared.tokens.Token.{Token}
use Rattle.algolw_tree.specs.Parts.{Beyond, Part, follow, across, both, many, many_spells}
use Rattle.algolw_tree.specs.Tree.{Placed}
use Rattle.algolw_tree.specs.Grammar.{label}
use Rattle.algolw_grammar.specs.Kinds.{kind_number, has, a_name, the_symbol}
use Rattle.algolw_grammar.specs.Readers.{Out, Got, Bad, Deep, Reader, behind, behind_label, one_label, read_labelled}
use Rattle.algolw_grammar.specs.Taken.{name_taken, label_taken}
use Rattle.algolw_grammar.proofs.Sets.{has-left, has-right}
use Rattle.algolw_grammar.proofs.Good.{Clear, before, Agrees, Eaten, Good, Behind, got_value, got_beyond, got_rest, bad_beyond, bad_rest, clear_left, clear_right}
use Rattle.algolw_grammar.proofs.Labelling.{name_has, label_split, no_name_label, no_colon_label, label_spelled, label_shape, Begun, label_begun, label_none, label_name}

-- labels alone

-- a label is spelled without regard to what follows
labels_follow : (c c2 : Option Token) (u : List Token) (ls : List Placed) (b : Beyond) → many_spells label c u ls b → many_spells label c2 u ls b
labels_follow c c2 u [] b m = m
labels_follow c c2 u (l ∷ ls) b (v, w, d, e, f, fb, s, m) = go (label_shape _ v l d s) (labels_follow c c2 w ls e m)
  where
    go : (t : Token) × (k : Token) × (v ≡ t ∷ k ∷ []) × (label_taken t k ≡ Some l) × (d ≡ None) → many_spells label c2 w ls e → many_spells label c2 u (l ∷ ls) b
    go (t, k, g, h, n) m = (v, w, d, e, f, fb, rw g (rw n (label_spelled _ t k l h)), m)

-- the first label, and those behind it
abbrev First : Option Token → List Token → Placed → List Placed → Beyond → Type 0
First c u l ls b = (t : Token) × (k : Token) × (w : List Token) × (u ≡ t ∷ k ∷ w) × (label_taken t k ≡ Some l) × many_spells label c w ls b

first_label : (c : Option Token) (u : List Token) (l : Placed) (ls : List Placed) (b : Beyond) → many_spells label c u (l ∷ ls) b → First c u l ls b
first_label c u l ls b (v, w, d, e, f, fb, s, m) = go (label_shape _ v l d s)
  where
    go : (t : Token) × (k : Token) × (v ≡ t ∷ k ∷ []) × (label_taken t k ≡ Some l) × (d ≡ None) → First c u l ls b
    go (t, k, g, h, n) = (t, k, w, f ∙ ap (λ v. v ++ w) g, h, rw (fb ∙ ap (λ d. across d w e) n) m)

labels_none : (c : Option Token) (u : List Token) (ls : List Placed) (b : Beyond) → many_spells label c u ls b → b ≡ None
labels_none c u [] b m = m.1
labels_none c u (l ∷ ls) b (v, w, d, e, f, fb, s, m) = go (label_shape _ v l d s) (labels_none c w ls e m)
  where
    go : (t : Token) × (k : Token) × (v ≡ t ∷ k ∷ []) × (label_taken t k ≡ Some l) × (d ≡ None) → e ≡ None → b ≡ None
    go (t, k, g, h, n) i = fb ∙ ap (λ d. across d w e) n ∙ i

labels_on : (c : Option Token) (t k : Token) (l : Placed) (w : List Token) (ls : List Placed) (b : Beyond) → label_taken t k ≡ Some l → many_spells label c w ls b → many_spells label c (t ∷ k ∷ w) (l ∷ ls) b
labels_on c t k l w ls b h m = (t ∷ k ∷ [], w, None, b, refl, refl, label_spelled _ t k l h, m)

-- the first of the labels, or the first behind them
first_name : (c : Option Token) (t : Token) (v a b : List Token) (l : Placed) (ls : List Placed) (d : Beyond) → many_spells label c a (l ∷ ls) d → t ∷ v ≡ a ++ b → has (kind_number t.kind) a_name ≡ true
first_name c t v a b l ls d m f = go (first_label c a l ls d m)
  where
    go : First c a l ls d → has (kind_number t.kind) a_name ≡ true
    go (t2, k, w, g, h, m) =
        let e : t ∷ v ≡ t2 ∷ k ∷ (w ++ b) = f ∙ ap (λ a. a ++ b) g in
        let n : t ≡ t2 = cc in
        rw n (name_has t2 l ((label_split t2 k l h).0))

-- what agrees, behind labels

module _ {A : Type 0} where
  label_agrees : (l : Placed) (o : Out (List Placed × A)) (d : Beyond) (y : List Token) → Agrees o d y → Agrees (behind_label l o) d y
  label_agrees l (Got x e r) d y h = h
  label_agrees l (Bad e r) d y h = h
  label_agrees l (Deep r) d y h = h

  front_agrees : (o : Out A) (d : Beyond) (y : List Token) → Agrees o d y → Agrees (behind {A = List Placed} [] None o) d y
  front_agrees (Got x e r) d y h = h
  front_agrees (Bad e r) d y h = h
  front_agrees (Deep r) d y h = h

  front_eaten : (o : Out A) (y : List Token) → Eaten o y → Agrees (behind {A = List Placed} [] None o) None y
  front_eaten (Got x e r) y h = (h, tt)
  front_eaten (Bad e r) y h = (h, tt)
  front_eaten (Deep r) y h = h

  weaken : (o : Out (List Placed × A)) (r y : List Token) → Agrees o None r → length r ≤ length y → Agrees o None y
  weaken (Got x e s) r y (h, k) l = (omega arith, tt)
  weaken (Bad e s) r y (h, k) l = (omega arith, tt)
  weaken (Deep s) r y h l = tt

  -- with one token more, in place of a last one
  one_more : (o : Out (List Placed × A)) (k : Token) (y : List Token) (d : Beyond) → Agrees o None y → Agrees o d (k ∷ y)
  one_more (Got x e r) k y None (h, n) = (omega arith, tt)
  one_more (Got x e r) k y (Some from) (h, n) = (omega arith, inr (omega arith))
  one_more (Bad e r) k y None (h, n) = (omega arith, tt)
  one_more (Bad e r) k y (Some from) (h, n) = (omega arith, inr (omega arith))
  one_more (Deep r) k y d h = tt

module _ {A : Type 0} {e : Part A} {p : Reader A} {fe le : List ℕ} {ne : Bool} (pe : Good e p fe le ne) (be : Behind label_taken name_taken e p) where
  -- what is begun

  labelled_starts : (t : Token) (v : List Token) (b : Beyond) → (both (many label) e).begins (t ∷ v) b → has (kind_number t.kind) (a_name ++ fe) ≡ true
  unfolding both many
  labelled_starts t v b (inl (a, z, d, d2, ls, f, fb, m, k)) = has-left (kind_number t.kind) a_name fe (go ls m)
    where
      begun : Begun z × (d2 ≡ None) → t ∷ v ≡ z → has (kind_number t.kind) a_name ≡ true
      begun (inl h, n) f = cc
      begun (inr (inl (t2, l, h, k)), n) f = let i : t ≡ t2 = cc in rw i (name_has t2 l k)
      begun (inr (inr (t2, k2, l, h, k)), n) f = let i : t ≡ t2 = cc in rw i (name_has t2 l ((label_split t2 k2 l k).0))

      go : (ls : List Placed) → many_spells label (follow z None) a ls d → has (kind_number t.kind) a_name ≡ true
      go [] m = begun (label_begun z d2 k) (f ∙ ap (λ a. a ++ z) (m.0))
      go (l ∷ ls) m = first_name _ t v a z l ls d m f
  labelled_starts t v b (inr (a, w, d, d2, ls, f, fb, m, k)) = go ls m
    where
      go : (ls : List Placed) → many_spells label (follow w None) a ls d → has (kind_number t.kind) (a_name ++ fe) ≡ true
      go [] m = let h : t ∷ v ≡ w = f ∙ ap (λ a. a ++ w) (m.0) in has-right (kind_number t.kind) a_name fe (pe.starts t v d2 (rw h k))
      go (l ∷ ls) m = has-left (kind_number t.kind) a_name fe (first_name _ t v a w l ls d m f)

  labelled_empty : (both (many label) e).begins [] None
  unfolding both many
  labelled_empty = inl ([], [], None, None, [], refl, refl, (refl, refl), label_none)

  labelled_silent : (b : Beyond) → (both (many label) e).begins [] b → b ≡ None
  unfolding both many
  labelled_silent b (inl (a, z, d, d2, ls, f, fb, m, k)) = fb ∙ ap (λ d. across d z d2) (labels_none _ a ls d m) ∙ (label_begun z d2 k).1
  labelled_silent b (inr ([], [], d, d2, ls, f, fb, m, k)) = fb ∙ ap (λ d. across d [] d2) (labels_none _ [] ls d m) ∙ pe.silent d2 k
  labelled_silent b (inr ([], t ∷ w, d, d2, ls, f, fb, m, k)) = cc
  labelled_silent b (inr (t ∷ a, w, d, d2, ls, f, fb, m, k)) = cc

  labelled_whole : (c : Option Token) (u : List Token) (x : List Placed × A) (b : Beyond) → (both (many label) e).spells c u x b → (both (many label) e).begins u b
  unfolding both many
  labelled_whole c u x b (a, w, d, d2, f, fb, m, s) = inr (a, w, d, d2, x.0, f, fb, labels_follow _ _ a x.0 d m, pe.whole _ w x.1 d2 s)

  labelled_nulls : (c : Option Token) (x : List Placed × A) (b : Beyond) → (both (many label) e).spells c [] x b → ne ≡ true
  unfolding both many
  labelled_nulls c x b ([], [], d, d2, f, fb, m, s) = pe.nulls c x.1 d2 s
  labelled_nulls c x b ([], t ∷ w, d, d2, f, fb, m, s) = cc
  labelled_nulls c x b (t ∷ a, w, d, d2, f, fb, m, s) = cc

  -- a label more
  more_begin : (t k : Token) (l : Placed) (u : List Token) (b : Beyond) → label_taken t k ≡ Some l → (both (many label) e).begins u b → (both (many label) e).begins (t ∷ k ∷ u) b
  unfolding both many
  more_begin t k l u b h (inl (a, z, d, d2, ls, f, fb, m, s)) = inl (t ∷ k ∷ a, z, d, d2, l ∷ ls, ap (λ u. t ∷ k ∷ u) f, fb, labels_on _ t k l a ls d h m, s)
  more_begin t k l u b h (inr (a, z, d, d2, ls, f, fb, m, s)) = inr (t ∷ k ∷ a, z, d, d2, l ∷ ls, ap (λ u. t ∷ k ∷ u) f, fb, labels_on _ t k l a ls d h m, s)

  name_begin : (t : Token) (l : Placed) → name_taken t ≡ Some l → (both (many label) e).begins (t ∷ []) None
  unfolding both many
  name_begin t l h = inl ([], t ∷ [], None, None, [], refl, refl, (refl, refl), label_name t l h)

  e_begin : (u : List Token) (b : Beyond) → e.begins u b → (both (many label) e).begins u b
  unfolding both many
  e_begin u b k = inr ([], u, None, b, [], refl, refl, (refl, refl), k)

  -- fronts behind labels
  labels_fronts : (c : Option Token) (ls : List Placed) (u v a z : List Token) (d : Beyond) → u ++ v ≡ a ++ z → many_spells label c a ls d → ((u : List Token) → u ++ v ≡ z → (b : Beyond) × (both (many label) e).begins u b) → (b : Beyond) × (both (many label) e).begins u b
  labels_fronts c [] u v a z d f m k = k u (f ∙ ap (λ a. a ++ z) (m.0))
  labels_fronts c (l ∷ ls) u v a z d f m k = go (first_label c a l ls d m) u f (λ w u f m. labels_fronts c ls u v w z d f m k)
    where
      go : First c a l ls d → (u : List Token) → u ++ v ≡ a ++ z → ((w u : List Token) → u ++ v ≡ w ++ z → many_spells label c w ls d → (b : Beyond) × (both (many label) e).begins u b) → (b : Beyond) × (both (many label) e).begins u b
      go (t, k2, w, g, h, m) [] f rec = (None, labelled_empty)
      go (t, k2, w, g, h, m) (t2 ∷ []) f rec =
          let i : t2 ∷ v ≡ t ∷ k2 ∷ (w ++ z) = f ∙ ap (λ a. a ++ z) g in
          let n : t2 ≡ t = cc in
          (None, rw n (name_begin t l ((label_split t k2 l h).0)))
      go (t, k2, w, g, h, m) (t2 ∷ k3 ∷ u) f rec =
          let i : t2 ∷ k3 ∷ (u ++ v) ≡ t ∷ k2 ∷ (w ++ z) = f ∙ ap (λ a. a ++ z) g in
          let n1 : t2 ≡ t = cc in
          let n2 : k3 ≡ k2 = cc in
          let n3 : u ++ v ≡ w ++ z = cc in
          rw n1 (rw n2 (on (rec w u n3 m)))
        where
          on : (b : Beyond) × (both (many label) e).begins u b → (b : Beyond) × (both (many label) e).begins (t ∷ k2 ∷ u) b
          on (b, k) = (b, more_begin t k2 l u b h k)

  labelled_fronts : (u v : List Token) (b : Beyond) → (both (many label) e).begins (u ++ v) b → (d : Beyond) × (both (many label) e).begins u d
  unfolding both many
  labelled_fronts u v b (inl (a, z, d, d2, ls, f, fb, m, k)) = labels_fronts _ ls u v a z d f m (λ u g. begun u g (label_begun z d2 k))
    where
      begun : (u : List Token) → u ++ v ≡ z → Begun z × (d2 ≡ None) → (b : Beyond) × (both (many label) e).begins u b
      begun [] f h = (None, labelled_empty)
      begun (t ∷ u) f (inl h, n) = let i : t ∷ (u ++ v) ≡ [] = f ∙ h in cc
      begun (t ∷ []) f (inr (inl (t2, l, h, k)), n) =
          let i : t ∷ v ≡ t2 ∷ [] = f ∙ h in
          let j : t ≡ t2 = cc in
          (None, rw j (name_begin t2 l k))
      begun (t ∷ t3 ∷ u) f (inr (inl (t2, l, h, k)), n) = let i : t ∷ t3 ∷ (u ++ v) ≡ t2 ∷ [] = f ∙ h in cc
      begun (t ∷ []) f (inr (inr (t2, k2, l, h, k)), n) =
          let i : t ∷ v ≡ t2 ∷ k2 ∷ [] = f ∙ h in
          let j : t ≡ t2 = cc in
          (None, rw j (name_begin t2 l ((label_split t2 k2 l k).0)))
      begun (t ∷ t3 ∷ []) f (inr (inr (t2, k2, l, h, k)), n) =
          let i : t ∷ t3 ∷ v ≡ t2 ∷ k2 ∷ [] = f ∙ h in
          let j : t ≡ t2 = cc in
          let j2 : t3 ≡ k2 = cc in
          (None, rw j (rw j2 (more_begin t2 k2 l [] None k labelled_empty)))
      begun (t ∷ t3 ∷ t4 ∷ u) f (inr (inr (t2, k2, l, h, k)), n) = let i : t ∷ t3 ∷ t4 ∷ (u ++ v) ≡ t2 ∷ k2 ∷ [] = f ∙ h in cc
  labelled_fronts u v b (inr (a, w, d, d2, ls, f, fb, m, k)) = labels_fronts _ ls u v a w d f m (λ u g. begun u (pe.fronts u v d2 (rw g k)))
    where
      begun : (u : List Token) → (b : Beyond) × e.begins u b → (b : Beyond) × (both (many label) e).begins u b
      begun u (b, h) = (b, e_begin u b h)

  -- what is read

  more_label : (t k : Token) (l : Placed) (rest w : List Token) (ls : List Placed) (x : A) (m : Beyond) → label_taken t k ≡ Some l → (u : List Token) × (d : Beyond) × (w ≡ u ++ rest) × (m ≡ before d rest) × (both (many label) e).spells (follow rest None) u (ls, x) d → (u : List Token) × (d : Beyond) × (t ∷ k ∷ w ≡ u ++ rest) × (m ≡ before d rest) × (both (many label) e).spells (follow rest None) u (l ∷ ls, x) d
  unfolding both many
  more_label t k l rest w ls x m h (u, d, f, g, (a, z, d1, d2, i, j, s, r)) =
      (t ∷ k ∷ u, d, ap (λ w. t ∷ k ∷ w) f, g, (t ∷ k ∷ a, z, d1, d2, ap (λ w. t ∷ k ∷ w) i, j, labels_on _ t k l a ls d1 h s, r))

  no_label : (w rest : List Token) (ls : List Placed) (x : A) (m : Beyond) → behind [] None (p w) ≡ Got (ls, x) m rest → (u : List Token) × (d : Beyond) × (w ≡ u ++ rest) × (m ≡ before d rest) × (both (many label) e).spells (follow rest None) u (ls, x) d
  unfolding both many
  no_label w rest ls x m h = go (p w) refl h
    where
      found : (a : A) (m2 : Beyond) → [] ≡ ls → a ≡ x → m2 ≡ m → (u : List Token) × (d : Beyond) × (w ≡ u ++ rest) × (m2 ≡ before d rest) × e.spells (follow rest None) u a d → (u : List Token) × (d : Beyond) × (w ≡ u ++ rest) × (m ≡ before d rest) × (both (many label) e).spells (follow rest None) u (ls, x) d
      found a m2 k1 k2 k3 (u, d, f, g, s) = rw (← k1) (u, d, f, sym k3 ∙ g, ([], u, None, d, refl, refl, (refl, refl), rw (← k2) s))

      go : (o : Out A) → p w ≡ o → behind [] None o ≡ Got (ls, x) m rest → (u : List Token) × (d : Beyond) × (w ≡ u ++ rest) × (m ≡ before d rest) × (both (many label) e).spells (follow rest None) u (ls, x) d
      go (Got a m2 r) e1 e2 =
          let k : r ≡ rest = got_rest ([], a) (ls, x) m2 m r rest e2 in
          let v : ◌≡◌ {A = List Placed × A} ([], a) (ls, x) = got_value ([], a) (ls, x) m2 m r rest e2 in
          found a m2 (ap (λ (o : List Placed × A). o.0) v) (ap (λ (o : List Placed × A). o.1) v) (got_beyond ([], a) (ls, x) m2 m r rest e2) (pe.sound w a m2 rest (rw (← k) e1))
      go (Bad m2 r) e1 e2 = cc
      go (Deep r) e1 e2 = cc

  labelled_sound : (w : List Token) (ls : List Placed) (x : A) (m : Beyond) (rest : List Token) → read_labelled label_taken p w ≡ Got (ls, x) m rest → (u : List Token) × (d : Beyond) × (w ≡ u ++ rest) × (m ≡ before d rest) × (both (many label) e).spells (follow rest None) u (ls, x) d
  labelled_sound [] ls x m rest h = no_label [] rest ls x m h
  labelled_sound (t ∷ []) ls x m rest h = no_label (t ∷ []) rest ls x m h
  labelled_sound (t ∷ k ∷ w) ls x m rest h = go (label_taken t k) refl h (λ ls h. labelled_sound w ls x m rest h)
    where
      inner : (l : Placed) (ls2 : List Placed) (x2 : A) (m2 : Beyond) (r2 : List Token) → label_taken t k ≡ Some l → ◌≡◌ {A = Out (List Placed × A)} (Got (l ∷ ls2, x2) m2 r2) (Got (ls, x) m rest) → read_labelled label_taken p w ≡ Got (ls2, x2) m2 r2 → ((ls : List Placed) → read_labelled label_taken p w ≡ Got (ls, x) m rest → (u : List Token) × (d : Beyond) × (w ≡ u ++ rest) × (m ≡ before d rest) × (both (many label) e).spells (follow rest None) u (ls, x) d) → (u : List Token) × (d : Beyond) × (t ∷ k ∷ w ≡ u ++ rest) × (m ≡ before d rest) × (both (many label) e).spells (follow rest None) u (ls, x) d
      inner l ls2 x2 m2 r2 z e1 e2 rec =
          let v : ◌≡◌ {A = List Placed × A} (l ∷ ls2, x2) (ls, x) = got_value (l ∷ ls2, x2) (ls, x) m2 m r2 rest e1 in
          let a : l ∷ ls2 ≡ ls = ap (λ (o : List Placed × A). o.0) v in
          let b : x2 ≡ x = ap (λ (o : List Placed × A). o.1) v in
          let c : m2 ≡ m = got_beyond (l ∷ ls2, x2) (ls, x) m2 m r2 rest e1 in
          let d : r2 ≡ rest = got_rest (l ∷ ls2, x2) (ls, x) m2 m r2 rest e1 in
          let e2' : read_labelled label_taken p w ≡ Got (ls2, x) m rest = rw (← b) (rw (← c) (rw (← d) e2)) in
          rw (← a) (more_label t k l rest w ls2 x m z (rec ls2 e2'))

      split : (l : Placed) (o : Out (List Placed × A)) → read_labelled label_taken p w ≡ o → label_taken t k ≡ Some l → behind_label l o ≡ Got (ls, x) m rest → ((ls : List Placed) → read_labelled label_taken p w ≡ Got (ls, x) m rest → (u : List Token) × (d : Beyond) × (w ≡ u ++ rest) × (m ≡ before d rest) × (both (many label) e).spells (follow rest None) u (ls, x) d) → (u : List Token) × (d : Beyond) × (t ∷ k ∷ w ≡ u ++ rest) × (m ≡ before d rest) × (both (many label) e).spells (follow rest None) u (ls, x) d
      split l (Got y m2 r2) e2 z e1 rec = inner l y.0 y.1 m2 r2 z e1 e2 rec
      split l (Bad m2 r2) e2 z e1 rec = cc
      split l (Deep r2) e2 z e1 rec = cc

      go : (o : Option Placed) → label_taken t k ≡ o → one_label o (read_labelled label_taken p w) (behind [] None (p (t ∷ k ∷ w))) ≡ Got (ls, x) m rest → ((ls : List Placed) → read_labelled label_taken p w ≡ Got (ls, x) m rest → (u : List Token) × (d : Beyond) × (w ≡ u ++ rest) × (m ≡ before d rest) × (both (many label) e).spells (follow rest None) u (ls, x) d) → (u : List Token) × (d : Beyond) × (t ∷ k ∷ w ≡ u ++ rest) × (m ≡ before d rest) × (both (many label) e).spells (follow rest None) u (ls, x) d
      go (Some l) z h rec = split l (read_labelled label_taken p w) refl z h rec
      go None z h rec = no_label (t ∷ k ∷ w) rest ls x m h

  front_stops : (w : List Token) (m : Beyond) (rest : List Token) → behind {A = List Placed} [] None (p w) ≡ Bad m rest → (u : List Token) × (d : Beyond) × (w ≡ u ++ rest) × (m ≡ before d rest) × (both (many label) e).begins u d
  front_stops w m rest h = go (p w) refl h
    where
      found : (u : List Token) × (d : Beyond) × (w ≡ u ++ rest) × (m ≡ before d rest) × e.begins u d → (u : List Token) × (d : Beyond) × (w ≡ u ++ rest) × (m ≡ before d rest) × (both (many label) e).begins u d
      found (u, d, f, g, b) = (u, d, f, g, e_begin u d b)

      go : (o : Out A) → p w ≡ o → behind {A = List Placed} [] None o ≡ Bad m rest → (u : List Token) × (d : Beyond) × (w ≡ u ++ rest) × (m ≡ before d rest) × (both (many label) e).begins u d
      go (Got x m2 r) e1 e2 = cc
      go (Bad m2 r) e1 e2 =
          let k : r ≡ rest = bad_rest m2 m r rest e2 in
          let c : m2 ≡ m = bad_beyond m2 m r rest e2 in
          found (pe.stops w m rest (rw (← k) (rw (← c) e1)))
      go (Deep r) e1 e2 = cc

  labelled_stops : (w : List Token) (m : Beyond) (rest : List Token) → read_labelled label_taken p w ≡ Bad m rest → (u : List Token) × (d : Beyond) × (w ≡ u ++ rest) × (m ≡ before d rest) × (both (many label) e).begins u d
  labelled_stops [] m rest h = front_stops [] m rest h
  labelled_stops (t ∷ []) m rest h = front_stops (t ∷ []) m rest h
  labelled_stops (t ∷ k ∷ w) m rest h = go (label_taken t k) refl h (labelled_stops w m rest)
    where
      found : (l : Placed) → label_taken t k ≡ Some l → (u : List Token) × (d : Beyond) × (w ≡ u ++ rest) × (m ≡ before d rest) × (both (many label) e).begins u d → (u : List Token) × (d : Beyond) × (t ∷ k ∷ w ≡ u ++ rest) × (m ≡ before d rest) × (both (many label) e).begins u d
      found l z (u, d, f, g, b) = (t ∷ k ∷ u, d, ap (λ u. t ∷ k ∷ u) f, g, more_begin t k l u d z b)

      inner : (l : Placed) (o : Out (List Placed × A)) → read_labelled label_taken p w ≡ o → label_taken t k ≡ Some l → behind_label l o ≡ Bad m rest → (read_labelled label_taken p w ≡ Bad m rest → (u : List Token) × (d : Beyond) × (w ≡ u ++ rest) × (m ≡ before d rest) × (both (many label) e).begins u d) → (u : List Token) × (d : Beyond) × (t ∷ k ∷ w ≡ u ++ rest) × (m ≡ before d rest) × (both (many label) e).begins u d
      inner l (Got x m2 r) e1 z e2 rec = cc
      inner l (Bad m2 r) e1 z e2 rec =
          let c : m2 ≡ m = bad_beyond m2 m r rest e2 in
          let d : r ≡ rest = bad_rest m2 m r rest e2 in
          found l z (rec (rw (← d) (rw (← c) e1)))
      inner l (Deep r) e1 z e2 rec = cc

      go : (o : Option Placed) → label_taken t k ≡ o → one_label o (read_labelled label_taken p w) (behind [] None (p (t ∷ k ∷ w))) ≡ Bad m rest → (read_labelled label_taken p w ≡ Bad m rest → (u : List Token) × (d : Beyond) × (w ≡ u ++ rest) × (m ≡ before d rest) × (both (many label) e).begins u d) → (u : List Token) × (d : Beyond) × (t ∷ k ∷ w ≡ u ++ rest) × (m ≡ before d rest) × (both (many label) e).begins u d
      go (Some l) z h rec = inner l (read_labelled label_taken p w) refl z h rec
      go None z h rec = front_stops (t ∷ k ∷ w) m rest h

  -- what is spelled is taken

  -- the part behind the labels
  e_takes : (w rest : List Token) (x : A) (d : Beyond) → e.spells (follow rest None) w x d → Clear a_name rest → Clear (the_symbol Colon) rest → Clear le rest → read_labelled label_taken p (w ++ rest) ≡ Got ([], x) (before d rest) rest
  e_takes [] [] x d s k1 k2 k3 = rw (pe.takes [] [] x d s k3, behind) refl
  e_takes [] (t ∷ []) x d s k1 k2 k3 = rw (pe.takes [] (t ∷ []) x d s k3, behind) refl
  e_takes [] (t ∷ k ∷ rest) x d s k1 k2 k3 = rw (no_name_label t k k1, one_label) (rw (pe.takes [] (t ∷ k ∷ rest) x d s k3, behind) refl)
  e_takes (t ∷ []) [] x d s k1 k2 k3 = rw (pe.takes (t ∷ []) [] x d s k3, behind) refl
  e_takes (t ∷ []) (k ∷ rest) x d s k1 k2 k3 = rw (no_colon_label t k k2, one_label) (rw (pe.takes (t ∷ []) (k ∷ rest) x d s k3, behind) refl)
  e_takes (t ∷ k ∷ w) rest x d s k1 k2 k3 = go (label_taken t k) refl
    where
      go : (o : Option Placed) → label_taken t k ≡ o → one_label o (read_labelled label_taken p (w ++ rest)) (behind [] None (p (t ∷ k ∷ (w ++ rest)))) ≡ Got ([], x) (before d rest) rest
      go (Some l) h = absurd (be.two t k w l d h (pe.whole _ (t ∷ k ∷ w) x d s))
      go None h = rw (pe.takes (t ∷ k ∷ w) rest x d s k3, behind) refl

  labels_take : (c : Option Token) (ls : List Placed) (a z rest : List Token) (x : A) (b m : Beyond) → many_spells label c a ls b → read_labelled label_taken p z ≡ Got ([], x) m rest → read_labelled label_taken p (a ++ z) ≡ Got (ls, x) m rest
  labels_take c [] a z rest x b m s h = rw (s.0) h
  labels_take c (l ∷ ls) a z rest x b m s h = go (first_label c a l ls b s) (λ w s. labels_take c ls w z rest x b m s h)
    where
      go : First c a l ls b → ((w : List Token) → many_spells label c w ls b → read_labelled label_taken p (w ++ z) ≡ Got (ls, x) m rest) → read_labelled label_taken p (a ++ z) ≡ Got (l ∷ ls, x) m rest
      go (t, k, w, f, i, s) rec = rw f (rw (i, one_label) (rw (rec w s, behind_label) refl))

  labelled_takes : (u rest : List Token) (x : List Placed × A) (d : Beyond) → (both (many label) e).spells (follow rest None) u x d → Clear (a_name ++ (the_symbol Colon ++ le)) rest → read_labelled label_taken p (u ++ rest) ≡ Got x (before d rest) rest
  unfolding both many
  labelled_takes u rest x d (a, w, d1, d2, f, g, s, r) k =
      let behind_it : Clear (the_symbol Colon ++ le) rest = clear_right a_name (the_symbol Colon ++ le) rest k in
      let own : read_labelled label_taken p (w ++ rest) ≡ Got ([], x.1) (before d2 rest) rest = e_takes w rest x.1 d2 r (clear_left a_name (the_symbol Colon ++ le) rest k) (clear_left (the_symbol Colon) le rest behind_it) (clear_right (the_symbol Colon) le rest behind_it) in
      let mark : d ≡ d2 = g ∙ ap (λ d1. across d1 w d2) (labels_none _ a x.0 d1 s) in
      rw f (rw mark (rw (append_assoc a w rest) (labels_take _ x.0 a (w ++ rest) rest x.1 d1 (before d2 rest) s own)))

  -- what is begun is read

  labelled_le : (w : List Token) → Agrees (read_labelled label_taken p w) None w
  labelled_le [] = front_agrees (p []) None [] (pe.reads [] [] None pe.empty)
  labelled_le (t ∷ []) = front_agrees (p (t ∷ [])) None (t ∷ []) (pe.reads [] (t ∷ []) None pe.empty)
  labelled_le (t ∷ k ∷ w) = go (label_taken t k) (labelled_le w)
    where
      go : (o : Option Placed) → Agrees (read_labelled label_taken p w) None w → Agrees (one_label o (read_labelled label_taken p w) (behind [] None (p (t ∷ k ∷ w)))) None (t ∷ k ∷ w)
      go (Some l) h = label_agrees l (read_labelled label_taken p w) None (t ∷ k ∷ w) (weaken (read_labelled label_taken p w) w (t ∷ k ∷ w) h (omega arith))
      go None h = front_agrees (p (t ∷ k ∷ w)) None (t ∷ k ∷ w) (pe.reads [] (t ∷ k ∷ w) None pe.empty)

  -- behind labels it goes on as behind none
  labels_go : (c : Option Token) (ls : List Placed) (a z y : List Token) (b d : Beyond) → many_spells label c a ls b → Agrees (read_labelled label_taken p z) d y → Agrees (read_labelled label_taken p (a ++ z)) d y
  labels_go c [] a z y b d s h = rw (s.0) h
  labels_go c (l ∷ ls) a z y b d s h = go (first_label c a l ls b s) (λ w s. labels_go c ls w z y b d s h)
    where
      go : First c a l ls b → ((w : List Token) → many_spells label c w ls b → Agrees (read_labelled label_taken p (w ++ z)) d y) → Agrees (read_labelled label_taken p (a ++ z)) d y
      go (t, k, w, f, i, s) rec = rw f (rw (i, one_label) (label_agrees l (read_labelled label_taken p (w ++ z)) d y (rec w s)))

  -- a name alone may begin a label
  name_goes : (t : Token) (l : Placed) (y : List Token) → name_taken t ≡ Some l → Agrees (read_labelled label_taken p (t ∷ y)) None y
  name_goes t l [] h = front_eaten (p (t ∷ [])) [] (be.one t [] l h)
  name_goes t l (k ∷ y) h = go (label_taken t k)
    where
      go : (o : Option Placed) → Agrees (one_label o (read_labelled label_taken p y) (behind [] None (p (t ∷ k ∷ y)))) None (k ∷ y)
      go (Some m) = label_agrees m (read_labelled label_taken p y) None (k ∷ y) (weaken (read_labelled label_taken p y) y (k ∷ y) (labelled_le y) (omega arith))
      go None = front_eaten (p (t ∷ k ∷ y)) (k ∷ y) (be.one t (k ∷ y) l h)

  label_goes : (z y : List Token) → Begun z → Agrees (read_labelled label_taken p (z ++ y)) None y
  label_goes z y (inl h) = rw h (labelled_le y)
  label_goes z y (inr (inl (t, l, h, k))) = rw h (name_goes t l y k)
  label_goes z y (inr (inr (t, k, l, h, i))) = rw h (rw (i, one_label) (label_agrees l (read_labelled label_taken p y) None y (labelled_le y)))

  -- What e begins with is read, labels or not. A name alone, which e begins with beyond the limit, may be read as a label.
  e_goes : (v y : List Token) (d : Beyond) → e.begins v d → Agrees (read_labelled label_taken p (v ++ y)) d y
  e_goes [] y d b = rw (pe.silent d b) (labelled_le y)
  e_goes (t ∷ []) [] d b = front_agrees (p (t ∷ [])) d [] (pe.reads (t ∷ []) [] d b)
  e_goes (t ∷ []) (k ∷ y) d b = go (label_taken t k) refl
    where
      go : (o : Option Placed) → label_taken t k ≡ o → Agrees (one_label o (read_labelled label_taken p y) (behind [] None (p (t ∷ k ∷ y)))) d (k ∷ y)
      go (Some l) h = label_agrees l (read_labelled label_taken p y) d (k ∷ y) (one_more (read_labelled label_taken p y) k y d (labelled_le y))
      go None h = front_agrees (p (t ∷ k ∷ y)) d (k ∷ y) (pe.reads (t ∷ []) (k ∷ y) d b)
  e_goes (t ∷ k ∷ v) y d b = go (label_taken t k) refl
    where
      go : (o : Option Placed) → label_taken t k ≡ o → Agrees (one_label o (read_labelled label_taken p (v ++ y)) (behind [] None (p (t ∷ k ∷ (v ++ y))))) d y
      go (Some l) h = absurd (be.two t k v l d h b)
      go None h = front_agrees (p (t ∷ k ∷ (v ++ y))) d y (pe.reads (t ∷ k ∷ v) y d b)

  labelled_reads : (v y : List Token) (d : Beyond) → (both (many label) e).begins v d → Agrees (read_labelled label_taken p (v ++ y)) d y
  unfolding both many
  labelled_reads v y d (inl (a, z, d1, d2, ls, f, g, s, k)) =
      let begun : Begun z × (d2 ≡ None) = label_begun z d2 k in
      let mark : d ≡ None = g ∙ ap (λ d1. across d1 z d2) (labels_none _ a ls d1 s) ∙ begun.1 in
      rw f (rw mark (rw (append_assoc a z y) (labels_go _ ls a (z ++ y) y d1 None s (label_goes z y (begun.0)))))
  labelled_reads v y d (inr (a, w, d1, d2, ls, f, g, s, k)) =
      let mark : d ≡ d2 = g ∙ ap (λ d1. across d1 w d2) (labels_none _ a ls d1 s) in
      rw f (rw mark (rw (append_assoc a w y) (labels_go _ ls a (w ++ y) y d1 d2 s (e_goes w y d2 k))))

  pub labelled_good : Good (both (many label) e) (read_labelled label_taken p) (a_name ++ fe) (a_name ++ (the_symbol Colon ++ le)) ne
  labelled_good = record {
    starts = labelled_starts;
    empty = labelled_empty;
    silent = labelled_silent;
    whole = labelled_whole;
    fronts = labelled_fronts;
    nulls = labelled_nulls;
    sound = λ w x m rest h. labelled_sound w x.0 x.1 m rest h;
    stops = labelled_stops;
    takes = labelled_takes;
    reads = labelled_reads;
  }
