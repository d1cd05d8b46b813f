-- A list in order is one alone, where those that tie stand as before.
use Rattle.std.proofs.Common.{◌≡◌, ℕ, suc, ◌<◌, ◌≤◌, Bool, true, false, cond, not, ◌&&◌, List, [], ◌∷◌, length, get_or, refl, sym, ap, subst, ◌∙◌, arith}
use Rattle.std.specs.Cmp.{IsStrictWeakOrder}
use Rattle.std.specs.List.{filter}
use Rattle.std.specs.List.Sorted.{ties, IsSortedBy, IsStableBy}
use Rattle.std.proofs.lemmas.List.Sorted.{sorted_far}

-- puts a in front of the first that it is not behind
abbrev pub put : {X : Type 0} → (X → X → Bool) → X → List X → List X
put lt a [] = a ∷ []
put lt a (b ∷ bs) = cond (lt b a) (b ∷ put lt a bs) (a ∷ b ∷ bs)

abbrev pub put_all : {X : Type 0} → (X → X → Bool) → List X → List X
put_all lt [] = []
put_all lt (a ∷ xs) = put lt a (put_all lt xs)

-- none of these is less than a
abbrev NoneLess : {X : Type 0} → (X → X → Bool) → X → List X → Type 0
NoneLess lt a [] = Unit {0}
NoneLess lt a (b ∷ bs) = (lt b a ≡ false) × NoneLess lt a bs

abbrev Rises : {X : Type 0} → (X → X → Bool) → List X → Type 0
Rises lt [] = Unit {0}
Rises lt (a ∷ xs) = NoneLess lt a xs × Rises lt xs

module _ {X : Type 0} (lt : X → X → Bool) (o : IsStrictWeakOrder lt) where
  irreflexive_by : (a : X) (t : Bool) → lt a a ≡ t → lt a a ≡ false
  irreflexive_by a true h = o.one_way a a h
  irreflexive_by a false h = h

  irreflexive : (a : X) → lt a a ≡ false
  irreflexive a = irreflexive_by a (lt a a) refl

  none_less_far : (a b : X) (bs : List X) → lt b a ≡ false → NoneLess lt b bs → NoneLess lt a bs
  none_less_far a b [] h n = tt
  none_less_far a b (c ∷ bs) h n = (o.chain c b a n.0 h, none_less_far a b bs h n.1)

  none_less_put : (a b : X) (bs : List X) → lt a b ≡ false → NoneLess lt b bs → NoneLess lt b (put lt a bs)
  none_less_put a b [] h n = (h, tt)
  none_less_put a b (c ∷ bs) h n = by (lt c a) (none_less_put a b bs h n.1)
    where
      by : (t : Bool) → NoneLess lt b (put lt a bs) → NoneLess lt b (cond t (c ∷ put lt a bs) (a ∷ c ∷ bs))
      by true rest = (n.0, rest)
      by false rest = (h, n)

  put_rises : (a : X) (bs : List X) → Rises lt bs → Rises lt (put lt a bs)
  put_rises a [] r = (tt, tt)
  put_rises a (b ∷ bs) r = by (lt b a) refl (put_rises a bs r.1)
    where
      by : (t : Bool) → lt b a ≡ t → Rises lt (put lt a bs) → Rises lt (cond t (b ∷ put lt a bs) (a ∷ b ∷ bs))
      by true h rest = (none_less_put a b bs (o.one_way b a h) r.0, rest)
      by false h rest = ((h, none_less_far a b bs h r.0), r)

  put_all_rises : (xs : List X) → Rises lt (put_all lt xs)
  put_all_rises [] = tt
  put_all_rises (a ∷ xs) = put_rises a (put_all lt xs) (put_all_rises xs)

  both_tie : (x a b : X) → ties lt x a ≡ true → ties lt x b ≡ true → lt b a ≡ false
  both_tie x a b h g = by (lt x a) (lt a x) (lt x b) (lt b x) refl refl refl refl
    where
      by : (s t u v : Bool) → lt x a ≡ s → lt a x ≡ t → lt x b ≡ u → lt b x ≡ v → lt b a ≡ false
      by false t u false e f i j = o.chain b x a j e
      by true t u v e f i j = let k = rw e at h in cc
      by false t u true e f i j = let k = rw j at g in absurd (wrong (lt x b) k)
        where
          wrong : (p : Bool) → (not p && false) ≡ true → ⊥
          wrong true q = cc
          wrong false q = cc

  -- what is put in order stands among those that tie as before
  put_stable : (x a : X) (bs : List X) → filter (ties lt x) (put lt a bs) ≡ filter (ties lt x) (a ∷ bs)
  put_stable x a [] = refl
  put_stable x a (b ∷ bs) = by (lt b a) (ties lt x a) (ties lt x b) refl refl refl (put_stable x a bs)
    where
      by : (t u v : Bool) → lt b a ≡ t → ties lt x a ≡ u → ties lt x b ≡ v → filter (ties lt x) (put lt a bs) ≡ filter (ties lt x) (a ∷ bs)
          → filter (ties lt x) (cond t (b ∷ put lt a bs) (a ∷ b ∷ bs)) ≡ filter (ties lt x) (a ∷ b ∷ bs)
      by false u v h e f rest = refl
      by true true true h e f rest = let k = both_tie x a b e f in cc
      by true false v h e f rest =
          ap (λ ys. cond (ties lt x b) (b ∷ ys) ys) (rest ∙ ap (λ w. cond w (a ∷ filter (ties lt x) bs) (filter (ties lt x) bs)) e)
          ∙ ap (λ w. cond w (a ∷ filter (ties lt x) (b ∷ bs)) (filter (ties lt x) (b ∷ bs))) (sym e)
      by true true false h e f rest =
          ap (λ w. cond w (b ∷ filter (ties lt x) (put lt a bs)) (filter (ties lt x) (put lt a bs))) f
          ∙ rest
          ∙ ap (λ w. cond w (a ∷ filter (ties lt x) bs) (filter (ties lt x) bs)) e
          ∙ ap (λ w. a ∷ cond w (b ∷ filter (ties lt x) bs) (filter (ties lt x) bs)) (sym f)
          ∙ ap (λ w. cond w (a ∷ filter (ties lt x) (b ∷ bs)) (filter (ties lt x) (b ∷ bs))) (sym e)

  put_all_stable : (x : X) (xs : List X) → filter (ties lt x) (put_all lt xs) ≡ filter (ties lt x) xs
  put_all_stable x [] = refl
  put_all_stable x (a ∷ xs) = put_stable x a (put_all lt xs) ∙ ap (λ ys. cond (ties lt x a) (a ∷ ys) ys) (put_all_stable x xs)

  ties_itself : (x : X) → ties lt x x ≡ true
  ties_itself x = ap (λ t. not t && not t) (irreflexive x)

  -- the first that passes a test is no less than one that none is less than
  not_less_by : (b a : X) (ys rest : List X) (p : X → Bool) → NoneLess lt b ys → filter p ys ≡ a ∷ rest → lt a b ≡ false
  not_less_by b a [] rest p n e = cc
  not_less_by b a (y ∷ ys) rest p n e = by (p y) e (not_less_by b a ys rest p n.1)
    where
      by : (t : Bool) → cond t (y ∷ filter p ys) (filter p ys) ≡ a ∷ rest → (filter p ys ≡ a ∷ rest → lt a b ≡ false) → lt a b ≡ false
      by true e' f = let same : y ≡ a = cc in subst (λ z. lt z b ≡ false) same n.0
      by false e' f = f e'

  kept_first : (x : X) (xs : List X) → filter (ties lt x) (x ∷ xs) ≡ x ∷ filter (ties lt x) xs
  kept_first x xs = ap (λ t. cond t (x ∷ filter (ties lt x) xs) (filter (ties lt x) xs)) (ties_itself x)

  same_tail : (t : Bool) (a : X) (xs ys : List X) → cond t (a ∷ xs) xs ≡ cond t (a ∷ ys) ys → xs ≡ ys
  same_tail true a xs ys e = cc
  same_tail false a xs ys e = e

  -- lists that rise are equal where those that tie are
  pub one_order : (xs ys : List X) → Rises lt xs → Rises lt ys → ((x : X) → filter (ties lt x) xs ≡ filter (ties lt x) ys) → xs ≡ ys
  one_order [] [] r s e = refl
  one_order [] (b ∷ ys) r s e = let h = e b ∙ kept_first b ys in cc
  one_order (a ∷ xs) [] r s e = let h = sym (kept_first a xs) ∙ e a in cc
  one_order (a ∷ xs) (b ∷ ys) r s e =
      let up : lt a b ≡ false = not_less_by b a (b ∷ ys) (filter (ties lt a) xs) (ties lt a) (irreflexive b, s.0) (sym (e a) ∙ kept_first a xs) in
      let down : lt b a ≡ false = not_less_by a b (a ∷ xs) (filter (ties lt b) ys) (ties lt b) (irreflexive a, r.0) (e b ∙ kept_first b ys) in
      let tie : ties lt a b ≡ true = ap (λ t. not t && not (lt b a)) up ∙ ap (λ t. not t) down in
      let h = sym (kept_first a xs) ∙ e a ∙ ap (λ t. cond t (b ∷ filter (ties lt a) ys) (filter (ties lt a) ys)) tie in
      let same : a ≡ b = cc in
      let rest : xs ≡ ys = one_order xs ys r.1 s.1 (λ x. same_tail (ties lt x a) a (filter (ties lt x) xs) (filter (ties lt x) ys) (e x ∙ ap (λ c. filter (ties lt x) (c ∷ ys)) (sym same))) in
      ap (λ c. c ∷ xs) same ∙ ap (λ zs. b ∷ zs) rest

  -- what is sorted rises
  none_less_from : (a : X) (xs : List X) → ((k : ℕ) (d : X) → k < length xs → lt (get_or xs k d) a ≡ false) → NoneLess lt a xs
  none_less_from a [] f = tt
  none_less_from a (x ∷ xs) f = (f 0 x (omega arith), none_less_from a xs (λ k d h. f (suc k) d (omega (arith, h))))

  rises_from : (xs : List X) → ((i j : ℕ) (d : X) → i ≤ j → j < length xs → lt (get_or xs j d) (get_or xs i d) ≡ false) → Rises lt xs
  rises_from [] f = tt
  rises_from (x ∷ xs) f = (none_less_from x xs (λ k d h. f 0 (suc k) d (omega arith) (omega (arith, h))), rises_from xs (λ i j d h g. f (suc i) (suc j) d (omega (arith, h)) (omega (arith, g))))

  -- a stable sort puts all in order
  pub stable_is_put : (xs ys : List X) → IsSortedBy lt ys → IsStableBy lt xs ys → ys ≡ put_all lt xs
  stable_is_put xs ys sorted stable = one_order ys (put_all lt xs) (rises_from ys (sorted_far lt o ys sorted)) (put_all_rises xs) (λ x. stable x ∙ sym (put_all_stable x xs))
