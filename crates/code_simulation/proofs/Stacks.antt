-- Stacks whose newest is first, and code in a row.
use Rattle.std.proofs.Common.{◌≡◌, ◌≢◌, ℕ, zero, suc, ◌+◌, ◌-◌, ◌<◌, ◌≤◌, ◌⊎◌, inl, inr, List, [], ◌∷◌, ◌++◌, length, map, Option, Some, None, refl, sym, ap, ◌∙◌, subst, arith, length-append, eq-eqb, ltb-true, ltb-false, lt-ltb, eqb-true}
use Rattle.std.proofs.lemmas.Bool.{ne_eqb}
use Rattle.std.specs.Prelude.{slice_get, slice_set, nat_eq, nat_lt, Bool, true, false}
use Rattle.stack_code.specs.Code.{Coded}
use Rattle.stack_code.specs.Machine.{on_top_of, lowest, replaced}
use Rattle.phrase_code.specs.Coding.{◌▸◌}
use Rattle.code_simulation.specs.Relation.{HasAt}
pub use Rattle.phrase_code.proofs.Sizes.{length_code}

-- ---- tests

pub is_equal : (n : ℕ) → nat_eq n n ≡ true
is_equal n = eq-eqb n n refl

pub is_other : (m n : ℕ) → m ≢ n → nat_eq m n ≡ false
is_other m n h = ne_eqb m n h

pub is_below : (m n : ℕ) → m < n → nat_lt m n ≡ true
is_below m n h = lt-ltb m n h

pub is_not_below : (m n : ℕ) → n ≤ m → nat_lt m n ≡ false
is_not_below m n h = ltb_no (nat_lt m n) refl
  where
    ltb_no : (b : Bool) → nat_lt m n ≡ b → nat_lt m n ≡ false
    ltb_no true e = absurd (let k = ltb-true m n e in omega (arith, h, k))
    ltb_no false e = e

-- ---- what lies on exactly k others

top_nil : {A : Type 0} (k : ℕ) → on_top_of {A = A} [] k ≡ None
top_nil k = ap (λ (b : Bool). let o : Option _ = elim b [ true ↦ slice_get [] (0 - (k + 1)) | false ↦ None ] in o) (is_not_below k 0 (omega arith))

pub none_is_some : {A : Type 0} {x : A} → None ≡ Some x → ⊥
none_is_some e = cc

-- the newest lies on all others
top_cons : {A : Type 0} (x : A) (xs : List A) (k : ℕ) → on_top_of (x ∷ xs) k ≡ elim (nat_eq k (length xs)) [ true ↦ Some x | false ↦ on_top_of xs k ]
top_cons x xs k = by (nat_eq k (length xs)) refl (nat_lt k (length xs)) refl
  where
    first : (n i : ℕ) → i ≡ 0 → slice_get (x ∷ xs) i ≡ Some x
    first n i e = ap (slice_get (x ∷ xs)) e

    later : (i j : ℕ) → i ≡ suc j → slice_get (x ∷ xs) i ≡ slice_get xs j
    later i j e = ap (slice_get (x ∷ xs)) e

    shape : (b : Bool) → nat_lt k (suc (length xs)) ≡ b → on_top_of (x ∷ xs) k ≡ elim b [ true ↦ slice_get (x ∷ xs) (suc (length xs) - (k + 1)) | false ↦ None ]
    shape b e = ap (λ (t : Bool). let o : Option _ = elim t [ true ↦ slice_get (x ∷ xs) (suc (length xs) - (k + 1)) | false ↦ None ] in o) e

    below : (b : Bool) → nat_lt k (length xs) ≡ b → on_top_of xs k ≡ elim b [ true ↦ slice_get xs (length xs - (k + 1)) | false ↦ None ]
    below b e = ap (λ (t : Bool). let o : Option _ = elim t [ true ↦ slice_get xs (length xs - (k + 1)) | false ↦ None ] in o) e

    by : (b : Bool) → nat_eq k (length xs) ≡ b → (t : Bool) → nat_lt k (length xs) ≡ t → on_top_of (x ∷ xs) k ≡ elim b [ true ↦ Some x | false ↦ on_top_of xs k ]
    by true q t p = let j = eqb-true k (length xs) q in shape true (is_below k (suc (length xs)) (omega (arith, j))) ∙ first 0 (suc (length xs) - (k + 1)) (omega (arith, j))
    by false q true p = let l = ltb-true k (length xs) p in shape true (is_below k (suc (length xs)) (omega (arith, l))) ∙ later (suc (length xs) - (k + 1)) (length xs - (k + 1)) (omega (arith, l)) ∙ sym (below true p)
    by false q false p = shape false (is_not_below k (suc (length xs)) (over p)) ∙ sym (below false p)
      where
        apart : k ≢ length xs
        apart e = let z = is_equal (length xs) in let y : nat_eq k (length xs) ≡ true = subst (λ n. nat_eq n (length xs) ≡ true) (sym e) z in absurd (cc)

        over : nat_lt k (length xs) ≡ false → suc (length xs) ≤ k
        over r = let l = ltb-false k (length xs) r in omega (arith, l, apart)

top_below_by : {A : Type 0} (b : Bool) (k n : ℕ) (y x : A) (o : Option A) → nat_eq k n ≡ b → (o ≡ Some x → k < n) → elim b [ true ↦ Some y | false ↦ o ] ≡ Some x → k < suc n
top_below_by true k n y x o q h e = let j = eqb-true k n q in omega (arith, j)
top_below_by false k n y x o q h e = let j = h e in omega (arith, j)

pub top_below : {A : Type 0} (xs : List A) (k : ℕ) (x : A) → on_top_of xs k ≡ Some x → k < length xs
top_below [] k x e = absurd (none_is_some (sym (top_nil k) ∙ e))
top_below (y ∷ xs) k x e = top_below_by (nat_eq k (length xs)) k (length xs) y x (on_top_of xs k) refl (top_below xs k x) (sym (top_cons y xs k) ∙ e)

pub top_other : {A : Type 0} (y : A) (xs : List A) (k : ℕ) → k ≢ length xs → on_top_of (y ∷ xs) k ≡ on_top_of xs k
top_other y xs k h = top_cons y xs k ∙ ap (λ (b : Bool). let o : Option _ = elim b [ true ↦ Some y | false ↦ on_top_of xs k ] in o) (is_other k (length xs) h)

pub top_is : {A : Type 0} (x : A) (xs : List A) → on_top_of (x ∷ xs) (length xs) ≡ Some x
top_is x xs = top_cons x xs (length xs) ∙ ap (λ (b : Bool). let o : Option _ = elim b [ true ↦ Some x | false ↦ on_top_of xs (length xs) ] in o) (is_equal (length xs))

pub top_at : {A : Type 0} (x : A) (xs : List A) (k : ℕ) → k ≡ length xs → on_top_of (x ∷ xs) k ≡ Some x
top_at x xs k e = subst (λ n. on_top_of (x ∷ xs) n ≡ Some x) (sym e) (top_is x xs)

pub top_more : {A : Type 0} (y : A) (xs : List A) (k : ℕ) (x : A) → on_top_of xs k ≡ Some x → on_top_of (y ∷ xs) k ≡ Some x
top_more y xs k x e = let h = top_below xs k x e in top_other y xs k (λ q. absurd (omega (arith, h, q))) ∙ e

pub top_append : {A : Type 0} (ys xs : List A) (k : ℕ) (x : A) → on_top_of xs k ≡ Some x → on_top_of (ys ++ xs) k ≡ Some x
top_append [] xs k x e = e
top_append (y ∷ ys) xs k x e = top_more y (ys ++ xs) k x (top_append ys xs k x e)

-- what lies on k others of more is the newest, or lies there in fewer
pub top_less : {A : Type 0} (y : A) (xs : List A) (k : ℕ) (x : A) → on_top_of (y ∷ xs) k ≡ Some x → ((k ≡ length xs) × (x ≡ y)) ⊎ (on_top_of xs k ≡ Some x)
top_less y xs k x e = by (nat_eq k (length xs)) refl (sym (top_cons y xs k) ∙ e)
  where
    by : (b : Bool) → nat_eq k (length xs) ≡ b → elim b [ true ↦ Some y | false ↦ on_top_of xs k ] ≡ Some x → ((k ≡ length xs) × (x ≡ y)) ⊎ (on_top_of xs k ≡ Some x)
    by true q p = inl (eqb-true k (length xs) q, cc)
    by false q p = inr p

top_map_by : {A B : Type 0} (f : A → B) (b : Bool) (y x : A) (o : Option A) (p : Option B) → (o ≡ Some x → p ≡ Some (f x)) → elim b [ true ↦ Some y | false ↦ o ] ≡ Some x → elim b [ true ↦ Some (f y) | false ↦ p ] ≡ Some (f x)
top_map_by f true y x o p h e = let q : y ≡ x = cc in ap (λ z. Some (f z)) q
top_map_by f false y x o p h e = h e

pub length_map : {A B : Type 0} (f : A → B) (xs : List A) → length (map f xs) ≡ length xs
length_map f [] = refl
length_map f (x ∷ xs) = ap suc (length_map f xs)

pub top_map : {A B : Type 0} (f : A → B) (xs : List A) (k : ℕ) (x : A) → on_top_of xs k ≡ Some x → on_top_of (map f xs) k ≡ Some (f x)
top_map f [] k x e = absurd (none_is_some (sym (top_nil k) ∙ e))
top_map f (y ∷ xs) k x e = top_cons (f y) (map f xs) k ∙ subst (λ n. elim (nat_eq k n) [ true ↦ Some (f y) | false ↦ on_top_of (map f xs) k ] ≡ Some (f x)) (sym (length_map f xs)) (top_map_by f (nat_eq k (length xs)) y x (on_top_of xs k) (on_top_of (map f xs) k) (top_map f xs k x) (sym (top_cons y xs k) ∙ e))

-- ---- the lowest k

pub lowest_all : {A : Type 0} (xs : List A) → lowest xs (length xs) ≡ xs
lowest_all [] = refl
lowest_all (x ∷ xs) = ap (λ (b : Bool). let o : List _ = elim b [ true ↦ x ∷ xs | false ↦ lowest xs (suc (length xs)) ] in o) (is_below (length xs) (suc (length xs)) (omega arith))

pub lowest_append : {A : Type 0} (ys xs : List A) → lowest (ys ++ xs) (length xs) ≡ xs
lowest_append [] xs = lowest_all xs
lowest_append (y ∷ ys) xs = ap (λ (b : Bool). let o : List _ = elim b [ true ↦ y ∷ (ys ++ xs) | false ↦ lowest (ys ++ xs) (length xs) ] in o) (is_not_below (length (ys ++ xs)) (length xs) (omega (arith, length-append ys xs))) ∙ lowest_append ys xs

-- ---- maps

pub map_append : {A B : Type 0} (f : A → B) (ys xs : List A) → map f (ys ++ xs) ≡ map f ys ++ map f xs
map_append f [] xs = refl
map_append f (y ∷ ys) xs = ap (λ l. f y ∷ l) (map_append f ys xs)

-- a map that changes nowhere
pub map_same : {A B : Type 0} (f g : A → B) (xs : List A) → ((k : ℕ) (x : A) → on_top_of xs k ≡ Some x → g x ≡ f x) → map g xs ≡ map f xs
map_same f g [] h = refl
map_same f g (x ∷ xs) h = ap (λ y. y ∷ map g xs) (h (length xs) x (top_is x xs)) ∙ ap (λ l. f x ∷ l) (map_same f g xs (λ k z e. h k z (top_more x xs k z e)))

map_replaced_by : {A B : Type 0} (f g : A → B) (xs : List A) (c : ℕ) (y x : A) (b : Bool) → nat_eq c (length xs) ≡ b → elim b [ true ↦ Some y | false ↦ on_top_of xs c ] ≡ Some x →
    ((k : ℕ) (z : A) → on_top_of (y ∷ xs) k ≡ Some z → k ≢ c → g z ≡ f z) → (on_top_of xs c ≡ Some x → map g xs ≡ replaced (map f xs) c (g x)) → g y ∷ map g xs ≡ elim b [ true ↦ g x ∷ map f xs | false ↦ f y ∷ replaced (map f xs) c (g x) ]
map_replaced_by f g xs c y x true q p h r =
    let e1 : y ≡ x = cc in
    let j = eqb-true c (length xs) q in
    let same = map_same f g xs (λ k z r. let l = top_below xs k z r in h k z (top_more y xs k z r) (λ i. absurd (omega (arith, i, j, l)))) in
    ap (λ z. g z ∷ map g xs) e1 ∙ ap (λ l. g x ∷ l) same
map_replaced_by f g xs c y x false q p h r =
    let l = top_below xs c x p in
    let e1 = h (length xs) y (top_is y xs) (λ i. absurd (omega (arith, i, l))) in
    ap (λ z. z ∷ map g xs) e1 ∙ ap (λ l. f y ∷ l) (r p)

-- a map that changes in one place
pub map_replaced : {A B : Type 0} (f g : A → B) (xs : List A) (c : ℕ) (x : A) → on_top_of xs c ≡ Some x → ((k : ℕ) (z : A) → on_top_of xs k ≡ Some z → k ≢ c → g z ≡ f z) → map g xs ≡ replaced (map f xs) c (g x)
map_replaced f g [] c x e h = absurd (none_is_some (sym (top_nil c) ∙ e))
map_replaced f g (y ∷ xs) c x e h = subst (λ n. g y ∷ map g xs ≡ elim (nat_eq c n) [ true ↦ g x ∷ map f xs | false ↦ f y ∷ replaced (map f xs) c (g x) ]) (sym (length_map f xs))
    (map_replaced_by f g xs c y x (nat_eq c (length xs)) refl (sym (top_cons y xs c) ∙ e) h (λ p. map_replaced f g xs c x p (λ k z r n. h k z (top_more y xs k z r) n)))

-- ---- code in a row

pub has_front : (program : List Coded) (k : ℕ) (a b : List Coded) → HasAt program k (a ▸ b) → HasAt program k a
has_front program k [] b h = tt
has_front program k (i ∷ a) b h = (h.0, has_front program (k + 1) a b h.1)

pub has_back : (program : List Coded) (k n : ℕ) (a b : List Coded) → length a ≡ n → HasAt program k (a ▸ b) → HasAt program (k + n) b
has_back program k n [] b q h = let e : k ≡ k + n = omega (arith, q) in subst (λ l. HasAt program l b) e h
has_back program k n (i ∷ a) b q h =
    let e : k + 1 + length a ≡ k + n = omega (arith, q) in
    subst (λ l. HasAt program l b) e (has_back program (k + 1) (length a) a b refl h.1)

-- ---- lists by number from the front

pub get_below : {A : Type 0} (xs : List A) (a : ℕ) (v : A) → slice_get xs a ≡ Some v → a < length xs
get_below [] a v e = absurd (cc)
get_below (x ∷ xs) zero v e = omega arith
get_below (x ∷ xs) (suc a) v e = let h = get_below xs a v e in omega arith

pub get_append : {A : Type 0} (xs ys : List A) (a : ℕ) (v : A) → slice_get xs a ≡ Some v → slice_get (xs ++ ys) a ≡ Some v
get_append [] ys a v e = absurd (cc)
get_append (x ∷ xs) ys zero v e = e
get_append (x ∷ xs) ys (suc a) v e = get_append xs ys a v e

pub get_behind : {A : Type 0} (xs ys : List A) (a : ℕ) → slice_get (xs ++ ys) (length xs + a) ≡ slice_get ys a
get_behind [] ys a = let e : 0 + a ≡ a = omega arith in ap (slice_get ys) e
get_behind (x ∷ xs) ys a = let e : suc (length xs) + a ≡ suc (length xs + a) = omega arith in ap (slice_get (x ∷ (xs ++ ys))) e ∙ get_behind xs ys a

pub get_set_same : {A : Type 0} (xs : List A) (a : ℕ) (v : A) → a < length xs → slice_get (slice_set xs a v) a ≡ Some v
get_set_same [] a v h = absurd (omega arith)
get_set_same (x ∷ xs) zero v h = refl
get_set_same (x ∷ xs) (suc a) v h = get_set_same xs a v (omega arith)

pub get_set_other : {A : Type 0} (xs : List A) (a b : ℕ) (v : A) → a ≢ b → slice_get (slice_set xs a v) b ≡ slice_get xs b
get_set_other [] a b v h = refl
get_set_other (x ∷ xs) zero zero v h = absurd (h refl)
get_set_other (x ∷ xs) zero (suc b) v h = refl
get_set_other (x ∷ xs) (suc a) zero v h = refl
get_set_other (x ∷ xs) (suc a) (suc b) v h = get_set_other xs a b v (omega arith)

pub length_set : {A : Type 0} (xs : List A) (a : ℕ) (v : A) → length (slice_set xs a v) ≡ length xs
length_set [] a v = refl
length_set (x ∷ xs) zero v = refl
length_set (x ∷ xs) (suc a) v = ap suc (length_set xs a v)

pub get_append_below : {A : Type 0} (xs ys : List A) (a : ℕ) → a < length xs → slice_get (xs ++ ys) a ≡ slice_get xs a
get_append_below [] ys a h = absurd (omega arith)
get_append_below (x ∷ xs) ys zero h = refl
get_append_below (x ∷ xs) ys (suc a) h = get_append_below xs ys a (omega arith)

pub past_front : {A : Type 0} (xs : List A) (k : ℕ) → slice_get xs k ≡ None → length xs ≤ k
past_front [] k e = omega arith
past_front (x ∷ xs) zero e = absurd (none_is_some (sym e))
past_front (x ∷ xs) (suc k) e = let h = past_front xs k e in omega (arith, h)

pub past_top : {A : Type 0} (xs : List A) (k : ℕ) → length xs ≤ k → on_top_of xs k ≡ None
past_top xs k h = ap (λ (t : Bool). let o : Option _ = elim t [ true ↦ slice_get xs (length xs - (k + 1)) | false ↦ None ] in o) (is_not_below k (length xs) h)
