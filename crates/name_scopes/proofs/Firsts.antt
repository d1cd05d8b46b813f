-- Where among names the first of each stands.
use Rattle.std.proofs.Common.{◌≡◌, ℕ, zero, suc, ◌+◌, ◌<◌, ◌-◌, Bool, true, false, nat_lt, cond, take, List, [], ◌∷◌, ◌++◌, Option, Some, None, length, get_or, refl, sym, ap, subst, ◌∙◌, arith}
use Rattle.std.proofs.lemmas.Bool.Decides.{nat_tests}
use Rattle.std.proofs.lemmas.List.{get_or-map, length-map, length-take-le, map-append, take_more}
use Rattle.std.proofs.Math.Seq.{take-append_seam}
use Rattle.std.proofs.lemmas.Option.{same_Some}
use Rattle.std.proofs.lemmas.Slice.Eq.{bytes_eq-Decides}
use Rattle.std.specs.HashMap.{HashMap, get}
use Rattle.std.specs.Option.{option_map, option_or, is_some, unwrap_or}
use Rattle.std.specs.Str.{bytes_eq}
use Rattle.algolw_tree.specs.Tree.{Placed}
use Rattle.algolw_typing.specs.Names.{in_scope}
use Rattle.algolw_typing.specs.Naming.{scope_of, place_of}
use Rattle.name_scopes.specs.Firsts.{Firsts, first_of, lent}
use denote.Ref.{Bor}

pub push_step : (same : Bool) (p q : Option ℕ) → (elim same [ true ↦ Some 0 | false ↦ option_map suc (option_or p q) ]) ≡ option_or (elim same [ true ↦ Some 0 | false ↦ option_map suc p ]) (option_map suc q)
push_step true p q = refl
push_step false None q = refl
push_step false (Some n) q = refl

pub next : (same : Bool) (n : ℕ) → option_map suc (cond same (Some n) None) ≡ cond same (Some (suc n)) None
next true n = refl
next false n = refl

pub first_alone : (same : Bool) → (elim same as (λ b. Option ℕ) [ true ↦ Some 0 | false ↦ None ]) ≡ cond same (Some 0) None
first_alone true = refl
first_alone false = refl

-- a name more stands at the end
pub first_of-push : (xs : List Placed) (x : Placed) (q : List ℕ) → first_of (xs ++ x ∷ []) q ≡ option_or (first_of xs q) (cond (bytes_eq x.0 q) (Some (length xs)) None)
first_of-push [] x q = first_alone (bytes_eq x.0 q)
first_of-push (y ∷ xs) x q =
    ap (λ (p : Option ℕ). elim (bytes_eq y.0 q) [ true ↦ Some 0 | false ↦ option_map suc p ]) (first_of-push xs x q)
    ∙ push_step (bytes_eq y.0 q) (first_of xs q) (cond (bytes_eq x.0 q) (Some (length xs)) None)
    ∙ ap (option_or (first_of (y ∷ xs) q)) (next (bytes_eq x.0 q) (length xs))

put_by : (same : Bool) (at here : Option ℕ) (n : ℕ) → (same ≡ true → at ≡ here) → cond same (Some (unwrap_or here n)) at ≡ option_or at (cond same (Some n) None)
put_by true at None n f = ap (λ (p : Option ℕ). option_or p (Some n)) (sym (f refl))
put_by true at (Some m) n f = ap (λ (p : Option ℕ). option_or p (Some n)) (sym (f refl))
put_by false None here n f = refl
put_by false (Some m) here n f = refl

-- where a name stands first among the names and one more
pub first_put : {S : Type 0} (xs : List Placed) (x : Placed) (n value : ℕ) (old : HashMap (List ℕ) ℕ S) (held : Option ℕ) (q : List ℕ) → Firsts xs old → n ≡ length xs → value ≡ unwrap_or (get bytes_eq old x.0) n
    → held ≡ cond (bytes_eq x.0 q) (Some value) (get bytes_eq old q) → held ≡ first_of (xs ++ x ∷ []) q
first_put xs x n value old held q f long here is =
    is
    ∙ ap (λ (v : ℕ). cond (bytes_eq x.0 q) (Some v) (get bytes_eq old q)) here
    ∙ put_by (bytes_eq x.0 q) (get bytes_eq old q) (get bytes_eq old x.0) n (λ h. ap (get bytes_eq old) (sym ((bytes_eq-Decides x.0 q).0 h)))
    ∙ ap (λ (p : Option ℕ). option_or p (cond (bytes_eq x.0 q) (Some n) None)) (f.at q)
    ∙ ap (λ (m : ℕ). option_or (first_of xs q) (cond (bytes_eq x.0 q) (Some m) None)) long
    ∙ sym (first_of-push xs x q)

-- what stands at a first
pub record StandsAt (xs : List Placed) (q : List ℕ) (i : ℕ) : Type 0 where
  pub within : i < length xs
  pub is : (d : Placed) → place_of (in_scope (scope_of xs) q) ≡ Some (get_or xs i d).1

found_step : (same : Bool) (x : Placed) (xs : List Placed) (q : List ℕ) (i : ℕ) (p : Option ℕ) → bytes_eq x.0 q ≡ same → first_of xs q ≡ p → ((j : ℕ) → p ≡ Some j → StandsAt xs q j)
    → (elim same as (λ b. Option ℕ) [ true ↦ Some 0 | false ↦ option_map suc p ]) ≡ Some i → StandsAt (x ∷ xs) q i
found_step true x xs q zero p b e f h = record { within = omega arith; is = λ d. rw (b, place_of) refl }
found_step true x xs q (suc i) p b e f h = cc
found_step false x xs q i None b e f h = cc
found_step false x xs q zero (Some j) b e f h = let g = same_Some _ _ h in absurd (omega (arith, g))
found_step false x xs q (suc i) (Some j) b e f h =
    let k : j ≡ i = omega (arith, same_Some _ _ h) in
    let s : StandsAt xs q i = subst (StandsAt xs q) k (f j refl) in
    record { within = omega (arith, s.within); is = λ d. rw (b, place_of) (s.is d) }

pub first_stands : (xs : List Placed) (q : List ℕ) (i : ℕ) → first_of xs q ≡ Some i → StandsAt xs q i
first_stands [] q i h = cc
first_stands (x ∷ xs) q i h = found_step (bytes_eq x.0 q) x xs q i (first_of xs q) refl refl (λ j e. first_stands xs q j e) h

-- what was put at the end is taken away
pub popped : {X : Type 0} (xs ys zs : List X) (x : X) (n : ℕ) → n ≡ length xs + 1 → ys ≡ xs ++ x ∷ [] → zs ≡ take (n - 1) ys → zs ≡ xs
popped xs ys zs x n long pushed is =
    let before : n - 1 ≡ length xs = omega arith in
    is ∙ ap (λ (m : ℕ). take m ys) before ∙ ap (take (length xs)) pushed ∙ take-append_seam xs (x ∷ [])

-- what stands in front of what was put at the end
pub front_kept : {X : Type 0} (xs ys : List X) (x : X) (n : ℕ) → n ≡ length xs → ys ≡ xs ++ x ∷ [] → take n ys ≡ xs
front_kept xs ys x n long pushed = ap (λ (m : ℕ). take m ys) long ∙ ap (take (length xs)) pushed ∙ take-append_seam xs (x ∷ [])

-- a name stands in front of a position where its first does
abbrev pub in_front : Option ℕ → ℕ → Bool
in_front None i = false
in_front (Some first) i = nat_lt first i

less_suc : (j i : ℕ) → nat_lt (suc j) (suc i) ≡ nat_lt j i
less_suc j i = grind (arith, nat_tests)

none_less : (i : ℕ) → nat_lt 0 (suc i) ≡ true
none_less i = grind (arith, nat_tests)

less_none : (j : ℕ) → nat_lt j 0 ≡ false
less_none j = grind (arith, nat_tests)

front_step : (same : Bool) (x : Placed) (xs : List Placed) (q : List ℕ) (i : ℕ) (p : Option ℕ) → bytes_eq x.0 q ≡ same → in_front p i ≡ is_some (in_scope (scope_of (take i xs)) q)
    → in_front (elim same as (λ b. Option ℕ) [ true ↦ Some 0 | false ↦ option_map suc p ]) (suc i) ≡ is_some (in_scope (scope_of (take (suc i) (x ∷ xs))) q)
front_step true x xs q i p b h = rw (b, in_scope) (none_less i)
front_step false x xs q i None b h = rw (b, in_scope) h
front_step false x xs q i (Some j) b h = rw (b, in_scope) (less_suc j i ∙ h)

none_in_front : (p : Option ℕ) → in_front p 0 ≡ false
none_in_front None = refl
none_in_front (Some j) = less_none j

pub first_in_front : (xs : List Placed) (q : List ℕ) (i : ℕ) → in_front (first_of xs q) i ≡ is_some (in_scope (scope_of (take i xs)) q)
first_in_front [] q zero = refl
first_in_front [] q (suc i) = refl
first_in_front (x ∷ xs) q zero = none_in_front (first_of (x ∷ xs) q)
first_in_front (x ∷ xs) q (suc i) = front_step (bytes_eq x.0 q) x xs q i (first_of xs q) refl (first_in_front xs q i)

-- a name more that stands elsewhere
pub lent-push : (xs ys : List (Bor Placed)) (x : Bor Placed) → ys ≡ xs ++ x ∷ [] → lent ys ≡ lent xs ++ x.now ∷ []
lent-push xs ys x e = ap lent e ∙ map-append (λ (y : Bor Placed). y.now) xs (x ∷ [])

pub lent-length : (xs : List (Bor Placed)) → length (lent xs) ≡ length xs
lent-length xs = length-map xs (λ (y : Bor Placed). y.now)

-- the one at a position
pub lent-at : (xs : List (Bor Placed)) (i : ℕ) (x : Bor Placed) → i < length xs → x ≡ get_or xs i x → get_or (lent xs) i x.now ≡ x.now
lent-at xs i x w e = get_or-map (λ (y : Bor Placed). y.now) xs i x x.now w ∙ ap (λ (y : Bor Placed). y.now) (sym e)

-- where a name stands first among some first names and the next one
pub firsts-more : {S : Type 0} (names : List (Bor Placed)) (i : ℕ) (x : Bor Placed) (value : ℕ) (old : HashMap (List ℕ) ℕ S) (held : Option ℕ) (q : List ℕ) → i < length names → x ≡ get_or names i x → Firsts (lent (take i names)) old
    → value ≡ unwrap_or (get bytes_eq old x.now.0) i → held ≡ cond (bytes_eq x.now.0 q) (Some value) (get bytes_eq old q) → held ≡ first_of (lent (take (i + 1) names)) q
firsts-more names i x value old held q within item before here is =
    let long : length (take i names) ≡ i = length-take-le i names (omega arith) in
    let more : take (i + 1) names ≡ take i names ++ x ∷ [] = take_more names i x within ∙ ap (λ (y : Bor Placed). take i names ++ y ∷ []) (sym item) in
    first_put (lent (take i names)) x.now i value old held q before (sym (lent-length (take i names) ∙ long)) here is
    ∙ ap (λ (xs : List Placed). first_of xs q) (sym (lent-push (take i names) (take (i + 1) names) x more))
