-- Names that are looked for by their marks.
use Rattle.std.proofs.Common.{◌≡◌, ℕ, zero, suc, ◌<◌, ◌≤◌, Bool, true, false, nat_eq, List, [], ◌∷◌, Option, Some, None, length, get_or, slice_set, replicate, refl, sym, ap, subst, ◌∙◌, ◌+◌, add-one, arith}
use Rattle.std.proofs.lemmas.Bool.Decides.{nat_tests}
use Rattle.std.proofs.lemmas.List.{get_or-set_same, get_or-set_other, length-set}
use denote.Ref.{Bor}
use Rattle.std.specs.Option.{IfSome}
use Rattle.algolw_typing.specs.Names.{Entry, Path, Scope, declared, in_scope, or_else}
use Rattle.name_scopes.specs.Marks.{mark_of}
use Rattle.name_scopes.specs.Nearest.{Nearest, kept_or}

none_at : {X : Type 0} (n i : ℕ) → get_or {A = Option X} (replicate n None) i None ≡ None
none_at zero i = refl
none_at (suc n) zero = refl
none_at (suc n) (suc i) = none_at n i

-- where nothing is kept names are looked for among the standard ones
pub nothing_kept : {A : Type 0} (standard : Path A) (marks most : ℕ) → Nearest standard standard marks most (replicate 64 None)
nothing_kept standard marks most = record {
  each = refl;
  alike = λ x w. ap (λ o. declared (kept_or standard o) x) (none_at 64 (mark_of x));
  fewer = λ i p e. let no = sym (none_at 64 i) ∙ e in cc;
}

kept_alike : {A : Type 0} (same : Bool) (standard path : Path A) (nearest : List (Option (Bor (Path A)))) (m : ℕ) (x : List ℕ) → nat_eq (mark_of x) m ≡ same
    → (mark_of x < m → declared (kept_or standard (get_or nearest (mark_of x) None)) x ≡ declared path x) → (mark_of x ≡ m → declared (kept_or standard (get_or nearest (mark_of x) None)) x ≡ declared path x)
    → mark_of x < suc m → declared (kept_or standard (get_or nearest (mark_of x) None)) x ≡ declared path x
kept_alike true standard path nearest m x s before here l = here (grind (arith, nat_tests))
kept_alike false standard path nearest m x s before here l = before (grind (arith, nat_tests))

-- one mark more, at which what is kept stays
one_kept : {A : Type 0} (standard path : Path A) (nearest : List (Option (Bor (Path A)))) (m most : ℕ) → Nearest standard path m most nearest
    → ((x : List ℕ) → mark_of x ≡ m → declared (kept_or standard (get_or nearest (mark_of x) None)) x ≡ declared path x) → Nearest standard path (suc m) most nearest
one_kept standard path nearest m most n here = record {
  each = n.each;
  alike = λ x l. kept_alike (nat_eq (mark_of x) m) standard path nearest m x refl (n.alike x) (here x) l;
  fewer = n.fewer;
}

alike_at : {A : Type 0} (same : Bool) (standard path : Path A) (nearest : List (Option (Bor (Path A)))) (o : Option (Bor (Path A))) (m : ℕ) (x : List ℕ) → nat_eq (mark_of x) m ≡ same → m < length nearest
    → (mark_of x < m → declared (kept_or standard (get_or nearest (mark_of x) None)) x ≡ declared path x) → (mark_of x ≡ m → declared (kept_or standard o) x ≡ declared path x)
    → mark_of x < suc m → declared (kept_or standard (get_or (slice_set nearest m o) (mark_of x) None)) x ≡ declared path x
alike_at true standard path nearest o m x s w before here l =
    let at : mark_of x ≡ m = grind (arith, nat_tests) in
    ap (λ n. declared (kept_or standard (get_or (slice_set nearest m o) n None)) x) at ∙ ap (λ k. declared (kept_or standard k) x) (get_or-set_same nearest m o None w) ∙ here at
alike_at false standard path nearest o m x s w before here l =
    let other : mark_of x ≡ m → ⊥ = λ (at : mark_of x ≡ m). let no : true ≡ false = grind (arith, nat_tests) in cc in
    let less : mark_of x < m = grind (arith, nat_tests) in
    ap (λ k. declared (kept_or standard k) x) (get_or-set_other nearest m (mark_of x) o None other) ∙ before less

fewer_at : {A : Type 0} (same : Bool) (nearest : List (Option (Bor (Path A)))) (o : Option (Bor (Path A))) (m most i : ℕ) (p : Bor (Path A)) → nat_eq i m ≡ same → m < length nearest
    → ((j : ℕ) (q : Bor (Path A)) → get_or nearest j None ≡ Some q → length q.now < most) → ((q : Bor (Path A)) → o ≡ Some q → length q.now < most)
    → get_or (slice_set nearest m o) i None ≡ Some p → length p.now < most
fewer_at true nearest o m most i p s w before here e =
    let at : i ≡ m = grind (arith, nat_tests) in
    here p (sym (get_or-set_same nearest m o None w) ∙ ap (λ n. get_or (slice_set nearest m o) n None) (sym at) ∙ e)
fewer_at false nearest o m most i p s w before here e =
    let other : i ≡ m → ⊥ = λ (at : i ≡ m). let no : true ≡ false = grind (arith, nat_tests) in cc in
    before i p (sym (get_or-set_other nearest m i o None other) ∙ e)

pub short_one : {A : Type 0} (o : Option (Bor (Path A))) (most : ℕ) → IfSome o (λ p. length p.now ≤ most) → (q : Bor (Path A)) → o ≡ Some q → length q.now < suc most
short_one None most h q e = cc
short_one (Some p) most h q e = let same : p ≡ q = cc in omega (arith, subst (λ (r : Bor (Path _)). length r.now ≤ most) same h)

-- one mark more
one_more : {A : Type 0} (standard path : Path A) (nearest : List (Option (Bor (Path A)))) (o : Option (Bor (Path A))) (m most : ℕ) → m < 64 → Nearest standard path m (suc most) nearest
    → ((x : List ℕ) → mark_of x ≡ m → declared (kept_or standard o) x ≡ declared path x) → IfSome o (λ p. length p.now ≤ most) → Nearest standard path (suc m) (suc most) (slice_set nearest m o)
one_more standard path nearest o m most within n here short =
    let w : m < length nearest = subst (λ (k : ℕ). m < k) (sym n.each) within in
    record {
      each = length-set nearest m o ∙ n.each;
      alike = λ x l. alike_at (nat_eq (mark_of x) m) standard path nearest o m x refl w (n.alike x) (here x) l;
      fewer = λ i p e. fewer_at (nat_eq i m) nearest o m (suc most) i p refl w n.fewer (short_one o most short) e;
    }

-- The marks before this one are done, and what is kept at the others is what was kept before.
pub record Going {A : Type 0} (standard path : Path A) (mark most : ℕ) (before nearest : List (Option (Bor (Path A)))) : Type 0 where
  pub near : Nearest standard path mark most nearest
  pub left : (i : ℕ) → mark ≤ i → get_or nearest i None ≡ get_or before i None

-- it begins with what is kept behind the innermost scope
pub going_begun : {A : Type 0} (standard behind path : Path A) (before : List (Option (Bor (Path A)))) (most : ℕ) → Nearest standard behind 64 most before → Going standard path 0 (suc most) before before
going_begun standard behind path before most n = record {
  near = record {
    each = n.each;
    alike = λ x w. absurd (omega (arith, w));
    fewer = λ i p e. let less : length p.now < most = n.fewer i p e in omega (arith, less);
  };
  left = λ i w. refl;
}

-- the path itself at one mark more
pub going_set : {A : Type 0} (standard path : Path A) (before nearest : List (Option (Bor (Path A)))) (self : Bor (Path A)) (m : ℕ) → m < 64 → self.now ≡ path → Going standard path m (suc (length path)) before nearest
    → Going standard path (m + 1) (suc (length path)) before (slice_set nearest m (Some self))
going_set standard path before nearest self m within is g =
    let short : length self.now ≤ length path = omega (arith, ap length is) in
    record {
      near = subst (λ (n : ℕ). Nearest standard path n (suc (length path)) (slice_set nearest m (Some self))) (sym (add-one m)) (one_more standard path nearest (Some self) m (length path) within g.near (λ x e. ap (λ (p : Path _). declared p x) is) short);
      left = λ i w.
          let other : i ≡ m → ⊥ = λ (at : i ≡ m). omega (arith, w, at) in
          get_or-set_other nearest m i (Some self) None other ∙ g.left i (omega (arith, w));
    }

-- what is kept stays at one mark more
pub going_kept : {A : Type 0} (standard path : Path A) (before nearest : List (Option (Bor (Path A)))) (m most : ℕ) → Going standard path m most before nearest
    → ((x : List ℕ) → mark_of x ≡ m → get_or before (mark_of x) None ≡ get_or nearest (mark_of x) None → declared (kept_or standard (get_or nearest (mark_of x) None)) x ≡ declared path x)
    → Going standard path (m + 1) most before nearest
going_kept standard path before nearest m most g here = record {
  near = subst (λ (n : ℕ). Nearest standard path n most nearest) (sym (add-one m)) (one_kept standard path nearest m most g.near (λ x e. here x e (sym (g.left (mark_of x) (omega (arith, e))))));
  left = λ i w. g.left i (omega (arith, w));
}

-- a scope that doesn't declare a name is passed over
pub passed_over : {A : Type 0} (scope : Scope A) (path : Path A) (x : List ℕ) → in_scope scope x ≡ None → declared (scope ∷ path) x ≡ declared path x
passed_over scope path x h = ap (λ (o : Option (Entry _)). or_else o (declared path x)) h

pub found_in : {A : Type 0} (scope : Scope A) (path : Path A) (x : List ℕ) (e : Entry A) → in_scope scope x ≡ Some e → declared (scope ∷ path) x ≡ Some e
found_in scope path x e h = ap (λ (o : Option (Entry _)). or_else o (declared path x)) h

-- the standard names stand alone
pub alone : {A : Type 0} (o : Option A) → o ≡ or_else o None
alone None = refl
alone (Some a) = refl

-- the one that is kept at a mark, whatever is read beyond the marks
pub kept_at : {X : Type 0} (xs : List (Option X)) (i j : ℕ) (o d : Option X) → i < length xs → j ≡ i → o ≡ get_or xs i d → get_or xs j None ≡ o
kept_at [] i j o d w e h = absurd (omega arith)
kept_at (y ∷ xs) zero zero o d w e h = sym h
kept_at (y ∷ xs) zero (suc j) o d w e h = absurd (omega (arith, e))
kept_at (y ∷ xs) (suc i) zero o d w e h = absurd (omega (arith, e))
kept_at (y ∷ xs) (suc i) (suc j) o d w e h = kept_at xs i j o d (omega arith) (omega (arith, e)) h
