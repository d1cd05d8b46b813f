-- The declaration that a path has for a name: the function and the relation agree.
use Rattle.std.proofs.Common.{◌≡◌, ℕ, List, [], ◌∷◌, Option, Some, None, Bool, true, false, refl, sym, ap, ◌∙◌, subst, inl, inr, ◌⊎◌}
use Rattle.std.specs.Str.{bytes_eq}
use Rattle.std.specs.Cmp.Lexicographic.{bytes_decides, same_text, other_text}
use Rattle.algolw_typing.specs.Names.{Entry, Scope, First, here, later, Lacks, none, more, Declares, own, outer, in_scope, or_else, declared}
use Rattle.algolw_typing.specs.Scopes.{Known, Scopes}
use Rattle.algolw_typing.specs.Laws.{OneDeclaration}

-- what the test of two names tells
name_tells : (x y : List ℕ) → ((bytes_eq x y ≡ true) × (x ≡ y)) ⊎ ((bytes_eq x y ≡ false) × (x ≡ y → ⊥))
name_tells x y = by (bytes_eq x y) refl
  where
    by : (t : Bool) → bytes_eq x y ≡ t → ((bytes_eq x y ≡ true) × (x ≡ y)) ⊎ ((bytes_eq x y ≡ false) × (x ≡ y → ⊥))
    by true e = inl (e, same_text x y (sym e))
    by false e = inr (e, other_text x y (sym e))

-- one scope: the first of a name, or none
scope_found : (s : Scope Known) (x : List ℕ) (e : Entry Known) → in_scope s x ≡ Some e → First x e s
scope_found [] x e h = cc
scope_found (d ∷ s) x e h = elim (name_tells d.name x) [ inl p ↦ (let g = rw (p.0, in_scope) at h in let q : d ≡ e = cc in subst (λ (z : Entry Known). First x z (d ∷ s)) q (here p.1)) | inr p ↦ later p.1 (scope_found s x e (rw (p.0, in_scope) at h)) ]

scope_lacks : (s : Scope Known) (x : List ℕ) → in_scope s x ≡ None → Lacks x s
scope_lacks [] x h = none
scope_lacks (d ∷ s) x h = elim (name_tells d.name x) [ inl p ↦ (let g = rw (p.0, in_scope) at h in cc) | inr p ↦ more p.1 (scope_lacks s x (rw (p.0, in_scope) at h)) ]

same_name : (x y : List ℕ) → x ≡ y → bytes_eq x y ≡ true
same_name x y h = (bytes_decides x y).1 h

first_gives : (s : Scope Known) (x : List ℕ) (e : Entry Known) → First x e s → in_scope s x ≡ Some e
first_gives [] x e f = elim f [ ]
first_gives (d ∷ s) x e (here p) = rw (same_name d.name x p, in_scope) refl
first_gives (d ∷ s) x e (later n f) = elim (name_tells d.name x) [ inl p ↦ absurd (n p.1) | inr p ↦ rw (p.0, in_scope) (first_gives s x e f) ]

lacks_gives : (s : Scope Known) (x : List ℕ) → Lacks x s → in_scope s x ≡ None
lacks_gives [] x l = refl
lacks_gives (d ∷ s) x (more n l) = elim (name_tells d.name x) [ inl p ↦ absurd (n p.1) | inr p ↦ rw (p.0, in_scope) (lacks_gives s x l) ]

-- a path: its innermost scope, or the others
step : (o : Option (Entry Known)) (s : Scope Known) (path : Scopes) (x : List ℕ) (e : Entry Known) → in_scope s x ≡ o → (declared path x ≡ Some e → Declares x e path) → or_else o (declared path x) ≡ Some e → Declares x e (s ∷ path)
step (Some d) s path x e h k g = own (scope_found s x e (h ∙ g))
step None s path x e h k g = outer (scope_lacks s x h) (k g)

found : (path : Scopes) (x : List ℕ) (e : Entry Known) → declared path x ≡ Some e → Declares x e path
found [] x e h = cc
found (s ∷ path) x e h = step (in_scope s x) s path x e refl (found path x e) h

given : (path : Scopes) (x : List ℕ) (e : Entry Known) → Declares x e path → declared path x ≡ Some e
given [] x e d = elim d [ ]
given (s ∷ path) x e (own f) = ap (λ o. or_else o (declared path x)) (first_gives s x e f)
given (s ∷ path) x e (outer l d) = ap (λ o. or_else o (declared path x)) (lacks_gives s x l) ∙ given path x e d

at_most_one : (path : Scopes) (x : List ℕ) (e f : Entry Known) → Declares x e path → Declares x f path → e ≡ f
at_most_one path x e f d g = let h = given path x e d in let k = given path x f g in cc

pub declared_once : OneDeclaration
declared_once = record { found = found; gives = given; one = at_most_one }
