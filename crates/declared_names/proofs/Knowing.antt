-- Names and what is known of them, one by one.
use Rattle.std.proofs.Common.{◌≡◌, ℕ, suc, ◌<◌, Bool, true, false, List, [], ◌∷◌, ◌++◌, Option, Some, None, length, get_or, refl, sym, ap, subst, ◌∙◌, arith}
use Rattle.std.proofs.lemmas.Slice.Eq.{bytes_eq-Decides}
use Rattle.std.specs.Option.{option_map}
use Rattle.std.specs.Str.{bytes_eq}
use Rattle.value_ops.specs.declared.places.Place.{Place}
use Rattle.algolw_tree.specs.Tree.{Placed}
use Rattle.algolw_typing.specs.Meanings.{a_control}
use Rattle.algolw_typing.specs.Names as names
use Rattle.algolw_typing.specs.Names.{in_scope}
use Rattle.algolw_typing.specs.Scopes as rules
use Rattle.name_scopes.specs.Firsts.{first_of}
use Rattle.declared_names.specs.KnownView.{entry_with, entries_of, facts_view}
use Rattle.declared_names.specs.declared.known.Facts.{Facts}

abbrev pub Entries : Type 0
Entries = List (names.Entry rules.Known)

-- a name more, and what is known of it
pub one_more : (xs : List Placed) (fs : List Facts) (x : Placed) (f : Facts) → length fs ≡ length xs → entries_of (xs ++ x ∷ []) (fs ++ f ∷ []) ≡ entries_of xs fs ++ entry_with x (facts_view f) ∷ []
one_more [] [] x f h = refl
one_more [] (g ∷ fs) x f h = absurd (omega arith)
one_more (y ∷ xs) [] x f h = absurd (omega arith)
one_more (y ∷ xs) (g ∷ fs) x f h = ap (λ (es : Entries). entry_with y (facts_view g) ∷ es) (one_more xs fs x f (omega arith))

no_first : (same : Bool) (r : Option ℕ) (e : names.Entry rules.Known) (o : Option (names.Entry rules.Known)) → (elim same as (λ b. Option ℕ) [ true ↦ Some 0 | false ↦ option_map suc r ]) ≡ None → (r ≡ None → o ≡ None) → (elim same as (λ b. Option (names.Entry rules.Known)) [ true ↦ Some e | false ↦ o ]) ≡ None
no_first true r e o h k = cc
no_first false None e o h k = k refl
no_first false (Some n) e o h k = cc

-- a name that isn't there
pub absent : (xs : List Placed) (fs : List Facts) (q : List ℕ) → first_of xs q ≡ None → in_scope (entries_of xs fs) q ≡ None
absent [] fs q h = refl
absent (x ∷ xs) [] q h = refl
absent (x ∷ xs) (f ∷ fs) q h = no_first (bytes_eq x.0 q) (first_of xs q) (entry_with x (facts_view f)) (in_scope (entries_of xs fs) q) h (absent xs fs q)

-- what is known of a name that is there
abbrev pub Is : List Placed → List Facts → List ℕ → Option (names.Entry rules.Known) → ℕ → Placed → Facts → Type 0
Is xs fs q o p e d = (p < length fs) × (o ≡ Some (entry_with (q, (get_or xs p e).1) (facts_view (get_or fs p d))))

found_here : (x : Placed) (xs : List Placed) (f : Facts) (fs : List Facts) (q : List ℕ) (p : ℕ) (e : Placed) (d : Facts) → x.0 ≡ q → Some 0 ≡ Some p → Is (x ∷ xs) (f ∷ fs) q (Some (entry_with x (facts_view f))) p e d
found_here x xs f fs q p e d same h =
    let at_once : 0 ≡ p = cc in
    subst (λ (n : ℕ). Is (x ∷ xs) (f ∷ fs) q (Some (entry_with x (facts_view f))) n e d) at_once (omega arith, ap {B = Option (names.Entry rules.Known)} (λ (y : List ℕ). Some (entry_with (y, x.1) (facts_view f))) same)

found_later : (x : Placed) (xs : List Placed) (f : Facts) (fs : List Facts) (q : List ℕ) (m p : ℕ) (e : Placed) (d : Facts) (o : Option (names.Entry rules.Known)) → Some (suc m) ≡ Some p → Is xs fs q o m e d → Is (x ∷ xs) (f ∷ fs) q o p e d
found_later x xs f fs q m p e d o h i = let next : suc m ≡ p = cc in subst (λ (n : ℕ). Is (x ∷ xs) (f ∷ fs) q o n e d) next (omega (arith, i.0), i.1)

found_by : (same : Bool) (x : Placed) (xs : List Placed) (f : Facts) (fs : List Facts) (q : List ℕ) (r : Option ℕ) (o : Option (names.Entry rules.Known)) (p : ℕ) (e : Placed) (d : Facts) → (same ≡ true → x.0 ≡ q)
    → (elim same as (λ b. Option ℕ) [ true ↦ Some 0 | false ↦ option_map suc r ]) ≡ Some p → ((m : ℕ) → r ≡ Some m → Is xs fs q o m e d)
    → Is (x ∷ xs) (f ∷ fs) q (elim same as (λ b. Option (names.Entry rules.Known)) [ true ↦ Some (entry_with x (facts_view f)) | false ↦ o ]) p e d
found_by true x xs f fs q r o p e d s h i = found_here x xs f fs q p e d (s refl) h
found_by false x xs f fs q None o p e d s h i = cc
found_by false x xs f fs q (Some m) o p e d s h i = found_later x xs f fs q m p e d o h (i m refl)

pub found : (xs : List Placed) (fs : List Facts) (q : List ℕ) (p : ℕ) (e : Placed) (d : Facts) → length fs ≡ length xs → first_of xs q ≡ Some p → Is xs fs q (in_scope (entries_of xs fs) q) p e d
found [] fs q p e d n h = cc
found (x ∷ xs) [] q p e d n h = absurd (omega arith)
found (x ∷ xs) (f ∷ fs) q p e d n h = found_by (bytes_eq x.0 q) x xs f fs q (first_of xs q) (in_scope (entries_of xs fs) q) p e d (bytes_eq-Decides x.0 q).0 h (λ m s. found xs fs q m e d (omega arith) s)

-- one entry by its parts
pub entry_is : (q : List ℕ) (p r : Place) (k l : rules.Known) → p ≡ r → k ≡ l → Some (entry_with (q, p) k) ≡ Some (entry_with (q, r) l)
entry_is q p r k l e f = ap {B = Option (names.Entry rules.Known)} (λ (z : Place). Some (entry_with (q, z) k)) e ∙ ap {B = Option (names.Entry rules.Known)} (λ (z : rules.Known). Some (entry_with (q, r) z)) f

-- a control name that is this name
pub control_found : (x q : List ℕ) (p : Place) → bytes_eq x q ≡ true → Some (rules.entry (q, p) (Some a_control)) ≡ in_scope (rules.control_scope p x) q
control_found x q p same = rw (same, in_scope) (ap {B = Option (names.Entry rules.Known)} (λ (y : List ℕ). Some (rules.entry (y, p) (Some a_control))) (sym ((bytes_eq-Decides x q).0 same)))

-- and one that isn't
pub control_passed : (x q : List ℕ) (p : Place) → bytes_eq x q ≡ false → in_scope (rules.control_scope p x) q ≡ None
control_passed x q p other = rw (other, in_scope) refl
