-- Names that a scope declares a second time, one by one.
use Rattle.std.proofs.Common.{◌≡◌, ℕ, zero, suc, ◌+◌, ◌<◌, Bool, true, false, cond, List, [], ◌∷◌, ◌++◌, Option, Some, None, length, get_or, take, drop, refl, sym, ap, ◌∙◌, append_assoc, arith, drop-cons, add-one}
use Rattle.std.proofs.lemmas.List.{take_more}
use Rattle.std.specs.Option.{is_some}
use Rattle.std.specs.Str.{bytes_eq}
use Rattle.std.specs.Bool.{⊤}
use Rattle.value_ops.specs.declared.places.Place.{Place}
use Rattle.value_ops.specs.declared.places.Diagnostic.{Diagnostic}
use Rattle.algolw_tree.specs.Tree.{Placed}
use Rattle.algolw_typing.specs.Names as names
use Rattle.algolw_typing.specs.Names.{in_scope}
use Rattle.algolw_typing.specs.Naming.{scope_of}
use Rattle.algolw_typing.specs.Scopes as rules
use Rattle.algolw_typing.specs.Verdicts.{diagnostic}
use Rattle.declared_names.specs.KnownView.{entry_with, entries_of, facts_view}
use Rattle.declared_names.specs.Seconds.{second_fault}
use Rattle.declared_names.specs.declared.known.Facts.{Facts}
use Rattle.declared_names.proofs.Knowing.{Entries}

abbrev pub Entry : Type 0
Entry = names.Entry rules.Known

-- as many entries as names
pub as_many : (xs : List Placed) (ks : List Facts) → length ks ≡ length xs → length (entries_of xs ks) ≡ length xs
as_many [] ks h = refl
as_many (x ∷ xs) [] h = absurd (omega arith)
as_many (x ∷ xs) (k ∷ ks) h = ap suc (as_many xs ks (omega arith))

-- the name and the place of the entry at a position
entry_at : (xs : List Placed) (ks : List Facts) (i : ℕ) (x : Placed) (e : Entry) → length ks ≡ length xs → i < length xs → x ≡ get_or xs i x → let d = get_or (entries_of xs ks) i e in (d.name, d.place) ≡ x
entry_at [] ks i x e n l p = absurd (omega arith)
entry_at (y ∷ xs) [] i x e n l p = absurd (omega arith)
entry_at (y ∷ xs) (k ∷ ks) zero x e n l p = sym p
entry_at (y ∷ xs) (k ∷ ks) (suc i) x e n l p = entry_at xs ks i x e (omega arith) (omega arith) p

alike_by : (same : Bool) (e : Entry) (d : names.Entry ⊤) (o : Option Entry) (p : Option (names.Entry ⊤)) → is_some o ≡ is_some p
    → is_some (elim same as (λ b. Option Entry) [ true ↦ Some e | false ↦ o ]) ≡ is_some (elim same as (λ b. Option (names.Entry ⊤)) [ true ↦ Some d | false ↦ p ])
alike_by true e d o p h = refl
alike_by false e d o p h = h

-- the names alone say what is declared before
before_alike : (xs : List Placed) (ks : List Facts) (i : ℕ) (q : List ℕ) → length ks ≡ length xs → is_some (in_scope (take i (entries_of xs ks)) q) ≡ is_some (in_scope (scope_of (take i xs)) q)
before_alike xs ks zero q h = refl
before_alike [] ks (suc i) q h = refl
before_alike (x ∷ xs) [] (suc i) q h = absurd (omega arith)
before_alike (x ∷ xs) (k ∷ ks) (suc i) q h =
    alike_by (bytes_eq x.0 q) (entry_with x (facts_view k)) (record { name = x.0; place = x.1; is = tt }) (in_scope (take i (entries_of xs ks)) q) (in_scope (scope_of (take i xs)) q) (before_alike xs ks i q (omega arith))

second_by : (before : Bool) (p : Place) (o : Option Entry) → before ≡ is_some o → second_fault (cond before (Some p) None) ≡ (elim o as (λ b. List Diagnostic) [ None ↦ [] | Some d ↦ diagnostic 31 p ])
second_by true p None h = cc
second_by false p None h = refl
second_by true p (Some d) h = refl
second_by false p (Some d) h = cc

-- the fault of a name that is declared before
abbrev pub fault_of : List Entry → Placed → List Diagnostic
fault_of before x = elim (in_scope before x.0) as (λ b. List Diagnostic) [ None ↦ [] | Some d ↦ diagnostic 31 x.1 ]

-- whether the name at a position is declared before
pub second_is : (xs : List Placed) (ks : List Facts) (i : ℕ) (x : Placed) (before : Bool) → length ks ≡ length xs → i < length xs → x ≡ get_or xs i x
    → before ≡ is_some (in_scope (scope_of (take i xs)) x.0) → (e : Entry) → second_fault (cond before (Some x.1) None) ≡ rules.again (take i (entries_of xs ks)) (get_or (entries_of xs ks) i e)
second_is xs ks i x before n l p b e =
    second_by before x.1 (in_scope (take i (entries_of xs ks)) x.0) (b ∙ sym (before_alike xs ks i x.0 n))
    ∙ ap (fault_of (take i (entries_of xs ks))) (sym (entry_at xs ks i x e n l p))

next : (scope : Entries) (i : ℕ) (e : Entry) (fs : List Diagnostic) → i < length scope → fs ≡ rules.again (take i scope) (get_or scope i e)
    → rules.twice (take i scope) (drop i scope) ≡ fs ++ rules.twice (take (i + 1) scope) (drop (i + 1) scope)
next scope i e fs l h =
    let left : drop i scope ≡ get_or scope i e ∷ drop (i + 1) scope = drop-cons scope i e l ∙ ap (λ j. get_or scope i e ∷ drop j scope) (sym (add-one i)) in
    let done : take (i + 1) scope ≡ take i scope ++ get_or scope i e ∷ [] = take_more scope i e l in
    ap (rules.twice (take i scope)) left
    ∙ ap (λ (gs : List Diagnostic). gs ++ rules.twice (take i scope ++ get_or scope i e ∷ []) (drop (i + 1) scope)) (sym h)
    ∙ ap (λ (before : Entries). fs ++ rules.twice before (drop (i + 1) scope)) (sym done)

-- one name of them
pub twice_next : (scope : Entries) (i : ℕ) (fs : List Diagnostic) → i < length scope → ((e : Entry) → fs ≡ rules.again (take i scope) (get_or scope i e))
    → rules.twice (take i scope) (drop i scope) ≡ fs ++ rules.twice (take (i + 1) scope) (drop (i + 1) scope)
twice_next [] i fs l h = absurd (omega arith)
twice_next (e ∷ scope) i fs l h = next (e ∷ scope) i e fs l (h e)

-- what is found moves from what is left to what is done
pub carried : (before after fs left rest all : List Diagnostic) → after ≡ before ++ fs → left ≡ fs ++ rest → before ++ left ≡ all → after ++ rest ≡ all
carried before after fs left rest all h k i = ap (λ (gs : List Diagnostic). gs ++ rest) h ∙ append_assoc before fs rest ∙ ap (λ (gs : List Diagnostic). before ++ gs) (sym k) ∙ i
