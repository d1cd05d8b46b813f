-- Along a path each name has a place among the names of the program, and each class a place among its classes.
use Rattle.std.proofs.Common.{◌≡◌, refl, sym, subst, ℕ, List, [], ◌∷◌, ◌++◌, Option, Some, None, Bool, true, false}
use Rattle.std.specs.Prelude.{⊤}
use Rattle.std.specs.Str.{bytes_eq}
use Rattle.value_ops.specs.declared.places.Place.{Place}
use Rattle.algolw_tree.specs.Tree.{Placed, TypeSpec}
use Rattle.algolw_tree.specs.Tree as tree
use Rattle.algolw_typing.specs.Names.{Entry, Scope, Path, declared, in_scope, or_else}
use Rattle.algolw_typing.specs.Types.{has}
use Rattle.algolw_typing.specs.Scopes.{Known, Scopes, class_fault, class_faults, spec_faults, spec_type, result_faults, result_type, with_declared, class_set}
use Rattle.algolw_typing.specs.Naming.{Class, Naming, and, Frame, infos, NamePath, scope_of, placed_of}
use Rattle.algolw_typing.specs.Known.{AllHad, KnowsType, KnowsResult, ClassesKnow}
use Rattle.algolw_typing.proofs.GoodScopes.{NoFaults, none_two}
use Rattle.algolw_typing.proofs.KnownTypes.{with_class_had}
use Rattle.algolw_typing.proofs.KnownNames.{FoundIs, MeansKnown}

-- ---- what is known of a naming: its names and classes are among those of the program

abbrev pub EachHad : {A : Type 0} → (A → Place) → (places : List Place) → List A → Type 0
EachHad place places [] = ⊤
EachHad place places (a ∷ as_) = (has places (place a) ≡ true) × EachHad place places as_

abbrev pub PlacesHad : (names : List Place) → List Placed → Type 0
PlacesHad names xs = EachHad (λ x. x.1) names xs

pub record Within (names classes : List Place) (n : Naming) : Type 0 where
  pub named : EachHad (λ i. i.place) names n.names
  pub classed : EachHad (λ c. c.place) classes n.classes

each_two : {A : Type 0} (place : A → Place) (places : List Place) (as_ bs : List A) → EachHad place places (as_ ++ bs) → EachHad place places as_ × EachHad place places bs
each_two place places [] bs h = (tt, h)
each_two place places (a ∷ as_) bs h = let more = each_two place places as_ bs h.1 in ((h.0, more.0), more.1)

pub places_two : (names : List Place) (xs ys : List Placed) → PlacesHad names (xs ++ ys) → PlacesHad names xs × PlacesHad names ys
places_two names xs ys h = each_two (λ x. x.1) names xs ys h

pub within_first : {names classes : List Place} (a b : Naming) → Within names classes (and a b) → Within names classes a
within_first {names = names} {classes = classes} a b w = record { named = (each_two (λ i. i.place) names a.names b.names w.named).0; classed = (each_two (λ c. c.place) classes a.classes b.classes w.classed).0 }

pub within_second : {names classes : List Place} (a b : Naming) → Within names classes (and a b) → Within names classes b
within_second {names = names} {classes = classes} a b w = record { named = (each_two (λ i. i.place) names a.names b.names w.named).1; classed = (each_two (λ c. c.place) classes a.classes b.classes w.classed).1 }

pub infos_places : (names : List Place) (frame : Frame) (xs : List Placed) → EachHad (λ i. i.place) names (infos frame xs) → PlacesHad names xs
infos_places names frame [] h = tt
infos_places names frame (x ∷ xs) h = (h.0, infos_places names _ xs h.1)

pub classes_both : (classes : List Place) (a b : List Class) → ClassesKnow classes a → ClassesKnow classes b → ClassesKnow classes (a ++ b)
classes_both classes [] b h k = k
classes_both classes (c ∷ a) b h k = (h.0, classes_both classes a b h.1 k)

-- ---- entries of scopes

abbrev pub ClassHad : (classes : List Place) → Bool → Place → Type 0
ClassHad classes true p = has classes p ≡ true
ClassHad classes false p = ⊤

abbrev pub IsHad : (names : List Place) → Entry Known → Type 0
IsHad names e = has names e.place ≡ true

abbrev pub ClassKnown : (classes : List Place) → Entry Known → Type 0
ClassKnown classes e = ClassHad classes e.is.is_class e.place

abbrev pub AllEntries : (Entry Known → Type 0) → Scope Known → Type 0
AllEntries P [] = ⊤
AllEntries P (e ∷ scope) = P e × AllEntries P scope

pub all_entries_both : (P : Entry Known → Type 0) (a b : Scope Known) → AllEntries P a → AllEntries P b → AllEntries P (a ++ b)
all_entries_both P [] b h k = k
all_entries_both P (e ∷ a) b h k = (h.0, all_entries_both P a b h.1 k)

entries_had : (names : List Place) (scope : Scope Known) → PlacesHad names (placed_of scope) → AllEntries (IsHad names) scope
entries_had names [] h = tt
entries_had names (e ∷ scope) h = (h.0, entries_had names scope h.1)

found_case : (P : Entry Known → Type 0) (b : Bool) (e : Entry Known) (other : Option (Entry Known)) → P e → FoundIs P other → FoundIs P (elim b [ true ↦ Some e | false ↦ other ])
found_case P true e other h k = h
found_case P false e other h k = k

found_in_scope : (P : Entry Known → Type 0) (scope : Scope Known) (x : List ℕ) → AllEntries P scope → FoundIs P (in_scope scope x)
found_in_scope P [] x h = tt
found_in_scope P (e ∷ scope) x h = found_case P (bytes_eq e.name x) e (in_scope scope x) h.0 (found_in_scope P scope x h.1)

found_either : (P : Entry Known → Type 0) (a b : Option (Entry Known)) → FoundIs P a → FoundIs P b → FoundIs P (or_else a b)
found_either P None b h k = k
found_either P (Some e) b h k = h

pub found_is : (P : Entry Known → Type 0) (scope : Scope Known) (path : Scopes) (x : List ℕ) → AllEntries P scope → FoundIs P (declared path x) → FoundIs P (declared (scope ∷ path) x)
found_is P scope path x h k = found_either P (in_scope scope x) (declared path x) (found_in_scope P scope x h) k

-- ---- a path of names alone beside one of names with their meanings

abbrev pub found_at : {A : Type 0} → Option (Entry A) → Option Place
found_at None = None
found_at (Some e) = Some e.place

at_case : {A B : Type 0} (b : Bool) (p : Place) (x : List ℕ) (i : A) (j : B) (d : Option (Entry A)) (e : Option (Entry B)) → found_at d ≡ found_at e
    → found_at (elim b [ true ↦ Some (record { name = x; place = p; is = i }) | false ↦ d ]) ≡ found_at (elim b [ true ↦ Some (record { name = x; place = p; is = j }) | false ↦ e ])
at_case true p x i j d e h = refl
at_case false p x i j d e h = h

at_in_scope : (scope : Scope Known) (x : List ℕ) → found_at (in_scope (scope_of (placed_of scope)) x) ≡ found_at (in_scope scope x)
at_in_scope [] x = refl
at_in_scope (e ∷ scope) x = at_case (bytes_eq e.name x) e.place e.name tt e.is (in_scope (scope_of (placed_of scope)) x) (in_scope scope x) (at_in_scope scope x)

at_either : {A B : Type 0} (a c : Option (Entry A)) (b d : Option (Entry B)) → found_at a ≡ found_at b → found_at c ≡ found_at d → found_at (or_else a c) ≡ found_at (or_else b d)
at_either None c None d h k = k
at_either None c (Some b) d h k = cc
at_either (Some a) c None d h k = cc
at_either (Some a) c (Some b) d h k = h

-- What is known of the two paths to a phrase: each name has one place along both, and what it has there is among the names and classes of the program.
pub record Around (names classes : List Place) (outside : NamePath) (path : Scopes) : Type 0 where
  pub alike : (x : List ℕ) → found_at (declared outside x) ≡ found_at (declared path x)
  pub had : (x : List ℕ) → FoundIs (IsHad names) (declared path x)
  pub class : (x : List ℕ) → FoundIs (ClassKnown classes) (declared path x)
  pub means : (x : List ℕ) → FoundIs (MeansKnown classes) (declared path x)

pub around_none : {names classes : List Place} → Around names classes [] []
around_none = record { alike = λ x. refl; had = λ x. tt; class = λ x. tt; means = λ x. tt }

pub around_scope : {names classes : List Place} {outside : NamePath} {path : Scopes} (xs : List Placed) (scope : Scope Known) → xs ≡ placed_of scope → PlacesHad names xs → AllEntries (ClassKnown classes) scope → AllEntries (MeansKnown classes) scope
    → Around names classes outside path → Around names classes (scope_of xs ∷ outside) (scope ∷ path)
around_scope {names = names} {classes = classes} {outside = outside} {path = path} xs scope e h c m w = record {
  alike = λ x. at_either (in_scope (scope_of xs) x) (declared outside x) (in_scope scope x) (declared path x) (subst (λ ys. found_at (in_scope (scope_of ys) x) ≡ found_at (in_scope scope x)) (sym e) (at_in_scope scope x)) (w.alike x);
  had = λ x. found_is (IsHad names) scope path x (entries_had names scope (subst (PlacesHad names) e h)) (w.had x);
  class = λ x. found_is (ClassKnown classes) scope path x c (w.class x);
  means = λ x. found_is (MeansKnown classes) scope path x m (w.means x);
}

-- ---- types as they are written

some_case : {A : Type 0} (classes : List Place) (x : Placed) (d : Option (Entry A)) (name : List ℕ) (p : Place) (is : Known) (c : Bool) (set : List Place) → found_at d ≡ Some p → ClassHad classes c p
    → NoFaults (elim c [ true ↦ [] | false ↦ record { place = x.1; number = 33 } ∷ [] ]) → AllHad classes set → AllHad classes (with_declared d set)
some_case classes x None name p is c set e k h more = cc
some_case classes x (Some d) name p is false set e k h more = absurd h
some_case classes x (Some d) name p is true set e k h more = let same : p ≡ d.place = cc in with_class_had classes d.place set (subst (λ q. has classes q ≡ true) same k) more

class_case : {A : Type 0} (classes : List Place) (x : Placed) (d : Option (Entry A)) (e : Option (Entry Known)) (set : List Place) → found_at d ≡ found_at e → FoundIs (ClassKnown classes) e → NoFaults (class_fault x e) → AllHad classes set → AllHad classes (with_declared d set)
class_case classes x d None set s k h more = absurd h
class_case classes x d (Some e) set s k h more = some_case classes x d e.name e.place e.is e.is.is_class set s k h more

-- classes that are read along one path, and found alike along another
pub record Reads {A : Type 0} (classes : List Place) (other : Path A) (path : Scopes) : Type 0 where
  pub alike : (x : List ℕ) → found_at (declared other x) ≡ found_at (declared path x)
  pub class : (x : List ℕ) → FoundIs (ClassKnown classes) (declared path x)

pub reads_names : {names classes : List Place} {outside : NamePath} {path : Scopes} → Around names classes outside path → Reads classes outside path
reads_names w = record { alike = w.alike; class = w.class }

pub reads_known : {names classes : List Place} {outside : NamePath} {path : Scopes} → Around names classes outside path → Reads classes path path
reads_known w = record { alike = λ x. refl; class = w.class }

-- along the names of a block themselves
pub reads_block : {names classes : List Place} {outside : NamePath} {path : Scopes} (scope : Scope Known) → AllEntries (ClassKnown classes) scope → Around names classes outside path → Reads classes (scope ∷ path) (scope ∷ path)
reads_block {classes = classes} {path = path} scope h w = record { alike = λ x. refl; class = λ x. found_is (ClassKnown classes) scope path x h (w.class x) }

pub set_known : {A : Type 0} (classes : List Place) (other : Path A) (path : Scopes) (xs : List Placed) → Reads classes other path → NoFaults (class_faults path xs) → AllHad classes (class_set other xs)
set_known classes other path [] r h = tt
set_known classes other path (x ∷ xs) r h =
    let none = none_two (class_fault x (declared path x.0)) (class_faults path xs) h in
    class_case classes x (declared other x.0) (declared path x.0) (class_set other xs) (r.alike x.0) (r.class x.0) none.0 (set_known classes other path xs r none.1)

pub spec_known : {A : Type 0} (classes : List Place) (other : Path A) (path : Scopes) (spec : TypeSpec) → Reads classes other path → NoFaults (spec_faults path spec) → KnowsType classes (spec_type other spec)
spec_known classes other path tree.Integer r h = tt
spec_known classes other path tree.Logical r h = tt
spec_known classes other path (tree.Bits n) r h = tt
spec_known classes other path (tree.Str None) r h = tt
spec_known classes other path (tree.Str (Some n)) r h = tt
spec_known classes other path (tree.Reference xs) r h = set_known classes other path xs r h

pub result_known : (classes : List Place) (path : Scopes) (spec : Option TypeSpec) → Reads classes path path → NoFaults (result_faults path spec) → KnowsResult classes (result_type path spec)
result_known classes path None r h = tt
result_known classes path (Some spec) r h = spec_known classes path path spec r h
