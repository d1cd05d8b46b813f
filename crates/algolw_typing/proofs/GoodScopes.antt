-- Where declarations have no faults, each of their names means something, and the list behind it is read as its meaning wants.
use Rattle.std.proofs.Common.{◌≡◌, refl, ℕ, suc, List, [], ◌∷◌, ◌++◌, Option, Some, None, Bool, true, false}
use Rattle.std.specs.Prelude.{⊤}
use Rattle.std.specs.Str.{bytes_eq}
use Rattle.value_ops.specs.declared.places.Place.{Place}
use Rattle.value_ops.specs.declared.places.Diagnostic.{Diagnostic}
use Rattle.algolw_tree.specs.Tree.{Placed, TypeSpec, Formal, ClassDecl, Items, no_items, item_and, Labelled}
use Rattle.algolw_tree.specs.Tree as tree
use Rattle.algolw_tree.specs.Standards.{StandardNames, standard_table}
use Rattle.algolw_typing.specs.Names.{Entry, Scope, declared, in_scope, or_else}
use Rattle.algolw_typing.specs.Meanings.{Meaning, a_class, a_field, a_label, FormalType, by_name, by_value, by_result, by_value_result, for_array, for_procedure}
use Rattle.algolw_typing.specs.Actuals.{Reading, as_phrases}
use Rattle.algolw_typing.specs.Scopes.{Known, Scopes, known, class_entry, entries, class_fault, class_faults, spec_faults, spec_type, result_faults, result_type, good, formal_fault, formal_faults, formal_type, formal_meaning, formal_reading, formal_entries, formal_scope, group_faults, field_entries, field_types, class_entries, group_names, label_entries, without_twice, control_scope, standard_entries, standard_scope}
use Rattle.algolw_typing.proofs.DecidedNames.{Agrees}

-- ---- no faults

abbrev pub NoFaults : List Diagnostic → Type 0
NoFaults [] = ⊤
NoFaults (f ∷ faults) = ⊥

pub none_first : (a b : List Diagnostic) → NoFaults (a ++ b) → NoFaults a
none_first [] b h = tt
none_first (f ∷ a) b h = absurd h

pub none_second : (a b : List Diagnostic) → NoFaults (a ++ b) → NoFaults b
none_second [] b h = h
none_second (f ∷ a) b h = absurd h

pub none_two : (a b : List Diagnostic) → NoFaults (a ++ b) → NoFaults a × NoFaults b
none_two a b h = (none_first a b h, none_second a b h)

pub none_three : (a b c : List Diagnostic) → NoFaults (a ++ b ++ c) → NoFaults a × NoFaults b × NoFaults c
none_three a b c h = let both = none_two a b (none_first (a ++ b) c h) in (both.0, both.1, none_second (a ++ b) c h)

pub none_four : (a b c d : List Diagnostic) → NoFaults (a ++ b ++ c ++ d) → NoFaults a × NoFaults b × NoFaults c × NoFaults d
none_four a b c d h = let three = none_three a b c (none_first (a ++ b ++ c) d h) in (three.0, three.1, three.2, none_second (a ++ b ++ c) d h)

pub none_both : (a b : List Diagnostic) → NoFaults a → NoFaults b → NoFaults (a ++ b)
none_both [] b h k = k
none_both (f ∷ a) b h k = absurd h

pub none_twice : (a : List Diagnostic) → NoFaults a → NoFaults (without_twice a)
none_twice [] h = tt
none_twice (f ∷ a) h = absurd h

-- ---- scopes whose names all mean something

abbrev pub GoodMeans : Option Meaning → Reading → Type 0
GoodMeans None reading = ⊥
GoodMeans (Some m) reading = Agrees m reading

abbrev pub GoodScope : Scope Known → Type 0
GoodScope [] = ⊤
GoodScope (e ∷ scope) = GoodMeans e.is.means e.is.reading × GoodScope scope

abbrev pub GoodPath : Scopes → Type 0
GoodPath [] = ⊤
GoodPath (scope ∷ path) = GoodScope scope × GoodPath path

-- what is found in them, if anything, means something
abbrev pub GoodFound : Option (Entry Known) → Type 0
GoodFound None = ⊤
GoodFound (Some e) = GoodMeans e.is.means e.is.reading

found_case : (b : Bool) (e : Entry Known) (other : Option (Entry Known)) → GoodMeans e.is.means e.is.reading → GoodFound other → GoodFound (elim b [ true ↦ Some e | false ↦ other ])
found_case true e other h k = h
found_case false e other h k = k

found_in_scope : (scope : Scope Known) (x : List ℕ) → GoodScope scope → GoodFound (in_scope scope x)
found_in_scope [] x h = tt
found_in_scope (e ∷ scope) x h = found_case (bytes_eq e.name x) e (in_scope scope x) h.0 (found_in_scope scope x h.1)

found_either : (a b : Option (Entry Known)) → GoodFound a → GoodFound b → GoodFound (or_else a b)
found_either None b h k = k
found_either (Some e) b h k = h

pub found_good : (path : Scopes) (x : List ℕ) → GoodPath path → GoodFound (declared path x)
found_good [] x h = tt
found_good (scope ∷ path) x h = found_either (in_scope scope x) (declared path x) (found_in_scope scope x h.0) (found_good path x h.1)

-- ---- what declares such scopes

pub good_append : (a b : Scope Known) → GoodScope a → GoodScope b → GoodScope (a ++ b)
good_append [] b h k = k
good_append (e ∷ a) b h k = (h.0, good_append a b h.1 k)

pub good_means : (faults : List Diagnostic) (m : Meaning) (reading : Reading) → NoFaults faults → Agrees m reading → GoodMeans (good faults m) reading
good_means [] m reading h a = a
good_means (f ∷ faults) m reading h a = absurd h

pub good_entries : (xs : List Placed) (m : Option Meaning) → GoodMeans m as_phrases → GoodScope (entries xs m)
good_entries [] m h = tt
good_entries (x ∷ xs) m h = (h, good_entries xs m h)

pub good_labels : (items : Items) → GoodScope (label_entries items)
good_labels no_items = tt
good_labels (item_and (Labelled labels a) items) = good_append (entries labels (Some a_label)) (label_entries items) (good_entries labels (Some a_label) tt) (good_labels items)

good_formal_entries : (xs : List Placed) (reading : Reading) (m : Option Meaning) → GoodMeans m reading → GoodScope (formal_entries xs reading m)
good_formal_entries [] reading m h = tt
good_formal_entries (x ∷ xs) reading m h = (h, good_formal_entries xs reading m h)

formal_agrees : (f : FormalType) → Agrees (formal_meaning f) (formal_reading f)
formal_agrees (by_name t) = tt
formal_agrees (by_value t) = tt
formal_agrees (by_result t) = tt
formal_agrees (by_value_result t) = tt
formal_agrees (for_array t n) = tt
formal_agrees (for_procedure result) = tt

pub good_formals : (path : Scopes) (fs : List Formal) → NoFaults (formal_faults path fs) → GoodScope (formal_scope path fs)
good_formals path [] h = tt
good_formals path (f ∷ fs) h =
    let type = formal_type f.mode f.dimensions (result_type path f.spec) in
    let means = good (formal_fault path f) (formal_meaning type) in
    let one = good_means (formal_fault path f) (formal_meaning type) (formal_reading type) (none_first (formal_fault path f) (formal_faults path fs) h) (formal_agrees type) in
    good_append (formal_entries f.names (formal_reading type) means) (formal_scope path fs)
    (good_formal_entries f.names (formal_reading type) means one)
    (good_formals path fs (none_second (formal_fault path f) (formal_faults path fs) h))

good_fields : (path : Scopes) (faults : List Diagnostic) (c : Place) (groups : List (TypeSpec × List Placed)) → NoFaults faults → GoodScope (field_entries path faults c groups)
good_fields path faults c [] h = tt
good_fields path faults c (g ∷ groups) h =
    let m = a_field c (spec_type path g.0) in
    good_append (entries g.1 (good faults m)) (field_entries path faults c groups) (good_entries g.1 (good faults m) (good_means faults m as_phrases h tt)) (good_fields path faults c groups h)

pub good_class : (path : Scopes) (c : ClassDecl) → NoFaults (group_faults path c.groups) → GoodScope (class_entries path c)
good_class path c h = (good_means (group_faults path c.groups) (a_class (field_types path c.groups)) as_phrases h tt, good_fields path (group_faults path c.groups) c.name.1 c.groups h)

pub good_control : (p : Place) (x : List ℕ) → GoodScope (control_scope p x)
good_control p x = (tt, tt)

good_standards : (n : ℕ) (names : StandardNames) → GoodScope (standard_entries n names)
good_standards n [] = tt
good_standards n (x ∷ names) = (tt, good_standards (suc n) names)

pub good_standard : GoodPath (standard_scope ∷ [])
good_standard = (good_standards 1 standard_table, tt)

-- ---- Scopes that declare the same names, and the same classes among them, give the same faults of types.

pub data SameNames : Scope Known → Scope Known → Type 0 where
  no_names : SameNames [] []
  same_and : (x : Placed) (c : Bool) (r s : Reading) (m n : Option Meaning) {a b : Scope Known} → SameNames a b → SameNames (known x c r m ∷ a) (known x c s n ∷ b)

pub same_append : {a b : Scope Known} (c d : Scope Known) → SameNames a b → SameNames c d → SameNames (a ++ c) (b ++ d)
same_append c d no_names k = k
same_append c d (same_and x t r s m n {a = a} {b = b} h) k = same_and x t r s m n (same_append c d h k)

pub same_entries : (xs : List Placed) (m n : Option Meaning) → SameNames (entries xs m) (entries xs n)
same_entries [] m n = no_names
same_entries (x ∷ xs) m n = same_and x false as_phrases as_phrases m n (same_entries xs m n)

pub same_labels : (items : Items) → SameNames (label_entries items) (label_entries items)
same_labels no_items = no_names
same_labels (item_and (Labelled labels a) items) = same_append (label_entries items) (label_entries items) (same_entries labels (Some a_label) (Some a_label)) (same_labels items)

same_behind : (xs ys : List Placed) (m n : Option Meaning) (b : Scope Known) → SameNames (entries ys m) b → SameNames (entries (xs ++ ys) m) (entries xs n ++ b)
same_behind [] ys m n b h = h
same_behind (x ∷ xs) ys m n b h = same_and x false as_phrases as_phrases m n (same_behind xs ys m n b h)

same_fields : (path : Scopes) (faults : List Diagnostic) (c : Place) (groups : List (TypeSpec × List Placed)) → SameNames (entries (group_names groups) None) (field_entries path faults c groups)
same_fields path faults c [] = no_names
same_fields path faults c (g ∷ groups) = same_behind g.1 (group_names groups) None (good faults (a_field c (spec_type path g.0))) (field_entries path faults c groups) (same_fields path faults c groups)

pub same_class : (path : Scopes) (c : ClassDecl) → SameNames (class_entry c.name None ∷ entries (group_names c.groups) None) (class_entries path c)
same_class path c = same_and c.name true as_phrases as_phrases None (good (group_faults path c.groups) (a_class (field_types path c.groups))) (same_fields path (group_faults path c.groups) c.name.1 c.groups)

-- whether what is found is a class
abbrev class_of : Option (Entry Known) → Option Bool
class_of None = None
class_of (Some e) = Some e.is.is_class

class_case : (b : Bool) (x : Placed) (c : Bool) (r s : Reading) (m n : Option Meaning) (d e : Option (Entry Known)) → class_of d ≡ class_of e
    → class_of (elim b [ true ↦ Some (known x c r m) | false ↦ d ]) ≡ class_of (elim b [ true ↦ Some (known x c s n) | false ↦ e ])
class_case true x c r s m n d e h = refl
class_case false x c r s m n d e h = h

class_in_scope : {a b : Scope Known} (y : List ℕ) → SameNames a b → class_of (in_scope a y) ≡ class_of (in_scope b y)
class_in_scope y no_names = refl
class_in_scope y (same_and x c r s m n {a = a} {b = b} h) = class_case (bytes_eq x.0 y) x c r s m n (in_scope a y) (in_scope b y) (class_in_scope y h)

class_either : (d e other : Option (Entry Known)) → class_of d ≡ class_of e → class_of (or_else d other) ≡ class_of (or_else e other)
class_either None None other h = refl
class_either None (Some e) other h = cc
class_either (Some d) None other h = cc
class_either (Some d) (Some e) other h = h

class_fault_same : (x : Placed) (d e : Option (Entry Known)) → class_of d ≡ class_of e → class_fault x d ≡ class_fault x e
class_fault_same x None None h = refl
class_fault_same x None (Some e) h = cc
class_fault_same x (Some d) None h = cc
class_fault_same x (Some d) (Some e) h = by_class d.is.is_class e.is.is_class h
  where
    by_class : (b c : Bool) → Some b ≡ Some c → ◌≡◌ {A = List Diagnostic} (elim b [ true ↦ [] | false ↦ record { place = x.1; number = 33 } ∷ [] ]) (elim c [ true ↦ [] | false ↦ record { place = x.1; number = 33 } ∷ [] ])
    by_class true true k = refl
    by_class false false k = refl
    by_class true false k = cc
    by_class false true k = cc

class_faults_same : {a b : Scope Known} (path : Scopes) (xs : List Placed) → SameNames a b → class_faults (a ∷ path) xs ≡ class_faults (b ∷ path) xs
class_faults_same path [] h = refl
class_faults_same {a = a} {b = b} path (x ∷ xs) h =
    let one = class_fault_same x (declared (a ∷ path) x.0) (declared (b ∷ path) x.0) (class_either (in_scope a x.0) (in_scope b x.0) (declared path x.0) (class_in_scope x.0 h)) in
    let more = class_faults_same path xs h in
    cc

pub spec_faults_same : {a b : Scope Known} (path : Scopes) (spec : TypeSpec) → SameNames a b → spec_faults (a ∷ path) spec ≡ spec_faults (b ∷ path) spec
spec_faults_same path tree.Integer h = refl
spec_faults_same path tree.Logical h = refl
spec_faults_same path (tree.Bits None) h = refl
spec_faults_same path (tree.Bits (Some n)) h = refl
spec_faults_same path (tree.Str None) h = refl
spec_faults_same path (tree.Str (Some n)) h = refl
spec_faults_same path (tree.Reference xs) h = class_faults_same path xs h

pub result_faults_same : {a b : Scope Known} (path : Scopes) (spec : Option TypeSpec) → SameNames a b → result_faults (a ∷ path) spec ≡ result_faults (b ∷ path) spec
result_faults_same path None h = refl
result_faults_same path (Some spec) h = spec_faults_same path spec h

pub formal_faults_same : {a b : Scope Known} (path : Scopes) (fs : List Formal) → SameNames a b → formal_faults (a ∷ path) fs ≡ formal_faults (b ∷ path) fs
formal_faults_same path [] h = refl
formal_faults_same {a = a} {b = b} path (f ∷ fs) h =
    let one = result_faults_same path f.spec h in
    let more = formal_faults_same path fs h in
    cc

pub group_faults_same : {a b : Scope Known} (path : Scopes) (groups : List (TypeSpec × List Placed)) → SameNames a b → group_faults (a ∷ path) groups ≡ group_faults (b ∷ path) groups
group_faults_same path [] h = refl
group_faults_same {a = a} {b = b} path (g ∷ groups) h =
    let one = spec_faults_same path g.0 h in
    let more = group_faults_same path groups h in
    cc
