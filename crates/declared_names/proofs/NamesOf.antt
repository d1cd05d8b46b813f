-- The names of scopes, and what types are along them: what is known of a name beside them doesn't matter.
use Rattle.std.proofs.Common.{◌≡◌, ℕ, suc, Bool, true, false, List, [], ◌∷◌, ◌++◌, Option, Some, None, length, refl, sym, ap, ◌∙◌, arith}
use Rattle.std.specs.Str.{bytes_eq}
use Rattle.value_ops.specs.declared.places.Diagnostic.{Diagnostic}
use Rattle.value_ops.specs.declared.places.Place.{Place}
use Rattle.algolw_tree.specs.Tree as tree
use Rattle.algolw_tree.specs.Tree.{Placed, TypeSpec}
use Rattle.algolw_typing.specs.Actuals.{Reading}
use Rattle.algolw_typing.specs.Meanings.{Meaning, a_field, a_label}
use Rattle.algolw_typing.specs.Names.{Entry, Scope, declared, in_scope, or_else}
use Rattle.algolw_typing.specs.Naming.{placed_of, scope_of, decl_names, decls_names, label_names, block_names, formal_names}
use Rattle.algolw_typing.specs.Scopes.{Known, Scopes, class_entries, class_set, entries, field_entries, formal_entries, formal_fault, formal_meaning, formal_reading, formal_scope, formal_type, good, group_faults, group_names, label_entries, names_of_block, names_of_decl, names_of_decls, result_type, spec_type, with_declared}
use Rattle.algolw_typing.specs.Types.{ValueType, Reference, with_class}
use Rattle.algolw_typing.specs.Typing.{meanings, meanings_of}
use Rattle.declared_names.specs.KnownView.{entries_of}
use Rattle.declared_names.specs.NamesAlong.{names_along}
use Rattle.declared_names.specs.declared.known.Facts.{Facts}

-- ---- the names of a scope

pub names_with_facts : (xs : List Placed) (fs : List Facts) → length fs ≡ length xs → placed_of (entries_of xs fs) ≡ xs
names_with_facts [] fs h = refl
names_with_facts (x ∷ xs) [] h = absurd (omega arith)
names_with_facts (x ∷ xs) (f ∷ fs) h = ap (λ ys. x ∷ ys) (names_with_facts xs fs (omega arith))

placed_append : (a b : Scope Known) → placed_of (a ++ b) ≡ placed_of a ++ placed_of b
placed_append [] b = refl
placed_append (e ∷ a) b = ap (λ zs. (e.name, e.place) ∷ zs) (placed_append a b)

placed_both : (xs ys : List Placed) (a b : Scope Known) → placed_of a ≡ xs → placed_of b ≡ ys → placed_of (a ++ b) ≡ xs ++ ys
placed_both xs ys a b h k = placed_append a b ∙ (ap (λ zs. zs ++ placed_of b) h ∙ ap (λ zs. xs ++ zs) k)

placed_entries : (xs : List Placed) (m : Option Meaning) → placed_of (entries xs m) ≡ xs
placed_entries [] m = refl
placed_entries (x ∷ xs) m = ap (λ ys. x ∷ ys) (placed_entries xs m)

placed_formal_entries : (xs : List Placed) (r : Reading) (m : Option Meaning) → placed_of (formal_entries xs r m) ≡ xs
placed_formal_entries [] r m = refl
placed_formal_entries (x ∷ xs) r m = ap (λ ys. x ∷ ys) (placed_formal_entries xs r m)

placed_labels : (items : tree.Items) → placed_of (label_entries items) ≡ label_names items
placed_labels tree.no_items = refl
placed_labels (tree.item_and (tree.Labelled labels a) items) = placed_both labels (label_names items) (entries labels (Some a_label)) (label_entries items) (placed_entries labels (Some a_label)) (placed_labels items)

placed_fields : (path : Scopes) (faults : List Diagnostic) (c : Place) (groups : List (TypeSpec × List Placed)) → placed_of (field_entries path faults c groups) ≡ group_names groups
placed_fields path faults c [] = refl
placed_fields path faults c (g ∷ groups) =
    let m = good faults (a_field c (spec_type path g.0)) in
    placed_both g.1 (group_names groups) (entries g.1 m) (field_entries path faults c groups) (placed_entries g.1 m) (placed_fields path faults c groups)

placed_decl : (around path : Scopes) (d : tree.Decl) → placed_of (meanings_of around path d) ≡ decl_names d
placed_decl around path (tree.Simple spec xs) = placed_entries xs _
placed_decl around path (tree.Array spec xs _) = placed_entries xs _
placed_decl around path (tree.Proc p result x fs body) = refl
placed_decl around path (tree.Class c) = ap (λ ys. c.name ∷ ys) (placed_fields path (group_faults path c.groups) c.name.1 c.groups)

placed_decls : (around path : Scopes) (decls : tree.Decls) → placed_of (meanings around path decls) ≡ decls_names decls
placed_decls around path tree.no_decls = refl
placed_decls around path (tree.decl_and d decls) = placed_both (decl_names d) (decls_names decls) (meanings_of around path d) (meanings around path decls) (placed_decl around path d) (placed_decls around path decls)

named_decl : (d : tree.Decl) → placed_of (names_of_decl d) ≡ decl_names d
named_decl (tree.Simple spec xs) = placed_entries xs None
named_decl (tree.Array spec xs _) = placed_entries xs None
named_decl (tree.Proc p result x fs body) = refl
named_decl (tree.Class c) = ap (λ ys. c.name ∷ ys) (placed_entries (group_names c.groups) None)

named_decls : (decls : tree.Decls) → placed_of (names_of_decls decls) ≡ decls_names decls
named_decls tree.no_decls = refl
named_decls (tree.decl_and d decls) = placed_both (decl_names d) (decls_names decls) (names_of_decl d) (names_of_decls decls) (named_decl d) (named_decls decls)

-- of a block, before anything is known of what they mean, and behind that
pub named_block : (decls : tree.Decls) (items : tree.Items) → placed_of (names_of_block decls items) ≡ block_names decls items
named_block decls items = placed_both (decls_names decls) (label_names items) (names_of_decls decls) (label_entries items) (named_decls decls) (placed_labels items)

pub known_block : (around path : Scopes) (decls : tree.Decls) (items : tree.Items) → placed_of (meanings around path decls ++ label_entries items) ≡ block_names decls items
known_block around path decls items = placed_both (decls_names decls) (label_names items) (meanings around path decls) (label_entries items) (placed_decls around path decls) (placed_labels items)

pub named_formals : (path : Scopes) (fs : List tree.Formal) → placed_of (formal_scope path fs) ≡ formal_names fs
named_formals path [] = refl
named_formals path (f ∷ fs) =
    let type = formal_type f.mode f.dimensions (result_type path f.spec) in
    let r = formal_reading type in
    let m = good (formal_fault path f) (formal_meaning type) in
    placed_both f.names (formal_names fs) (formal_entries f.names r m) (formal_scope path fs) (placed_formal_entries f.names r m) (named_formals path fs)

-- ---- where a name is declared along a path, and along its names alone

abbrev at : {A : Type 0} → Option (Entry A) → Option Place
at None = None
at (Some e) = Some e.place

at_case : {A B : Type 0} (b : Bool) (p : Place) (x : List ℕ) (i : A) (j : B) (d : Option (Entry A)) (e : Option (Entry B)) → at d ≡ at e
    → at (elim b [ true ↦ Some (record { name = x; place = p; is = i }) | false ↦ d ]) ≡ at (elim b [ true ↦ Some (record { name = x; place = p; is = j }) | false ↦ e ])
at_case true p x i j d e h = refl
at_case false p x i j d e h = h

at_in_scope : (scope : Scope Known) (x : List ℕ) → at (in_scope (scope_of (placed_of scope)) x) ≡ at (in_scope scope x)
at_in_scope [] x = refl
at_in_scope (e ∷ scope) x = at_case (bytes_eq e.name x) e.place e.name tt e.is (in_scope (scope_of (placed_of scope)) x) (in_scope scope x) (at_in_scope scope x)

at_either : {A B : Type 0} (a c : Option (Entry A)) (b d : Option (Entry B)) → at a ≡ at b → at c ≡ at d → at (or_else a c) ≡ at (or_else b d)
at_either None c None d h k = k
at_either None c (Some b) d h k = cc
at_either (Some a) c None d h k = cc
at_either (Some a) c (Some b) d h k = h

at_along : (path : Scopes) (x : List ℕ) → at (declared (names_along path) x) ≡ at (declared path x)
at_along [] x = refl
at_along (scope ∷ path) x = at_either (in_scope (scope_of (placed_of scope)) x) (declared (names_along path) x) (in_scope scope x) (declared path x) (at_in_scope scope x) (at_along path x)

-- ---- types along a path, and along its names alone

with_alike : {A B : Type 0} (d : Option (Entry A)) (e : Option (Entry B)) (set : List Place) → at d ≡ at e → with_declared d set ≡ with_declared e set
with_alike None None set h = refl
with_alike None (Some e) set h = cc
with_alike (Some d) None set h = cc
with_alike (Some d) (Some e) set h = let same : d.place ≡ e.place = cc in ap (λ p. with_class p set) same

set_along : (path : Scopes) (xs : List Placed) → class_set (names_along path) xs ≡ class_set path xs
set_along path [] = refl
set_along path (x ∷ xs) =
    ap (with_declared (declared (names_along path) x.0)) (set_along path xs)
    ∙ with_alike (declared (names_along path) x.0) (declared path x.0) (class_set path xs) (at_along path x.0)

pub type_along : (path : Scopes) (spec : TypeSpec) → spec_type (names_along path) spec ≡ spec_type path spec
type_along path tree.Integer = refl
type_along path tree.Logical = refl
type_along path (tree.Bits n) = refl
type_along path (tree.Str None) = refl
type_along path (tree.Str (Some n)) = refl
type_along path (tree.Reference xs) = ap Reference (set_along path xs)
