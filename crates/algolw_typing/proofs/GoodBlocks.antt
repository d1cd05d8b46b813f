-- In a block whose declarations have no faults, all names mean something.
use Rattle.std.proofs.Common.{◌≡◌, sym, ap, subst, List, [], ◌∷◌, ◌++◌, None, false}
use Rattle.value_ops.specs.declared.places.Diagnostic.{Diagnostic}
use Rattle.algolw_tree.specs.Tree.{Items, Decls, no_decls, decl_and, Decl}
use Rattle.algolw_tree.specs.Tree as tree
use Rattle.algolw_typing.specs.Names.{Scope}
use Rattle.algolw_typing.specs.Meanings.{a_variable, an_array, a_procedure}
use Rattle.algolw_typing.specs.Actuals.{as_phrases, for_formals}
use Rattle.algolw_typing.specs.Scopes.{Known, Scopes, spec_faults, spec_type, result_faults, result_type, dimension_fault, formal_faults, formal_types, formal_scope, names_of_decl, names_of_decls, label_entries, names_of_block, twice, without_twice, bound_count}
use Rattle.algolw_typing.specs.Verdicts.{fault_of}
use Rattle.algolw_typing.specs.Typing.{faults, array_faults, procedure_verdict, typed_phrase, typed_bounds, typed_decls, typed_decl, meanings, meanings_of}
use Rattle.algolw_typing.proofs.GoodScopes.{NoFaults, none_first, none_second, none_two, none_four, none_both, none_twice, GoodScope, GoodPath, good_append, good_means, good_entries, good_labels, good_class, SameNames, no_names, same_and, same_append, same_entries, same_labels, same_class, spec_faults_same, result_faults_same, formal_faults_same, group_faults_same}

-- the names of a block, and what they mean, declare the same

same_decl : (around path : Scopes) (d : Decl) → SameNames (names_of_decl d) (meanings_of around path d)
same_decl around path (tree.Simple spec xs) = same_entries xs None _
same_decl around path (tree.Array spec xs _) = same_entries xs None _
same_decl around path (tree.Proc p result x fs body) = same_and x false as_phrases (for_formals (formal_types path fs)) None _ no_names
same_decl around path (tree.Class c) = same_class path c

same_decls : (around path : Scopes) (decls : Decls) → SameNames (names_of_decls decls) (meanings around path decls)
same_decls around path no_decls = no_names
same_decls around path (decl_and d decls) = same_append (names_of_decls decls) (meanings around path decls) (same_decl around path d) (same_decls around path decls)

-- the scope of a block
abbrev pub scope_of : Scopes → Decls → Items → Scope Known
scope_of path decls items = meanings path (names_of_block decls items ∷ path) decls ++ label_entries items

pub same_block : (path : Scopes) (decls : Decls) (items : Items) → SameNames (names_of_block decls items) (scope_of path decls items)
same_block path decls items = same_append (label_entries items) (label_entries items) (same_decls path (names_of_block decls items ∷ path) decls) (same_labels items)

-- declarations without faults

pub none_same : {a b : List Diagnostic} → a ≡ b → NoFaults b → NoFaults a
none_same e h = subst NoFaults (sym e) h

good_decl : {a b : Scope Known} (around path : Scopes) (d : Decl) → SameNames a b → NoFaults (typed_decl around (b ∷ path) d).inside → GoodScope (meanings_of around (a ∷ path) d)
good_decl {a = a} {b = b} around path (tree.Simple spec xs) s h =
    good_entries xs _ (good_means (spec_faults (a ∷ path) spec) (a_variable (spec_type (a ∷ path) spec)) as_phrases (none_same (spec_faults_same path spec s) h) tt)
good_decl {a = a} {b = b} around path (tree.Array spec xs bounds) s h =
    let n = bound_count bounds in
    let inside = (typed_bounds around bounds).inside in
    let own = none_first (array_faults (b ∷ path) spec xs n) inside h in
    let same : array_faults (a ∷ path) spec xs n ≡ array_faults (b ∷ path) spec xs n = ap (λ fs. fs ++ dimension_fault xs n) (spec_faults_same path spec s) in
    let none = none_both (array_faults (a ∷ path) spec xs n) (without_twice inside) (none_same same own) (none_twice inside (none_second (array_faults (b ∷ path) spec xs n) inside h)) in
    good_entries xs _ (good_means (array_faults (a ∷ path) spec xs n ++ without_twice inside) (an_array (spec_type (a ∷ path) spec) n) as_phrases none tt)
good_decl {a = a} {b = b} around path (tree.Proc p result x fs body) s h =
    let inner = b ∷ path in
    let o = typed_phrase (formal_scope inner fs ∷ inner) body in
    let types = result_faults inner result ++ formal_faults inner fs in
    let verdict = fault_of (procedure_verdict p (result_faults inner result) (result_type inner result) o) in
    let own = none_four types (twice [] (formal_scope inner fs)) (faults o) verdict h in
    let each = none_two (result_faults inner result) (formal_faults inner fs) own.0 in
    let none = none_both (result_faults (a ∷ path) result) (formal_faults (a ∷ path) fs) (none_same (result_faults_same path result s) each.0) (none_same (formal_faults_same path fs s) each.1) in
    (good_means (result_faults (a ∷ path) result ++ formal_faults (a ∷ path) fs) (a_procedure (result_type (a ∷ path) result) (formal_types (a ∷ path) fs)) (for_formals (formal_types (a ∷ path) fs)) none tt, tt)
good_decl {a = a} {b = b} around path (tree.Class c) s h = good_class (a ∷ path) c (none_same (group_faults_same path c.groups s) h)

good_decls : {a b : Scope Known} (around path : Scopes) (decls : Decls) → SameNames a b → NoFaults (typed_decls around (b ∷ path) decls).inside → GoodScope (meanings around (a ∷ path) decls)
good_decls around path no_decls s h = tt
good_decls {a = a} {b = b} around path (decl_and d decls) s h =
    let first = (typed_decl around (b ∷ path) d).inside in
    let second = (typed_decls around (b ∷ path) decls).inside in
    good_append (meanings_of around (a ∷ path) d) (meanings around (a ∷ path) decls)
    (good_decl around path d s (none_first first second h))
    (good_decls around path decls s (none_second first second h))

pub good_block : (path : Scopes) (decls : Decls) (items : Items) → GoodPath path → NoFaults (typed_decls path (scope_of path decls items ∷ path) decls).inside → GoodPath (scope_of path decls items ∷ path)
good_block path decls items g h =
    (good_append (meanings path (names_of_block decls items ∷ path) decls) (label_entries items) (good_decls path path decls (same_block path decls items) h) (good_labels items), g)
