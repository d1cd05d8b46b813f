-- What a block, a formal list, a FOR and the block round the program declare is known, and so is what their declarations state.
use Rattle.std.proofs.Common.{◌≡◌, refl, ap, ◌∙◌, List, [], ◌∷◌, ◌++◌, Option, Some, None, true}
use Rattle.std.specs.Prelude.{ℕ, suc}
use Rattle.value_ops.specs.declared.places.Place.{Place}
use Rattle.value_ops.specs.declared.places.Diagnostic.{Diagnostic}
use Rattle.algolw_tree.specs.declared.phrases.Mode.{Mode}
use Rattle.algolw_tree.specs.declared.phrases.Mode.TheVariants as mode
use Rattle.algolw_tree.specs.Tree.{Placed, TypeSpec, Formal, ClassDecl, Items, no_items, item_and, Labelled, Decls, no_decls, decl_and, Decl}
use Rattle.algolw_tree.specs.Tree as tree
use Rattle.algolw_tree.specs.declared.standard.Standard.{Standard}
use Rattle.algolw_tree.specs.Standards.{StandardNames, standard_table}
use Rattle.algolw_typing.specs.Names.{Entry, Scope}
use Rattle.algolw_typing.specs.Types.{ValueType, has}
use Rattle.algolw_typing.specs.Meanings.{Meaning, a_variable, an_array, a_procedure, a_class, a_field, a_label}
use Rattle.algolw_typing.specs.Actuals.{Reading}
use Rattle.algolw_typing.specs.Scopes.{Known, Scopes, entries, spec_faults, spec_type, result_faults, result_type, dimension_fault, good, formal_fault, formal_faults, formal_type, formal_types, formal_meaning, formal_reading, formal_entries, formal_scope, group_faults, field_types, field_entries, group_names, names_of_decl, names_of_decls, names_of_block, label_entries, without_twice, bound_count, control_scope, standard_entry, standard_entries, standard_scope}
use Rattle.algolw_typing.specs.Naming.{Frame, NamePath, scope_of, placed_of, decl_names, decls_names, label_names, block_names, formal_names, standard_names, decl_naming, decls_naming}
use Rattle.algolw_typing.specs.Typing.{array_faults, typed_bounds, meanings, meanings_of}
use Rattle.algolw_typing.specs.Known.{KnowsResult}
use Rattle.algolw_typing.proofs.GoodScopes.{NoFaults, none_first, none_second}
use Rattle.algolw_typing.proofs.GoodBlocks as blocks
use Rattle.algolw_typing.proofs.KnownNames.{KnowsMeaning, KnowsMeans, MeansKnown}
use Rattle.algolw_typing.proofs.KnownScopes.{PlacesHad, Within, within_first, within_second, ClassKnown, AllEntries, all_entries_both, Around, around_none, around_scope, Reads, reads_known, reads_block, spec_known, result_known}

-- ---- the places of a scope are those of the names that it declares

placed_append : (a b : Scope Known) → placed_of a ++ placed_of b ≡ placed_of (a ++ b)
placed_append [] b = refl
placed_append (e ∷ a) b = ap (λ zs. (e.name, e.place) ∷ zs) (placed_append a b)

placed_both : (xs ys : List Placed) (a b : Scope Known) → xs ≡ placed_of a → ys ≡ placed_of b → xs ++ ys ≡ placed_of (a ++ b)
placed_both xs ys a b h k = ap (λ zs. zs ++ ys) h ∙ (ap (λ zs. placed_of a ++ zs) k ∙ placed_append a b)

placed_entries : (xs : List Placed) (m : Option Meaning) → xs ≡ placed_of (entries xs m)
placed_entries [] m = refl
placed_entries (x ∷ xs) m = ap (λ ys. x ∷ ys) (placed_entries xs m)

placed_formal_entries : (xs : List Placed) (r : Reading) (m : Option Meaning) → xs ≡ placed_of (formal_entries xs r m)
placed_formal_entries [] r m = refl
placed_formal_entries (x ∷ xs) r m = ap (λ ys. x ∷ ys) (placed_formal_entries xs r m)

placed_labels : (items : Items) → label_names items ≡ placed_of (label_entries items)
placed_labels no_items = refl
placed_labels (item_and (Labelled labels a) items) = placed_both labels (label_names items) (entries labels (Some a_label)) (label_entries items) (placed_entries labels (Some a_label)) (placed_labels items)

placed_fields : (path : Scopes) (faults : List Diagnostic) (c : Place) (groups : List (TypeSpec × List Placed)) → group_names groups ≡ placed_of (field_entries path faults c groups)
placed_fields path faults c [] = refl
placed_fields path faults c (g ∷ groups) =
    let m = good faults (a_field c (spec_type path g.0)) in
    placed_both g.1 (group_names groups) (entries g.1 m) (field_entries path faults c groups) (placed_entries g.1 m) (placed_fields path faults c groups)

placed_decl : (around path : Scopes) (d : Decl) → decl_names d ≡ placed_of (meanings_of around path d)
placed_decl around path (tree.Simple spec xs) = placed_entries xs _
placed_decl around path (tree.Array spec xs _) = placed_entries xs _
placed_decl around path (tree.Proc p result x fs body) = refl
placed_decl around path (tree.Class c) = ap (λ ys. c.name ∷ ys) (placed_fields path (group_faults path c.groups) c.name.1 c.groups)

placed_decls : (around path : Scopes) (decls : Decls) → decls_names decls ≡ placed_of (meanings around path decls)
placed_decls around path no_decls = refl
placed_decls around path (decl_and d decls) = placed_both (decl_names d) (decls_names decls) (meanings_of around path d) (meanings around path decls) (placed_decl around path d) (placed_decls around path decls)

placed_formals : (path : Scopes) (fs : List Formal) → formal_names fs ≡ placed_of (formal_scope path fs)
placed_formals path [] = refl
placed_formals path (f ∷ fs) =
    let type = formal_type f.mode f.dimensions (result_type path f.spec) in
    let r = formal_reading type in
    let m = good (formal_fault path f) (formal_meaning type) in
    placed_both f.names (formal_names fs) (formal_entries f.names r m) (formal_scope path fs) (placed_formal_entries f.names r m) (placed_formals path fs)

-- ---- which names are classes

entries_no_class : (classes : List Place) (xs : List Placed) (m : Option Meaning) → AllEntries (ClassKnown classes) (entries xs m)
entries_no_class classes [] m = tt
entries_no_class classes (x ∷ xs) m = (tt, entries_no_class classes xs m)

formal_entries_no_class : (classes : List Place) (xs : List Placed) (r : Reading) (m : Option Meaning) → AllEntries (ClassKnown classes) (formal_entries xs r m)
formal_entries_no_class classes [] r m = tt
formal_entries_no_class classes (x ∷ xs) r m = (tt, formal_entries_no_class classes xs r m)

labels_no_class : (classes : List Place) (items : Items) → AllEntries (ClassKnown classes) (label_entries items)
labels_no_class classes no_items = tt
labels_no_class classes (item_and (Labelled labels a) items) = all_entries_both (ClassKnown classes) (entries labels (Some a_label)) (label_entries items) (entries_no_class classes labels (Some a_label)) (labels_no_class classes items)

fields_no_class : (classes : List Place) (path : Scopes) (faults : List Diagnostic) (c : Place) (groups : List (TypeSpec × List Placed)) → AllEntries (ClassKnown classes) (field_entries path faults c groups)
fields_no_class classes path faults c [] = tt
fields_no_class classes path faults c (g ∷ groups) = all_entries_both (ClassKnown classes) _ (field_entries path faults c groups) (entries_no_class classes g.1 _) (fields_no_class classes path faults c groups)

formals_no_class : (classes : List Place) (path : Scopes) (fs : List Formal) → AllEntries (ClassKnown classes) (formal_scope path fs)
formals_no_class classes path [] = tt
formals_no_class classes path (f ∷ fs) = all_entries_both (ClassKnown classes) _ (formal_scope path fs) (formal_entries_no_class classes f.names _ _) (formals_no_class classes path fs)

names_class : {names classes : List Place} (frame : Frame) (outer inner : NamePath) (d : Decl) → Within names classes (decl_naming frame outer inner d) → AllEntries (ClassKnown classes) (names_of_decl d)
names_class {classes = classes} frame outer inner (tree.Simple spec xs) w = entries_no_class classes xs None
names_class {classes = classes} frame outer inner (tree.Array spec xs _) w = entries_no_class classes xs None
names_class frame outer inner (tree.Proc p result x fs body) w = (tt, tt)
names_class {classes = classes} frame outer inner (tree.Class c) w = (w.classed.0, entries_no_class classes (group_names c.groups) None)

meanings_class : {names classes : List Place} (frame : Frame) (outer inner : NamePath) (around path : Scopes) (d : Decl) → Within names classes (decl_naming frame outer inner d) → AllEntries (ClassKnown classes) (meanings_of around path d)
meanings_class {classes = classes} frame outer inner around path (tree.Simple spec xs) w = entries_no_class classes xs _
meanings_class {classes = classes} frame outer inner around path (tree.Array spec xs _) w = entries_no_class classes xs _
meanings_class frame outer inner around path (tree.Proc p result x fs body) w = (tt, tt)
meanings_class {classes = classes} frame outer inner around path (tree.Class c) w = (w.classed.0, fields_no_class classes path (group_faults path c.groups) c.name.1 c.groups)

all_names_class : {names classes : List Place} (frame : Frame) (outer inner : NamePath) (decls : Decls) → Within names classes (decls_naming frame outer inner decls) → AllEntries (ClassKnown classes) (names_of_decls decls)
all_names_class frame outer inner no_decls w = tt
all_names_class {classes = classes} frame outer inner (decl_and d decls) w =
    all_entries_both (ClassKnown classes) (names_of_decl d) (names_of_decls decls) (names_class frame outer inner d (within_first (decl_naming frame outer inner d) (decls_naming frame outer inner decls) w)) (all_names_class frame outer inner decls (within_second (decl_naming frame outer inner d) (decls_naming frame outer inner decls) w))

all_meanings_class : {names classes : List Place} (frame : Frame) (outer inner : NamePath) (around path : Scopes) (decls : Decls) → Within names classes (decls_naming frame outer inner decls) → AllEntries (ClassKnown classes) (meanings around path decls)
all_meanings_class frame outer inner around path no_decls w = tt
all_meanings_class {classes = classes} frame outer inner around path (decl_and d decls) w =
    all_entries_both (ClassKnown classes) (meanings_of around path d) (meanings around path decls) (meanings_class frame outer inner around path d (within_first (decl_naming frame outer inner d) (decls_naming frame outer inner decls) w)) (all_meanings_class frame outer inner around path decls (within_second (decl_naming frame outer inner d) (decls_naming frame outer inner decls) w))

-- ---- what names mean

good_known : (classes : List Place) (d : Place) (faults : List Diagnostic) (m : Meaning) → (NoFaults faults → KnowsMeaning classes d m) → KnowsMeans classes d (good faults m)
good_known classes d [] m h = h tt
good_known classes d (f ∷ faults) m h = tt

entries_known : (classes : List Place) (xs : List Placed) (m : Option Meaning) → ((d : Place) → KnowsMeans classes d m) → AllEntries (MeansKnown classes) (entries xs m)
entries_known classes [] m h = tt
entries_known classes (x ∷ xs) m h = (h x.1, entries_known classes xs m h)

formal_entries_known : (classes : List Place) (xs : List Placed) (r : Reading) (m : Option Meaning) → ((d : Place) → KnowsMeans classes d m) → AllEntries (MeansKnown classes) (formal_entries xs r m)
formal_entries_known classes [] r m h = tt
formal_entries_known classes (x ∷ xs) r m h = (h x.1, formal_entries_known classes xs r m h)

labels_known : (classes : List Place) (items : Items) → AllEntries (MeansKnown classes) (label_entries items)
labels_known classes no_items = tt
labels_known classes (item_and (Labelled labels a) items) = all_entries_both (MeansKnown classes) (entries labels (Some a_label)) (label_entries items) (entries_known classes labels (Some a_label) (λ d. tt)) (labels_known classes items)

fields_known : (classes : List Place) (path : Scopes) (c : Place) (faults : List Diagnostic) (groups : List (TypeSpec × List Placed)) → Reads classes path path → (NoFaults faults → NoFaults (group_faults path groups)) → AllEntries (MeansKnown classes) (field_entries path faults c groups)
fields_known classes path c faults [] r h = tt
fields_known classes path c faults (g ∷ groups) r h =
    let m = a_field c (spec_type path g.0) in
    all_entries_both (MeansKnown classes) (entries g.1 (good faults m)) (field_entries path faults c groups)
    (entries_known classes g.1 (good faults m) (λ d. good_known classes d faults m (λ none. spec_known classes path path g.0 r (none_first (spec_faults path g.0) (group_faults path groups) (h none)))))
    (fields_known classes path c faults groups r (λ none. none_second (spec_faults path g.0) (group_faults path groups) (h none)))

formal_known : (classes : List Place) (d : Place) (m : Mode) (n : ℕ) (result : Option ValueType) → KnowsResult classes result → KnowsMeaning classes d (formal_meaning (formal_type m n result))
formal_known classes d mode.Procedure n result h = h
formal_known classes d mode.ByName n (Some t) h = h
formal_known classes d mode.Value n (Some t) h = h
formal_known classes d mode.Result n (Some t) h = h
formal_known classes d mode.ValueResult n (Some t) h = h
formal_known classes d mode.Array n (Some t) h = h
formal_known classes d m n None h = tt

formals_known : (classes : List Place) (path : Scopes) (fs : List Formal) → Reads classes path path → AllEntries (MeansKnown classes) (formal_scope path fs)
formals_known classes path [] r = tt
formals_known classes path (f ∷ fs) r =
    let result = result_type path f.spec in
    let type = formal_type f.mode f.dimensions result in
    let m = good (formal_fault path f) (formal_meaning type) in
    all_entries_both (MeansKnown classes) (formal_entries f.names (formal_reading type) m) (formal_scope path fs)
    (formal_entries_known classes f.names (formal_reading type) m (λ d. good_known classes d (formal_fault path f) (formal_meaning type) (λ none. formal_known classes d f.mode f.dimensions result (result_known classes path f.spec r (none_first (result_faults path f.spec) (dimension_fault f.names f.dimensions) none)))))
    (formals_known classes path fs r)

meaning_known : {names classes : List Place} (frame : Frame) (outer inner : NamePath) (around path : Scopes) (d : Decl) → Reads classes path path → Within names classes (decl_naming frame outer inner d) → AllEntries (MeansKnown classes) (meanings_of around path d)
meaning_known {classes = classes} frame outer inner around path (tree.Simple spec xs) r w =
    let m = a_variable (spec_type path spec) in
    entries_known classes xs (good (spec_faults path spec) m) (λ d. good_known classes d (spec_faults path spec) m (λ none. spec_known classes path path spec r none))
meaning_known {classes = classes} frame outer inner around path (tree.Array spec xs bounds) r w =
    let n = bound_count bounds in
    let m = an_array (spec_type path spec) n in
    let others = without_twice (typed_bounds around bounds).inside in
    let all = array_faults path spec xs n ++ others in
    entries_known classes xs (good all m) (λ d. good_known classes d all m (λ none. spec_known classes path path spec r (none_first (spec_faults path spec) (dimension_fault xs n) (none_first (array_faults path spec xs n) others none))))
meaning_known {classes = classes} frame outer inner around path (tree.Proc p result x fs body) r w =
    let all = result_faults path result ++ formal_faults path fs in
    (good_known classes x.1 all (a_procedure (result_type path result) (formal_types path fs)) (λ none. result_known classes path result r (none_first (result_faults path result) (formal_faults path fs) none)), tt)
meaning_known {classes = classes} frame outer inner around path (tree.Class c) r w =
    let all = group_faults path c.groups in
    (good_known classes c.name.1 all (a_class (field_types path c.groups)) (λ none. w.classed.0), fields_known classes path c.name.1 all c.groups r (λ none. none))

meanings_known : {names classes : List Place} (frame : Frame) (outer inner : NamePath) (around path : Scopes) (decls : Decls) → Reads classes path path → Within names classes (decls_naming frame outer inner decls) → AllEntries (MeansKnown classes) (meanings around path decls)
meanings_known frame outer inner around path no_decls r w = tt
meanings_known {classes = classes} frame outer inner around path (decl_and d decls) r w =
    all_entries_both (MeansKnown classes) (meanings_of around path d) (meanings around path decls) (meaning_known frame outer inner around path d r (within_first (decl_naming frame outer inner d) (decls_naming frame outer inner decls) w)) (meanings_known frame outer inner around path decls r (within_second (decl_naming frame outer inner d) (decls_naming frame outer inner decls) w))

-- ---- the scopes round a phrase

pub around_block : {names classes : List Place} {outer : NamePath} {path : Scopes} (frame : Frame) (decls : Decls) (items : Items) → PlacesHad names (block_names decls items) → Around names classes outer path
    → Within names classes (decls_naming frame outer (scope_of (block_names decls items) ∷ outer) decls) → Around names classes (scope_of (block_names decls items) ∷ outer) (blocks.scope_of path decls items ∷ path)
around_block {names = names} {classes = classes} {outer = outer} {path = path} frame decls items h w n =
    let own = names_of_block decls items in
    let inner = scope_of (block_names decls items) ∷ outer in
    let meant = meanings path (own ∷ path) decls in
    let read = reads_block own (all_entries_both (ClassKnown classes) (names_of_decls decls) (label_entries items) (all_names_class frame outer inner decls n) (labels_no_class classes items)) w in
    around_scope (block_names decls items) (meant ++ label_entries items)
    (placed_both (decls_names decls) (label_names items) meant (label_entries items) (placed_decls path (own ∷ path) decls) (placed_labels items))
    h
    (all_entries_both (ClassKnown classes) meant (label_entries items) (all_meanings_class frame outer inner path (own ∷ path) decls n) (labels_no_class classes items))
    (all_entries_both (MeansKnown classes) meant (label_entries items) (meanings_known frame outer inner path (own ∷ path) decls read n) (labels_known classes items))
    w

pub around_formals : {names classes : List Place} {outer : NamePath} {path : Scopes} (fs : List Formal) → PlacesHad names (formal_names fs) → Around names classes outer path → Around names classes (scope_of (formal_names fs) ∷ outer) (formal_scope path fs ∷ path)
around_formals {classes = classes} {path = path} fs h w = around_scope (formal_names fs) (formal_scope path fs) (placed_formals path fs) h (formals_no_class classes path fs) (formals_known classes path fs (reads_known w)) w

pub around_control : {names classes : List Place} {outer : NamePath} {path : Scopes} (p : Place) (x : List ℕ) → has names p ≡ true → Around names classes outer path → Around names classes (scope_of ((x, p) ∷ []) ∷ outer) (control_scope p x ∷ path)
around_control p x h w = around_scope ((x, p) ∷ []) (control_scope p x) refl (h, tt) (tt, tt) (tt, tt) w

all_standard : (P : Entry Known → Type 0) → ((x : List ℕ) (n : ℕ) (s : Standard) → P (standard_entry x n s)) → (n : ℕ) (names : StandardNames) → AllEntries P (standard_entries n names)
all_standard P each n [] = tt
all_standard P each n (x ∷ names) = (each x.0 n x.1, all_standard P each (suc n) names)

pub around_standard : {names classes : List Place} → PlacesHad names standard_names → Around names classes (scope_of standard_names ∷ []) (standard_scope ∷ [])
around_standard {classes = classes} h =
    around_scope standard_names standard_scope refl h (all_standard (ClassKnown classes) (λ x n s. tt) 1 standard_table) (all_standard (MeansKnown classes) (λ x n s. tt) 1 standard_table) around_none
