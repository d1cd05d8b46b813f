-- The faults of types, formals and names stand at places that their declarations mention.
use Rattle.std.proofs.Common.{◌≡◌, ℕ, List, [], ◌∷◌, ◌++◌, Option, Some, None, Bool, true, false, ◌&&◌, nat_le, nat_eq, refl}
use Rattle.std.proofs.lemmas.Bool.{and_parts, and_from}
use Rattle.value_ops.specs.declared.places.Place.{Place}
use Rattle.value_ops.specs.declared.places.Diagnostic.{Diagnostic}
use Rattle.algolw_tree.specs.Tree.{Placed, TypeSpec, Formal}
use Rattle.algolw_tree.specs.Tree as tree
use Rattle.algolw_typing.specs.Names.{Entry, Scope, declared, in_scope}
use Rattle.algolw_typing.specs.Verdicts.{Verdict, fault_of, diagnostic}
use Rattle.algolw_typing.specs.Meanings.{Meaning}
use Rattle.algolw_typing.specs.Actuals.{Reading}
use Rattle.algolw_typing.specs.Scopes.{Known, Scopes, entries, written, class_fault, class_faults, spec_faults, result_faults, result_type, dimension_fault, good, formal_fault, formal_faults, formal_type, formal_meaning, formal_reading, formal_entries, formal_scope, group_faults, group_names, names_of_decl, names_of_decls, label_entries, names_of_block, again, twice}
use Rattle.library_laws.specs.Stands.{names_stand, spec_stands, result_stands, formals_stand, groups_stand, phrase_stands, bounds_stand, items_stand, decls_stand, decl_stands, all_stand}
use Rattle.library_laws.proofs.RowPlaces.{OfPlace, a_type, a_fault, silence}

module _ (q : Place → Bool) where
  -- ---- lists of faults

  pub joined : (a b : List Diagnostic) → all_stand q a ≡ true → all_stand q b ≡ true → all_stand q (a ++ b) ≡ true
  joined [] b h k = k
  joined (d ∷ a) b h k = let parts = and_parts (q d.place) (all_stand q a) h in and_from (q d.place) (all_stand q (a ++ b)) parts.0 (joined a b parts.1 k)

  pub three : (a b c : List Diagnostic) → all_stand q a ≡ true → all_stand q b ≡ true → all_stand q c ≡ true → all_stand q (a ++ b ++ c) ≡ true
  three a b c h i j = joined (a ++ b) c (joined a b h i) j

  pub four : (a b c d : List Diagnostic) → all_stand q a ≡ true → all_stand q b ≡ true → all_stand q c ≡ true → all_stand q d ≡ true → all_stand q (a ++ b ++ c ++ d) ≡ true
  four a b c d h i j k = joined (a ++ b ++ c) d (three a b c h i j) k

  pub five : (a b c d e : List Diagnostic) → all_stand q a ≡ true → all_stand q b ≡ true → all_stand q c ≡ true → all_stand q d ≡ true → all_stand q e ≡ true → all_stand q (a ++ b ++ c ++ d ++ e) ≡ true
  five a b c d e h i j k l = joined (a ++ b ++ c ++ d) e (four a b c d h i j k) l

  pub front : (a b : List Diagnostic) → all_stand q (a ++ b) ≡ true → all_stand q a ≡ true
  front [] b h = refl
  front (d ∷ a) b h = let parts = and_parts (q d.place) (all_stand q (a ++ b)) h in and_from (q d.place) (all_stand q a) parts.0 (front a b parts.1)

  pub one : (n : ℕ) (p : Place) → q p ≡ true → all_stand q (diagnostic n p) ≡ true
  one n p h = and_from (q p) true h refl

  pub unless_one : (b : Bool) (n : ℕ) (p : Place) → q p ≡ true → all_stand q (elim b [ true ↦ [] | false ↦ diagnostic n p ]) ≡ true
  unless_one true n p h = refl
  unless_one false n p h = one n p h

  pub stands : (p : Place) (v : Verdict) → q p ≡ true → OfPlace p v → all_stand q (fault_of v) ≡ true
  stands p _ h (a_type {g = g}) = refl
  stands p _ h (a_fault {n = n}) = one n p h
  stands p _ h silence = refl

  -- ---- types as they are written

  pub class_at : (x : Placed) (e : Option (Entry Known)) → q x.1 ≡ true → all_stand q (class_fault x e) ≡ true
  class_at x None h = one 30 x.1 h
  class_at x (Some e) h = unless_one e.is.is_class 33 x.1 h

  classes_at : (path : Scopes) (xs : List Placed) → names_stand q xs ≡ true → all_stand q (class_faults path xs) ≡ true
  classes_at path [] h = refl
  classes_at path (x ∷ xs) h = let parts = and_parts (q x.1) (names_stand q xs) h in joined (class_fault x (declared path x.0)) (class_faults path xs) (class_at x (declared path x.0) parts.0) (classes_at path xs parts.1)

  pub spec_at : (path : Scopes) (spec : TypeSpec) → spec_stands q spec ≡ true → all_stand q (spec_faults path spec) ≡ true
  spec_at path tree.Integer h = refl
  spec_at path tree.Logical h = refl
  spec_at path (tree.Bits None) h = refl
  spec_at path (tree.Bits (Some n)) h = unless_one (nat_eq (written n.0) 32) 32 n.1 h
  spec_at path (tree.Str None) h = refl
  spec_at path (tree.Str (Some n)) h = unless_one (nat_le 1 (written n.0) && nat_le (written n.0) 256) 32 n.1 h
  spec_at path (tree.Reference xs) h = classes_at path xs h

  pub result_at : (path : Scopes) (result : Option TypeSpec) → result_stands q result ≡ true → all_stand q (result_faults path result) ≡ true
  result_at path None h = refl
  result_at path (Some spec) h = spec_at path spec h

  pub dimension_at : (xs : List Placed) (n : ℕ) → names_stand q xs ≡ true → all_stand q (dimension_fault xs n) ≡ true
  dimension_at [] n h = refl
  dimension_at (x ∷ xs) n h = unless_one (nat_le n 8) 32 x.1 (and_parts (q x.1) (names_stand q xs) h).0

  pub formals_at : (path : Scopes) (formals : List Formal) → formals_stand q formals ≡ true → all_stand q (formal_faults path formals) ≡ true
  formals_at path [] h = refl
  formals_at path (f ∷ formals) h =
      let parts = and_parts (result_stands q f.spec) (names_stand q f.names && formals_stand q formals) h in
      let rest = and_parts (names_stand q f.names) (formals_stand q formals) parts.1 in
      joined (formal_fault path f) (formal_faults path formals) (joined (result_faults path f.spec) (dimension_fault f.names f.dimensions) (result_at path f.spec parts.0) (dimension_at f.names f.dimensions rest.0)) (formals_at path formals rest.1)

  pub groups_at : (path : Scopes) (groups : List (TypeSpec × List Placed)) → groups_stand q groups ≡ true → all_stand q (group_faults path groups) ≡ true
  groups_at path [] h = refl
  groups_at path (g ∷ groups) h =
      let parts = and_parts (spec_stands q g.0) (names_stand q g.1 && groups_stand q groups) h in
      let rest = and_parts (names_stand q g.1) (groups_stand q groups) parts.1 in
      joined (spec_faults path g.0) (group_faults path groups) (spec_at path g.0 parts.0) (groups_at path groups rest.1)

  -- ---- names that are declared twice

  abbrev pub scope_stands : Scope Known → Bool
  scope_stands [] = true
  scope_stands (e ∷ scope) = q e.place && scope_stands scope

  scopes_joined : (a b : Scope Known) → scope_stands a ≡ true → scope_stands b ≡ true → scope_stands (a ++ b) ≡ true
  scopes_joined [] b h k = k
  scopes_joined (e ∷ a) b h k = let parts = and_parts (q e.place) (scope_stands a) h in and_from (q e.place) (scope_stands (a ++ b)) parts.0 (scopes_joined a b parts.1 k)

  names_joined : (a b : List Placed) → names_stand q a ≡ true → names_stand q b ≡ true → names_stand q (a ++ b) ≡ true
  names_joined [] b h k = k
  names_joined (x ∷ a) b h k = let parts = and_parts (q x.1) (names_stand q a) h in and_from (q x.1) (names_stand q (a ++ b)) parts.0 (names_joined a b parts.1 k)

  entries_at : (xs : List Placed) (m : Option Meaning) → names_stand q xs ≡ true → scope_stands (entries xs m) ≡ true
  entries_at [] m h = refl
  entries_at (x ∷ xs) m h = let parts = and_parts (q x.1) (names_stand q xs) h in and_from (q x.1) (scope_stands (entries xs m)) parts.0 (entries_at xs m parts.1)

  formal_entries_at : (xs : List Placed) (reading : Reading) (m : Option Meaning) → names_stand q xs ≡ true → scope_stands (formal_entries xs reading m) ≡ true
  formal_entries_at [] reading m h = refl
  formal_entries_at (x ∷ xs) reading m h = let parts = and_parts (q x.1) (names_stand q xs) h in and_from (q x.1) (scope_stands (formal_entries xs reading m)) parts.0 (formal_entries_at xs reading m parts.1)

  pub formal_scope_at : (path : Scopes) (formals : List Formal) → formals_stand q formals ≡ true → scope_stands (formal_scope path formals) ≡ true
  formal_scope_at path [] h = refl
  formal_scope_at path (f ∷ formals) h =
      let type = formal_type f.mode f.dimensions (result_type path f.spec) in
      let parts = and_parts (result_stands q f.spec) (names_stand q f.names && formals_stand q formals) h in
      let rest = and_parts (names_stand q f.names) (formals_stand q formals) parts.1 in
      scopes_joined (formal_entries f.names (formal_reading type) (good (formal_fault path f) (formal_meaning type))) (formal_scope path formals) (formal_entries_at f.names (formal_reading type) (good (formal_fault path f) (formal_meaning type)) rest.0) (formal_scope_at path formals rest.1)

  group_names_at : (groups : List (TypeSpec × List Placed)) → groups_stand q groups ≡ true → names_stand q (group_names groups) ≡ true
  group_names_at [] h = refl
  group_names_at (g ∷ groups) h =
      let parts = and_parts (spec_stands q g.0) (names_stand q g.1 && groups_stand q groups) h in
      let rest = and_parts (names_stand q g.1) (groups_stand q groups) parts.1 in
      names_joined g.1 (group_names groups) rest.0 (group_names_at groups rest.1)

  names_of_decl_at : (d : tree.Decl) → decl_stands q d ≡ true → scope_stands (names_of_decl d) ≡ true
  names_of_decl_at (tree.Simple t xs) h = entries_at xs None (and_parts (spec_stands q t) (names_stand q xs) h).1
  names_of_decl_at (tree.Array t xs bounds) h = entries_at xs None (and_parts (names_stand q xs) (bounds_stand q bounds) (and_parts (spec_stands q t) (names_stand q xs && bounds_stand q bounds) h).1).0
  names_of_decl_at (tree.Proc p t x formals body) h =
      let rest = and_parts (q p) (result_stands q t && (q x.1 && (formals_stand q formals && phrase_stands q body))) h in
      let named = and_parts (result_stands q t) (q x.1 && (formals_stand q formals && phrase_stands q body)) rest.1 in
      and_from (q x.1) true (and_parts (q x.1) (formals_stand q formals && phrase_stands q body) named.1).0 refl
  names_of_decl_at (tree.Class c) h =
      let parts = and_parts (q c.name.1) (groups_stand q c.groups) h in
      and_from (q c.name.1) (scope_stands (entries (group_names c.groups) None)) parts.0 (entries_at (group_names c.groups) None (group_names_at c.groups parts.1))

  names_of_decls_at : (decls : tree.Decls) → decls_stand q decls ≡ true → scope_stands (names_of_decls decls) ≡ true
  names_of_decls_at tree.no_decls h = refl
  names_of_decls_at (tree.decl_and d decls) h = let parts = and_parts (decl_stands q d) (decls_stand q decls) h in scopes_joined (names_of_decl d) (names_of_decls decls) (names_of_decl_at d parts.0) (names_of_decls_at decls parts.1)

  label_entries_at : (items : tree.Items) → items_stand q items ≡ true → scope_stands (label_entries items) ≡ true
  label_entries_at tree.no_items h = refl
  label_entries_at (tree.item_and (tree.Labelled labels a) items) h =
      let parts = and_parts (names_stand q labels && phrase_stands q a) (items_stand q items) h in
      scopes_joined (entries labels _) (label_entries items) (entries_at labels _ (and_parts (names_stand q labels) (phrase_stands q a) parts.0).0) (label_entries_at items parts.1)

  pub names_of_block_at : (decls : tree.Decls) (items : tree.Items) → decls_stand q decls ≡ true → items_stand q items ≡ true → scope_stands (names_of_block decls items) ≡ true
  names_of_block_at decls items h k = scopes_joined (names_of_decls decls) (label_entries items) (names_of_decls_at decls h) (label_entries_at items k)

  again_at : (d : Option (Entry Known)) (e : Entry Known) → q e.place ≡ true → all_stand q (elim d [ None ↦ [] | Some x ↦ diagnostic 31 e.place ]) ≡ true
  again_at None e h = refl
  again_at (Some x) e h = one 31 e.place h

  pub twice_at : (before scope : Scope Known) → scope_stands scope ≡ true → all_stand q (twice before scope) ≡ true
  twice_at before [] h = refl
  twice_at before (e ∷ scope) h = let parts = and_parts (q e.place) (scope_stands scope) h in joined (again before e) (twice (before ++ e ∷ []) scope) (again_at (in_scope before e.name) e parts.0) (twice_at (before ++ e ∷ []) scope parts.1)
