-- Items, bounds, declarations and blocks are known where the phrases in them are.
use Rattle.std.proofs.Common.{◌≡◌, ℕ, List, [], ◌∷◌, ◌++◌, Option, true}
use Rattle.value_ops.specs.declared.places.Place.{Place}
use Rattle.value_ops.specs.declared.places.Diagnostic.{Diagnostic}
use Rattle.algolw_tree.specs.Tree.{Placed, TypeSpec, Formal, ClassDecl}
use Rattle.algolw_tree.specs.Tree as tree
use Rattle.algolw_typing.specs.Types.{ValueType, has}
use Rattle.algolw_typing.specs.Verdicts.{Verdict, fault_of, two_parts}
use Rattle.algolw_typing.specs.Rows.{bound_row}
use Rattle.algolw_typing.specs.Scopes.{Scopes, spec_faults, spec_type, result_faults, result_type, dimension_fault, formal_fault, formal_faults, formal_scope, group_faults, group_names, twice}
use Rattle.algolw_typing.specs.Typed as typed
use Rattle.algolw_typing.specs.Typing.{Out, faults, gives, ItemsOut, no_more_items, item_verdict, is_last, has_labels, first_token, item_out, BoundsOut, no_more_bounds, bound_out, DeclOut, DeclsOut, no_more_decls, decl_out, declare_at, simple_out, array_out, procedure_verdict, procedure_out, class_out, block_out, typed_formals, typed_groups}
use Rattle.algolw_typing.specs.Naming.{Naming, and, nothing, Frame, NamePath, declares, formal_names, fields_of, class_fields, class_naming}
use Rattle.algolw_typing.specs.Known.{KnowsType, KnowsDeclared, KnowsFormals, KnowsGroups, KnowsItems, KnowsBounds, KnowsDecls, KnowsDecl, FieldsKnow}
use Rattle.algolw_typing.proofs.GoodScopes.{NoFaults, none_first, none_two, none_three, none_four}
use Rattle.algolw_typing.proofs.KnownTypes.{Tells, item_told}
use Rattle.algolw_typing.proofs.KnownScopes.{PlacesHad, places_two, Around, Reads, reads_known, reads_names, spec_known, result_known}
use Rattle.algolw_typing.proofs.KnownOuts.{Sound, Fine, gives_known, fields_both, both, made}

pub declared_known : (names : List Place) (xs : List Placed) → PlacesHad names xs → KnowsDeclared names (declare_at xs)
declared_known names [] h = tt
declared_known names (x ∷ xs) h = (h.0, declared_known names xs h.1)

-- ---- items

pub record FineItems (names classes : List Place) (i : ItemsOut) (n : Naming) : Type 0 where
  pub told : Tells classes i.verdict
  pub sound : NoFaults i.inside → Sound classes (KnowsItems names classes i.items) n

pub no_more_items_fine : {names classes : List Place} (v : Verdict) → Tells classes v → FineItems names classes (no_more_items v) nothing
no_more_items_fine v t = record { told = t; sound = λ h. record { tree = tt; fields = tt } }

pub item_verdict_told : {names classes : List Place} (items : tree.Items) (labels : List Placed) (a : tree.Phrase) (o : Out) (n : Naming) → Fine names classes o n → Tells classes (item_verdict items labels a o)
item_verdict_told items labels a o n i = item_told (is_last items) (has_labels labels) (first_token a) (gives o) (gives_known o i)

pub item_fine : {names classes : List Place} (labels : List Placed) (o : Out) (v : Verdict) (more : ItemsOut) (m n : Naming) → PlacesHad names labels → Fine names classes o m → FineItems names classes more n → FineItems names classes (item_out labels o v more) (and m n)
item_fine {names = names} {classes = classes} labels o v more m n k i j = record {
  told = j.told;
  sound = λ h.
      let none = none_three (faults o) (fault_of v) more.inside h in
      let s = i.sound none.0 in
      let t = j.sound none.2 in
      record { tree = (declared_known names labels k, s.tree, t.tree); fields = fields_both classes m n s.fields t.fields };
}

-- ---- bounds

pub record FineBounds (names classes : List Place) (b : BoundsOut) (n : Naming) : Type 0 where
  pub sound : NoFaults b.inside → Sound classes (KnowsBounds names classes b.bounds) n

pub no_more_bounds_fine : {names classes : List Place} → FineBounds names classes no_more_bounds nothing
no_more_bounds_fine = record { sound = λ h. record { tree = tt; fields = tt } }

pub bound_fine : {names classes : List Place} (p : Place) (a b : Out) (more : BoundsOut) (l m n : Naming) → Fine names classes a l → Fine names classes b m → FineBounds names classes more n → FineBounds names classes (bound_out p a b more) (and l (and m n))
bound_fine {classes = classes} p a b more l m n i j k = record {
  sound = λ h.
      let none = none_four (faults a) (faults b) (fault_of (two_parts (gives a) (gives b) (bound_row p))) more.inside h in
      let s = i.sound none.0 in
      let t = j.sound none.1 in
      let u = k.sound none.3 in
      record { tree = (s.tree, t.tree, u.tree); fields = fields_both classes l (and m n) s.fields (fields_both classes m n t.fields u.fields) };
}

-- ---- what declarations state, and what the classes among them hold

formals_stated : (names classes : List Place) (path : Scopes) (fs : List Formal) → Reads classes path path → PlacesHad names (formal_names fs) → NoFaults (formal_faults path fs) → KnowsFormals names classes (typed_formals path fs)
formals_stated names classes path [] r k h = tt
formals_stated names classes path (f ∷ fs) r k h =
    let none = none_two (formal_fault path f) (formal_faults path fs) h in
    let had = places_two names f.names (formal_names fs) k in
    (result_known classes path f.spec r (none_first (result_faults path f.spec) (dimension_fault f.names f.dimensions) none.0), declared_known names f.names had.0, formals_stated names classes path fs r had.1 none.1)

groups_stated : (names classes : List Place) (path : Scopes) (groups : List (TypeSpec × List Placed)) → Reads classes path path → PlacesHad names (group_names groups) → NoFaults (group_faults path groups) → KnowsGroups names classes (typed_groups path groups)
groups_stated names classes path [] r k h = tt
groups_stated names classes path (g ∷ groups) r k h =
    let none = none_two (spec_faults path g.0) (group_faults path groups) h in
    let had = places_two names g.1 (group_names groups) k in
    (spec_known classes path path g.0 r none.0, declared_known names g.1 had.0, groups_stated names classes path groups r had.1 none.1)

fields_more : (classes : List Place) (xs : List Placed) (t : ValueType) (fields : List (List ℕ × ValueType)) → KnowsType classes t → FieldsKnow classes fields → FieldsKnow classes (fields_of xs t ++ fields)
fields_more classes [] t fields h k = k
fields_more classes (x ∷ xs) t fields h k = (h, fields_more classes xs t fields h k)

fields_stated : (classes : List Place) (outer : NamePath) (path : Scopes) (groups : List (TypeSpec × List Placed)) → Reads classes outer path → NoFaults (group_faults path groups) → FieldsKnow classes (class_fields outer groups)
fields_stated classes outer path [] r h = tt
fields_stated classes outer path (g ∷ groups) r h =
    let none = none_two (spec_faults path g.0) (group_faults path groups) h in
    fields_more classes g.1 (spec_type outer g.0) (class_fields outer groups) (spec_known classes outer path g.0 r none.0) (fields_stated classes outer path groups r none.1)

-- ---- declarations

pub record FineDecl (names classes : List Place) (d : DeclOut) (n : Naming) : Type 0 where
  pub sound : NoFaults d.inside → Sound classes (KnowsDecl names classes d.decl) n

pub record FineDecls (names classes : List Place) (d : DeclsOut) (n : Naming) : Type 0 where
  pub sound : NoFaults d.inside → Sound classes (KnowsDecls names classes d.decls) n

pub no_more_decls_fine : {names classes : List Place} → FineDecls names classes no_more_decls nothing
no_more_decls_fine = record { sound = λ h. record { tree = tt; fields = tt } }

pub decl_fine : {names classes : List Place} (d : DeclOut) (more : DeclsOut) (m n : Naming) → FineDecl names classes d m → FineDecls names classes more n → FineDecls names classes (decl_out d more) (and m n)
decl_fine d more m n i j = record { sound = λ h. let none = none_two d.inside more.inside h in both m n (i.sound none.0) (j.sound none.1) }

pub simple_fine : {names classes : List Place} {outer : NamePath} {path : Scopes} (spec : TypeSpec) (xs : List Placed) → Around names classes outer path → PlacesHad names xs → FineDecl names classes (simple_out path spec xs) nothing
simple_fine {names = names} {classes = classes} {outer = outer} {path = path} spec xs w k = record { sound = λ h. record { tree = (spec_known classes path path spec (reads_known w) h, declared_known names xs k); fields = tt } }

pub array_fine : {names classes : List Place} {outer : NamePath} {path : Scopes} (spec : TypeSpec) (xs : List Placed) (n : ℕ) (bounds : BoundsOut) (m : Naming) → Around names classes outer path → PlacesHad names xs → FineBounds names classes bounds m
    → FineDecl names classes (array_out path spec xs n bounds) m
array_fine {names = names} {classes = classes} {outer = outer} {path = path} spec xs n bounds m w k i = record {
  sound = λ h.
      let none = none_three (spec_faults path spec) (dimension_fault xs n) bounds.inside h in
      let s = i.sound none.2 in
      record { tree = (spec_known classes path path spec (reads_known w) none.0, declared_known names xs k, s.tree); fields = s.fields };
}

pub procedure_fine : {names classes : List Place} {outer : NamePath} {path : Scopes} (p : Place) (result : Option TypeSpec) (x : Placed) (fs : List Formal) (body : Out) (frame : Frame) (xs : List Placed) (n : Naming) → Around names classes outer path → has names x.1 ≡ true → PlacesHad names (formal_names fs) → Fine names classes body n
    → FineDecl names classes (procedure_out path p result x fs body) (and (declares frame xs) n)
procedure_fine {names = names} {classes = classes} {outer = outer} {path = path} p result x fs body frame xs n w d k i = record {
  sound = λ h.
      let types = result_faults path result ++ formal_faults path fs in
      let none = none_four types (twice [] (formal_scope path fs)) (faults body) (fault_of (procedure_verdict p (result_faults path result) (result_type path result) body)) h in
      let own = none_two (result_faults path result) (formal_faults path fs) none.0 in
      let s = i.sound none.2 in
      record {
        tree = (result_known classes path result (reads_known w) own.0, d, formals_stated names classes path fs (reads_known w) k own.1, s.tree);
        fields = s.fields;
      };
}

pub class_fine : {names classes : List Place} {outer : NamePath} {path : Scopes} (c : ClassDecl) → Around names classes outer path → has names c.name.1 ≡ true → PlacesHad names (group_names c.groups) → FineDecl names classes (class_out path c) (class_naming outer c)
class_fine {names = names} {classes = classes} {outer = outer} {path = path} c w d k = record {
  sound = λ h. record {
    tree = (d, groups_stated names classes path c.groups (reads_known w) k h);
    fields = (fields_stated classes outer path c.groups (reads_names w) h, tt);
  };
}

-- ---- blocks

pub block_fine : {names classes : List Place} (p f : Place) (twices : List Diagnostic) (decls : DeclsOut) (items : ItemsOut) (frame : Frame) (xs : List Placed) (m n : Naming) → FineDecls names classes decls m → FineItems names classes items n
    → Fine names classes (block_out p f twices decls items) (and (declares frame xs) (and m n))
block_fine {classes = classes} p f twices decls items frame xs m n i j = made (twices ++ decls.inside ++ items.inside) p f items.verdict (typed.Block decls.decls items.items) (and (declares frame xs) (and m n)) j.told (λ h.
    let none = none_three twices decls.inside items.inside h in
    let s = i.sound none.1 in
    let t = j.sound none.2 in
    record { tree = (s.tree, t.tree); fields = fields_both classes m n s.fields t.fields })
