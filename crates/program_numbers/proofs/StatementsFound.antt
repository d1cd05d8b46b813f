-- The statements that are found are those of the typed tree, in another order: a phrase is found behind its parts.
use Rattle.std.proofs.Common.{◌≡◌, List, [], ◌∷◌, ◌++◌, Option, Some, None, refl, sym, ap, subst, ◌∙◌, append-nil}
use Rattle.value_ops.specs.declared.places.Place.{Place}
use Rattle.algolw_tree.specs.Tree as tree
use Rattle.algolw_typing.specs.Actuals.{Reading, Wanted, as_phrases, behind, wanted}
use Rattle.algolw_typing.specs.Names.{Entry, declared}
use Rattle.algolw_typing.specs.Programs.{by_place, counted_at, statements, actuals_statements, bounds_statements, decl_statements, decls_statements, items_statements, kind_statements, links_statements, lists_statements, nodes_statements}
use Rattle.algolw_typing.specs.Scopes.{Known, Scopes, control_scope, formal_scope, label_entries, names_of_block, result_type, spec_type, standard_scope}
use Rattle.algolw_typing.specs.Faults.{typed_program}
use Rattle.algolw_typing.specs.Typed as typed
use Rattle.algolw_typing.specs.Types.{Gives, Statement, ValueType}
use Rattle.algolw_typing.specs.Typing.{as_verdict, first_list, given, gives, is_setting, item_verdict, link_verdict, list_verdict, meaning_of, meanings, more_lists, part_verdict, reading_of, target, then_item, typed_bounds, typed_decl, typed_decls, typed_formals, typed_groups, typed_items, typed_kind, typed_links, typed_parts, typed_phrase, typed_phrases, uncounted, use_as_base, use_with_list}
use Rattle.algolw_typing.specs.Verdicts.{Verdict, Good}
use Rattle.typed_findings.specs.Findings.{Found, Phrase, Name, as_type, counted_places, formals_found, found_of, found_of_actuals, found_of_bounds, found_of_decl, found_of_decls, found_of_items, found_of_kind, found_of_links, found_of_lists, found_of_nodes, groups_found}
use Rattle.program_numbers.proofs.PlacesAlike.{Alike, alike_sorted, alike_both, alike_front}
use Rattle.program_numbers.proofs.TakenBack.{IsFull, IsFullKind, found_full, kind_full, kind_of, list_either, name_either, node_is, setting_either}

-- ---- what is found in two parts

counted_append : (xs ys : List Found) → counted_places (xs ++ ys) ≡ counted_places xs ++ counted_places ys
counted_append [] ys = refl
counted_append (Phrase g None ∷ xs) ys = counted_append xs ys
counted_append (Phrase g (Some p) ∷ xs) ys = ap (λ zs. p ∷ zs) (counted_append xs ys)
counted_append (Name p ∷ xs) ys = counted_append xs ys

-- the statements that are found are these
record Finds (found : List Found) (places : List Place) : Type 0 where
  pub alike : Alike (counted_places found) places

none : Finds [] []
none = record { alike = λ zs. refl }

both : {xs ys : List Found} {as_ bs : List Place} → Finds xs as_ → Finds ys bs → Finds (xs ++ ys) (as_ ++ bs)
both {xs} {ys} {as_} {bs} h k = record { alike = subst (λ zs. Alike zs (as_ ++ bs)) (sym (counted_append xs ys)) (alike_both (counted_places xs) as_ (counted_places ys) bs h.alike k.alike) }

-- findings that count nothing
none_before : (xs : List Found) {ys : List Found} {bs : List Place} → counted_places xs ≡ [] → Finds ys bs → Finds (xs ++ ys) bs
none_before xs {ys} {bs} e h = record { alike = subst (λ zs. Alike zs bs) (sym (counted_append xs ys ∙ ap (λ zs. zs ++ counted_places ys) e)) h.alike }

none_behind : {xs : List Found} (ys : List Found) {as_ : List Place} → counted_places ys ≡ [] → Finds xs as_ → Finds (xs ++ ys) as_
none_behind {xs} ys {as_} e h = record { alike = subst (λ zs. Alike zs as_) (sym (counted_append xs ys ∙ ap (λ zs. counted_places xs ++ zs) e ∙ append-nil (counted_places xs))) h.alike }

-- A name counts nothing, and no type that is written.
named : (d : Place) {ys : List Found} {bs : List Place} → Finds ys bs → Finds (Name d ∷ ys) bs
named d h = record { alike = h.alike }

written : (t : Option ValueType) {ys : List Found} {bs : List Place} → Finds ys bs → Finds (as_type t ∷ ys) bs
written t h = record { alike = h.alike }

formals_none : (formals : List typed.Formal) → counted_places (formals_found formals) ≡ []
formals_none [] = refl
formals_none (f ∷ formals) = formals_none formals

groups_none : (groups : List typed.Group) → counted_places (groups_found groups) ≡ []
groups_none [] = refl
groups_none (g ∷ groups) = groups_none groups

-- ---- a phrase, behind its parts

abbrev NodeFinds : typed.Node → Type 0
NodeFinds n = Finds (found_of n) (statements n)

abbrev KindFinds : typed.Kind → Type 0
KindFinds l = Finds (found_of_kind l) (kind_statements l)

own_found : (g : Option Gives) (s : Option Place) (l : typed.Kind) → KindFinds l → Finds (found_of_kind l ++ Phrase g s ∷ []) (counted_at s ++ kind_statements l)
own_found g None l h = none_behind (Phrase g None ∷ []) refl h
own_found g (Some p) l h =
    record {
      alike = subst (λ zs. Alike zs (p ∷ kind_statements l)) (sym (counted_append (found_of_kind l) (Phrase g (Some p) ∷ []))) (alike_front (counted_places (found_of_kind l)) (kind_statements l) p h.alike);
    }

at_found : (p f : Place) (g : Option Gives) (s : Option Place) (l : typed.Kind) → IsFullKind l → KindFinds l → NodeFinds (typed.At p f g s l)
at_found p f g s l full h = subst (λ xs. Finds xs (counted_at s ++ kind_statements l)) (sym (found_full p f g s l full)) (own_found g s l h)

full_found : (path : Scopes) (p f : Place) (k : tree.Kind) → IsFull k → KindFinds (kind_of path p f k) → NodeFinds (typed_kind path p f k).node
full_found path p f k full h = subst NodeFinds (sym (node_is path p f k)) (at_found p f _ _ (kind_of path p f k) (kind_full path p f k full) h)

whole_found : (path : Scopes) (p f : Place) (k : tree.Kind) → KindFinds (kind_of path p f k) → NodeFinds (typed_kind path p f k).node
whole_found path p f tree.Empty h = none
whole_found path p f k h = full_found path p f k tt h

right_found : (path : Scopes) (p f : Place) (k : tree.Kind) → KindFinds (kind_of path p f k) → NodeFinds (uncounted (typed_kind path p f k).node)
right_found path p f (tree.Assign a b) h = at_found p f _ None (kind_of path p f (tree.Assign a b)) tt h
right_found path p f (tree.IfThen c a tree.Missing) h = full_found path p f (tree.IfThen c a tree.Missing) tt h
right_found path p f (tree.IfThen c a (tree.There b)) h = full_found path p f (tree.IfThen c a (tree.There b)) tt h
right_found path p f (tree.ForStep x a tree.Missing b body) h = full_found path p f (tree.ForStep x a tree.Missing b body) tt h
right_found path p f (tree.ForStep x a (tree.There step) b body) h = full_found path p f (tree.ForStep x a (tree.There step) b body) tt h
right_found path p f k h = whole_found path p f k h

given_found : (path : Scopes) (w : Wanted) (p f : Place) (k : tree.Kind) → KindFinds (kind_of path p f k) → NodeFinds (given path w (tree.At p f k) (typed_kind path p f k)).node
given_found path w p f (tree.Named x tree.no_lists) h =
    let k : tree.Kind = tree.Named x tree.no_lists in
    name_either NodeFinds w (meaning_of (declared path x)) (typed_kind path p f k) (full_found path p f k tt h) (at_found p f None None (kind_of path p f k) tt h)
given_found path w p f (tree.Named x (tree.list_and (tree.OfActuals q actuals) tree.no_lists)) h =
    let k : tree.Kind = tree.Named x (tree.list_and (tree.OfActuals q actuals) tree.no_lists) in
    list_either NodeFinds p w (meaning_of (declared path x)) (typed_kind path p f k) (full_found path p f k tt h) (at_found p f None None (kind_of path p f k) tt h)
given_found path w p f (tree.Named x lists) h = full_found path p f (tree.Named x lists) tt h
given_found path w p f (tree.Assign a b) h =
    let k : tree.Kind = tree.Assign a b in
    setting_either NodeFinds (is_setting path w a b) (typed_kind path p f k) (full_found path p f k tt h) (right_found path p f k h)
given_found path w p f k h = whole_found path p f k h

-- ---- phrases, part by part

mutual
  node_found : (path : Scopes) (x : tree.Phrase) → NodeFinds (typed_phrase path x).node
  node_found path (tree.At p f k) = whole_found path p f k (kind_found path p f k)

  kind_found : (path : Scopes) (p f : Place) (k : tree.Kind) → KindFinds (kind_of path p f k)
  kind_found path p f (tree.Named x lists) = named (target (declared path x)) (first_lists_found path p (declared path x) lists)
  kind_found path p f (tree.Negated a) = node_found path a
  kind_found path p f (tree.Abs a) = node_found path a
  kind_found path p f (tree.Signed minus a) = node_found path a
  kind_found path p f (tree.Chain a links) = both (node_found path a) (links_found path (as_verdict (gives (typed_phrase path a))) links)
  kind_found path p f (tree.Relation op a b) = both (node_found path a) (node_found path b)
  kind_found path p f (tree.IsClass a x q) = none_behind (Name (target (declared path x)) ∷ []) refl (node_found path a)
  kind_found path p f (tree.Assign a (tree.At p2 f2 k)) = both (node_found path a) (right_found path p2 f2 k (kind_found path p2 f2 k))
  kind_found path p f (tree.IfThen c a tree.Missing) = both (both (node_found path c) (node_found path a)) none
  kind_found path p f (tree.IfThen c a (tree.There b)) = both (both (node_found path c) (node_found path a)) (node_found path b)
  kind_found path p f (tree.CaseValue c values) = both (node_found path c) (nodes_found path values)
  kind_found path p f (tree.CaseDo c parts) = both (node_found path c) (nodes_found path parts)
  kind_found path p f (tree.ForStep x a tree.Missing b body) =
      both (both (both (node_found path a) none) (node_found path b)) (node_found (control_scope p x ∷ path) body)
  kind_found path p f (tree.ForStep x a (tree.There step) b body) =
      both (both (both (node_found path a) (node_found path step)) (node_found path b)) (node_found (control_scope p x ∷ path) body)
  kind_found path p f (tree.ForList x values body) = both (nodes_found path values) (node_found (control_scope p x ∷ path) body)
  kind_found path p f (tree.WhileDo c a) = both (node_found path c) (node_found path a)
  kind_found path p f (tree.Assert c) = node_found path c
  kind_found path p f (tree.Block decls items) =
      let inner = (meanings path (names_of_block decls items ∷ path) decls ++ label_entries items) ∷ path in
      both (decls_found path inner decls) (items_found inner (Good Statement) items)
  kind_found path p f (tree.Goto x) = named (target (declared path x)) none
  kind_found path p f k = none

  nodes_found : (path : Scopes) (phrases : tree.Phrases) → Finds (found_of_nodes (typed_phrases path phrases).nodes) (nodes_statements (typed_phrases path phrases).nodes)
  nodes_found path tree.no_phrases = none
  nodes_found path (tree.phrase_and a phrases) = both (node_found path a) (nodes_found path phrases)

  links_found : (path : Scopes) (v : Verdict) (links : tree.Links) → Finds (found_of_links (typed_links path v links).links) (links_statements (typed_links path v links).links)
  links_found path v tree.no_links = none
  links_found path v (tree.link_and (tree.Linked op q a) links) = both (node_found path a) (links_found path (link_verdict op q v (typed_phrase path a)) links)

  first_lists_found : (path : Scopes) (p : Place) (e : Option (Entry Known)) (lists : tree.Lists) → Finds (found_of_lists (first_list path p e lists).lists) (lists_statements (first_list path p e lists).lists)
  first_lists_found path p e tree.no_lists = none
  first_lists_found path p e (tree.list_and (tree.OfActuals q actuals) lists) = both (actuals_found path (reading_of e) actuals) (more_lists_found path (use_with_list p e (typed_parts path (reading_of e) actuals).parts) lists)
  first_lists_found path p e (tree.list_and (tree.OfPart q a n) lists) = both (node_found path a) (more_lists_found path (part_verdict q n (use_as_base p e (typed_phrase path a)) (typed_phrase path a)) lists)

  more_lists_found : (path : Scopes) (v : Verdict) (lists : tree.Lists) → Finds (found_of_lists (more_lists path v lists).lists) (lists_statements (more_lists path v lists).lists)
  more_lists_found path v tree.no_lists = none
  more_lists_found path v (tree.list_and (tree.OfActuals q actuals) lists) = both (actuals_found path as_phrases actuals) (more_lists_found path (list_verdict q v (typed_parts path as_phrases actuals).parts) lists)
  more_lists_found path v (tree.list_and (tree.OfPart q a n) lists) = both (node_found path a) (more_lists_found path (part_verdict q n v (typed_phrase path a)) lists)

  actuals_found : (path : Scopes) (r : Reading) (actuals : tree.Actuals) → Finds (found_of_actuals (typed_parts path r actuals).actuals) (actuals_statements (typed_parts path r actuals).actuals)
  actuals_found path r tree.no_actuals = none
  actuals_found path r (tree.actual_and (tree.Star q) actuals) = actuals_found path (behind r) actuals
  actuals_found path r (tree.actual_and (tree.Given (tree.At p f k)) actuals) = both (given_found path (wanted r) p f k (kind_found path p f k)) (actuals_found path (behind r) actuals)

  items_found : (path : Scopes) (v : Verdict) (items : tree.Items) → Finds (found_of_items (typed_items path v items).items) (items_statements (typed_items path v items).items)
  items_found path v tree.no_items = none
  items_found path v (tree.item_and (tree.Labelled labels a) items) = both (node_found path a) (items_found path (then_item v (item_verdict items labels a (typed_phrase path a))) items)

  bounds_found : (around : Scopes) (bounds : tree.Bounds) → Finds (found_of_bounds (typed_bounds around bounds).bounds) (bounds_statements (typed_bounds around bounds).bounds)
  bounds_found around tree.no_bounds = none
  bounds_found around (tree.bound_and (tree.Between q a b) bounds) = both (both (node_found around a) (node_found around b)) (bounds_found around bounds)

  decls_found : (around path : Scopes) (decls : tree.Decls) → Finds (found_of_decls (typed_decls around path decls).decls) (decls_statements (typed_decls around path decls).decls)
  decls_found around path tree.no_decls = none
  decls_found around path (tree.decl_and d decls) = both (decl_found around path d) (decls_found around path decls)

  decl_found : (around path : Scopes) (d : tree.Decl) → Finds (found_of_decl (typed_decl around path d).decl) (decl_statements (typed_decl around path d).decl)
  decl_found around path (tree.Simple spec xs) = written (Some (spec_type path spec)) none
  decl_found around path (tree.Array spec xs bounds) = written (Some (spec_type path spec)) (bounds_found around bounds)
  decl_found around path (tree.Proc p result x formals body) = written (result_type path result) (none_before (formals_found (typed_formals path formals)) (formals_none (typed_formals path formals)) (node_found (formal_scope path formals ∷ path) body))
  decl_found around path (tree.Class c) = record { alike = subst (λ zs. Alike zs []) (sym (groups_none (typed_groups path c.groups))) (λ zs. refl) }

-- in order of place they are one list
pub statements_found : (x : tree.Phrase) → by_place (λ p. p) (counted_places (found_of (typed_program x).node)) ≡ by_place (λ p. p) (statements (typed_program x).node)
statements_found x = alike_sorted (counted_places (found_of (typed_program x).node)) (statements (typed_program x).node) (node_found (standard_scope ∷ []) x).alike
