-- In scopes whose names and classes are those of a program, each part of its typed tree is known.
use Rattle.std.proofs.Common.{ℕ, List, [], ◌∷◌, Option, Some, None}
use Rattle.value_ops.specs.declared.places.Place.{Place}
use Rattle.algolw_tree.specs.Tree as tree
use Rattle.algolw_typing.specs.Names.{Entry, declared}
use Rattle.algolw_typing.specs.Types.{Statement}
use Rattle.algolw_typing.specs.Verdicts.{Verdict, Good, Fault, fault_of}
use Rattle.algolw_typing.specs.Actuals.{Reading, as_phrases, wanted, behind}
use Rattle.algolw_typing.specs.Scopes.{Known, Scopes, formal_scope, names_of_block, twice, bound_count, control_scope}
use Rattle.algolw_typing.specs.Typing.{gives, as_verdict, left_of, link_verdict, use_alone, use_as_base, use_with_list, part_verdict, list_verdict, reading_of, given, item_verdict, then_item, typed_phrase, typed_kind, typed_phrases, typed_links, first_list, more_lists, typed_parts, typed_items, typed_bounds, typed_decls, typed_decl}
use Rattle.algolw_typing.specs.Naming.{and, nothing, Frame, inside, of_procedure, NamePath, scope_of, decl_names, decls_names, label_names, block_names, formal_names, declares, naming, kind_naming, phrases_naming, links_naming, lists_naming, actuals_naming, items_naming, bounds_naming, decls_naming, decl_naming}
use Rattle.algolw_typing.proofs.GoodScopes.{NoFaults}
use Rattle.algolw_typing.proofs.GoodBlocks as blocks
use Rattle.algolw_typing.proofs.KnownTypes.{Tells, a_statement, then_told, as_verdict_told}
use Rattle.algolw_typing.proofs.KnownNames.{FoundIs, MeansKnown, use_alone_told, use_with_list_told, part_verdict_told, list_verdict_told}
use Rattle.algolw_typing.proofs.KnownScopes.{PlacesHad, Within, places_two, within_first, within_second, infos_places, Around}
use Rattle.algolw_typing.proofs.KnownBlocks.{around_block, around_formals, around_control}
use Rattle.algolw_typing.proofs.KnownOuts.{Fine, gives_known, leaf_fine, empty_fine, negated_fine, absolute_fine, signed_fine, relation_fine, assign_fine, is_fine, goto_fine, if_fine, if_else_fine, FineOuts, no_outs_fine, out_and_fine, case_value_fine, case_do_fine, for_until_fine, for_step_fine, for_list_fine, while_fine, assert_fine, FineLinks, no_more_fine, link_verdict_told, link_fine, chain_fine}
use Rattle.algolw_typing.proofs.KnownParts.{FineLists, listed_fine, FineParts, list_fine, part_fine, IfLost, named_sound, named_fine, no_parts_fine, star_fine, given_fine, InnerOf, actual_fine}
use Rattle.algolw_typing.proofs.KnownDecls.{FineItems, no_more_items_fine, item_verdict_told, item_fine, FineBounds, no_more_bounds_fine, bound_fine, FineDecl, FineDecls, no_more_decls_fine, decl_fine, simple_fine, array_fine, procedure_fine, class_fine, block_fine}

-- ---- a name that isn't found is at fault, whatever stands behind it

lost_more : (path : Scopes) (n : ℕ) (p : Place) (lists : tree.Lists) → NoFaults (fault_of (more_lists path (Fault n p) lists).verdict) → ⊥
lost_more path n p tree.no_lists h = h
lost_more path n p (tree.list_and (tree.OfActuals q _) lists) h = lost_more path n p lists h
lost_more path n p (tree.list_and (tree.OfPart q a m) lists) h = lost_more path n p lists h

lost_first : (path : Scopes) (p : Place) (e : Option (Entry Known)) (lists : tree.Lists) → IfLost e (first_list path p e lists).verdict
lost_first path p (Some e) lists = tt
lost_first path p None tree.no_lists = λ h. h
lost_first path p None (tree.list_and (tree.OfActuals q _) lists) = λ h. lost_more path 30 p lists h
lost_first path p None (tree.list_and (tree.OfPart q a m) lists) = λ h. lost_more path 30 p lists h

-- ---- the parts of a tree

mutual
  pub phrase_known : {names classes : List Place} (frame : Frame) (outer : NamePath) (path : Scopes) → Around names classes outer path → (a : tree.Phrase) → Within names classes (naming frame outer a) → Fine names classes (typed_phrase path a) (naming frame outer a)
  phrase_known frame outer path w (tree.At p f k) n = kind_known frame outer path w p f k n

  kind_known : {names classes : List Place} (frame : Frame) (outer : NamePath) (path : Scopes) → Around names classes outer path → (p f : Place) (k : tree.Kind) → Within names classes (kind_naming frame outer p k) → Fine names classes (typed_kind path p f k) (kind_naming frame outer p k)
  kind_known frame outer path w p f tree.Empty n = empty_fine p f
  kind_known frame outer path w p f tree.Null n = leaf_fine p f _ _ tt tt
  kind_known frame outer path w p f (tree.Number i) n = leaf_fine p f _ _ tt tt
  kind_known frame outer path w p f (tree.Truth b) n = leaf_fine p f _ _ tt tt
  kind_known frame outer path w p f (tree.BitsLit b) n = leaf_fine p f _ _ tt tt
  kind_known frame outer path w p f (tree.Quoted s) n = leaf_fine p f _ _ tt tt
  kind_known frame outer path w p f (tree.Named x lists) n =
      let e = declared path x in
      let l = lists_naming frame outer lists in
      named_fine p f e (first_list path p e lists) l (w.had x) (lost_first path p e lists) (first_known frame outer path w p e (w.means x) lists n)
  kind_known frame outer path w p f (tree.Negated a) n = negated_fine p f (typed_phrase path a) (naming frame outer a) (phrase_known frame outer path w a n)
  kind_known frame outer path w p f (tree.Abs a) n = absolute_fine p f (typed_phrase path a) (naming frame outer a) (phrase_known frame outer path w a n)
  kind_known frame outer path w p f (tree.Signed minus a) n = signed_fine p f minus (typed_phrase path a) (naming frame outer a) (phrase_known frame outer path w a n)
  kind_known frame outer path w p f (tree.Chain a links) n =
      let o = typed_phrase path a in
      let l = naming frame outer a in
      let m = links_naming frame outer links in
      let i = phrase_known frame outer path w a (within_first l m n) in
      chain_fine p f o (typed_links path (as_verdict (gives o)) links) l m i (links_known frame outer path w (as_verdict (gives o)) (as_verdict_told (gives o) (gives_known o i)) links (within_second l m n))
  kind_known frame outer path w p f (tree.Relation op a b) n =
      let l = naming frame outer a in
      let m = naming frame outer b in
      relation_fine p f op (typed_phrase path a) (typed_phrase path b) l m (phrase_known frame outer path w a (within_first l m n)) (phrase_known frame outer path w b (within_second l m n))
  kind_known frame outer path w p f (tree.IsClass a x q) n =
      let l = naming frame outer a in
      is_fine p f (x, q) (declared path x) (typed_phrase path a) l (w.had x) (w.class x) (phrase_known frame outer path w a n)
  kind_known frame outer path w p f (tree.Assign a b) n =
      let l = naming frame outer a in
      let m = naming frame outer b in
      assign_fine p f (left_of path a) (typed_phrase path a) (typed_phrase path b) l m (phrase_known frame outer path w a (within_first l m n)) (phrase_known frame outer path w b (within_second l m n))
  kind_known frame outer path w p f (tree.IfThen c a tree.Missing) n =
      let l = naming frame outer c in
      let m = naming frame outer a in
      let rest = within_second l (and m nothing) n in
      if_fine p f (typed_phrase path c) (typed_phrase path a) l m (phrase_known frame outer path w c (within_first l (and m nothing) n)) (phrase_known frame outer path w a (within_first m nothing rest))
  kind_known frame outer path w p f (tree.IfThen c a (tree.There b)) n =
      let l = naming frame outer c in
      let m = naming frame outer a in
      let o = naming frame outer b in
      let rest = within_second l (and m o) n in
      if_else_fine p f (typed_phrase path c) (typed_phrase path a) (typed_phrase path b) l m o
      (phrase_known frame outer path w c (within_first l (and m o) n)) (phrase_known frame outer path w a (within_first m o rest)) (phrase_known frame outer path w b (within_second m o rest))
  kind_known frame outer path w p f (tree.CaseValue c values) n =
      let l = naming frame outer c in
      let m = phrases_naming frame outer values in
      case_value_fine p f (typed_phrase path c) (typed_phrases path values) l m (phrase_known frame outer path w c (within_first l m n)) (phrases_known frame outer path w values (within_second l m n))
  kind_known frame outer path w p f (tree.CaseDo c parts) n =
      let l = naming frame outer c in
      let m = phrases_naming frame outer parts in
      case_do_fine p f (typed_phrase path c) (typed_phrases path parts) l m (phrase_known frame outer path w c (within_first l m n)) (phrases_known frame outer path w parts (within_second l m n))
  kind_known frame outer path w p f (tree.ForStep x a tree.Missing b body) n =
      let xs = (x, p) ∷ [] in
      let own = inside frame xs in
      let l = naming own outer a in
      let m = naming own outer b in
      let o = naming own (scope_of xs ∷ outer) body in
      let all = and l (and nothing (and m o)) in
      let rest = within_second (declares frame xs) all n in
      let last = within_second nothing (and m o) (within_second l (and nothing (and m o)) rest) in
      let had = (within_first (declares frame xs) all n).named.0 in
      for_until_fine p f (typed_phrase path a) (typed_phrase path b) (typed_phrase (control_scope p x ∷ path) body) frame xs l m o had
      (phrase_known own outer path w a (within_first l (and nothing (and m o)) rest)) (phrase_known own outer path w b (within_first m o last))
      (phrase_known own (scope_of xs ∷ outer) (control_scope p x ∷ path) (around_control p x had w) body (within_second m o last))
  kind_known frame outer path w p f (tree.ForStep x a (tree.There step) b body) n =
      let xs = (x, p) ∷ [] in
      let own = inside frame xs in
      let l = naming own outer a in
      let s = naming own outer step in
      let m = naming own outer b in
      let o = naming own (scope_of xs ∷ outer) body in
      let all = and l (and s (and m o)) in
      let rest = within_second (declares frame xs) all n in
      let behind_first = within_second l (and s (and m o)) rest in
      let last = within_second s (and m o) behind_first in
      let had = (within_first (declares frame xs) all n).named.0 in
      for_step_fine p f (typed_phrase path a) (typed_phrase path step) (typed_phrase path b) (typed_phrase (control_scope p x ∷ path) body) frame xs l s m o had
      (phrase_known own outer path w a (within_first l (and s (and m o)) rest)) (phrase_known own outer path w step (within_first s (and m o) behind_first)) (phrase_known own outer path w b (within_first m o last))
      (phrase_known own (scope_of xs ∷ outer) (control_scope p x ∷ path) (around_control p x had w) body (within_second m o last))
  kind_known frame outer path w p f (tree.ForList x values body) n =
      let xs = (x, p) ∷ [] in
      let own = inside frame xs in
      let l = phrases_naming own outer values in
      let m = naming own (scope_of xs ∷ outer) body in
      let rest = within_second (declares frame xs) (and l m) n in
      let had = (within_first (declares frame xs) (and l m) n).named.0 in
      for_list_fine p f (typed_phrases path values) (typed_phrase (control_scope p x ∷ path) body) frame xs l m had
      (phrases_known own outer path w values (within_first l m rest)) (phrase_known own (scope_of xs ∷ outer) (control_scope p x ∷ path) (around_control p x had w) body (within_second l m rest))
  kind_known frame outer path w p f (tree.WhileDo c a) n =
      let l = naming frame outer c in
      let m = naming frame outer a in
      while_fine p f (typed_phrase path c) (typed_phrase path a) l m (phrase_known frame outer path w c (within_first l m n)) (phrase_known frame outer path w a (within_second l m n))
  kind_known frame outer path w p f (tree.Goto x) n = goto_fine p f (declared path x) (w.had x)
  kind_known frame outer path w p f (tree.Assert c) n = assert_fine p f (typed_phrase path c) (naming frame outer c) (phrase_known frame outer path w c n)
  kind_known {names = names} frame outer path w p f (tree.Block decls items) n =
      let xs = block_names decls items in
      let own = inside frame xs in
      let inner = scope_of xs ∷ outer in
      let within = blocks.scope_of path decls items ∷ path in
      let l = decls_naming own outer inner decls in
      let m = items_naming own inner items in
      let rest = within_second (declares frame xs) (and l m) n in
      let had = infos_places names frame xs (within_first (declares frame xs) (and l m) n).named in
      let each = places_two names (decls_names decls) (label_names items) had in
      let v = around_block own decls items had w (within_first l m rest) in
      block_fine p f (twice [] (names_of_block decls items)) (typed_decls path within decls) (typed_items within (Good Statement) items) frame xs l m
      (decls_known own outer path w inner within v decls each.0 (within_first l m rest)) (items_known own inner within v (Good Statement) a_statement items each.1 (within_second l m rest))

  phrases_known : {names classes : List Place} (frame : Frame) (outer : NamePath) (path : Scopes) → Around names classes outer path → (as_ : tree.Phrases) → Within names classes (phrases_naming frame outer as_) → FineOuts names classes (typed_phrases path as_) (phrases_naming frame outer as_)
  phrases_known frame outer path w tree.no_phrases n = no_outs_fine
  phrases_known frame outer path w (tree.phrase_and a as_) n =
      let l = naming frame outer a in
      let m = phrases_naming frame outer as_ in
      out_and_fine (typed_phrase path a) (typed_phrases path as_) l m (phrase_known frame outer path w a (within_first l m n)) (phrases_known frame outer path w as_ (within_second l m n))

  links_known : {names classes : List Place} (frame : Frame) (outer : NamePath) (path : Scopes) → Around names classes outer path → (v : Verdict) → Tells classes v → (links : tree.Links) → Within names classes (links_naming frame outer links) → FineLinks names classes (typed_links path v links) (links_naming frame outer links)
  links_known frame outer path w v t tree.no_links n = no_more_fine v t
  links_known frame outer path w v t (tree.link_and (tree.Linked op p a) links) n =
      let o = typed_phrase path a in
      let l = naming frame outer a in
      let m = links_naming frame outer links in
      link_fine op p o (typed_links path (link_verdict op p v o) links) l m (phrase_known frame outer path w a (within_first l m n)) (links_known frame outer path w (link_verdict op p v o) (link_verdict_told op p v o) links (within_second l m n))

  first_known : {names classes : List Place} (frame : Frame) (outer : NamePath) (path : Scopes) → Around names classes outer path → (p : Place) (e : Option (Entry Known)) → FoundIs (MeansKnown classes) e → (lists : tree.Lists) → Within names classes (lists_naming frame outer lists)
      → FineLists names classes (first_list path p e lists) (lists_naming frame outer lists)
  first_known frame outer path w p e k tree.no_lists n = listed_fine (use_alone p e) (use_alone_told p e k)
  first_known frame outer path w p e k (tree.list_and (tree.OfActuals q actuals) lists) n =
      let r = typed_parts path (reading_of e) actuals in
      let l = actuals_naming frame outer actuals in
      let m = lists_naming frame outer lists in
      let v = use_with_list p e r.parts in
      list_fine q r (more_lists path v lists) l m (parts_known frame outer path w (reading_of e) actuals (within_first l m n)) (more_known frame outer path w v (use_with_list_told p e r.parts k) lists (within_second l m n))
  first_known frame outer path w p e k (tree.list_and (tree.OfPart q a i) lists) n =
      let o = typed_phrase path a in
      let l = naming frame outer a in
      let m = lists_naming frame outer lists in
      let v = part_verdict q i (use_as_base p e o) o in
      part_fine q i o (more_lists path v lists) l m (phrase_known frame outer path w a (within_first l m n)) (more_known frame outer path w v (part_verdict_told q i (use_as_base p e o) o) lists (within_second l m n))

  more_known : {names classes : List Place} (frame : Frame) (outer : NamePath) (path : Scopes) → Around names classes outer path → (v : Verdict) → Tells classes v → (lists : tree.Lists) → Within names classes (lists_naming frame outer lists) → FineLists names classes (more_lists path v lists) (lists_naming frame outer lists)
  more_known frame outer path w v t tree.no_lists n = listed_fine v t
  more_known frame outer path w v t (tree.list_and (tree.OfActuals q actuals) lists) n =
      let r = typed_parts path as_phrases actuals in
      let l = actuals_naming frame outer actuals in
      let m = lists_naming frame outer lists in
      let u = list_verdict q v r.parts in
      list_fine q r (more_lists path u lists) l m (parts_known frame outer path w as_phrases actuals (within_first l m n)) (more_known frame outer path w u (list_verdict_told q v r.parts) lists (within_second l m n))
  more_known frame outer path w v t (tree.list_and (tree.OfPart q a i) lists) n =
      let o = typed_phrase path a in
      let l = naming frame outer a in
      let m = lists_naming frame outer lists in
      let u = part_verdict q i v o in
      part_fine q i o (more_lists path u lists) l m (phrase_known frame outer path w a (within_first l m n)) (more_known frame outer path w u (part_verdict_told q i v o) lists (within_second l m n))

  parts_known : {names classes : List Place} (frame : Frame) (outer : NamePath) (path : Scopes) → Around names classes outer path → (r : Reading) (actuals : tree.Actuals) → Within names classes (actuals_naming frame outer actuals) → FineParts names classes (typed_parts path r actuals) (actuals_naming frame outer actuals)
  parts_known frame outer path w r tree.no_actuals n = no_parts_fine
  parts_known frame outer path w r (tree.actual_and (tree.Star q) actuals) n = star_fine q (typed_parts path (behind r) actuals) (actuals_naming frame outer actuals) (parts_known frame outer path w (behind r) actuals n)
  parts_known frame outer path w r (tree.actual_and (tree.Given a) actuals) n =
      let o = typed_phrase path a in
      let l = naming frame outer a in
      let m = actuals_naming frame outer actuals in
      given_fine (given path (wanted r) a o) (typed_parts path (behind r) actuals) l m
      (actual_fine path (wanted r) a o l (phrase_known frame outer path w a (within_first l m n)) (inner_known frame outer path w a (within_first l m n))) (parts_known frame outer path w (behind r) actuals (within_second l m n))

  -- a name in a list, whatever verdict it has
  inner_known : {names classes : List Place} (frame : Frame) (outer : NamePath) (path : Scopes) → Around names classes outer path → (a : tree.Phrase) → Within names classes (naming frame outer a) → InnerOf names classes path a (typed_phrase path a) (naming frame outer a)
  inner_known frame outer path w (tree.At p f (tree.Named x lists)) n =
      let e = declared path x in
      let l = lists_naming frame outer lists in
      named_sound e (first_list path p e lists) l (w.had x) (first_known frame outer path w p e (w.means x) lists n)
  inner_known frame outer path w a n = tt

  items_known : {names classes : List Place} (frame : Frame) (outer : NamePath) (path : Scopes) → Around names classes outer path → (v : Verdict) → Tells classes v → (items : tree.Items) → PlacesHad names (label_names items) → Within names classes (items_naming frame outer items)
      → FineItems names classes (typed_items path v items) (items_naming frame outer items)
  items_known frame outer path w v t tree.no_items had n = no_more_items_fine v t
  items_known {names = names} frame outer path w v t (tree.item_and (tree.Labelled labels a) items) had n =
      let o = typed_phrase path a in
      let l = naming frame outer a in
      let m = items_naming frame outer items in
      let u = item_verdict items labels a o in
      let each = places_two names labels (label_names items) had in
      let i = phrase_known frame outer path w a (within_first l m n) in
      item_fine labels o u (typed_items path (then_item v u) items) l m each.0 i (items_known frame outer path w (then_item v u) (then_told v u (item_verdict_told items labels a o l i)) items each.1 (within_second l m n))

  bounds_known : {names classes : List Place} (frame : Frame) (outer : NamePath) (path : Scopes) → Around names classes outer path → (bounds : tree.Bounds) → Within names classes (bounds_naming frame outer bounds) → FineBounds names classes (typed_bounds path bounds) (bounds_naming frame outer bounds)
  bounds_known frame outer path w tree.no_bounds n = no_more_bounds_fine
  bounds_known frame outer path w (tree.bound_and (tree.Between p a b) bounds) n =
      let l = naming frame outer a in
      let m = naming frame outer b in
      let o = bounds_naming frame outer bounds in
      let rest = within_second l (and m o) n in
      bound_fine p (typed_phrase path a) (typed_phrase path b) (typed_bounds path bounds) l m o (phrase_known frame outer path w a (within_first l (and m o) n)) (phrase_known frame outer path w b (within_first m o rest)) (bounds_known frame outer path w bounds (within_second m o rest))

  decls_known : {names classes : List Place} (frame : Frame) (outer : NamePath) (around : Scopes) → Around names classes outer around → (inner : NamePath) (path : Scopes) → Around names classes inner path → (decls : tree.Decls) → PlacesHad names (decls_names decls) → Within names classes (decls_naming frame outer inner decls)
      → FineDecls names classes (typed_decls around path decls) (decls_naming frame outer inner decls)
  decls_known frame outer around w inner path v tree.no_decls had n = no_more_decls_fine
  decls_known {names = names} frame outer around w inner path v (tree.decl_and d decls) had n =
      let l = decl_naming frame outer inner d in
      let m = decls_naming frame outer inner decls in
      let each = places_two names (decl_names d) (decls_names decls) had in
      decl_fine (typed_decl around path d) (typed_decls around path decls) l m (decl_known frame outer around w inner path v d each.0 (within_first l m n)) (decls_known frame outer around w inner path v decls each.1 (within_second l m n))

  decl_known : {names classes : List Place} (frame : Frame) (outer : NamePath) (around : Scopes) → Around names classes outer around → (inner : NamePath) (path : Scopes) → Around names classes inner path → (d : tree.Decl) → PlacesHad names (decl_names d) → Within names classes (decl_naming frame outer inner d)
      → FineDecl names classes (typed_decl around path d) (decl_naming frame outer inner d)
  decl_known frame outer around w inner path v (tree.Simple spec xs) had n = simple_fine spec xs v had
  decl_known frame outer around w inner path v (tree.Array spec xs bounds) had n =
      let m = bounds_naming frame outer bounds in
      array_fine spec xs (bound_count bounds) (typed_bounds around bounds) m v had (bounds_known frame outer around w bounds n)
  decl_known {names = names} frame outer around w inner path v (tree.Proc p result x fs body) had n =
      let xs = formal_names fs in
      let own = of_procedure frame in
      let m = naming (inside own xs) (scope_of xs ∷ inner) body in
      let formals = infos_places names own xs (within_first (declares own xs) m n).named in
      procedure_fine p result x fs (typed_phrase (formal_scope path fs ∷ path) body) own xs m v had.0 formals
      (phrase_known (inside own xs) (scope_of xs ∷ inner) (formal_scope path fs ∷ path) (around_formals fs formals v) body (within_second (declares own xs) m n))
  decl_known frame outer around w inner path v (tree.Class c) had n = class_fine c v had.0 had.1
