-- A program without faults has a type at every node that wants one: by the parts of its tree, each in scopes whose names all mean something.
use Rattle.std.proofs.Common.{subst, sym, List, [], ◌∷◌, ◌++◌, Option, Bool, true, false}
use Rattle.value_ops.specs.declared.places.Place.{Place}
use Rattle.value_ops.specs.declared.places.Diagnostic.{Diagnostic}
use Rattle.algolw_tree.specs.Tree as tree
use Rattle.algolw_typing.specs.Names.{Entry, declared}
use Rattle.algolw_typing.specs.Types.{Statement}
use Rattle.algolw_typing.specs.Verdicts.{Verdict, Good, fault_of}
use Rattle.algolw_typing.specs.Actuals.{Reading, as_phrases, wanted, behind}
use Rattle.algolw_typing.specs.Scopes.{Known, Scopes, result_faults, result_type, formal_faults, formal_scope, names_of_block, twice, bound_count, control_scope, standard_scope}
use Rattle.algolw_typing.specs.Typing.{faults, gives, as_verdict, link_verdict, left_of, use_as_base, use_with_list, part_verdict, list_verdict, reading_of, given, item_verdict, then_item, array_faults, procedure_verdict, typed_phrase, typed_kind, typed_phrases, typed_links, first_list, more_lists, typed_parts, typed_items, typed_bounds, typed_decls, typed_decl, DeclOut}
use Rattle.algolw_typing.specs.Faults.{is_in_front, inserted, in_order, typed_program, program_verdict, faults_found}
use Rattle.algolw_typing.specs.Whole.{DeclIsWhole, TypesEverywhere}
use Rattle.algolw_typing.proofs.Decided.{Decided}
use Rattle.algolw_typing.proofs.GoodScopes.{NoFaults, none_first, none_second, none_two, none_four, GoodFound, GoodPath, found_good, good_formals, good_control, good_standard}
use Rattle.algolw_typing.proofs.GoodBlocks.{scope_of, good_block}
use Rattle.algolw_typing.proofs.SoundOuts.{IsGood, Fine, settled, leaf_fine, empty_fine, negated_fine, absolute_fine, signed_fine, relation_fine, is_fine, goto_fine, assign_fine, if_fine, if_else_fine, FineOuts, no_outs_fine, out_and_fine, case_value_fine, case_do_fine, for_until_fine, for_step_fine, for_list_fine, while_fine, assert_fine, FineLinks, no_more_fine, link_fine, chain_fine, use_alone_decided, use_as_base_decided, use_with_list_decided, part_verdict_decided, list_verdict_decided, FineLists, named_fine, FineItems, no_more_items_fine, item_fine, FineBounds, bound_fine, FineDecls, block_fine, a_type}
use Rattle.algolw_typing.proofs.SoundParts.{FineParts, no_parts_fine, star_fine, given_fine, list_fine, part_fine, FineList, phrase_given_fine}

-- ---- a declaration

abbrev FineDecl : DeclOut → Type 0
FineDecl d = NoFaults d.inside → DeclIsWhole d.decl

-- ---- the parts of a tree

mutual
  pub phrase_whole : (path : Scopes) → GoodPath path → (a : tree.Phrase) → Fine (typed_phrase path a)
  phrase_whole path g (tree.At p f k) = kind_whole path g p f k

  kind_whole : (path : Scopes) → GoodPath path → (p f : Place) (k : tree.Kind) → Fine (typed_kind path p f k)
  kind_whole path g p f tree.Empty = empty_fine p f
  kind_whole path g p f tree.Null = leaf_fine p f _ _ tt
  kind_whole path g p f (tree.Number n) = leaf_fine p f _ _ tt
  kind_whole path g p f (tree.Truth b) = leaf_fine p f _ _ tt
  kind_whole path g p f (tree.BitsLit b) = leaf_fine p f _ _ tt
  kind_whole path g p f (tree.Quoted s) = leaf_fine p f _ _ tt
  kind_whole path g p f (tree.Named x lists) = named_fine p f (declared path x) (first_list path p (declared path x) lists) (first_whole path g p (declared path x) (found_good path x g) lists)
  kind_whole path g p f (tree.Negated a) = negated_fine p f (typed_phrase path a) (phrase_whole path g a)
  kind_whole path g p f (tree.Abs a) = absolute_fine p f (typed_phrase path a) (phrase_whole path g a)
  kind_whole path g p f (tree.Signed minus a) = signed_fine p f minus (typed_phrase path a) (phrase_whole path g a)
  kind_whole path g p f (tree.Chain a links) = chain_fine p f (typed_phrase path a) (typed_links path (as_verdict (gives (typed_phrase path a))) links) (phrase_whole path g a) (links_whole path g (as_verdict (gives (typed_phrase path a))) links)
  kind_whole path g p f (tree.Relation op a b) = relation_fine p f op (typed_phrase path a) (typed_phrase path b) (phrase_whole path g a) (phrase_whole path g b)
  kind_whole path g p f (tree.IsClass a x q) = is_fine p f (x, q) (declared path x) (typed_phrase path a) (found_good path x g) (phrase_whole path g a)
  kind_whole path g p f (tree.Assign a b) = assign_fine p f (left_of path a) (typed_phrase path a) (typed_phrase path b) (phrase_whole path g a) (phrase_whole path g b)
  kind_whole path g p f (tree.IfThen c a tree.Missing) = if_fine p f (typed_phrase path c) (typed_phrase path a) (phrase_whole path g c) (phrase_whole path g a)
  kind_whole path g p f (tree.IfThen c a (tree.There b)) = if_else_fine p f (typed_phrase path c) (typed_phrase path a) (typed_phrase path b) (phrase_whole path g c) (phrase_whole path g a) (phrase_whole path g b)
  kind_whole path g p f (tree.CaseValue c values) = case_value_fine p f (typed_phrase path c) (typed_phrases path values) (phrase_whole path g c) (phrases_whole path g values)
  kind_whole path g p f (tree.CaseDo c parts) = case_do_fine p f (typed_phrase path c) (typed_phrases path parts) (phrase_whole path g c) (phrases_whole path g parts)
  kind_whole path g p f (tree.ForStep x a tree.Missing b body) =
      for_until_fine p f (typed_phrase path a) (typed_phrase path b) (typed_phrase (control_scope p x ∷ path) body) (phrase_whole path g a) (phrase_whole path g b) (phrase_whole (control_scope p x ∷ path) (good_control p x, g) body)
  kind_whole path g p f (tree.ForStep x a (tree.There step) b body) =
      for_step_fine p f (typed_phrase path a) (typed_phrase path step) (typed_phrase path b) (typed_phrase (control_scope p x ∷ path) body) (phrase_whole path g a) (phrase_whole path g step) (phrase_whole path g b) (phrase_whole (control_scope p x ∷ path) (good_control p x, g) body)
  kind_whole path g p f (tree.ForList x values body) = for_list_fine p f (typed_phrases path values) (typed_phrase (control_scope p x ∷ path) body) (phrases_whole path g values) (phrase_whole (control_scope p x ∷ path) (good_control p x, g) body)
  kind_whole path g p f (tree.WhileDo c a) = while_fine p f (typed_phrase path c) (typed_phrase path a) (phrase_whole path g c) (phrase_whole path g a)
  kind_whole path g p f (tree.Goto x) = goto_fine p f (declared path x) (found_good path x g)
  kind_whole path g p f (tree.Assert c) = assert_fine p f (typed_phrase path c) (phrase_whole path g c)
  kind_whole path g p f (tree.Block decls items) =
      let inner = scope_of path decls items ∷ path in
      block_fine p f (twice [] (names_of_block decls items)) (typed_decls path inner decls) (typed_items inner (Good Statement) items)
      (λ h. decls_whole path g inner (good_block path decls items g h) decls h)
      (λ h. items_whole inner (good_block path decls items g h) (Good Statement) a_type items)

  phrases_whole : (path : Scopes) → GoodPath path → (as_ : tree.Phrases) → FineOuts (typed_phrases path as_)
  phrases_whole path g tree.no_phrases = no_outs_fine
  phrases_whole path g (tree.phrase_and a as_) = out_and_fine (typed_phrase path a) (typed_phrases path as_) (phrase_whole path g a) (phrases_whole path g as_)

  links_whole : (path : Scopes) → GoodPath path → (v : Verdict) (links : tree.Links) → Decided v → FineLinks (typed_links path v links)
  links_whole path g v tree.no_links d = no_more_fine v d
  links_whole path g v (tree.link_and (tree.Linked op p a) links) d =
      let o = typed_phrase path a in
      link_fine op p v o (typed_links path (link_verdict op p v o) links) d (phrase_whole path g a) (links_whole path g (link_verdict op p v o) links)

  first_whole : (path : Scopes) → GoodPath path → (p : Place) (e : Option (Entry Known)) → GoodFound e → (lists : tree.Lists) → FineLists (first_list path p e lists)
  first_whole path g p e k tree.no_lists = λ h. record { decided = use_alone_decided p e k; whole = tt }
  first_whole path g p e k (tree.list_and (tree.OfActuals q actuals) lists) =
      let r = typed_parts path (reading_of e) actuals in
      list_fine (reading_of e) q r (more_lists path (use_with_list p e r.parts) lists) (parts_whole path g (reading_of e) actuals)
      (λ read. more_whole path g (use_with_list p e r.parts) lists (use_with_list_decided p e r.parts k read))
  first_whole path g p e k (tree.list_and (tree.OfPart q a n) lists) =
      let o = typed_phrase path a in
      part_fine q n o (more_lists path (part_verdict q n (use_as_base p e o) o) lists) (phrase_whole path g a)
      (λ has. more_whole path g (part_verdict q n (use_as_base p e o) o) lists (part_verdict_decided q n (use_as_base p e o) o (use_as_base_decided p e o k has) has))

  more_whole : (path : Scopes) → GoodPath path → (v : Verdict) (lists : tree.Lists) → Decided v → FineLists (more_lists path v lists)
  more_whole path g v tree.no_lists d = λ h. record { decided = d; whole = tt }
  more_whole path g v (tree.list_and (tree.OfActuals q actuals) lists) d =
      let r = typed_parts path as_phrases actuals in
      list_fine as_phrases q r (more_lists path (list_verdict q v r.parts) lists) (parts_whole path g as_phrases actuals)
      (λ read. more_whole path g (list_verdict q v r.parts) lists (list_verdict_decided q v r.parts d read.are_read))
  more_whole path g v (tree.list_and (tree.OfPart q a n) lists) d =
      let o = typed_phrase path a in
      part_fine q n o (more_lists path (part_verdict q n v o) lists) (phrase_whole path g a)
      (λ has. more_whole path g (part_verdict q n v o) lists (part_verdict_decided q n v o d has))

  parts_whole : (path : Scopes) → GoodPath path → (r : Reading) (actuals : tree.Actuals) → FineParts r (typed_parts path r actuals)
  parts_whole path g r tree.no_actuals = no_parts_fine r
  parts_whole path g r (tree.actual_and (tree.Star q) actuals) = star_fine r q (typed_parts path (behind r) actuals) (parts_whole path g (behind r) actuals)
  parts_whole path g r (tree.actual_and (tree.Given a) actuals) =
      given_fine r (given path (wanted r) a (typed_phrase path a)) (typed_parts path (behind r) actuals)
      (phrase_given_fine path g (wanted r) a (phrase_whole path g a) (list_whole path g a))
      (parts_whole path g (behind r) actuals)

  -- the list of a name with one list
  list_whole : (path : Scopes) → GoodPath path → (a : tree.Phrase) → FineList path a
  list_whole path g (tree.At p f (tree.Named x (tree.list_and (tree.OfActuals q actuals) tree.no_lists))) = parts_whole path g (reading_of (declared path x)) actuals
  list_whole path g a = tt

  items_whole : (path : Scopes) → GoodPath path → (v : Verdict) → IsGood v → (items : tree.Items) → FineItems (typed_items path v items)
  items_whole path g v good tree.no_items = no_more_items_fine v good
  items_whole path g v good (tree.item_and (tree.Labelled labels a) items) =
      let o = typed_phrase path a in
      let w = item_verdict items labels a o in
      item_fine items labels a o v (typed_items path (then_item v w) items) good (phrase_whole path g a) (λ next. items_whole path g (then_item v w) next items)

  bounds_whole : (path : Scopes) → GoodPath path → (bounds : tree.Bounds) → FineBounds (typed_bounds path bounds)
  bounds_whole path g tree.no_bounds = λ h. tt
  bounds_whole path g (tree.bound_and (tree.Between p a b) bounds) =
      bound_fine p (typed_phrase path a) (typed_phrase path b) (typed_bounds path bounds) (phrase_whole path g a) (phrase_whole path g b) (bounds_whole path g bounds)

  decls_whole : (around : Scopes) → GoodPath around → (path : Scopes) → GoodPath path → (decls : tree.Decls) → FineDecls (typed_decls around path decls)
  decls_whole around k path g tree.no_decls = λ h. tt
  decls_whole around k path g (tree.decl_and d decls) = λ h.
      let none = none_two (typed_decl around path d).inside (typed_decls around path decls).inside h in
      (decl_whole around k path g d none.0, decls_whole around k path g decls none.1)

  decl_whole : (around : Scopes) → GoodPath around → (path : Scopes) → GoodPath path → (d : tree.Decl) → FineDecl (typed_decl around path d)
  decl_whole around k path g (tree.Simple spec xs) = λ h. tt
  decl_whole around k path g (tree.Array spec xs bounds) = λ h. bounds_whole around k bounds (none_second (array_faults path spec xs (bound_count bounds)) (typed_bounds around bounds).inside h)
  decl_whole around k path g (tree.Proc p result x fs body) = λ h.
      let o = typed_phrase (formal_scope path fs ∷ path) body in
      let types = result_faults path result ++ formal_faults path fs in
      let none = none_four types (twice [] (formal_scope path fs)) (faults o) (fault_of (procedure_verdict p (result_faults path result) (result_type path result) o)) h in
      let good = good_formals path fs (none_second (result_faults path result) (formal_faults path fs) none.0) in
      (settled o (phrase_whole (formal_scope path fs ∷ path) (good, g) body) none.2).whole
  decl_whole around k path g (tree.Class c) = λ h. tt

-- ---- a program

placed_some : (b : Bool) (d e : Diagnostic) (es fs : List Diagnostic) → NoFaults (elim b [ true ↦ d ∷ es | false ↦ e ∷ fs ]) → ⊥
placed_some true d e es fs h = h
placed_some false d e es fs h = h

none_placed : (d : Diagnostic) (es : List Diagnostic) → NoFaults (inserted d es) → ⊥
none_placed d [] h = h
none_placed d (e ∷ es) h = placed_some (is_in_front d e) d e (e ∷ es) (inserted d es) h

pub none_in_order : (ds : List Diagnostic) → NoFaults (in_order ds) → NoFaults ds
none_in_order [] h = tt
none_in_order (d ∷ ds) h = none_placed d (in_order ds) h

pub whole_program : TypesEverywhere
whole_program x e =
    let o = typed_program x in
    let none = none_in_order (faults_found x o) (subst NoFaults (sym e) tt) in
    (settled o (phrase_whole (standard_scope ∷ []) good_standard x) (none_first (faults o) (fault_of (program_verdict x o)) none)).whole
