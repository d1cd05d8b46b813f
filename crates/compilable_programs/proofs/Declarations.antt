-- The names that a tree declares weigh at most what its typed tree declares, and its record classes at most what its names do.
use Rattle.std.proofs.Common.{◌≡◌, ℕ, suc, ◌+◌, ◌≤◌, List, [], ◌∷◌, ◌++◌, refl, ap, arith}
use Rattle.std.specs.Prelude.{Option, Some}
use Rattle.value_ops.specs.declared.places.Place.{Place}
use Rattle.algolw_tree.specs.declared.programs.NameInfo.{NameInfo}
use Rattle.algolw_tree.specs.Tree as tree
use Rattle.algolw_tree.specs.Tree.{Placed, TypeSpec, Formal}
use Rattle.algolw_typing.specs.Types.{ValueType, Statement}
use Rattle.algolw_typing.specs.Verdicts.{Verdict, Good}
use Rattle.algolw_typing.specs.Actuals.{Reading, as_phrases, wanted, behind}
use Rattle.algolw_typing.specs.Names.{Entry, declared}
use Rattle.algolw_typing.specs.Scopes.{Known, Scopes, group_names, formal_scope, label_entries, names_of_block, control_scope, spec_type, result_type}
use Rattle.algolw_typing.specs.Typed as typed
use Rattle.algolw_typing.specs.Typing.{gives, as_verdict, link_verdict, item_verdict, then_item, uncounted, declare_at, typed_phrase, typed_phrases, typed_links, typed_items, typed_bounds, typed_decls, typed_decl, typed_formals, typed_groups, typed_parts, first_list, more_lists, use_with_list, use_as_base, list_verdict, part_verdict, reading_of, given, meanings}
use Rattle.algolw_typing.specs.Naming.{Class, Naming, and, nothing, Frame, infos as frame_infos, inside, of_procedure, NamePath, scope_of, decls_names, decl_names, label_names, block_names, formal_names, declares, naming, kind_naming, phrases_naming, links_naming, lists_naming, actuals_naming, items_naming, bounds_naming, decls_naming, decl_naming}
use Rattle.program_meaning.specs.Translating.{Declared, unknown, count, formal_declared, type_of_formal}
use Rattle.program_soundness.specs.Kinds.{Meaning, a_label, formal_meaning}
use Rattle.program_soundness.specs.Tables.{Info, each_info, group_info, fields_info, decl_info, decls_info, labels_info, formals_info, control_info, infos, nodes_infos, links_infos, lists_infos, actuals_infos, items_infos, bounds_infos, decls_infos, inner_infos}
use Rattle.faultless_programs.proofs.Calls.{given_infos}
use Rattle.compilable_programs.proofs.Binders.{infos_weight, infos_both}

module _ (m : Place → ℕ) where
  abbrev own : List Info → ℕ
  own is = infos_weight m is

  -- ---- what a naming weighs

  abbrev pub names_weight : List NameInfo → ℕ
  names_weight [] = 0
  names_weight (i ∷ is) = m i.place + names_weight is

  abbrev pub classes_weight : List Class → ℕ
  classes_weight [] = 0
  classes_weight (c ∷ cs) = m c.place + classes_weight cs

  abbrev pub placed_weight : List Placed → ℕ
  placed_weight [] = 0
  placed_weight (x ∷ xs) = m x.1 + placed_weight xs

  pub names_both : (a b : List NameInfo) → names_weight (a ++ b) ≡ names_weight a + names_weight b
  names_both [] b = omega arith
  names_both (i ∷ a) b = omega (arith, names_both a b)

  classes_both : (a b : List Class) → classes_weight (a ++ b) ≡ classes_weight a + classes_weight b
  classes_both [] b = omega arith
  classes_both (c ∷ a) b = omega (arith, classes_both a b)

  placed_both : (xs ys : List Placed) → placed_weight (xs ++ ys) ≡ placed_weight xs + placed_weight ys
  placed_both [] ys = omega arith
  placed_both (x ∷ xs) ys = omega (arith, placed_both xs ys)

  -- its classes, but for what weighs v, are among its names, which weigh at most w
  pub record Weighs (n : Naming) (v w : ℕ) : Type 0 where
    pub classes : classes_weight n.classes ≤ v + names_weight n.names
    pub names : names_weight n.names ≤ w

  both : {v w t u : ℕ} (a b : Naming) → Weighs a v w → Weighs b t u → Weighs (and a b) (v + t) (w + u)
  both a b f g = record { classes = omega (arith, f.classes, g.classes, classes_both a.classes b.classes, names_both a.names b.names); names = omega (arith, f.names, g.names, names_both a.names b.names) }

  at_most : {v w : ℕ} (t u : ℕ) (n : Naming) → Weighs n v w → v ≤ t → w ≤ u → Weighs n t u
  at_most t u n f g h = record { classes = omega (arith, f.classes, g); names = omega (arith, f.names, h) }

  empty : Weighs nothing 0 0
  empty = record { classes = omega arith; names = omega arith }

  frame_weight : (frame : Frame) (xs : List Placed) → names_weight (frame_infos frame xs) ≡ placed_weight xs
  frame_weight frame [] = refl
  frame_weight frame (x ∷ xs) = omega (arith, frame_weight (record frame { slot = suc frame.slot }) xs)

  declared_names : (frame : Frame) (xs : List Placed) → Weighs (declares frame xs) 0 (placed_weight xs)
  declared_names frame xs = record { classes = omega arith; names = omega (arith, frame_weight frame xs) }

  -- ---- names of declarations

  each_weight : (d : Declared) (o : Option Meaning) (xs : List Placed) (js : List Info) → own (each_info d o (declare_at xs) js) ≡ placed_weight xs + own js
  each_weight d o [] js = omega arith
  each_weight d o (x ∷ xs) js = omega (arith, each_weight d o xs js)

  group_weight : (class : Place) (n : ℕ) (t : ValueType) (xs : List Placed) (js : List Info) → own (group_info class n t (declare_at xs) js) ≡ placed_weight xs + own js
  group_weight class n t [] js = omega arith
  group_weight class n t (x ∷ xs) js = omega (arith, group_weight class (n + 1) t xs js)

  fields_weight : (class : Place) (n : ℕ) (path : Scopes) (groups : List (TypeSpec × List Placed)) (js : List Info) → own (fields_info class n (typed_groups path groups) js) ≡ placed_weight (group_names groups) + own js
  fields_weight class n path [] js = omega arith
  fields_weight class n path (g ∷ groups) js =
      omega (
        arith,
        group_weight class n (spec_type path g.0) g.1 (fields_info class (n + count (declare_at g.1)) (typed_groups path groups) js),
        fields_weight class (n + count (declare_at g.1)) path groups js,
        placed_both g.1 (group_names groups),
      )

  formals_weight : (path : Scopes) (fs : List Formal) → own (formals_info (typed_formals path fs)) ≡ placed_weight (formal_names fs)
  formals_weight path [] = refl
  formals_weight path (f ∷ fs) =
      let g : typed.Formal = record { type = result_type path f.spec; mode = f.mode; names = declare_at f.names; dimensions = f.dimensions } in
      omega (
        arith,
        each_weight (formal_declared (type_of_formal g)) (Some (formal_meaning (type_of_formal g))) f.names (formals_info (typed_formals path fs)),
        formals_weight path fs,
        placed_both f.names (formal_names fs),
      )

  pub uncounted_infos : (n : typed.Node) → infos (uncounted n) ≡ infos n
  uncounted_infos (typed.At p f g s (typed.Assign a b)) = refl
  uncounted_infos (typed.At p f g s k) = refl

  decl_weight : (d : tree.Decl) (around path : Scopes) (js : List Info) → own (decl_info (typed_decl around path d).decl js) ≡ placed_weight (decl_names d) + own js
  decl_weight (tree.Simple spec xs) around path js = each_weight _ _ xs js
  decl_weight (tree.Array spec xs bounds) around path js = each_weight _ _ xs js
  decl_weight (tree.Proc p result x formals body) around path js = omega arith
  decl_weight (tree.Class c) around path js = omega (arith, fields_weight c.name.1 0 path c.groups js)

  decls_weight : (ds : tree.Decls) (around path : Scopes) → own (decls_info (typed_decls around path ds).decls) ≡ placed_weight (decls_names ds)
  decls_weight tree.no_decls around path = refl
  decls_weight (tree.decl_and d rest) around path =
      omega (arith, decl_weight d around path (decls_info (typed_decls around path rest).decls), decls_weight rest around path, placed_both (decl_names d) (decls_names rest))

  labels_weight : (its : tree.Items) (path : Scopes) (v : Verdict) → own (labels_info (typed_items path v its).items) ≡ placed_weight (label_names its)
  labels_weight tree.no_items path v = refl
  labels_weight (tree.item_and (tree.Labelled labels a) rest) path v =
      let w = then_item v (item_verdict rest labels a (typed_phrase path a)) in
      omega (arith, each_weight unknown (Some a_label) labels (labels_info (typed_items path w rest).items), labels_weight rest path w, placed_both labels (label_names rest))

  two_weigh : (a b : tree.Phrase) (frame : Frame) (outer : NamePath) (path : Scopes) → Weighs (naming frame outer a) 0 (own (infos (typed_phrase path a).node)) → Weighs (naming frame outer b) 0 (own (infos (typed_phrase path b).node))
      → Weighs (and (naming frame outer a) (naming frame outer b)) 0 (own (infos (typed_phrase path a).node ++ infos (typed_phrase path b).node))
  two_weigh a b frame outer path h k =
      at_most 0 _ (and (naming frame outer a) (naming frame outer b)) (both (naming frame outer a) (naming frame outer b) h k) (omega arith) (omega (arith, infos_both m (infos (typed_phrase path a).node) (infos (typed_phrase path b).node)))

  case_weighs : (c : tree.Phrase) (parts : tree.Phrases) (frame : Frame) (outer : NamePath) (path : Scopes) → Weighs (naming frame outer c) 0 (own (infos (typed_phrase path c).node)) → Weighs (phrases_naming frame outer parts) 0 (own (nodes_infos (typed_phrases path parts).nodes))
      → Weighs (and (naming frame outer c) (phrases_naming frame outer parts)) 0 (own (infos (typed_phrase path c).node ++ nodes_infos (typed_phrases path parts).nodes))
  case_weighs c parts frame outer path h k =
      at_most 0 _ (and (naming frame outer c) (phrases_naming frame outer parts)) (both (naming frame outer c) (phrases_naming frame outer parts) h k) (omega arith) (omega (arith, infos_both m (infos (typed_phrase path c).node) (nodes_infos (typed_phrases path parts).nodes)))

  -- ---- trees

  mutual
    pub weighs : (x : tree.Phrase) (frame : Frame) (outer : NamePath) (path : Scopes) → Weighs (naming frame outer x) 0 (own (infos (typed_phrase path x).node))
    weighs (tree.At p f k) frame outer path = kind_weighs k p f frame outer path

    kind_weighs : (k : tree.Kind) (p f : Place) (frame : Frame) (outer : NamePath) (path : Scopes) → Weighs (kind_naming frame outer p k) 0 (own (infos (typed_phrase path (tree.At p f k)).node))
    kind_weighs tree.Empty p f frame outer path = empty
    kind_weighs tree.Null p f frame outer path = empty
    kind_weighs (tree.Number n) p f frame outer path = empty
    kind_weighs (tree.Truth b) p f frame outer path = empty
    kind_weighs (tree.BitsLit b) p f frame outer path = empty
    kind_weighs (tree.Quoted s) p f frame outer path = empty
    kind_weighs (tree.Goto x) p f frame outer path = empty
    kind_weighs (tree.Named x lists) p f frame outer path =
        first_weighs lists frame outer path p (declared path x)
    kind_weighs (tree.Negated a) p f frame outer path = weighs a frame outer path
    kind_weighs (tree.Abs a) p f frame outer path = weighs a frame outer path
    kind_weighs (tree.Signed minus a) p f frame outer path = weighs a frame outer path
    kind_weighs (tree.Chain a links) p f frame outer path =
        let o = typed_phrase path a in
        let v = as_verdict (gives o) in
        let n = and (naming frame outer a) (links_naming frame outer links) in
        at_most 0 _ n (both (naming frame outer a) (links_naming frame outer links) (weighs a frame outer path) (links_weigh links frame outer path v)) (omega arith) (omega (arith, infos_both m (infos o.node) (links_infos (typed_links path v links).links)))
    kind_weighs (tree.Relation op a b) p f frame outer path = two_weigh a b frame outer path (weighs a frame outer path) (weighs b frame outer path)
    kind_weighs (tree.IsClass a x q) p f frame outer path =
        weighs a frame outer path
    kind_weighs (tree.Assign a b) p f frame outer path =
        let u = (typed_phrase path b).node in
        at_most 0 _ (and (naming frame outer a) (naming frame outer b)) (both (naming frame outer a) (naming frame outer b) (weighs a frame outer path) (weighs b frame outer path)) (omega arith)
        (omega (arith, infos_both m (infos (typed_phrase path a).node) (infos (uncounted u)), ap own (uncounted_infos u)))
    kind_weighs (tree.IfThen c a tree.Missing) p f frame outer path =
        let o = (typed_phrase path c).node in
        let u = (typed_phrase path a).node in
        at_most 0 _ (and (naming frame outer c) (and (naming frame outer a) nothing))
        (both (naming frame outer c) (and (naming frame outer a) nothing) (weighs c frame outer path) (both (naming frame outer a) nothing (weighs a frame outer path) empty)) (omega arith)
        (omega (arith, infos_both m (infos o) (infos u ++ []), infos_both m (infos u) []))
    kind_weighs (tree.IfThen c a (tree.There b)) p f frame outer path =
        let o = (typed_phrase path c).node in
        let u = (typed_phrase path a).node in
        let w = (typed_phrase path b).node in
        at_most 0 _ (and (naming frame outer c) (and (naming frame outer a) (naming frame outer b)))
        (both (naming frame outer c) (and (naming frame outer a) (naming frame outer b)) (weighs c frame outer path) (both (naming frame outer a) (naming frame outer b) (weighs a frame outer path) (weighs b frame outer path))) (omega arith)
        (omega (arith, infos_both m (infos o) (infos u ++ infos w), infos_both m (infos u) (infos w)))
    kind_weighs (tree.CaseValue c values) p f frame outer path = case_weighs c values frame outer path (weighs c frame outer path) (phrases_weigh values frame outer path)
    kind_weighs (tree.CaseDo c parts) p f frame outer path = case_weighs c parts frame outer path (weighs c frame outer path) (phrases_weigh parts frame outer path)
    kind_weighs (tree.ForStep x a tree.Missing b body) p f frame outer path =
        let xs : List Placed = (x, p) ∷ [] in
        let g = inside frame xs in
        let inner = control_scope p x ∷ path in
        let o = (typed_phrase path a).node in
        let u = (typed_phrase path b).node in
        let w = (typed_phrase inner body).node in
        let last = naming g (scope_of xs ∷ outer) body in
        at_most 0 _ (and (declares frame xs) (and (naming g outer a) (and nothing (and (naming g outer b) last))))
        (
        both (declares frame xs) (and (naming g outer a) (and nothing (and (naming g outer b) last))) (declared_names frame xs)
        (
        both (naming g outer a) (and nothing (and (naming g outer b) last)) (weighs a g outer path)
        (both nothing (and (naming g outer b) last) empty (both (naming g outer b) last (weighs b g outer path) (weighs body g (scope_of xs ∷ outer) inner)))
        )
        )
        (omega arith) (omega (arith, infos_both m (infos o) ([] ++ (infos u ++ (control_info p ++ infos w))), infos_both m (infos u) (control_info p ++ infos w)))
    kind_weighs (tree.ForStep x a (tree.There step) b body) p f frame outer path =
        let xs : List Placed = (x, p) ∷ [] in
        let g = inside frame xs in
        let inner = control_scope p x ∷ path in
        let o = (typed_phrase path a).node in
        let z = (typed_phrase path step).node in
        let u = (typed_phrase path b).node in
        let w = (typed_phrase inner body).node in
        let last = naming g (scope_of xs ∷ outer) body in
        at_most 0 _ (and (declares frame xs) (and (naming g outer a) (and (naming g outer step) (and (naming g outer b) last))))
        (
        both (declares frame xs) (and (naming g outer a) (and (naming g outer step) (and (naming g outer b) last))) (declared_names frame xs)
        (
        both (naming g outer a) (and (naming g outer step) (and (naming g outer b) last)) (weighs a g outer path)
        (both (naming g outer step) (and (naming g outer b) last) (weighs step g outer path) (both (naming g outer b) last (weighs b g outer path) (weighs body g (scope_of xs ∷ outer) inner)))
        )
        )
        (omega arith)
        (omega (arith, infos_both m (infos o) (infos z ++ (infos u ++ (control_info p ++ infos w))), infos_both m (infos z) (infos u ++ (control_info p ++ infos w)), infos_both m (infos u) (control_info p ++ infos w)))
    kind_weighs (tree.ForList x values body) p f frame outer path =
        let xs : List Placed = (x, p) ∷ [] in
        let g = inside frame xs in
        let inner = control_scope p x ∷ path in
        let w = (typed_phrase inner body).node in
        let last = naming g (scope_of xs ∷ outer) body in
        at_most 0 _ (and (declares frame xs) (and (phrases_naming g outer values) last))
        (
        both (declares frame xs) (and (phrases_naming g outer values) last) (declared_names frame xs)
        (both (phrases_naming g outer values) last (phrases_weigh values g outer path) (weighs body g (scope_of xs ∷ outer) inner))
        )
        (omega arith) (omega (arith, infos_both m (nodes_infos (typed_phrases path values).nodes) (control_info p ++ infos w)))
    kind_weighs (tree.WhileDo c a) p f frame outer path = two_weigh c a frame outer path (weighs c frame outer path) (weighs a frame outer path)
    kind_weighs (tree.Assert c) p f frame outer path = weighs c frame outer path
    kind_weighs (tree.Block decls items) p f frame outer path =
        let xs = block_names decls items in
        let g = inside frame xs in
        let scope = scope_of xs ∷ outer in
        let inner : Scopes = (meanings path (names_of_block decls items ∷ path) decls ++ label_entries items) ∷ path in
        let ds = (typed_decls path inner decls).decls in
        let its = (typed_items inner (Good Statement) items).items in
        let l = decls_naming g outer scope decls in
        let k = items_naming g scope items in
        let d = decls_weigh decls g outer scope path inner in
        let i = items_weigh items g scope inner (Good Statement) in
        record {
          classes =
              omega (
                arith,
                d.classes,
                i.classes,
                frame_weight frame xs,
                placed_both (decls_names decls) (label_names items),
                classes_both l.classes k.classes,
                names_both l.names k.names,
                names_both (frame_infos frame xs) (l.names ++ k.names),
              );
          names =
              omega (
                arith,
                d.names,
                i.names,
                frame_weight frame xs,
                placed_both (decls_names decls) (label_names items),
                names_both l.names k.names,
                names_both (frame_infos frame xs) (l.names ++ k.names),
                decls_weight decls path inner,
                labels_weight items inner (Good Statement),
                infos_both m (decls_info ds) (labels_info its ++ (decls_infos ds ++ items_infos its)),
                infos_both m (labels_info its) (decls_infos ds ++ items_infos its),
                infos_both m (decls_infos ds) (items_infos its),
              );
        }

    phrases_weigh : (xs : tree.Phrases) (frame : Frame) (outer : NamePath) (path : Scopes) → Weighs (phrases_naming frame outer xs) 0 (own (nodes_infos (typed_phrases path xs).nodes))
    phrases_weigh tree.no_phrases frame outer path = empty
    phrases_weigh (tree.phrase_and a rest) frame outer path = case_weighs a rest frame outer path (weighs a frame outer path) (phrases_weigh rest frame outer path)

    links_weigh : (ls : tree.Links) (frame : Frame) (outer : NamePath) (path : Scopes) (v : Verdict) → Weighs (links_naming frame outer ls) 0 (own (links_infos (typed_links path v ls).links))
    links_weigh tree.no_links frame outer path v = empty
    links_weigh (tree.link_and (tree.Linked op p a) rest) frame outer path v =
        let o = typed_phrase path a in
        let w = link_verdict op p v o in
        at_most 0 _ (and (naming frame outer a) (links_naming frame outer rest)) (both (naming frame outer a) (links_naming frame outer rest) (weighs a frame outer path) (links_weigh rest frame outer path w)) (omega arith)
        (omega (arith, infos_both m (infos o.node) (links_infos (typed_links path w rest).links)))

    first_weighs : (ls : tree.Lists) (frame : Frame) (outer : NamePath) (path : Scopes) (p : Place) (e : Option (Entry Known)) → Weighs (lists_naming frame outer ls) 0 (own (lists_infos (first_list path p e ls).lists))
    first_weighs tree.no_lists frame outer path p e = empty
    first_weighs (tree.list_and (tree.OfActuals q actuals) rest) frame outer path p e =
        let r = typed_parts path (reading_of e) actuals in
        let v = use_with_list p e r.parts in
        at_most 0 _ (and (actuals_naming frame outer actuals) (lists_naming frame outer rest)) (both (actuals_naming frame outer actuals) (lists_naming frame outer rest) (actuals_weigh actuals frame outer path (reading_of e)) (more_weigh rest frame outer path v)) (omega arith)
        (omega (arith, infos_both m (actuals_infos r.actuals) (lists_infos (more_lists path v rest).lists)))
    first_weighs (tree.list_and (tree.OfPart q a n) rest) frame outer path p e =
        let o = typed_phrase path a in
        let v = part_verdict q n (use_as_base p e o) o in
        at_most 0 _ (and (naming frame outer a) (lists_naming frame outer rest)) (both (naming frame outer a) (lists_naming frame outer rest) (weighs a frame outer path) (more_weigh rest frame outer path v)) (omega arith)
        (omega (arith, infos_both m (infos o.node) (lists_infos (more_lists path v rest).lists)))

    more_weigh : (ls : tree.Lists) (frame : Frame) (outer : NamePath) (path : Scopes) (v : Verdict) → Weighs (lists_naming frame outer ls) 0 (own (lists_infos (more_lists path v ls).lists))
    more_weigh tree.no_lists frame outer path v = empty
    more_weigh (tree.list_and (tree.OfActuals q actuals) rest) frame outer path v =
        let r = typed_parts path as_phrases actuals in
        let w = list_verdict q v r.parts in
        at_most 0 _ (and (actuals_naming frame outer actuals) (lists_naming frame outer rest)) (both (actuals_naming frame outer actuals) (lists_naming frame outer rest) (actuals_weigh actuals frame outer path as_phrases) (more_weigh rest frame outer path w)) (omega arith)
        (omega (arith, infos_both m (actuals_infos r.actuals) (lists_infos (more_lists path w rest).lists)))
    more_weigh (tree.list_and (tree.OfPart q a n) rest) frame outer path v =
        let o = typed_phrase path a in
        let w = part_verdict q n v o in
        at_most 0 _ (and (naming frame outer a) (lists_naming frame outer rest)) (both (naming frame outer a) (lists_naming frame outer rest) (weighs a frame outer path) (more_weigh rest frame outer path w)) (omega arith)
        (omega (arith, infos_both m (infos o.node) (lists_infos (more_lists path w rest).lists)))

    actuals_weigh : (xs : tree.Actuals) (frame : Frame) (outer : NamePath) (path : Scopes) (r : Reading) → Weighs (actuals_naming frame outer xs) 0 (own (actuals_infos (typed_parts path r xs).actuals))
    actuals_weigh tree.no_actuals frame outer path r = empty
    actuals_weigh (tree.actual_and (tree.Star q) rest) frame outer path r = actuals_weigh rest frame outer path (behind r)
    actuals_weigh (tree.actual_and (tree.Given a) rest) frame outer path r =
        let o = typed_phrase path a in
        let g = given path (wanted r) a o in
        at_most 0 _ (and (naming frame outer a) (actuals_naming frame outer rest)) (both (naming frame outer a) (actuals_naming frame outer rest) (weighs a frame outer path) (actuals_weigh rest frame outer path (behind r))) (omega arith)
        (omega (arith, infos_both m (infos g.node) (actuals_infos (typed_parts path (behind r) rest).actuals), ap own (given_infos path (wanted r) a o)))

    items_weigh : (its : tree.Items) (frame : Frame) (outer : NamePath) (path : Scopes) (v : Verdict) → Weighs (items_naming frame outer its) 0 (own (items_infos (typed_items path v its).items))
    items_weigh tree.no_items frame outer path v = empty
    items_weigh (tree.item_and (tree.Labelled labels a) rest) frame outer path v =
        let o = typed_phrase path a in
        let w = then_item v (item_verdict rest labels a o) in
        at_most 0 _ (and (naming frame outer a) (items_naming frame outer rest)) (both (naming frame outer a) (items_naming frame outer rest) (weighs a frame outer path) (items_weigh rest frame outer path w)) (omega arith)
        (omega (arith, infos_both m (infos o.node) (items_infos (typed_items path w rest).items)))

    bounds_weigh : (bs : tree.Bounds) (frame : Frame) (outer : NamePath) (path : Scopes) → Weighs (bounds_naming frame outer bs) 0 (own (bounds_infos (typed_bounds path bs).bounds))
    bounds_weigh tree.no_bounds frame outer path = empty
    bounds_weigh (tree.bound_and (tree.Between p a b) rest) frame outer path =
        let o = (typed_phrase path a).node in
        let u = (typed_phrase path b).node in
        let more = (typed_bounds path rest).bounds in
        at_most 0 _ (and (naming frame outer a) (and (naming frame outer b) (bounds_naming frame outer rest)))
        (
        both (naming frame outer a) (and (naming frame outer b) (bounds_naming frame outer rest)) (weighs a frame outer path)
        (both (naming frame outer b) (bounds_naming frame outer rest) (weighs b frame outer path) (bounds_weigh rest frame outer path))
        )
        (omega arith) (omega (arith, infos_both m (infos o) (infos u ++ bounds_infos more), infos_both m (infos u) (bounds_infos more)))

    decls_weigh : (ds : tree.Decls) (frame : Frame) (outer scope : NamePath) (around path : Scopes) → Weighs (decls_naming frame outer scope ds) (placed_weight (decls_names ds)) (own (decls_infos (typed_decls around path ds).decls))
    decls_weigh tree.no_decls frame outer scope around path = empty
    decls_weigh (tree.decl_and d rest) frame outer scope around path =
        at_most (placed_weight (decl_names d ++ decls_names rest)) _ (and (decl_naming frame outer scope d) (decls_naming frame outer scope rest))
        (both (decl_naming frame outer scope d) (decls_naming frame outer scope rest) (decl_weighs d frame outer scope around path) (decls_weigh rest frame outer scope around path))
        (omega (arith, placed_both (decl_names d) (decls_names rest)))
        (omega (arith, infos_both m (inner_infos (typed_decl around path d).decl) (decls_infos (typed_decls around path rest).decls)))

    decl_weighs : (d : tree.Decl) (frame : Frame) (outer scope : NamePath) (around path : Scopes) → Weighs (decl_naming frame outer scope d) (placed_weight (decl_names d)) (own (inner_infos (typed_decl around path d).decl))
    decl_weighs (tree.Simple spec xs) frame outer scope around path = at_most _ _ nothing empty (omega arith) (omega arith)
    decl_weighs (tree.Array spec xs bounds) frame outer scope around path =
        at_most _ _ (bounds_naming frame outer bounds) (bounds_weigh bounds frame outer around) (omega arith) (omega arith)
    decl_weighs (tree.Proc p result x formals body) frame outer scope around path =
        let xs = formal_names formals in
        let g = of_procedure frame in
        let within = formal_scope path formals ∷ path in
        let last = naming (inside g xs) (scope_of xs ∷ scope) body in
        at_most _ _ (and (declares g xs) last) (both (declares g xs) last (declared_names g xs) (weighs body (inside g xs) (scope_of xs ∷ scope) within))
        (omega arith) (omega (arith, formals_weight path formals, infos_both m (formals_info (typed_formals path formals)) (infos (typed_phrase within body).node)))
    decl_weighs (tree.Class c) frame outer scope around path = record { classes = omega arith; names = omega arith }
