-- Each record class that a typed tree declares is one of its program's.
use Rattle.std.proofs.Common.{◌≡◌, ℕ, suc, ◌+◌, ◌≤◌, List, [], ◌∷◌, ◌++◌, map, refl, sym, subst, arith}
use Rattle.std.specs.Prelude.{Option, Bool, true, false, ⊤}
use Rattle.value_ops.specs.declared.places.Place.{Place}
use Rattle.algolw_tree.specs.Tree as tree
use Rattle.algolw_tree.specs.Tree.{Placed, Formal, Phrase}
use Rattle.algolw_tree.specs.Standards.{StandardNames, standard_table}
use Rattle.algolw_typing.specs.Types.{ValueType, Statement, is_place, has}
use Rattle.algolw_typing.specs.Verdicts.{Verdict, Good}
use Rattle.algolw_typing.specs.Meanings.{FormalType, by_name, by_value, by_result, by_value_result, for_array, for_procedure}
use Rattle.algolw_typing.specs.Actuals.{Reading, as_phrases, wanted, behind}
use Rattle.algolw_typing.specs.Names.{Entry, declared}
use Rattle.algolw_typing.specs.Scopes.{Known, Scopes, standard_entries, standard_scope, formal_scope, label_entries, names_of_block, control_scope}
use Rattle.algolw_typing.specs.Typed as typed
use Rattle.algolw_typing.specs.Typing.{gives, as_verdict, link_verdict, item_verdict, then_item, typed_phrase, typed_phrases, typed_links, typed_items, typed_bounds, typed_decls, typed_decl, typed_formals, typed_parts, first_list, more_lists, typed_groups, use_with_list, use_as_base, list_verdict, part_verdict, reading_of, meanings}
use Rattle.algolw_typing.specs.Naming.{Class, Naming, and, nothing, declares, Frame, inside, outermost, standard_names, of_procedure, NamePath, scope_of, block_names, formal_names, naming, program_naming, kind_naming, phrases_naming, links_naming, lists_naming, actuals_naming, items_naming, bounds_naming, decls_naming, decl_naming}
use Rattle.algolw_typing.specs.Programs.{program_of}
use Rattle.program_meaning.specs.Translating as translating
use Rattle.program_meaning.specs.Translating.{Declared, count, formal_declared, type_of_formal, standard_known}
use Rattle.program_soundness.specs.Kinds.{Meaning}
use Rattle.program_soundness.specs.Tables.{Info, known_at, each_info, group_info, fields_info, decl_info, decls_info, labels_info, formals_info, control_info, infos, nodes_infos, links_infos, lists_infos, actuals_infos, items_infos, bounds_infos, decls_infos, inner_infos, standard_infos, all_infos}
use Rattle.program_soundness.proofs.Records.{place_read}
use Rattle.faultless_programs.proofs.Calls.{given_infos}
use Rattle.compilable_programs.specs.Compiled.{class_places}
use Rattle.compilable_programs.proofs.Binders.{weight}
use Rattle.compilable_programs.proofs.Declarations.{uncounted_infos}
use Rattle.compilable_programs.proofs.Suiting.{at}
use Rattle.compilable_programs.proofs.Ordered.{itself_weighs, ordered_weighs, weighs_had}

module _ (classes : List Place) where
  -- ---- declarations of which each class is one of these

  abbrev ClassHeld : Place → Declared → Type 0
  ClassHeld p (translating.a_class types) = has classes p ≡ true
  ClassHeld p d = ⊤

  abbrev AllHeld : List Info → Type 0
  AllHeld [] = ⊤
  AllHeld (i ∷ is) = ClassHeld i.place i.known × AllHeld is

  pub record Held (is : List Info) : Type 0 where
    pub all : AllHeld is

  none : Held []
  none = record { all = tt }

  all_both : (xs ys : List Info) → AllHeld xs → AllHeld ys → AllHeld (xs ++ ys)
  all_both [] ys h k = k
  all_both (x ∷ xs) ys h k = (h.0, all_both xs ys h.1 k)

  pub both : {xs ys : List Info} → Held xs → Held ys → Held (xs ++ ys)
  both {xs} {ys} h k = record { all = all_both xs ys h.all k.all }

  -- what is known as a class is one of them
  held_case : (i : Info) (rest : Declared) (p : Place) (types : List ValueType) (b : Bool) → is_place i.place p ≡ b → ClassHeld i.place i.known → (rest ≡ translating.a_class types → has classes p ≡ true) → (elim b [ true ↦ i.known | false ↦ rest ]) ≡ translating.a_class types → has classes p ≡ true
  held_case i rest p types true q h f e = subst (λ z. has classes z ≡ true) (place_read i.place p q) (subst (ClassHeld i.place) e h)
  held_case i rest p types false q h f e = f e

  all_held_at : (is : List Info) (p : Place) (types : List ValueType) → AllHeld is → known_at is p ≡ translating.a_class types → has classes p ≡ true
  all_held_at [] p types h e = absurd (cc e)
  all_held_at (i ∷ is) p types h e = held_case i (known_at is p) p types (is_place i.place p) refl h.0 (λ f. all_held_at is p types h.1 f) e

  pub held_at : (is : List Info) (p : Place) (types : List ValueType) → Held is → known_at is p ≡ translating.a_class types → has classes p ≡ true
  held_at is p types h e = all_held_at is p types h.all e

  -- ---- a naming of which each class is one of these

  abbrev AllHad : List Class → Type 0
  AllHad [] = ⊤
  AllHad (c ∷ cs) = (has classes c.place ≡ true) × AllHad cs

  pub record Had (n : Naming) : Type 0 where
    pub all : AllHad n.classes

  two : (xs ys : List Class) → AllHad (xs ++ ys) → AllHad xs × AllHad ys
  two [] ys h = (tt, h)
  two (x ∷ xs) ys h = let more = two xs ys h.1 in ((h.0, more.0), more.1)

  left : (a b : Naming) → Had (and a b) → Had a
  left a b h = record { all = (two a.classes b.classes h.all).0 }

  right : (a b : Naming) → Had (and a b) → Had b
  right a b h = record { all = (two a.classes b.classes h.all).1 }

  -- ---- names of declarations

  each_held : (d : Declared) (o : Option Meaning) (xs : List typed.Placed) (js : List Info) → ((p : Place) → ClassHeld p d) → AllHeld js → AllHeld (each_info d o xs js)
  each_held d o [] js f h = h
  each_held d o (x ∷ xs) js f h = (f x.0, each_held d o xs js f h)

  group_held : (class : Place) (n : ℕ) (t : ValueType) (xs : List typed.Placed) (js : List Info) → AllHeld js → AllHeld (group_info class n t xs js)
  group_held class n t [] js h = h
  group_held class n t (x ∷ xs) js h = (tt, group_held class (n + 1) t xs js h)

  fields_held : (class : Place) (n : ℕ) (groups : List typed.Group) (js : List Info) → AllHeld js → AllHeld (fields_info class n groups js)
  fields_held class n [] js h = h
  fields_held class n (g ∷ groups) js h = group_held class n g.type g.names (fields_info class (n + count g.names) groups js) (fields_held class (n + count g.names) groups js h)

  formal_held : (t : FormalType) (p : Place) → ClassHeld p (formal_declared t)
  formal_held (by_name t) p = tt
  formal_held (by_value t) p = tt
  formal_held (by_result t) p = tt
  formal_held (by_value_result t) p = tt
  formal_held (for_array t n) p = tt
  formal_held (for_procedure result) p = tt

  formals_held : (fs : List typed.Formal) → AllHeld (formals_info fs)
  formals_held [] = tt
  formals_held (f ∷ fs) = each_held (formal_declared (type_of_formal f)) _ f.names (formals_info fs) (formal_held (type_of_formal f)) (formals_held fs)

  labels_held : (its : typed.Items) → AllHeld (labels_info its)
  labels_held typed.no_items = tt
  labels_held (typed.item_and (typed.Labelled labels a) its) = each_held translating.unknown _ labels (labels_info its) (λ p. tt) (labels_held its)

  decl_held : (d : tree.Decl) (frame : Frame) (outer scope : NamePath) (around path : Scopes) (js : List Info) → AllHad (decl_naming frame outer scope d).classes → AllHeld js → AllHeld (decl_info (typed_decl around path d).decl js)
  decl_held (tree.Simple spec xs) frame outer scope around path js k h = each_held _ _ _ js (λ p. tt) h
  decl_held (tree.Array spec xs pairs) frame outer scope around path js k h = each_held _ _ _ js (λ p. tt) h
  decl_held (tree.Proc p result x formals body) frame outer scope around path js k h = (tt, h)
  decl_held (tree.Class c) frame outer scope around path js k h = (k.0, fields_held c.name.1 0 (typed_groups path c.groups) js h)

  decls_held : (ds : tree.Decls) (frame : Frame) (outer scope : NamePath) (around path : Scopes) → Had (decls_naming frame outer scope ds) → AllHeld (decls_info (typed_decls around path ds).decls)
  decls_held tree.no_decls frame outer scope around path h = tt
  decls_held (tree.decl_and d rest) frame outer scope around path h = decl_held d frame outer scope around path (decls_info (typed_decls around path rest).decls) (left (decl_naming frame outer scope d) (decls_naming frame outer scope rest) h).all (decls_held rest frame outer scope around path (right (decl_naming frame outer scope d) (decls_naming frame outer scope rest) h))

  control_held : (p : Place) → Held (control_info p)
  control_held p = record { all = (tt, tt) }

  -- ---- trees

  mutual
    pub held : (x : tree.Phrase) (frame : Frame) (outer : NamePath) (path : Scopes) → Had (naming frame outer x) → Held (infos (typed_phrase path x).node)
    held (tree.At p f k) frame outer path h = kind_held k p f frame outer path h

    kind_held : (k : tree.Kind) (p f : Place) (frame : Frame) (outer : NamePath) (path : Scopes) → Had (kind_naming frame outer p k) → Held (infos (typed_phrase path (tree.At p f k)).node)
    kind_held tree.Empty p f frame outer path h = none
    kind_held tree.Null p f frame outer path h = none
    kind_held (tree.Number n) p f frame outer path h = none
    kind_held (tree.Truth b) p f frame outer path h = none
    kind_held (tree.BitsLit b) p f frame outer path h = none
    kind_held (tree.Quoted s) p f frame outer path h = none
    kind_held (tree.Goto x) p f frame outer path h = none
    kind_held (tree.Named x lists) p f frame outer path h = first_held lists frame outer path p (declared path x) h
    kind_held (tree.Negated a) p f frame outer path h = held a frame outer path h
    kind_held (tree.Abs a) p f frame outer path h = held a frame outer path h
    kind_held (tree.Signed minus a) p f frame outer path h = held a frame outer path h
    kind_held (tree.Chain a links) p f frame outer path h =
        let m = naming frame outer a in
        let n = links_naming frame outer links in
        both (held a frame outer path (left m n h)) (links_held links frame outer path (as_verdict (gives (typed_phrase path a))) (right m n h))
    kind_held (tree.Relation op a b) p f frame outer path h =
        let m = naming frame outer a in
        let n = naming frame outer b in
        both (held a frame outer path (left m n h)) (held b frame outer path (right m n h))
    kind_held (tree.IsClass a x q) p f frame outer path h = held a frame outer path h
    kind_held (tree.Assign a b) p f frame outer path h =
        let u = (typed_phrase path b).node in
        let m = naming frame outer a in
        let n = naming frame outer b in
        both (held a frame outer path (left m n h)) (subst Held (sym (uncounted_infos (λ q. 0) u)) (held b frame outer path (right m n h)))
    kind_held (tree.IfThen c a tree.Missing) p f frame outer path h =
        let l = naming frame outer c in
        let m = naming frame outer a in
        let r = right l (and m nothing) h in
        both (held c frame outer path (left l (and m nothing) h)) (both (held a frame outer path (left m nothing r)) none)
    kind_held (tree.IfThen c a (tree.There b)) p f frame outer path h =
        let l = naming frame outer c in
        let m = naming frame outer a in
        let n = naming frame outer b in
        let r = right l (and m n) h in
        both (held c frame outer path (left l (and m n) h)) (both (held a frame outer path (left m n r)) (held b frame outer path (right m n r)))
    kind_held (tree.CaseValue c values) p f frame outer path h =
        let m = naming frame outer c in
        let n = phrases_naming frame outer values in
        both (held c frame outer path (left m n h)) (phrases_held values frame outer path (right m n h))
    kind_held (tree.CaseDo c parts) p f frame outer path h =
        let m = naming frame outer c in
        let n = phrases_naming frame outer parts in
        both (held c frame outer path (left m n h)) (phrases_held parts frame outer path (right m n h))
    kind_held (tree.ForStep x a tree.Missing b body) p f frame outer path h =
        let xs : List Placed = (x, p) ∷ [] in
        let g = inside frame xs in
        let l = naming g outer a in
        let m = naming g outer b in
        let n = naming g (scope_of xs ∷ outer) body in
        let q = right (declares frame xs) (and l (and nothing (and m n))) h in
        let r = right nothing (and m n) (right l (and nothing (and m n)) q) in
        both (held a g outer path (left l (and nothing (and m n)) q)) (both none (both (held b g outer path (left m n r)) (both (control_held p) (held body g (scope_of xs ∷ outer) (control_scope p x ∷ path) (right m n r)))))
    kind_held (tree.ForStep x a (tree.There step) b body) p f frame outer path h =
        let xs : List Placed = (x, p) ∷ [] in
        let g = inside frame xs in
        let l = naming g outer a in
        let k = naming g outer step in
        let m = naming g outer b in
        let n = naming g (scope_of xs ∷ outer) body in
        let q = right (declares frame xs) (and l (and k (and m n))) h in
        let s = right l (and k (and m n)) q in
        let r = right k (and m n) s in
        both (held a g outer path (left l (and k (and m n)) q)) (both (held step g outer path (left k (and m n) s)) (both (held b g outer path (left m n r)) (both (control_held p) (held body g (scope_of xs ∷ outer) (control_scope p x ∷ path) (right m n r)))))
    kind_held (tree.ForList x values body) p f frame outer path h =
        let xs : List Placed = (x, p) ∷ [] in
        let g = inside frame xs in
        let m = phrases_naming g outer values in
        let n = naming g (scope_of xs ∷ outer) body in
        let q = right (declares frame xs) (and m n) h in
        both (phrases_held values g outer path (left m n q)) (both (control_held p) (held body g (scope_of xs ∷ outer) (control_scope p x ∷ path) (right m n q)))
    kind_held (tree.WhileDo c a) p f frame outer path h =
        let m = naming frame outer c in
        let n = naming frame outer a in
        both (held c frame outer path (left m n h)) (held a frame outer path (right m n h))
    kind_held (tree.Assert c) p f frame outer path h = held c frame outer path h
    kind_held (tree.Block decls items) p f frame outer path h =
        let xs = block_names decls items in
        let g = inside frame xs in
        let scope = scope_of xs ∷ outer in
        let inner : Scopes = (meanings path (names_of_block decls items ∷ path) decls ++ label_entries items) ∷ path in
        let its = (typed_items inner (Good Statement) items).items in
        let m = decls_naming g outer scope decls in
        let n = items_naming g scope items in
        let q = right (declares frame xs) (and m n) h in
        let d = left m n q in
        both (record { all = decls_held decls g outer scope path inner d }) (both (record { all = labels_held its }) (both (inner_held decls g outer scope path inner d) (items_held items g scope inner (Good Statement) (right m n q))))

    phrases_held : (xs : tree.Phrases) (frame : Frame) (outer : NamePath) (path : Scopes) → Had (phrases_naming frame outer xs) → Held (nodes_infos (typed_phrases path xs).nodes)
    phrases_held tree.no_phrases frame outer path h = none
    phrases_held (tree.phrase_and a rest) frame outer path h =
        let m = naming frame outer a in
        let n = phrases_naming frame outer rest in
        both (held a frame outer path (left m n h)) (phrases_held rest frame outer path (right m n h))

    links_held : (ls : tree.Links) (frame : Frame) (outer : NamePath) (path : Scopes) (v : Verdict) → Had (links_naming frame outer ls) → Held (links_infos (typed_links path v ls).links)
    links_held tree.no_links frame outer path v h = none
    links_held (tree.link_and (tree.Linked op p a) rest) frame outer path v h =
        let m = naming frame outer a in
        let n = links_naming frame outer rest in
        both (held a frame outer path (left m n h)) (links_held rest frame outer path (link_verdict op p v (typed_phrase path a)) (right m n h))

    first_held : (ls : tree.Lists) (frame : Frame) (outer : NamePath) (path : Scopes) (p : Place) (e : Option (Entry Known)) → Had (lists_naming frame outer ls) → Held (lists_infos (first_list path p e ls).lists)
    first_held tree.no_lists frame outer path p e h = none
    first_held (tree.list_and (tree.OfActuals q actuals) rest) frame outer path p e h =
        let r = typed_parts path (reading_of e) actuals in
        let m = actuals_naming frame outer actuals in
        let n = lists_naming frame outer rest in
        both (actuals_held actuals frame outer path (reading_of e) (left m n h)) (more_held rest frame outer path (use_with_list p e r.parts) (right m n h))
    first_held (tree.list_and (tree.OfPart q a n) rest) frame outer path p e h =
        let o = typed_phrase path a in
        let m = naming frame outer a in
        let k = lists_naming frame outer rest in
        both (held a frame outer path (left m k h)) (more_held rest frame outer path (part_verdict q n (use_as_base p e o) o) (right m k h))

    more_held : (ls : tree.Lists) (frame : Frame) (outer : NamePath) (path : Scopes) (v : Verdict) → Had (lists_naming frame outer ls) → Held (lists_infos (more_lists path v ls).lists)
    more_held tree.no_lists frame outer path v h = none
    more_held (tree.list_and (tree.OfActuals q actuals) rest) frame outer path v h =
        let r = typed_parts path as_phrases actuals in
        let m = actuals_naming frame outer actuals in
        let n = lists_naming frame outer rest in
        both (actuals_held actuals frame outer path as_phrases (left m n h)) (more_held rest frame outer path (list_verdict q v r.parts) (right m n h))
    more_held (tree.list_and (tree.OfPart q a n) rest) frame outer path v h =
        let o = typed_phrase path a in
        let m = naming frame outer a in
        let k = lists_naming frame outer rest in
        both (held a frame outer path (left m k h)) (more_held rest frame outer path (part_verdict q n v o) (right m k h))

    actuals_held : (xs : tree.Actuals) (frame : Frame) (outer : NamePath) (path : Scopes) (r : Reading) → Had (actuals_naming frame outer xs) → Held (actuals_infos (typed_parts path r xs).actuals)
    actuals_held tree.no_actuals frame outer path r h = none
    actuals_held (tree.actual_and (tree.Star q) rest) frame outer path r h = actuals_held rest frame outer path (behind r) h
    actuals_held (tree.actual_and (tree.Given a) rest) frame outer path r h =
        let m = naming frame outer a in
        let n = actuals_naming frame outer rest in
        both (subst Held (sym (given_infos path (wanted r) a (typed_phrase path a))) (held a frame outer path (left m n h))) (actuals_held rest frame outer path (behind r) (right m n h))

    items_held : (its : tree.Items) (frame : Frame) (outer : NamePath) (path : Scopes) (v : Verdict) → Had (items_naming frame outer its) → Held (items_infos (typed_items path v its).items)
    items_held tree.no_items frame outer path v h = none
    items_held (tree.item_and (tree.Labelled labels a) rest) frame outer path v h =
        let m = naming frame outer a in
        let n = items_naming frame outer rest in
        both (held a frame outer path (left m n h)) (items_held rest frame outer path (then_item v (item_verdict rest labels a (typed_phrase path a))) (right m n h))

    bounds_held : (bs : tree.Bounds) (frame : Frame) (outer : NamePath) (path : Scopes) → Had (bounds_naming frame outer bs) → Held (bounds_infos (typed_bounds path bs).bounds)
    bounds_held tree.no_bounds frame outer path h = none
    bounds_held (tree.bound_and (tree.Between p a b) rest) frame outer path h =
        let l = naming frame outer a in
        let m = naming frame outer b in
        let n = bounds_naming frame outer rest in
        let r = right l (and m n) h in
        both (held a frame outer path (left l (and m n) h)) (both (held b frame outer path (left m n r)) (bounds_held rest frame outer path (right m n r)))

    inner_held : (ds : tree.Decls) (frame : Frame) (outer scope : NamePath) (around path : Scopes) → Had (decls_naming frame outer scope ds) → Held (decls_infos (typed_decls around path ds).decls)
    inner_held tree.no_decls frame outer scope around path h = none
    inner_held (tree.decl_and d rest) frame outer scope around path h =
        let m = decl_naming frame outer scope d in
        let n = decls_naming frame outer scope rest in
        both (in_decl_held d frame outer scope around path (left m n h)) (inner_held rest frame outer scope around path (right m n h))

    in_decl_held : (d : tree.Decl) (frame : Frame) (outer scope : NamePath) (around path : Scopes) → Had (decl_naming frame outer scope d) → Held (inner_infos (typed_decl around path d).decl)
    in_decl_held (tree.Simple spec xs) frame outer scope around path h = none
    in_decl_held (tree.Array spec xs pairs) frame outer scope around path h = bounds_held pairs frame outer around h
    in_decl_held (tree.Proc p result x formals body) frame outer scope around path h =
        let xs = formal_names formals in
        let g = of_procedure frame in
        let n = naming (inside g xs) (scope_of xs ∷ scope) body in
        let r = right (declares g xs) n h in
        both (record { all = formals_held (typed_formals path formals) }) (held body (inside g xs) (scope_of xs ∷ scope) (formal_scope path formals ∷ path) r)
    in_decl_held (tree.Class c) frame outer scope around path h = none

-- ---- programs

-- each class at a place where the others have one is one of them
each_inside : (classes : List Place) (cs : List Class) → ((p : Place) → 1 ≤ weight (at p) (map (λ (c : Class). c.place) cs) → has classes p ≡ true) → AllHad classes cs
each_inside classes [] h = tt
each_inside classes (c ∷ cs) h = (h c.place (omega (arith, itself_weighs c.place)), each_inside classes cs (λ p w. h p (omega (arith, w))))

-- no standard name is a class
standard_held : (classes : List Place) (n : ℕ) (names : StandardNames) → AllHeld classes (standard_infos (standard_known (standard_entries n names)))
standard_held classes n [] = tt
standard_held classes n (x ∷ names) = (tt, standard_held classes (suc n) names)

pub program_held : (x : Phrase) → Held (class_places (program_of x)) (all_infos (program_of x).root)
program_held x =
    let classes = class_places (program_of x) in
    let had = each_inside classes (program_naming x).classes (λ p w. weighs_had p classes (omega (arith, w, ordered_weighs (λ (c : Class). c.place) (at p) (program_naming x).classes))) in
    let standard : Held classes (standard_infos (standard_known standard_scope)) = record { all = standard_held classes 1 standard_table } in
    both classes standard
    (held classes x (inside outermost standard_names) (scope_of standard_names ∷ []) (standard_scope ∷ []) (record { all = had }))
