-- A tree without faults begins what it counts.
use Rattle.std.proofs.Common.{◌≡◌, ℕ, ◌+◌, List, [], ◌∷◌, ◌++◌, refl, sym, subst}
use Rattle.std.specs.Prelude.{Option, Some, None, Bool, true, false, ⊤}
use Rattle.value_ops.specs.declared.places.Place.{Place}
use Rattle.algolw_tree.specs.Tree as tree
use Rattle.algolw_typing.specs.Names.{Entry, declared}
use Rattle.algolw_typing.specs.Types.{ValueType, Gives, Statement, has}
use Rattle.algolw_typing.specs.Verdicts.{Verdict, Good, type_of, fault_of}
use Rattle.algolw_typing.specs.Meanings as typing
use Rattle.algolw_typing.specs.Meanings.{FormalType, Part, a_star, a_phrase, a_setting, as_array, as_procedure, with_formals, not_read, typeless}
use Rattle.algolw_typing.specs.Actuals.{Reading, as_phrases, Wanted, phrase_wanted, formal_wanted, none_wanted, any_wanted, wanted, behind, name_read, phrase_part, is_variable_name, is_subarray, subarray_row}
use Rattle.algolw_typing.specs.Scopes.{Known, Scopes, result_faults, result_type, formal_faults, formal_scope, names_of_block, twice, bound_count, control_scope, class_fault}
use Rattle.algolw_typing.specs.Typed as typed
use Rattle.algolw_typing.specs.Typing.{Out, faults, gives, as_verdict, link_verdict, item_verdict, then_item, array_faults, procedure_verdict, typed_phrase, typed_phrases, typed_links, typed_items, typed_bounds, typed_decls, typed_decl, typed_formals, typed_parts, first_list, more_lists, list_verdict, part_verdict, use_alone, use_as_base, use_with_list, reading_of, meaning_of, given, is_setting, setting_given, read_as, phrase_given, name_given, subarray_given, list_given, parts_of_kind, uncounted, PartOut, listed, named_out}
use Rattle.algolw_typing.specs.Known.{Knows, KnowsKind, KnowsNodes, KnowsLinks, KnowsLists, KnowsActuals, KnowsItems, KnowsBounds, KnowsDecls, KnowsDecl}
use Rattle.algolw_typing.proofs.GoodScopes.{NoFaults, none_first, none_second, none_two, none_three, none_four}
use Rattle.algolw_typing.proofs.GoodBlocks.{scope_of}
use Rattle.program_meaning.specs.Translating as translating
use Rattle.program_meaning.specs.Translating.{Declared, count, field_types}
use Rattle.program_soundness.specs.Kinds.{Context, Meaning}
use Rattle.program_soundness.specs.Tables.{Info, each_info, group_info, fields_info, infos, nodes_infos, links_infos, lists_infos, actuals_infos, items_infos, bounds_infos, decls_infos, inner_infos, decls_info, labels_info, formals_info, control_info}
use Rattle.faultless_programs.specs.Filled.{IsFilled, AreFilled, ListsAreFilled, ActualsAreFilled, LinksAreFilled, ItemsAreFilled, BoundsAreFilled, DeclsAreFilled, DeclIsFilled}
use Rattle.faultless_programs.proofs.Agreeing.{AllAgree, agree_two}
use Rattle.faultless_programs.proofs.Round.{Told, Round}
use Rattle.faultless_programs.proofs.Names.{found_entry}
use Rattle.faultless_programs.proofs.Entering.{round_block, round_bounds, round_body, round_control}
use Rattle.faultless_programs.proofs.Trees.{phrase_fits, uncounted_agree}
use Rattle.faultless_programs.proofs.Calls.{given_infos}
use Rattle.compilable_programs.specs.Begun.{standard_procedures, Begun, AllBegun, LinksBegun, ListsBegun, ActualsBegun, ItemsBegun, BoundsBegun, DeclsBegun, DeclBegun}
use Rattle.compilable_programs.proofs.Classes.{Held, held_at}
use Rattle.compilable_programs.proofs.Standards.{is, counted_statement, not_if, array_elsewhere, procedure_elsewhere, formal_elsewhere, name_counted}

-- ---- names alone

-- what isn't read as a phrase where it stands for something else
abbrev IsSmall : typing.Meaning → Type 0
IsSmall (typing.an_array t n) = ⊥
IsSmall (typing.a_procedure result fs) = ⊥
IsSmall (typing.a_procedure_formal result) = ⊥
IsSmall m = ⊤

small_formal : (f : FormalType) (m : typing.Meaning) (v : Verdict) → IsSmall m → name_read (formal_wanted f) m v ≡ phrase_part (is_variable_name m) (type_of v)
small_formal f (typing.an_array t n) v i = absurd i
small_formal f (typing.a_procedure result fs) v i = absurd i
small_formal f (typing.a_procedure_formal result) v i = absurd i
small_formal f (typing.a_variable t) v i = refl
small_formal f (typing.a_class ts) v i = refl
small_formal f (typing.a_field c t) v i = refl
small_formal f typing.a_label v i = refl
small_formal f typing.a_control v i = refl
small_formal f (typing.a_standard s) v i = refl

small_extra : (m : typing.Meaning) (v : Verdict) → IsSmall m → name_read none_wanted m v ≡ phrase_part (is_variable_name m) (type_of v)
small_extra (typing.an_array t n) v i = absurd i
small_extra (typing.a_procedure result fs) v i = absurd i
small_extra (typing.a_procedure_formal result) v i = absurd i
small_extra (typing.a_variable t) v i = refl
small_extra (typing.a_class ts) v i = refl
small_extra (typing.a_field c t) v i = refl
small_extra typing.a_label v i = refl
small_extra typing.a_control v i = refl
small_extra (typing.a_standard s) v i = refl

small_later : (m : typing.Meaning) (v : Verdict) → IsSmall m → name_read any_wanted m v ≡ phrase_part (is_variable_name m) (type_of v)
small_later (typing.an_array t n) v i = absurd i
small_later (typing.a_procedure result fs) v i = absurd i
small_later (typing.a_procedure_formal result) v i = absurd i
small_later (typing.a_variable t) v i = refl
small_later (typing.a_class ts) v i = refl
small_later (typing.a_field c t) v i = refl
small_later typing.a_label v i = refl
small_later typing.a_control v i = refl
small_later (typing.a_standard s) v i = refl

small_read : (w : Wanted) (m : typing.Meaning) (v : Verdict) → IsSmall m → name_read w m v ≡ phrase_part (is_variable_name m) (type_of v)
small_read phrase_wanted m v i = refl
small_read (formal_wanted f) m v i = small_formal f m v i
small_read none_wanted m v i = small_extra m v i
small_read any_wanted m v i = small_later m v i

module _ (more : List Info) (names classes : List Place) (held : Held classes (is more)) where
  abbrev pub all : List Info
  all = is more

  -- what is known of a node but for its type
  abbrev pub NodeKnown : typed.Node → Type 0
  NodeKnown n = KnowsKind names classes (typed.kind n)

  pub bare : (n : typed.Node) → Knows names classes n → NodeKnown n
  bare (typed.At p f g s k) h = h.1

  same_known : (n : typed.Node) → NodeKnown (typed.untyped n) → NodeKnown n
  same_known (typed.At p f g s k) h = h

  uncounted_known : (n : typed.Node) → NodeKnown (uncounted n) → NodeKnown n
  uncounted_known (typed.At p f g s (typed.Assign a b)) h = h
  uncounted_known (typed.At p f g s k) h = h

  uncounted_begun : (n : typed.Node) → Begun classes n → Begun classes (uncounted n)
  uncounted_begun (typed.At p f g s (typed.Assign a b)) h = h
  uncounted_begun (typed.At p f g s k) h = h

  -- what is given is begun, where the phrase is begun and where it is begun without its type
  abbrev GivenBegun : PartOut → Type 0
  GivenBegun g = NoFaults g.inside → NodeKnown g.node → Begun classes g.node

  abbrev pub OutBegun : Out → Type 0
  OutBegun o = NoFaults (faults o) → NodeKnown o.node → Begun classes o.node

  abbrev UntypedBegun : Out → Type 0
  UntypedBegun o = NoFaults o.inside → NodeKnown o.node → Begun classes (typed.untyped o.node)

  read_begun : (q : Part) (o : Out) → OutBegun o → UntypedBegun o → GivenBegun (read_as q o)
  read_begun (a_phrase v g) o k u = k
  read_begun typeless o k u = k
  read_begun a_setting o k u = λ n h. u n (same_known o.node h)
  read_begun a_star o k u = λ n h. u n (same_known o.node h)
  read_begun (as_array t n) o k u = λ m h. u m (same_known o.node h)
  read_begun (as_procedure r) o k u = λ n h. u n (same_known o.node h)
  read_begun with_formals o k u = λ n h. u n (same_known o.node h)
  read_begun not_read o k u = λ n h. u n (same_known o.node h)

  part_begun : (b : Bool) (g : Option Gives) (o : Out) → OutBegun o → GivenBegun (read_as (phrase_part b g) o)
  part_begun b None o k = k
  part_begun b (Some g) o k = k

  small_begun : (w : Wanted) (m : typing.Meaning) (o : Out) → IsSmall m → OutBegun o → GivenBegun (read_as (name_read w m o.verdict) o)
  small_begun w m o i k = subst (λ q. GivenBegun (read_as q o)) (sym (small_read w m o.verdict i)) (part_begun (is_variable_name m) (type_of o.verdict) o k)

  -- a name of an array or a procedure stands elsewhere than the standard procedures
  name_begun : (w : Wanted) (m : typing.Meaning) (r : Reading) (p : Place) (o : Out) → Told all m r p → OutBegun o → ((has standard_procedures p ≡ true → ⊥) → UntypedBegun o) → GivenBegun (name_given w (Some m) o)
  name_begun w (typing.an_array t n) r p o q k u = read_begun (name_read w (typing.an_array t n) o.verdict) o k (u (array_elsewhere more t n r p q))
  name_begun w (typing.a_procedure result fs) r p o t k u = read_begun (name_read w (typing.a_procedure result fs) o.verdict) o k (u (procedure_elsewhere more result fs r p t))
  name_begun w (typing.a_procedure_formal result) r p o t k u = read_begun (name_read w (typing.a_procedure_formal result) o.verdict) o k (u (formal_elsewhere more result r p t))
  name_begun w (typing.a_variable t) r p o q k u = small_begun w (typing.a_variable t) o tt k
  name_begun w (typing.a_class ts) r p o q k u = small_begun w (typing.a_class ts) o tt k
  name_begun w (typing.a_field c t) r p o q k u = small_begun w (typing.a_field c t) o tt k
  name_begun w typing.a_label r p o q k u = small_begun w typing.a_label o tt k
  name_begun w typing.a_control r p o q k u = small_begun w typing.a_control o tt k
  name_begun w (typing.a_standard s) r p o q k u = small_begun w (typing.a_standard s) o tt k

  array_begun : (b : Bool) (w : Wanted) (t : ValueType) (parts : List Part) (v : Verdict) (o : Out) → OutBegun o → UntypedBegun o → GivenBegun (elim b [ true ↦ subarray_given w t parts v o | false ↦ phrase_given true o ])
  array_begun true w t parts v o k u = λ n h. u (none_first o.inside (fault_of v) n) (same_known o.node h)
  array_begun false w t parts v o k u = k

  list_begun : (p : Place) (w : Wanted) (m : typing.Meaning) (r : Reading) (x : Place) (o : Out) → Told all m r x → OutBegun o → ((has standard_procedures x ≡ true → ⊥) → r ≡ as_phrases → UntypedBegun o) → GivenBegun (list_given p w (Some m) o)
  list_begun p w (typing.an_array t n) r x o q k u = array_begun (is_subarray w (parts_of_kind (typed.kind o.node))) w t (parts_of_kind (typed.kind o.node)) (subarray_row p n (parts_of_kind (typed.kind o.node))) o k (u (array_elsewhere more t n r x q) q.3)
  list_begun p w (typing.a_procedure result fs) r x o q k u = k
  list_begun p w (typing.a_procedure_formal result) r x o q k u = k
  list_begun p w (typing.a_variable t) r x o q k u = k
  list_begun p w (typing.a_class ts) r x o q k u = k
  list_begun p w (typing.a_field c t) r x o q k u = k
  list_begun p w typing.a_label r x o q k u = k
  list_begun p w typing.a_control r x o q k u = k
  list_begun p w (typing.a_standard s) r x o q k u = k

  -- ---- actuals

  begun_alone : (path : Scopes) (c : translating.Context) (d : Context) → Round all path c d → (w : Wanted) (p f : Place) (x : List ℕ) (e : Option (Entry Known)) → declared path x ≡ e
      → OutBegun (named_out p f e (listed (use_alone p e))) → GivenBegun (name_given w (meaning_of e) (named_out p f e (listed (use_alone p e))))
  begun_alone path c d r w p f x None q k = k
  begun_alone path c d r w p f x (Some e) q k =
      let t = found_entry all r x e q in
      let o = named_out p f (Some e) (listed (use_alone p (Some e))) in
      subst (λ m. GivenBegun (name_given w m o)) (sym t.1) (name_begun w t.0 e.is.reading e.place o t.2 k (λ elsewhere n h. (not_if (has standard_procedures e.place) None elsewhere, tt)))

  -- that its actuals are begun
  abbrev PartsBegun : Scopes → Reading → tree.Actuals → Type 0
  PartsBegun path r list = NoFaults (typed_parts path r list).inside → KnowsActuals names classes (typed_parts path r list).actuals → ActualsBegun classes (typed_parts path r list).actuals

  begun_listed : (path : Scopes) (c : translating.Context) (d : Context) → Round all path c d → (w : Wanted) (p f : Place) (x : List ℕ) (q : Place) (list : tree.Actuals) (e : Option (Entry Known)) → declared path x ≡ e → PartsBegun path (reading_of e) list
      → OutBegun (named_out p f e (first_list path p e (tree.list_and (tree.OfActuals q list) tree.no_lists))) → GivenBegun (list_given p w (meaning_of e) (named_out p f e (first_list path p e (tree.list_and (tree.OfActuals q list) tree.no_lists))))
  begun_listed path c d r w p f x q list None g b k = k
  begun_listed path c d r w p f x q list (Some e) g b k =
      let t = found_entry all r x e g in
      let ps = typed_parts path e.is.reading list in
      let o = named_out p f (Some e) (first_list path p (Some e) (tree.list_and (tree.OfActuals q list) tree.no_lists)) in
      subst (λ m. GivenBegun (list_given p w m o)) (sym t.1) (list_begun p w t.0 e.is.reading e.place o t.2 k (λ elsewhere reads n h. (not_if (has standard_procedures e.place) None elsewhere, (b (none_first ps.inside [] n) h.1.0, tt))))

  -- a setting isn't counted
  setting_begun : (b : Bool) (o : Out) → OutBegun o → GivenBegun (elim b as (λ _. PartOut) [ true ↦ setting_given o | false ↦ phrase_given false o ])
  setting_begun true o k = λ n h. uncounted_begun o.node (k n (uncounted_known o.node h))
  setting_begun false o k = k

  -- the list of a name with one list
  abbrev ListBegun : Scopes → tree.Phrase → Type 0
  ListBegun path (tree.At p f (tree.Named x (tree.list_and (tree.OfActuals q list) tree.no_lists))) = PartsBegun path (reading_of (declared path x)) list
  ListBegun path a = ⊤

  begun_given : (b : tree.Phrase) (path : Scopes) (c : translating.Context) (d : Context) → Round all path c d → (w : Wanted) → OutBegun (typed_phrase path b) → ListBegun path b → GivenBegun (given path w b (typed_phrase path b))
  begun_given (tree.At p f (tree.Named x tree.no_lists)) path c d r w k l = begun_alone path c d r w p f x (declared path x) refl k
  begun_given (tree.At p f (tree.Named x (tree.list_and (tree.OfActuals q list) tree.no_lists))) path c d r w k l = begun_listed path c d r w p f x q list (declared path x) refl l k
  begun_given (tree.At p f (tree.Named x (tree.list_and (tree.OfActuals q list) (tree.list_and m ms)))) path c d r w k l = k
  begun_given (tree.At p f (tree.Named x (tree.list_and (tree.OfPart q b n) ls))) path c d r w k l = k
  begun_given (tree.At p f (tree.Assign x y)) path c d r w k l = setting_begun (is_setting path w x y) (typed_phrase path (tree.At p f (tree.Assign x y))) k
  begun_given (tree.At p f _) path c d r w k l = k

  -- ---- declared classes

  abbrev DeclFound : typed.Decl → Type 0
  DeclFound (typed.Class x groups) = has classes x.0 ≡ true
  DeclFound d = ⊤

  abbrev DeclsFound : typed.Decls → Type 0
  DeclsFound typed.no_decls = ⊤
  DeclsFound (typed.decl_and d rest) = DeclFound d × DeclsFound rest

  each_behind : (d : Declared) (o : Option Meaning) (xs : List typed.Placed) (js : List Info) → AllAgree all (each_info d o xs js) → AllAgree all js
  each_behind d o [] js h = h
  each_behind d o (x ∷ xs) js h = each_behind d o xs js h.1

  group_behind : (class : Place) (n : ℕ) (t : ValueType) (xs : List typed.Placed) (js : List Info) → AllAgree all (group_info class n t xs js) → AllAgree all js
  group_behind class n t [] js h = h
  group_behind class n t (x ∷ xs) js h = group_behind class (n + 1) t xs js h.1

  fields_behind : (class : Place) (n : ℕ) (groups : List typed.Group) (js : List Info) → AllAgree all (fields_info class n groups js) → AllAgree all js
  fields_behind class n [] js h = h
  fields_behind class n (g ∷ groups) js h = fields_behind class (n + count g.names) groups js (group_behind class n g.type g.names (fields_info class (n + count g.names) groups js) h)

  decls_found : (ds : typed.Decls) → AllAgree all (decls_info ds) → DeclsFound ds
  decls_found typed.no_decls h = tt
  decls_found (typed.decl_and (typed.Simple t xs) rest) h = (tt, decls_found rest (each_behind _ _ xs (decls_info rest) h))
  decls_found (typed.decl_and (typed.Array t xs pairs) rest) h = (tt, decls_found rest (each_behind _ _ xs (decls_info rest) h))
  decls_found (typed.decl_and (typed.Proc p result x formals body) rest) h = (tt, decls_found rest h.1)
  decls_found (typed.decl_and (typed.Class x groups) rest) h = (held_at classes all x.0 (field_types groups) held h.0.0, decls_found rest (fields_behind x.0 0 groups (decls_info rest) h.1))

  -- ---- trees

  mutual
    pub begun_phrase : (a : tree.Phrase) (path : Scopes) (c : translating.Context) (d : Context) → Round all path c d → IsFilled a → AllAgree all (infos (typed_phrase path a).node) → OutBegun (typed_phrase path a)
    begun_phrase (tree.At p f k) path c d r i a h n = begun_kind k p f path c d r i a h n

    begun_kind : (k : tree.Kind) (p f : Place) (path : Scopes) (c : translating.Context) (d : Context) → Round all path c d → IsFilled (tree.At p f k) → AllAgree all (infos (typed_phrase path (tree.At p f k)).node) → OutBegun (typed_phrase path (tree.At p f k))
    begun_kind tree.Empty p f path c d r i a h n = tt
    begun_kind tree.Null p f path c d r i a h n = tt
    begun_kind (tree.Number k) p f path c d r i a h n = tt
    begun_kind (tree.Truth b) p f path c d r i a h n = tt
    begun_kind (tree.BitsLit b) p f path c d r i a h n = tt
    begun_kind (tree.Quoted s) p f path c d r i a h n = tt
    begun_kind (tree.Named x lists) p f path c d r i a h n =
        let e = declared path x in
        let l = first_list path p e lists in
        let w = phrase_fits all (tree.At p f (tree.Named x lists)) path c d r i a h in
        (name_counted more r x e refl l.inside p f l.verdict l.lists w, begun_first lists path c d r p e i a (none_first l.inside (fault_of l.verdict) h) n.1)
    begun_kind (tree.Negated x) p f path c d r i a h n = begun_phrase x path c d r i a (none_first (faults (typed_phrase path x)) _ h) (bare (typed_phrase path x).node n)
    begun_kind (tree.Abs x) p f path c d r i a h n = begun_phrase x path c d r i a (none_first (faults (typed_phrase path x)) _ h) (bare (typed_phrase path x).node n)
    begun_kind (tree.Signed minus x) p f path c d r i a h n = begun_phrase x path c d r i a (none_first (faults (typed_phrase path x)) _ h) (bare (typed_phrase path x).node n)
    begun_kind (tree.Chain x links) p f path c d r i a h n =
        let o = typed_phrase path x in
        let v = as_verdict (gives o) in
        let more_links = typed_links path v links in
        let m = none_two (faults o) more_links.inside (none_first (faults o ++ more_links.inside) _ h) in
        let b = agree_two all (infos o.node) (links_infos more_links.links) a in
        (begun_phrase x path c d r i.0 b.0 m.0 (bare o.node n.0), begun_links links path c d r v i.1 b.1 m.1 n.1)
    begun_kind (tree.Relation op x y) p f path c d r i a h n =
        let o = typed_phrase path x in
        let u = typed_phrase path y in
        let m = none_two (faults o) (faults u) (none_first (faults o ++ faults u) _ h) in
        let b = agree_two all (infos o.node) (infos u.node) a in
        (begun_phrase x path c d r i.0 b.0 m.0 (bare o.node n.0), begun_phrase y path c d r i.1 b.1 m.1 (bare u.node n.1))
    begun_kind (tree.IsClass x y q) p f path c d r i a h n =
        let o = typed_phrase path x in
        let m = none_first (faults o) (class_fault (y, q) (declared path y)) (none_first (faults o ++ class_fault (y, q) (declared path y)) _ h) in
        (n.2, begun_phrase x path c d r i a m (bare o.node n.0))
    begun_kind (tree.Assign x y) p f path c d r i a h n =
        let o = typed_phrase path x in
        let u = typed_phrase path y in
        let m = none_two (faults o) (faults u) (none_first (faults o ++ faults u) _ h) in
        let b = agree_two all (infos o.node) (infos (uncounted u.node)) a in (
          begun_phrase x path c d r i.0 b.0 m.0 (bare o.node n.0),
          uncounted_begun u.node (begun_phrase y path c d r i.1 (uncounted_agree all u.node b.1) m.1 (uncounted_known u.node (bare (uncounted u.node) n.1))),
        )
    begun_kind (tree.IfThen x y tree.Missing) p f path c d r i a h n =
        let o = typed_phrase path x in
        let u = typed_phrase path y in
        let m = none_two (faults o) (faults u) (none_first (faults o ++ faults u) _ h) in
        let b = agree_two all (infos o.node) (infos u.node ++ []) a in
        let s = agree_two all (infos u.node) [] b.1 in
        (begun_phrase x path c d r i.0 b.0 m.0 (bare o.node n.0), begun_phrase y path c d r i.1 s.0 m.1 (bare u.node n.1), tt)
    begun_kind (tree.IfThen x y (tree.There z)) p f path c d r i a h n =
        let o = typed_phrase path x in
        let u = typed_phrase path y in
        let w = typed_phrase path z in
        let m = none_three (faults o) (faults u) (faults w) (none_first (faults o ++ faults u ++ faults w) _ h) in
        let b = agree_two all (infos o.node) (infos u.node ++ infos w.node) a in
        let s = agree_two all (infos u.node) (infos w.node) b.1 in
        (begun_phrase x path c d r i.0 b.0 m.0 (bare o.node n.0), begun_phrase y path c d r i.1 s.0 m.1 (bare u.node n.1), begun_phrase z path c d r i.2 s.1 m.2 (bare w.node n.2))
    begun_kind (tree.CaseValue x parts) p f path c d r i a h n =
        let o = typed_phrase path x in
        let os = typed_phrases path parts in
        let m = none_two (faults o) os.inside (none_first (faults o ++ os.inside) _ h) in
        let b = agree_two all (infos o.node) (nodes_infos os.nodes) a in
        (begun_phrase x path c d r i.0 b.0 m.0 (bare o.node n.0), begun_phrases parts path c d r i.1 b.1 m.1 n.1)
    begun_kind (tree.CaseDo x parts) p f path c d r i a h n =
        let o = typed_phrase path x in
        let os = typed_phrases path parts in
        let m = none_two (faults o) os.inside (none_first (faults o ++ os.inside) _ h) in
        let b = agree_two all (infos o.node) (nodes_infos os.nodes) a in
        (begun_phrase x path c d r i.0 b.0 m.0 (bare o.node n.0), begun_phrases parts path c d r i.1 b.1 m.1 n.1)
    begun_kind (tree.ForStep x from tree.Missing to body) p f path c d r i a h n =
        let inner = control_scope p x ∷ path in
        let o = typed_phrase path from in
        let u = typed_phrase path to in
        let w = typed_phrase inner body in
        let k = phrase_fits all (tree.At p f (tree.ForStep x from tree.Missing to body)) path c d r i a h in
        let m = none_three (faults o) (faults u) (faults w) (none_first (faults o ++ faults u ++ faults w) _ h) in
        let b = agree_two all (infos o.node) ([] ++ (infos u.node ++ (control_info p ++ infos w.node))) a in
        let b2 = agree_two all (infos u.node) (control_info p ++ infos w.node) b.1 in
        let s = agree_two all (control_info p) (infos w.node) b2.1 in (
          counted_statement k.gives f _ k.verdict k.fits.0,
          begun_phrase from path c d r i.0 b.0 m.0 (bare o.node n.1),
          tt,
          begun_phrase to path c d r i.2 b2.0 m.1 (bare u.node n.3),
          begun_phrase body inner _ _ (round_control all path p x r s.0) i.3 s.1 m.2 (bare w.node n.4),
        )
    begun_kind (tree.ForStep x from (tree.There step) to body) p f path c d r i a h n =
        let inner = control_scope p x ∷ path in
        let o = typed_phrase path from in
        let z = typed_phrase path step in
        let u = typed_phrase path to in
        let w = typed_phrase inner body in
        let k = phrase_fits all (tree.At p f (tree.ForStep x from (tree.There step) to body)) path c d r i a h in
        let m = none_four (faults o) (faults z) (faults u) (faults w) (none_first (faults o ++ faults z ++ faults u ++ faults w) _ h) in
        let b = agree_two all (infos o.node) (infos z.node ++ (infos u.node ++ (control_info p ++ infos w.node))) a in
        let b2 = agree_two all (infos z.node) (infos u.node ++ (control_info p ++ infos w.node)) b.1 in
        let b3 = agree_two all (infos u.node) (control_info p ++ infos w.node) b2.1 in
        let s = agree_two all (control_info p) (infos w.node) b3.1 in (
          counted_statement k.gives f _ k.verdict k.fits.0,
          begun_phrase from path c d r i.0 b.0 m.0 (bare o.node n.1),
          begun_phrase step path c d r i.1 b2.0 m.1 (bare z.node n.2),
          begun_phrase to path c d r i.2 b3.0 m.2 (bare u.node n.3),
          begun_phrase body inner _ _ (round_control all path p x r s.0) i.3 s.1 m.3 (bare w.node n.4),
        )
    begun_kind (tree.ForList x values body) p f path c d r i a h n =
        let inner = control_scope p x ∷ path in
        let os = typed_phrases path values in
        let w = typed_phrase inner body in
        let k = phrase_fits all (tree.At p f (tree.ForList x values body)) path c d r i a h in
        let m = none_two os.inside (faults w) (none_first (os.inside ++ faults w) _ h) in
        let b = agree_two all (nodes_infos os.nodes) (control_info p ++ infos w.node) a in
        let s = agree_two all (control_info p) (infos w.node) b.1 in
        (counted_statement k.gives f _ k.verdict k.fits.0, begun_phrases values path c d r i.0 b.0 m.0 n.1, begun_phrase body inner _ _ (round_control all path p x r s.0) i.1 s.1 m.1 (bare w.node n.2))
    begun_kind (tree.WhileDo x y) p f path c d r i a h n =
        let o = typed_phrase path x in
        let u = typed_phrase path y in
        let k = phrase_fits all (tree.At p f (tree.WhileDo x y)) path c d r i a h in
        let m = none_two (faults o) (faults u) (none_first (faults o ++ faults u) _ h) in
        let b = agree_two all (infos o.node) (infos u.node) a in
        (counted_statement k.gives f _ k.verdict k.fits.0, begun_phrase x path c d r i.0 b.0 m.0 (bare o.node n.0), begun_phrase y path c d r i.1 b.1 m.1 (bare u.node n.1))
    begun_kind (tree.Goto x) p f path c d r i a h n = let k = phrase_fits all (tree.At p f (tree.Goto x)) path c d r i a h in counted_statement k.gives f _ k.verdict k.fits.0
    begun_kind (tree.Assert x) p f path c d r i a h n =
        let o = typed_phrase path x in
        let k = phrase_fits all (tree.At p f (tree.Assert x)) path c d r i a h in
        (counted_statement k.gives f _ k.verdict k.fits.0, begun_phrase x path c d r i a (none_first (faults o) _ h) (bare o.node n))
    begun_kind (tree.Block decls items) p f path c d r i a h n =
        let inner = scope_of path decls items ∷ path in
        let ds = typed_decls path inner decls in
        let its = typed_items inner (Good Statement) items in
        let m = none_three (twice [] (names_of_block decls items)) ds.inside its.inside (none_first (twice [] (names_of_block decls items) ++ ds.inside ++ its.inside) _ h) in
        let b = agree_two all (decls_info ds.decls) (labels_info its.items ++ (decls_infos ds.decls ++ items_infos its.items)) a in
        let b2 = agree_two all (labels_info its.items) (decls_infos ds.decls ++ items_infos its.items) b.1 in
        let b3 = agree_two all (decls_infos ds.decls) (items_infos its.items) b2.1 in
        let q = round_block all path decls items r m.1 b.0 b2.0 in
        let z = round_bounds all path ds.decls r b.0 in
        (begun_decls decls path inner _ d _ z q i.0 b3.0 m.1 n.0 (decls_found ds.decls b.0), begun_items items inner _ _ q (Good Statement) i.1 b3.1 m.2 n.1)

    begun_phrases : (ps : tree.Phrases) (path : Scopes) (c : translating.Context) (d : Context) → Round all path c d → AreFilled ps → AllAgree all (nodes_infos (typed_phrases path ps).nodes) → NoFaults (typed_phrases path ps).inside → KnowsNodes names classes (typed_phrases path ps).nodes
        → AllBegun classes (typed_phrases path ps).nodes
    begun_phrases tree.no_phrases path c d r i a h n = tt
    begun_phrases (tree.phrase_and x rest) path c d r i a h n =
        let o = typed_phrase path x in
        let m = none_two (faults o) (typed_phrases path rest).inside h in
        let b = agree_two all (infos o.node) (nodes_infos (typed_phrases path rest).nodes) a in
        (begun_phrase x path c d r i.0 b.0 m.0 (bare o.node n.0), begun_phrases rest path c d r i.1 b.1 m.1 n.1)

    begun_links : (links : tree.Links) (path : Scopes) (c : translating.Context) (d : Context) → Round all path c d → (v : Verdict) → LinksAreFilled links → AllAgree all (links_infos (typed_links path v links).links) → NoFaults (typed_links path v links).inside → KnowsLinks names classes (typed_links path v links).links
        → LinksBegun classes (typed_links path v links).links
    begun_links tree.no_links path c d r v i a h n = tt
    begun_links (tree.link_and (tree.Linked op p x) rest) path c d r v i a h n =
        let o = typed_phrase path x in
        let w = link_verdict op p v o in
        let m = none_two (faults o) (typed_links path w rest).inside h in
        let s = agree_two all (infos o.node) (links_infos (typed_links path w rest).links) a in
        (begun_phrase x path c d r i.0 s.0 m.0 (bare o.node n.0), begun_links rest path c d r w i.1 s.1 m.1 n.1)

    begun_first : (lists : tree.Lists) (path : Scopes) (c : translating.Context) (d : Context) → Round all path c d → (p : Place) (e : Option (Entry Known)) → ListsAreFilled lists → AllAgree all (lists_infos (first_list path p e lists).lists) → NoFaults (first_list path p e lists).inside → KnowsLists names classes (first_list path p e lists).lists
        → ListsBegun classes (first_list path p e lists).lists
    begun_first tree.no_lists path c d r p e i a h n = tt
    begun_first (tree.list_and (tree.OfActuals q list) rest) path c d r p e i a h n =
        let ps = typed_parts path (reading_of e) list in
        let v = use_with_list p e ps.parts in
        let more_parts = more_lists path v rest in
        let m = none_two ps.inside more_parts.inside h in
        let s = agree_two all (actuals_infos ps.actuals) (lists_infos more_parts.lists) a in
        (begun_actuals list path c d r (reading_of e) i.0 s.0 m.0 n.0, begun_more rest path c d r v i.1 s.1 m.1 n.1)
    begun_first (tree.list_and (tree.OfPart q b k) rest) path c d r p e i a h n =
        let o = typed_phrase path b in
        let v = part_verdict q k (use_as_base p e o) o in
        let more_parts = more_lists path v rest in
        let m = none_two (faults o) more_parts.inside h in
        let s = agree_two all (infos o.node) (lists_infos more_parts.lists) a in
        (begun_phrase b path c d r i.0 s.0 m.0 (bare o.node n.0), begun_more rest path c d r v i.1 s.1 m.1 n.1)

    begun_more : (lists : tree.Lists) (path : Scopes) (c : translating.Context) (d : Context) → Round all path c d → (v : Verdict) → ListsAreFilled lists → AllAgree all (lists_infos (more_lists path v lists).lists) → NoFaults (more_lists path v lists).inside → KnowsLists names classes (more_lists path v lists).lists
        → ListsBegun classes (more_lists path v lists).lists
    begun_more tree.no_lists path c d r v i a h n = tt
    begun_more (tree.list_and (tree.OfActuals q list) rest) path c d r v i a h n =
        let ps = typed_parts path as_phrases list in
        let w = list_verdict q v ps.parts in
        let more_parts = more_lists path w rest in
        let m = none_two ps.inside more_parts.inside h in
        let s = agree_two all (actuals_infos ps.actuals) (lists_infos more_parts.lists) a in
        (begun_actuals list path c d r as_phrases i.0 s.0 m.0 n.0, begun_more rest path c d r w i.1 s.1 m.1 n.1)
    begun_more (tree.list_and (tree.OfPart q b k) rest) path c d r v i a h n =
        let o = typed_phrase path b in
        let w = part_verdict q k v o in
        let more_parts = more_lists path w rest in
        let m = none_two (faults o) more_parts.inside h in
        let s = agree_two all (infos o.node) (lists_infos more_parts.lists) a in
        (begun_phrase b path c d r i.0 s.0 m.0 (bare o.node n.0), begun_more rest path c d r w i.1 s.1 m.1 n.1)

    begun_actuals : (list : tree.Actuals) (path : Scopes) (c : translating.Context) (d : Context) → Round all path c d → (rd : Reading) → ActualsAreFilled list → AllAgree all (actuals_infos (typed_parts path rd list).actuals) → NoFaults (typed_parts path rd list).inside → KnowsActuals names classes (typed_parts path rd list).actuals
        → ActualsBegun classes (typed_parts path rd list).actuals
    begun_actuals tree.no_actuals path c d r rd i a h n = tt
    begun_actuals (tree.actual_and (tree.Star q) rest) path c d r rd i a h n = begun_actuals rest path c d r (behind rd) i a h n
    begun_actuals (tree.actual_and (tree.Given b) rest) path c d r rd i a h n =
        let o = typed_phrase path b in
        let g = given path (wanted rd) b o in
        let more_parts = typed_parts path (behind rd) rest in
        let m = none_two g.inside more_parts.inside h in
        let s = agree_two all (infos g.node) (actuals_infos more_parts.actuals) a in
        let own = subst (AllAgree all) (given_infos path (wanted rd) b o) s.0 in
        (begun_given b path c d r (wanted rd) (begun_phrase b path c d r i.0 own) (begun_list b path c d r i.0 own) m.0 (bare g.node n.0), begun_actuals rest path c d r (behind rd) i.1 s.1 m.1 n.1)

    -- the list of a name with one list, as an actual
    begun_list : (b : tree.Phrase) (path : Scopes) (c : translating.Context) (d : Context) → Round all path c d → IsFilled b → AllAgree all (infos (typed_phrase path b).node) → ListBegun path b
    begun_list (tree.At p f (tree.Named x (tree.list_and (tree.OfActuals q list) tree.no_lists))) path c d r i a = begun_actuals list path c d r (reading_of (declared path x)) i.0 (agree_two all (actuals_infos (typed_parts path (reading_of (declared path x)) list).actuals) [] a).0
    begun_list (tree.At p f (tree.Named x (tree.list_and (tree.OfActuals q list) (tree.list_and l ls)))) path c d r i a = tt
    begun_list (tree.At p f (tree.Named x (tree.list_and (tree.OfPart q b n) ls))) path c d r i a = tt
    begun_list (tree.At p f (tree.Named x tree.no_lists)) path c d r i a = tt
    begun_list (tree.At p f _) path c d r i a = tt

    begun_items : (its : tree.Items) (path : Scopes) (c : translating.Context) (d : Context) → Round all path c d → (v : Verdict) → ItemsAreFilled its → AllAgree all (items_infos (typed_items path v its).items) → NoFaults (typed_items path v its).inside → KnowsItems names classes (typed_items path v its).items
        → ItemsBegun classes (typed_items path v its).items
    begun_items tree.no_items path c d r v i a h n = tt
    begun_items (tree.item_and (tree.Labelled labels b) rest) path c d r v i a h n =
        let o = typed_phrase path b in
        let w = item_verdict rest labels b o in
        let more_items = typed_items path (then_item v w) rest in
        let m = none_three (faults o) (fault_of w) more_items.inside h in
        let s = agree_two all (infos o.node) (items_infos more_items.items) a in
        (begun_phrase b path c d r i.0 s.0 m.0 (bare o.node n.1), begun_items rest path c d r (then_item v w) i.1 s.1 m.2 n.2)

    begun_bounds : (bs : tree.Bounds) (path : Scopes) (c : translating.Context) (d : Context) → Round all path c d → BoundsAreFilled bs → AllAgree all (bounds_infos (typed_bounds path bs).bounds) → NoFaults (typed_bounds path bs).inside → KnowsBounds names classes (typed_bounds path bs).bounds
        → BoundsBegun classes (typed_bounds path bs).bounds
    begun_bounds tree.no_bounds path c d r i a h n = tt
    begun_bounds (tree.bound_and (tree.Between p x y) rest) path c d r i a h n =
        let o = typed_phrase path x in
        let u = typed_phrase path y in
        let m = none_four (faults o) (faults u) _ (typed_bounds path rest).inside h in
        let b = agree_two all (infos o.node) (infos u.node ++ bounds_infos (typed_bounds path rest).bounds) a in
        let s = agree_two all (infos u.node) (bounds_infos (typed_bounds path rest).bounds) b.1 in
        (begun_phrase x path c d r i.0 b.0 m.0 (bare o.node n.0), begun_phrase y path c d r i.1 s.0 m.1 (bare u.node n.1), begun_bounds rest path c d r i.2 s.1 m.3 n.2)

    begun_decls : (ds : tree.Decls) (around inner : Scopes) (c : translating.Context) (d d' : Context) → Round all around c d → Round all inner c d' → DeclsAreFilled ds → AllAgree all (decls_infos (typed_decls around inner ds).decls) → NoFaults (typed_decls around inner ds).inside → KnowsDecls names classes (typed_decls around inner ds).decls → DeclsFound (typed_decls around inner ds).decls
        → DeclsBegun classes (typed_decls around inner ds).decls
    begun_decls tree.no_decls around inner c d d' m r i a h n f = tt
    begun_decls (tree.decl_and e rest) around inner c d d' m r i a h n f =
        let k = none_two (typed_decl around inner e).inside (typed_decls around inner rest).inside h in
        let b = agree_two all (inner_infos (typed_decl around inner e).decl) (decls_infos (typed_decls around inner rest).decls) a in
        (begun_decl e around inner c d d' m r i.0 b.0 k.0 n.0 f.0, begun_decls rest around inner c d d' m r i.1 b.1 k.1 n.1 f.1)

    begun_decl : (e : tree.Decl) (around inner : Scopes) (c : translating.Context) (d d' : Context) → Round all around c d → Round all inner c d' → DeclIsFilled e → AllAgree all (inner_infos (typed_decl around inner e).decl) → NoFaults (typed_decl around inner e).inside → KnowsDecl names classes (typed_decl around inner e).decl → DeclFound (typed_decl around inner e).decl
        → DeclBegun classes (typed_decl around inner e).decl
    begun_decl (tree.Simple spec xs) around inner c d d' m r i a h n f = tt
    begun_decl (tree.Array spec xs pairs) around inner c d d' m r i a h n f = begun_bounds pairs around c d m i a (none_second (array_faults inner spec xs (bound_count pairs)) (typed_bounds around pairs).inside h) n.2
    begun_decl (tree.Class cl) around inner c d d' m r i a h n f = f
    begun_decl (tree.Proc p result x formals body) around inner c d d' m r i a h n f =
        let within = formal_scope inner formals ∷ inner in
        let o = typed_phrase within body in
        let types = result_faults inner result ++ formal_faults inner formals in
        let v = procedure_verdict p (result_faults inner result) (result_type inner result) o in
        let k = none_four types (twice [] (formal_scope inner formals)) (faults o) (fault_of v) h in
        let t = none_two (result_faults inner result) (formal_faults inner formals) k.0 in
        let b = agree_two all (formals_info (typed_formals inner formals)) (infos o.node) a in
        begun_phrase body within _ _ (round_body all inner formals r t.1 b.0) i b.1 k.2 (bare o.node n.3)
