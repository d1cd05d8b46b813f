-- The faults of a phrase stand at places that its tree mentions.
use Rattle.std.proofs.Common.{◌≡◌, ℕ, ℤ, List, [], ◌∷◌, ◌++◌, Option, Some, None, Bool, true, false, ◌&&◌, refl}
use Rattle.std.proofs.lemmas.Bool.{and_parts}
use Rattle.value_ops.specs.declared.places.Place.{Place}
use Rattle.value_ops.specs.declared.places.Diagnostic.{Diagnostic}
use Rattle.algolw_tree.specs.declared.phrases.Op.{Op}
use Rattle.algolw_tree.specs.Tree.{Placed}
use Rattle.algolw_tree.specs.Tree as tree
use Rattle.algolw_typing.specs.Names.{Entry, declared}
use Rattle.algolw_typing.specs.Types.{ValueType, Gives, Statement}
use Rattle.algolw_typing.specs.Verdicts.{Verdict, Good, Fault, Silent, fault_of, part, two_parts, all_parts}
use Rattle.algolw_typing.specs.Rows.{bound_row, procedure_row, item_row, if_row, if_else_row, case_value_row, case_do_row, while_row, assert_row, link_row, negated_row, integer_row, relation_row, is_row}
use Rattle.algolw_typing.specs.Meanings.{Meaning, an_array, part_row, Part, a_phrase, typeless, all_read}
use Rattle.algolw_typing.specs.Actuals.{Reading, as_phrases, Wanted, wanted, behind, name_read, is_subarray, subarray_row}
use Rattle.algolw_typing.specs.Scopes.{Known, Scopes, formal_scope, names_of_block, label_entries, control_scope, class_fault, result_faults, result_type, formal_faults, twice, bound_count, spec_faults, dimension_fault, written}
use Rattle.algolw_typing.specs.Typed as typed
use Rattle.algolw_typing.specs.Typing.{Out, faults, gives, as_verdict, onward, meaning_of, class_stated, goto_row, left_of, right_end, assign_row, for_verdict, LinksOut, link_verdict, ListsOut, use_with_list, use_alone, use_as_base, part_verdict, list_verdict, reading_of, PartOut, phrase_given, read_as, name_given, parts_of_kind, subarray_given, array_given, list_given, is_setting, setting_given, given, ItemsOut, first_token, is_last, has_labels, item_verdict, then_item, array_faults, procedure_verdict, typed_phrase, typed_kind, typed_phrases, typed_links, first_list, more_lists, typed_parts, typed_items, typed_bounds, typed_decls, typed_decl, meanings}
use Rattle.library_laws.specs.Stands.{names_stand, result_stands, spec_stands, formals_stand, groups_stand, phrase_stands, kind_stands, phrases_stand, links_stand, lists_stand, actuals_stand, items_stand, bounds_stand, decls_stand, decl_stands, all_stand, FaultsStandInTrees}
use Rattle.library_laws.proofs.RowPlaces.{OfPlace, a_fault, silence, part_at, two_at, all_parts_at, all_read_at, bound_at, procedure_at, item_at, if_at, if_else_at, case_value_at, case_do_at, for_verdict_at, while_at, assert_at, link_at, negated_at, integer_at, relation_at, is_at, assign_at, part_row_at, subarray_at, use_alone_at, use_as_base_at, use_with_list_at, goto_at}
use Rattle.library_laws.proofs.Places.{joined, three, four, five, front, stands, class_at, spec_at, result_at, dimension_at, formals_at, groups_at, formal_scope_at, names_of_block_at, twice_at}

module _ (q : Place → Bool) where
  -- ---- verdicts that a part hands on

  as_verdict_at : (g : Option Gives) → all_stand q (fault_of (as_verdict g)) ≡ true
  as_verdict_at None = refl
  as_verdict_at (Some g) = refl

  onward_at : (p : Place) (v : Verdict) (row : Gives → Verdict) → q p ≡ true → all_stand q (fault_of v) ≡ true → ((g : Gives) → OfPlace p (row g)) → all_stand q (fault_of (onward v row)) ≡ true
  onward_at p (Good g) row h k i = stands q p (row g) h (i g)
  onward_at p (Fault n r) row h k i = k
  onward_at p Silent row h k i = refl

  then_at : (v w : Verdict) → all_stand q (fault_of (then_item v w)) ≡ true
  then_at (Good g) (Good h) = refl
  then_at (Good g) (Fault n p) = refl
  then_at (Good g) Silent = refl
  then_at (Fault n p) w = refl
  then_at Silent w = refl

  stated_at : (p : Place) (fs : List Diagnostic) (m : Option Meaning) (v : Verdict) → OfPlace p v → OfPlace p (class_stated fs m v)
  stated_at p [] (Some m) v t = t
  stated_at p [] None v t = silence
  stated_at p (f ∷ fs) m v t = silence

  procedure_verdict_at : (p : Place) (fs : List Diagnostic) (result : Option ValueType) (body : Out) → OfPlace p (procedure_verdict p fs result body)
  procedure_verdict_at p [] result body = part_at (gives body) (procedure_row p result) (procedure_at p result)
  procedure_verdict_at p (f ∷ fs) result body = silence

  link_verdict_at : (op : Op) (p : Place) (v : Verdict) (a : Out) → q p ≡ true → all_stand q (fault_of v) ≡ true → all_stand q (fault_of (link_verdict op p v a)) ≡ true
  link_verdict_at op p v a h k = onward_at p v (λ left. part (gives a) (link_row op p left)) h k (λ left. part_at (gives a) (link_row op p left) (link_at op p left))

  part_verdict_at : (p : Place) (n : ℤ) (v : Verdict) (a : Out) → q p ≡ true → all_stand q (fault_of v) ≡ true → all_stand q (fault_of (part_verdict p n v a)) ≡ true
  part_verdict_at p n v a h k = onward_at p v (λ base. part (gives a) (part_row p (written n) base)) h k (λ base. part_at (gives a) (part_row p (written n) base) (part_row_at p (written n) base))

  list_verdict_at : (p : Place) (v : Verdict) (parts : List Part) → q p ≡ true → all_stand q (fault_of v) ≡ true → all_stand q (fault_of (list_verdict p v parts)) ≡ true
  list_verdict_at p v parts h k = onward_at p v (λ base. all_read parts (Fault 41 p)) h k (λ base. all_read_at parts (Fault 41 p) a_fault)

  -- ---- phrases in lists

  read_at : (p : Part) (o : Out) → all_stand q (faults o) ≡ true → all_stand q (read_as p o).inside ≡ true
  read_at (a_phrase v g) o h = h
  read_at typeless o h = h
  read_at p o h = front q o.inside (fault_of o.verdict) h

  name_at : (w : Wanted) (m : Option Meaning) (o : Out) → all_stand q (faults o) ≡ true → all_stand q (name_given w m o).inside ≡ true
  name_at w None o h = h
  name_at w (Some m) o h = read_at (name_read w m o.verdict) o h

  array_at : (p : Place) (w : Wanted) (t : ValueType) (n : ℕ) (parts : List Part) (o : Out) → q p ≡ true → all_stand q (faults o) ≡ true → all_stand q (array_given p w t n parts o).inside ≡ true
  array_at p w t n parts o h k = go (is_subarray w parts)
    where
      go : (b : Bool) → all_stand q (elim b as (λ b. PartOut) [ true ↦ subarray_given w t parts (subarray_row p n parts) o | false ↦ phrase_given true o ]).inside ≡ true
      go true = joined q o.inside (fault_of (subarray_row p n parts)) (front q o.inside (fault_of o.verdict) k) (stands q p (subarray_row p n parts) h (subarray_at p n parts))
      go false = k

  list_given_at : (p : Place) (w : Wanted) (m : Option Meaning) (o : Out) → q p ≡ true → all_stand q (faults o) ≡ true → all_stand q (list_given p w m o).inside ≡ true
  list_given_at p w (Some (an_array t n)) o h k = array_at p w t n (parts_of_kind (typed.kind o.node)) o h k
  list_given_at p w m o h k = k

  setting_at : (path : Scopes) (w : Wanted) (a b : tree.Phrase) (o : Out) → all_stand q (faults o) ≡ true → all_stand q (elim (is_setting path w a b) as (λ c. PartOut) [ true ↦ setting_given o | false ↦ phrase_given false o ]).inside ≡ true
  setting_at path w a b o h = go (is_setting path w a b)
    where
      go : (c : Bool) → all_stand q (elim c as (λ c. PartOut) [ true ↦ setting_given o | false ↦ phrase_given false o ]).inside ≡ true
      go true = h
      go false = h

  given_at : (path : Scopes) (w : Wanted) (a : tree.Phrase) (o : Out) → phrase_stands q a ≡ true → all_stand q (faults o) ≡ true → all_stand q (given path w a o).inside ≡ true
  given_at path w (tree.At p f (tree.Named x tree.no_lists)) o h k = name_at w (meaning_of (declared path x)) o k
  given_at path w (tree.At p f (tree.Named x (tree.list_and (tree.OfActuals r _) tree.no_lists))) o h k = list_given_at p w (meaning_of (declared path x)) o (and_parts (q p) _ h).0 k
  given_at path w (tree.At p f (tree.Named x lists)) o h k = k
  given_at path w (tree.At p f (tree.Assign a b)) o h k = setting_at path w a b o k
  given_at path w a o h k = k

  -- ---- trees

  first_at : (a : tree.Phrase) → phrase_stands q a ≡ true → q (first_token a) ≡ true
  first_at (tree.At p f k) h = (and_parts (q f) (kind_stands q k) (and_parts (q p) (q f && kind_stands q k) h).1).0

  -- what stands inside, and what it gives
  made : (inside : List Diagnostic) (p : Place) (v : Verdict) → all_stand q inside ≡ true → q p ≡ true → OfPlace p v → all_stand q (inside ++ fault_of v) ≡ true
  made inside p v h k t = joined q inside (fault_of v) h (stands q p v k t)

  abbrev LinksStand : LinksOut → Type 0
  LinksStand os = (all_stand q os.inside ≡ true) × (all_stand q (fault_of os.verdict) ≡ true)

  abbrev ListsStand : ListsOut → Type 0
  ListsStand os = (all_stand q os.inside ≡ true) × (all_stand q (fault_of os.verdict) ≡ true)

  abbrev ItemsStand : ItemsOut → Type 0
  ItemsStand os = (all_stand q os.inside ≡ true) × (all_stand q (fault_of os.verdict) ≡ true)

  mutual
    pub phrase_at : (path : Scopes) (x : tree.Phrase) → phrase_stands q x ≡ true → all_stand q (faults (typed_phrase path x)) ≡ true
    phrase_at path (tree.At p f k) h = let parts = and_parts (q p) (q f && kind_stands q k) h in kind_at path p f k parts.0 (and_parts (q f) (kind_stands q k) parts.1).1

    kind_at : (path : Scopes) (p f : Place) (k : tree.Kind) → q p ≡ true → kind_stands q k ≡ true → all_stand q (faults (typed_kind path p f k)) ≡ true
    kind_at path p f tree.Empty i h = refl
    kind_at path p f tree.Null i h = refl
    kind_at path p f (tree.Number n) i h = refl
    kind_at path p f (tree.Truth b) i h = refl
    kind_at path p f (tree.BitsLit b) i h = refl
    kind_at path p f (tree.Quoted s) i h = refl
    kind_at path p f (tree.Named x lists) i h =
        let o = first_list path p (declared path x) lists in
        let l = lists_at path p (declared path x) lists i h in
        joined q o.inside (fault_of o.verdict) l.0 l.1
    kind_at path p f (tree.Negated a) i h =
        let o = typed_phrase path a in
        made (faults o) p (part (gives o) (negated_row p)) (phrase_at path a h) i (part_at (gives o) (negated_row p) (negated_at p))
    kind_at path p f (tree.Abs a) i h =
        let o = typed_phrase path a in
        made (faults o) p (part (gives o) (integer_row p)) (phrase_at path a h) i (part_at (gives o) (integer_row p) (integer_at p))
    kind_at path p f (tree.Signed minus a) i h =
        let o = typed_phrase path a in
        made (faults o) p (part (gives o) (integer_row p)) (phrase_at path a h) i (part_at (gives o) (integer_row p) (integer_at p))
    kind_at path p f (tree.Chain a links) i h =
        let parts = and_parts (phrase_stands q a) (links_stand q links) h in
        let o = typed_phrase path a in
        let os = typed_links path (as_verdict (gives o)) links in
        let l = links_at path (as_verdict (gives o)) links (as_verdict_at (gives o)) parts.1 in
        joined q (faults o ++ os.inside) (fault_of os.verdict) (joined q (faults o) os.inside (phrase_at path a parts.0) l.0) l.1
    kind_at path p f (tree.Relation op a b) i h =
        let parts = and_parts (phrase_stands q a) (phrase_stands q b) h in
        let o = typed_phrase path a in
        let u = typed_phrase path b in
        made (faults o ++ faults u) p (two_parts (gives o) (gives u) (relation_row op p)) (joined q (faults o) (faults u) (phrase_at path a parts.0) (phrase_at path b parts.1)) i (two_at (gives o) (gives u) (relation_row op p) (relation_at op p))
    kind_at path p f (tree.IsClass a x r) i h =
        let parts = and_parts (phrase_stands q a) (q r) h in
        let e = declared path x in
        let o = typed_phrase path a in
        let v = part (gives o) (is_row p) in
        made (faults o ++ class_fault (x, r) e) p (class_stated (class_fault (x, r) e) (meaning_of e) v) (joined q (faults o) (class_fault (x, r) e) (phrase_at path a parts.0) (class_at q (x, r) e parts.1)) i
        (stated_at p (class_fault (x, r) e) (meaning_of e) v (part_at (gives o) (is_row p) (is_at p)))
    kind_at path p f (tree.Assign a b) i h =
        let parts = and_parts (phrase_stands q a) (phrase_stands q b) h in
        let left = left_of path a in
        let o = typed_phrase path a in
        let u = typed_phrase path b in
        made (faults o ++ faults u) p (two_parts (gives o) (gives u) (λ l r. part (right_end u.node) (assign_row p left l))) (joined q (faults o) (faults u) (phrase_at path a parts.0) (phrase_at path b parts.1)) i
        (two_at (gives o) (gives u) (λ l r. part (right_end u.node) (assign_row p left l)) (λ l r. part_at (right_end u.node) (assign_row p left l) (assign_at p left l)))
    kind_at path p f (tree.IfThen c a tree.Missing) i h =
        let parts = and_parts (phrase_stands q c) (phrase_stands q a && true) h in
        let o = typed_phrase path c in
        let u = typed_phrase path a in
        made (faults o ++ faults u) p (two_parts (gives o) (gives u) (if_row p)) (joined q (faults o) (faults u) (phrase_at path c parts.0) (phrase_at path a (and_parts (phrase_stands q a) true parts.1).0)) i (two_at (gives o) (gives u) (if_row p) (if_at p))
    kind_at path p f (tree.IfThen c a (tree.There b)) i h =
        let parts = and_parts (phrase_stands q c) (phrase_stands q a && phrase_stands q b) h in
        let rest = and_parts (phrase_stands q a) (phrase_stands q b) parts.1 in
        let o = typed_phrase path c in
        let u = typed_phrase path a in
        let w = typed_phrase path b in
        made (faults o ++ faults u ++ faults w) p (part (gives o) (λ g. two_parts (gives u) (gives w) (if_else_row p g)))
        (three q (faults o) (faults u) (faults w) (phrase_at path c parts.0) (phrase_at path a rest.0) (phrase_at path b rest.1)) i
        (part_at (gives o) (λ g. two_parts (gives u) (gives w) (if_else_row p g)) (λ g. two_at (gives u) (gives w) (if_else_row p g) (if_else_at p g)))
    kind_at path p f (tree.CaseValue c values) i h =
        let parts = and_parts (phrase_stands q c) (phrases_stand q values) h in
        let o = typed_phrase path c in
        let os = typed_phrases path values in
        made (faults o ++ os.inside) p (part (gives o) (λ g. all_parts os.gives (case_value_row p g))) (joined q (faults o) os.inside (phrase_at path c parts.0) (phrases_at path values parts.1)) i
        (part_at (gives o) (λ g. all_parts os.gives (case_value_row p g)) (λ g. all_parts_at os.gives (case_value_row p g) (case_value_at p g)))
    kind_at path p f (tree.CaseDo c phrases) i h =
        let parts = and_parts (phrase_stands q c) (phrases_stand q phrases) h in
        let o = typed_phrase path c in
        let os = typed_phrases path phrases in
        made (faults o ++ os.inside) p (part (gives o) (λ g. all_parts os.gives (case_do_row p g))) (joined q (faults o) os.inside (phrase_at path c parts.0) (phrases_at path phrases parts.1)) i
        (part_at (gives o) (λ g. all_parts os.gives (case_do_row p g)) (λ g. all_parts_at os.gives (case_do_row p g) (case_do_at p g)))
    kind_at path p f (tree.ForStep x a tree.Missing b body) i h =
        let parts = and_parts (phrase_stands q a) (true && (phrase_stands q b && phrase_stands q body)) h in
        let rest = and_parts (phrase_stands q b) (phrase_stands q body) parts.1 in
        let o = typed_phrase path a in
        let u = typed_phrase path b in
        let w = typed_phrase (control_scope p x ∷ path) body in
        made (faults o ++ faults u ++ faults w) p (for_verdict p (gives o ∷ gives u ∷ []) w)
        (three q (faults o) (faults u) (faults w) (phrase_at path a parts.0) (phrase_at path b rest.0) (phrase_at (control_scope p x ∷ path) body rest.1)) i
        (for_verdict_at p (gives o ∷ gives u ∷ []) w)
    kind_at path p f (tree.ForStep x a (tree.There step) b body) i h =
        let parts = and_parts (phrase_stands q a) (phrase_stands q step && (phrase_stands q b && phrase_stands q body)) h in
        let more = and_parts (phrase_stands q step) (phrase_stands q b && phrase_stands q body) parts.1 in
        let rest = and_parts (phrase_stands q b) (phrase_stands q body) more.1 in
        let o = typed_phrase path a in
        let s = typed_phrase path step in
        let u = typed_phrase path b in
        let w = typed_phrase (control_scope p x ∷ path) body in
        made (faults o ++ faults s ++ faults u ++ faults w) p (for_verdict p (gives o ∷ gives s ∷ gives u ∷ []) w)
        (four q (faults o) (faults s) (faults u) (faults w) (phrase_at path a parts.0) (phrase_at path step more.0) (phrase_at path b rest.0) (phrase_at (control_scope p x ∷ path) body rest.1)) i
        (for_verdict_at p (gives o ∷ gives s ∷ gives u ∷ []) w)
    kind_at path p f (tree.ForList x values body) i h =
        let parts = and_parts (phrases_stand q values) (phrase_stands q body) h in
        let os = typed_phrases path values in
        let w = typed_phrase (control_scope p x ∷ path) body in
        made (os.inside ++ faults w) p (for_verdict p os.gives w) (joined q os.inside (faults w) (phrases_at path values parts.0) (phrase_at (control_scope p x ∷ path) body parts.1)) i (for_verdict_at p os.gives w)
    kind_at path p f (tree.WhileDo c a) i h =
        let parts = and_parts (phrase_stands q c) (phrase_stands q a) h in
        let o = typed_phrase path c in
        let u = typed_phrase path a in
        made (faults o ++ faults u) p (two_parts (gives o) (gives u) (while_row p)) (joined q (faults o) (faults u) (phrase_at path c parts.0) (phrase_at path a parts.1)) i (two_at (gives o) (gives u) (while_row p) (while_at p))
    kind_at path p f (tree.Goto x) i h = made [] p (goto_row p (declared path x)) refl i (goto_at p (declared path x))
    kind_at path p f (tree.Assert c) i h =
        let o = typed_phrase path c in
        made (faults o) p (part (gives o) (assert_row p)) (phrase_at path c h) i (part_at (gives o) (assert_row p) (assert_at p))
    kind_at path p f (tree.Block decls items) i h =
        let parts = and_parts (decls_stand q decls) (items_stand q items) h in
        let names = names_of_block decls items in
        let inner = (meanings path (names ∷ path) decls ++ label_entries items) ∷ path in
        let ds = typed_decls path inner decls in
        let os = typed_items inner (Good Statement) items in
        let l = items_at inner (Good Statement) items refl parts.1 in
        joined q (twice [] names ++ ds.inside ++ os.inside) (fault_of os.verdict)
        (three q (twice [] names) ds.inside os.inside (twice_at q [] names (names_of_block_at q decls items parts.0 parts.1)) (decls_at path inner decls parts.0) l.0) l.1

    phrases_at : (path : Scopes) (phrases : tree.Phrases) → phrases_stand q phrases ≡ true → all_stand q (typed_phrases path phrases).inside ≡ true
    phrases_at path tree.no_phrases h = refl
    phrases_at path (tree.phrase_and a phrases) h =
        let parts = and_parts (phrase_stands q a) (phrases_stand q phrases) h in
        joined q (faults (typed_phrase path a)) (typed_phrases path phrases).inside (phrase_at path a parts.0) (phrases_at path phrases parts.1)

    links_at : (path : Scopes) (v : Verdict) (links : tree.Links) → all_stand q (fault_of v) ≡ true → links_stand q links ≡ true → LinksStand (typed_links path v links)
    links_at path v tree.no_links k h = (refl, k)
    links_at path v (tree.link_and (tree.Linked op p a) links) k h =
        let parts = and_parts (q p && phrase_stands q a) (links_stand q links) h in
        let own = and_parts (q p) (phrase_stands q a) parts.0 in
        let o = typed_phrase path a in
        let l = links_at path (link_verdict op p v o) links (link_verdict_at op p v o own.0 k) parts.1 in
        (joined q (faults o) (typed_links path (link_verdict op p v o) links).inside (phrase_at path a own.1) l.0, l.1)

    lists_at : (path : Scopes) (p : Place) (e : Option (Entry Known)) (lists : tree.Lists) → q p ≡ true → lists_stand q lists ≡ true → ListsStand (first_list path p e lists)
    lists_at path p e tree.no_lists i h = (refl, stands q p (use_alone p e) i (use_alone_at p e))
    lists_at path p e (tree.list_and (tree.OfActuals r actuals) lists) i h =
        let parts = and_parts (q r && actuals_stand q actuals) (lists_stand q lists) h in
        let own = and_parts (q r) (actuals_stand q actuals) parts.0 in
        let os = typed_parts path (reading_of e) actuals in
        let v = use_with_list p e os.parts in
        let l = more_at path v lists (stands q p v i (use_with_list_at p e os.parts)) parts.1 in
        (joined q os.inside (more_lists path v lists).inside (parts_at path (reading_of e) actuals own.1) l.0, l.1)
    lists_at path p e (tree.list_and (tree.OfPart r a n) lists) i h =
        let parts = and_parts (q r && phrase_stands q a) (lists_stand q lists) h in
        let own = and_parts (q r) (phrase_stands q a) parts.0 in
        let o = typed_phrase path a in
        let v = part_verdict r n (use_as_base p e o) o in
        let l = more_at path v lists (part_verdict_at r n (use_as_base p e o) o own.0 (stands q p (use_as_base p e o) i (use_as_base_at p e o))) parts.1 in
        (joined q (faults o) (more_lists path v lists).inside (phrase_at path a own.1) l.0, l.1)

    more_at : (path : Scopes) (v : Verdict) (lists : tree.Lists) → all_stand q (fault_of v) ≡ true → lists_stand q lists ≡ true → ListsStand (more_lists path v lists)
    more_at path v tree.no_lists k h = (refl, k)
    more_at path v (tree.list_and (tree.OfActuals r actuals) lists) k h =
        let parts = and_parts (q r && actuals_stand q actuals) (lists_stand q lists) h in
        let own = and_parts (q r) (actuals_stand q actuals) parts.0 in
        let os = typed_parts path as_phrases actuals in
        let w = list_verdict r v os.parts in
        let l = more_at path w lists (list_verdict_at r v os.parts own.0 k) parts.1 in
        (joined q os.inside (more_lists path w lists).inside (parts_at path as_phrases actuals own.1) l.0, l.1)
    more_at path v (tree.list_and (tree.OfPart r a n) lists) k h =
        let parts = and_parts (q r && phrase_stands q a) (lists_stand q lists) h in
        let own = and_parts (q r) (phrase_stands q a) parts.0 in
        let o = typed_phrase path a in
        let w = part_verdict r n v o in
        let l = more_at path w lists (part_verdict_at r n v o own.0 k) parts.1 in
        (joined q (faults o) (more_lists path w lists).inside (phrase_at path a own.1) l.0, l.1)

    parts_at : (path : Scopes) (r : Reading) (actuals : tree.Actuals) → actuals_stand q actuals ≡ true → all_stand q (typed_parts path r actuals).inside ≡ true
    parts_at path r tree.no_actuals h = refl
    parts_at path r (tree.actual_and (tree.Star p) actuals) h = parts_at path (behind r) actuals (and_parts (q p) (actuals_stand q actuals) h).1
    parts_at path r (tree.actual_and (tree.Given a) actuals) h =
        let parts = and_parts (phrase_stands q a) (actuals_stand q actuals) h in
        let o = typed_phrase path a in
        joined q (given path (wanted r) a o).inside (typed_parts path (behind r) actuals).inside (given_at path (wanted r) a o parts.0 (phrase_at path a parts.0)) (parts_at path (behind r) actuals parts.1)

    items_at : (path : Scopes) (v : Verdict) (items : tree.Items) → all_stand q (fault_of v) ≡ true → items_stand q items ≡ true → ItemsStand (typed_items path v items)
    items_at path v tree.no_items k h = (refl, k)
    items_at path v (tree.item_and (tree.Labelled labels a) items) k h =
        let parts = and_parts (names_stand q labels && phrase_stands q a) (items_stand q items) h in
        let own = and_parts (names_stand q labels) (phrase_stands q a) parts.0 in
        let o = typed_phrase path a in
        let w = item_verdict items labels a o in
        let row = item_row (is_last items) (has_labels labels) (first_token a) in
        let more = (typed_items path (then_item v w) items).inside in
        let l = items_at path (then_item v w) items (then_at v w) parts.1 in
        let fault = stands q (first_token a) w (first_at a own.1) (part_at (gives o) row (item_at (is_last items) (has_labels labels) (first_token a))) in
        (three q (faults o) (fault_of w) more (phrase_at path a own.1) fault l.0, l.1)

    bounds_at : (around : Scopes) (bounds : tree.Bounds) → bounds_stand q bounds ≡ true → all_stand q (typed_bounds around bounds).inside ≡ true
    bounds_at around tree.no_bounds h = refl
    bounds_at around (tree.bound_and (tree.Between p a b) bounds) h =
        let parts = and_parts (q p && (phrase_stands q a && phrase_stands q b)) (bounds_stand q bounds) h in
        let own = and_parts (q p) (phrase_stands q a && phrase_stands q b) parts.0 in
        let two = and_parts (phrase_stands q a) (phrase_stands q b) own.1 in
        let o = typed_phrase around a in
        let u = typed_phrase around b in
        let v = two_parts (gives o) (gives u) (bound_row p) in
        let more = (typed_bounds around bounds).inside in
        four q (faults o) (faults u) (fault_of v) more (phrase_at around a two.0) (phrase_at around b two.1) (stands q p v own.0 (two_at (gives o) (gives u) (bound_row p) (bound_at p))) (bounds_at around bounds parts.1)

    decls_at : (around path : Scopes) (decls : tree.Decls) → decls_stand q decls ≡ true → all_stand q (typed_decls around path decls).inside ≡ true
    decls_at around path tree.no_decls h = refl
    decls_at around path (tree.decl_and d decls) h =
        let parts = and_parts (decl_stands q d) (decls_stand q decls) h in
        joined q (typed_decl around path d).inside (typed_decls around path decls).inside (decl_at around path d parts.0) (decls_at around path decls parts.1)

    decl_at : (around path : Scopes) (d : tree.Decl) → decl_stands q d ≡ true → all_stand q (typed_decl around path d).inside ≡ true
    decl_at around path (tree.Simple spec xs) h = spec_at q path spec (and_parts (spec_stands q spec) (names_stand q xs) h).0
    decl_at around path (tree.Array spec xs bounds) h =
        let parts = and_parts (spec_stands q spec) (names_stand q xs && bounds_stand q bounds) h in
        let rest = and_parts (names_stand q xs) (bounds_stand q bounds) parts.1 in
        let n = bound_count bounds in
        joined q (array_faults path spec xs n) (typed_bounds around bounds).inside (joined q (spec_faults path spec) (dimension_fault xs n) (spec_at q path spec parts.0) (dimension_at q xs n rest.0)) (bounds_at around bounds rest.1)
    decl_at around path (tree.Proc p result x formals body) h =
        let parts = and_parts (q p) (result_stands q result && (q x.1 && (formals_stand q formals && phrase_stands q body))) h in
        let typed_ = and_parts (result_stands q result) (q x.1 && (formals_stand q formals && phrase_stands q body)) parts.1 in
        let rest = and_parts (formals_stand q formals) (phrase_stands q body) (and_parts (q x.1) (formals_stand q formals && phrase_stands q body) typed_.1).1 in
        let scope = formal_scope path formals in
        let o = typed_phrase (scope ∷ path) body in
        let v = procedure_verdict p (result_faults path result) (result_type path result) o in
        five q (result_faults path result) (formal_faults path formals) (twice [] scope) (faults o) (fault_of v) (result_at q path result typed_.0) (formals_at q path formals rest.0) (twice_at q [] scope (formal_scope_at q path formals rest.0))
        (phrase_at (scope ∷ path) body rest.1) (stands q p v parts.0 (procedure_verdict_at p (result_faults path result) (result_type path result) o))
    decl_at around path (tree.Class c) h = groups_at q path c.groups (and_parts (q c.name.1) (groups_stand q c.groups) h).1

pub faults_stand : FaultsStandInTrees
faults_stand q path x h = phrase_at q path x h
