-- The typed tree of a phrase forgets nothing of it.
use Rattle.std.proofs.Common.{◌≡◌, ℕ, List, [], ◌∷◌, ◌++◌, Bool, true, false, Option, Some, None, refl, inl, inr, ◌⊎◌}
use Rattle.std.specs.Bool.{⊤}
use Rattle.value_ops.specs.declared.places.Place.{Place}
use Rattle.algolw_tree.specs.Tree as tree
use Rattle.algolw_typing.specs.Names.{Entry, declared}
use Rattle.algolw_typing.specs.Types.{ValueType, Statement, Simple}
use Rattle.algolw_typing.specs.Verdicts.{Verdict, Good, Fault, Silent, type_of}
use Rattle.algolw_typing.specs.Meanings.{Meaning, an_array, Part, a_phrase, typeless}
use Rattle.algolw_typing.specs.Actuals.{Reading, as_phrases, Wanted, phrase_wanted, wanted, behind, name_read, is_subarray, subarray_row}
use Rattle.algolw_typing.specs.Scopes.{Known, Scopes, formal_scope, names_of_block, label_entries, control_scope}
use Rattle.algolw_typing.specs.Typed as typed
use Rattle.algolw_typing.specs.Typing.{Out, counted, gives, as_verdict, uncounted, link_verdict, read_as, name_given, parts_of_kind, PartOut, phrase_given, subarray_given, array_given, list_given, given, is_setting, setting_given, meaning_of, use_with_list, use_as_base, part_verdict, list_verdict, reading_of, declare_at, typed_formals, typed_groups, item_verdict, then_item, typed_phrase, typed_kind, typed_phrases, typed_links, first_list, more_lists, typed_parts, typed_items, typed_bounds, typed_decls, typed_decl, meanings}
use Rattle.algolw_typing.specs.Kept.{counted_as, IsSetting, KeepsDeclared, KeepsFormals, KeepsGroups, Keeps, KeepsPhrases, KeepsLinks, KeepsLists, KeepsActuals, KeepsItems, KeepsBounds, KeepsDecls, KeepsDecl}

-- a kind that is not the empty phrase
abbrev IsFull : typed.Kind → Type 0
IsFull typed.Empty = ⊥
IsFull l = ⊤

-- Where a phrase is not empty, its verdict counts it as a statement as what it gives does.
counted_alike : (f : Place) (v : Verdict) (l : typed.Kind) → IsFull l → counted f v ≡ counted_as false f (type_of v) l
counted_alike f (Good Statement) typed.Empty h = absurd h
counted_alike f (Good Statement) l h = refl
counted_alike f (Good (Simple t)) l h = refl
counted_alike f (Fault n p) l h = refl
counted_alike f Silent l h = refl

-- At the right of an assignment the statement is not counted again, and the rest is kept.
right_keeps : (a : tree.Phrase) (n : typed.Node) → Keeps false a n → Keeps true a (uncounted n)
right_keeps (tree.At p f k) (typed.At q e None s (typed.Assign c d)) (a, b, u, h) = (a, b, refl, h)
right_keeps (tree.At p f k) (typed.At q e (Some Statement) s (typed.Assign c d)) (a, b, u, h) = (a, b, refl, h)
right_keeps (tree.At p f k) (typed.At q e (Some (Simple t)) s (typed.Assign c d)) (a, b, u, h) = (a, b, refl, h)
right_keeps (tree.At p f k) (typed.At q e g s l) h = h

-- A node without its type is no statement, and keeps the rest.
untyped_keeps : (a : tree.Phrase) (n : typed.Node) → Keeps false a n → Keeps false a (typed.untyped n)
untyped_keeps (tree.At p f k) (typed.At q e g s l) (a, b, u, h) = (a, b, refl, h)

-- An actual keeps its phrase, however it is read: a name alone, an array with subscripts or stars, or any other phrase.
read_keeps : (a : tree.Phrase) (part : Part) (o : Out) → Keeps false a o.node → Keeps false a (read_as part o).node
read_keeps a (a_phrase v g) o h = h
read_keeps a typeless o h = h
read_keeps a part o h = untyped_keeps a o.node h

-- A setting keeps its phrase as the right part of an assignment does, and any other actual as it stands.
abbrev KeepsGiven : tree.Phrase → typed.Node → Type 0
KeepsGiven a n = Keeps false a n ⊎ IsSetting a × Keeps true a n

name_keeps : (a : tree.Phrase) (w : Wanted) (m : Option Meaning) (o : Out) → Keeps false a o.node → Keeps false a (name_given w m o).node
name_keeps a w None o h = h
name_keeps a w (Some m) o h = read_keeps a (name_read w m o.verdict) o h

array_keeps : (a : tree.Phrase) (p : Place) (w : Wanted) (t : ValueType) (n : ℕ) (parts : List Part) (o : Out) → Keeps false a o.node → Keeps false a (array_given p w t n parts o).node
array_keeps a p w t n parts o h = go (is_subarray w parts)
  where
    go : (b : Bool) → Keeps false a (elim b as (λ b. PartOut) [ true ↦ subarray_given w t parts (subarray_row p n parts) o | false ↦ phrase_given true o ]).node
    go true = untyped_keeps a o.node h
    go false = h

list_keeps : (a : tree.Phrase) (p : Place) (w : Wanted) (m : Option Meaning) (o : Out) → Keeps false a o.node → Keeps false a (list_given p w m o).node
list_keeps a p w (Some (an_array t n)) o h = array_keeps a p w t n (parts_of_kind (typed.kind o.node)) o h
list_keeps a p w m o h = h

setting_keeps : (path : Scopes) (w : Wanted) (p f : Place) (a b : tree.Phrase) (o : Out) → Keeps false (tree.At p f (tree.Assign a b)) o.node → KeepsGiven (tree.At p f (tree.Assign a b)) (given path w (tree.At p f (tree.Assign a b)) o).node
setting_keeps path phrase_wanted p f (tree.At q e (tree.Named x tree.no_lists)) b o h = go (is_setting path phrase_wanted (tree.At q e (tree.Named x tree.no_lists)) b)
  where
    a : tree.Phrase
    a = tree.At p f (tree.Assign (tree.At q e (tree.Named x tree.no_lists)) b)

    go : (c : Bool) → KeepsGiven a (elim c as (λ c. PartOut) [ true ↦ setting_given o | false ↦ phrase_given false o ]).node
    go true = inr (tt, right_keeps a o.node h)
    go false = inl h
setting_keeps path w p f a b o h = inl h

given_keeps : (path : Scopes) (w : Wanted) (a : tree.Phrase) (o : Out) → Keeps false a o.node → KeepsGiven a (given path w a o).node
given_keeps path w (tree.At p f (tree.Named x tree.no_lists)) o h = inl (name_keeps (tree.At p f (tree.Named x tree.no_lists)) w (meaning_of (declared path x)) o h)
given_keeps path w (tree.At p f (tree.Named x (tree.list_and (tree.OfActuals q actuals) tree.no_lists))) o h = inl (list_keeps (tree.At p f (tree.Named x (tree.list_and (tree.OfActuals q actuals) tree.no_lists))) p w (meaning_of (declared path x)) o h)
given_keeps path w (tree.At p f (tree.Named x lists)) o h = inl h
given_keeps path w (tree.At p f (tree.Assign a b)) o h = setting_keeps path w p f a b o h
given_keeps path w a o h = inl h

-- Declarations keep their names, with the modes and dimensions of formals.
declared_kept : (xs : List tree.Placed) → KeepsDeclared xs (declare_at xs)
declared_kept [] = tt
declared_kept (x ∷ xs) = (refl, declared_kept xs)

formals_kept : (path : Scopes) (formals : List tree.Formal) → KeepsFormals formals (typed_formals path formals)
formals_kept path [] = tt
formals_kept path (f ∷ formals) = (refl, refl, declared_kept f.names, formals_kept path formals)

groups_kept : (path : Scopes) (groups : List (tree.TypeSpec × List tree.Placed)) → KeepsGroups groups (typed_groups path groups)
groups_kept path [] = tt
groups_kept path (g ∷ groups) = (declared_kept g.1, groups_kept path groups)

-- The typed tree keeps the tree, part by part, in every path.
mutual
  pub phrase_kept : (path : Scopes) (x : tree.Phrase) → Keeps false x (typed_phrase path x).node
  phrase_kept path (tree.At p f k) = kind_kept path p f k

  kind_kept : (path : Scopes) (p f : Place) (k : tree.Kind) → Keeps false (tree.At p f k) (typed_kind path p f k).node
  kind_kept path p f tree.Empty = (refl, refl, refl, tt)
  kind_kept path p f tree.Null = (refl, refl, refl, tt)
  kind_kept path p f (tree.Number n) = (refl, refl, refl, refl)
  kind_kept path p f (tree.Truth b) = (refl, refl, refl, refl)
  kind_kept path p f (tree.BitsLit b) = (refl, refl, refl, refl)
  kind_kept path p f (tree.Quoted s) = (refl, refl, refl, refl)
  kind_kept path p f (tree.Named x lists) = (refl, refl, counted_alike f _ _ tt, lists_kept path p (declared path x) lists)
  kind_kept path p f (tree.Negated a) = (refl, refl, counted_alike f _ _ tt, phrase_kept path a)
  kind_kept path p f (tree.Abs a) = (refl, refl, counted_alike f _ _ tt, phrase_kept path a)
  kind_kept path p f (tree.Signed minus a) = (refl, refl, counted_alike f _ _ tt, (refl, phrase_kept path a))
  kind_kept path p f (tree.Chain a links) = (refl, refl, counted_alike f _ _ tt, (phrase_kept path a, links_kept path (as_verdict (gives (typed_phrase path a))) links))
  kind_kept path p f (tree.Relation op a b) = (refl, refl, counted_alike f _ _ tt, (refl, phrase_kept path a, phrase_kept path b))
  kind_kept path p f (tree.IsClass a x q) = (refl, refl, counted_alike f _ _ tt, (refl, phrase_kept path a))
  kind_kept path p f (tree.Assign a b) = (refl, refl, counted_alike f _ _ tt, (phrase_kept path a, right_keeps b (typed_phrase path b).node (phrase_kept path b)))
  kind_kept path p f (tree.IfThen c a tree.Missing) = (refl, refl, counted_alike f _ _ tt, (phrase_kept path c, phrase_kept path a, tt))
  kind_kept path p f (tree.IfThen c a (tree.There b)) = (refl, refl, counted_alike f _ _ tt, (phrase_kept path c, phrase_kept path a, phrase_kept path b))
  kind_kept path p f (tree.CaseValue c values) = (refl, refl, counted_alike f _ _ tt, (phrase_kept path c, phrases_kept path values))
  kind_kept path p f (tree.CaseDo c parts) = (refl, refl, counted_alike f _ _ tt, (phrase_kept path c, phrases_kept path parts))
  kind_kept path p f (tree.ForStep x a tree.Missing b body) = (refl, refl, counted_alike f _ _ tt, (phrase_kept path a, tt, phrase_kept path b, phrase_kept (control_scope p x ∷ path) body))
  kind_kept path p f (tree.ForStep x a (tree.There step) b body) = (refl, refl, counted_alike f _ _ tt, (phrase_kept path a, phrase_kept path step, phrase_kept path b, phrase_kept (control_scope p x ∷ path) body))
  kind_kept path p f (tree.ForList x values body) = (refl, refl, counted_alike f _ _ tt, (phrases_kept path values, phrase_kept (control_scope p x ∷ path) body))
  kind_kept path p f (tree.WhileDo c a) = (refl, refl, counted_alike f _ _ tt, (phrase_kept path c, phrase_kept path a))
  kind_kept path p f (tree.Goto x) = (refl, refl, counted_alike f _ _ tt, tt)
  kind_kept path p f (tree.Assert c) = (refl, refl, counted_alike f _ _ tt, phrase_kept path c)
  kind_kept path p f (tree.Block decls items) =
      let inner = (meanings path (names_of_block decls items ∷ path) decls ++ label_entries items) ∷ path in
      (refl, refl, counted_alike f _ _ tt, (decls_kept path inner decls, items_kept inner (Good Statement) items))

  phrases_kept : (path : Scopes) (phrases : tree.Phrases) → KeepsPhrases phrases (typed_phrases path phrases).nodes
  phrases_kept path tree.no_phrases = tt
  phrases_kept path (tree.phrase_and a phrases) = (phrase_kept path a, phrases_kept path phrases)

  links_kept : (path : Scopes) (v : Verdict) (links : tree.Links) → KeepsLinks links (typed_links path v links).links
  links_kept path v tree.no_links = tt
  links_kept path v (tree.link_and (tree.Linked op q a) links) = (refl, refl, phrase_kept path a, links_kept path (link_verdict op q v (typed_phrase path a)) links)

  lists_kept : (path : Scopes) (p : Place) (e : Option (Entry Known)) (lists : tree.Lists) → KeepsLists lists (first_list path p e lists).lists
  lists_kept path p e tree.no_lists = tt
  lists_kept path p e (tree.list_and (tree.OfActuals q actuals) lists) = (refl, parts_kept path (reading_of e) actuals, more_kept path (use_with_list p e (typed_parts path (reading_of e) actuals).parts) lists)
  lists_kept path p e (tree.list_and (tree.OfPart q a n) lists) = (refl, phrase_kept path a, refl, more_kept path (part_verdict q n (use_as_base p e (typed_phrase path a)) (typed_phrase path a)) lists)

  more_kept : (path : Scopes) (v : Verdict) (lists : tree.Lists) → KeepsLists lists (more_lists path v lists).lists
  more_kept path v tree.no_lists = tt
  more_kept path v (tree.list_and (tree.OfActuals q actuals) lists) = (refl, parts_kept path as_phrases actuals, more_kept path (list_verdict q v (typed_parts path as_phrases actuals).parts) lists)
  more_kept path v (tree.list_and (tree.OfPart q a n) lists) = (refl, phrase_kept path a, refl, more_kept path (part_verdict q n v (typed_phrase path a)) lists)

  parts_kept : (path : Scopes) (r : Reading) (actuals : tree.Actuals) → KeepsActuals actuals (typed_parts path r actuals).actuals
  parts_kept path r tree.no_actuals = tt
  parts_kept path r (tree.actual_and (tree.Star q) actuals) = (refl, parts_kept path (behind r) actuals)
  parts_kept path r (tree.actual_and (tree.Given a) actuals) = (given_keeps path (wanted r) a (typed_phrase path a) (phrase_kept path a), parts_kept path (behind r) actuals)

  items_kept : (path : Scopes) (v : Verdict) (items : tree.Items) → KeepsItems items (typed_items path v items).items
  items_kept path v tree.no_items = tt
  items_kept path v (tree.item_and (tree.Labelled labels a) items) = (declared_kept labels, phrase_kept path a, items_kept path (then_item v (item_verdict items labels a (typed_phrase path a))) items)

  bounds_kept : (around : Scopes) (bounds : tree.Bounds) → KeepsBounds bounds (typed_bounds around bounds).bounds
  bounds_kept around tree.no_bounds = tt
  bounds_kept around (tree.bound_and (tree.Between q a b) bounds) = (refl, phrase_kept around a, phrase_kept around b, bounds_kept around bounds)

  decls_kept : (around path : Scopes) (decls : tree.Decls) → KeepsDecls decls (typed_decls around path decls).decls
  decls_kept around path tree.no_decls = tt
  decls_kept around path (tree.decl_and d decls) = (decl_kept around path d, decls_kept around path decls)

  decl_kept : (around path : Scopes) (d : tree.Decl) → KeepsDecl d (typed_decl around path d).decl
  decl_kept around path (tree.Simple spec xs) = declared_kept xs
  decl_kept around path (tree.Array spec xs bounds) = (declared_kept xs, bounds_kept around bounds)
  decl_kept around path (tree.Proc p result x formals body) = (refl, refl, formals_kept path formals, phrase_kept (formal_scope path formals ∷ path) body)
  decl_kept around path (tree.Class c) = (refl, groups_kept path c.groups)
