-- The names of a program whose declared names are words.
use Rattle.std.proofs.Common.{◌≡◌, ℕ, suc, List, [], ◌∷◌, ◌++◌, Bool, true, false, ◌&&◌, nat_le, refl, Option, Some, None}
use Rattle.std.specs.List.{list_all}
use Rattle.std.proofs.lemmas.List.Elements.{All-nil}
use Rattle.std.proofs.lemmas.List.Sums.{AllPass-from_list_all}
use Rattle.value_ops.specs.declared.places.Place.{Place}
use Rattle.algolw_tree.specs.declared.programs.NameInfo.{NameInfo}
use Rattle.algolw_tree.specs.Tree.{Placed, TypeSpec, Formal}
use Rattle.algolw_tree.specs.Tree as tree
use Rattle.algolw_typing.specs.Types.{is_place, is_before}
use Rattle.algolw_typing.specs.Scopes.{group_names}
use Rattle.algolw_typing.specs.Naming.{Naming, nothing, and, NamePath, Frame, scope_of, decl_names, decls_names, label_names, block_names, formal_names, standard_names, infos, inside, of_procedure, declares, class_naming, naming, kind_naming, perhaps_naming, phrases_naming, links_naming, lists_naming, actuals_naming, items_naming, bounds_naming, decls_naming, decl_naming, outermost, program_naming}
use Rattle.algolw_typing.specs.Programs.{inserted_by, by_place, ordered_names}
use Rattle.program_meaning.specs.Translating.{text_at}
use Rattle.printed_lines.specs.Texts.{IsVisible, IsWord}
use Rattle.printable_programs.proofs.Tests.{and_of, range_of}
use Rattle.printable_programs.proofs.Trees.{Each, NameHolds, FormalHolds, GroupHolds, TreeHolds, KindOf, PerhapsHolds, TreesHold, LinksHold, ListsHold, ActualsHold, ItemsHold, BoundsHold, DeclsHold, DeclHolds}

abbrev pub InfoHolds : NameInfo → Type 0
InfoHolds info = IsWord info.name

both : {A : Type 0} (P : A → Type 0) (xs ys : List A) → Each P xs → Each P ys → Each P (xs ++ ys)
both P [] ys h k = k
both P (x ∷ xs) ys h k = (h.0, both P xs ys h.1 k)

-- ---- what is declared

groups_names : (gs : List (TypeSpec × List Placed)) → Each GroupHolds gs → Each NameHolds (group_names gs)
groups_names [] h = tt
groups_names (g ∷ gs) h = both NameHolds g.1 (group_names gs) h.0 (groups_names gs h.1)

decl_named : (d : tree.Decl) → DeclHolds d → Each NameHolds (decl_names d)
decl_named (tree.Simple spec xs) h = h
decl_named (tree.Array spec xs bounds) h = h.0
decl_named (tree.Proc p result x formals body) h = (h.0, tt)
decl_named (tree.Class c) h = (h.0, groups_names c.groups h.1)

decls_named : (ds : tree.Decls) → DeclsHold ds → Each NameHolds (decls_names ds)
decls_named tree.no_decls h = tt
decls_named (tree.decl_and d ds) h = both NameHolds (decl_names d) (decls_names ds) (decl_named d h.0) (decls_named ds h.1)

labels_named : (is : tree.Items) → ItemsHold is → Each NameHolds (label_names is)
labels_named tree.no_items h = tt
labels_named (tree.item_and (tree.Labelled labels a) is) h = both NameHolds labels (label_names is) h.0.0 (labels_named is h.1)

formals_named : (fs : List Formal) → Each FormalHolds fs → Each NameHolds (formal_names fs)
formals_named [] h = tt
formals_named (f ∷ fs) h = both NameHolds f.names (formal_names fs) h.0 (formals_named fs h.1)

infos_hold : (frame : Frame) (xs : List Placed) → Each NameHolds xs → Each InfoHolds (infos frame xs)
infos_hold frame [] h = tt
infos_hold frame (x ∷ xs) h = (h.0, infos_hold (record frame { slot = suc frame.slot }) xs h.1)

-- ---- phrases

abbrev Named : Naming → Type 0
Named n = Each InfoHolds n.names

joined : (a b : Naming) → Named a → Named b → Named (and a b)
joined a b h k = both InfoHolds a.names b.names h k

mutual
  named : (frame : Frame) (path : NamePath) (x : tree.Phrase) → TreeHolds x → Named (naming frame path x)
  named frame path (tree.At p f k) h = kind_named frame path p k h

  kind_named : (frame : Frame) (path : NamePath) (p : Place) (k : tree.Kind) → KindOf k → Named (kind_naming frame path p k)
  kind_named frame path p tree.Empty h = tt
  kind_named frame path p tree.Null h = tt
  kind_named frame path p (tree.Number n) h = tt
  kind_named frame path p (tree.Truth b) h = tt
  kind_named frame path p (tree.BitsLit b) h = tt
  kind_named frame path p (tree.Quoted s) h = tt
  kind_named frame path p (tree.Goto x) h = tt
  kind_named frame path p (tree.Named x lists) h = lists_named frame path lists h
  kind_named frame path p (tree.Negated a) h = named frame path a h
  kind_named frame path p (tree.Abs a) h = named frame path a h
  kind_named frame path p (tree.Signed minus a) h = named frame path a h
  kind_named frame path p (tree.Chain a links) h = joined (naming frame path a) (links_naming frame path links) (named frame path a h.0) (links_named frame path links h.1)
  kind_named frame path p (tree.Relation o a b) h = joined (naming frame path a) (naming frame path b) (named frame path a h.0) (named frame path b h.1)
  kind_named frame path p (tree.IsClass a x q) h = named frame path a h
  kind_named frame path p (tree.Assign a b) h = joined (naming frame path a) (naming frame path b) (named frame path a h.0) (named frame path b h.1)
  kind_named frame path p (tree.IfThen c a b) h = joined (naming frame path c) (and (naming frame path a) (perhaps_naming frame path b)) (named frame path c h.0) (joined (naming frame path a) (perhaps_naming frame path b) (named frame path a h.1) (perhaps_named frame path b h.2))
  kind_named frame path p (tree.CaseValue c values) h = joined (naming frame path c) (phrases_naming frame path values) (named frame path c h.0) (phrases_named frame path values h.1)
  kind_named frame path p (tree.CaseDo c parts) h = joined (naming frame path c) (phrases_naming frame path parts) (named frame path c h.0) (phrases_named frame path parts h.1)
  kind_named frame path p (tree.ForStep x a step b body) h =
      let xs : List Placed = (x, p) ∷ [] in
      let f = inside frame xs in
      let within = scope_of xs ∷ path in
      joined (declares frame xs) (and (naming f path a) (and (perhaps_naming f path step) (and (naming f path b) (naming f within body)))) (h.0, tt)
      (joined (naming f path a) (and (perhaps_naming f path step) (and (naming f path b) (naming f within body))) (named f path a h.1)
      (joined (perhaps_naming f path step) (and (naming f path b) (naming f within body)) (perhaps_named f path step h.2)
      (joined (naming f path b) (naming f within body) (named f path b h.3) (named f within body h.4))))
  kind_named frame path p (tree.ForList x values body) h =
      let xs : List Placed = (x, p) ∷ [] in
      let f = inside frame xs in
      let within = scope_of xs ∷ path in
      joined (declares frame xs) (and (phrases_naming f path values) (naming f within body)) (h.0, tt)
      (joined (phrases_naming f path values) (naming f within body) (phrases_named f path values h.1) (named f within body h.2))
  kind_named frame path p (tree.WhileDo c a) h = joined (naming frame path c) (naming frame path a) (named frame path c h.0) (named frame path a h.1)
  kind_named frame path p (tree.Assert c) h = named frame path c h
  kind_named frame path p (tree.Block decls items) h =
      let xs : List Placed = block_names decls items in
      let f = inside frame xs in
      let within = scope_of xs ∷ path in
      joined (declares frame xs) (and (decls_naming f path within decls) (items_naming f within items))
      (infos_hold frame xs (both NameHolds (decls_names decls) (label_names items) (decls_named decls h.0) (labels_named items h.1)))
      (joined (decls_naming f path within decls) (items_naming f within items) (all_named f path within decls h.0) (items_named f within items h.1))

  perhaps_named : (frame : Frame) (path : NamePath) (x : tree.Perhaps) → PerhapsHolds x → Named (perhaps_naming frame path x)
  perhaps_named frame path tree.Missing h = tt
  perhaps_named frame path (tree.There a) h = named frame path a h

  phrases_named : (frame : Frame) (path : NamePath) (xs : tree.Phrases) → TreesHold xs → Named (phrases_naming frame path xs)
  phrases_named frame path tree.no_phrases h = tt
  phrases_named frame path (tree.phrase_and a rest) h = joined (naming frame path a) (phrases_naming frame path rest) (named frame path a h.0) (phrases_named frame path rest h.1)

  links_named : (frame : Frame) (path : NamePath) (xs : tree.Links) → LinksHold xs → Named (links_naming frame path xs)
  links_named frame path tree.no_links h = tt
  links_named frame path (tree.link_and (tree.Linked o q a) rest) h = joined (naming frame path a) (links_naming frame path rest) (named frame path a h.0) (links_named frame path rest h.1)

  lists_named : (frame : Frame) (path : NamePath) (xs : tree.Lists) → ListsHold xs → Named (lists_naming frame path xs)
  lists_named frame path tree.no_lists h = tt
  lists_named frame path (tree.list_and (tree.OfActuals q actuals) rest) h = joined (actuals_naming frame path actuals) (lists_naming frame path rest) (actuals_named frame path actuals h.0) (lists_named frame path rest h.1)
  lists_named frame path (tree.list_and (tree.OfPart q a n) rest) h = joined (naming frame path a) (lists_naming frame path rest) (named frame path a h.0) (lists_named frame path rest h.1)

  actuals_named : (frame : Frame) (path : NamePath) (xs : tree.Actuals) → ActualsHold xs → Named (actuals_naming frame path xs)
  actuals_named frame path tree.no_actuals h = tt
  actuals_named frame path (tree.actual_and (tree.Star q) rest) h = actuals_named frame path rest h.1
  actuals_named frame path (tree.actual_and (tree.Given a) rest) h = joined (naming frame path a) (actuals_naming frame path rest) (named frame path a h.0) (actuals_named frame path rest h.1)

  items_named : (frame : Frame) (path : NamePath) (xs : tree.Items) → ItemsHold xs → Named (items_naming frame path xs)
  items_named frame path tree.no_items h = tt
  items_named frame path (tree.item_and (tree.Labelled labels a) rest) h = joined (naming frame path a) (items_naming frame path rest) (named frame path a h.0.1) (items_named frame path rest h.1)

  bounds_named : (frame : Frame) (path : NamePath) (xs : tree.Bounds) → BoundsHold xs → Named (bounds_naming frame path xs)
  bounds_named frame path tree.no_bounds h = tt
  bounds_named frame path (tree.bound_and (tree.Between q a b) rest) h = joined (naming frame path a) (and (naming frame path b) (bounds_naming frame path rest)) (named frame path a h.0.0) (joined (naming frame path b) (bounds_naming frame path rest) (named frame path b h.0.1) (bounds_named frame path rest h.1))

  all_named : (frame : Frame) (around path : NamePath) (xs : tree.Decls) → DeclsHold xs → Named (decls_naming frame around path xs)
  all_named frame around path tree.no_decls h = tt
  all_named frame around path (tree.decl_and d rest) h = joined (decl_naming frame around path d) (decls_naming frame around path rest) (one_named frame around path d h.0) (all_named frame around path rest h.1)

  one_named : (frame : Frame) (around path : NamePath) (d : tree.Decl) → DeclHolds d → Named (decl_naming frame around path d)
  one_named frame around path (tree.Simple spec xs) h = tt
  one_named frame around path (tree.Array spec xs bounds) h = bounds_named frame around bounds h.1
  one_named frame around path (tree.Proc p result x formals body) h =
      let xs : List Placed = formal_names formals in
      let f = of_procedure frame in
      joined (declares f xs) (naming (inside f xs) (scope_of xs ∷ path) body) (infos_hold f xs (formals_named formals h.1)) (named (inside f xs) (scope_of xs ∷ path) body h.2)
  one_named frame around path (tree.Class c) h = tt

-- ---- programs

abbrev is_visible : ℕ → Bool
is_visible c = nat_le 33 c && nat_le c 126

visible : (c : ℕ) → is_visible c ≡ true → IsVisible c
visible c h = range_of 33 126 c h

word_of : (s : List ℕ) → list_all is_visible s ≡ true → IsWord s
word_of s h = record { each = λ k d l. visible _ (AllPass-from_list_all is_visible s h k d l) }

written : (xs : List Placed) → list_all (λ x. list_all is_visible x.0) xs ≡ true → Each NameHolds xs
written [] h = tt
written (x ∷ xs) h =
    let parts = and_of (list_all is_visible x.0) (list_all (λ y. list_all is_visible y.0) xs) h in
    (word_of x.0 parts.0, written xs parts.1)

program_named : (x : tree.Phrase) → TreeHolds x → Named (program_naming x)
program_named x h =
    joined (declares outermost standard_names) (naming (inside outermost standard_names) (scope_of standard_names ∷ []) x)
    (infos_hold outermost standard_names (written standard_names refl)) (named (inside outermost standard_names) (scope_of standard_names ∷ []) x h)

inserted_hold : (i : NameInfo) (xs : List NameInfo) → InfoHolds i → Each InfoHolds xs → Each InfoHolds (inserted_by (λ info. info.place) i xs)
inserted_hold i [] h k = (h, tt)
inserted_hold i (x ∷ xs) h k = go (is_before x.place i.place) (inserted_hold i xs h k.1)
  where
    go : (b : Bool) → Each InfoHolds (inserted_by (λ info. info.place) i xs) → Each InfoHolds (elim b [ true ↦ x ∷ inserted_by (λ info. info.place) i xs | false ↦ i ∷ x ∷ xs ])
    go true r = (k.0, r)
    go false r = (h, k)

ordered_hold : (xs : List NameInfo) → Each InfoHolds xs → Each InfoHolds (by_place (λ info. info.place) xs)
ordered_hold [] h = tt
ordered_hold (x ∷ xs) h = inserted_hold x (by_place (λ info. info.place) xs) h.0 (ordered_hold xs h.1)

pub names_hold : (x : tree.Phrase) → TreeHolds x → Each InfoHolds (ordered_names (program_naming x))
names_hold x h = ordered_hold (program_naming x).names (program_named x h)

text_at_place : (b : Bool) (s t : List ℕ) → IsWord s → IsWord t → IsWord (elim b [ true ↦ s | false ↦ t ])
text_at_place true s t h k = h
text_at_place false s t h k = k

pub text_at_holds : (xs : List NameInfo) (x : Place) → Each InfoHolds xs → IsWord (text_at xs x)
text_at_holds [] x h = record { each = All-nil IsVisible }
text_at_holds (i ∷ xs) x h = text_at_place (is_place i.place x) i.name (text_at xs x) h.0 (text_at_holds xs x h.1)
