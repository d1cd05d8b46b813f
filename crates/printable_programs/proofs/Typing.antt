-- A typed tree quotes what its tree quotes.
use Rattle.std.proofs.Common.{◌≡◌, ◌⊎◌, ℕ, List, [], ◌∷◌, Bool, true, false, sym, subst, inl, inr}
use Rattle.algolw_tree.specs.Tree as tree
use Rattle.algolw_typing.specs.Typed as typed
use Rattle.algolw_typing.specs.Kept.{Keeps, KeepsKind, KeepsPerhaps, KeepsPhrases, KeepsLinks, KeepsLists, KeepsActuals, KeepsItems, KeepsBounds, KeepsDecls, KeepsDecl, IsSetting}
use Rattle.printed_lines.specs.Texts.{IsText}
use Rattle.printable_programs.proofs.Trees.{TreeHolds, KindOf, PerhapsHolds, TreesHold, LinksHold, ListsHold, ActualsHold, ItemsHold, BoundsHold, DeclsHold, DeclHolds, NodeHolds, NodeKind, NodePerhaps, NodesHold, NodeLinks, NodeLists, NodeActuals, NodeItems, NodeBounds, NodeDecls, NodeDecl}

-- of two, whichever it is
given_at : {A B C N : Type 0} → A ⊎ B × C → (A → N) → (C → N) → N
given_at (inl a) f g = f a
given_at (inr x) f g = g x.1

mutual
  pub node_holds : (r : Bool) (x : tree.Phrase) (n : typed.Node) → Keeps r x n → TreeHolds x → NodeHolds n
  node_holds r (tree.At p f k) (typed.At q e g s l) h t = kind_holds k l h.3 t

  kind_holds : (k : tree.Kind) (l : typed.Kind) → KeepsKind k l → KindOf k → NodeKind l
  kind_holds tree.Empty typed.Empty h t = tt
  kind_holds tree.Null typed.Null h t = tt
  kind_holds (tree.Number n) (typed.Number m) h t = tt
  kind_holds (tree.Truth b) (typed.Truth c) h t = tt
  kind_holds (tree.BitsLit b) (typed.BitsLit c) h t = tt
  kind_holds (tree.Quoted s) (typed.Quoted u) h t = subst IsText (sym h) t
  kind_holds (tree.Named x lists) (typed.Named d ls) h t = lists_hold lists ls h t
  kind_holds (tree.Negated a) (typed.Negated b) h t = node_holds false a b h t
  kind_holds (tree.Abs a) (typed.Abs b) h t = node_holds false a b h t
  kind_holds (tree.Signed minus a) (typed.Signed m b) h t = node_holds false a b h.1 t
  kind_holds (tree.Chain a links) (typed.Chain b ls) h t = (node_holds false a b h.0 t.0, links_hold links ls h.1 t.1)
  kind_holds (tree.Relation op a b) (typed.Relation o c d) h t = (node_holds false a c h.1 t.0, node_holds false b d h.2 t.1)
  kind_holds (tree.IsClass a x q) (typed.IsClass b d e) h t = node_holds false a b h.1 t
  kind_holds (tree.Assign a b) (typed.Assign c d) h t = (node_holds false a c h.0 t.0, node_holds true b d h.1 t.1)
  kind_holds (tree.IfThen c a b) (typed.IfThen d e g) h t = (node_holds false c d h.0 t.0, node_holds false a e h.1 t.1, perhaps_holds b g h.2 t.2)
  kind_holds (tree.CaseValue c values) (typed.CaseValue d vs) h t = (node_holds false c d h.0 t.0, phrases_hold values vs h.1 t.1)
  kind_holds (tree.CaseDo c parts) (typed.CaseDo d ps) h t = (node_holds false c d h.0 t.0, phrases_hold parts ps h.1 t.1)
  kind_holds (tree.ForStep x a step b body) (typed.ForStep d e st g bd) h t = (node_holds false a e h.0 t.1, perhaps_holds step st h.1 t.2, node_holds false b g h.2 t.3, node_holds false body bd h.3 t.4)
  kind_holds (tree.ForList x values body) (typed.ForList d vs bd) h t = (phrases_hold values vs h.0 t.1, node_holds false body bd h.1 t.2)
  kind_holds (tree.WhileDo c a) (typed.WhileDo d e) h t = (node_holds false c d h.0 t.0, node_holds false a e h.1 t.1)
  kind_holds (tree.Goto x) (typed.Goto d) h t = tt
  kind_holds (tree.Assert c) (typed.Assert d) h t = node_holds false c d h t
  kind_holds (tree.Block decls items) (typed.Block ds is) h t = (decls_hold decls ds h.0 t.0, items_hold items is h.1 t.1)
  kind_holds k l h t = absurd h

  perhaps_holds : (x : tree.Perhaps) (y : typed.Perhaps) → KeepsPerhaps x y → PerhapsHolds x → NodePerhaps y
  perhaps_holds tree.Missing typed.Missing h t = tt
  perhaps_holds (tree.There a) (typed.There b) h t = node_holds false a b h t
  perhaps_holds x y h t = absurd h

  phrases_hold : (xs : tree.Phrases) (ys : typed.Nodes) → KeepsPhrases xs ys → TreesHold xs → NodesHold ys
  phrases_hold tree.no_phrases typed.no_nodes h t = tt
  phrases_hold (tree.phrase_and a xs) (typed.node_and b ys) h t = (node_holds false a b h.0 t.0, phrases_hold xs ys h.1 t.1)
  phrases_hold xs ys h t = absurd h

  links_hold : (xs : tree.Links) (ys : typed.Links) → KeepsLinks xs ys → LinksHold xs → NodeLinks ys
  links_hold tree.no_links typed.no_links h t = tt
  links_hold (tree.link_and (tree.Linked op q a) xs) (typed.link_and (typed.Linked o r b) ys) h t = (node_holds false a b h.2 t.0, links_hold xs ys h.3 t.1)
  links_hold xs ys h t = absurd h

  lists_hold : (xs : tree.Lists) (ys : typed.Lists) → KeepsLists xs ys → ListsHold xs → NodeLists ys
  lists_hold tree.no_lists typed.no_lists h t = tt
  lists_hold (tree.list_and (tree.OfActuals q as_) xs) (typed.list_and (typed.OfActuals r bs) ys) h t = (actuals_hold as_ bs h.1 t.0, lists_hold xs ys h.2 t.1)
  lists_hold (tree.list_and (tree.OfPart q a n) xs) (typed.list_and (typed.OfPart r b m) ys) h t = (node_holds false a b h.1 t.0, lists_hold xs ys h.3 t.1)
  lists_hold xs ys h t = absurd h

  actuals_hold : (xs : tree.Actuals) (ys : typed.Actuals) → KeepsActuals xs ys → ActualsHold xs → NodeActuals ys
  actuals_hold tree.no_actuals typed.no_actuals h t = tt
  actuals_hold (tree.actual_and (tree.Star q) xs) (typed.actual_and (typed.Star r) ys) h t = (tt, actuals_hold xs ys h.1 t.1)
  actuals_hold (tree.actual_and (tree.Given a) xs) (typed.actual_and (typed.Given b) ys) h t = (given_at h.0 (λ k. node_holds false a b k t.0) (λ k. node_holds true a b k t.0), actuals_hold xs ys h.1 t.1)
  actuals_hold xs ys h t = absurd h

  items_hold : (xs : tree.Items) (ys : typed.Items) → KeepsItems xs ys → ItemsHold xs → NodeItems ys
  items_hold tree.no_items typed.no_items h t = tt
  items_hold (tree.item_and (tree.Labelled labels a) xs) (typed.item_and (typed.Labelled ds b) ys) h t = (node_holds false a b h.1 t.0.1, items_hold xs ys h.2 t.1)
  items_hold xs ys h t = absurd h

  bounds_hold : (xs : tree.Bounds) (ys : typed.Bounds) → KeepsBounds xs ys → BoundsHold xs → NodeBounds ys
  bounds_hold tree.no_bounds typed.no_bounds h t = tt
  bounds_hold (tree.bound_and (tree.Between q a b) xs) (typed.bound_and (typed.Between r c d) ys) h t = ((node_holds false a c h.1 t.0.0, node_holds false b d h.2 t.0.1), bounds_hold xs ys h.3 t.1)
  bounds_hold xs ys h t = absurd h

  decls_hold : (xs : tree.Decls) (ys : typed.Decls) → KeepsDecls xs ys → DeclsHold xs → NodeDecls ys
  decls_hold tree.no_decls typed.no_decls h t = tt
  decls_hold (tree.decl_and d xs) (typed.decl_and e ys) h t = (decl_holds d e h.0 t.0, decls_hold xs ys h.1 t.1)
  decls_hold xs ys h t = absurd h

  decl_holds : (d : tree.Decl) (e : typed.Decl) → KeepsDecl d e → DeclHolds d → NodeDecl e
  decl_holds (tree.Simple spec xs) (typed.Simple u ds) h t = tt
  decl_holds (tree.Array spec xs bounds) (typed.Array u ds bs) h t = bounds_hold bounds bs h.1 t.1
  decl_holds (tree.Proc p result x formals body) (typed.Proc q r d fs b) h t = node_holds false body b h.3 t.2
  decl_holds (tree.Class c) (typed.Class d gs) h t = tt
  decl_holds d e h t = absurd h
