-- A typed tree whose names, classes and statements are known has a number for each.
use Rattle.std.proofs.Common.{◌≡◌, Bool, true, false, ◌||◌, List, [], ◌∷◌, ◌++◌, Option, Some, None, refl, ap, ◌∙◌}
use Rattle.std.proofs.lemmas.Bool.{or_left, or_right}
use Rattle.value_ops.specs.declared.places.Place.{Place}
use Rattle.algolw_typing.specs.Known.{AllHad, Knows, KnowsKind, KnowsPerhaps, KnowsNodes, KnowsLinks, KnowsLists, KnowsActuals, KnowsItems, KnowsBounds, KnowsDecls, KnowsDecl}
use Rattle.algolw_typing.specs.Programs.{inserted_by, by_place, counted_at, statements, kind_statements, perhaps_statements, nodes_statements, links_statements, lists_statements, actuals_statements, items_statements, bounds_statements, decls_statements, decl_statements}
use Rattle.algolw_typing.specs.Typed as typed
use Rattle.algolw_typing.specs.Types.{has, is_place, is_before}
use Rattle.program_numbers.specs.Numbered.{StatementNumbered, NodeNumbered, KindNumbered, PerhapsNumbered, NodesNumbered, LinksNumbered, ListsNumbered, ActualsNumbered, ItemsNumbered, BoundsNumbered, DeclsNumbered, DeclNumbered}
use Rattle.program_numbers.specs.declared.numbering.Numbering.{Numbering}
use Rattle.typing_rules.proofs.Sets.{place_itself}

-- ---- lists of places, all of which are had

left : (places xs ys : List Place) → AllHad places (xs ++ ys) → AllHad places xs
left places [] ys h = tt
left places (x ∷ xs) ys h = (h.0, left places xs ys h.1)

right : (places xs ys : List Place) → AllHad places (xs ++ ys) → AllHad places ys
right places [] ys h = h
right places (x ∷ xs) ys h = right places xs ys h.1

all_had : (places set : List Place) → ((p : Place) → has set p ≡ true → has places p ≡ true) → AllHad places set
all_had places [] f = tt
all_had places (c ∷ set) f = (f c (or_left (is_place c c) (has set c) (place_itself c)), all_had places set (λ p h. f p (or_right (is_place c p) (has set p) h)))

swapped : (a b c : Bool) → (a || (b || c)) ≡ (b || (a || c))
swapped true true c = refl
swapped true false c = refl
swapped false b c = refl

has-inserted : (a p : Place) (bs : List Place) → has (inserted_by (λ q. q) a bs) p ≡ (is_place a p || has bs p)
has-inserted a p [] = refl
has-inserted a p (b ∷ bs) = by (is_before b a) (has-inserted a p bs)
  where
    by : (t : Bool) → has (inserted_by (λ q. q) a bs) p ≡ (is_place a p || has bs p)
        → has (elim t as (λ u. List Place) [ true ↦ b ∷ inserted_by (λ q. q) a bs | false ↦ a ∷ b ∷ bs ]) p ≡ (is_place a p || (is_place b p || has bs p))
    by true e = ap (λ t. is_place b p || t) e ∙ swapped (is_place b p) (is_place a p) (has bs p)
    by false e = refl

has-sorted : (p : Place) (xs : List Place) → has (by_place (λ q. q) xs) p ≡ has xs p
has-sorted p [] = refl
has-sorted p (x ∷ xs) = has-inserted x p (by_place (λ q. q) xs) ∙ ap (λ t. is_place x p || t) (has-sorted p xs)

-- places in order are all there
pub all_sorted : (xs : List Place) → AllHad (by_place (λ q. q) xs) xs
all_sorted xs = all_had (by_place (λ q. q) xs) xs (λ p h. has-sorted p xs ∙ h)

-- ---- trees

module _ (n : Numbering) where
  counted : (s : Option Place) → AllHad n.statements (counted_at s) → StatementNumbered n s
  counted None h = tt
  counted (Some p) h = h.0

  mutual
    pub tree_numbered : (x : typed.Node) → Knows n.names n.classes x → AllHad n.statements (statements x) → NodeNumbered n x
    tree_numbered (typed.At p f g s k) h a = (h.0, counted s (left n.statements (counted_at s) (kind_statements k) a), kind_numbered k h.1 (right n.statements (counted_at s) (kind_statements k) a))

    kind_numbered : (k : typed.Kind) → KnowsKind n.names n.classes k → AllHad n.statements (kind_statements k) → KindNumbered n k
    kind_numbered typed.Empty h a = tt
    kind_numbered typed.Null h a = tt
    kind_numbered (typed.Number m) h a = tt
    kind_numbered (typed.Truth b) h a = tt
    kind_numbered (typed.BitsLit b) h a = tt
    kind_numbered (typed.Quoted t) h a = tt
    kind_numbered (typed.Goto d) h a = h
    kind_numbered (typed.Named d lists) h a = (h.0, lists_numbered lists h.1 a)
    kind_numbered (typed.Negated x) h a = tree_numbered x h a
    kind_numbered (typed.Abs x) h a = tree_numbered x h a
    kind_numbered (typed.Signed minus x) h a = tree_numbered x h a
    kind_numbered (typed.Chain x links) h a = (tree_numbered x h.0 (left n.statements (statements x) (links_statements links) a), links_numbered links h.1 (right n.statements (statements x) (links_statements links) a))
    kind_numbered (typed.Relation op x y) h a = (tree_numbered x h.0 (left n.statements (statements x) (statements y) a), tree_numbered y h.1 (right n.statements (statements x) (statements y) a))
    kind_numbered (typed.IsClass x d q) h a = (tree_numbered x h.0 a, h.1)
    kind_numbered (typed.Assign x y) h a = (tree_numbered x h.0 (left n.statements (statements x) (statements y) a), tree_numbered y h.1 (right n.statements (statements x) (statements y) a))
    kind_numbered (typed.IfThen x y z) h a =
        let b = left n.statements (statements x ++ statements y) (perhaps_statements z) a in
        (tree_numbered x h.0 (left n.statements (statements x) (statements y) b), tree_numbered y h.1 (right n.statements (statements x) (statements y) b), perhaps_numbered z h.2 (right n.statements (statements x ++ statements y) (perhaps_statements z) a))
    kind_numbered (typed.CaseValue x values) h a = (tree_numbered x h.0 (left n.statements (statements x) (nodes_statements values) a), nodes_numbered values h.1 (right n.statements (statements x) (nodes_statements values) a))
    kind_numbered (typed.CaseDo x parts) h a = (tree_numbered x h.0 (left n.statements (statements x) (nodes_statements parts) a), nodes_numbered parts h.1 (right n.statements (statements x) (nodes_statements parts) a))
    kind_numbered (typed.ForStep d x step y z) h a =
        let b = left n.statements (statements x ++ perhaps_statements step ++ statements y) (statements z) a in
        let c = left n.statements (statements x ++ perhaps_statements step) (statements y) b in
        (h.0, tree_numbered x h.1 (left n.statements (statements x) (perhaps_statements step) c), perhaps_numbered step h.2 (right n.statements (statements x) (perhaps_statements step) c), tree_numbered y h.3 (right n.statements (statements x ++ perhaps_statements step) (statements y) b), tree_numbered z h.4 (right n.statements (statements x ++ perhaps_statements step ++ statements y) (statements z) a))
    kind_numbered (typed.ForList d values x) h a = (h.0, nodes_numbered values h.1 (left n.statements (nodes_statements values) (statements x) a), tree_numbered x h.2 (right n.statements (nodes_statements values) (statements x) a))
    kind_numbered (typed.WhileDo x y) h a = (tree_numbered x h.0 (left n.statements (statements x) (statements y) a), tree_numbered y h.1 (right n.statements (statements x) (statements y) a))
    kind_numbered (typed.Assert x) h a = tree_numbered x h a
    kind_numbered (typed.Block decls items) h a = (decls_numbered decls h.0 (left n.statements (decls_statements decls) (items_statements items) a), items_numbered items h.1 (right n.statements (decls_statements decls) (items_statements items) a))

    perhaps_numbered : (x : typed.Perhaps) → KnowsPerhaps n.names n.classes x → AllHad n.statements (perhaps_statements x) → PerhapsNumbered n x
    perhaps_numbered typed.Missing h a = tt
    perhaps_numbered (typed.There x) h a = tree_numbered x h a

    nodes_numbered : (xs : typed.Nodes) → KnowsNodes n.names n.classes xs → AllHad n.statements (nodes_statements xs) → NodesNumbered n xs
    nodes_numbered typed.no_nodes h a = tt
    nodes_numbered (typed.node_and x xs) h a = (tree_numbered x h.0 (left n.statements (statements x) (nodes_statements xs) a), nodes_numbered xs h.1 (right n.statements (statements x) (nodes_statements xs) a))

    links_numbered : (xs : typed.Links) → KnowsLinks n.names n.classes xs → AllHad n.statements (links_statements xs) → LinksNumbered n xs
    links_numbered typed.no_links h a = tt
    links_numbered (typed.link_and (typed.Linked op q x) xs) h a = (tree_numbered x h.0 (left n.statements (statements x) (links_statements xs) a), links_numbered xs h.1 (right n.statements (statements x) (links_statements xs) a))

    lists_numbered : (xs : typed.Lists) → KnowsLists n.names n.classes xs → AllHad n.statements (lists_statements xs) → ListsNumbered n xs
    lists_numbered typed.no_lists h a = tt
    lists_numbered (typed.list_and (typed.OfActuals q actuals) xs) h a = (actuals_numbered actuals h.0 (left n.statements (actuals_statements actuals) (lists_statements xs) a), lists_numbered xs h.1 (right n.statements (actuals_statements actuals) (lists_statements xs) a))
    lists_numbered (typed.list_and (typed.OfPart q x m) xs) h a = (tree_numbered x h.0 (left n.statements (statements x) (lists_statements xs) a), lists_numbered xs h.1 (right n.statements (statements x) (lists_statements xs) a))

    actuals_numbered : (xs : typed.Actuals) → KnowsActuals n.names n.classes xs → AllHad n.statements (actuals_statements xs) → ActualsNumbered n xs
    actuals_numbered typed.no_actuals h a = tt
    actuals_numbered (typed.actual_and (typed.Star q) xs) h a = (tt, actuals_numbered xs h a)
    actuals_numbered (typed.actual_and (typed.Given x) xs) h a = (tree_numbered x h.0 (left n.statements (statements x) (actuals_statements xs) a), actuals_numbered xs h.1 (right n.statements (statements x) (actuals_statements xs) a))

    items_numbered : (xs : typed.Items) → KnowsItems n.names n.classes xs → AllHad n.statements (items_statements xs) → ItemsNumbered n xs
    items_numbered typed.no_items h a = tt
    items_numbered (typed.item_and (typed.Labelled labels x) xs) h a = ((h.0, tree_numbered x h.1 (left n.statements (statements x) (items_statements xs) a)), items_numbered xs h.2 (right n.statements (statements x) (items_statements xs) a))

    bounds_numbered : (xs : typed.Bounds) → KnowsBounds n.names n.classes xs → AllHad n.statements (bounds_statements xs) → BoundsNumbered n xs
    bounds_numbered typed.no_bounds h a = tt
    bounds_numbered (typed.bound_and (typed.Between q x y) xs) h a =
        let b = left n.statements (statements x ++ statements y) (bounds_statements xs) a in
        ((tree_numbered x h.0 (left n.statements (statements x) (statements y) b), tree_numbered y h.1 (right n.statements (statements x) (statements y) b)), bounds_numbered xs h.2 (right n.statements (statements x ++ statements y) (bounds_statements xs) a))

    decls_numbered : (xs : typed.Decls) → KnowsDecls n.names n.classes xs → AllHad n.statements (decls_statements xs) → DeclsNumbered n xs
    decls_numbered typed.no_decls h a = tt
    decls_numbered (typed.decl_and d xs) h a = (decl_numbered d h.0 (left n.statements (decl_statements d) (decls_statements xs) a), decls_numbered xs h.1 (right n.statements (decl_statements d) (decls_statements xs) a))

    decl_numbered : (d : typed.Decl) → KnowsDecl n.names n.classes d → AllHad n.statements (decl_statements d) → DeclNumbered n d
    decl_numbered (typed.Simple t xs) h a = h
    decl_numbered (typed.Array t xs bounds) h a = (h.0, h.1, bounds_numbered bounds h.2 a)
    decl_numbered (typed.Proc q result x formals body) h a = (h.0, h.1, h.2, tree_numbered body h.3 a)
    decl_numbered (typed.Class x groups) h a = h
