-- How large the tree is that a function codes: each call of the cycle is of less.
use Rattle.std.proofs.Common.{◌≡◌, ℕ, zero, suc, ◌+◌, ◌<◌, ◌≤◌, List, [], ◌∷◌, length, Option, Some, None, get_or, refl, sym, subst, arith}
use Rattle.std.specs.Borrow.{Bor}
use Rattle.algolw_tree.specs.declared.programs.Node as held
use Rattle.algolw_tree.specs.declared.programs.TypedPart.{TypedPart}
use Rattle.algolw_typing.specs.Typed.{Node, At, Kind, Named, Negated, Abs, Signed, Chain, Relation, IsClass, Assign, IfThen, CaseValue, CaseDo, ForStep, ForList, WhileDo, Assert, Block, Perhaps, Missing, There, Nodes, no_nodes, node_and, Links, no_links, link_and, Linked, Lists, no_lists, list_and, Listing, OfActuals, OfPart, Actuals, no_actuals, actual_and, Actual, Star, Given, Items, no_items, item_and, Labelled, Bounds, no_bounds, bound_and, Between, Decls, no_decls, decl_and, Decl, Array, Proc}
use Rattle.algolw_typing.specs.ProgramView.{Numbers, node_view, part_view}
use Rattle.symbol_table.specs.Parts.{nodes_in, parts_in}

abbrev mutual
  pub size : Node → ℕ
  size (At p f g s k) = 8 + size_kind k

  pub size_kind : Kind → ℕ
  size_kind (Named x lists) = size_lists lists
  size_kind (Negated a) = size a
  size_kind (Abs a) = size a
  size_kind (Signed minus a) = size a
  size_kind (Chain a links) = size a + size_links links
  size_kind (Relation op a b) = size a + size b
  size_kind (IsClass a x q) = size a
  size_kind (Assign a b) = size a + size b
  size_kind (IfThen c a b) = size c + (size a + size_perhaps b)
  size_kind (CaseValue c values) = size c + size_nodes values
  size_kind (CaseDo c parts) = size c + size_nodes parts
  size_kind (ForStep x a step b body) = size a + (size_perhaps step + (size b + size body))
  size_kind (ForList x values body) = size_nodes values + size body
  size_kind (WhileDo c a) = size c + size a
  size_kind (Assert c) = size c
  size_kind (Block decls items) = size_decls decls + size_items items
  size_kind k = 0

  pub size_perhaps : Perhaps → ℕ
  size_perhaps Missing = 0
  size_perhaps (There a) = size a

  pub size_nodes : Nodes → ℕ
  size_nodes no_nodes = 0
  size_nodes (node_and a nodes) = 8 + size a + size_nodes nodes

  pub size_links : Links → ℕ
  size_links no_links = 0
  size_links (link_and (Linked op q a) links) = 8 + size a + size_links links

  pub size_lists : Lists → ℕ
  size_lists no_lists = 0
  size_lists (list_and l lists) = 8 + size_listing l + size_lists lists

  pub size_listing : Listing → ℕ
  size_listing (OfActuals q actuals) = size_actuals actuals
  size_listing (OfPart q a n) = size a

  pub size_actuals : Actuals → ℕ
  size_actuals no_actuals = 0
  size_actuals (actual_and a actuals) = 8 + size_actual a + size_actuals actuals

  pub size_actual : Actual → ℕ
  size_actual (Star q) = 0
  size_actual (Given a) = size a

  pub size_items : Items → ℕ
  size_items no_items = 0
  size_items (item_and (Labelled labels a) items) = 8 + size a + size_items items

  pub size_bounds : Bounds → ℕ
  size_bounds no_bounds = 0
  size_bounds (bound_and (Between q a b) bounds) = 8 + size a + size b + size_bounds bounds

  pub size_decls : Decls → ℕ
  size_decls no_decls = 0
  size_decls (decl_and d decls) = 8 + size_decl d + size_decls decls

  pub size_decl : Decl → ℕ
  size_decl (Array spec xs bounds) = size_bounds bounds
  size_decl (Proc p result x formals body) = size body
  size_decl d = 0

-- sizes are the same whatever numbers stand for
abbrev pub nothing : Numbers
nothing = record { names = []; classes = []; sets = []; statements = [] }

abbrev pub node_size : held.Node → ℕ
node_size node = size (node_view nothing node)

abbrev pub perhaps_size : Option (Bor held.Node) → ℕ
perhaps_size None = 0
perhaps_size (Some a) = node_size a.now

-- a part of a list is smaller by what each adds
pub part_smaller : {X : Type 0} (S : List X → ℕ) (s : X → ℕ) → ((x : X) (xs : List X) → S (x ∷ xs) ≡ 8 + s x + S xs) → (xs : List X) (i : ℕ) (d : X) → i < length xs → 8 + s (get_or xs i d) ≤ S xs
part_smaller S s step [] i d h = absurd (omega (arith, h))
part_smaller S s step (x ∷ xs) zero d h = omega (arith, step x xs)
part_smaller S s step (x ∷ xs) (suc i) d h = omega (arith, step x xs, part_smaller S s step xs i d (omega (arith, h)))

pub item_smaller : {X : Type 0} (S : List X → ℕ) (s : X → ℕ) → ((x : X) (xs : List X) → S (x ∷ xs) ≡ 8 + s x + S xs) → (xs : List X) (i : ℕ) (x : X) → i < length xs → x ≡ get_or xs i x → 8 + s x ≤ S xs
item_smaller S s step xs i x h is = subst (λ y. 8 + s y ≤ S xs) (sym is) (part_smaller S s step xs i x h)

pub node_less : (nodes : List held.Node) (i : ℕ) (a : held.Node) → i < length nodes → a ≡ get_or nodes i a → 8 + node_size a ≤ size_nodes (nodes_in nothing nodes)
node_less nodes i a l is = item_smaller (λ xs. size_nodes (nodes_in nothing xs)) node_size (λ x xs. refl) nodes i a l is

pub part_less : (parts : List TypedPart) (i : ℕ) (p : TypedPart) → i < length parts → p ≡ get_or parts i p → 8 + size (part_view nothing p) ≤ size_nodes (parts_in nothing parts)
part_less parts i p l is = item_smaller (λ xs. size_nodes (parts_in nothing xs)) (λ x. size (part_view nothing x)) (λ x xs. refl) parts i p l is
