-- How large a phrase is.
use Rattle.std.proofs.Common.{◌≡◌, ℕ, zero, suc, ◌+◌, ◌<◌, List, [], ◌∷◌, length, get_or, sym, subst, arith}
use Rattle.algolw_tree.specs.Tree.{Phrase, At, Kind, Named, Negated, Abs, Signed, Chain, Relation, IsClass, Assign, IfThen, CaseValue, CaseDo, ForStep, ForList, WhileDo, Assert, Block, Perhaps, Missing, There, Phrases, no_phrases, phrase_and, Links, no_links, link_and, Linked, Lists, no_lists, list_and, Listing, OfActuals, OfPart, Actuals, no_actuals, actual_and, Actual, Star, Given, Items, no_items, item_and, Labelled, Bounds, no_bounds, bound_and, Between, Decls, no_decls, decl_and, Decl, Array, Proc}

abbrev mutual
  pub size : Phrase → ℕ
  size (At p f k) = suc (size_kind k)

  pub size_kind : Kind → ℕ
  size_kind (Named x lists) = suc (size_lists lists)
  size_kind (Negated a) = size a
  size_kind (Abs a) = size a
  size_kind (Signed minus a) = size a
  size_kind (Chain a links) = suc (size a + size_links links)
  size_kind (Relation op a b) = suc (size a + size b)
  size_kind (IsClass a x q) = suc (size a)
  size_kind (Assign a b) = suc (size a + size b)
  size_kind (IfThen c a b) = suc (size c + size a + size_perhaps b)
  size_kind (CaseValue c values) = suc (size c + size_phrases values)
  size_kind (CaseDo c parts) = suc (size c + size_phrases parts)
  size_kind (ForStep x a step b body) = suc (size a + size_perhaps step + size b + size body)
  size_kind (ForList x values body) = suc (size_phrases values + size body)
  size_kind (WhileDo c a) = suc (size c + size a)
  size_kind (Assert c) = size c
  size_kind (Block decls items) = suc (suc (size_decls decls + size_items items))
  size_kind k = 0

  pub size_perhaps : Perhaps → ℕ
  size_perhaps Missing = 1
  size_perhaps (There a) = suc (size a)

  pub size_phrases : Phrases → ℕ
  size_phrases no_phrases = 1
  size_phrases (phrase_and a phrases) = suc (size a + size_phrases phrases)

  pub size_links : Links → ℕ
  size_links no_links = 1
  size_links (link_and (Linked op q a) links) = suc (size a + size_links links)

  pub size_lists : Lists → ℕ
  size_lists no_lists = 1
  size_lists (list_and l lists) = suc (size_listing l + size_lists lists)

  pub size_listing : Listing → ℕ
  size_listing (OfActuals q actuals) = suc (size_actuals actuals)
  size_listing (OfPart q a n) = suc (size a)

  pub size_actuals : Actuals → ℕ
  size_actuals no_actuals = 1
  size_actuals (actual_and a actuals) = suc (size_actual a + size_actuals actuals)

  pub size_actual : Actual → ℕ
  size_actual (Star q) = 1
  size_actual (Given a) = suc (size a)

  pub size_items : Items → ℕ
  size_items no_items = 1
  size_items (item_and (Labelled labels a) items) = suc (size a + size_items items)

  pub size_bounds : Bounds → ℕ
  size_bounds no_bounds = 1
  size_bounds (bound_and (Between q a b) bounds) = suc (suc (size a + size b) + size_bounds bounds)

  pub size_decls : Decls → ℕ
  size_decls no_decls = 1
  size_decls (decl_and d decls) = suc (size_decl d + size_decls decls)

  pub size_decl : Decl → ℕ
  size_decl (Array spec xs bounds) = suc (size_bounds bounds)
  size_decl (Proc p result x formals body) = suc (size body)
  size_decl d = 1

-- a part of a list is smaller
pub part_smaller : {X : Type 0} (S : List X → ℕ) (s : X → ℕ) → ((x : X) (xs : List X) → S (x ∷ xs) ≡ suc (s x + S xs)) → (xs : List X) (i : ℕ) (d : X) → i < length xs → s (get_or xs i d) < S xs
part_smaller S s step [] i d h = absurd (omega arith)
part_smaller S s step (x ∷ xs) zero d h = omega (arith, step x xs)
part_smaller S s step (x ∷ xs) (suc i) d h = omega (arith, step x xs, part_smaller S s step xs i d (omega (arith, h)))

pub item_smaller : {X : Type 0} (S : List X → ℕ) (s : X → ℕ) → ((x : X) (xs : List X) → S (x ∷ xs) ≡ suc (s x + S xs)) → (xs : List X) (i : ℕ) (x : X) → i < length xs → x ≡ get_or xs i x → s x < S xs
item_smaller S s step xs i x h is = subst (λ y. s y < S xs) (sym is) (part_smaller S s step xs i x h)
