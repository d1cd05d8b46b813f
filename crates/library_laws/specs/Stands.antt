-- Where the faults of a phrase stand: at places that its tree mentions.
use Rattle.std.specs.Prelude.{◌≡◌, ◌==◌, ◌<◌, ℕ, suc, ℤ, List, [], ◌∷◌, length, Option, Some, None, Bool, true, cond, ◌&&◌, nat_lt, ⊤}
use Rattle.value_ops.specs.declared.places.Place.{Place}
use Rattle.value_ops.specs.declared.places.Diagnostic.{Diagnostic}
use Rattle.algolw_tree.specs.Tree.{Placed, TypeSpec, Formal, Phrase}
use Rattle.algolw_tree.specs.Tree as tree
use Rattle.algolw_tree.specs.declared.tokens.Token.{Token}
use Rattle.algolw_tree.specs.Tokens.{AreTokens}
use Rattle.algolw_tree.specs.Parts.{Beyond}
use Rattle.algolw_tree.specs.Programs.{Spells}
use Rattle.algolw_tree.specs.Libraries.{composed, library_cards, wrapped}
use Rattle.algolw_typing.specs.Scopes.{Scopes}
use Rattle.algolw_typing.specs.Typing.{typed_phrase, faults}
use Rattle.algolw_typing.specs.Faults.{program_faults}
use Rattle.library_laws.specs.LibraryLaws.{in_library}

module _ (q : Place → Bool) where
  -- ---- whether all places that it mentions are among those of q

  abbrev pub names_stand : List Placed → Bool
  names_stand [] = true
  names_stand (x ∷ xs) = q x.1 && names_stand xs

  abbrev pub number_stands : Option (ℤ × Place) → Bool
  number_stands None = true
  number_stands (Some n) = q n.1

  abbrev pub spec_stands : TypeSpec → Bool
  spec_stands (tree.Bits n) = number_stands n
  spec_stands (tree.Str n) = number_stands n
  spec_stands (tree.Reference xs) = names_stand xs
  spec_stands t = true

  abbrev pub result_stands : Option TypeSpec → Bool
  result_stands None = true
  result_stands (Some t) = spec_stands t

  abbrev pub formals_stand : List Formal → Bool
  formals_stand [] = true
  formals_stand (f ∷ formals) = result_stands f.spec && (names_stand f.names && formals_stand formals)

  abbrev pub groups_stand : List (TypeSpec × List Placed) → Bool
  groups_stand [] = true
  groups_stand (g ∷ groups) = spec_stands g.0 && (names_stand g.1 && groups_stand groups)

  abbrev mutual
    pub phrase_stands : tree.Phrase → Bool
    phrase_stands (tree.At p f k) = q p && (q f && kind_stands k)

    pub kind_stands : tree.Kind → Bool
    kind_stands (tree.Named x lists) = lists_stand lists
    kind_stands (tree.Negated a) = phrase_stands a
    kind_stands (tree.Abs a) = phrase_stands a
    kind_stands (tree.Signed minus a) = phrase_stands a
    kind_stands (tree.Chain a links) = phrase_stands a && links_stand links
    kind_stands (tree.Relation o a b) = phrase_stands a && phrase_stands b
    kind_stands (tree.IsClass a x p) = phrase_stands a && q p
    kind_stands (tree.Assign a b) = phrase_stands a && phrase_stands b
    kind_stands (tree.IfThen c a b) = phrase_stands c && (phrase_stands a && perhaps_stands b)
    kind_stands (tree.CaseValue c values) = phrase_stands c && phrases_stand values
    kind_stands (tree.CaseDo c parts) = phrase_stands c && phrases_stand parts
    kind_stands (tree.ForStep x a step b body) = phrase_stands a && (perhaps_stands step && (phrase_stands b && phrase_stands body))
    kind_stands (tree.ForList x values body) = phrases_stand values && phrase_stands body
    kind_stands (tree.WhileDo c a) = phrase_stands c && phrase_stands a
    kind_stands (tree.Assert c) = phrase_stands c
    kind_stands (tree.Block decls items) = decls_stand decls && items_stand items
    kind_stands k = true

    pub perhaps_stands : tree.Perhaps → Bool
    perhaps_stands tree.Missing = true
    perhaps_stands (tree.There a) = phrase_stands a

    pub phrases_stand : tree.Phrases → Bool
    phrases_stand tree.no_phrases = true
    phrases_stand (tree.phrase_and a more) = phrase_stands a && phrases_stand more

    pub links_stand : tree.Links → Bool
    links_stand tree.no_links = true
    links_stand (tree.link_and l more) = link_stands l && links_stand more

    pub link_stands : tree.Link → Bool
    link_stands (tree.Linked o p a) = q p && phrase_stands a

    pub lists_stand : tree.Lists → Bool
    lists_stand tree.no_lists = true
    lists_stand (tree.list_and l more) = listing_stands l && lists_stand more

    pub listing_stands : tree.Listing → Bool
    listing_stands (tree.OfActuals p actuals) = q p && actuals_stand actuals
    listing_stands (tree.OfPart p a n) = q p && phrase_stands a

    pub actuals_stand : tree.Actuals → Bool
    actuals_stand tree.no_actuals = true
    actuals_stand (tree.actual_and a more) = actual_stands a && actuals_stand more

    pub actual_stands : tree.Actual → Bool
    actual_stands (tree.Star p) = q p
    actual_stands (tree.Given a) = phrase_stands a

    pub items_stand : tree.Items → Bool
    items_stand tree.no_items = true
    items_stand (tree.item_and i more) = item_stands i && items_stand more

    pub item_stands : tree.Item → Bool
    item_stands (tree.Labelled labels a) = names_stand labels && phrase_stands a

    pub bounds_stand : tree.Bounds → Bool
    bounds_stand tree.no_bounds = true
    bounds_stand (tree.bound_and b more) = bound_stands b && bounds_stand more

    pub bound_stands : tree.Bound → Bool
    bound_stands (tree.Between p a b) = q p && (phrase_stands a && phrase_stands b)

    pub decls_stand : tree.Decls → Bool
    decls_stand tree.no_decls = true
    decls_stand (tree.decl_and d more) = decl_stands d && decls_stand more

    pub decl_stands : tree.Decl → Bool
    decl_stands (tree.Simple t xs) = spec_stands t && names_stand xs
    decl_stands (tree.Array t xs bounds) = spec_stands t && (names_stand xs && bounds_stand bounds)
    decl_stands (tree.Proc p t x formals body) = q p && (result_stands t && (q x.1 && (formals_stand formals && phrase_stands body)))
    decl_stands (tree.Class c) = q c.name.1 && groups_stand c.groups

  abbrev pub all_stand : List Diagnostic → Bool
  all_stand [] = true
  all_stand (d ∷ ds) = q d.place && all_stand ds

-- ---- laws

-- A fault of a phrase stands at a place of its tree, whatever the scopes are.
abbrev pub FaultsStandInTrees : Type 0
FaultsStandInTrees = (q : Place → Bool) (path : Scopes) (x : Phrase) → phrase_stands q x ≡ true → all_stand q (faults (typed_phrase path x)) ≡ true

-- a place of a deck, which has at most 1,999 cards
abbrev pub is_of_deck : Place → Bool
is_of_deck p = nat_lt p.card library_cards

-- ---- decks

-- the line feeds of a text
abbrev pub line_feeds : List ℕ → ℕ
line_feeds [] = 0
line_feeds (c ∷ cs) = cond (c == 10) (suc (line_feeds cs)) (line_feeds cs)

-- no card holds a line feed
abbrev pub AreCards : List (List ℕ) → Type 0
AreCards [] = ⊤
AreCards (card ∷ cards) = (line_feeds card ≡ 0) × AreCards cards

-- a program that is spelled by a deck of at most 1,999 cards
pub record IsSpelledByDeck (x : Phrase) : Type 0 where
  pub cards : List (List ℕ)
  pub tokens : List Token
  pub beyond : Beyond
  pub are_cards : AreCards cards
  pub few : length cards < library_cards
  pub are_tokens : AreTokens cards tokens
  pub spelled : Spells tokens x beyond

-- Its tree holds places of these cards alone.
abbrev pub TreesOfDecksStand : Type 0
TreesOfDecksStand = (x : Phrase) → IsSpelledByDeck x → phrase_stands is_of_deck x ≡ true

-- a program that the tokens of a library spell, with BEGIN before them and END behind them
pub record IsSpelledByLibrary (x : Phrase) : Type 0 where
  pub tokens : List Token
  pub beyond : Beyond
  pub spelled : Spells (wrapped tokens) x beyond

-- The faults at places of the library are the same for every deck.
abbrev pub LibraryIsTheSame : Type 0
LibraryIsTheSame = (library deck other : Phrase) → IsSpelledByLibrary library → IsSpelledByDeck deck → IsSpelledByDeck other
    → in_library (program_faults (composed library deck)) ≡ in_library (program_faults (composed library other))
