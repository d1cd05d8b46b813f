-- Libraries: the tokens that one is read as, the form that it has, and the program that it makes with a deck.
use Rattle.std.specs.Prelude.{ℕ, ◌+◌, List, [], ◌∷◌, Bool, true, false, ◌&&◌, nat_le}
use Rattle.value_ops.specs.declared.places.Place.{Place}
use Rattle.value_ops.specs.declared.places.Diagnostic.{Diagnostic}
use Rattle.algolw_tree.specs.declared.tokens.Token.{Token}
use Rattle.algolw_tree.specs.declared.tokens.TokenKind.TheVariants.{Word as AWord, Finish}
use Rattle.algolw_tree.specs.declared.tokens.Word.TheVariants.{Begin, End}
use Rattle.algolw_tree.specs.Tree.{Phrase, At, Kind, Empty, Block, Decl, Proc, Class, Decls, no_decls, decl_and, Items, no_items, item_and, Item, Labelled}

-- ---- places

-- The cards of a library follow those that a deck may have. Its block begins before them, where no block of a deck can.
abbrev pub library_cards : ℕ
library_cards = 2000

abbrev pub library_place : Place
library_place = record { card = library_cards; column = 1 }

abbrev pub moved_place : Place → Place
moved_place p = record { card = library_cards + p.card; column = p.column }

abbrev pub moved : Diagnostic → Diagnostic
moved d = record { number = d.number; place = moved_place d.place }

-- ---- tokens

abbrev pub moved_token : Token → Token
moved_token t = record { place = moved_place t.place; kind = t.kind }

-- a token of a library, or the end behind its cards, of which there are at most 500
abbrev pub is_early : Token → Bool
is_early t = nat_le t.place.card 501

-- the tokens behind BEGIN: the end of the deck becomes END, and the end of the deck at the same place
abbrev pub moved_tokens : List Token → List Token
moved_tokens [] = []
moved_tokens (t ∷ []) = record { place = moved_place t.place; kind = AWord End } ∷ record { place = moved_place t.place; kind = Finish } ∷ []
moved_tokens (t ∷ u ∷ rest) = moved_token t ∷ moved_tokens (u ∷ rest)

-- the tokens of a library's cards as a program's
abbrev pub wrapped : List Token → List Token
wrapped tokens = record { place = library_place; kind = AWord Begin } ∷ moved_tokens tokens

-- ---- the form

abbrev pub is_kept : Decl → Bool
is_kept (Proc p result x formals body) = true
is_kept (Class c) = true
is_kept d = false

-- all declarations are procedures and record classes
abbrev pub are_kept : Decls → Bool
are_kept no_decls = true
are_kept (decl_and d decls) = is_kept d && are_kept decls

abbrev pub is_nothing : Kind → Bool
is_nothing Empty = true
is_nothing k = false

abbrev pub is_void_item : Item → Bool
is_void_item (Labelled [] (At p f k)) = is_nothing k
is_void_item item = false

-- one item, which is empty and without label
abbrev pub is_void : Items → Bool
is_void (item_and item no_items) = is_void_item item
is_void items = false

abbrev pub is_library_kind : Kind → Bool
is_library_kind (Block decls items) = are_kept decls && is_void items
is_library_kind k = false

abbrev pub is_library : Phrase → Bool
is_library (At p f k) = is_library_kind k

-- ---- composed programs

-- the library's block with one item in place of its own
abbrev pub with_item_kind : Kind → Item → Kind
with_item_kind (Block decls items) item = Block decls (item_and item no_items)
with_item_kind k item = k

abbrev pub with_item : Phrase → Item → Phrase
with_item (At p f k) item = At p f (with_item_kind k item)

-- the library's block with the deck's block as its item
abbrev pub composed : (library deck : Phrase) → Phrase
composed library deck = with_item library (Labelled [] deck)
