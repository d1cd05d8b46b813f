-- What a deck can't change of its library.
use Rattle.std.specs.Prelude.{◌≡◌, List, [], ◌∷◌, ◌++◌, true, false, nat_le}
use Rattle.value_ops.specs.declared.places.Place.{Place}
use Rattle.value_ops.specs.declared.places.Diagnostic.{Diagnostic}
use Rattle.algolw_tree.specs.Tree.{Phrase, At, Block, Decls, Items, item_and, no_items, Labelled}
use Rattle.algolw_tree.specs.Libraries.{library_cards, composed}
use Rattle.algolw_typing.specs.Verdicts.{Good, fault_of}
use Rattle.algolw_typing.specs.Types.{Statement}
use Rattle.algolw_typing.specs.Scopes.{Scopes, standard_scope, names_of_decls, twice}
use Rattle.algolw_typing.specs.Typing.{typed_decls, typed_items, meanings}
use Rattle.algolw_typing.specs.Typed as typed
use Rattle.algolw_typing.specs.Faults.{typed_program, faults_found, program_verdict}

-- ---- trees

-- the declarations of a program's block, typed
abbrev pub decls_of_kind : typed.Kind → typed.Decls
decls_of_kind (typed.Block decls items) = decls
decls_of_kind k = typed.no_decls

abbrev pub typed_decls_of : typed.Node → typed.Decls
typed_decls_of (typed.At p f g s k) = decls_of_kind k

-- Whatever the deck is, the library's declarations have the same typed trees, which tell what they mean.
abbrev pub LibraryKeepsItsTrees : Type 0
LibraryKeepsItsTrees = (library deck other : Phrase) → typed_decls_of (typed_program (composed library deck)).node ≡ typed_decls_of (typed_program (composed library other)).node

-- ---- faults

-- a library of these declarations, composed with a deck
abbrev pub library_with : Place → Place → Decls → Items → Phrase → Phrase
library_with p f decls items deck = composed (At p f (Block decls items)) deck

-- the scopes in which the library's procedures and the deck stand
abbrev pub library_scopes : Decls → Scopes
library_scopes decls = (meanings (standard_scope ∷ []) ((names_of_decls decls ++ []) ∷ standard_scope ∷ []) decls ++ []) ∷ standard_scope ∷ []

-- the faults of the library's declarations: nothing of the deck is in them
abbrev pub library_found : Decls → List Diagnostic
library_found decls = twice [] (names_of_decls decls ++ []) ++ (typed_decls (standard_scope ∷ []) (library_scopes decls) decls).inside

-- those of the deck, in the library's scopes, with the 36 of its block
abbrev pub deck_found : Place → Place → Decls → Items → Phrase → List Diagnostic
deck_found p f decls items deck =
    let o = typed_items (library_scopes decls) (Good Statement) (item_and (Labelled [] deck) no_items) in
    o.inside ++ (fault_of o.verdict ++ fault_of (program_verdict (library_with p f decls items deck) (typed_program (library_with p f decls items deck))))

-- The faults of a composed program are those of the library and those of the deck.
abbrev pub FaultsAreParted : Type 0
FaultsAreParted = (p f : Place) (decls : Decls) (items : Items) (deck : Phrase) → faults_found (library_with p f decls items deck) (typed_program (library_with p f decls items deck)) ≡ library_found decls ++ deck_found p f decls items deck

-- the diagnostics at places of the library
abbrev pub in_library : List Diagnostic → List Diagnostic
in_library [] = []
in_library (d ∷ ds) = elim (nat_le library_cards d.place.card) [ true ↦ d ∷ in_library ds | false ↦ in_library ds ]
