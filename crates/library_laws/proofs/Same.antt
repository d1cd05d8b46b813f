-- A phrase's faults stand in its tree, so no fault of a deck is at a place of its library.
use Rattle.std.proofs.Common.{◌≡◌, List, [], ◌∷◌, ◌++◌, Option, Some, None, true, false, nat_le, refl, ap, ◌∙◌, arith}
use Rattle.std.proofs.lemmas.Bool.{and_parts}
use Rattle.std.proofs.lemmas.Bool.Decides.{leb_tells}
use Rattle.value_ops.specs.declared.places.Place.{Place}
use Rattle.value_ops.specs.declared.places.Diagnostic.{Diagnostic}
use Rattle.algolw_tree.specs.Tree.{Phrase, At, Decls, Items}
use Rattle.algolw_tree.specs.Libraries.{library_cards, library_place}
use Rattle.algolw_typing.specs.Types.{Gives, Statement, Simple}
use Rattle.algolw_typing.specs.Verdicts.{Good, fault_of, part}
use Rattle.algolw_typing.specs.Rows.{item_row, program_row}
use Rattle.algolw_typing.specs.Typing.{typed_phrase, then_item}
use Rattle.algolw_typing.specs.Typing as typing
use Rattle.algolw_typing.specs.Faults.{typed_program, program_faults}
use Rattle.library_laws.specs.LibraryLaws.{library_with, library_scopes, deck_found, in_library}
use Rattle.library_laws.specs.Stands.{phrase_stands, all_stand, is_of_deck}
use Rattle.library_laws.proofs.Composed.{kept_false, joined, faults}
use Rattle.library_laws.proofs.TreePlaces.{faults_stand}

outside : (p : Place) → is_of_deck p ≡ true → nat_le library_cards p.card ≡ false
outside p h = grind (arith, leb_tells)

none : (ds : List Diagnostic) → all_stand is_of_deck ds ≡ true → in_library ds ≡ []
none [] h = refl
none (d ∷ ds) h =
    let parts = and_parts (is_of_deck d.place) (all_stand is_of_deck ds) h in
    kept_false d ds (outside d.place parts.0) ∙ none ds parts.1

both : (a b : List Diagnostic) → in_library a ≡ [] → in_library b ≡ [] → in_library (a ++ b) ≡ []
both a b h k = joined a b ∙ ap (λ x. x ++ in_library b) h ∙ k

-- the item of the library's block and the block itself have no fault of their own
item_alone : (f : Place) (g : Option Gives) → in_library (fault_of (part g (item_row true false f))) ≡ []
item_alone f None = refl
item_alone f (Some g) = refl

block_alone : (f : Place) (g : Option Gives) → in_library (fault_of (then_item (Good Statement) (part g (item_row true false f)))) ≡ []
block_alone f None = refl
block_alone f (Some g) = refl

-- 36 stands at the deck's BEGIN
deck_alone : (p : Place) → is_of_deck p ≡ true → (g : Option Gives) → in_library (fault_of (part g (program_row p))) ≡ []
deck_alone p h None = refl
deck_alone p h (Some Statement) = refl
deck_alone p h (Some (Simple t)) = kept_false (record { place = p; number = 36 }) [] (outside p h)

no_fault : (f : Place) (decls : Decls) (items : Items) (deck : Phrase) → phrase_stands is_of_deck deck ≡ true → in_library (deck_found library_place f decls items deck) ≡ []
no_fault f decls items (At p g k) h =
    let o = typed_phrase (library_scopes decls) (At p g k) in
    let root = typed_program (library_with library_place f decls items (At p g k)) in
    let w = part (typing.gives o) (item_row true false g) in
    let v = then_item (Good Statement) w in
    let whole = part (typing.gives root) (program_row p) in
    both ((typing.faults o ++ fault_of w) ++ []) (fault_of v ++ fault_of whole)
    (both (typing.faults o ++ fault_of w) [] (both (typing.faults o) (fault_of w) (none (typing.faults o) (faults_stand is_of_deck (library_scopes decls) (At p g k) h)) (item_alone g (typing.gives o))) refl)
    (both (fault_of v) (fault_of whole) (block_alone g (typing.gives o)) (deck_alone p (and_parts (is_of_deck p) _ h).0 (typing.gives root)))

pub same : (f : Place) (decls : Decls) (items : Items) (deck other : Phrase) → phrase_stands is_of_deck deck ≡ true → phrase_stands is_of_deck other ≡ true
    → in_library (program_faults (library_with library_place f decls items deck)) ≡ in_library (program_faults (library_with library_place f decls items other))
same f decls items deck other h k = faults library_place f decls items deck other (no_fault f decls items deck h) (no_fault f decls items other k)
