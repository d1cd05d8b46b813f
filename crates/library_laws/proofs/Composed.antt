-- The library's part of a composed program: its trees and its faults are the same for every deck.
use Rattle.std.proofs.Common.{◌≡◌, List, [], ◌∷◌, ◌++◌, Bool, true, false, nat_le, refl, sym, ap, ◌∙◌, arith}
use Rattle.std.proofs.lemmas.Bool.{false≢true}
use Rattle.std.proofs.lemmas.Bool.Decides.{eqb_tells, leb_tells}
use Rattle.std.proofs.lemmas.List.{append_assoc}
use Rattle.value_ops.specs.declared.places.Place.{Place}
use Rattle.value_ops.specs.declared.places.Diagnostic.{Diagnostic}
use Rattle.algolw_tree.specs.Tree.{Phrase, At, Block, Decls, Items, no_items, item_and, Labelled}
use Rattle.algolw_tree.specs.Libraries.{library_cards}
use Rattle.algolw_typing.specs.Verdicts.{Good, fault_of}
use Rattle.algolw_typing.specs.Types.{Statement}
use Rattle.algolw_typing.specs.Scopes.{standard_scope, names_of_decls, twice}
use Rattle.algolw_typing.specs.Typing.{typed_decls, typed_items}
use Rattle.algolw_typing.specs.Faults.{typed_program, program_verdict, is_in_front, inserted, in_order, faults_found, program_faults}
use Rattle.library_laws.specs.LibraryLaws.{LibraryKeepsItsTrees, FaultsAreParted, library_with, library_scopes, library_found, deck_found, in_library}

pub trees : LibraryKeepsItsTrees
trees (At p f (Block decls items)) deck other = refl
trees (At p f k) deck other = refl

regrouped : (a b c d e : List Diagnostic) → (((a ++ b) ++ c) ++ d) ++ e ≡ (a ++ b) ++ (c ++ (d ++ e))
regrouped a b c d e = append_assoc ((a ++ b) ++ c) d e ∙ append_assoc (a ++ b) c (d ++ e)

pub parted : FaultsAreParted
parted p f decls items deck =
    let o = typed_items (library_scopes decls) (Good Statement) (item_and (Labelled [] deck) no_items) in
    regrouped (twice [] (names_of_decls decls ++ [])) ((typed_decls (standard_scope ∷ []) (library_scopes decls) decls).inside) (o.inside) (fault_of o.verdict) (fault_of (program_verdict (library_with p f decls items deck) (typed_program (library_with p f decls items deck))))

-- what comes behind a fault of the library is one, too
stays : (d e : Diagnostic) → is_in_front d e ≡ true → nat_le library_cards d.place.card ≡ true → nat_le library_cards e.place.card ≡ true
stays d e h k = grind (arith, leb_tells, eqb_tells)

-- what is kept of a list
pub kept_true : (d : Diagnostic) (ds : List Diagnostic) → nat_le library_cards d.place.card ≡ true → in_library (d ∷ ds) ≡ d ∷ in_library ds
kept_true d ds h = ap (λ (t : Bool). elim t [ true ↦ d ∷ in_library ds | false ↦ in_library ds ]) h

pub kept_false : (d : Diagnostic) (ds : List Diagnostic) → nat_le library_cards d.place.card ≡ false → in_library (d ∷ ds) ≡ in_library ds
kept_false d ds h = ap (λ (t : Bool). elim t [ true ↦ d ∷ in_library ds | false ↦ in_library ds ]) h

front_true : (d e : Diagnostic) (es : List Diagnostic) → is_in_front d e ≡ true → inserted d (e ∷ es) ≡ d ∷ e ∷ es
front_true d e es h = ap (λ (t : Bool). elim t [ true ↦ d ∷ e ∷ es | false ↦ e ∷ inserted d es ]) h

front_false : (d e : Diagnostic) (es : List Diagnostic) → is_in_front d e ≡ false → inserted d (e ∷ es) ≡ e ∷ inserted d es
front_false d e es h = ap (λ (t : Bool). elim t [ true ↦ d ∷ e ∷ es | false ↦ e ∷ inserted d es ]) h

kept_in : (d : Diagnostic) → nat_le library_cards d.place.card ≡ true → (es : List Diagnostic) → in_library (inserted d es) ≡ inserted d (in_library es)
kept_in d h [] = kept_true d [] h
kept_in d h (e ∷ es) = by (is_in_front d e) refl (nat_le library_cards e.place.card) refl (kept_in d h es)
  where
    by : (t : Bool) → is_in_front d e ≡ t → (c : Bool) → nat_le library_cards e.place.card ≡ c → in_library (inserted d es) ≡ inserted d (in_library es) → in_library (inserted d (e ∷ es)) ≡ inserted d (in_library (e ∷ es))
    by true ht true hc ih = ap (λ x. in_library x) (front_true d e es ht) ∙ kept_true d (e ∷ es) h ∙ ap (λ x. d ∷ x) (kept_true e es hc) ∙ sym (ap (λ x. inserted d x) (kept_true e es hc) ∙ front_true d e (in_library es) ht)
    by true ht false hc ih = absurd (false≢true (sym hc ∙ stays d e ht h))
    by false ht true hc ih = ap (λ x. in_library x) (front_false d e es ht) ∙ kept_true e (inserted d es) hc ∙ ap (λ x. e ∷ x) ih ∙ sym (ap (λ x. inserted d x) (kept_true e es hc) ∙ front_false d e (in_library es) ht)
    by false ht false hc ih = ap (λ x. in_library x) (front_false d e es ht) ∙ kept_false e (inserted d es) hc ∙ ih ∙ sym (ap (λ x. inserted d x) (kept_false e es hc))

kept_out : (d : Diagnostic) → nat_le library_cards d.place.card ≡ false → (es : List Diagnostic) → in_library (inserted d es) ≡ in_library es
kept_out d h [] = kept_false d [] h
kept_out d h (e ∷ es) = by (is_in_front d e) refl (kept_out d h es)
  where
    by : (t : Bool) → is_in_front d e ≡ t → in_library (inserted d es) ≡ in_library es → in_library (inserted d (e ∷ es)) ≡ in_library (e ∷ es)
    by true ht ih = ap (λ x. in_library x) (front_true d e es ht) ∙ kept_false d (e ∷ es) h
    by false ht ih = ap (λ x. in_library x) (front_false d e es ht) ∙ ap (λ (x : List Diagnostic). elim (nat_le library_cards e.place.card) [ true ↦ e ∷ x | false ↦ x ]) ih

-- what is at places of the library is the same in front of sorting and behind it
sorting : (ds : List Diagnostic) → in_library (in_order ds) ≡ in_order (in_library ds)
sorting [] = refl
sorting (d ∷ ds) = by (nat_le library_cards d.place.card) refl (sorting ds)
  where
    by : (b : Bool) → nat_le library_cards d.place.card ≡ b → in_library (in_order ds) ≡ in_order (in_library ds) → in_library (inserted d (in_order ds)) ≡ in_order (in_library (d ∷ ds))
    by true h ih = kept_in d h (in_order ds) ∙ ap (λ x. inserted d x) ih ∙ sym (ap (λ x. in_order x) (kept_true d ds h))
    by false h ih = kept_out d h (in_order ds) ∙ ih ∙ sym (ap (λ x. in_order x) (kept_false d ds h))

pub joined : (a b : List Diagnostic) → in_library (a ++ b) ≡ in_library a ++ in_library b
joined [] b = refl
joined (d ∷ a) b = by (nat_le library_cards d.place.card) refl (joined a b)
  where
    by : (t : Bool) → nat_le library_cards d.place.card ≡ t → in_library (a ++ b) ≡ in_library a ++ in_library b → in_library (d ∷ (a ++ b)) ≡ in_library (d ∷ a) ++ in_library b
    by true h ih = kept_true d (a ++ b) h ∙ ap (λ x. d ∷ x) ih ∙ sym (ap (λ x. x ++ in_library b) (kept_true d a h))
    by false h ih = kept_false d (a ++ b) h ∙ ih ∙ sym (ap (λ x. x ++ in_library b) (kept_false d a h))

-- the faults at places of the library, where the deck has none there
library_alone : (p f : Place) (decls : Decls) (items : Items) (deck : Phrase) → in_library (deck_found p f decls items deck) ≡ [] → in_library (in_order (faults_found (library_with p f decls items deck) (typed_program (library_with p f decls items deck)))) ≡ in_order (in_library (library_found decls) ++ [])
library_alone p f decls items deck h =
    sorting (faults_found (library_with p f decls items deck) (typed_program (library_with p f decls items deck)))
    ∙ ap (λ x. in_order (in_library x)) (parted p f decls items deck)
    ∙ ap (λ x. in_order x) (joined (library_found decls) (deck_found p f decls items deck))
    ∙ ap (λ x. in_order (in_library (library_found decls) ++ x)) h

-- Where two decks have no fault at a place of the library, the faults at places of the library are the same.
pub faults : (p f : Place) (decls : Decls) (items : Items) (deck other : Phrase) → in_library (deck_found p f decls items deck) ≡ [] → in_library (deck_found p f decls items other) ≡ []
    → in_library (program_faults (library_with p f decls items deck)) ≡ in_library (program_faults (library_with p f decls items other))
faults p f decls items deck other h k = library_alone p f decls items deck h ∙ sym (library_alone p f decls items other k)
