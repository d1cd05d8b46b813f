-- What a deck compiles to, alone or with its library.
use Rattle.std.proofs.Common.{◌≡◌, ◌≤◌, ◌+◌, ℕ, List, [], ◌∷◌, ◌++◌, Bool, true, false, ◌&&◌, cond, Option, Some, None, length, take, refl, sym, subst, ap, ◌∙◌, arith}
use Rattle.std.specs.Prelude.{◌≢◌, All}
use Rattle.std.specs.List.{list_all}
use Rattle.std.specs.Option.{option_map}
use Rattle.std.proofs.lemmas.Bool.Decides.{leb_tells}
use Rattle.std.proofs.lemmas.List.Elements.{All-head, All-tail}
use Rattle.value_ops.specs.declared.places.Diagnostic.{Diagnostic}
use Rattle.algolw_tree.specs.declared.tokens.Token.{Token}
use Rattle.algolw_tree.specs.declared.tokens.TokenKind.TheVariants.{Finish}
use Rattle.algolw_tree.specs.Libraries.{is_early, is_library, wrapped}
use Rattle.algolw_tree.specs.Programs.{Program, IsAnswer}
use Rattle.algolw_tree.specs.Tokens.{AreTokens}
use Rattle.algolw_tree.specs.Tree.{Phrase}
use Rattle.algolw_scanner.specs.Laws.{AreOfDeck, IsOnCards}
use Rattle.procedure_library.specs.declared.library_tree.LibraryTree.{LibraryTree}
use Rattle.procedure_library.specs.Trees.{if_library}
use Rattle.procedure_library.specs.Views.{library_tree}
use Rattle.algolw_meaning.specs.DeckDiagnostics.{IsLibraryFound, JobHasFault, no_library}
use Rattle.algolw_meaning.specs.Meaning.{shown_diagnostics}
use Rattle.algolw_meaning.proofs.Composing.{fault_shown}
use Rattle.job_runner.specs.Preparing.{judged, library_found}

-- where there are diagnostics, some are shown
pub some_shown : (found shown : List Diagnostic) → found ≢ [] → shown ≡ take 20 found → shown ≢ []
some_shown [] shown some e none = some refl
some_shown (d ∷ found) [] some e none = absurd (cc e)
some_shown (d ∷ found) (first ∷ shown) some e none = absurd (cc none)

-- the fault of the tokens or the form is shown alone
pub one_shown : (library : Option (List (List ℕ))) (deck : List (List ℕ)) (d : Diagnostic) (shown : List Diagnostic) → JobHasFault library deck d → shown ≡ d ∷ [] → (shown ≢ []) × (shown ≡ shown_diagnostics library deck)
one_shown library deck d shown h e = (λ none. absurd (cc (e, none)), e ∙ sym (fault_shown library deck d h))

-- ---- libraries

early : (t : Token) → t.place.card ≤ 501 → is_early t ≡ true
early t h = grind (arith, leb_tells)

early_front : (n : ℕ) (front rest : List Token) → n ≤ 500 → All (λ token. IsOnCards n token.place) front → list_all is_early rest ≡ true → list_all is_early (front ++ rest) ≡ true
early_front n [] rest few on h = h
early_front n (t ∷ front) rest few on h =
    let P : Token → Type 0 = λ token. IsOnCards n token.place in
    let here = All-head P t front on in
    ap (λ (b : Bool). b && list_all is_early (front ++ rest)) (early t (omega (arith, here.to_last, few))) ∙ early_front n front rest few (All-tail P t front on) h

-- the tokens of a library stand on its at most 500 cards, and the end behind them
pub are_early : (cards : List (List ℕ)) (tokens : List Token) → length cards ≤ 500 → AreOfDeck cards tokens → list_all is_early tokens ≡ true
are_early cards tokens few of_deck =
    ap (list_all is_early) of_deck.cut
    ∙ early_front (length cards) of_deck.front _ few of_deck.on_cards (ap (λ (b : Bool). b && true) (early (record { place = record { card = length cards + 1; column = 1 }; kind = Finish }) (omega (arith, few))))

-- a library's program is judged by its form
judged_by : (cards : List (List ℕ)) (own : List Token) (x : Phrase) (tree : Option LibraryTree) (b : Bool) → AreTokens cards own → IsAnswer (wrapped own) (Program x) → is_library x ≡ b
    → option_map library_tree tree ≡ cond b (Some x) None → IsLibraryFound cards (library_found (judged tree))
judged_by cards own x (Some t) true are is l e =
    let same : library_tree t ≡ x = ap (λ (o : Option Phrase). elim o [ Some y ↦ y | None ↦ x ]) e in
    (own, are, subst (λ y. IsAnswer (wrapped own) (Program y)) (sym same) is, ap is_library same ∙ l)
judged_by cards own x (Some t) false are is l e = absurd (cc e)
judged_by cards own x None true are is l e = absurd (cc e)
judged_by cards own x None false are is l e = no_library own x are is l refl

pub judged_right : (cards : List (List ℕ)) (own : List Token) (x : Phrase) (tree : Option LibraryTree) → AreTokens cards own → IsAnswer (wrapped own) (Program x) → option_map library_tree tree ≡ if_library x → IsLibraryFound cards (library_found (judged tree))
judged_right cards own x tree are is e = judged_by cards own x tree (is_library x) are is refl e
