-- What a deck makes with a library is a tree of a deck: the deck's tokens stand before the library's.
use Rattle.std.proofs.Common.{◌≡◌, ◌≤◌, ℕ, ◌+◌, List, [], ◌∷◌, ◌++◌, length, false, Option, Some, None, sym, subst, ap, ◌∙◌, refl, arith, inl, inr}
use Rattle.std.specs.Prelude.{⊤, All}
use Rattle.std.proofs.lemmas.List.Elements.{All-head, All-tail}
use Rattle.value_ops.specs.declared.places.Place.{Place}
use Rattle.algolw_tree.specs.declared.tokens.Token.{Token}
use Rattle.algolw_tree.specs.Libraries.{composed, library_place, moved_place, moved_tokens, with_item_kind, wrapped}
use Rattle.algolw_tree.specs.Programs.{Spells}
use Rattle.algolw_tree.specs.Tokens.{AreTokens}
use Rattle.algolw_tree.specs.Tree as tree
use Rattle.algolw_tree.specs.Tree.{Phrase}
use Rattle.algolw_scanner.specs.Laws.{AreOfDeck, IsBefore, IsDeck, IsOnCards}
use Rattle.algolw_scanner.proofs.Keeps.{tokens_keep}
use Rattle.algolw_scanner.proofs.Order.{RiseBehind, gives_rise, kept_rise}
use Rattle.faultless_programs.specs.Laws.{IsDeckTree, IsPlaced}
use Rattle.algolw_meaning.specs.DeckDiagnostics.{HasLibrary, HasProgram, JobHasProgram}
use Rattle.deck_programs.specs.Laws.{StandsBefore, TreesOfJobs}
use Rattle.deck_programs.proofs.Decks.{kept_weight, trees_of_decks, trees_of_decks_are_placed}
use Rattle.deck_programs.proofs.Fronts.{init, init_last, init_rise}
use Rattle.deck_programs.proofs.Language.{front_weight, program_weight}
use Rattle.deck_programs.proofs.Places.{at_place, declarations_on_cards, declarations_apart}
use Rattle.deck_programs.proofs.Quotes.{empty_texts, tokens_filled, tree_filled}
use Rattle.deck_programs.proofs.Weighing.{weight_both}
use Rattle.deck_programs.proofs.Weights.{Measure, kind_weight, phrase_weight, tokens_weight}

-- ---- weights

module _ (m : Measure) where
  -- the library's own item is left out, and the deck put in its place
  kind_composed : (p : Place) (k : tree.Kind) (deck : Phrase) → kind_weight m p (with_item_kind k (tree.Labelled [] deck)) ≤ kind_weight m p k + phrase_weight m deck
  kind_composed p (tree.Block decls items) deck = omega arith
  kind_composed p k deck = omega arith

  composed_weight : (library deck : Phrase) → phrase_weight m (composed library deck) ≤ phrase_weight m library + phrase_weight m deck
  composed_weight (tree.At p f k) deck = kind_composed p k deck

  -- both together weigh at most what their tokens do but for the two ends
  together_weight : (library deck : Phrase) (of_library of_deck : List Token) → Spells of_library library None → Spells of_deck deck None
      → phrase_weight m (composed library deck) ≤ tokens_weight m (init of_deck ++ init of_library)
  together_weight library deck of_library of_deck s t =
      omega (arith, composed_weight library deck, front_weight m of_library library None s, front_weight m of_deck deck None t, weight_both m (init of_deck) (init of_library))

-- ---- the tokens of a library rise behind its BEGIN

moved_before : (a b : Place) → IsBefore a b → IsBefore (moved_place a) (moved_place b)
moved_before a b (inl h) = inl (omega (arith, h))
moved_before a b (inr h) = inr (omega (arith, h.0), h.1)

moved_rise : (p : Place) (ts : List Token) → RiseBehind p ts → RiseBehind (moved_place p) (init (moved_tokens ts))
moved_rise p [] h = tt
moved_rise p (t ∷ []) h = (moved_before p t.place h.0, tt)
moved_rise p (t ∷ u ∷ []) h = (moved_before p t.place h.0, (moved_before t.place u.place h.1.0, tt))
moved_rise p (t ∷ u ∷ v ∷ ts) h = (moved_before p t.place h.0, moved_rise t.place (u ∷ v ∷ ts) h.1)

-- before the first card, where the library's BEGIN is moved from
abbrev unmoved : Place
unmoved = record { card = 0; column = 1 }

wrapped_rise : (ts : List Token) → RiseBehind unmoved ts → (p : Place) → IsBefore p library_place → RiseBehind p (init (wrapped ts))
wrapped_rise [] h p i = tt
wrapped_rise (t ∷ []) h p i = (i, moved_rise unmoved (t ∷ []) h)
wrapped_rise (t ∷ u ∷ ts) h p i = (i, moved_rise unmoved (t ∷ u ∷ ts) h)

-- ---- behind those of a deck

abbrev AllBefore : Place → List Token → Type 0
AllBefore q [] = ⊤
AllBefore q (t ∷ ts) = IsBefore t.place q × AllBefore q ts

rise_joined : (q : Place) (behind : List Token) → ((p : Place) → IsBefore p q → RiseBehind p behind) → (p : Place) (ts : List Token) → RiseBehind p ts → AllBefore q ts → IsBefore p q → RiseBehind p (ts ++ behind)
rise_joined q behind r p [] h b i = r p i
rise_joined q behind r p (t ∷ ts) h b i = (h.0, rise_joined q behind r t.place ts h.1 b.1 b.0)

cards_before : (n : ℕ) (ts : List Token) → n ≤ 1999 → All (λ token. IsOnCards n token.place) ts → AllBefore library_place ts
cards_before n [] few h = tt
cards_before n (t ∷ ts) few h =
    let P : Token → Type 0 = λ token. IsOnCards n token.place in
    let on = All-head P t ts h in
    (inl (omega (arith, on.to_last, few)), cards_before n ts few (All-tail P t ts h))

deck_before : (deck : List (List ℕ)) (tokens : List Token) → IsDeck deck → length deck ≤ 1999 → AreTokens deck tokens → AllBefore library_place (init tokens)
deck_before deck tokens is few are =
    let of_deck : AreOfDeck deck tokens = tokens_keep deck tokens is are in
    subst (AllBefore library_place) (sym (ap init of_deck.cut ∙ init_last of_deck.front _)) (cards_before (length deck) of_deck.front few of_deck.on_cards)

-- the tokens of a deck rise behind each place on no card
deck_rise : (deck : List (List ℕ)) (tokens : List Token) → AreTokens deck tokens → (p : Place) → p.card ≡ 0 → RiseBehind p tokens
deck_rise deck tokens (all, g, e) p c = subst (RiseBehind p) (sym e) (kept_rise false p all (gives_rise g p (inl (omega (arith, c)))))

-- ---- no text is empty

moved_texts : (ts : List Token) → tokens_weight empty_texts (moved_tokens ts) ≤ tokens_weight empty_texts ts
moved_texts [] = omega arith
moved_texts (t ∷ []) = omega arith
moved_texts (t ∷ u ∷ ts) = omega (arith, moved_texts (u ∷ ts))

wrapped_texts : (ts : List Token) → tokens_weight empty_texts (wrapped ts) ≤ tokens_weight empty_texts ts
wrapped_texts ts = omega (arith, moved_texts ts)

none_empty : (deck : List (List ℕ)) (tokens : List Token) → AreTokens deck tokens → tokens_weight empty_texts tokens ≡ 0
none_empty deck tokens (all, g, e) = omega (arith, ap (tokens_weight empty_texts) e, kept_weight empty_texts false all, tokens_filled g)

-- ---- the tree

module _ (cards deck : List (List ℕ)) (library program : Phrase) (is : IsDeck deck) (few : length deck ≤ 1999) (of_library : HasLibrary cards library) (of_deck : HasProgram deck program) where
  abbrev behind : List Token
  behind = init (wrapped of_library.0)

  abbrev joined : List Token
  joined = init of_deck.0 ++ behind

  joined_rise : (p : Place) → p.card ≡ 0 → RiseBehind p joined
  joined_rise p c = rise_joined library_place behind (wrapped_rise of_library.0 (deck_rise cards of_library.0 of_library.1 unmoved refl)) p (init of_deck.0) (init_rise p of_deck.0 (deck_rise deck of_deck.0 of_deck.1 p c)) (deck_before deck of_deck.0 is few of_deck.1) (inl (omega (arith, c)))

  joined_weight : (m : Measure) → phrase_weight m (composed library program) ≤ tokens_weight m joined
  joined_weight m = together_weight m library program (wrapped of_library.0) of_deck.0 of_library.2.spelled of_deck.2.spelled

  pub composed_tree : IsDeckTree (composed library program)
  composed_tree = record {
    apart = declarations_apart joined (composed library program) joined_rise (λ p. joined_weight (at_place p));
    filled = tree_filled (composed library program) (omega (arith, composed_weight empty_texts library program, program_weight empty_texts (wrapped of_library.0) library None of_library.2.spelled, wrapped_texts of_library.0, none_empty cards of_library.0 of_library.1, program_weight empty_texts of_deck.0 program None of_deck.2.spelled, none_empty deck of_deck.0 of_deck.1));
  }

  pub composed_placed : IsPlaced (composed library program)
  composed_placed = record { on_cards = declarations_on_cards joined (composed library program) joined_rise (λ p. joined_weight (at_place p)) }

trees : (library : Option (List (List ℕ))) (deck : List (List ℕ)) (x : Phrase) → StandsBefore library deck → JobHasProgram library deck x → IsDeckTree x
trees None deck x before (tokens, are, is) = trees_of_decks deck tokens x None are is.spelled
trees (Some cards) deck x before (l, d, h, g, e) = subst IsDeckTree (sym e) (composed_tree cards deck l d before.0 before.1 h g)

placed : (library : Option (List (List ℕ))) (deck : List (List ℕ)) (x : Phrase) → StandsBefore library deck → JobHasProgram library deck x → IsPlaced x
placed None deck x before (tokens, are, is) = trees_of_decks_are_placed deck tokens x None are is.spelled
placed (Some cards) deck x before (l, d, h, g, e) = subst IsPlaced (sym e) (composed_placed cards deck l d before.0 before.1 h g)

pub trees_of_jobs : TreesOfJobs
trees_of_jobs = record { trees = trees; placed = placed }
