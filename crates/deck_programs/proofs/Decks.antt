-- What the tokens of a deck spell is a tree of a deck.
use Rattle.std.proofs.Common.{◌≤◌, List, [], ◌∷◌, Bool, true, false, cond, ◌&&◌, sym, subst, ap, arith, inl}
use Rattle.algolw_tree.specs.declared.tokens.Token.{Token}
use Rattle.algolw_tree.specs.Tokens.{kept, is_name, is_end}
use Rattle.algolw_scanner.proofs.Order.{RiseBehind, gives_rise, kept_rise}
use Rattle.deck_programs.specs.Laws.{TreesOfDecks, TreesOfDecksArePlaced}
use Rattle.deck_programs.proofs.Weights.{Measure, tokens_weight}
use Rattle.deck_programs.proofs.Language.{program_weight}
use Rattle.deck_programs.proofs.Places.{at_place, declarations_on_cards, declarations_apart}
use Rattle.deck_programs.proofs.Quotes.{empty_texts, tokens_filled, tree_filled}

-- ---- the tokens that are kept

pub kept_weight : (m : Measure) (e : Bool) (ts : List Token) → tokens_weight m (kept e ts) ≤ tokens_weight m ts
kept_weight m e [] = omega arith
kept_weight m e (t ∷ ts) = go (e && is_name t.kind) (kept_weight m false ts) (kept_weight m (is_end t.kind) ts)
  where
    go : (d : Bool) → tokens_weight m (kept false ts) ≤ tokens_weight m ts → tokens_weight m (kept (is_end t.kind) ts) ≤ tokens_weight m ts → tokens_weight m (cond d (kept false ts) (t ∷ kept (is_end t.kind) ts)) ≤ tokens_weight m (t ∷ ts)
    go true h k = omega (arith, h)
    go false h k = omega (arith, k)

-- ---- the tree

pub trees_of_decks : TreesOfDecks
trees_of_decks deck tokens x b (all, g, e) spelled = record {
  apart = declarations_apart tokens x (λ p c. subst (RiseBehind p) (sym e) (kept_rise false p all (gives_rise g p (inl (omega (arith, c)))))) (λ p. program_weight (at_place p) tokens x b spelled);
  filled = tree_filled x (omega (arith, program_weight empty_texts tokens x b spelled, ap (tokens_weight empty_texts) e, kept_weight empty_texts false all, tokens_filled g));
}

pub trees_of_decks_are_placed : TreesOfDecksArePlaced
trees_of_decks_are_placed deck tokens x b (all, g, e) spelled = record {
  on_cards = declarations_on_cards tokens x (λ p c. subst (RiseBehind p) (sym e) (kept_rise false p all (gives_rise g p (inl (omega (arith, c)))))) (λ p. program_weight (at_place p) tokens x b spelled);
}
