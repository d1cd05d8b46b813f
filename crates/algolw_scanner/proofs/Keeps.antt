-- What the tokens of a deck keep, and where a fault is.
use Rattle.std.proofs.Common.{◌≡◌, ◌==◌, ℕ, ◌+◌, ◌*◌, ◌≤◌, List, [], ◌∷◌, ◌++◌, length, Bool, true, false, cond, subst, sym, arith, inl}
use Rattle.std.specs.List.{list_any}
use Rattle.value_ops.specs.declared.places.Place.{Place}
use Rattle.value_ops.specs.declared.places.Diagnostic.{Diagnostic}
use Rattle.deck_reader.specs.CardFlaws.{is_long}
use Rattle.algolw_tree.specs.declared.tokens.Token.{Token}
use Rattle.algolw_tree.specs.Tokens.{text, origin, Gives, kept, AreTokens, IsFault}
use Rattle.std.specs.Prelude.{Result, Ok, Err, IfOk}
use Rattle.std.specs.declared.alloc.AllocError.{AllocError}
use Rattle.algolw_scanner.specs.declared.scanning.Scanned.{Scanned}
use Rattle.algolw_scanner.specs.declared.scanning.Scanned.TheVariants.{Tokens, Bad}
use Rattle.algolw_scanner.specs.Laws.{IsDeck, IsScanOf, IsOfDeck, IsOnCards, Rise, AreOfDeck}
use Rattle.algolw_scanner.proofs.Allowed.{allowed_clean}
use Rattle.algolw_scanner.proofs.Count.{chars, chars_on, few_tokens, kept_length}
use Rattle.algolw_scanner.proofs.Places.{Stands, stands_text, none_long, fault_on_cards}
use Rattle.algolw_scanner.proofs.Order.{gives_rise, kept_rise, rise_alone}
use Rattle.algolw_scanner.proofs.Ends.{Fronted, gives_ends, kept_ends, fronted}

chars_length : (u : List ℕ) → chars u ≤ length u
chars_length [] = omega arith
chars_length (c ∷ u) = go (c == 10) (chars_length u)
  where
    go : (b : Bool) → chars u ≤ length u → cond b (chars u) (1 + chars u) ≤ length (c ∷ u)
    go true h = omega arith
    go false h = omega arith

-- at most 80 characters a card
chars_text : (cards : List (List ℕ)) → list_any is_long cards ≡ false → chars (text cards) ≤ 80 * length cards
chars_text [] e = omega arith
chars_text (card ∷ cards) e = go (none_long card cards e) (chars_text cards)
  where
    go : (length card ≤ 80) × (list_any is_long cards ≡ false) → (list_any is_long cards ≡ false → chars (text cards) ≤ 80 * length cards) → chars (text (card ∷ cards)) ≤ 80 * length (card ∷ cards)
    go (l, f) h = omega (arith, h f, chars_length card, chars_on (card ++ 10 ∷ []) (text cards), chars_on card (10 ∷ []))

deck_stands : (cards : List (List ℕ)) → IsDeck cards → Stands (length cards) origin (text cards)
deck_stands cards d = stands_text (length cards) 1 cards (allowed_clean cards d.foul) d.long (omega arith) (omega arith)

of_deck : (cards : List (List ℕ)) (tokens : List Token) → Fronted (length cards) tokens → Rise tokens → length tokens ≤ 160001 → AreOfDeck cards tokens
of_deck cards tokens f r l = record { front = f.front; cut = f.cut; others = f.others; on_cards = f.on_cards; rise = r; few = l }

-- a place before each place of a deck
abbrev before : Place
before = record { card = 0; column = 1 }

-- the tokens that are kept of those of a deck
deck_keeps : (cards : List (List ℕ)) (all : List Token) → IsDeck cards → Gives origin (text cards) all → AreOfDeck cards (kept false all)
deck_keeps cards all d g = of_deck cards (kept false all)
    (fronted (length cards) (kept_ends (length cards) (gives_ends (length cards) g (deck_stands cards d)) false))
    (rise_alone before (kept false all) (kept_rise false before all (gives_rise g before (inl (omega arith)))))
    (omega (arith, kept_length false all, few_tokens g, chars_text cards d.long, d.few))

pub tokens_keep : (cards : List (List ℕ)) (tokens : List Token) → IsDeck cards → AreTokens cards tokens → AreOfDeck cards tokens
tokens_keep cards tokens d (all, g, e) = subst (λ ts. AreOfDeck cards ts) (sym e) (deck_keeps cards all d g)

pub faults_stand : (cards : List (List ℕ)) (d : Diagnostic) → IsDeck cards → IsFault cards d → IsOnCards (length cards) d.place
faults_stand cards d deck f = fault_on_cards (length cards) f (deck_stands cards deck)

-- what scanning says is of the deck
scan_placed : (cards : List (List ℕ)) (s : Scanned) → IsDeck cards → IsScanOf cards s → IsOfDeck cards s
scan_placed cards (Tokens v) deck tokens = tokens_keep cards v.items deck tokens
scan_placed cards (Bad d) deck fault = faults_stand cards d deck fault

pub if_placed : (cards : List (List ℕ)) (r : Result Scanned AllocError) → IsDeck cards → IfOk r (λ s. IsScanOf cards s) → IfOk r (λ s. IsOfDeck cards s)
if_placed cards (Ok s) deck h = scan_placed cards s deck h
if_placed cards (Err e) deck h = h
