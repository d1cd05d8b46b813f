-- Where the characters of a deck's text stand.
use Rattle.std.proofs.Common.{◌≡◌, ◌==◌, ℕ, ◌+◌, ◌≤◌, List, [], ◌∷◌, ◌++◌, length, Bool, true, false, not, cond, ◌&&◌, ◌||◌, nat_lt, refl, sym, ap, subst, arith, append_assoc, inl}
use Rattle.std.specs.List.{list_any, list_all}
use Rattle.std.proofs.lemmas.Bool.Decides.{nat_tests}
use Rattle.value_ops.specs.declared.places.Place.{Place}
use Rattle.value_ops.specs.declared.places.Diagnostic.{Diagnostic}
use Rattle.deck_reader.specs.CardFlaws.{is_long}
use Rattle.algolw_tree.specs.declared.tokens.TokenKind.{TokenKind}
use Rattle.algolw_tree.specs.Chars.{class}
use Rattle.algolw_tree.specs.Tokens.{text, walk, step, begins_with, IsFront, OfKind, Separator, ReadsNothing, Stops, here, later}
use Rattle.algolw_scanner.specs.Cursors.{clean, AreClean}
use Rattle.algolw_scanner.specs.Laws.{IsOnCards}
use Rattle.algolw_scanner.proofs.Count.{feed_token}

-- the place behind the last of so many cards
abbrev pub past : ℕ → Place
past n = record { card = n + 1; column = 1 }

-- each character from the place on, but for the line feeds, is on one of so many cards, and the end is behind the last
abbrev pub Stands : ℕ → Place → List ℕ → Type 0
Stands n p [] = p ≡ past n
Stands n p (c ∷ rest) = ((c == 10) ≡ false → IsOnCards n p) × Stands n (step p c) rest

-- what follows the characters u stands where they lead
pub stands_on : (n : ℕ) (p : Place) (u w : List ℕ) → Stands n p (u ++ w) → Stands n (walk p u) w
stands_on n p [] w h = h
stands_on n p (c ∷ u) w h = stands_on n (step p c) u w h.1

-- the rest of a card, which is within the card's 80 columns
stands_line : (n card column : ℕ) (line rest : List ℕ) → clean line ≡ true → column + length line ≤ 81 → 1 ≤ column → 1 ≤ card → card ≤ n → Stands n (record { card = card + 1; column = 1 }) rest → Stands n (record { card = card; column = column }) (line ++ 10 ∷ rest)
stands_line n card column [] rest e l f m k h = (λ x. absurd (cc), h)
stands_line n card column (c ∷ line) rest e l f m k h = go (c == 10) e (λ d. stands_line n card (column + 1) line rest d (omega arith) (omega arith) m k h)
  where
    go : (b : Bool) → not b && clean line ≡ true → (clean line ≡ true → Stands n (record { card = card; column = column + 1 }) (line ++ 10 ∷ rest)) → (b ≡ false → IsOnCards n (record { card = card; column = column })) × Stands n (cond b (record { card = card + 1; column = 1 }) (record { card = card; column = column + 1 })) (line ++ 10 ∷ rest)
    go true d g = absurd (cc)
    go false d g = (λ x. record { from_first = m; to_last = k; from_left = f; to_right = omega arith }, g d)

both_clean : (a b : Bool) → a && b ≡ true → (a ≡ true) × (b ≡ true)
both_clean true b e = (refl, e)
both_clean false b e = absurd (cc)

-- no card is long where the first isn't, nor another
pub none_long : (card : List ℕ) (cards : List (List ℕ)) → list_any is_long (card ∷ cards) ≡ false → (length card ≤ 80) × (list_any is_long cards ≡ false)
none_long card cards e = go (nat_lt 80 (length card)) refl e
  where
    go : (b : Bool) → nat_lt 80 (length card) ≡ b → b || list_any is_long cards ≡ false → (length card ≤ 80) × (list_any is_long cards ≡ false)
    go true f g = absurd (cc)
    go false f g = (grind (arith, nat_tests), g)

-- the text of clean cards that aren't long
pub stands_text : (n card : ℕ) (cards : List (List ℕ)) → AreClean cards → list_any is_long cards ≡ false → 1 ≤ card → card + length cards ≡ n + 1 → Stands n (record { card = card; column = 1 }) (text cards)
stands_text n card [] e f m k = ap (λ x. record { card = x; column = 1 }) (omega arith)
stands_text n card (line ∷ cards) e f m k = go (both_clean (clean line) (list_all clean cards) e) (none_long line cards f) (λ x y. stands_text n (card + 1) cards x y (omega arith) (omega arith))
  where
    go : (clean line ≡ true) × AreClean cards → (length line ≤ 80) × (list_any is_long cards ≡ false) → (AreClean cards → list_any is_long cards ≡ false → Stands n (record { card = card + 1; column = 1 }) (text cards)) → Stands n (record { card = card; column = 1 }) ((line ++ 10 ∷ []) ++ text cards)
    go (x, y) (l, z) g = subst (λ s. Stands n (record { card = card; column = 1 }) s) (sym (append_assoc line (10 ∷ []) (text cards))) (stands_line n card 1 line (text cards) x (omega arith) (omega arith) m (omega arith) (g y z))

-- a token begins on a card
pub token_on_cards : (n : ℕ) (p : Place) (u w : List ℕ) (k : TokenKind) → IsFront u w (OfKind k) → Stands n p (u ++ w) → IsOnCards n p
token_on_cards n p [] w k f h = absurd f
token_on_cards n p (c ∷ u) w k f h = go (c == 10) refl h.0
  where
    go : (b : Bool) → (c == 10) ≡ b → (b ≡ false → IsOnCards n p) → IsOnCards n p
    go true e g = let i : c ≡ 10 = grind (arith, nat_tests) in absurd (feed_token u w k (subst (λ x. begins_with (class x) (x ∷ u) w (OfKind k)) i f))
    go false e g = g refl

-- a line feed is read
feed_reads : (rest : List ℕ) → ReadsNothing (10 ∷ rest) → ⊥
feed_reads rest r = r (10 ∷ []) rest Separator refl (inl (refl, refl))

nothing_on_cards : (n : ℕ) (p : Place) (c : ℕ) (rest : List ℕ) → ReadsNothing (c ∷ rest) → Stands n p (c ∷ rest) → IsOnCards n p
nothing_on_cards n p c rest r h = go (c == 10) refl h.0
  where
    go : (b : Bool) → (c == 10) ≡ b → (b ≡ false → IsOnCards n p) → IsOnCards n p
    go true e g = let i : c ≡ 10 = grind (arith, nat_tests) in absurd (feed_reads rest (subst (λ x. ReadsNothing (x ∷ rest)) i r))
    go false e g = g refl

-- a fault is on a card
pub fault_on_cards : (n : ℕ) {p : Place} {rest : List ℕ} {d : Diagnostic} → Stops p rest d → Stands n p rest → IsOnCards n d.place
fault_on_cards n (here {p = p} {c = c} {rest = rest} r) h = nothing_on_cards n p c rest r h
fault_on_cards n (later {p = p} u x w r g) h = fault_on_cards n g (stands_on n p u w (subst (λ s. Stands n p s) r.cut h))
