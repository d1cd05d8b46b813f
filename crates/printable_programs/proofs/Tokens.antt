-- The tokens of cards that are texts hold texts.
use Rattle.std.proofs.Common.{◌≡◌, ◌⊎◌, ℕ, ◌+◌, ◌-◌, ◌≤◌, List, [], ◌∷◌, ◌++◌, length, map, get_or, All, Bool, true, false, cond, ◌&&◌, ◌||◌, ◌==◌, nat_lt, flat_map, refl, sym, ap, subst, ◌∙◌, arith, inl, inr, Option, Some, None}
use Rattle.std.specs.Prelude.{⊤}
use Rattle.std.specs.List.{list_all}
use Rattle.std.specs.Char.{to_ascii_uppercase, is_ascii_alphanumeric}
use Rattle.std.specs.Int.{is_in_range}
use Rattle.std.proofs.lemmas.Bool.Decides.{nat_tests}
use Rattle.std.proofs.lemmas.List.Elements.{All-nil, All-cons, All-head, All-tail, All-append, All-map}
use Rattle.std.proofs.lemmas.List.Sums.{AllPass-from_list_all}
use Rattle.value_ops.specs.declared.places.Place.{Place}
use Rattle.algolw_tree.specs.declared.tokens.Token.{Token}
use Rattle.algolw_tree.specs.declared.tokens.TokenKind.{TokenKind}
use Rattle.algolw_tree.specs.declared.tokens.Word.{Word}
use Rattle.algolw_tree.specs.Chars.{name_char, class, Class, Blank, Letter, Digit, Quote, Sharp, Other}
use Rattle.algolw_tree.specs.Words.{kind_from, word_of, folded}
use Rattle.algolw_tree.specs.Tokens.{Piece, Separator, OfKind, IsFront, begins_with, Reads, Gives, finish, skip, token, text, AreTokens, kept, is_name, is_end, Spells, nothing, plain, pair, IsLiteral}
use Rattle.algolw_tree.specs.Libraries.{moved_tokens, moved_token, wrapped}
use Rattle.printed_lines.specs.Texts.{IsPrintable, IsText, IsVisible, IsWord}
use Rattle.printed_lines.proofs.Texts.{text_nil, text_cons}
use Rattle.printable_programs.proofs.Tests.{either_test, range_of}
use Rattle.printable_programs.proofs.Trees.{Each, KindHolds, TokenHolds}

-- a character of a deck's text: printable, or the end of a card
abbrev Stands : ℕ → Type 0
Stands c = IsPrintable c ⊎ (c ≡ 10)

card_stands : (card : List ℕ) → IsText card → All Stands (card ++ 10 ∷ [])
card_stands card h = All-append Stands card (10 ∷ []) (λ k d l. inl (h.each k d l)) (All-cons Stands 10 [] (inr refl) (All-nil Stands))

text_stands : (cards : List (List ℕ)) → All IsText cards → All Stands (text cards)
text_stands [] h = All-nil Stands
text_stands (card ∷ cards) h = All-append Stands (card ++ 10 ∷ []) (text cards) (card_stands card (All-head IsText card cards h)) (text_stands cards (All-tail IsText card cards h))

front_stands : (u w : List ℕ) → All Stands (u ++ w) → All Stands u
front_stands [] w h = All-nil Stands
front_stands (c ∷ u) w h = All-cons Stands c u (All-head Stands c (u ++ w) h) (front_stands u w (All-tail Stands c (u ++ w) h))

rest_stands : (u w : List ℕ) → All Stands (u ++ w) → All Stands w
rest_stands [] w h = h
rest_stands (c ∷ u) w h = rest_stands u w (All-tail Stands c (u ++ w) h)

-- ---- names

capital_at : (a b : Bool) (c : ℕ) → IsVisible c → (a ≡ false → 97 ≤ c) → IsVisible (cond a c (cond b (c - 32) c))
capital_at true b c h g = h
capital_at false true c h g = (omega (arith, g refl), omega (arith, h.1))
capital_at false false c h g = h

capital : (c : ℕ) → IsVisible c → IsVisible (to_ascii_uppercase c)
capital c h = capital_at (nat_lt c 97) (nat_lt c 123) c h (λ e. grind (arith, nat_tests))

visible_within : (least most c : ℕ) → 33 ≤ least → most ≤ 126 → is_in_range least most c ≡ true → IsVisible c
visible_within least most c a b h = let r = range_of least most c h in (omega (arith, a, r.0), omega (arith, b, r.1))

name_visible : (c : ℕ) → name_char c ≡ true → IsVisible c
name_visible c h =
    either_test (is_ascii_alphanumeric c) (c == 95) h
    (λ k. either_test (is_in_range 48 57 c || is_in_range 65 90 c) (is_in_range 97 122 c) k
    (λ m. either_test (is_in_range 48 57 c) (is_in_range 65 90 c) m (visible_within 48 57 c (omega arith) (omega arith)) (visible_within 65 90 c (omega arith) (omega arith)))
    (visible_within 97 122 c (omega arith) (omega arith)))
    (λ k. let e : c ≡ 95 = grind (arith, nat_tests) in (omega (arith, e), omega (arith, e)))

name_word : (u : List ℕ) → list_all name_char u ≡ true → IsWord (folded u)
name_word u h = record { each = All-map IsVisible to_ascii_uppercase u (λ k d l. capital (get_or u k d) (name_visible (get_or u k d) (AllPass-from_list_all name_char u h k d l))) }

name_kind_holds : (w : Option Word) (n : List ℕ) → IsWord n → KindHolds (kind_from w n)
name_kind_holds None n h = h
name_kind_holds (Some w) n h = tt

-- ---- quoted texts

not_feed : (c : ℕ) → (c == 10) ≡ false → Stands c → IsPrintable c
not_feed c e (inl h) = h
not_feed c e (inr h) = let f : (10 == 10) ≡ false = subst (λ (x : ℕ). (x == 10) ≡ false) h e in absurd (cc f)

spelt_text : {s m : List ℕ} → Spells s m → All Stands s → IsText m
spelt_text nothing h = text_nil
spelt_text (plain {c = c} {s = s} q n g) h = text_cons (not_feed c n (All-head Stands c s h)) (spelt_text g (All-tail Stands c s h))
spelt_text (pair {s = s} g) h = text_cons (omega arith, omega arith) (spelt_text g (All-tail Stands 34 s (All-tail Stands 34 (34 ∷ s) h)))

-- ---- pieces

abbrev PieceHolds : Piece → Type 0
PieceHolds Separator = ⊤
PieceHolds (OfKind k) = KindHolds k

is_piece : {x y : Piece} → x ≡ y → PieceHolds y → PieceHolds x
is_piece e h = subst PieceHolds (sym e) h

literal_holds : (u : List ℕ) (x : Piece) → All Stands u → IsLiteral u x → PieceHolds x
literal_holds u x h l = is_piece l.is (spelt_text l.spells (front_stands l.inner (34 ∷ []) (All-tail Stands 34 (l.inner ++ 34 ∷ []) (subst (All Stands) l.cut h))))

front_holds : (c : Class) (u w : List ℕ) (x : Piece) → All Stands u → begins_with c u w x → PieceHolds x
front_holds Blank u w x h (e, f) = is_piece f tt
front_holds Letter u w x h (inl a) = is_piece a.is (name_kind_holds (word_of (folded u)) (folded u) (name_word u a.run.all))
front_holds Letter u w x h (inr a) = is_piece a.is tt
front_holds Digit u w x h a = is_piece a.is tt
front_holds Quote u w x h a = literal_holds u x h a
front_holds Sharp u w x h a = is_piece a.is tt
front_holds Other u w x h (inl (e, f)) = is_piece f tt
front_holds Other u w x h (inr (s, e, f)) = is_piece f tt

piece_holds : (u w : List ℕ) (x : Piece) → All Stands u → IsFront u w x → PieceHolds x
piece_holds [] w x h f = absurd f
piece_holds (c ∷ u) w x h f = front_holds (class c) (c ∷ u) w x h f

gives_hold : {p : Place} {rest : List ℕ} {all : List Token} → Gives p rest all → All Stands rest → Each TokenHolds all
gives_hold finish h = (tt, tt)
gives_hold (skip u w r g) h = gives_hold g (rest_stands u w (subst (All Stands) r.cut h))
gives_hold (token k u w r g) h =
    let all : All Stands (u ++ w) = subst (All Stands) r.cut h in
    (piece_holds u w (OfKind k) (front_stands u w all) r.is, gives_hold g (rest_stands u w all))

kept_hold : (e : Bool) (ts : List Token) → Each TokenHolds ts → Each TokenHolds (kept e ts)
kept_hold e [] h = tt
kept_hold e (t ∷ ts) h = go (e && is_name t.kind) (kept_hold false ts h.1) (kept_hold (is_end t.kind) ts h.1)
  where
    go : (d : Bool) → Each TokenHolds (kept false ts) → Each TokenHolds (kept (is_end t.kind) ts) → Each TokenHolds (cond d (kept false ts) (t ∷ kept (is_end t.kind) ts))
    go true p q = p
    go false p q = (h.0, q)

pub tokens_hold : (cards : List (List ℕ)) (tokens : List Token) → All IsText cards → AreTokens cards tokens → Each TokenHolds tokens
tokens_hold cards tokens h (all, g, e) = subst (Each TokenHolds) (sym e) (kept_hold false all (gives_hold g (text_stands cards h)))

moved_hold : (ts : List Token) → Each TokenHolds ts → Each TokenHolds (moved_tokens ts)
moved_hold [] h = tt
moved_hold (t ∷ []) h = (tt, (tt, tt))
moved_hold (t ∷ u ∷ rest) h = (h.0, moved_hold (u ∷ rest) h.1)

pub wrapped_hold : (ts : List Token) → Each TokenHolds ts → Each TokenHolds (wrapped ts)
wrapped_hold ts h = (tt, moved_hold ts h)
