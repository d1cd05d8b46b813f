-- The last token of a deck is its end, and the others are on its cards.
use Rattle.std.proofs.Common.{◌≡◌, ℕ, List, [], ◌∷◌, ◌++◌, Bool, true, false, cond, ◌&&◌, refl, ap, subst, ◌∙◌, Option, Some, None, inl, inr}
use Rattle.std.specs.Prelude.{All}
use Rattle.std.proofs.lemmas.List.Elements.{All-nil, All-cons}
use Rattle.value_ops.specs.declared.places.Place.{Place}
use Rattle.algolw_tree.specs.declared.tokens.Token.{Token}
use Rattle.algolw_tree.specs.declared.tokens.Word.{Word}
use Rattle.algolw_tree.specs.declared.tokens.TokenKind.{TokenKind}
use Rattle.algolw_tree.specs.declared.tokens.TokenKind.TheVariants.{Finish}
use Rattle.algolw_tree.specs.Chars.{class, Class, Blank, Letter, Digit, Quote, Sharp, Other}
use Rattle.algolw_tree.specs.Words.{kind_from, word_of, folded}
use Rattle.algolw_tree.specs.Tokens.{Piece, Separator, OfKind, IsFront, begins_with, Gives, finish, skip, token, kept, is_name, is_end}
use Rattle.algolw_scanner.specs.Laws.{IsOnCards, is_finish}
use Rattle.algolw_scanner.proofs.Places.{past, Stands, stands_on, token_on_cards}

abbrev is_finish_piece : Piece → Bool
is_finish_piece Separator = false
is_finish_piece (OfKind k) = is_finish k

name_goes_on : (w : Option Word) (n : List ℕ) → is_finish (kind_from w n) ≡ false
name_goes_on None n = refl
name_goes_on (Some w) n = refl

front_goes_on : (c : Class) (u w : List ℕ) (x : Piece) → begins_with c u w x → is_finish_piece x ≡ false
front_goes_on Blank u w x (e, f) = ap is_finish_piece f
front_goes_on Letter u w x (inl a) = ap is_finish_piece a.is ∙ name_goes_on (word_of (folded u)) (folded u)
front_goes_on Letter u w x (inr a) = ap is_finish_piece a.is
front_goes_on Digit u w x a = ap is_finish_piece a.is
front_goes_on Quote u w x a = ap is_finish_piece a.is
front_goes_on Sharp u w x a = ap is_finish_piece a.is
front_goes_on Other u w x (inl (e, f)) = ap is_finish_piece f
front_goes_on Other u w x (inr (s, e, f)) = ap is_finish_piece f

-- no front of the text is its end
token_goes_on : (u w : List ℕ) (k : TokenKind) → IsFront u w (OfKind k) → is_finish k ≡ false
token_goes_on [] w k f = absurd f
token_goes_on (c ∷ u) w k f = front_goes_on (class c) (c ∷ u) w (OfKind k) f

-- tokens on so many cards, and the end behind the last of these
pub data Ends : ℕ → List Token → Type 0 where
  last : {n : ℕ} {p : Place} → p ≡ past n → Ends n (record { place = p; kind = Finish } ∷ [])
  more : {n : ℕ} {t : Token} {ts : List Token} → is_finish t.kind ≡ false → IsOnCards n t.place → Ends n ts → Ends n (t ∷ ts)

pub gives_ends : (n : ℕ) {p : Place} {rest : List ℕ} {all : List Token} → Gives p rest all → Stands n p rest → Ends n all
gives_ends n finish h = last h
gives_ends n (skip {p = p} u w r g) h = gives_ends n g (stands_on n p u w (subst (λ s. Stands n p s) r.cut h))
gives_ends n (token {p = p} k u w r g) h =
    let s : Stands n p (u ++ w) = subst (λ s. Stands n p s) r.cut h in
    more (token_goes_on u w k r.is) (token_on_cards n p u w k r.is s) (gives_ends n g (stands_on n p u w s))

-- the end is kept, and leaving tokens out changes no other
pub kept_ends : (n : ℕ) {all : List Token} → Ends n all → (e : Bool) → Ends n (kept e all)
kept_ends n (last h) true = last h
kept_ends n (last h) false = last h
kept_ends n (more {t = t} {ts = ts} f o g) e = go (e && is_name t.kind) (kept_ends n g false) (kept_ends n g (is_end t.kind))
  where
    go : (d : Bool) → Ends n (kept false ts) → Ends n (kept (is_end t.kind) ts) → Ends n (cond d (kept false ts) (t ∷ kept (is_end t.kind) ts))
    go true h k = h
    go false h k = more f o k

-- the tokens but for the end
pub record Fronted (n : ℕ) (tokens : List Token) : Type 0 where
  pub front : List Token
  pub cut : tokens ≡ front ++ record { place = past n; kind = Finish } ∷ []
  pub others : All (λ token. is_finish token.kind ≡ false) front
  pub on_cards : All (λ token. IsOnCards n token.place) front

fronted_more : (n : ℕ) (t : Token) (ts : List Token) → is_finish t.kind ≡ false → IsOnCards n t.place → Fronted n ts → Fronted n (t ∷ ts)
fronted_more n t ts f o h = record {
  front = t ∷ h.front;
  cut = ap (λ x. t ∷ x) h.cut;
  others = All-cons (λ token. is_finish token.kind ≡ false) t h.front f h.others;
  on_cards = All-cons (λ token. IsOnCards n token.place) t h.front o h.on_cards;
}

pub fronted : (n : ℕ) {tokens : List Token} → Ends n tokens → Fronted n tokens
fronted n (last h) = record {
  front = [];
  cut = ap (λ q. record { place = q; kind = Finish } ∷ []) h;
  others = All-nil (λ token. is_finish token.kind ≡ false);
  on_cards = All-nil (λ token. IsOnCards n token.place);
}
fronted n (more {t = t} {ts = ts} f o g) = fronted_more n t ts f o (fronted n g)
