-- A text gives one list of tokens, or stops at one place.
use Rattle.std.proofs.Common.{◌≡◌, ℕ, ◌≤◌, List, [], ◌∷◌, ◌++◌, length, Bool, true, false, refl, sym, ◌∙◌, ap, subst, arith, ◌&&◌, inl, inr, Some}
use Rattle.std.specs.List.{list_all}
use Rattle.std.proofs.lemmas.List.{append_cancel_left, append_cancel_right}
use Rattle.std.specs.Prelude.{Result, Ok, Err, IfOk}
use Rattle.std.specs.declared.alloc.AllocError.{AllocError}
use Rattle.algolw_tree.specs.declared.tokens.Token.{Token}
use Rattle.value_ops.specs.declared.places.Place.{Place}
use Rattle.value_ops.specs.declared.places.Diagnostic.{Diagnostic}
use Rattle.algolw_tree.specs.declared.tokens.TokenKind.{TokenKind}
use Rattle.algolw_tree.specs.declared.tokens.TokenKind.TheVariants.{Quoted, BitsLit, Symbol as ASymbol}
use Rattle.algolw_tree.specs.declared.tokens.Symbol.{Symbol}
use Rattle.algolw_scanner.specs.declared.scanning.Scanned.{Scanned}
use Rattle.algolw_scanner.specs.declared.scanning.Scanned.TheVariants.{Tokens, Bad}
use Rattle.algolw_tree.specs.Chars.{class, Class, Blank, Letter, Digit, Quote, Sharp, Other, name_char, hex_from}
use Rattle.algolw_tree.specs.Tokens.{origin, text, walk, Piece, Separator, OfKind, Reads, ReadsNothing, IsFront, IsName, IsComment, IsLiteral, IsBits, Spells, nothing, plain, pair, begins_with, symbol_of, Gives, Stops, finish, skip, token, here, later, kept, AreTokens, IsFault}
use Rattle.algolw_scanner.specs.Laws.{IsScanOf, IsOnlyScanOf}
use Rattle.algolw_scanner.specs.Scans.{Says}
use Rattle.algolw_scanner.proofs.Fronts.{head_is, tail_is}

-- a literal says one thing
spells_one : (s m n : List ℕ) → Spells s m → Spells s n → m ≡ n
spells_one s m n nothing nothing = refl
spells_one s m n (plain {c = c} a b r) (plain e f t) = ap (λ x. c ∷ x) (spells_one _ _ _ r t)
spells_one s m n (plain a b r) (pair t) = cc
spells_one s m n (pair r) (plain e f t) = cc
spells_one s m n (pair r) (pair t) = ap (λ x. 34 ∷ x) (spells_one _ _ _ r t)

has_semicolon : (a b : List ℕ) → list_all name_char (a ++ (b ++ 59 ∷ [])) ≡ true → ⊥
has_semicolon [] [] e = cc
has_semicolon [] (x ∷ b) e = has_semicolon [] b (more (name_char x) e)
  where
    more : (p : Bool) → p && list_all name_char (b ++ 59 ∷ []) ≡ true → list_all name_char (b ++ 59 ∷ []) ≡ true
    more true h = h
    more false h = absurd (cc)
has_semicolon (x ∷ a) b e = has_semicolon a b (more (name_char x) e)
  where
    more : (p : Bool) → p && list_all name_char (a ++ (b ++ 59 ∷ [])) ≡ true → list_all name_char (a ++ (b ++ 59 ∷ [])) ≡ true
    more true h = h
    more false h = absurd (cc)

name_or_comment : (u w : List ℕ) (x y : Piece) → IsName u w x → IsComment u y → ⊥
name_or_comment u w x y n r = has_semicolon r.word r.words (subst (λ s. list_all name_char s ≡ true) r.cut n.run.all)

literal_one : (u : List ℕ) (x y : Piece) → IsLiteral u x → IsLiteral u y → x ≡ y
literal_one u x y a b =
    let e : a.inner ≡ b.inner = append_cancel_right a.inner b.inner (34 ∷ []) (tail_is (sym a.cut ∙ b.cut)) in
    let f : a.first ∷ a.more ≡ b.first ∷ b.more = spells_one a.inner _ _ a.spells (subst (λ s. Spells s (b.first ∷ b.more)) (sym e) b.spells) in
    a.is ∙ ap (λ m. OfKind (Quoted m)) f ∙ sym b.is

bits_one : (u w : List ℕ) (x y : Piece) → IsBits u w x → IsBits u w y → x ≡ y
bits_one u w x y a b =
    let e : a.digits ≡ b.digits = tail_is (sym a.cut ∙ b.cut) in
    a.is ∙ ap (λ m. OfKind (BitsLit (hex_from 0 m))) e ∙ sym b.is

symbol_one : (u : List ℕ) (s t : Symbol) → symbol_of u ≡ Some s → symbol_of u ≡ Some t → s ≡ t
symbol_one u s t e f = let g : Some s ≡ Some t = sym e ∙ f in cc

no_feed : (u : List ℕ) (s : Symbol) → u ≡ 10 ∷ [] → symbol_of u ≡ Some s → ⊥
no_feed u s e f = let g : symbol_of (10 ∷ []) ≡ Some s = ap symbol_of (sym e) ∙ f in cc

begins_one : (k : Class) (u w : List ℕ) (x y : Piece) → begins_with k u w x → begins_with k u w y → x ≡ y
begins_one Blank u w x y (e, f) (g, h) = f ∙ sym h
begins_one Letter u w x y (inl a) (inl b) = a.is ∙ sym b.is
begins_one Letter u w x y (inl a) (inr b) = absurd (name_or_comment u w x y a b)
begins_one Letter u w x y (inr a) (inl b) = absurd (name_or_comment u w y x b a)
begins_one Letter u w x y (inr a) (inr b) = a.is ∙ sym b.is
begins_one Digit u w x y a b = a.is ∙ sym b.is
begins_one Quote u w x y a b = literal_one u x y a b
begins_one Sharp u w x y a b = bits_one u w x y a b
begins_one Other u w x y (inl (e, f)) (inl (g, h)) = f ∙ sym h
begins_one Other u w x y (inl (e, f)) (inr (s, g, h)) = absurd (no_feed u s e g)
begins_one Other u w x y (inr (s, g, h)) (inl (e, f)) = absurd (no_feed u s e g)
begins_one Other u w x y (inr (s, e, f)) (inr (t, g, h)) = f ∙ ap (λ z. OfKind (ASymbol z)) (symbol_one u s t e g) ∙ sym h

front_one : (u w : List ℕ) (x y : Piece) → IsFront u w x → IsFront u w y → x ≡ y
front_one [] w x y a b = absurd a
front_one (c ∷ u) w x y a b = begins_one (class c) (c ∷ u) w x y a b

append_front : (u w v z : List ℕ) → u ++ w ≡ v ++ z → length u ≡ length v → u ≡ v
append_front [] w [] z e l = refl
append_front [] w (q ∷ v) z e l = absurd (omega arith)
append_front (p ∷ u) w [] z e l = absurd (omega arith)
append_front (p ∷ u) w (q ∷ v) z e l =
    let f : p ≡ q = head_is e in
    let h : u ≡ v = append_front u w v z (tail_is e) (omega arith) in cc

module _ (rest u w v z : List ℕ) (x y : Piece) (a : Reads rest u x w) (b : Reads rest v y z) where
  same_front : u ≡ v
  same_front =
      let h : length u ≤ length v = b.longest u w x a.cut a.is in
      let k : length v ≤ length u = a.longest v z y b.cut b.is in
      append_front u w v z (sym a.cut ∙ b.cut) (omega arith)

  same_after : w ≡ z
  same_after = append_cancel_left u w z (sym a.cut ∙ b.cut ∙ ap (λ s. s ++ z) (sym same_front))

  same_piece : x ≡ y
  same_piece = front_one u w x y a.is (subst (λ s. IsFront u s y) (sym same_after) (subst (λ s. IsFront s z y) (sym same_front) b.is))

  on_gives : (p : Place) (ts : List Token) → Gives (walk p v) z ts → Gives (walk p u) w ts
  on_gives p ts g = subst (λ s. Gives (walk p s) w ts) (sym same_front) (subst (λ s. Gives (walk p v) s ts) (sym same_after) g)

  on_stops : (p : Place) (d : Diagnostic) → Stops (walk p v) z d → Stops (walk p u) w d
  on_stops p d g = subst (λ s. Stops (walk p s) w d) (sym same_front) (subst (λ s. Stops (walk p v) s d) (sym same_after) g)

empty_reads : (u w : List ℕ) (x : Piece) → Reads [] u x w → ⊥
empty_reads [] w x r = r.is
empty_reads (c ∷ u) w x r = let e : [] ≡ (c ∷ u) ++ w = r.cut in cc

tok_one : (k l : TokenKind) → OfKind k ≡ OfKind l → k ≡ l
tok_one k l e = cc

skip_tok : (k : TokenKind) → Separator ≡ OfKind k → ⊥
skip_tok k e = cc

gives_one : {p : Place} {rest : List ℕ} {a b : List Token} → Gives p rest a → Gives p rest b → a ≡ b
gives_one finish finish = refl
gives_one finish (skip u w r g) = absurd (empty_reads u w Separator r)
gives_one finish (token k u w r g) = absurd (empty_reads u w (OfKind k) r)
gives_one (skip u w r g) finish = absurd (empty_reads u w Separator r)
gives_one (skip {p = p} {rest = rest} u w r g) (skip {ts = ts} v z s h) = gives_one g (on_gives rest u w v z Separator Separator r s p ts h)
gives_one (skip {rest = rest} u w r g) (token k v z s h) = absurd (skip_tok k (same_piece rest u w v z Separator (OfKind k) r s))
gives_one (token k u w r g) finish = absurd (empty_reads u w (OfKind k) r)
gives_one (token {rest = rest} k u w r g) (skip v z s h) = absurd (skip_tok k (sym (same_piece rest u w v z (OfKind k) Separator r s)))
gives_one (token {p = p} {rest = rest} k u w r g) (token {ts = ts} l v z s h) =
    let e : k ≡ l = tok_one k l (same_piece rest u w v z (OfKind k) (OfKind l) r s) in
    let f : _ ≡ ts = gives_one g (on_gives rest u w v z (OfKind k) (OfKind l) r s p ts h) in
    cc

nothing_read : {rest u w : List ℕ} {x : Piece} → ReadsNothing rest → Reads rest u x w → ⊥
nothing_read {rest} {u} {w} {x} n r = n u w x r.cut r.is

pub stops_one : {p : Place} {rest : List ℕ} {d e : Diagnostic} → Stops p rest d → Stops p rest e → d ≡ e
stops_one (here n) (here m) = refl
stops_one (here n) (later v y z s h) = absurd (nothing_read n s)
stops_one (later u x w r g) (here m) = absurd (nothing_read m r)
stops_one (later {p = p} {rest = rest} u x w r g) (later {d = d} v y z s h) = stops_one g (on_stops rest u w v z x y r s p d h)

pub gives_or_stops : {p : Place} {rest : List ℕ} {a : List Token} {d : Diagnostic} → Gives p rest a → Stops p rest d → ⊥
gives_or_stops finish (later v y z s h) = empty_reads v z y s
gives_or_stops (skip u w r g) (here n) = nothing_read n r
gives_or_stops (skip {p = p} {rest = rest} u w r g) (later {d = d} v y z s h) = gives_or_stops g (on_stops rest u w v z Separator y r s p d h)
gives_or_stops (token k u w r g) (here n) = nothing_read n r
gives_or_stops (token {p = p} {rest = rest} k u w r g) (later {d = d} v y z s h) = gives_or_stops g (on_stops rest u w v z (OfKind k) y r s p d h)

pub one_list : (cards : List (List ℕ)) (a b : List Token) → AreTokens cards a → AreTokens cards b → a ≡ b
one_list cards a b (x, g, e) (y, h, f) = e ∙ ap (kept false) (gives_one g h) ∙ sym f

pub no_list : (cards : List (List ℕ)) (a : List Token) (d : Diagnostic) → AreTokens cards a → IsFault cards d → ⊥
no_list cards a d (x, g, e) h = gives_or_stops g h

-- what scanning says of a deck is all that there is to say
only_scan : (cards : List (List ℕ)) (s : Scanned) → IsScanOf cards s → IsOnlyScanOf cards s
only_scan cards (Tokens v) tokens = (λ others are. one_list cards others v.items are tokens, λ d fault. no_list cards v.items d tokens fault)
only_scan cards (Bad d) fault = (λ tokens are. no_list cards tokens d are fault, λ e other. stops_one other fault)

pub if_only : (cards : List (List ℕ)) (r : Result Scanned AllocError) → IfOk r (λ s. IsScanOf cards s) → IfOk r (λ s. IsOnlyScanOf cards s)
if_only cards (Ok s) h = only_scan cards s h
if_only cards (Err e) h = h

-- what the text of a deck says is what scanning says of the deck
scan_of : (cards : List (List ℕ)) (s : Scanned) → Says origin (text cards) s → IsScanOf cards s
scan_of cards (Tokens v) says = says
scan_of cards (Bad d) says = says

pub said : (cards : List (List ℕ)) (r : Result Scanned AllocError) → IfOk r (λ s. Says origin (text cards) s) → IfOk r (λ s. IsScanOf cards s)
said cards (Ok s) h = scan_of cards s h
said cards (Err e) h = h
