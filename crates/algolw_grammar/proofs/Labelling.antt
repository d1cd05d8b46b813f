-- Labels: which two tokens are one.
use Rattle.std.proofs.Common.{◌≡◌, Bool, true, false, List, [], ◌∷◌, ◌++◌, refl, sym, ◌∙◌, ap, inl, inr, ◌⊎◌, Option, Some, None}
use Rattle.value_ops.specs.declared.places.Place.{Place}
use Rattle.algolw_tree.specs.declared.tokens.Symbol.{Symbol}
use Rattle.algolw_tree.specs.declared.tokens.Symbol.TheVariants.{Colon}
use Rattle.algolw_tree.specs.declared.tokens.Token.{Token}
use Rattle.algolw_tree.specs.declared.tokens.TokenKind.{TokenKind}
use Rattle.algolw_tree.specs.declared.tokens.TokenKind.TheVariants.{Named, Symbol as ASymbol}
use Rattle.algolw_tree.specs.Parts.{Beyond, across, token, both, made}
use Rattle.algolw_tree.specs.Tree.{Placed}
use Rattle.algolw_tree.specs.Grammar.{name_at, symbol_at, name, symbol, label}
use Rattle.algolw_grammar.specs.Kinds.{kind_number, has, a_name, the_symbol}
use Rattle.algolw_grammar.specs.Taken.{is_symbol, name_taken, labels, label_taken}

-- names

pub name_of : (t : Token) (l : Placed) → name_taken t ≡ Some l → t ≡ name_at l
name_of t l h = go t.kind t.place h
  where
    go : (k : TokenKind) (p : Place) → name_taken (record { place = p; kind = k }) ≡ Some l → record { place = p; kind = k } ≡ name_at l
    go (Named n) p h = let e : (n, p) ≡ l = cc in ap name_at e
    go _ p h = cc

pub name_again : (l : Placed) → name_taken (name_at l) ≡ Some l
name_again l = refl

pub name_has : (t : Token) (l : Placed) → name_taken t ≡ Some l → has (kind_number t.kind) a_name ≡ true
name_has t l h = rw (name_of t l h) refl

pub name_lacks : (t : Token) → has (kind_number t.kind) a_name ≡ false → name_taken t ≡ None
name_lacks t h = go (name_taken t) refl
  where
    go : (o : Option Placed) → name_taken t ≡ o → o ≡ None
    go None e = refl
    go (Some l) e = let z : has (kind_number t.kind) a_name ≡ true = name_has t l e in cc

-- colons

colon_kind : (k : TokenKind) → is_symbol Colon k ≡ true → k ≡ ASymbol Colon
colon_kind (ASymbol x) h = go x h
  where
    go : (x : Symbol) → is_symbol Colon (ASymbol x) ≡ true → ASymbol x ≡ ASymbol Colon
    go Colon h = refl
    go _ h = cc
colon_kind _ h = cc

pub colon_of : (k : Token) → is_symbol Colon k.kind ≡ true → k ≡ symbol_at Colon k.place
colon_of k h = ap at_place (colon_kind k.kind h)
  where
    at_place : TokenKind → Token
    at_place x = record { place = k.place; kind = x }

pub colon_has : (k : Token) → is_symbol Colon k.kind ≡ true → has (kind_number k.kind) (the_symbol Colon) ≡ true
colon_has k h = rw (colon_kind k.kind h) refl

pub colon_lacks : (k : Token) → has (kind_number k.kind) (the_symbol Colon) ≡ false → is_symbol Colon k.kind ≡ false
colon_lacks k h = go (is_symbol Colon k.kind) refl
  where
    go : (b : Bool) → is_symbol Colon k.kind ≡ b → b ≡ false
    go false e = refl
    go true e = let z : has (kind_number k.kind) (the_symbol Colon) ≡ true = colon_has k e in cc

-- labels

pub label_split : (t k : Token) (l : Placed) → label_taken t k ≡ Some l → (name_taken t ≡ Some l) × (is_symbol Colon k.kind ≡ true)
label_split t k l h = go (name_taken t) (is_symbol Colon k.kind) h
  where
    go : (o : Option Placed) (b : Bool) → labels o b ≡ Some l → (o ≡ Some l) × (b ≡ true)
    go (Some m) true h = (h, refl)
    go (Some m) false h = cc
    go None b h = cc

-- no name, or no colon, is no label
pub no_name_label : (t k : Token) → has (kind_number t.kind) a_name ≡ false → label_taken t k ≡ None
no_name_label t k h = rw (name_lacks t h, labels) refl

pub no_colon_label : (t k : Token) → has (kind_number k.kind) (the_symbol Colon) ≡ false → label_taken t k ≡ None
no_colon_label t k h = rw (colon_lacks k h) (go (name_taken t))
  where
    go : (o : Option Placed) → labels o false ≡ None
    go None = refl
    go (Some l) = refl

pub label_spelled : (c : Option Token) (t k : Token) (l : Placed) → label_taken t k ≡ Some l → label.spells c (t ∷ k ∷ []) l None
unfolding label name symbol token both made
label_spelled c t k l h =
    let e : (name_taken t ≡ Some l) × (is_symbol Colon k.kind ≡ true) = label_split t k l h in
    ((l, k.place), (t ∷ [], k ∷ [], None, None, refl, refl, (ap (λ t. t ∷ []) (name_of t l (e.0)), refl), (ap (λ k. k ∷ []) (colon_of k (e.1)), refl)), refl)

pub label_shape : (c : Option Token) (u : List Token) (l : Placed) (b : Beyond) → label.spells c u l b → (t : Token) × (k : Token) × (u ≡ t ∷ k ∷ []) × (label_taken t k ≡ Some l) × (b ≡ None)
unfolding label name symbol token both made
label_shape c u l b (x, (v, w, d, e, f, fb, (g, gb), (i, ib)), h) =
    (name_at x.0, symbol_at Colon x.1, f ∙ ap (λ v. v ++ w) g ∙ ap (λ w. name_at x.0 ∷ w) i, ap Some (sym h), fb ∙ ap (λ d. across d w e) gb ∙ ib)

-- what begins a label: nothing, a name, or a label
abbrev pub Begun : List Token → Type 0
Begun u = (u ≡ []) ⊎ ((t : Token) × (l : Placed) × (u ≡ t ∷ []) × (name_taken t ≡ Some l)) ⊎ ((t : Token) × (k : Token) × (l : Placed) × (u ≡ t ∷ k ∷ []) × (label_taken t k ≡ Some l))

pub label_begun : (u : List Token) (b : Beyond) → label.begins u b → Begun u × (b ≡ None)
unfolding label name symbol token both made
label_begun u b (inl (inl h, e)) = (inl h, e)
label_begun u b (inl (inr (x, h), e)) = (inr (inl (name_at x, x, h, refl)), e)
label_begun u b (inr (v, w, d, e, x, f, fb, (g, gb), (inl i, ib))) =
    (inr (inl (name_at x, x, f ∙ ap (λ v. v ++ w) g ∙ ap (λ w. name_at x ∷ w) i, refl)), fb ∙ ap (λ d. across d w e) gb ∙ ib)
label_begun u b (inr (v, w, d, e, x, f, fb, (g, gb), (inr (p, i), ib))) =
    (inr (inr (name_at x, symbol_at Colon p, x, f ∙ ap (λ v. v ++ w) g ∙ ap (λ w. name_at x ∷ w) i, refl)), fb ∙ ap (λ d. across d w e) gb ∙ ib)

pub label_none : label.begins [] None
unfolding label name symbol token both made
label_none = inl (inl refl, refl)

pub label_name : (t : Token) (l : Placed) → name_taken t ≡ Some l → label.begins (t ∷ []) None
unfolding label name symbol token both made
label_name t l h = inl (inr (l, ap (λ t. t ∷ []) (name_of t l h)), refl)
