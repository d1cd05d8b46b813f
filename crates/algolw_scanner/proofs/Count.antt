-- How many tokens a text gives.
use Rattle.std.proofs.Common.{◌≡◌, ◌==◌, ℕ, ◌+◌, ◌≤◌, List, [], ◌∷◌, ◌++◌, length, Bool, true, false, cond, refl, ap, subst, arith, inl, inr, Some}
use Rattle.std.proofs.lemmas.Bool.Decides.{nat_tests}
use Rattle.algolw_tree.specs.declared.tokens.Token.{Token}
use Rattle.value_ops.specs.declared.places.Place.{Place}
use Rattle.algolw_tree.specs.declared.tokens.TokenKind.{TokenKind}
use Rattle.algolw_tree.specs.declared.tokens.Symbol.{Symbol}
use Rattle.algolw_tree.specs.Chars.{class, Other}
use Rattle.algolw_tree.specs.Tokens.{OfKind, IsFront, begins_with, symbol_of, Gives, finish, skip, token, kept, is_name, is_end}

-- how many characters a text has, without the card ends
abbrev pub chars : List ℕ → ℕ
chars [] = 0
chars (c ∷ cs) = cond (c == 10) (chars cs) (1 + chars cs)

chars_more : (c : ℕ) (u w : List ℕ) → chars (u ++ w) ≡ chars u + chars w → (b : Bool) → cond b (chars (u ++ w)) (1 + chars (u ++ w)) ≡ cond b (chars u) (1 + chars u) + chars w
chars_more c u w h true = h
chars_more c u w h false = omega arith

pub chars_on : (u w : List ℕ) → chars (u ++ w) ≡ chars u + chars w
chars_on [] w = omega arith
chars_on (c ∷ u) w = chars_more c u w (chars_on u w) (c == 10)

feed_symbol : (v : List ℕ) (s : Symbol) → symbol_of (10 ∷ v) ≡ Some s → ⊥
feed_symbol [] s e = cc
feed_symbol (d ∷ []) s e = cc
feed_symbol (d ∷ x ∷ v) s e = cc

pub feed_token : (v w : List ℕ) (k : TokenKind) → begins_with Other (10 ∷ v) w (OfKind k) → ⊥
feed_token v w k (inl (e, f)) = cc
feed_token v w k (inr (s, e, f)) = feed_symbol v s e

token_chars : (u w : List ℕ) (k : TokenKind) → IsFront u w (OfKind k) → 1 ≤ chars u
token_chars [] w k h = absurd h
token_chars (c ∷ u) w k h = go (c == 10) refl
  where
    go : (b : Bool) → (c == 10) ≡ b → 1 ≤ cond b (chars u) (1 + chars u)
    go true e = let f : c ≡ 10 = grind (arith, nat_tests) in absurd (feed_token u w k (subst (λ x. begins_with (class x) (x ∷ u) w (OfKind k)) f h))
    go false e = omega arith

pub few_tokens : {p : Place} {rest : List ℕ} {all : List Token} → Gives p rest all → length all ≤ chars rest + 1
few_tokens finish = omega arith
few_tokens (skip {rest = rest} u w r g) = omega (arith, few_tokens g, ap chars r.cut, chars_on u w)
few_tokens (token {rest = rest} k u w r g) = omega (arith, few_tokens g, ap chars r.cut, chars_on u w, token_chars u w k r.is)

pub kept_length : (e : Bool) (all : List Token) → length (kept e all) ≤ length all
kept_length e [] = omega arith
kept_length true (t ∷ ts) = go (is_name t.kind) (kept_length false ts) (kept_length (is_end t.kind) ts)
  where
    go : (b : Bool) → length (kept false ts) ≤ length ts → length (kept (is_end t.kind) ts) ≤ length ts → length (cond b (kept false ts) (t ∷ kept (is_end t.kind) ts)) ≤ length (t ∷ ts)
    go true h k = omega arith
    go false h k = omega arith
kept_length false (t ∷ ts) = omega (arith, kept_length (is_end t.kind) ts)
