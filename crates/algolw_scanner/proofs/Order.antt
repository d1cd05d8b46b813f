-- Tokens stand one behind another.
use Rattle.std.proofs.Common.{◌==◌, ℕ, ◌+◌, List, [], ◌∷◌, Bool, true, false, cond, ◌&&◌, refl, arith, inl, inr}
use Rattle.value_ops.specs.declared.places.Place.{Place}
use Rattle.algolw_tree.specs.declared.tokens.Token.{Token}
use Rattle.algolw_tree.specs.Tokens.{walk, step, Piece, IsFront, Gives, finish, skip, token, kept, is_name, is_end}
use Rattle.algolw_scanner.specs.Laws.{IsBefore, Rise}

pub before_both : (a b c : Place) → IsBefore a b → IsBefore b c → IsBefore a c
before_both a b c (inl x) (inl y) = inl (omega arith)
before_both a b c (inl x) (inr (y, z)) = inl (omega arith)
before_both a b c (inr (x, v)) (inl y) = inl (omega arith)
before_both a b c (inr (x, v)) (inr (y, z)) = inr (omega arith, omega arith)

before_step : (p : Place) (c : ℕ) → IsBefore p (step p c)
before_step p c = go (c == 10)
  where
    go : (b : Bool) → IsBefore p (cond b (record { card = p.card + 1; column = 1 }) (record { card = p.card; column = p.column + 1 }))
    go true = inl (omega arith)
    go false = inr (refl, omega arith)

before_walk : (b p : Place) (u : List ℕ) → IsBefore b p → IsBefore b (walk p u)
before_walk b p [] h = h
before_walk b p (c ∷ u) h = before_walk b (step p c) u (before_both b p (step p c) h (before_step p c))

-- a front leads on
before_front : (p : Place) (u w : List ℕ) (x : Piece) → IsFront u w x → IsBefore p (walk p u)
before_front p [] w x f = absurd f
before_front p (c ∷ u) w x f = before_walk p (step p c) u (before_step p c)

-- the place is before the first token, and each token before the next
abbrev pub RiseBehind : Place → List Token → Type 0
RiseBehind b [] = Unit {0}
RiseBehind b (t ∷ ts) = IsBefore b t.place × RiseBehind t.place ts

pub gives_rise : {p : Place} {rest : List ℕ} {all : List Token} → Gives p rest all → (b : Place) → IsBefore b p → RiseBehind b all
gives_rise finish b h = (h, tt)
gives_rise (skip {p = p} u w r g) b h = gives_rise g b (before_walk b p u h)
gives_rise (token {p = p} k u w r g) b h = (h, gives_rise g p (before_front p u w _ r.is))

rise_further : (a b : Place) (ts : List Token) → IsBefore a b → RiseBehind b ts → RiseBehind a ts
rise_further a b [] h r = tt
rise_further a b (t ∷ ts) h r = (before_both a b t.place h r.0, r.1)

-- leaving tokens out keeps the order of the others
pub kept_rise : (e : Bool) (b : Place) (all : List Token) → RiseBehind b all → RiseBehind b (kept e all)
kept_rise e b [] r = tt
kept_rise e b (t ∷ ts) r = go (e && is_name t.kind) (kept_rise false b ts (rise_further b t.place ts r.0 r.1)) (kept_rise (is_end t.kind) t.place ts r.1)
  where
    go : (d : Bool) → RiseBehind b (kept false ts) → RiseBehind t.place (kept (is_end t.kind) ts) → RiseBehind b (cond d (kept false ts) (t ∷ kept (is_end t.kind) ts))
    go true h k = h
    go false h k = (r.0, k)

pub rise_alone : (b : Place) (ts : List Token) → RiseBehind b ts → Rise ts
rise_alone b [] r = tt
rise_alone b (t ∷ []) r = tt
rise_alone b (t ∷ next ∷ ts) r = (r.1.0, rise_alone t.place (next ∷ ts) r.1)
