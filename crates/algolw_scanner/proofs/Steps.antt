-- Steps of a cursor.
use Rattle.std.proofs.Common.{◌≡◌, ◌==◌, ℕ, ◌+◌, ◌-◌, ◌≤◌, ◌<◌, List, [], ◌∷◌, ◌++◌, length, Bool, true, false, not, cond, refl, sym, ◌∙◌, ap, subst, arith, append_assoc, length-append, get_or, take, drop, ◌&&◌}
use Rattle.std.specs.List.{list_all}
use Rattle.std.proofs.lemmas.List.{take_all}
use Rattle.std.proofs.lemmas.Bool.Decides.{nat_tests}
use Rattle.value_ops.specs.declared.places.Place.{Place}
use Rattle.algolw_scanner.specs.declared.cursor.Cursor.{Cursor}
use Rattle.algolw_tree.specs.Tokens.{text, walk, step}
use Rattle.algolw_scanner.specs.Cursors.{clean, AreClean, text_at, Sound, Behind, no_semicolon}

pub place_is : (p : Place) (a b : ℕ) → p.card ≡ a → p.column ≡ b → p ≡ record { card = a; column = b }
place_is p a b e f = λ i. record { card = e i; column = f i }

pub walk_on : (p : Place) (u v : List ℕ) → walk p (u ++ v) ≡ walk (walk p u) v
walk_on p [] v = refl
walk_on p (c ∷ u) v = walk_on (step p c) u v

all_step : (p : ℕ → Bool) (u v : List ℕ) (b : Bool) → (list_all p u ≡ true → list_all p (u ++ v) ≡ true) → b && list_all p u ≡ true → b && list_all p (u ++ v) ≡ true
all_step p u v true f h = f h
all_step p u v false f h = h

pub all_on : (p : ℕ → Bool) (u v : List ℕ) → list_all p v ≡ true → list_all p u ≡ true → list_all p (u ++ v) ≡ true
all_on p [] v f e = f
all_on p (x ∷ u) v f e = all_step p u v (p x) (all_on p u v f) e

pub behind_on : (a b c : Cursor) (u v : List ℕ) → Behind a u b → Behind b v c → Behind a (u ++ v) c
behind_on a b c u v h k = record {
  cut = h.cut ∙ ap (λ x. u ++ x) k.cut ∙ sym (append_assoc u v (text_at c));
  place = k.place ∙ ap (λ p. walk p v) h.place ∙ sym (walk_on a.place u v);
  sound = k.sound;
}

char_step : (p : Place) (c : ℕ) (b : Bool) → (c == 10) ≡ b → not b ≡ true → step p c ≡ record { card = p.card; column = p.column + 1 }
char_step p c true e f = cc
char_step p c false e f = ap (λ b. cond b (record { card = p.card + 1; column = 1 }) (record { card = p.card; column = p.column + 1 })) e

and_left : (a b : Bool) → a && b ≡ true → a ≡ true
and_left true b e = refl
and_left false b e = e

and_right : (a b : Bool) → a && b ≡ true → b ≡ true
and_right true b e = e
and_right false b e = absurd (cc)

-- along characters of one card
pub walk_line : (p : Place) (u : List ℕ) → clean u ≡ true → walk p u ≡ record { card = p.card; column = p.column + length u }
walk_line p [] e = place_is p p.card (p.column + 0) refl (omega arith)
walk_line p (c ∷ u) e =
    ap (λ q. walk q u) (char_step p c (c == 10) refl (and_left (not (c == 10)) (clean u) e))
    ∙ walk_line (record { card = p.card; column = p.column + 1 }) u (and_right (not (c == 10)) (clean u) e)
    ∙ place_is _ p.card (p.column + length (c ∷ u)) refl (omega arith)

clean_front : (u r : List ℕ) → clean (u ++ r) ≡ true → clean u ≡ true
clean_front [] r e = refl
clean_front (c ∷ u) r e = both (not (c == 10)) (clean u) (and_left (not (c == 10)) (clean (u ++ r)) e) (clean_front u r (and_right (not (c == 10)) (clean (u ++ r)) e))
  where
    both : (a b : Bool) → a ≡ true → b ≡ true → a && b ≡ true
    both true b e f = f
    both false b e f = e

clean_rest : (u r : List ℕ) → clean (u ++ r) ≡ true → clean r ≡ true
clean_rest [] r e = e
clean_rest (c ∷ u) r e = clean_rest u r (and_right (not (c == 10)) (clean (u ++ r)) e)

pub behind_line : (a b : Cursor) (u : List ℕ) → Sound a → a.line.now ≡ u ++ b.line.now → b.later.now ≡ a.later.now → b.place.card ≡ a.place.card → b.place.column ≡ a.place.column + (length a.line.now - length b.line.now) → Behind a u b
behind_line a b u s e l f g =
    let n : length a.line.now ≡ length u + length b.line.now = ap length e ∙ length-append u b.line.now in
    let m : clean (u ++ b.line.now) ≡ true = subst (λ x. clean x ≡ true) e s.clean in
    let q : length b.later.now ≡ length a.later.now = ap length l in
    let s1 : length a.line.now ≤ 80 = s.short in
    let s2 : a.place.column + length a.line.now ≤ 81 = s.column in
    let s3 : a.place.card + length a.later.now ≤ 2000 = s.card in
    record {
      cut = ap (λ x. x ++ 10 ∷ text a.later.now) e ∙ append_assoc u b.line.now (10 ∷ text a.later.now) ∙ ap (λ x. u ++ (b.line.now ++ 10 ∷ text x)) (sym l);
      place = place_is b.place a.place.card (a.place.column + length u) f (omega arith) ∙ sym (walk_line a.place u (clean_front u b.line.now m));
      sound = record {
        clean = clean_rest u b.line.now m;
        later = subst (λ x. AreClean x) (sym l) s.later;
        short = omega arith;
        column = omega arith;
        card = omega arith;
      };
    }

-- the first character of a line, and the others as a pattern has them
pub first_rest : (xs : List ℕ) → 1 ≤ length xs → xs ≡ (get_or xs 0 0 ∷ []) ++ take (length xs - 1) (drop 1 xs)
first_rest [] h = absurd (omega arith)
first_rest (x ∷ xs) h = ap (λ y. x ∷ y) (sym (take_all (length (x ∷ xs) - 1) xs (omega arith)))

-- one more character of which none is a semicolon
pub passed_char : (a b c : Cursor) (x : ℕ) → ((x == 59) ≡ false) → (u : List ℕ) × (no_semicolon u ≡ true) × Behind a u b → Behind b (x ∷ []) c → (u : List ℕ) × (no_semicolon u ≡ true) × Behind a u c
passed_char a b c x e (u, n, h) k = (u ++ x ∷ [], all_on (λ y. not (y == 59)) u (x ∷ []) (ap (λ y. not y && true) e) n, behind_on a b c u (x ∷ []) h k)

pub passed_last : (a b c : Cursor) (x : ℕ) → x ≡ 59 → (u : List ℕ) × (no_semicolon u ≡ true) × Behind a u b → Behind b (x ∷ []) c → (u : List ℕ) × (no_semicolon u ≡ true) × Behind a (u ++ 59 ∷ []) c
passed_last a b c x e (u, n, h) k = (u, n, behind_on a b c u (59 ∷ []) h (subst (λ y. Behind b (y ∷ []) c) e k))

pub behind_shorter : (a b : Cursor) (u : List ℕ) → Behind a u b → 0 < length u → length (text_at b) < length (text_at a)
behind_shorter a b u h e = let k : length (text_at a) ≡ length u + length (text_at b) = ap length h.cut ∙ length-append u (text_at b) in omega arith

pub not_eq_test : (x y : ℕ) → (x ≡ y → ⊥) → (x == y) ≡ false
not_eq_test x y h = grind (arith, nat_tests)
