-- From what begins with a character of a class to what is read.
use Rattle.std.proofs.Common.{◌≡◌, ℕ, ◌+◌, ◌≤◌, List, [], ◌∷◌, ◌++◌, length, Bool, true, false, cond, refl, sym, ap, subst, arith, ◌&&◌}
use Rattle.std.specs.List.{list_all, prefix_len}
use Rattle.std.proofs.Common.{drop, one-add}
use Rattle.algolw_tree.specs.Chars.{class, Class, begins}
use Rattle.algolw_tree.specs.Tokens.{Piece, begins_with, IsFront, Reads, ReadsNothing}

pub head_is : {c d : ℕ} {u v : List ℕ} → c ∷ u ≡ d ∷ v → c ≡ d
head_is e = cc

pub tail_is : {c d : ℕ} {u v : List ℕ} → c ∷ u ≡ d ∷ v → u ≡ v
tail_is e = cc

as_class : (c d : ℕ) (k : Class) (v z : List ℕ) (y : Piece) → c ≡ d → class c ≡ k → begins_with (class d) (d ∷ v) z y → begins_with k (c ∷ v) z y
as_class c d k v z y e f b = subst (λ j. begins_with j (c ∷ v) z y) f (subst (λ i. begins_with (class i) (i ∷ v) z y) (sym e) b)

longest_by : (c : ℕ) (u w : List ℕ) (k : Class) → class c ≡ k → ((v z : List ℕ) (y : Piece) → u ++ w ≡ v ++ z → begins_with k (c ∷ v) z y → length v ≤ length u) → (v z : List ℕ) (y : Piece) → c ∷ (u ++ w) ≡ v ++ z → IsFront v z y → length v ≤ length (c ∷ u)
longest_by c u w k e f [] z y g b = elim b [ ]
longest_by c u w k e f (d ∷ v) z y g b =
    let h : length v ≤ length u = f v z y (tail_is g) (as_class c d k v z y (head_is g) e b) in
    omega arith

pub reads_by : (c : ℕ) (u w : List ℕ) (x : Piece) (k : Class) → class c ≡ k → begins_with k (c ∷ u) w x → ((v z : List ℕ) (y : Piece) → u ++ w ≡ v ++ z → begins_with k (c ∷ v) z y → length v ≤ length u) → Reads (c ∷ (u ++ w)) (c ∷ u) x w
reads_by c u w x k e h f = record {
  cut = refl;
  is = subst (λ j. begins_with j (c ∷ u) w x) (sym e) h;
  longest = longest_by c u w k e f;
}

none_by : (c : ℕ) (rest : List ℕ) (k : Class) → class c ≡ k → ((v z : List ℕ) (y : Piece) → rest ≡ v ++ z → begins_with k (c ∷ v) z y → ⊥) → (v z : List ℕ) (y : Piece) → c ∷ rest ≡ v ++ z → IsFront v z y → ⊥
none_by c rest k e f [] z y g b = b
none_by c rest k e f (d ∷ v) z y g b = f v z y (tail_is g) (as_class c d k v z y (head_is g) e b)

pub nothing_by : (c : ℕ) (rest : List ℕ) (k : Class) → class c ≡ k → ((v z : List ℕ) (y : Piece) → rest ≡ v ++ z → begins_with k (c ∷ v) z y → ⊥) → ReadsNothing (c ∷ rest)
nothing_by c rest k e f = none_by c rest k e f

-- Two runs of one text are one.
so : (a b : Bool) → a && b ≡ true → (a ≡ true) × (b ≡ true)
so true b e = (refl, e)
so false b e = absurd (cc)

pub run_one : (p : ℕ → Bool) (u w v z : List ℕ) → u ++ w ≡ v ++ z → list_all p u ≡ true → begins p w ≡ false → list_all p v ≡ true → begins p z ≡ false → u ≡ v
run_one p [] w [] z e a b c d = refl
run_one p [] w (y ∷ v) z e a b c d =
    let f : begins p w ≡ p y = ap (begins p) e in
    let g : p y ≡ true = (so (p y) (list_all p v) c).0 in
    cc
run_one p (x ∷ u) w [] z e a b c d =
    let f : p x ≡ begins p z = ap (begins p) e in
    let g : p x ≡ true = (so (p x) (list_all p u) a).0 in
    cc
run_one p (x ∷ u) w (y ∷ v) z e a b c d =
    let h : u ≡ v = run_one p u w v z (tail_is e) (so (p x) (list_all p u) a).1 b (so (p y) (list_all p v) c).1 d in
    let g : x ≡ y = head_is e in
    cc

-- The longest run of a line, where its end passes no test.
run_stops : (p : ℕ → Bool) (x : ℕ) (xs t : List ℕ) → begins p (drop (prefix_len p xs) xs ++ 10 ∷ t) ≡ false → (b : Bool) → p x ≡ b → begins p (drop (cond b (1 + prefix_len p xs) 0) (x ∷ xs) ++ 10 ∷ t) ≡ false
run_stops p x xs t h true e = rw one-add h
run_stops p x xs t h false e = e

pub run_ends : (p : ℕ → Bool) (xs t : List ℕ) → p 10 ≡ false → begins p (drop (prefix_len p xs) xs ++ 10 ∷ t) ≡ false
run_ends p [] t n = n
run_ends p (x ∷ xs) t n = run_stops p x xs t (run_ends p xs t n) (p x) refl
