-- What is taken of two parts or more, the one behind the other.
use Rattle.std.proofs.Common.{◌≡◌, List, ◌++◌, ap, ◌∙◌, append_assoc}
use Rattle.typed_findings.specs.Findings.{Found}

-- what findings say, and those behind them
abbrev pub Taking : Type 0 → Type 0
Taking A = List Found → A × List Found

abbrev pub of_one : {A B : Type 0} → Taking A → (A → B) → Taking B
of_one t F found = (F (t found).0, (t found).1)

abbrev pub of_two : {A B C : Type 0} → Taking A → Taking B → (A → B → C) → Taking C
of_two t u F found = (F (t found).0 (u (t found).1).0, (u (t found).1).1)

-- where the findings of a part are next, it is taken, and they are
pub one : {A B : Type 0} (t : Taking A) (F : A → B) (found rest : List Found) (x : A) → t found ≡ (x, rest) → of_one t F found ≡ (F x, rest)
one {A} {B} t F found rest x e = ap {B = B × List Found} (λ (l : A × List Found). (F l.0, l.1)) e

pub two : {A B C : Type 0} (t : Taking A) (u : Taking B) (F : A → B → C) (xs ys rest : List Found) (x : A) (y : B) → t (xs ++ (ys ++ rest)) ≡ (x, ys ++ rest) → u (ys ++ rest) ≡ (y, rest) → of_two t u F (xs ++ ys ++ rest) ≡ (F x y, rest)
two {A} {B} {C} t u F xs ys rest x y first second =
    ap {B = C × List Found} (of_two t u F) (append_assoc xs ys rest)
    ∙ ap {B = C × List Found} (λ (l : A × List Found). (F l.0 (u l.1).0, (u l.1).1)) first
    ∙ ap {B = C × List Found} (λ (l : B × List Found). (F x l.0, l.1)) second

pub three : {A B C D : Type 0} (t : Taking A) (u : Taking B) (v : Taking C) (F : A → B → C → D) (xs ys zs rest : List Found) (x : A) (y : B) (z : C)
    → t (xs ++ (ys ++ (zs ++ rest))) ≡ (x, ys ++ (zs ++ rest)) → u (ys ++ (zs ++ rest)) ≡ (y, zs ++ rest) → v (zs ++ rest) ≡ (z, rest)
    → of_two (of_two t u (λ a b. (a, b))) v (λ (p : A × B) c. F p.0 p.1 c) (xs ++ ys ++ zs ++ rest) ≡ (F x y z, rest)
three {A} {B} {C} {D} t u v F xs ys zs rest x y z first second third =
    two (of_two {C = A × B} t u (λ a b. (a, b))) v (λ (p : A × B) c. F p.0 p.1 c) (xs ++ ys) zs rest (x, y) z
    (two {C = A × B} t u (λ a b. (a, b)) xs ys (zs ++ rest) x y first second) third

pub four : {A B C D E : Type 0} (t : Taking A) (u : Taking B) (v : Taking C) (w : Taking D) (F : A → B → C → D → E) (xs ys zs qs rest : List Found) (x : A) (y : B) (z : C) (q : D)
    → t (xs ++ (ys ++ (zs ++ (qs ++ rest)))) ≡ (x, ys ++ (zs ++ (qs ++ rest))) → u (ys ++ (zs ++ (qs ++ rest))) ≡ (y, zs ++ (qs ++ rest)) → v (zs ++ (qs ++ rest)) ≡ (z, qs ++ rest) → w (qs ++ rest) ≡ (q, rest)
    → of_two (of_two (of_two t u (λ a b. (a, b))) v (λ (p : A × B) c. (p, c))) w (λ (p : (A × B) × C) d. F p.0.0 p.0.1 p.1 d) (xs ++ ys ++ zs ++ qs ++ rest) ≡ (F x y z q, rest)
four {A} {B} {C} {D} {E} t u v w F xs ys zs qs rest x y z q first second third fourth =
    two (of_two {C = (A × B) × C} (of_two {C = A × B} t u (λ a b. (a, b))) v (λ p c. (p, c))) w (λ (p : (A × B) × C) d. F p.0.0 p.0.1 p.1 d) (xs ++ ys ++ zs) qs rest ((x, y), z) q
    (three {D = (A × B) × C} t u v (λ a b c. ((a, b), c)) xs ys zs (qs ++ rest) x y z first second third) fourth
