-- What is made, part by part.
use Rattle.std.proofs.Common.{◌≡◌, ℕ, ◌+◌, ◌<◌, ◌≤◌, List, [], ◌∷◌, ◌++◌, map, take, length, get_or, Result, zero, suc, refl, sym, ap, subst, ◌∙◌, append_assoc, append-nil, arith}
use Rattle.std.specs.Result.{IfOk}
use Rattle.std.proofs.lemmas.List.{map_more, take_all, map-append}
use Rattle.record_classes.specs.Classes.{Classes}
use Rattle.algolw_typing.specs.ProgramView.{Numbers}
use Rattle.program_numbers.specs.Makes.{Sets, Follows, Makes, numbers_in}
use Rattle.program_numbers.specs.declared.numbering.Numbering.{Numbering}

pub follows_itself : (sets : Sets) → Follows sets sets
follows_itself sets = record { more = []; is = sym (append-nil sets) }

pub follows_on : (a b c : Sets) → Follows a b → Follows b c → Follows a c
follows_on a b c f g = record { more = f.more ++ g.more; is = g.is ∙ ap (λ sets. sets ++ g.more) f.is ∙ append_assoc a f.more g.more }

-- nothing is added
pub makes : {A : Type 0} (n : Numbering) (a : Classes) (view : Numbers → A) (x : A) → ((sets : Sets) → view (numbers_in n sets) ≡ x) → Makes n a a view x
makes n a view x h = record { classes = refl; follows = follows_itself a.sets; sets = λ r. r; means = λ later f r. h later }

-- two parts, one behind the other
pub makes_both : {A B : Type 0} (n : Numbering) (a b c : Classes) (v : Numbers → A) (w : Numbers → B) (x : A) (y : B) → Makes n a b v x → Makes n b c w y → Makes {A = A × B} n a c (λ ns. (v ns, w ns)) (x, y)
makes_both {A} {B} n a b c v w x y f g = record {
  classes = g.classes ∙ f.classes;
  follows = follows_on a.sets b.sets c.sets f.follows g.follows;
  sets = λ r. g.sets (f.sets r);
  means = λ later h r. ap {B = A × B} (λ z. (z, w (numbers_in n later))) (f.means later (follows_on b.sets c.sets later g.follows h) r) ∙ ap {B = A × B} (λ z. (x, z)) (g.means later h r);
}

-- a whole of what was made
pub makes_of : {A B : Type 0} (n : Numbering) (a b : Classes) (v : Numbers → A) (x : A) (F : A → B) (w : Numbers → B) (y : B) → ((sets : Sets) → w (numbers_in n sets) ≡ F (v (numbers_in n sets))) → y ≡ F x → Makes n a b v x → Makes n a b w y
makes_of n a b v x F w y h e m = record {
  classes = m.classes;
  follows = m.follows;
  sets = m.sets;
  means = λ later f r. h later ∙ ap F (m.means later f r) ∙ sym e;
}

-- the same of another name
pub makes_same : {A T E : Type 0} (n : Numbering) (a b : Classes) (V : T → Numbers → A) (r : Result T E) (x y : A) → y ≡ x → IfOk r (λ made. Makes n a b (V made) x) → IfOk r (λ made. Makes n a b (V made) y)
makes_same n a b V r x y e h = subst (λ z. IfOk r (λ made. Makes n a b (V made) z)) (sym e) h

-- the turns of a loop over a list: each makes what its part is
pub turn : {X Y A : Type 0} (n : Numbering) (a b c : Classes) (V : Numbers → Y → A) (W : X → A) (xs : List X) (i : ℕ) (x : X) (ys more : List Y) (y : Y) → i < length xs → x ≡ get_or xs i x
    → Makes n a b (λ ns. map (V ns) ys) (map W (take i xs)) → Makes n b c (λ ns. V ns y) (W x) → more ≡ ys ++ y ∷ []
    → Makes n a c (λ ns. map (V ns) more) (map W (take (i + 1) xs))
turn {X} {Y} {A} n a b c V W xs i x ys more y within item before one is =
    makes_of n a c _ _ (λ (p : List A × A). p.0 ++ p.1 ∷ []) (λ ns. map (V ns) more) (map W (take (i + 1) xs))
    (λ sets. ap (map (V (numbers_in n sets))) is ∙ map-append (V (numbers_in n sets)) ys (y ∷ []))
    (map_more W xs i x within ∙ ap (λ z. map W (take i xs) ++ W z ∷ []) (sym item))
    (makes_both n a b c (λ ns. map (V ns) ys) (λ ns. V ns y) (map W (take i xs)) (W x) before one)

pub finish : {X Y A : Type 0} (n : Numbering) (a b : Classes) (V : Numbers → Y → A) (W : X → A) (xs : List X) (i : ℕ) (ys : List Y) → length xs ≤ i → Makes n a b (λ ns. map (V ns) ys) (map W (take i xs)) → Makes n a b (λ ns. map (V ns) ys) (map W xs)
finish n a b V W xs i ys past m = subst (λ zs. Makes n a b (λ ns. map (V ns) ys) (map W zs)) (take_all i xs past) m

-- a part of a list has what the list has
pub part_at : {X : Type 0} (S : List X → Type 0) (s : X → Type 0) → ((x : X) (xs : List X) → S (x ∷ xs) → s x × S xs) → (xs : List X) (i : ℕ) (d : X) → i < length xs → S xs → s (get_or xs i d)
part_at S s split [] i d within h = absurd (omega arith)
part_at S s split (y ∷ xs) zero d within h = (split y xs h).0
part_at S s split (y ∷ xs) (suc i) d within h = part_at S s split xs i d (omega (arith, within)) (split y xs h).1

pub part_has : {X : Type 0} (S : List X → Type 0) (s : X → Type 0) → ((x : X) (xs : List X) → S (x ∷ xs) → s x × S xs) → (xs : List X) (i : ℕ) (x : X) → i < length xs → x ≡ get_or xs i x → S xs → s x
part_has S s split xs i x within item h = subst s (sym item) (part_at S s split xs i x within h)

-- a whole of two parts
pub made_two : {A B C : Type 0} (n : Numbering) (a b c : Classes) (v : Numbers → A) (w : Numbers → B) (x : A) (y : B) (F : A → B → C) (u : Numbers → C) → ((sets : Sets) → u (numbers_in n sets) ≡ F (v (numbers_in n sets)) (w (numbers_in n sets)))
    → Makes n a b v x → Makes n b c w y → Makes n a c u (F x y)
made_two {A} {B} {C} n a b c v w x y F u h f g = makes_of n a c (λ ns. (v ns, w ns)) (x, y) (λ (p : A × B). F p.0 p.1) u (F x y) h refl (makes_both n a b c v w x y f g)

-- a whole of three parts
pub made_three : {A B C D : Type 0} (n : Numbering) (a b c d : Classes) (v : Numbers → A) (w : Numbers → B) (z : Numbers → C) (x : A) (y : B) (q : C) (F : A → B → C → D) (u : Numbers → D)
    → ((sets : Sets) → u (numbers_in n sets) ≡ F (v (numbers_in n sets)) (w (numbers_in n sets)) (z (numbers_in n sets))) → Makes n a b v x → Makes n b c w y → Makes n c d z q → Makes n a d u (F x y q)
made_three {A} {B} {C} {D} n a b c d v w z x y q F u h f g k =
    made_two n a c d (λ ns. (v ns, w ns)) z (x, y) q (λ (p : A × B) (r : C). F p.0 p.1 r) u h (makes_both n a b c v w x y f g) k

-- the same by another name
pub makes_as : {A : Type 0} (n : Numbering) (a b : Classes) (v : Numbers → A) (x y : A) → y ≡ x → Makes n a b v x → Makes n a b v y
makes_as n a b v x y e m = subst (Makes n a b v) (sym e) m
