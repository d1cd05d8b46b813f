-- What is made of what is taken, part by part.
use Rattle.std.proofs.Common.{◌≡◌, List, Result, refl, sym, ap, subst, ◌∙◌}
use Rattle.std.specs.Result.{IfOk}
use Rattle.value_ops.specs.declared.places.Place.{Place}
use Rattle.record_classes.specs.Classes.{Classes}
use Rattle.algolw_tree.proofs.Rows.{case_value_is, chain_is, conditional_is, listed_is}
use Rattle.algolw_tree.specs.Tree as tree
use Rattle.algolw_tree.specs.View.{case_value_tree, chain_tree, conditional_tree, listed_tree}
use Rattle.algolw_tree.specs.declared.phrases.CaseValue.{CaseValue}
use Rattle.algolw_tree.specs.declared.phrases.Chain.{Chain}
use Rattle.algolw_tree.specs.declared.phrases.Conditional.{Conditional}
use Rattle.algolw_tree.specs.declared.phrases.Listed.{Listed}
use Rattle.algolw_typing.specs.ProgramView.{Numbers}
use Rattle.algolw_typing.specs.Typed as typed
use Rattle.typed_findings.specs.Findings.{Found}
use Rattle.program_numbers.specs.Makes.{Makes, MakesTaken, Sets, numbers_in}
use Rattle.program_numbers.specs.Numbered.{KindNumbered}
use Rattle.program_numbers.specs.Taken.{kind_taken, taken_anywhere}
use Rattle.program_numbers.specs.declared.numbering.Numbering.{Numbering}
use Rattle.program_numbers.proofs.Making.{made_two, makes, makes_of}
use Rattle.program_numbers.proofs.TakenParts.{Taking, of_one, of_two}

-- the same by another name
pub taken_as : {A T E : Type 0} (n : Numbering) (a b : Classes) (V : T → Numbers → A) (r : Result T E) (behind : List Found) (x y : A × List Found) → y ≡ x → IfOk r (λ made. MakesTaken n a b (V made) behind x) → IfOk r (λ made. MakesTaken n a b (V made) behind y)
taken_as n a b V r behind x y e h = subst (λ z. IfOk r (λ made. MakesTaken n a b (V made) behind z)) (sym e) h

-- a whole of one part
pub taken_one : {A B : Type 0} (n : Numbering) (a b : Classes) (v : Numbers → A) (u : Numbers → B) (t : Taking A) (F : A → B) (found behind : List Found) → ((sets : Sets) → u (numbers_in n sets) ≡ F (v (numbers_in n sets)))
    → MakesTaken n a b v behind (t found) → MakesTaken n a b u behind (of_one t F found)
taken_one n a b v u t F found behind h first = record { made = makes_of n a b v (t found).0 F u (F (t found).0) h refl first.made; left = first.left }

-- of two, the one behind the other
pub taken_two : {A B C : Type 0} (n : Numbering) (a b c : Classes) (v : Numbers → A) (w : Numbers → B) (u : Numbers → C) (t : Taking A) (s : Taking B) (F : A → B → C) (found between behind : List Found)
    → ((sets : Sets) → u (numbers_in n sets) ≡ F (v (numbers_in n sets)) (w (numbers_in n sets))) → MakesTaken n a b v between (t found) → MakesTaken n b c w behind (s between) → MakesTaken n a c u behind (of_two t s F found)
taken_two n a b c v w u t s F found between behind h first second =
    let next : MakesTaken n b c w behind (s (t found).1) = subst (λ z. MakesTaken n b c w behind (s z)) first.left second in
    record { made = made_two n a b c v w (t found).0 (s (t found).1).0 F u h first.made next.made; left = next.left }

-- of three, one behind the other
pub taken_three : {A B C D : Type 0} (n : Numbering) (a b c d : Classes) (v : Numbers → A) (w : Numbers → B) (z : Numbers → C) (u : Numbers → D) (t : Taking A) (s : Taking B) (r : Taking C) (F : A → B → C → D) (found first_left second_left behind : List Found)
    → ((sets : Sets) → u (numbers_in n sets) ≡ F (v (numbers_in n sets)) (w (numbers_in n sets)) (z (numbers_in n sets))) → MakesTaken n a b v first_left (t found) → MakesTaken n b c w second_left (s first_left) → MakesTaken n c d z behind (r second_left)
    → MakesTaken n a d u behind (of_two (of_two {C = A × B} t s (λ x y. (x, y))) r (λ (p : A × B) q. F p.0 p.1 q) found)
taken_three {A} {B} {C} {D} n a b c d v w z u t s r F found first_left second_left behind h first second third =
    taken_two n a c d (λ ns. (v ns, w ns)) z u (of_two {C = A × B} t s (λ x y. (x, y))) r (λ (p : A × B) q. F p.0 p.1 q) found second_left behind h
    (taken_two {C = A × B} n a b c v w (λ ns. (v ns, w ns)) t s (λ x y. (x, y)) found first_left second_left (λ sets. refl) first second) third

-- of four
pub taken_four : {A B C D E : Type 0} (n : Numbering) (a b c d e : Classes) (v : Numbers → A) (w : Numbers → B) (z : Numbers → C) (y : Numbers → D) (u : Numbers → E) (t : Taking A) (s : Taking B) (r : Taking C) (q : Taking D) (F : A → B → C → D → E)
    (found first_left second_left third_left behind : List Found) → ((sets : Sets) → u (numbers_in n sets) ≡ F (v (numbers_in n sets)) (w (numbers_in n sets)) (z (numbers_in n sets)) (y (numbers_in n sets)))
    → MakesTaken n a b v first_left (t found) → MakesTaken n b c w second_left (s first_left) → MakesTaken n c d z third_left (r second_left) → MakesTaken n d e y behind (q third_left)
    → MakesTaken n a e u behind (of_two (of_two {C = (A × B) × C} (of_two {C = A × B} t s (λ x1 x2. (x1, x2))) r (λ p x3. (p, x3))) q (λ (p : (A × B) × C) x4. F p.0.0 p.0.1 p.1 x4) found)
taken_four {A} {B} {C} {D} {E} n a b c d e v w z y u t s r q F found first_left second_left third_left behind h first second third fourth =
    taken_two n a d e (λ ns. ((v ns, w ns), z ns)) y u (of_two {C = (A × B) × C} (of_two {C = A × B} t s (λ x1 x2. (x1, x2))) r (λ p x3. (p, x3))) q (λ (p : (A × B) × C) x4. F p.0.0 p.0.1 p.1 x4) found third_left behind h
    (taken_three {D = (A × B) × C} n a b c d v w z (λ ns. ((v ns, w ns), z ns)) t s r (λ x1 x2 x3. ((x1, x2), x3)) found first_left second_left third_left (λ sets. refl) first second third) fourth

-- from what is left of a finding
pub taken_from : {A : Type 0} (n : Numbering) (a b : Classes) (v : Numbers → A) (t : Taking A) (found between behind : List Found) → between ≡ found → MakesTaken n a b v behind (t between) → MakesTaken n a b v behind (t found)
taken_from n a b v t found between behind e h = subst (λ fs. MakesTaken n a b v behind (t fs)) e h

-- what is made is what is taken, by another name
pub same_taken : {A : Type 0} (n : Numbering) (a b : Classes) (v : Numbers → A) (behind : List Found) (x y : A × List Found) → y ≡ x → MakesTaken n a b v behind x → MakesTaken n a b v behind y
same_taken n a b v behind x y e h = subst (MakesTaken n a b v behind) (sym e) h

-- the same kind, and so the same taken
pub kind_as : (p : Place) (k l : tree.Kind) (found : List Found) → k ≡ l → kind_taken p k found ≡ kind_taken p l found
kind_as p k l found e = ap {B = typed.Kind × List Found} (λ m. kind_taken p m found) e

pub numbered_as : (n : Numbering) (x y : typed.Kind × List Found) → x ≡ y → KindNumbered n x.0 → KindNumbered n y.0
numbered_as n x y e h = subst (λ (r : typed.Kind × List Found). KindNumbered n r.0) e h

-- what is asked of a part, where the findings of those before it are taken
pub asked : {A : Type 0} (P : A → Type 0) (t : Taking A) (found between : List Found) → between ≡ found → P (t found).0 → P (t between).0
asked P t found between e h = subst (λ fs. P (t fs).0) (sym e) h

-- nothing is taken
pub nothing_taken : {A : Type 0} (n : Numbering) (a : Classes) (u : Numbers → A) (x : A) (found : List Found) → ((sets : Sets) → u (numbers_in n sets) ≡ x) → MakesTaken n a a u found (x, found)
nothing_taken n a u x found h = record { made = makes n a u x h; left = refl }

-- Where a phrase but a FOR stands does not matter.
pub listed_anywhere : (p : Place) (l : Listed) (found : List Found) → kind_taken p (listed_tree l) found ≡ taken_anywhere (listed_tree l) found
listed_anywhere p l found = ap {B = typed.Kind × List Found} (λ k. kind_taken p k found) (listed_is l) ∙ sym (ap {B = typed.Kind × List Found} (λ k. taken_anywhere k found) (listed_is l))

pub chain_anywhere : (p : Place) (c : Chain) (found : List Found) → kind_taken p (chain_tree c) found ≡ taken_anywhere (chain_tree c) found
chain_anywhere p c found = ap {B = typed.Kind × List Found} (λ k. kind_taken p k found) (chain_is c) ∙ sym (ap {B = typed.Kind × List Found} (λ k. taken_anywhere k found) (chain_is c))

pub conditional_anywhere : (p : Place) (c : Conditional) (found : List Found) → kind_taken p (conditional_tree c) found ≡ taken_anywhere (conditional_tree c) found
conditional_anywhere p c found = ap {B = typed.Kind × List Found} (λ k. kind_taken p k found) (conditional_is c) ∙ sym (ap {B = typed.Kind × List Found} (λ k. taken_anywhere k found) (conditional_is c))

pub case_value_anywhere : (p : Place) (c : CaseValue) (found : List Found) → kind_taken p (case_value_tree c) found ≡ taken_anywhere (case_value_tree c) found
case_value_anywhere p c found = ap {B = typed.Kind × List Found} (λ k. kind_taken p k found) (case_value_is c) ∙ sym (ap {B = typed.Kind × List Found} (λ k. taken_anywhere k found) (case_value_is c))
