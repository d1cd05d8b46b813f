-- A phrase whose parts are known is known.
use Rattle.std.proofs.Common.{◌≡◌, ℕ, List, [], ◌∷◌, ◌++◌, Option, Some, None, Bool, true, false}
use Rattle.value_ops.specs.declared.places.Place.{Place}
use Rattle.value_ops.specs.declared.places.Diagnostic.{Diagnostic}
use Rattle.algolw_tree.specs.declared.phrases.Op.{Op}
use Rattle.algolw_tree.specs.declared.phrases.RelOp.{RelOp}
use Rattle.algolw_tree.specs.Tree.{Placed}
use Rattle.algolw_typing.specs.Names.{Entry}
use Rattle.algolw_typing.specs.Types.{ValueType, Gives, Simple, has}
use Rattle.algolw_typing.specs.Verdicts.{Verdict, Good, fault_of, part, two_parts, all_parts}
use Rattle.algolw_typing.specs.Rows.{if_row, if_else_row, case_value_row, case_do_row, for_row, while_row, assert_row, link_row, negated_row, integer_row, relation_row, is_row}
use Rattle.algolw_typing.specs.Meanings.{Meaning, a_label}
use Rattle.algolw_typing.specs.Actuals.{Reading}
use Rattle.algolw_typing.specs.Scopes.{Known, class_fault}
use Rattle.algolw_typing.specs.Typed as typed
use Rattle.algolw_typing.specs.Typing.{Out, faults, gives, out, leaf, empty_out, negated_out, absolute_out, signed_out, relation_out, meaning_of, target, class_stated, is_out, goto_row, goto_out, Left, right_end, assign_row, uncounted, assign_out, if_out, if_else_out, PhrasesOut, no_outs, out_and, case_value_out, case_do_out, for_verdict, for_until_out, for_step_out, for_list_out, while_out, assert_out, LinksOut, no_more, link_verdict, link_out, chain_out}
use Rattle.algolw_typing.specs.Naming.{Naming, and, nothing, Frame, declares}
use Rattle.algolw_typing.specs.Known.{KnowsType, KnowsGives, Knows, KnowsKind, KnowsNodes, KnowsLinks, ClassesKnow}
use Rattle.algolw_typing.proofs.GoodScopes.{NoFaults, none_first, none_two, none_three, none_four}
use Rattle.algolw_typing.proofs.KnownTypes.{Tells, a_type, a_fault, silence, a_statement, gives_told, part_told, all_parts_told, onward_told, if_told, case_do_told, for_told, while_told, assert_told, link_told, integer_told, relation_told, is_told, assign_told, AllGive, none_gives, gives_and, negated_told, if_else_told, case_value_told}
use Rattle.algolw_typing.proofs.KnownNames.{FoundIs}
use Rattle.algolw_typing.proofs.KnownScopes.{IsHad, ClassHad, ClassKnown, classes_both}

-- ---- what is shown of a phrase with its naming

-- a tree that is known, and record classes whose fields are
pub record Sound (classes : List Place) (K : Type 0) (n : Naming) : Type 0 where
  pub tree : K
  pub fields : ClassesKnow classes n.classes

-- what it gives is known, and where it has no faults, so is all of it
pub record Fine (names classes : List Place) (o : Out) (n : Naming) : Type 0 where
  pub told : Tells classes o.verdict
  pub sound : NoFaults (faults o) → Sound classes (Knows names classes o.node) n

pub gives_known : {names classes : List Place} {n : Naming} (o : Out) → Fine names classes o n → KnowsGives classes (gives o)
gives_known o i = gives_told o.verdict i.told

-- parts together, each with its naming
pub fields_both : (classes : List Place) (a b : Naming) → ClassesKnow classes a.classes → ClassesKnow classes b.classes → ClassesKnow classes (and a b).classes
fields_both classes a b h k = classes_both classes a.classes b.classes h k

pub both : {classes : List Place} {K L : Type 0} (a b : Naming) → Sound classes K a → Sound classes L b → Sound classes (K × L) (and a b)
both {classes = classes} a b s t = record { tree = (s.tree, t.tree); fields = fields_both classes a b s.fields t.fields }

-- a phrase, by what it gives and what stands in it
pub made : {names classes : List Place} (inside : List Diagnostic) (p f : Place) (v : Verdict) (k : typed.Kind) (n : Naming) → Tells classes v → (NoFaults inside → Sound classes (KnowsKind names classes k) n) → Fine names classes (out inside p f v k) n
made inside p f v k n t i = record { told = t; sound = λ h. let s = i (none_first inside (fault_of v) h) in record { tree = (gives_told v t, s.tree); fields = s.fields } }

pub leaf_fine : {names classes : List Place} (p f : Place) (t : ValueType) (k : typed.Kind) → KnowsType classes t → KnowsKind names classes k → Fine names classes (leaf p f t k) nothing
leaf_fine p f t k h w = made [] p f (Good (Simple t)) k nothing (a_type h) (λ none. record { tree = w; fields = tt })

pub empty_fine : {names classes : List Place} (p f : Place) → Fine names classes (empty_out p f) nothing
empty_fine p f = record { told = a_statement; sound = λ h. record { tree = (tt, tt); fields = tt } }

-- ---- with one part or two

pub negated_fine : {names classes : List Place} (p f : Place) (a : Out) (n : Naming) → Fine names classes a n → Fine names classes (negated_out p f a) n
negated_fine p f a n i = made (faults a) p f (part (gives a) (negated_row p)) (typed.Negated a.node) n (negated_told p (gives a) (gives_known a i)) i.sound

pub absolute_fine : {names classes : List Place} (p f : Place) (a : Out) (n : Naming) → Fine names classes a n → Fine names classes (absolute_out p f a) n
absolute_fine p f a n i = made (faults a) p f (part (gives a) (integer_row p)) (typed.Abs a.node) n (part_told (gives a) (integer_row p) (integer_told p)) i.sound

pub signed_fine : {names classes : List Place} (p f : Place) (minus : Bool) (a : Out) (n : Naming) → Fine names classes a n → Fine names classes (signed_out p f minus a) n
signed_fine p f minus a n i = made (faults a) p f (part (gives a) (integer_row p)) (typed.Signed minus a.node) n (part_told (gives a) (integer_row p) (integer_told p)) i.sound

two_told : {classes : List Place} (a b : Option Gives) (row : Gives → Gives → Verdict) → ((g h : Gives) → Tells classes (row g h)) → Tells classes (two_parts a b row)
two_told a b row t = part_told a (λ g. part b (λ h. row g h)) (λ g. part_told b (row g) (t g))

-- two parts without faults
two_sound : {names classes : List Place} (a b : Out) (m n : Naming) → Fine names classes a m → Fine names classes b n → NoFaults (faults a ++ faults b) → Sound classes (Knows names classes a.node × Knows names classes b.node) (and m n)
two_sound a b m n i j h = let none = none_two (faults a) (faults b) h in both m n (i.sound none.0) (j.sound none.1)

pub relation_fine : {names classes : List Place} (p f : Place) (op : RelOp) (a b : Out) (m n : Naming) → Fine names classes a m → Fine names classes b n → Fine names classes (relation_out p f op a b) (and m n)
relation_fine p f op a b m n i j = made (faults a ++ faults b) p f (two_parts (gives a) (gives b) (relation_row op p)) (typed.Relation op a.node b.node) (and m n) (two_told (gives a) (gives b) (relation_row op p) (relation_told op p)) (two_sound a b m n i j)

pub uncounted_known : (names classes : List Place) (n : typed.Node) → Knows names classes n → Knows names classes (uncounted n)
uncounted_known names classes (typed.At p f g s (typed.Assign a b)) h = h
uncounted_known names classes (typed.At p f g s k) h = h

pub assign_fine : {names classes : List Place} (p f : Place) (left : Left) (a b : Out) (m n : Naming) → Fine names classes a m → Fine names classes b n → Fine names classes (assign_out p f left a b) (and m n)
assign_fine {names = names} {classes = classes} p f left a b m n i j =
    made (faults a ++ faults b) p f (two_parts (gives a) (gives b) (λ l r. part (right_end b.node) (assign_row p left l))) (typed.Assign a.node (uncounted b.node)) (and m n)
    (two_told (gives a) (gives b) (λ l r. part (right_end b.node) (assign_row p left l)) (λ l r. part_told (right_end b.node) (assign_row p left l) (assign_told p left l)))
    (λ h. let s = two_sound a b m n i j h in record { tree = (s.tree.0, uncounted_known names classes b.node s.tree.1); fields = s.fields })

-- ---- IS and GOTO

stated_told : {classes : List Place} (fs : List Diagnostic) (m : Option Meaning) (v : Verdict) → Tells classes v → Tells classes (class_stated fs m v)
stated_told [] (Some m) v t = t
stated_told [] None v t = silence
stated_told (f ∷ fs) m v t = silence

class_target : (names : List Place) (x : Placed) (e : Option (Entry Known)) → FoundIs (IsHad names) e → NoFaults (class_fault x e) → has names (target e) ≡ true
class_target names x None k h = absurd h
class_target names x (Some e) k h = k

is_stated : (classes : List Place) (x : Placed) (b : Bool) (p : Place) → ClassHad classes b p → NoFaults (elim b [ true ↦ [] | false ↦ record { place = x.1; number = 33 } ∷ [] ]) → has classes p ≡ true
is_stated classes x true p k h = k
is_stated classes x false p k h = absurd h

target_class : (classes : List Place) (x : Placed) (e : Option (Entry Known)) → FoundIs (ClassKnown classes) e → NoFaults (class_fault x e) → has classes (target e) ≡ true
target_class classes x None k h = absurd h
target_class classes x (Some e) k h = is_stated classes x e.is.is_class e.place k h

pub is_fine : {names classes : List Place} (p f : Place) (x : Placed) (e : Option (Entry Known)) (a : Out) (m : Naming) → FoundIs (IsHad names) e → FoundIs (ClassKnown classes) e → Fine names classes a m → Fine names classes (is_out p f x e a) m
is_fine {names = names} {classes = classes} p f x e a m k w i =
    made {names = names} {classes = classes} (faults a ++ class_fault x e) p f (class_stated (class_fault x e) (meaning_of e) (part (gives a) (is_row p))) (typed.IsClass a.node (target e) x.1) m
    (stated_told (class_fault x e) (meaning_of e) (part (gives a) (is_row p)) (part_told (gives a) (is_row p) (is_told p)))
    (λ h.
    let none = none_two (faults a) (class_fault x e) h in
    let s = i.sound none.0 in
    record { tree = (s.tree, class_target names x e k none.1, target_class classes x e w none.1); fields = s.fields })

goto_case : {classes : List Place} (p : Place) (name : List ℕ) (place : Place) (c : Bool) (reading : Reading) (m : Option Meaning) → Tells classes (goto_row p (Some (record { name = name; place = place; is = record { is_class = c; reading = reading; means = m } })))
goto_case p name place c reading None = silence
goto_case p name place c reading (Some a_label) = a_statement
goto_case p name place c reading (Some m) = a_fault

pub goto_fine : {names classes : List Place} (p f : Place) (e : Option (Entry Known)) → FoundIs (IsHad names) e → Fine names classes (goto_out p f e) nothing
goto_fine p f None k = record { told = a_fault; sound = λ h. absurd h }
goto_fine p f (Some e) k = made [] p f (goto_row p (Some e)) (typed.Goto e.place) nothing (goto_case p e.name e.place e.is.is_class e.is.reading e.is.means) (λ none. record { tree = k; fields = tt })

-- ---- IF, CASE, FOR, WHILE, ASSERT

pub if_fine : {names classes : List Place} (p f : Place) (c a : Out) (l m : Naming) → Fine names classes c l → Fine names classes a m → Fine names classes (if_out p f c a) (and l (and m nothing))
if_fine {classes = classes} p f c a l m i j =
    made (faults c ++ faults a) p f (two_parts (gives c) (gives a) (if_row p)) (typed.IfThen c.node a.node typed.Missing) (and l (and m nothing)) (two_told (gives c) (gives a) (if_row p) (if_told p))
    (λ h.
    let none = none_two (faults c) (faults a) h in
    let s = i.sound none.0 in
    let t = j.sound none.1 in
    record { tree = (s.tree, t.tree, tt); fields = fields_both classes l (and m nothing) s.fields (fields_both classes m nothing t.fields tt) })

pub if_else_fine : {names classes : List Place} (p f : Place) (c a b : Out) (l m n : Naming) → Fine names classes c l → Fine names classes a m → Fine names classes b n → Fine names classes (if_else_out p f c a b) (and l (and m n))
if_else_fine {classes = classes} p f c a b l m n i j k =
    made (faults c ++ faults a ++ faults b) p f (part (gives c) (λ g. two_parts (gives a) (gives b) (if_else_row p g))) (typed.IfThen c.node a.node (typed.There b.node)) (and l (and m n))
    (if_else_told p (gives c) (gives a) (gives b) (gives_known a j) (gives_known b k))
    (λ h.
    let none = none_three (faults c) (faults a) (faults b) h in
    let s = i.sound none.0 in
    let t = j.sound none.1 in
    let u = k.sound none.2 in
    record { tree = (s.tree, t.tree, u.tree); fields = fields_both classes l (and m n) s.fields (fields_both classes m n t.fields u.fields) })

pub record FineOuts (names classes : List Place) (os : PhrasesOut) (n : Naming) : Type 0 where
  pub give : AllGive classes os.gives
  pub sound : NoFaults os.inside → Sound classes (KnowsNodes names classes os.nodes) n

pub no_outs_fine : {names classes : List Place} → FineOuts names classes no_outs nothing
no_outs_fine = record { give = none_gives; sound = λ h. record { tree = tt; fields = tt } }

pub out_and_fine : {names classes : List Place} (o : Out) (os : PhrasesOut) (m n : Naming) → Fine names classes o m → FineOuts names classes os n → FineOuts names classes (out_and o os) (and m n)
out_and_fine o os m n i j = record { give = gives_and (gives_known o i) j.give; sound = λ h. let none = none_two (faults o) os.inside h in both m n (i.sound none.0) (j.sound none.1) }

outs_sound : {names classes : List Place} (c : Out) (os : PhrasesOut) (m n : Naming) → Fine names classes c m → FineOuts names classes os n → NoFaults (faults c ++ os.inside) → Sound classes (Knows names classes c.node × KnowsNodes names classes os.nodes) (and m n)
outs_sound c os m n i j h = let none = none_two (faults c) os.inside h in both m n (i.sound none.0) (j.sound none.1)

pub case_value_fine : {names classes : List Place} (p f : Place) (c : Out) (os : PhrasesOut) (m n : Naming) → Fine names classes c m → FineOuts names classes os n → Fine names classes (case_value_out p f c os) (and m n)
case_value_fine p f c os m n i j = made (faults c ++ os.inside) p f (part (gives c) (λ g. all_parts os.gives (case_value_row p g))) (typed.CaseValue c.node os.nodes) (and m n) (case_value_told p (gives c) os.gives j.give) (outs_sound c os m n i j)

pub case_do_fine : {names classes : List Place} (p f : Place) (c : Out) (os : PhrasesOut) (m n : Naming) → Fine names classes c m → FineOuts names classes os n → Fine names classes (case_do_out p f c os) (and m n)
case_do_fine p f c os m n i j =
    made (faults c ++ os.inside) p f (part (gives c) (λ g. all_parts os.gives (case_do_row p g))) (typed.CaseDo c.node os.nodes) (and m n)
    (part_told (gives c) (λ g. all_parts os.gives (case_do_row p g)) (λ g. all_parts_told os.gives (case_do_row p g) (case_do_told p g))) (outs_sound c os m n i j)

for_verdict_told : {classes : List Place} (p : Place) (gs : List (Option Gives)) (body : Out) → Tells classes (for_verdict p gs body)
for_verdict_told p gs body = all_parts_told gs (λ hs. part (gives body) (for_row p hs)) (λ hs. part_told (gives body) (for_row p hs) (for_told p hs))

pub for_until_fine : {names classes : List Place} (p f : Place) (a b body : Out) (frame : Frame) (xs : List Placed) (m n o : Naming) → has names p ≡ true → Fine names classes a m → Fine names classes b n → Fine names classes body o
    → Fine names classes (for_until_out p f a b body) (and (declares frame xs) (and m (and nothing (and n o))))
for_until_fine {classes = classes} p f a b body frame xs m n o d i j k =
    let gs = gives a ∷ gives b ∷ [] in
    made (faults a ++ faults b ++ faults body) p f (for_verdict p gs body) (typed.ForStep p a.node typed.Missing b.node body.node) (and (declares frame xs) (and m (and nothing (and n o)))) (for_verdict_told p gs body)
    (λ h.
    let none = none_three (faults a) (faults b) (faults body) h in
    let s = i.sound none.0 in
    let t = j.sound none.1 in
    let u = k.sound none.2 in
    record { tree = (d, s.tree, tt, t.tree, u.tree); fields = fields_both classes m (and n o) s.fields (fields_both classes n o t.fields u.fields) })

pub for_step_fine : {names classes : List Place} (p f : Place) (a step b body : Out) (frame : Frame) (xs : List Placed) (m q n o : Naming) → has names p ≡ true → Fine names classes a m → Fine names classes step q → Fine names classes b n → Fine names classes body o
    → Fine names classes (for_step_out p f a step b body) (and (declares frame xs) (and m (and q (and n o))))
for_step_fine {classes = classes} p f a step b body frame xs m q n o d i r j k =
    let gs = gives a ∷ gives step ∷ gives b ∷ [] in
    made (faults a ++ faults step ++ faults b ++ faults body) p f (for_verdict p gs body) (typed.ForStep p a.node (typed.There step.node) b.node body.node) (and (declares frame xs) (and m (and q (and n o)))) (for_verdict_told p gs body)
    (λ h.
    let none = none_four (faults a) (faults step) (faults b) (faults body) h in
    let s = i.sound none.0 in
    let v = r.sound none.1 in
    let t = j.sound none.2 in
    let u = k.sound none.3 in
    record { tree = (d, s.tree, v.tree, t.tree, u.tree); fields = fields_both classes m (and q (and n o)) s.fields (fields_both classes q (and n o) v.fields (fields_both classes n o t.fields u.fields)) })

pub for_list_fine : {names classes : List Place} (p f : Place) (os : PhrasesOut) (body : Out) (frame : Frame) (xs : List Placed) (m n : Naming) → has names p ≡ true → FineOuts names classes os m → Fine names classes body n
    → Fine names classes (for_list_out p f os body) (and (declares frame xs) (and m n))
for_list_fine {classes = classes} p f os body frame xs m n d i j =
    made (os.inside ++ faults body) p f (for_verdict p os.gives body) (typed.ForList p os.nodes body.node) (and (declares frame xs) (and m n)) (for_verdict_told p os.gives body)
    (λ h.
    let none = none_two os.inside (faults body) h in
    let s = i.sound none.0 in
    let t = j.sound none.1 in
    record { tree = (d, s.tree, t.tree); fields = fields_both classes m n s.fields t.fields })

pub while_fine : {names classes : List Place} (p f : Place) (c a : Out) (m n : Naming) → Fine names classes c m → Fine names classes a n → Fine names classes (while_out p f c a) (and m n)
while_fine p f c a m n i j = made (faults c ++ faults a) p f (two_parts (gives c) (gives a) (while_row p)) (typed.WhileDo c.node a.node) (and m n) (two_told (gives c) (gives a) (while_row p) (while_told p)) (two_sound c a m n i j)

pub assert_fine : {names classes : List Place} (p f : Place) (c : Out) (m : Naming) → Fine names classes c m → Fine names classes (assert_out p f c) m
assert_fine p f c m i = made (faults c) p f (part (gives c) (assert_row p)) (typed.Assert c.node) m (part_told (gives c) (assert_row p) (assert_told p)) i.sound

-- ---- chains

pub record FineLinks (names classes : List Place) (l : LinksOut) (n : Naming) : Type 0 where
  pub told : Tells classes l.verdict
  pub sound : NoFaults l.inside → Sound classes (KnowsLinks names classes l.links) n

pub no_more_fine : {names classes : List Place} (v : Verdict) → Tells classes v → FineLinks names classes (no_more v) nothing
no_more_fine v t = record { told = t; sound = λ h. record { tree = tt; fields = tt } }

pub link_verdict_told : {classes : List Place} (op : Op) (p : Place) (v : Verdict) (a : Out) → Tells classes (link_verdict op p v a)
link_verdict_told op p v a = onward_told v (λ left. part (gives a) (link_row op p left)) (λ left. part_told (gives a) (link_row op p left) (link_told op p left))

pub link_fine : {names classes : List Place} (op : Op) (p : Place) (a : Out) (more : LinksOut) (m n : Naming) → Fine names classes a m → FineLinks names classes more n → FineLinks names classes (link_out op p a more) (and m n)
link_fine op p a more m n i j = record { told = j.told; sound = λ h. let none = none_two (faults a) more.inside h in both m n (i.sound none.0) (j.sound none.1) }

pub chain_fine : {names classes : List Place} (p f : Place) (a : Out) (more : LinksOut) (m n : Naming) → Fine names classes a m → FineLinks names classes more n → Fine names classes (chain_out p f a more) (and m n)
chain_fine p f a more m n i j = made (faults a ++ more.inside) p f more.verdict (typed.Chain a.node more.links) (and m n) j.told (λ h. let none = none_two (faults a) more.inside h in both m n (i.sound none.0) (j.sound none.1))
