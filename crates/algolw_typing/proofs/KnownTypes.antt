-- The classes of what a row of the table gives are those of its parts, or of the literal types, which have none.
use Rattle.std.proofs.Common.{◌≡◌, ℕ, List, [], ◌∷◌, Option, Some, None, Bool, true, false, ◌&&◌, not}
use Rattle.value_ops.specs.declared.places.Place.{Place}
use Rattle.algolw_tree.specs.declared.phrases.Op.{Op}
use Rattle.algolw_tree.specs.declared.phrases.Op.TheVariants.{Or, And, Plus, Minus, Times, Slash, Div, Rem, Shl, Shr, Power}
use Rattle.algolw_tree.specs.declared.phrases.RelOp.{RelOp}
use Rattle.algolw_typing.specs.Types.{ValueType, Integer, Logical, Bits, Str, Reference, Gives, Statement, Simple, has, with_class, union, is_before, is_place, join, join_onto, join_behind, join_all}
use Rattle.algolw_typing.specs.Verdicts.{Verdict, Good, Fault, Silent, type_of, part, two_parts, all_parts, unless, value, all_values, ints, statement, all_statements, joined}
use Rattle.algolw_typing.specs.Rows.{item_row, if_row, branches, if_else_row, case_value_row, case_do_row, for_row, while_row, assert_row, both_logical_or_bits, operands_fit, link_row, negated_row, integer_row, relation_row, is_row}
use Rattle.algolw_typing.specs.Typing.{Left, variable_left, control_left, no_variable_left, assign_row, as_verdict, onward, then_item}
use Rattle.algolw_typing.specs.Known.{AllHad, KnowsType, KnowsResult, KnowsGives}

-- ---- sets and types

placed_had : (classes : List Place) (c d : Place) (set : List Place) (before same : Bool) → has classes c ≡ true → AllHad classes (d ∷ set) → AllHad classes (with_class c set)
    → AllHad classes (elim before [ true ↦ c ∷ d ∷ set | false ↦ elim same [ true ↦ d ∷ set | false ↦ d ∷ with_class c set ] ])
placed_had classes c d set true same h k more = (h, k)
placed_had classes c d set false true h k more = k
placed_had classes c d set false false h k more = (k.0, more)

pub with_class_had : (classes : List Place) (c : Place) (set : List Place) → has classes c ≡ true → AllHad classes set → AllHad classes (with_class c set)
with_class_had classes c [] h k = (h, tt)
with_class_had classes c (d ∷ set) h k = placed_had classes c d set (is_before c d) (is_place c d) h k (with_class_had classes c set h k.1)

union_had : (classes s t : List Place) → AllHad classes s → AllHad classes t → AllHad classes (union s t)
union_had classes [] t h k = k
union_had classes (c ∷ s) t h k = with_class_had classes c (union s t) h.0 (union_had classes s t h.1 k)

join_known : (classes : List Place) (t u : ValueType) → KnowsType classes t → KnowsType classes u → KnowsResult classes (join t u)
join_known classes Integer Integer h k = tt
join_known classes Logical Logical h k = tt
join_known classes Bits Bits h k = tt
join_known classes (Str m) (Str n) h k = tt
join_known classes (Reference s) (Reference t) h k = union_had classes s t h k
join_known classes t u h k = tt

abbrev KnowsAll : List Place → List ValueType → Type 0
KnowsAll classes [] = Unit {0}
KnowsAll classes (t ∷ ts) = KnowsType classes t × KnowsAll classes ts

join_onto_known : (classes : List Place) (t : Option ValueType) (u : ValueType) → KnowsResult classes t → KnowsType classes u → KnowsResult classes (join_onto t u)
join_onto_known classes None u h k = tt
join_onto_known classes (Some t) u h k = join_known classes t u h k

join_behind_known : (classes : List Place) (t : Option ValueType) (us : List ValueType) → KnowsResult classes t → KnowsAll classes us → KnowsResult classes (join_behind t us)
join_behind_known classes t [] h k = h
join_behind_known classes t (u ∷ us) h k = join_behind_known classes (join_onto t u) us (join_onto_known classes t u h k.0) k.1

join_all_known : (classes : List Place) (ts : List ValueType) → KnowsAll classes ts → KnowsResult classes (join_all ts)
join_all_known classes [] h = tt
join_all_known classes (t ∷ ts) h = join_behind_known classes (Some t) ts h.0 h.1

-- ---- verdicts whose type has known classes

pub data Tells (classes : List Place) : Verdict → Type 0 where
  a_type : {g : Gives} → KnowsGives classes (Some g) → Tells classes (Good g)
  a_fault : {n : ℕ} {p : Place} → Tells classes (Fault n p)
  silence : Tells classes Silent

pub gives_told : {classes : List Place} (v : Verdict) → Tells classes v → KnowsGives classes (type_of v)
gives_told _ (a_type h) = h
gives_told _ a_fault = tt
gives_told _ silence = tt

pub a_statement : {classes : List Place} → Tells classes (Good Statement)
a_statement = a_type tt

pub an_integer : {classes : List Place} → Tells classes (Good (Simple Integer))
an_integer = a_type tt

pub a_logical : {classes : List Place} → Tells classes (Good (Simple Logical))
a_logical = a_type tt

pub a_bits : {classes : List Place} → Tells classes (Good (Simple Bits))
a_bits = a_type tt

pub a_string : {classes : List Place} (n : ℕ) → Tells classes (Good (Simple (Str n)))
a_string n = a_type tt

pub unless_told : {classes : List Place} (b : Bool) (n : ℕ) (p : Place) (v : Verdict) → Tells classes v → Tells classes (unless b n p v)
unless_told true n p v h = h
unless_told false n p v h = a_fault

pub value_told : {classes : List Place} (p : Place) (g : Gives) (row : ValueType → Verdict) → ((t : ValueType) → Tells classes (row t)) → Tells classes (value p g row)
value_told p Statement row h = a_fault
value_told p (Simple t) row h = h t

pub statement_told : {classes : List Place} (p : Place) (g : Gives) (v : Verdict) → Tells classes v → Tells classes (statement p g v)
statement_told p Statement v h = h
statement_told p (Simple t) v h = a_fault

pub joined_told : {classes : List Place} (p : Place) (t : Option ValueType) → KnowsResult classes t → Tells classes (joined p t)
joined_told p None h = a_fault
joined_told p (Some t) h = a_type h

pub part_told : {classes : List Place} (g : Option Gives) (row : Gives → Verdict) → ((h : Gives) → Tells classes (row h)) → Tells classes (part g row)
part_told None row h = silence
part_told (Some g) row h = h g

pub all_parts_told : {classes : List Place} (gs : List (Option Gives)) (row : List Gives → Verdict) → ((hs : List Gives) → Tells classes (row hs)) → Tells classes (all_parts gs row)
all_parts_told [] row h = h []
all_parts_told (g ∷ gs) row h = part_told g (λ k. all_parts gs (λ ks. row (k ∷ ks))) (λ k. all_parts_told gs (λ ks. row (k ∷ ks)) (λ ks. h (k ∷ ks)))

pub onward_told : {classes : List Place} (v : Verdict) (row : Gives → Verdict) → ((g : Gives) → Tells classes (row g)) → Tells classes (onward v row)
onward_told (Good g) row h = h g
onward_told (Fault n p) row h = a_fault
onward_told Silent row h = silence

pub ruleset tellings = (a_fault, silence, a_statement, an_integer, a_logical, a_bits, a_string, unless_told, value_told, statement_told, part_told, all_parts_told, onward_told)

ints_told : {classes : List Place} (p : Place) (gs : List Gives) (v : Verdict) → Tells classes v → Tells classes (ints p gs v)
ints_told p [] v h = h
ints_told p (g ∷ gs) v h = let more = ints_told p gs v h in search tellings

all_statements_told : {classes : List Place} (p : Place) (gs : List Gives) (v : Verdict) → Tells classes v → Tells classes (all_statements p gs v)
all_statements_told p [] v h = h
all_statements_told p (g ∷ gs) v h = statement_told p g (all_statements p gs v) (all_statements_told p gs v h)

-- ---- rows that give the same whatever types their parts have

pub if_told : {classes : List Place} (p : Place) (c a : Gives) → Tells classes (if_row p c a)
if_told p c a = search tellings

pub case_do_told : {classes : List Place} (p : Place) (g : Gives) (gs : List Gives) → Tells classes (case_do_row p g gs)
case_do_told p g gs = search (tellings, all_statements_told)

pub for_told : {classes : List Place} (p : Place) (gs : List Gives) (g : Gives) → Tells classes (for_row p gs g)
for_told p gs g = search (tellings, ints_told)

pub while_told : {classes : List Place} (p : Place) (c a : Gives) → Tells classes (while_row p c a)
while_told p c a = search tellings

pub assert_told : {classes : List Place} (p : Place) (c : Gives) → Tells classes (assert_row p c)
assert_told p c = search tellings

both_logical_or_bits_told : {classes : List Place} (p : Place) (t u : ValueType) → Tells classes (both_logical_or_bits p t u)
both_logical_or_bits_told p Logical Logical = a_logical
both_logical_or_bits_told p Bits Bits = a_bits
both_logical_or_bits_told p t u = a_fault

operands_told : {classes : List Place} (op : Op) (p : Place) (t u : ValueType) → Tells classes (operands_fit op p t u)
operands_told Or p t u = both_logical_or_bits_told p t u
operands_told And p t u = both_logical_or_bits_told p t u
operands_told Plus p t u = search tellings
operands_told Minus p t u = search tellings
operands_told Times p t u = search tellings
operands_told Slash p t u = a_fault
operands_told Div p t u = search tellings
operands_told Rem p t u = search tellings
operands_told Shl p t u = search tellings
operands_told Shr p t u = search tellings
operands_told Power p t u = a_fault

pub link_told : {classes : List Place} (op : Op) (p : Place) (a b : Gives) → Tells classes (link_row op p a b)
link_told op p a b = search (tellings, operands_told)

pub integer_told : {classes : List Place} (p : Place) (g : Gives) → Tells classes (integer_row p g)
integer_told p g = search tellings

pub relation_told : {classes : List Place} (op : RelOp) (p : Place) (a b : Gives) → Tells classes (relation_row op p a b)
relation_told op p a b = search tellings

pub is_told : {classes : List Place} (p : Place) (g : Gives) → Tells classes (is_row p g)
is_told p g = search tellings

pub assign_told : {classes : List Place} (p : Place) (left : Left) (l r : Gives) → Tells classes (assign_row p left l r)
assign_told p control_left l r = a_fault
assign_told p no_variable_left l r = a_fault
assign_told p variable_left l r = search tellings

-- ---- rows that give a type of their parts

-- a type that is known, of a part or of all parts
part_of : {classes : List Place} (g : Option Gives) (row : Gives → Verdict) → KnowsGives classes g → ((h : Gives) → KnowsGives classes (Some h) → Tells classes (row h)) → Tells classes (part g row)
part_of None row k h = silence
part_of (Some g) row k h = h g k

value_of : {classes : List Place} (p : Place) (g : Gives) (row : ValueType → Verdict) → KnowsGives classes (Some g) → ((t : ValueType) → KnowsType classes t → Tells classes (row t)) → Tells classes (value p g row)
value_of p Statement row k h = a_fault
value_of p (Simple t) row k h = h t k

pub data AllGive (classes : List Place) : List (Option Gives) → Type 0 where
  none_gives : AllGive classes []
  gives_and : {g : Option Gives} {gs : List (Option Gives)} → KnowsGives classes g → AllGive classes gs → AllGive classes (g ∷ gs)

abbrev KnowsEach : List Place → List Gives → Type 0
KnowsEach classes [] = Unit {0}
KnowsEach classes (g ∷ gs) = KnowsGives classes (Some g) × KnowsEach classes gs

all_parts_of : {classes : List Place} (gs : List (Option Gives)) (row : List Gives → Verdict) → AllGive classes gs → ((hs : List Gives) → KnowsEach classes hs → Tells classes (row hs)) → Tells classes (all_parts gs row)
all_parts_of _ row none_gives h = h [] tt
all_parts_of _ row (gives_and {g = g} {gs = gs} k ks) h = part_of g (λ a. all_parts gs (λ as_. row (a ∷ as_))) k (λ a one. all_parts_of gs (λ as_. row (a ∷ as_)) ks (λ as_ more. h (a ∷ as_) (one, more)))

all_values_of : {classes : List Place} (p : Place) (gs : List Gives) (row : List ValueType → Verdict) → KnowsEach classes gs → ((ts : List ValueType) → KnowsAll classes ts → Tells classes (row ts)) → Tells classes (all_values p gs row)
all_values_of p [] row k h = h [] tt
all_values_of p (Statement ∷ gs) row k h = a_fault
all_values_of p (Simple t ∷ gs) row k h = all_values_of p gs (λ ts. row (t ∷ ts)) k.1 (λ ts more. h (t ∷ ts) (k.0, more))

pub negated_told : {classes : List Place} (p : Place) (g : Option Gives) → KnowsGives classes g → Tells classes (part g (negated_row p))
negated_told p g k = part_of g (negated_row p) k (λ h l. value_of p h _ l (λ t m. unless_told _ 34 p (Good (Simple t)) (a_type m)))

branches_told : {classes : List Place} (p : Place) (a b : Gives) → KnowsGives classes (Some a) → KnowsGives classes (Some b) → Tells classes (branches p a b)
branches_told p Statement Statement h k = a_statement
branches_told p Statement (Simple u) h k = a_fault
branches_told p (Simple t) Statement h k = a_fault
branches_told {classes = classes} p (Simple t) (Simple u) h k = joined_told p (join t u) (join_known classes t u h k)

pub if_else_told : {classes : List Place} (p : Place) (c a b : Option Gives) → KnowsGives classes a → KnowsGives classes b → Tells classes (part c (λ g. two_parts a b (if_else_row p g)))
if_else_told p c a b h k = part_told c _ (λ g. part_of a _ h (λ i l. part_of b _ k (λ j m. let both = branches_told p i j l m in search tellings)))

pub case_value_told : {classes : List Place} (p : Place) (c : Option Gives) (gs : List (Option Gives)) → AllGive classes gs → Tells classes (part c (λ g. all_parts gs (case_value_row p g)))
case_value_told {classes = classes} p c gs h =
    part_told c _ (λ g. all_parts_of gs _ h (λ as_ k. let all = all_values_of p as_ _ k (λ ts l. joined_told p (join_all ts) (join_all_known classes ts l)) in search tellings))

item_cases : {classes : List Place} (b : Bool) (p : Place) (g : Gives) → KnowsGives classes (Some g) → Tells classes (elim b [ true ↦ Good g | false ↦ statement p g (Good g) ])
item_cases true p g h = a_type h
item_cases false p g h = statement_told p g (Good g) (a_type h)

pub item_told : {classes : List Place} (is_last is_labelled : Bool) (p : Place) (g : Option Gives) → KnowsGives classes g → Tells classes (part g (item_row is_last is_labelled p))
item_told is_last is_labelled p g k = part_of g (item_row is_last is_labelled p) k (λ h l. item_cases (is_last && not is_labelled) p h l)

pub then_told : {classes : List Place} (v w : Verdict) → Tells classes w → Tells classes (then_item v w)
then_told (Good g) (Good h) k = k
then_told (Good g) (Fault n p) k = silence
then_told (Good g) Silent k = silence
then_told (Fault n p) w k = silence
then_told Silent w k = silence

pub as_verdict_told : {classes : List Place} (g : Option Gives) → KnowsGives classes g → Tells classes (as_verdict g)
as_verdict_told None h = silence
as_verdict_told (Some g) h = a_type h
