-- A row of the table gives a type or a fault where its parts have types.
use Rattle.std.proofs.Common.{ℕ, List, [], ◌∷◌, Option, Some, None, Bool, true, false, ◌&&◌, not}
use Rattle.value_ops.specs.declared.places.Place.{Place}
use Rattle.algolw_tree.specs.declared.phrases.Op.{Op}
use Rattle.algolw_tree.specs.declared.phrases.Op.TheVariants.{Or, And, Plus, Minus, Times, Slash, Div, Rem, Shl, Shr, Power}
use Rattle.algolw_tree.specs.declared.phrases.RelOp.{RelOp}
use Rattle.algolw_typing.specs.Types.{ValueType, Gives, Statement, Simple, Logical, Bits}
use Rattle.algolw_typing.specs.Verdicts.{Verdict, Good, Fault, part, all_parts, unless, value, all_values, ints, statement, all_statements, joined}
use Rattle.algolw_typing.specs.Rows.{item_row, if_row, branches, if_else_row, case_value_row, case_do_row, for_row, while_row, assert_row, both_logical_or_bits, operands_fit, link_row, negated_row, integer_row, relation_row, is_row}

-- a verdict that is a type or a fault; what has a type; what all have
pub data Decided : Verdict → Type 0 where
  good_is : {g : Gives} → Decided (Good g)
  fault_is : {n : ℕ} {p : Place} → Decided (Fault n p)

pub data IsTyped : Option Gives → Type 0 where
  has_type : {g : Gives} → IsTyped (Some g)

pub data AllTyped : List (Option Gives) → Type 0 where
  all_of_none : AllTyped []
  typed_and : {g : Option Gives} {gs : List (Option Gives)} → IsTyped g → AllTyped gs → AllTyped (g ∷ gs)

-- what conditions make of a verdict that is decided

pub unless_decided : (b : Bool) (n : ℕ) (p : Place) (v : Verdict) → Decided v → Decided (unless b n p v)
unless_decided true n p v d = d
unless_decided false n p v d = fault_is

pub value_decided : (p : Place) (g : Gives) (row : ValueType → Verdict) → ((t : ValueType) → Decided (row t)) → Decided (value p g row)
value_decided p Statement row d = fault_is
value_decided p (Simple t) row d = d t

pub statement_decided : (p : Place) (g : Gives) (v : Verdict) → Decided v → Decided (statement p g v)
statement_decided p Statement v d = d
statement_decided p (Simple t) v d = fault_is

pub joined_decided : (p : Place) (t : Option ValueType) → Decided (joined p t)
joined_decided p None = fault_is
joined_decided p (Some t) = good_is

pub part_decided : (g : Option Gives) (row : Gives → Verdict) → IsTyped g → ((h : Gives) → Decided (row h)) → Decided (part g row)
part_decided _ row (has_type {g = g}) d = d g

pub all_parts_decided : (gs : List (Option Gives)) (row : List Gives → Verdict) → AllTyped gs → ((hs : List Gives) → Decided (row hs)) → Decided (all_parts gs row)
all_parts_decided [] row t d = d []
all_parts_decided (g ∷ gs) row (typed_and t ts) d = part_decided g (λ h. all_parts gs (λ hs. row (h ∷ hs))) t (λ h. all_parts_decided gs (λ hs. row (h ∷ hs)) ts (λ hs. d (h ∷ hs)))

pub ruleset decisions = (good_is, fault_is, unless_decided, value_decided, statement_decided, joined_decided)

all_values_decided : (p : Place) (gs : List Gives) (row : List ValueType → Verdict) → ((ts : List ValueType) → Decided (row ts)) → Decided (all_values p gs row)
all_values_decided p [] row d = d []
all_values_decided p (Statement ∷ gs) row d = fault_is
all_values_decided p (Simple t ∷ gs) row d = all_values_decided p gs (λ ts. row (t ∷ ts)) (λ ts. d (t ∷ ts))

ints_decided : (p : Place) (gs : List Gives) (v : Verdict) → Decided v → Decided (ints p gs v)
ints_decided p [] v d = d
ints_decided p (g ∷ gs) v d = let more = ints_decided p gs v d in search decisions

all_statements_decided : (p : Place) (gs : List Gives) (v : Verdict) → Decided v → Decided (all_statements p gs v)
all_statements_decided p [] v d = d
all_statements_decided p (g ∷ gs) v d = statement_decided p g (all_statements p gs v) (all_statements_decided p gs v d)

-- each row

pub if_decided : (p : Place) (c a : Gives) → Decided (if_row p c a)
if_decided p c a = search decisions

branches_decided : (p : Place) (a b : Gives) → Decided (branches p a b)
branches_decided p Statement Statement = good_is
branches_decided p Statement (Simple u) = fault_is
branches_decided p (Simple t) Statement = fault_is
branches_decided p (Simple t) (Simple u) = search decisions

pub if_else_decided : (p : Place) (c a b : Gives) → Decided (if_else_row p c a b)
if_else_decided p c a b = search (decisions, branches_decided)

pub case_value_decided : (p : Place) (g : Gives) (gs : List Gives) → Decided (case_value_row p g gs)
case_value_decided p g gs = search (decisions, all_values_decided)

pub case_do_decided : (p : Place) (g : Gives) (gs : List Gives) → Decided (case_do_row p g gs)
case_do_decided p g gs = search (decisions, all_statements_decided)

pub for_decided : (p : Place) (gs : List Gives) (g : Gives) → Decided (for_row p gs g)
for_decided p gs g = search (decisions, ints_decided)

pub while_decided : (p : Place) (c a : Gives) → Decided (while_row p c a)
while_decided p c a = search decisions

pub assert_decided : (p : Place) (c : Gives) → Decided (assert_row p c)
assert_decided p c = search decisions

both_logical_or_bits_decided : (p : Place) (t u : ValueType) → Decided (both_logical_or_bits p t u)
both_logical_or_bits_decided p Logical Logical = good_is
both_logical_or_bits_decided p Bits Bits = good_is
both_logical_or_bits_decided p t u = fault_is

operands_decided : (op : Op) (p : Place) (t u : ValueType) → Decided (operands_fit op p t u)
operands_decided Or p t u = both_logical_or_bits_decided p t u
operands_decided And p t u = both_logical_or_bits_decided p t u
operands_decided Plus p t u = search decisions
operands_decided Minus p t u = search decisions
operands_decided Times p t u = search decisions
operands_decided Slash p t u = fault_is
operands_decided Div p t u = search decisions
operands_decided Rem p t u = search decisions
operands_decided Shl p t u = search decisions
operands_decided Shr p t u = search decisions
operands_decided Power p t u = fault_is

pub link_decided : (op : Op) (p : Place) (a b : Gives) → Decided (link_row op p a b)
link_decided op p a b = search (decisions, operands_decided)

pub negated_decided : (p : Place) (g : Gives) → Decided (negated_row p g)
negated_decided p g = search decisions

pub integer_decided : (p : Place) (g : Gives) → Decided (integer_row p g)
integer_decided p g = search decisions

pub relation_decided : (op : RelOp) (p : Place) (a b : Gives) → Decided (relation_row op p a b)
relation_decided op p a b = search decisions

pub is_decided : (p : Place) (g : Gives) → Decided (is_row p g)
is_decided p g = search decisions

item_cases : (b : Bool) (p : Place) (g : Gives) → Decided (elim b [ true ↦ Good g | false ↦ statement p g (Good g) ])
item_cases true p g = good_is
item_cases false p g = search decisions

pub item_decided : (is_last is_labelled : Bool) (p : Place) (g : Gives) → Decided (item_row is_last is_labelled p g)
item_decided is_last is_labelled p g = item_cases (is_last && not is_labelled) p g
