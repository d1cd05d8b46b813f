-- Each phrase is sound where its parts are: where nothing in it is faulty, it has a type or a fault of its own, and what stands in it is whole.
use Rattle.std.proofs.Common.{◌≡◌, refl, ℕ, ℤ, List, [], ◌∷◌, Option, Some, None, Bool}
use Rattle.value_ops.specs.declared.places.Place.{Place}
use Rattle.value_ops.specs.declared.places.Diagnostic.{Diagnostic}
use Rattle.algolw_tree.specs.declared.phrases.Op.{Op}
use Rattle.algolw_tree.specs.declared.phrases.RelOp.{RelOp}
use Rattle.algolw_tree.specs.Tree.{Placed}
use Rattle.algolw_tree.specs.Tree as tree
use Rattle.algolw_typing.specs.Names.{Entry}
use Rattle.algolw_typing.specs.Types.{ValueType, Gives}
use Rattle.algolw_typing.specs.Verdicts.{Verdict, Good, Fault, type_of, fault_of, part, two_parts, all_parts}
use Rattle.algolw_typing.specs.Rows.{bound_row, item_row, if_row, if_else_row, case_value_row, case_do_row, for_row, while_row, assert_row, link_row, negated_row, integer_row, relation_row, is_row}
use Rattle.algolw_typing.specs.Meanings.{Meaning, a_label, alone_row, base_row, part_row, Part, all_read}
use Rattle.algolw_typing.specs.Actuals.{Reading, list_row}
use Rattle.algolw_typing.specs.Scopes.{Known, written, class_fault}
use Rattle.algolw_typing.specs.Typed as typed
use Rattle.algolw_typing.specs.Typing.{Out, faults, gives, leaf, empty_out, as_verdict, onward, negated_out, absolute_out, signed_out, relation_out, meaning_of, class_stated, is_out, goto_row, goto_out, Left, variable_left, control_left, no_variable_left, right_end, assign_row, uncounted, assign_out, if_out, if_else_out, PhrasesOut, no_outs, out_and, case_value_out, case_do_out, for_verdict, for_until_out, for_step_out, for_list_out, while_out, assert_out, LinksOut, no_more, link_verdict, link_out, chain_out, ListsOut, use_of, use_alone, use_as_base, use_with_list, part_verdict, list_verdict, named_out, reading_of, ItemsOut, no_more_items, item_verdict, is_last, has_labels, first_token, then_item, item_out, BoundsOut, bound_out, DeclsOut, block_out}
use Rattle.algolw_typing.specs.Whole.{HasType, IsWhole, KindIsWhole, AreWhole, LinksAreWhole, ListsAreWhole, ItemsAreWhole, BoundsAreWhole, DeclsAreWhole}
use Rattle.algolw_typing.proofs.Decided.{Decided, good_is, fault_is, IsTyped, has_type, AllTyped, all_of_none, typed_and, part_decided, all_parts_decided, decisions, if_decided, if_else_decided, case_value_decided, case_do_decided, for_decided, while_decided, assert_decided, link_decided, negated_decided, integer_decided, relation_decided, is_decided, item_decided}
use Rattle.algolw_typing.proofs.DecidedNames.{AreRead, all_read_decided, alone_decided, base_decided, part_row_decided, Agrees, ReadBy, list_decided}
use Rattle.algolw_typing.proofs.GoodScopes.{NoFaults, none_first, none_second, none_two, none_three, none_four, GoodMeans, GoodFound}

-- ---- what is shown of a phrase

pub data IsGood : Verdict → Type 0 where
  a_type : {g : Gives} → IsGood (Good g)

pub record Sound (o : Out) : Type 0 where
  pub decided : Decided o.verdict
  pub stated : typed.gives o.node ≡ type_of o.verdict
  pub whole : KindIsWhole (typed.kind o.node)

abbrev pub Fine : Out → Type 0
Fine o = NoFaults o.inside → Sound o

-- what follows where it has no fault of its own either
pub record Settled (o : Out) : Type 0 where
  pub has : IsTyped (gives o)
  pub whole : IsWhole o.node

pub good_of : (v : Verdict) → Decided v → NoFaults (fault_of v) → IsGood v
good_of _ (good_is {g = g}) h = a_type
good_of _ (fault_is {n = n} {p = p}) h = absurd h

pub gives_type : (v : Verdict) → IsGood v → IsTyped (type_of v)
gives_type _ (a_type {g = g}) = has_type

whole_node : (n : typed.Node) (v : Verdict) → typed.gives n ≡ type_of v → KindIsWhole (typed.kind n) → IsGood v → IsWhole n
whole_node (typed.At p f g s k) _ e w (a_type {g = h}) = ((h, e), w)

settle : (o : Out) → Sound o → IsGood o.verdict → Settled o
settle o s g = record { has = gives_type o.verdict g; whole = whole_node o.node o.verdict s.stated s.whole g }

pub settled : (o : Out) → Fine o → NoFaults (faults o) → Settled o
settled o fine h =
    let s = fine (none_first o.inside (fault_of o.verdict) h) in
    settle o s (good_of o.verdict s.decided (none_second o.inside (fault_of o.verdict) h))

has_of : (g : Option Gives) → HasType g → IsTyped g
has_of (Some g) h = has_type
has_of None (t, e) = cc

pub whole_has : (n : typed.Node) → IsWhole n → IsTyped (typed.gives n)
whole_has (typed.At p f g s k) w = has_of g w.0

two_decided : (a b : Option Gives) (row : Gives → Gives → Verdict) → IsTyped a → IsTyped b → ((g h : Gives) → Decided (row g h)) → Decided (two_parts a b row)
two_decided a b row h k d = part_decided a (λ g. part b (λ i. row g i)) h (λ g. part_decided b (row g) k (d g))

-- ---- phrases without parts, and with one or two

pub leaf_fine : (p f : Place) (t : ValueType) (k : typed.Kind) → KindIsWhole k → Fine (leaf p f t k)
leaf_fine p f t k w h = record { decided = good_is; stated = refl; whole = w }

pub empty_fine : (p f : Place) → Fine (empty_out p f)
empty_fine p f h = record { decided = good_is; stated = refl; whole = tt }

pub negated_fine : (p f : Place) (a : Out) → Fine a → Fine (negated_out p f a)
negated_fine p f a i h = let s = settled a i h in record { decided = part_decided (gives a) (negated_row p) s.has (negated_decided p); stated = refl; whole = s.whole }

pub absolute_fine : (p f : Place) (a : Out) → Fine a → Fine (absolute_out p f a)
absolute_fine p f a i h = let s = settled a i h in record { decided = part_decided (gives a) (integer_row p) s.has (integer_decided p); stated = refl; whole = s.whole }

pub signed_fine : (p f : Place) (minus : Bool) (a : Out) → Fine a → Fine (signed_out p f minus a)
signed_fine p f minus a i h = let s = settled a i h in record { decided = part_decided (gives a) (integer_row p) s.has (integer_decided p); stated = refl; whole = s.whole }

pub relation_fine : (p f : Place) (op : RelOp) (a b : Out) → Fine a → Fine b → Fine (relation_out p f op a b)
relation_fine p f op a b i j h =
    let none = none_two (faults a) (faults b) h in
    let s = settled a i none.0 in
    let t = settled b j none.1 in
    record { decided = two_decided (gives a) (gives b) (relation_row op p) s.has t.has (relation_decided op p); stated = refl; whole = (s.whole, t.whole) }

-- ---- IS and GOTO

stated_case : (fs : List Diagnostic) (m : Option Meaning) (reading : Reading) (v : Verdict) → NoFaults fs → GoodMeans m reading → Decided v → Decided (class_stated fs m v)
stated_case [] (Some m) reading v h k d = d
stated_case [] None reading v h k d = absurd k
stated_case (f ∷ fs) m reading v h k d = absurd h

is_stated : (x : Placed) (e : Option (Entry Known)) (v : Verdict) → GoodFound e → NoFaults (class_fault x e) → Decided v → Decided (class_stated (class_fault x e) (meaning_of e) v)
is_stated x None v k h d = absurd h
is_stated x (Some e) v k h d = stated_case (class_fault x (Some e)) e.is.means e.is.reading v h k d

pub is_fine : (p f : Place) (x : Placed) (e : Option (Entry Known)) (a : Out) → GoodFound e → Fine a → Fine (is_out p f x e a)
is_fine p f x e a g i h =
    let none = none_two (faults a) (class_fault x e) h in
    let s = settled a i none.0 in
    record { decided = is_stated x e (part (gives a) (is_row p)) g none.1 (part_decided (gives a) (is_row p) s.has (is_decided p)); stated = refl; whole = s.whole }

goto_case : (p : Place) (name : List ℕ) (place : Place) (c : Bool) (reading : Reading) (m : Option Meaning) → GoodMeans m reading
    → Decided (goto_row p (Some (record { name = name; place = place; is = record { is_class = c; reading = reading; means = m } })))
goto_case p name place c reading None k = absurd k
goto_case p name place c reading (Some a_label) k = good_is
goto_case p name place c reading (Some m) k = fault_is

goto_decided : (p : Place) (e : Option (Entry Known)) → GoodFound e → Decided (goto_row p e)
goto_decided p None k = fault_is
goto_decided p (Some e) k = goto_case p e.name e.place e.is.is_class e.is.reading e.is.means k

pub goto_fine : (p f : Place) (e : Option (Entry Known)) → GoodFound e → Fine (goto_out p f e)
goto_fine p f e k h = record { decided = goto_decided p e k; stated = refl; whole = tt }

-- ---- assignments

pub right_whole : (n : typed.Node) → IsWhole n → IsTyped (right_end n)
right_whole (typed.At p f g s (typed.Assign a b)) w = right_whole b w.1.1
right_whole (typed.At p f g s k) w = has_of g w.0

pub uncounted_whole : (n : typed.Node) → IsWhole n → IsWhole (uncounted n)
uncounted_whole (typed.At p f g s (typed.Assign a b)) w = w
uncounted_whole (typed.At p f g s k) w = w

assign_decided : (p : Place) (left : Left) (l r : Gives) → Decided (assign_row p left l r)
assign_decided p control_left l r = fault_is
assign_decided p no_variable_left l r = fault_is
assign_decided p variable_left l r = search decisions

pub assign_fine : (p f : Place) (left : Left) (a b : Out) → Fine a → Fine b → Fine (assign_out p f left a b)
assign_fine p f left a b i j h =
    let none = none_two (faults a) (faults b) h in
    let s = settled a i none.0 in
    let t = settled b j none.1 in
    record {
      decided = two_decided (gives a) (gives b) (λ l r. part (right_end b.node) (assign_row p left l)) s.has t.has (λ l r. part_decided (right_end b.node) (assign_row p left l) (right_whole b.node t.whole) (assign_decided p left l));
      stated = refl;
      whole = (s.whole, uncounted_whole b.node t.whole);
    }

-- ---- IF, CASE, FOR, WHILE, ASSERT

pub if_fine : (p f : Place) (c a : Out) → Fine c → Fine a → Fine (if_out p f c a)
if_fine p f c a i j h =
    let none = none_two (faults c) (faults a) h in
    let s = settled c i none.0 in
    let t = settled a j none.1 in
    record { decided = two_decided (gives c) (gives a) (if_row p) s.has t.has (if_decided p); stated = refl; whole = (s.whole, t.whole, tt) }

pub if_else_fine : (p f : Place) (c a b : Out) → Fine c → Fine a → Fine b → Fine (if_else_out p f c a b)
if_else_fine p f c a b i j k h =
    let none = none_three (faults c) (faults a) (faults b) h in
    let s = settled c i none.0 in
    let t = settled a j none.1 in
    let u = settled b k none.2 in
    record {
      decided = part_decided (gives c) (λ g. two_parts (gives a) (gives b) (if_else_row p g)) s.has (λ g. two_decided (gives a) (gives b) (if_else_row p g) t.has u.has (if_else_decided p g));
      stated = refl;
      whole = (s.whole, t.whole, u.whole);
    }

pub record SoundOuts (os : PhrasesOut) : Type 0 where
  pub have : AllTyped os.gives
  pub whole : AreWhole os.nodes

abbrev pub FineOuts : PhrasesOut → Type 0
FineOuts os = NoFaults os.inside → SoundOuts os

pub no_outs_fine : FineOuts no_outs
no_outs_fine h = record { have = all_of_none; whole = tt }

pub out_and_fine : (o : Out) (os : PhrasesOut) → Fine o → FineOuts os → FineOuts (out_and o os)
out_and_fine o os i j h =
    let none = none_two (faults o) os.inside h in
    let s = settled o i none.0 in
    let t = j none.1 in
    record { have = typed_and s.has t.have; whole = (s.whole, t.whole) }

pub case_value_fine : (p f : Place) (c : Out) (os : PhrasesOut) → Fine c → FineOuts os → Fine (case_value_out p f c os)
case_value_fine p f c os i j h =
    let none = none_two (faults c) os.inside h in
    let s = settled c i none.0 in
    let t = j none.1 in
    record {
      decided = part_decided (gives c) (λ g. all_parts os.gives (case_value_row p g)) s.has (λ g. all_parts_decided os.gives (case_value_row p g) t.have (case_value_decided p g));
      stated = refl;
      whole = (s.whole, t.whole);
    }

pub case_do_fine : (p f : Place) (c : Out) (os : PhrasesOut) → Fine c → FineOuts os → Fine (case_do_out p f c os)
case_do_fine p f c os i j h =
    let none = none_two (faults c) os.inside h in
    let s = settled c i none.0 in
    let t = j none.1 in
    record {
      decided = part_decided (gives c) (λ g. all_parts os.gives (case_do_row p g)) s.has (λ g. all_parts_decided os.gives (case_do_row p g) t.have (case_do_decided p g));
      stated = refl;
      whole = (s.whole, t.whole);
    }

for_verdict_decided : (p : Place) (gs : List (Option Gives)) (body : Out) → AllTyped gs → IsTyped (gives body) → Decided (for_verdict p gs body)
for_verdict_decided p gs body h k = all_parts_decided gs (λ hs. part (gives body) (for_row p hs)) h (λ hs. part_decided (gives body) (for_row p hs) k (for_decided p hs))

pub for_until_fine : (p f : Place) (a b body : Out) → Fine a → Fine b → Fine body → Fine (for_until_out p f a b body)
for_until_fine p f a b body i j k h =
    let none = none_three (faults a) (faults b) (faults body) h in
    let s = settled a i none.0 in
    let t = settled b j none.1 in
    let u = settled body k none.2 in
    record { decided = for_verdict_decided p (gives a ∷ gives b ∷ []) body (typed_and s.has (typed_and t.has all_of_none)) u.has; stated = refl; whole = (s.whole, tt, t.whole, u.whole) }

pub for_step_fine : (p f : Place) (a step b body : Out) → Fine a → Fine step → Fine b → Fine body → Fine (for_step_out p f a step b body)
for_step_fine p f a step b body i l j k h =
    let none = none_four (faults a) (faults step) (faults b) (faults body) h in
    let s = settled a i none.0 in
    let r = settled step l none.1 in
    let t = settled b j none.2 in
    let u = settled body k none.3 in
    record { decided = for_verdict_decided p (gives a ∷ gives step ∷ gives b ∷ []) body (typed_and s.has (typed_and r.has (typed_and t.has all_of_none))) u.has; stated = refl; whole = (s.whole, r.whole, t.whole, u.whole) }

pub for_list_fine : (p f : Place) (os : PhrasesOut) (body : Out) → FineOuts os → Fine body → Fine (for_list_out p f os body)
for_list_fine p f os body i j h =
    let none = none_two os.inside (faults body) h in
    let s = i none.0 in
    let t = settled body j none.1 in
    record { decided = for_verdict_decided p os.gives body s.have t.has; stated = refl; whole = (s.whole, t.whole) }

pub while_fine : (p f : Place) (c a : Out) → Fine c → Fine a → Fine (while_out p f c a)
while_fine p f c a i j h =
    let none = none_two (faults c) (faults a) h in
    let s = settled c i none.0 in
    let t = settled a j none.1 in
    record { decided = two_decided (gives c) (gives a) (while_row p) s.has t.has (while_decided p); stated = refl; whole = (s.whole, t.whole) }

pub assert_fine : (p f : Place) (c : Out) → Fine c → Fine (assert_out p f c)
assert_fine p f c i h = let s = settled c i h in record { decided = part_decided (gives c) (assert_row p) s.has (assert_decided p); stated = refl; whole = s.whole }

-- ---- chains

pub onward_decided : (v : Verdict) (row : Gives → Verdict) → Decided v → ((g : Gives) → Decided (row g)) → Decided (onward v row)
onward_decided _ row (good_is {g = g}) d = d g
onward_decided _ row (fault_is {n = n} {p = p}) d = fault_is

as_verdict_decided : (g : Option Gives) → IsTyped g → Decided (as_verdict g)
as_verdict_decided _ (has_type {g = g}) = good_is

pub record SoundLinks (l : LinksOut) : Type 0 where
  pub decided : Decided l.verdict
  pub whole : LinksAreWhole l.links

abbrev pub FineLinks : LinksOut → Type 0
FineLinks l = NoFaults l.inside → SoundLinks l

pub no_more_fine : (v : Verdict) → Decided v → FineLinks (no_more v)
no_more_fine v d h = record { decided = d; whole = tt }

pub link_fine : (op : Op) (p : Place) (v : Verdict) (a : Out) (more : LinksOut) → Decided v → Fine a → (Decided (link_verdict op p v a) → FineLinks more) → FineLinks (link_out op p a more)
link_fine op p v a more d i j h =
    let none = none_two (faults a) more.inside h in
    let s = settled a i none.0 in
    let t = j (onward_decided v (λ left. part (gives a) (link_row op p left)) d (λ left. part_decided (gives a) (link_row op p left) s.has (link_decided op p left))) none.1 in
    record { decided = t.decided; whole = (s.whole, t.whole) }

pub chain_fine : (p f : Place) (a : Out) (more : LinksOut) → Fine a → (Decided (as_verdict (gives a)) → FineLinks more) → Fine (chain_out p f a more)
chain_fine p f a more i j h =
    let none = none_two (faults a) more.inside h in
    let s = settled a i none.0 in
    let t = j (as_verdict_decided (gives a) s.has) none.1 in
    record { decided = t.decided; stated = refl; whole = (s.whole, t.whole) }

-- ---- names and substrings

use_case : (p : Place) (name : List ℕ) (place : Place) (c : Bool) (reading : Reading) (m : Option Meaning) (row : Meaning → Place → Verdict) → GoodMeans m reading → ((n : Meaning) (d : Place) → Agrees n reading → Decided (row n d))
    → Decided (use_of p (Some (record { name = name; place = place; is = record { is_class = c; reading = reading; means = m } })) row)
use_case p name place c reading None row k d = absurd k
use_case p name place c reading (Some m) row k d = d m place k

use_decided : (p : Place) (e : Option (Entry Known)) (row : Meaning → Place → Verdict) → GoodFound e → ((m : Meaning) (d : Place) → Agrees m (reading_of e) → Decided (row m d)) → Decided (use_of p e row)
use_decided p None row k d = fault_is
use_decided p (Some e) row k d = use_case p e.name e.place e.is.is_class e.is.reading e.is.means row k d

pub use_alone_decided : (p : Place) (e : Option (Entry Known)) → GoodFound e → Decided (use_alone p e)
use_alone_decided p e k = use_decided p e (alone_row p) k (λ m d a. alone_decided p m d)

pub use_as_base_decided : (p : Place) (e : Option (Entry Known)) (start : Out) → GoodFound e → IsTyped (gives start) → Decided (use_as_base p e start)
use_as_base_decided p e start k t = use_decided p e (λ m d. base_row p m (gives start)) k (λ m d a. base_decided p m (gives start) t)

pub use_with_list_decided : (p : Place) (e : Option (Entry Known)) (parts : List Part) → GoodFound e → ReadBy (reading_of e) parts → Decided (use_with_list p e parts)
use_with_list_decided p e parts k r = use_decided p e (λ m d. all_read parts (list_row p m d parts)) k (λ m d a. all_read_decided parts (list_row p m d parts) r.are_read (list_decided p m d (reading_of e) parts a r))

pub part_verdict_decided : (q : Place) (n : ℤ) (v : Verdict) (start : Out) → Decided v → IsTyped (gives start) → Decided (part_verdict q n v start)
part_verdict_decided q n v start d t = onward_decided v (λ base. part (gives start) (part_row q (written n) base)) d (λ base. part_decided (gives start) (part_row q (written n) base) t (part_row_decided q (written n) base))

pub list_verdict_decided : (q : Place) (v : Verdict) (parts : List Part) → Decided v → AreRead parts → Decided (list_verdict q v parts)
list_verdict_decided q v parts d r = onward_decided v (λ base. all_read parts (Fault 41 q)) d (λ base. all_read_decided parts (Fault 41 q) r fault_is)

pub record SoundLists (l : ListsOut) : Type 0 where
  pub decided : Decided l.verdict
  pub whole : ListsAreWhole l.lists

abbrev pub FineLists : ListsOut → Type 0
FineLists l = NoFaults l.inside → SoundLists l

pub named_fine : (p f : Place) (e : Option (Entry Known)) (l : ListsOut) → FineLists l → Fine (named_out p f e l)
named_fine p f e l i h = let s = i h in record { decided = s.decided; stated = refl; whole = s.whole }

-- ---- blocks

pub record SoundItems (i : ItemsOut) : Type 0 where
  pub good : IsGood i.verdict
  pub whole : ItemsAreWhole i.items

abbrev pub FineItems : ItemsOut → Type 0
FineItems i = NoFaults i.inside → SoundItems i

pub no_more_items_fine : (v : Verdict) → IsGood v → FineItems (no_more_items v)
no_more_items_fine v g h = record { good = g; whole = tt }

then_good : (v w : Verdict) → IsGood v → IsGood w → IsGood (then_item v w)
then_good _ _ (a_type {g = g}) (a_type {g = h}) = a_type

pub item_fine : (items : tree.Items) (labels : List Placed) (a : tree.Phrase) (o : Out) (v : Verdict) (more : ItemsOut) → IsGood v → Fine o → (IsGood (then_item v (item_verdict items labels a o)) → FineItems more) → FineItems (item_out labels o (item_verdict items labels a o) more)
item_fine items labels a o v more g i j h =
    let w = item_verdict items labels a o in
    let none = none_three (faults o) (fault_of w) more.inside h in
    let s = settled o i none.0 in
    let row = item_row (is_last items) (has_labels labels) (first_token a) in
    let one = good_of w (part_decided (gives o) row s.has (item_decided (is_last items) (has_labels labels) (first_token a))) none.1 in
    let t = j (then_good v w g one) none.2 in
    record { good = t.good; whole = (s.whole, t.whole) }

abbrev pub FineBounds : BoundsOut → Type 0
FineBounds b = NoFaults b.inside → BoundsAreWhole b.bounds

pub bound_fine : (p : Place) (a b : Out) (more : BoundsOut) → Fine a → Fine b → FineBounds more → FineBounds (bound_out p a b more)
bound_fine p a b more i j k h =
    let none = none_four (faults a) (faults b) (fault_of (two_parts (gives a) (gives b) (bound_row p))) more.inside h in
    let s = settled a i none.0 in
    let t = settled b j none.1 in
    (s.whole, t.whole, k none.3)

abbrev pub FineDecls : DeclsOut → Type 0
FineDecls d = NoFaults d.inside → DeclsAreWhole d.decls

good_decided : (v : Verdict) → IsGood v → Decided v
good_decided _ (a_type {g = g}) = good_is

pub block_fine : (p f : Place) (twices : List Diagnostic) (decls : DeclsOut) (items : ItemsOut) → FineDecls decls → (NoFaults decls.inside → FineItems items) → Fine (block_out p f twices decls items)
block_fine p f twices decls items i j h =
    let none = none_three twices decls.inside items.inside h in
    let s = j none.1 none.2 in
    record { decided = good_decided items.verdict s.good; stated = refl; whole = (i none.1, s.whole) }
