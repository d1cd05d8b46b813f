-- What a class, a set and a table hold to.
use Rattle.std.specs.BTreeMap as tree
use Rattle.std.specs.BTreeMap.{BTreeMap}
use Rattle.std.specs.Cmp.Lexicographic.{slice_cmp}
use Rattle.std.specs.HashMap as table
use Rattle.std.specs.HashMap.{HashMap}
use Rattle.std.specs.List.Sorted.{IsStrictlySortedBy}
use Rattle.std.specs.Ordering.{nat_cmp}
use Rattle.std.specs.Prelude.{ℕ, ◌≡◌, ◌<◌, ◌≤◌, true, cond, nat_lt, List, length, Option, Some, None}
use Rattle.std.specs.Str.{bytes_eq}
use Rattle.std.specs.declared.vec.Vec.{Vec}
use Rattle.std.specs.declared.alloc.Global.{Global}
use Rattle.std.specs.declared.boxed.Box.{Box}
use Rattle.std.specs.declared.cmp.Ordering.{Ordering}
use Rattle.value_ops.specs.declared.values.ClassId.{ClassId}
use Rattle.value_ops.specs.declared.values.SetId.{SetId}
use Rattle.record_classes.specs.Classes.{Field, is_same_set, number_of, position_of}

-- the positions of a class: where among the fields each name stands first
pub record Positions {S : Type 0} (fields : List Field) (positions : HashMap (List ℕ) ℕ S) : Type 0 where
  pub room : length fields < 4294967295
  pub at : (name : List ℕ) → table.get bytes_eq positions name ≡ position_of fields name

-- what a class knows of its fields: they are few, or the positions are theirs
abbrev pub FieldPositions : {S : Type 0} → List Field → Option (Box (HashMap (List ℕ) ℕ S) Global) → Type 0
FieldPositions fields None = length fields ≤ 8
FieldPositions fields (Some positions) = Positions fields positions.value

-- classes in the order of their numbers
abbrev pub class_cmp : ClassId → ClassId → Ordering
class_cmp a b = nat_cmp a.0 b.0

-- each class once, in rising order
abbrev pub Rising : List ClassId → Type 0
Rising classes = IsStrictlySortedBy class_cmp classes

-- the members of a set: its classes, each once, in rising order
pub record Members (classes members : List ClassId) : Type 0 where
  pub rising : Rising members
  pub same : is_same_set members classes ≡ true

-- lists of classes in the order of their first classes that differ
abbrev pub members_cmp : Vec ClassId Global → Vec ClassId Global → Ordering
members_cmp a b = slice_cmp class_cmp a.items b.items

-- the number of a set, where an equal one is there
abbrev pub known_number : List (List ClassId) → List ClassId → Option SetId
known_number sets set = cond (nat_lt (number_of sets set) (length sets)) (Some (record { 0 = number_of sets set })) None

-- the numbers of sets, by their members in rising order
pub record Numbers (sets : List (List ClassId)) (numbers : BTreeMap (Vec ClassId Global) SetId) : Type 0 where
  pub of : (members : Vec ClassId Global) → Rising members.items → tree.get members_cmp numbers members ≡ known_number sets members.items
