-- A table of record classes and of sets of them, as it is made.
use Rattle.std.specs.Prelude.{◌≡◌, ℕ, true, false, List, [], ◌∷◌, map, length, Option, Some, None, Bool, codes}
use Rattle.value_ops.specs.declared.values.ClassId.{ClassId}
use Rattle.value_ops.specs.declared.values.SetId.{SetId}
use Rattle.value_ops.specs.declared.values.SimpleType.TheVariants.{Integer, Logical, Bits, Str, Reference}
use Rattle.record_classes.specs.Classes.{Field, Classes, no_classes, with_class, with_set, class_of, set_of, number_of, position_of, has}

abbrev pub class : ℕ → ClassId
class n = record { 0 = n }

abbrev pub set : ℕ → SetId
set n = record { 0 = n }

-- ---- classes

abbrev pub person_fields : List Field
person_fields = (codes "AGE", Integer) ∷ (codes "NEXT", Reference (set 0)) ∷ []

-- two fields have one name
abbrev pub point_fields : List Field
point_fields = (codes "Y", Bits) ∷ (codes "X", Logical) ∷ (codes "Y", Str 8) ∷ []

abbrev pub two_classes : Classes
two_classes = with_class (with_class no_classes (codes "PERSON") person_fields) (codes "POINT") point_fields

-- the number of a class, the name of a field, and its position in the class
abbrev pub FieldRow : Type 0
FieldRow = ℕ × List ℕ × Option ℕ

-- the second field of a name isn't found by it
abbrev pub fields : List FieldRow
fields =
    (0, codes "AGE", Some 0)
    ∷ (0, codes "NEXT", Some 1)
    ∷ (0, codes "X", None)
    ∷ (1, codes "Y", Some 0)
    ∷ (1, codes "X", Some 1)
    ∷ (1, codes "AGE", None)
    ∷ []

pub record ClassesAreMade : Type 0 where
  pub count : length two_classes.classes ≡ 2
  pub first : class_of two_classes (class 0) ≡ record { name = codes "PERSON"; fields = person_fields }
  pub second : class_of two_classes (class 1) ≡ record { name = codes "POINT"; fields = point_fields }
  pub positions : map (λ (r : FieldRow). position_of (class_of two_classes (class r.0)).fields r.1) fields ≡ map (λ (r : FieldRow). r.2) fields

-- ---- sets

-- the number of a set, and its classes
abbrev pub SetRow : Type 0
SetRow = ℕ × List ℕ

-- sets that are added one behind the other
abbrev pub sets : List SetRow
sets =
    (0, 3 ∷ 1 ∷ 2 ∷ [])
    ∷ (1, 1 ∷ [])
    ∷ (0, 2 ∷ 3 ∷ 1 ∷ [])
    ∷ (1, 1 ∷ 1 ∷ 1 ∷ [])
    ∷ (2, [])
    ∷ (3, 2 ∷ 1 ∷ [])
    ∷ (0, 1 ∷ 2 ∷ 1 ∷ 3 ∷ [])
    ∷ []

abbrev pub classes_of : List ℕ → List ClassId
classes_of numbers = map class numbers

-- the table behind these sets, and the number that each gets
abbrev pub with_sets : Classes → List SetRow → Classes
with_sets table [] = table
with_sets table (row ∷ rows) = with_sets (with_set table (classes_of row.1)) rows

abbrev pub numbers_from : Classes → List SetRow → List ℕ
numbers_from table [] = []
numbers_from table (row ∷ rows) = number_of table.sets (classes_of row.1) ∷ numbers_from (with_set table (classes_of row.1)) rows

abbrev pub four_sets : Classes
four_sets = with_sets no_classes sets

-- the numbers of a set and of a class, and whether the set has it
abbrev pub MemberRow : Type 0
MemberRow = ℕ × ℕ × Bool

abbrev pub members : List MemberRow
members =
    (0, 2, true)
    ∷ (0, 4, false)
    ∷ (1, 1, true)
    ∷ (1, 2, false)
    ∷ (2, 0, false)
    ∷ (3, 2, true)
    ∷ []

pub record SetsAreMade : Type 0 where
  pub numbers : numbers_from no_classes sets ≡ map (λ (r : SetRow). r.0) sets
  pub count : length four_sets.sets ≡ 4
  -- as it was first added
  pub first : set_of four_sets (set 0) ≡ class 3 ∷ class 1 ∷ class 2 ∷ []
  pub has_class : map (λ (r : MemberRow). has (set_of four_sets (set r.0)) (class r.1)) members ≡ map (λ (r : MemberRow). r.2) members
