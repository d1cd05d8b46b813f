-- Record classes, and sets of them.
use Rattle.std.specs.Prelude.{ℕ, suc, ◌==◌, Bool, true, false, ◌&&◌, ◌||◌, cond, nat_lt, List, [], ◌∷◌, ◌++◌, length, Option, Some, None, slice_index_or}
use Rattle.std.specs.Option.{option_map}
use Rattle.std.specs.Str.{bytes_eq}
use Rattle.value_ops.specs.declared.values.ClassId.{ClassId}
use Rattle.value_ops.specs.declared.values.SetId.{SetId}
use Rattle.value_ops.specs.declared.values.SimpleType.{SimpleType}

-- a field: its name and its type
abbrev pub Field : Type 0
Field = List ℕ × SimpleType

-- a class: its name and its fields
pub record Class : Type 0 where
  pub name : List ℕ
  pub fields : List Field

-- the classes of a program, each at its number, and the sets of them, each at its number
pub record Classes : Type 0 where
  pub classes : List Class
  pub sets : List (List ClassId)

abbrev pub no_classes : Classes
no_classes = record { classes = []; sets = [] }

-- a class is in a set
abbrev pub has : List ClassId → ClassId → Bool
has [] c = false
has (d ∷ set) c = d.0 == c.0 || has set c

-- each class of the first is in the second
abbrev pub is_within : List ClassId → List ClassId → Bool
is_within [] set = true
is_within (c ∷ cs) set = has set c && is_within cs set

-- two lists are one set
abbrev pub is_same_set : List ClassId → List ClassId → Bool
is_same_set a b = is_within a b && is_within b a

-- the number of a set: that of the first equal one, or the next number where there is none
abbrev pub number_of : List (List ClassId) → List ClassId → ℕ
number_of [] set = 0
number_of (s ∷ sets) set = cond (is_same_set s set) 0 (suc (number_of sets set))

-- a class more
abbrev pub with_class : Classes → List ℕ → List Field → Classes
with_class t name fields = record t { classes = t.classes ++ record { name = name; fields = fields } ∷ [] }

-- a set more, where no equal one is there
abbrev pub with_set : Classes → List ClassId → Classes
with_set t set = cond (nat_lt (number_of t.sets set) (length t.sets)) t (record t { sets = t.sets ++ set ∷ [] })

abbrev pub class_of : Classes → ClassId → Class
class_of t c = slice_index_or t.classes c.0 (record { name = []; fields = [] })

abbrev pub set_of : Classes → SetId → List ClassId
set_of t s = slice_index_or t.sets s.0 []

-- where among fields the first one of a name stands
abbrev pub position_of : List Field → List ℕ → Option ℕ
position_of [] name = None
position_of (f ∷ fields) name = cond (bytes_eq f.0 name) (Some 0) (option_map suc (position_of fields name))
