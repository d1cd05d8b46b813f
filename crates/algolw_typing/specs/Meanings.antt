-- What names mean, and the rows of the table for names and the lists behind them.
use Rattle.std.specs.Prelude.{ℕ, List, [], ◌∷◌, Option, Some, None, Bool, true, false, ◌&&◌, nat_eq, nat_le, length}
use Rattle.value_ops.specs.declared.places.Place.{Place}
use Rattle.algolw_tree.specs.declared.standard.Basic.{Basic}
use Rattle.algolw_tree.specs.declared.standard.Basic.TheVariants as basic
use Rattle.algolw_tree.specs.declared.standard.Standard.{Standard}
use Rattle.algolw_tree.specs.declared.standard.Standard.TheVariants as standard
use Rattle.algolw_tree.specs.Standards as standards
use Rattle.algolw_typing.specs.Types.{ValueType, Gives, Statement, Simple, Integer, Logical, Bits, Str, Reference, fits, has, is_integer, is_logical, is_bits}
use Rattle.algolw_typing.specs.Verdicts.{Verdict, Good, Fault, Silent, part, unless, value, int}

-- a formal as calls see it
pub data FormalType : Type 0 where
  by_name : ValueType → FormalType
  by_value : ValueType → FormalType
  by_result : ValueType → FormalType
  by_value_result : ValueType → FormalType
  for_array : ValueType → (dimensions : ℕ) → FormalType
  -- a PROCEDURE, with or without type
  for_procedure : Option ValueType → FormalType

-- what a good declaration makes of a name
pub data Meaning : Type 0 where
  a_variable : ValueType → Meaning
  an_array : ValueType → (dimensions : ℕ) → Meaning
  a_procedure : Option ValueType → List FormalType → Meaning
  a_procedure_formal : Option ValueType → Meaning
  a_class : (fields : List ValueType) → Meaning
  a_field : (class : Place) → ValueType → Meaning
  a_label : Meaning
  a_control : Meaning
  a_standard : Standard → Meaning

abbrev pub gives_of : Option ValueType → Gives
gives_of None = Statement
gives_of (Some t) = Simple t

-- ---- a name without list

-- its type; a procedure with formals, a standard procedure or function 39
abbrev pub standard_alone : Place → Standard → Verdict
standard_alone p standard.MaxInteger = Good (Simple Integer)
standard_alone p (standard.Variable width) = Good (Simple Integer)
standard_alone p s = Fault 39 p

abbrev pub procedure_alone : Place → Option ValueType → List FormalType → Verdict
procedure_alone p result [] = Good (gives_of result)
procedure_alone p result (f ∷ formals) = Fault 39 p

-- name without list, no actual, at the name: array, field, label 41; procedure with formals, standard procedure or function 39; else its type.
-- A class makes a record, a procedure or procedure formal is called. The declaration of the name is at the place d.
abbrev pub alone_row : Place → Meaning → (d : Place) → Verdict
alone_row p (a_variable t) d = Good (Simple t)
alone_row p (an_array t n) d = Fault 41 p
alone_row p (a_procedure result formals) d = procedure_alone p result formals
alone_row p (a_procedure_formal result) d = Good (gives_of result)
alone_row p (a_class fields) d = Good (Simple (Reference (d ∷ [])))
alone_row p (a_field c t) d = Fault 41 p
alone_row p a_label d = Fault 41 p
alone_row p a_control d = Good (Simple Integer)
alone_row p (a_standard s) d = standard_alone p s

-- ---- a name with a substring list

-- 41 a substring list: given where its start, which is a part of the name with its list, has a type
abbrev pub no_base : Place → Option Gives → Verdict
no_base p start = part start (λ g. Fault 41 p)

-- a typed procedure without formals is called; 41 on one with formals or without type
abbrev pub procedure_as_base : Place → Option ValueType → List FormalType → Option Gives → Verdict
procedure_as_base p (Some t) [] start = Good (Simple t)
procedure_as_base p result formals start = no_base p start

abbrev pub standard_as_base : Place → Standard → Option Gives → Verdict
standard_as_base p standard.MaxInteger start = Good (Simple Integer)
standard_as_base p (standard.Variable width) start = Good (Simple Integer)
standard_as_base p s start = no_base p start

-- the base of a substring list that follows a name directly, at the name: 41 on an array, a procedure with formals or without type, a
-- procedure formal without type, a class, a field, a standard procedure or function. A label with a substring list is 41 also where the
-- start has no type. Another name has its type
abbrev pub base_row : Place → Meaning → (start : Option Gives) → Verdict
base_row p (a_variable t) start = Good (Simple t)
base_row p (an_array t n) start = no_base p start
base_row p (a_procedure result formals) start = procedure_as_base p result formals start
base_row p (a_procedure_formal None) start = no_base p start
base_row p (a_procedure_formal (Some t)) start = Good (Simple t)
base_row p (a_class fields) start = no_base p start
base_row p (a_field c t) start = no_base p start
base_row p a_label start = Fault 41 p
base_row p a_control start = Good (Simple Integer)
base_row p (a_standard s) start = standard_as_base p s start

-- substring list, at `(`: Int of the start; 34 unless its base is a STRING(m); 32 unless 1 <= n <= m. It gives STRING(n)
abbrev pub part_of_string : Place → ℕ → Gives → Verdict
part_of_string q n (Simple (Str m)) = unless (nat_le 1 n && nat_le n m) 32 q (Good (Simple (Str n)))
part_of_string q n base = Fault 34 q

abbrev pub part_row : Place → ℕ → Gives → Gives → Verdict
part_row q n base start = int q start (part_of_string q n base)

-- ---- a name with another list

-- a part of a list behind a name, as it is read
pub data Part : Type 0 where
  a_star : Part
  a_phrase : (is_variable : Bool) → Gives → Part
  -- an assignment to a standard variable, in a list of phrases
  a_setting : Part
  -- an array, or a subarray, which has as many dimensions as stars
  as_array : ValueType → (dimensions : ℕ) → Part
  -- a procedure's or a procedure formal's name alone, read as a procedure
  as_procedure : Option ValueType → Part
  -- the name alone of a procedure with formals, where no procedure is wanted
  with_formals : Part
  -- an actual of which nothing is asked, or only when the call is made
  not_read : Part
  -- a part without type
  typeless : Part

-- where all parts have types
abbrev pub all_read : List Part → Verdict → Verdict
all_read [] then_ = then_
all_read (typeless ∷ parts) then_ = Silent
all_read (part ∷ parts) then_ = all_read parts then_

-- 40 a `*`
abbrev pub no_star : Place → List Part → Verdict → Verdict
no_star p [] then_ = then_
no_star p (a_star ∷ parts) then_ = Fault 40 p
no_star p (part ∷ parts) then_ = no_star p parts then_

-- 39 the number
abbrev pub right_number : Place → ℕ → List Part → Verdict → Verdict
right_number p n parts then_ = unless (nat_eq n (length parts)) 39 p then_

-- what a phrase in a list gives; a setting is a statement
abbrev pub of_phrase : Part → (Gives → Verdict) → Verdict
of_phrase (a_phrase v g) then_ = then_ g
of_phrase a_setting then_ = then_ Statement
of_phrase part then_ = Silent

-- Int of each
abbrev pub ints_read : Place → List Part → Verdict → Verdict
ints_read p [] then_ = then_
ints_read p (part ∷ parts) then_ = of_phrase part (λ g. int p g (ints_read p parts then_))

-- 35, 37 each field's type
abbrev pub field_values : Place → List ValueType → List Part → Verdict → Verdict
field_values p (t ∷ ts) (part ∷ parts) then_ = of_phrase part (λ g. value p g (λ u. unless (fits u t) 37 p (field_values p ts parts then_)))
field_values p ts parts then_ = then_

-- whether any part is no setting
abbrev pub some_placed : List Part → Bool
some_placed [] = false
some_placed (a_setting ∷ parts) = some_placed parts
some_placed (part ∷ parts) = true

-- 35 where any part is a statement and no setting
abbrev pub values_read : Place → List Part → (List ValueType → Verdict) → Verdict
values_read p [] then_ = then_ []
values_read p (a_setting ∷ parts) then_ = values_read p parts then_
values_read p (part ∷ parts) then_ = of_phrase part (λ g. value p g (λ t. values_read p parts (λ ts. then_ (t ∷ ts))))

-- 38 where any part is no variable
abbrev pub variables_read : Place → List Part → (List ValueType → Verdict) → Verdict
variables_read p [] then_ = then_ []
variables_read p (a_phrase true (Simple t) ∷ parts) then_ = variables_read p parts (λ ts. then_ (t ∷ ts))
variables_read p (part ∷ parts) then_ = Fault 38 p

-- 37 a reference
abbrev pub no_references : Place → List ValueType → Verdict → Verdict
no_references p [] then_ = then_
no_references p (Reference s ∷ ts) then_ = Fault 37 p
no_references p (t ∷ ts) then_ = no_references p ts then_

-- 37 unless STRING(n), n >= 80
abbrev pub card_strings : Place → List ValueType → Verdict → Verdict
card_strings p [] then_ = then_
card_strings p (Str n ∷ ts) then_ = unless (nat_le 80 n) 37 p (card_strings p ts then_)
card_strings p (t ∷ ts) then_ = Fault 37 p

-- array with list, at the name: 40 a `*`; 39 the number; Int of each
abbrev pub array_row : Place → ValueType → ℕ → List Part → Verdict
array_row p t n parts = no_star p parts (right_number p n parts (ints_read p parts (Good (Simple t))))

-- class with list, at the name: 40 a `*`; 39 the number; 35, 37 each field's type
abbrev pub class_row : Place → List ValueType → (d : Place) → List Part → Verdict
class_row p fields d parts = no_star p parts (right_number p (length fields) parts (field_values p fields parts (Good (Simple (Reference (d ∷ []))))))

-- 37 unless a reference whose classes include the field's class
abbrev pub field_of : Place → Place → ValueType → ValueType → Verdict
field_of p c t (Reference s) = unless (has s c) 37 p (Good (Simple t))
field_of p c t u = Fault 37 p

-- 39 unless one part
abbrev pub one_part : Place → List Part → (Gives → Verdict) → Verdict
one_part p (part ∷ []) then_ = of_phrase part then_
one_part p parts then_ = Fault 39 p

-- field with list, at the name: 40 a `*`; 39 unless one part; 35; 37 unless a reference whose classes include the field's class
abbrev pub field_row : Place → Place → ValueType → List Part → Verdict
field_row p c t parts = no_star p parts (one_part p parts (λ g. value p g (field_of p c t)))

-- WRITE, WRITEON, at the name: 40 a `*`; 39 all parts are settings; 35 a statement that is no setting; 37 a reference
abbrev pub write_row : Place → List Part → Verdict
write_row p parts = no_star p parts (unless (some_placed parts) 39 p (values_read p parts (λ ts. no_references p ts (Good Statement))))

-- READ, READON, at the name: 40; 38 no variable; 37 a reference
abbrev pub read_row : Place → List Part → Verdict
read_row p parts = no_star p parts (variables_read p parts (λ ts. no_references p ts (Good Statement)))

-- READCARD, at the name: 40; 38 no variable; 37 a reference; 37 unless STRING(n), n >= 80
abbrev pub read_card_row : Place → List Part → Verdict
read_card_row p parts = no_star p parts (variables_read p parts (λ ts. card_strings p ts (Good Statement)))

-- the type of the values that an operation takes or gives
abbrev pub basic_type : Basic → ValueType
basic_type basic.Integer = Integer
basic_type basic.Logical = Logical
basic_type basic.Bits = Bits
basic_type basic.Character = Str 1

abbrev pub is_character : ValueType → Bool
is_character (Str n) = nat_eq n 1
is_character t = false

-- whether a type is this one
abbrev pub is_basic : Basic → ValueType → Bool
is_basic basic.Integer t = is_integer t
is_basic basic.Logical t = is_logical t
is_basic basic.Bits t = is_bits t
is_basic basic.Character t = is_character t

-- a function, IOCONTROL, at the name: 40 a `*`; 39 unless one part; 35; 37 unless a value of the type that it takes
abbrev pub one_value_row : Place → Basic → List Part → Gives → Verdict
one_value_row p taken parts g = no_star p parts (one_part p parts (λ h. value p h (λ t. unless (is_basic taken t) 37 p (Good g))))

abbrev pub standard_row : Place → Standard → List Part → Verdict
standard_row p (standard.Function op) parts = one_value_row p (standards.takes op) parts (Simple (basic_type (standards.gives op)))
standard_row p (standard.Read next) parts = read_row p parts
standard_row p standard.ReadCard parts = read_card_row p parts
standard_row p (standard.Write first) parts = write_row p parts
standard_row p standard.IoControl parts = one_value_row p basic.Integer parts Statement
standard_row p standard.MaxInteger parts = Fault 41 p
standard_row p (standard.Variable width) parts = Fault 41 p
