-- The state of a program under way, and what may change it.
use Rattle.std.specs.Prelude.{ℕ, ◌+◌, ◌-◌, ◌*◌, ℤ, pos, negsuc, ◌+ℤ◌, ◌-ℤ◌, int_le, List, [], ◌∷◌, ◌++◌, length, replicate, take, min, Option, Some, None, Bool, true, false, ◌&&◌, nat_lt, nat_le, slice_get, slice_set, Result, Ok, Err}
use Rattle.value_ops.specs.declared.places.Place.{Place}
use Rattle.value_ops.specs.declared.faults.Fault.{Fault}
use Rattle.value_ops.specs.declared.faults.Fault.TheVariants as fault
use Rattle.value_ops.specs.declared.faults.Limit.{Limit}
use Rattle.value_ops.specs.declared.faults.Limit.TheVariants as limit
use Rattle.value_ops.specs.declared.values.Value.{Value}
use Rattle.value_ops.specs.declared.values.Value.TheVariants as value
use Rattle.value_ops.specs.declared.values.RecordId.{RecordId}
use Rattle.value_ops.specs.Strings.{filled, with_part}
use Rattle.short_text.specs.Blanks.{blanks}
use Rattle.algolw_typing.specs.Meanings.{FormalType, for_array}
use Rattle.algolw_typing.specs.Types.{ValueType, Integer, Logical, Bits, Str, Reference, has}
use Rattle.output_editing.specs.Layout.{Piece, lay}
use Rattle.program_meaning.specs.Phrases.{Name}
use Rattle.program_meaning.specs.Operations.{Answer, gives, faults, misfits}

-- ---- what a state holds

-- an array: the type of its elements, its bounds, and the first of its elements among the variables
pub record ArrayInfo : Type 0 where
  pub type : ValueType
  pub bounds : List (ℤ × ℤ)
  pub first : ℕ

-- a record: its class, the first of its fields among the variables, and how many they are
pub record RecordInfo : Type 0 where
  pub class : Name
  pub first : ℕ
  pub count : ℕ

-- what a name that is shown stands for
pub data Held : Type 0 where
  a_variable : ℕ → Held
  an_array : ℕ → List (Option ℤ) → Held
  a_number : ℤ → Held
  by_name : Held
  a_procedure : Held

pub record ShownName : Type 0 where
  pub text : List ℕ
  pub held : Held

-- what is under way: the names that are shown under it, in order
pub data Entry : Type 0 where
  in_block : Place → List ShownName → Entry
  in_call : (name : List ℕ) → Place → List ShownName → Entry
  in_actual : Place → Entry
  in_turn : Place → List ShownName → Entry

-- P is the form in which procedures are kept
pub record State (P : Type 0) : Type 0 where
  -- the standard variables, and behind them variables, array elements and fields, by number
  pub memory : List (Option Value)
  -- an array that isn't made yet has no bounds
  pub arrays : List (Option ArrayInfo)
  pub procedures : List P
  pub labels : ℕ
  pub records : List RecordInfo
  pub fields : ℕ
  -- how far the data are read
  pub data_read : ℕ
  pub pieces : List Piece
  -- the statements begun, the last one first
  pub begun : List Place
  pub steps : ℕ
  pub cells : ℕ
  pub depth : ℕ
  -- what is under way, the innermost first
  pub active : List Entry

-- what a run is given: its limits, and the data
pub record Setting : Type 0 where
  pub steps : ℕ
  pub lines : ℕ
  pub cards : List (List ℕ)

abbrev pub most_cells : ℕ
most_cells = 32768

abbrev pub most_depth : ℕ
most_depth = 2000

abbrev pub most_records : ℕ
most_records = 4096

abbrev pub most_fields : ℕ
most_fields = 16384

-- ---- outcomes

-- why a run stops. No checked program goes wrong, and none is left unfinished.
pub data Why : Type 0 where
  by_fault : Fault → Why
  by_limit : Limit → Why
  wrong : Why
  unfinished : Why

-- it goes on; it jumps to a label; or it stops in a statement
pub data Outcome (P A : Type 0) : Type 0 where
  on : A → State P → Outcome P A
  jump : ℕ → State P → Outcome P A
  stop : Why → Place → State P → Outcome P A

abbrev pub M : Type 0 → Type 0 → Type 0
M P A = State P → Outcome P A

abbrev pub after : {P A B : Type 0} → Outcome P A → (A → M P B) → Outcome P B
after (on a s) k = k a s
after (jump l s) k = jump l s
after (stop y w s) k = stop y w s

infixl 20 ◌>>=◌
infixl 20 ◌>>◌
abbrev pub ◌>>=◌ : {P A B : Type 0} → M P A → (A → M P B) → M P B
◌>>=◌ m k s = after (m s) k

abbrev pub ◌>>◌ : {P A B : Type 0} → M P A → M P B → M P B
◌>>◌ m n s = after (m s) (λ a. n)

abbrev pub give : {P A : Type 0} → A → M P A
give a s = on a s

abbrev pub halt : {P A : Type 0} → Why → Place → M P A
halt y w s = stop y w s

abbrev pub fault_at : {P A : Type 0} → Fault → Place → M P A
fault_at f w = halt (by_fault f) w

abbrev pub limit_at : {P A : Type 0} → Limit → Place → M P A
limit_at l w = halt (by_limit l) w

abbrev pub test : {P A : Type 0} → Bool → M P A → M P A → M P A
test b m n s = elim b [ true ↦ m s | false ↦ n s ]

-- ---- steps, cells, depth

-- a step, where the limit leaves one
abbrev pub tick : {P : Type 0} → Setting → Place → M P (Unit {0})
tick set w s = elim (nat_lt s.steps set.steps) [ true ↦ on tt (record s { steps = s.steps + 1 }) | false ↦ stop (by_limit limit.Steps) w s ]

abbrev pub note_begun : {P : Type 0} → Place → M P (Unit {0})
note_begun st s = on tt (record s { begun = st ∷ s.begun })

-- a statement is begun
abbrev pub begin : {P : Type 0} → Setting → Option Place → M P (Unit {0})
begin set None = give tt
begin set (Some st) = tick set st >> note_begun st

-- the innermost statement
abbrev pub innermost : Place → Option Place → Place
innermost w None = w
innermost w (Some st) = st

-- n cells at once, where there are as many
abbrev pub take_cells : {P : Type 0} → ℕ → Place → M P (Unit {0})
take_cells n w s = elim (nat_le (s.cells + n) most_cells) [ true ↦ on tt (record s { cells = s.cells + n }) | false ↦ stop (by_limit limit.Storage) w s ]

abbrev pub give_back : {P : Type 0} → ℕ → M P (Unit {0})
give_back n s = on tt (record s { cells = s.cells - n })

-- a cell is held while m is done
abbrev pub holding : {P A : Type 0} → Place → M P A → M P A
holding w m = take_cells 1 w >> (m >>= λ a. give_back 1 >> give a)

abbrev pub push_entry : {P : Type 0} → Entry → M P (Unit {0})
push_entry e s = on tt (record s { active = e ∷ s.active })

abbrev pub behind_first : List Entry → List Entry
behind_first [] = []
behind_first (e ∷ es) = es

abbrev pub pop_entry : {P : Type 0} → M P (Unit {0})
pop_entry s = on tt (record s { active = behind_first s.active })

-- a call or a copied actual more, where the limit leaves one
abbrev pub deeper : {P : Type 0} → Place → M P (Unit {0})
deeper w s = elim (nat_lt s.depth most_depth) [ true ↦ on tt (record s { depth = s.depth + 1 }) | false ↦ stop (by_limit limit.Depth) w s ]

abbrev pub shallower : {P : Type 0} → M P (Unit {0})
shallower s = on tt (record s { depth = s.depth - 1 })

-- m is done with an entry
abbrev pub under : {P A : Type 0} → Entry → M P A → M P A
under e m = push_entry e >> (m >>= λ a. pop_entry >> give a)

-- a call or a copied actual is under way while m is done
abbrev pub entered : {P A : Type 0} → Place → Entry → M P A → M P A
entered w e m = deeper w >> (under e m >>= λ a. shallower >> give a)

abbrev pub with_shown : List ShownName → Entry → Entry
with_shown xs (in_block p names) = in_block p (names ++ xs)
with_shown xs e = e

abbrev pub on_first : List ShownName → List Entry → List Entry
on_first xs [] = []
on_first xs (e ∷ es) = with_shown xs e ∷ es

-- names that are made in the innermost block
abbrev pub show : {P : Type 0} → List ShownName → M P (Unit {0})
show xs s = on tt (record s { active = on_first xs s.active })

-- ---- values and places

-- a variable, or n characters from a place on of the m of a variable
pub data Spot : Type 0 where
  whole : ℕ → Spot
  within : (variable m from n : ℕ) → Spot

-- what a phrase gives
pub data Given : Type 0 where
  nothing : Given
  a_value : Value → Given
  a_spot : Spot → Given

-- what a phrase is done for
pub data Use : Type 0 where
  for_value : Use
  for_place : Use

abbrev pub value_in : {P : Type 0} → Place → Given → M P Value
value_in w (a_value v) = give v
value_in w nothing = halt wrong w
value_in w (a_spot k) = halt wrong w

abbrev pub value_of : {P : Type 0} → Place → M P Given → M P Value
value_of w m = m >>= value_in w

abbrev pub spot_in : {P : Type 0} → Place → Given → M P Spot
spot_in w (a_spot k) = give k
spot_in w nothing = halt wrong w
spot_in w (a_value v) = halt wrong w

abbrev pub spot_of : {P : Type 0} → Place → M P Given → M P Spot
spot_of w m = m >>= spot_in w

abbrev pub integer_in : {P : Type 0} → Place → Value → M P ℤ
integer_in w (value.Integer n) = give n
integer_in w v = halt wrong w

abbrev pub integer_of : {P : Type 0} → Place → M P Given → M P ℤ
integer_of w m = value_of w m >>= integer_in w

abbrev pub truth_in : {P : Type 0} → Place → Value → M P Bool
truth_in w (value.Logical b) = give b
truth_in w v = halt wrong w

abbrev pub truth_of : {P : Type 0} → Place → M P Given → M P Bool
truth_of w m = value_of w m >>= truth_in w

abbrev pub string_in : {P : Type 0} → Place → Value → M P (List ℕ)
string_in w (value.Str s) = give s
string_in w v = halt wrong w

abbrev pub record_in : {P : Type 0} → Place → Value → M P (Option RecordId)
record_in w (value.Reference r) = give r
record_in w v = halt wrong w

abbrev pub answer_at : {P : Type 0} → Place → Answer → M P Given
answer_at w (gives v) = give (a_value v)
answer_at w (faults f) = fault_at f w
answer_at w misfits = halt wrong w

-- only for its value
abbrev pub only_value : {P : Type 0} → Use → Place → M P Given → M P Given
only_value for_value w m = m
only_value for_place w m = halt wrong w

-- ---- variables

-- F6 where it has no value
abbrev pub defined : {P : Type 0} → Place → Option (Option Value) → M P Value
defined w None = halt wrong w
defined w (Some None) = fault_at fault.ValueUndefined w
defined w (Some (Some v)) = give v

abbrev pub look : {P : Type 0} → Place → ℕ → M P Value
look w k s = defined w (slice_get s.memory k) s

abbrev pub put : {P : Type 0} → ℕ → Value → M P (Unit {0})
put k v s = on tt (record s { memory = slice_set s.memory k (Some v) })

abbrev pub variable : {P : Type 0} → Use → Place → ℕ → M P Given
variable for_value w k = look w k >>= λ v. give (a_value v)
variable for_place w k = give (a_spot (whole k))

-- a new variable's number
abbrev pub new : {P : Type 0} → Option Value → M P ℕ
new v s = on (length s.memory) (record s { memory = s.memory ++ v ∷ [] })

abbrev pub record_at : {P : Type 0} → Place → Option RecordInfo → M P RecordInfo
record_at w None = halt wrong w
record_at w (Some r) = give r

abbrev pub the_record : {P : Type 0} → Place → RecordId → M P RecordInfo
the_record w r s = record_at w (slice_get s.records r.0) s

-- a value made into a type: a string is filled, and a record's class must be listed
abbrev pub made : {P : Type 0} → Place → ValueType → Value → M P Value
made w Integer (value.Integer n) = give (value.Integer n)
made w Logical (value.Logical b) = give (value.Logical b)
made w Bits (value.Bits b) = give (value.Bits b)
made w (Str n) (value.Str s) = give (value.Str (filled n s))
made w (Reference set) (value.Reference None) = give (value.Reference None)
made w (Reference set) (value.Reference (Some r)) = the_record w r >>= λ info. test (has set info.class.place) (give (value.Reference (Some r))) (fault_at fault.WrongRecordClass w)
made w t v = halt wrong w

-- the result of a phrase with a type, made into it
abbrev pub made_result : {P : Type 0} → Place → Option ValueType → Given → M P Given
made_result w (Some t) (a_value v) = made w t v >>= λ u. give (a_value u)
made_result w (Some t) r = give r
made_result w None r = give r

-- the characters of a string variable, which are blanks where it has no value
abbrev pub characters : {P : Type 0} → Place → ℕ → Option (Option Value) → M P (List ℕ)
characters w m None = halt wrong w
characters w m (Some None) = give (blanks m)
characters w m (Some (Some v)) = string_in w v

abbrev pub string_held : {P : Type 0} → Place → ℕ → ℕ → M P (List ℕ)
string_held w k m s = characters w m (slice_get s.memory k) s

abbrev pub put_string : {P : Type 0} → Place → ℕ → Result (List ℕ) Fault → M P (Unit {0})
put_string w k (Ok s) = put k (value.Str s)
put_string w k (Err f) = fault_at f w

-- a value is given to a place
abbrev pub store : {P : Type 0} → Place → Spot → Value → M P (Unit {0})
store w (whole k) v = put k v
store w (within k m from n) v = string_in w v >>= λ text. string_held w k m >>= λ s. put_string w k (with_part s (pos from) n (take n text))

abbrev pub assign : {P : Type 0} → Place → ValueType → Spot → Value → M P (Unit {0})
assign w t k v = made w t v >>= store w k

-- ---- arrays

abbrev pub array_at : {P : Type 0} → Place → Option (Option ArrayInfo) → M P ArrayInfo
array_at w (Some (Some a)) = give a
array_at w _ = halt wrong w

abbrev pub the_array : {P : Type 0} → Place → ℕ → M P ArrayInfo
the_array w k s = array_at w (slice_get s.arrays k) s

-- the subscripts, of which some are given, with these for the others
abbrev pub filled_in : List (Option ℤ) → List (Option ℤ) → List (Option ℤ)
filled_in (Some i ∷ given) more = Some i ∷ filled_in given more
filled_in (None ∷ given) (i ∷ more) = i ∷ filled_in given more
filled_in (None ∷ given) [] = None ∷ filled_in given []
filled_in [] more = []

abbrev pub is_within : ℤ × ℤ → ℤ → Bool
is_within bound i = int_le bound.0 i && int_le i bound.1

-- each subscript that is given is within its bounds
abbrev pub all_within : List (ℤ × ℤ) → List (Option ℤ) → Bool
all_within (bound ∷ bounds) (Some i ∷ subscripts) = is_within bound i && all_within bounds subscripts
all_within (bound ∷ bounds) (None ∷ subscripts) = all_within bounds subscripts
all_within bounds subscripts = true

-- an integer, and 0 in place of one below 0
abbrev pub at_least_zero : ℤ → ℕ
at_least_zero (pos n) = n
at_least_zero (negsuc n) = 0

-- how many there are from one to the other, none where the upper is below
abbrev pub extent : ℤ × ℤ → ℕ
extent bound = at_least_zero (bound.1 -ℤ bound.0 +ℤ pos 1)

abbrev pub elements : List (ℤ × ℤ) → ℕ
elements [] = 1
elements (bound ∷ bounds) = extent bound * elements bounds

-- where an element is among the elements
abbrev pub offset : List (ℤ × ℤ) → List (Option ℤ) → ℕ
offset (bound ∷ bounds) (Some i ∷ subscripts) = at_least_zero (i -ℤ bound.0) * elements bounds + offset bounds subscripts
offset (bound ∷ bounds) (None ∷ subscripts) = offset bounds subscripts
offset bounds subscripts = 0

-- F3 unless each subscript is within its bounds
abbrev pub subscripted : {P A : Type 0} → Place → ArrayInfo → List (Option ℤ) → M P A → M P A
subscripted w a subscripts m = test (all_within a.bounds subscripts) m (fault_at fault.SubscriptOutsideBounds w)

-- an element, which the array has
abbrev pub element_in : {P : Type 0} → Use → Place → ArrayInfo → ℕ → M P Given
element_in u w a n = test (nat_lt n (elements a.bounds)) (variable u w (a.first + n)) (halt wrong w)

abbrev pub element_of : {P : Type 0} → Use → Place → ℕ → List (Option ℤ) → M P Given
element_of u w k subscripts = the_array w k >>= λ a. subscripted w a subscripts (element_in u w a (offset a.bounds subscripts))

-- what is done for the formal of an array, and for no other
abbrev pub for_an_array : {P A : Type 0} → Place → FormalType → M P A → M P A
for_an_array w (for_array t n) m = m
for_an_array w f m = halt wrong w

-- an array gets its elements, without values
abbrev pub place_array : {P : Type 0} → ℕ → ValueType → List (ℤ × ℤ) → M P (Unit {0})
place_array k t bounds s = on tt (record s { memory = s.memory ++ replicate (elements bounds) None; arrays = slice_set s.arrays k (Some (record { type = t; bounds = bounds; first = length s.memory })) })

-- the array k is made: its own cell and those of its elements are taken at once
abbrev pub make_array : {P : Type 0} → Place → ℕ → ValueType → List (ℤ × ℤ) → M P (Unit {0})
make_array w k t bounds = take_cells (1 + elements bounds) w >> place_array k t bounds

-- ---- records

-- L5 where there are too many records or fields
abbrev pub make_record : {P : Type 0} → Place → Name → List (Option Value) → M P Given
make_record w class values s =
    elim (nat_lt (length s.records) most_records && nat_le (s.fields + length values) most_fields) [
      | true ↦ on (a_value (value.Reference (Some (record { 0 = length s.records })))) (record s { records = s.records ++ record { class = class; first = length s.memory; count = length values } ∷ []; memory = s.memory ++ values; fields = s.fields + length values })
      | false ↦ stop (by_limit limit.Records) w s
    ]

abbrev pub is_place_of : Place → RecordInfo → Bool
is_place_of class info = has (class ∷ []) info.class.place

-- a field of a record, which has it
abbrev pub field_in : {P : Type 0} → Use → Place → ℕ → RecordInfo → M P Given
field_in u w position info = test (nat_lt position info.count) (variable u w (info.first + position)) (halt wrong w)

-- F7 of NULL, F8 of another class
abbrev pub field_of : {P : Type 0} → Use → Place → Place → ℕ → Option RecordId → M P Given
field_of u w class position None = fault_at fault.ReferenceNull w
field_of u w class position (Some r) = the_record w r >>= λ info. test (is_place_of class info) (field_in u w position info) (fault_at fault.WrongRecordClass w)

abbrev pub is_of_class : {P : Type 0} → Place → Place → Option RecordId → M P Given
is_of_class w class None = give (a_value (value.Logical false))
is_of_class w class (Some r) = the_record w r >>= λ info. give (a_value (value.Logical (is_place_of class info)))

-- ---- parts of strings

-- the place of n characters from i on, of a string of m: F4 where it doesn't have them; of a part, no place is further than the end of its variable
abbrev pub spot_within : {P : Type 0} → Place → ℕ → ℕ → Spot → ℤ → M P Given
spot_within w m n (whole k) (pos i) = test (nat_le (i + n) m) (give (a_spot (within k m i n))) (fault_at fault.PlaceOutsideString w)
spot_within w m n (within k whole_length from count) (pos i) = test (nat_le (i + n) m) (give (a_spot (within k whole_length (min (from + i) whole_length) n))) (fault_at fault.PlaceOutsideString w)
spot_within w m n k (negsuc i) = fault_at fault.PlaceOutsideString w

abbrev pub string_answer : {P : Type 0} → Place → Result (List ℕ) Fault → M P Given
string_answer w (Ok s) = give (a_value (value.Str s))
string_answer w (Err f) = fault_at f w

-- ---- output and data

abbrev pub print : {P : Type 0} → List Piece → M P (Unit {0})
print pieces s = on tt (record s { pieces = s.pieces ++ pieces })

-- L2 where there are more lines than the limit
abbrev pub within_lines : {P : Type 0} → Setting → Place → M P (Unit {0})
within_lines set w s = elim (nat_le (length (lay s.pieces)) set.lines) [ true ↦ on tt s | false ↦ stop (by_limit limit.Lines) w s ]

-- pieces are put one after the other, up to the first with which there are more lines than the limit
abbrev pub put_pieces : {P : Type 0} → Setting → Place → List Piece → M P (Unit {0})
put_pieces set w [] = give tt
put_pieces set w (piece ∷ pieces) = print (piece ∷ []) >> (within_lines set w >> put_pieces set w pieces)

abbrev pub read_so_far : {P : Type 0} → M P ℕ
read_so_far s = on s.data_read s

abbrev pub set_read : {P : Type 0} → ℕ → M P (Unit {0})
set_read n s = on tt (record s { data_read = n })

abbrev pub scan_answer : {P : Type 0} → Place → Result (Value × ℕ) Fault → M P Value
scan_answer w (Ok (v, n)) = set_read n >> give v
scan_answer w (Err f) = fault_at f w

-- ---- blocks and jumps

-- where a block is made: its labels, and what a jump to one of them gives back
pub record Made : Type 0 where
  pub first : ℕ
  pub count : ℕ
  pub cells : ℕ
  pub depth : ℕ
  pub active : List Entry

abbrev pub back_to : {P : Type 0} → Made → State P → State P
back_to b s = record s { cells = b.cells; depth = b.depth; active = b.active }

abbrev pub is_own : Made → ℕ → Bool
is_own b l = nat_le b.first l && nat_lt l (b.first + b.count)

-- a jump to one of the block's own labels goes on there
abbrev pub caught : {P A : Type 0} → Made → (ℕ → M P A) → Outcome P A → Outcome P A
caught b resume (on a s) = on a s
caught b resume (jump l s) = elim (is_own b l) [ true ↦ resume (l - b.first) (back_to b s) | false ↦ jump l s ]
caught b resume (stop y w s) = stop y w s

abbrev pub catching : {P A : Type 0} → Made → (ℕ → M P A) → M P A → M P A
catching b resume m s = caught b resume (m s)

abbrev pub cells_held : {P : Type 0} → M P ℕ
cells_held s = on s.cells s

abbrev pub set_cells : {P : Type 0} → ℕ → M P (Unit {0})
set_cells n s = on tt (record s { cells = n })

abbrev pub made_here : {P : Type 0} → (first count : ℕ) → M P Made
made_here l n s = on (record { first = l; count = n; cells = s.cells; depth = s.depth; active = s.active }) s
