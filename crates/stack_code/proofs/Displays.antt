-- What changes the texts under way, or the one that runs, sets the display by the links; every other row leaves all three as they were.
use Rattle.std.proofs.Common.{◌≡◌, ℕ, zero, suc, ◌+◌, ◌-◌, ◌*◌, ℤ, pos, negsuc, List, [], ◌∷◌, length, Option, Some, None, Bool, true, false, refl, ap, subst, ◌∙◌, ◌&&◌}
use Rattle.std.specs.Prelude.{⊤, nat_lt, nat_le, slice_get, Result, Ok, Err}
use Rattle.std.specs.Ordering.{int_eq}
use Rattle.value_ops.specs.declared.places.Place.{Place}
use Rattle.value_ops.specs.declared.faults.Fault.{Fault}
use Rattle.value_ops.specs.declared.faults.Fault.TheVariants as fault
use Rattle.value_ops.specs.declared.values.RecordId.{RecordId}
use Rattle.value_ops.specs.declared.values.SimpleType.{SimpleType}
use Rattle.value_ops.specs.declared.values.Value.{Value}
use Rattle.value_ops.specs.declared.values.Value.TheVariants as value
use Rattle.output_editing.specs.Layout.{Piece, lay}
use Rattle.algolw_tree.specs.declared.standard.Width.{Width}
use Rattle.algolw_tree.specs.declared.standard.Width.TheVariants.{Columns, Blanks}
use Rattle.algolw_typing.specs.Types.{ValueType, Integer, Logical, Bits, Str, Reference, Gives, has}
use Rattle.algolw_typing.specs.Meanings.{FormalType, by_name, by_value, by_result, by_value_result, for_array, for_procedure}
use Rattle.program_meaning.specs.Phrases.{Formal, Name}
use Rattle.program_meaning.specs.Operations.{Answer, gives, faults, misfits}
use Rattle.program_meaning.specs.State.{Setting, ArrayInfo, Use, for_value, for_place, elements, most_cells, most_records, most_fields}
use Rattle.program_meaning.specs.Widths.{WidthsSet, none_set, with_width, variable_of, may_be_placed, widths_of, pieces_of}
use Rattle.program_meaning.specs.Copying.{case_number, read_type}
use Rattle.stack_code.specs.Machine.{on_top_of, Where, in_cell, in_field, Spot, whole, within, Closure, Thunk, Content, nothing, a_value, a_spot, an_array, some_bounds, a_thunk, a_procedure, RecordMade, Entry, a_name, a_procedure_name, a_block, declared, a_turn, a_call, an_actual, an_aside, Frame, Machine, outwards, some_widths}
use Rattle.stack_code.specs.Instr as instr
use Rattle.stack_code.specs.Instr.{Instr, Mode, the_value, the_place, as_asked, Source, from_entry, from_head, Reading, as_phrase, as_name, as_subarray, as_nothing, ProcedureHead, TextHead}
use Rattle.stack_code.specs.Code.{Code, Coded, procedure_head}
use Rattle.stack_code.specs.Doing as doing
use Rattle.stack_code.specs.Doing.{Next, on, ended, halted, Row, after, ◌>>=◌, ◌>>◌}
use Rattle.stack_code.specs.Table as table
use Rattle.stack_code.specs.Run.{further, settled, row_by}
use Rattle.stack_code.specs.Displays.{IsReached, at_start, by_row, DisplaysAreLinks}

-- ---- rows in a row

abbrev IsShown : Machine → Type 0
IsShown m = m.display ≡ outwards m.frames m.current

abbrev Good : {A : Type 0} → Next A → Type 0
Good (on a m) = IsShown m
Good (ended m) = ⊤
Good (halted y m) = ⊤

-- a row that keeps a right display, and one that sets it, whatever it was
record Keeps {A : Type 0} (r : Row A) : Type 0 where
  by : (m : Machine) → IsShown m → Good (r m)

record Sets {A : Type 0} (r : Row A) : Type 0 where
  by : (m : Machine) → Good (r m)

good_after : {A B : Type 0} (x : Next A) (k : A → Row B) → Good x → ((a : A) → Keeps (k a)) → Good (after x k)
good_after (on a m) k g h = (h a).by m g
good_after (ended m) k g h = tt
good_after (halted y m) k g h = tt

set_after : {A B : Type 0} (x : Next A) (k : A → Row B) → ((a : A) → Sets (k a)) → Good (after x k)
set_after (on a m) k h = (h a).by m
set_after (ended m) k h = tt
set_after (halted y m) k h = tt

bind : {A B : Type 0} (r : Row A) (k : A → Row B) → Keeps r → ((a : A) → Keeps (k a)) → Keeps (r >>= k)
bind r k p h = record { by = λ m s. good_after (r m) k (p.by m s) h }

then : {A B : Type 0} (r : Row A) (t : Row B) → Keeps r → Keeps t → Keeps (r >> t)
then r t p q = record { by = λ m s. good_after (r m) (λ a. t) (p.by m s) (λ a. q) }

-- behind what sets it, it stays set
kept : {A B : Type 0} (r : Row A) (t : Row B) → Sets r → Keeps t → Sets (r >> t)
kept r t p q = record { by = λ m. good_after (r m) (λ a. t) (p.by m) (λ a. q) }

kept_by : {A B : Type 0} (r : Row A) (k : A → Row B) → Sets r → ((a : A) → Keeps (k a)) → Sets (r >>= k)
kept_by r k p h = record { by = λ m. good_after (r m) k (p.by m) h }

later : {A B : Type 0} (r : Row A) (t : Row B) → Sets t → Sets (r >> t)
later r t q = record { by = λ m. set_after (r m) (λ a. t) (λ a. q) }

anyway : {A : Type 0} (r : Row A) → Sets r → Keeps r
anyway r p = record { by = λ m s. p.by m }

-- ---- what leaves it

give : {A : Type 0} (a : A) → Keeps (doing.give a)
give a = record { by = λ m s. s }

stuck : {A : Type 0} → Keeps (doing.stuck {A = A})
stuck = record { by = λ m s. tt }

test : {A : Type 0} (b : Bool) (r t : Row A) → Keeps r → Keeps t → Keeps (doing.test b r t)
test true r t p q = p
test false r t p q = q

there : {A : Type 0} (o : Option A) → Keeps (doing.there o)
there None = record { by = λ m s. tt }
there (Some a) = record { by = λ m s. s }

-- one of two, by a test
either : {A : Type 0} (b : Bool) (x y : Next A) → Good x → Good y → Good (elim b [ true ↦ x | false ↦ y ])
either true x y p q = p
either false x y p q = q

fault_now : {A : Type 0} (f : Fault) → Keeps (doing.fault_now {A = A} f)
fault_now f = record { by = λ m s. tt }

go_to : (k : ℕ) → Keeps (doing.go_to k)
go_to k = record { by = λ m s. s }

go_on : Keeps doing.go_on
go_on = record { by = λ m s. s }

here : Keeps doing.here
here = record { by = λ m s. s }

hold : (c : Content) → Keeps (doing.hold c)
hold c = record { by = λ m s. s }

held_now : Keeps doing.held_now
held_now = record { by = λ m s. s }

cells_now : Keeps doing.cells_now
cells_now = record { by = λ m s. s }

tick : (set : Setting) → Keeps (doing.tick set)
tick set = record { by = λ m s. either (nat_lt m.steps set.steps) _ _ s tt }

note_begun : (st : Place) → Keeps (doing.note_begun st)
note_begun st = record { by = λ m s. s }

deeper : Keeps doing.deeper
deeper = record { by = λ m s. either (nat_lt m.depth 2000) _ _ s tt }

push : (c : Content) → Keeps (doing.push c)
push c = record { by = λ m s. either (nat_lt (length m.cells) 32768) _ _ s tt }

popped : (cells : List Content) → Keeps (doing.popped cells)
popped [] = record { by = λ m s. tt }
popped (c ∷ cells) = record { by = λ m s. s }

pop : Keeps doing.pop
pop = record { by = λ m s. (popped m.cells).by m s }

popped_onto : (n : ℕ) (cs : List Content) → Keeps (doing.popped_onto n cs)
popped_onto zero cs = give cs
popped_onto (suc n) cs = bind doing.pop (λ c. doing.popped_onto n (c ∷ cs)) pop (λ c. popped_onto n (c ∷ cs))

pop_all : (n : ℕ) → Keeps (doing.pop_all n)
pop_all n = popped_onto n []

cut_cells : (k : ℕ) → Keeps (doing.cut_cells k)
cut_cells k = record { by = λ m s. s }

set_cell : (k : ℕ) (c : Content) → Keeps (doing.set_cell k c)
set_cell k c = record { by = λ m s. s }

cell_at : (k : ℕ) → Keeps (doing.cell_at k)
cell_at k = record { by = λ m s. (there _).by m s }

-- contents
value_in : (c : Content) → Keeps (doing.value_in c)
value_in nothing = stuck
value_in (a_value v) = give v
value_in (a_spot k) = stuck
value_in (an_array a given) = stuck
value_in (some_bounds bounds) = stuck
value_in (a_thunk t) = stuck
value_in (a_procedure p) = stuck

spot_in : (c : Content) → Keeps (doing.spot_in c)
spot_in nothing = stuck
spot_in (a_value v) = stuck
spot_in (a_spot k) = give k
spot_in (an_array a given) = stuck
spot_in (some_bounds bounds) = stuck
spot_in (a_thunk t) = stuck
spot_in (a_procedure p) = stuck

array_in : (c : Content) → Keeps (doing.array_in c)
array_in nothing = stuck
array_in (a_value v) = stuck
array_in (a_spot k) = stuck
array_in (an_array a given) = give (a, given)
array_in (some_bounds bounds) = stuck
array_in (a_thunk t) = stuck
array_in (a_procedure p) = stuck

closure_in : (c : Content) → Keeps (doing.closure_in c)
closure_in nothing = stuck
closure_in (a_value v) = stuck
closure_in (a_spot k) = stuck
closure_in (an_array a given) = stuck
closure_in (some_bounds bounds) = stuck
closure_in (a_thunk t) = stuck
closure_in (a_procedure p) = give p

thunk_in : (c : Content) → Keeps (doing.thunk_in c)
thunk_in nothing = stuck
thunk_in (a_value v) = stuck
thunk_in (a_spot k) = stuck
thunk_in (an_array a given) = stuck
thunk_in (some_bounds bounds) = stuck
thunk_in (a_thunk t) = give t
thunk_in (a_procedure p) = stuck

integer_of : (v : Value) → Keeps (doing.integer_of v)
integer_of (value.Integer n) = give n
integer_of (value.Logical b) = stuck
integer_of (value.Bits b) = stuck
integer_of (value.Str t) = stuck
integer_of (value.Reference r) = stuck

truth_of : (v : Value) → Keeps (doing.truth_of v)
truth_of (value.Integer n) = stuck
truth_of (value.Logical b) = give b
truth_of (value.Bits b) = stuck
truth_of (value.Str t) = stuck
truth_of (value.Reference r) = stuck

string_of : (v : Value) → Keeps (doing.string_of v)
string_of (value.Integer n) = stuck
string_of (value.Logical b) = stuck
string_of (value.Bits b) = stuck
string_of (value.Str t) = give t
string_of (value.Reference r) = stuck

record_of : (v : Value) → Keeps (doing.record_of v)
record_of (value.Integer n) = stuck
record_of (value.Logical b) = stuck
record_of (value.Bits b) = stuck
record_of (value.Str t) = stuck
record_of (value.Reference r) = give r

integer_in : (c : Content) → Keeps (doing.integer_in c)
integer_in c = bind (doing.value_in c) doing.integer_of (value_in c) integer_of

truth_in : (c : Content) → Keeps (doing.truth_in c)
truth_in c = bind (doing.value_in c) doing.truth_of (value_in c) truth_of

integers_in : (cs : List Content) → Keeps (doing.integers_in cs)
integers_in [] = give []
integers_in (c ∷ cs) = bind (doing.integer_in c) _ (integer_in c) (λ i. bind (doing.integers_in cs) _ (integers_in cs) (λ is. give (i ∷ is)))

values_in : (cs : List Content) → Keeps (doing.values_in cs)
values_in [] = give []
values_in (c ∷ cs) = bind (doing.value_in c) _ (value_in c) (λ v. bind (doing.values_in cs) _ (values_in cs) (λ vs. give (Some v ∷ vs)))

-- names
text_out : (links : ℕ) → Keeps (doing.text_out links)
text_out links = record { by = λ m s. (there _).by m s }

start_out : (links : ℕ) → Keeps (doing.start_out links)
start_out links = record { by = λ m s. (there _).by m s }

entry_out : (links position : ℕ) → Keeps (doing.entry_out links position)
entry_out links position = record { by = λ m s. (there _).by m s }

cell_out : (links position : ℕ) → Keeps (doing.cell_out links position)
cell_out links position = record { by = λ m s. (there _).by m s }

content_out : (links position : ℕ) → Keeps (doing.content_out links position)
content_out links position = record { by = λ m s. (there _).by m s }

source_out : (x : Source) → Keeps (doing.source_out x)
source_out x = record { by = λ m s. (there _).by m s }

-- entries and frames
enter : (marks : ℕ) (e : Entry) → Keeps (doing.enter marks e)
enter marks e = record { by = λ m s. either (nat_lt (length m.entries) (doing.most_entries marks)) _ _ s tt }

cut_entries : (k : ℕ) → Keeps (doing.cut_entries k)
cut_entries k = record { by = λ m s. s }

newest : (frames : List Frame) → Keeps (doing.newest frames)
newest [] = stuck
newest (f ∷ frames) = give f

last_frame : Keeps doing.last_frame
last_frame = record { by = λ m s. (newest m.frames).by m s }

current_frame : Keeps doing.current_frame
current_frame = record { by = λ m s. (there _).by m s }

wanted_for : (u : Mode) → Keeps (doing.wanted_for u)
wanted_for the_value = give for_value
wanted_for the_place = give for_place
wanted_for as_asked = bind doing.current_frame _ current_frame (λ f. give f.purpose)

-- ---- what sets it
go_back : (f : Frame) → Sets (doing.go_back f)
go_back f = record { by = λ m. refl }

run_newest : Sets doing.run_newest
run_newest = record { by = λ m. refl }

close_frame : (f : Frame) → Sets (doing.close_frame f)
close_frame f = record { by = λ m. refl }

cut_to : (text : Option ℕ) (kept : ℕ) (e : Entry) → Sets (table.cut_to text kept (Some e))
cut_to text kept (a_name t k) = record { by = λ m. tt }
cut_to text kept (a_procedure_name t k) = record { by = λ m. tt }
cut_to text kept (a_block p k) = record { by = λ m. tt }
cut_to text kept (declared cells depth frames) = record { by = λ m. refl }
cut_to text kept (a_turn st back) = record { by = λ m. tt }
cut_to text kept (a_call head site) = record { by = λ m. tt }
cut_to text kept (an_actual head) = record { by = λ m. tt }
cut_to text kept an_aside = record { by = λ m. tt }
cut_to text kept (some_widths ws) = record { by = λ m. tt }

-- ---- variables

value_of_cell : (c : Content) → Keeps (doing.value_of_cell c)
value_of_cell nothing = fault_now fault.ValueUndefined
value_of_cell (a_value v) = give v
value_of_cell (a_spot k) = stuck
value_of_cell (an_array a given) = stuck
value_of_cell (some_bounds bounds) = stuck
value_of_cell (a_thunk t) = stuck
value_of_cell (a_procedure p) = stuck

value_of_field : (v : Option Value) → Keeps (doing.value_of_field v)
value_of_field None = fault_now fault.ValueUndefined
value_of_field (Some v) = give v

value_at : (k : Where) → Keeps (doing.value_at k)
value_at (in_cell k) = bind (doing.cell_at k) _ (cell_at k) value_of_cell
value_at (in_field k) = record { by = λ m s. good_after (doing.there (on_top_of m.fields k) m) doing.value_of_field ((there (on_top_of m.fields k)).by m s) value_of_field }

put : (k : Where) (v : Value) → Keeps (doing.put k v)
put (in_cell k) v = set_cell k (a_value v)
put (in_field k) v = record { by = λ m s. s }

variable : (u : Use) (k : Where) → Keeps (doing.variable u k)
variable for_value k = bind (doing.value_at k) _ (value_at k) (λ v. hold (a_value v))
variable for_place k = hold (a_spot (whole k))

the_record : (r : RecordId) → Keeps (doing.the_record r)
the_record r = record { by = λ m s. (there _).by m s }

made : (t : ValueType) (v : Value) → Keeps (doing.made t v)
made Integer (value.Integer i) = give _
made Integer (value.Logical b) = stuck
made Integer (value.Bits b) = stuck
made Integer (value.Str t) = stuck
made Integer (value.Reference r) = stuck
made Logical (value.Integer i) = stuck
made Logical (value.Logical b) = give _
made Logical (value.Bits b) = stuck
made Logical (value.Str t) = stuck
made Logical (value.Reference r) = stuck
made Bits (value.Integer i) = stuck
made Bits (value.Logical b) = stuck
made Bits (value.Bits b) = give _
made Bits (value.Str t) = stuck
made Bits (value.Reference r) = stuck
made (Str n) (value.Integer i) = stuck
made (Str n) (value.Logical b) = stuck
made (Str n) (value.Bits b) = stuck
made (Str n) (value.Str t) = give _
made (Str n) (value.Reference r) = stuck
made (Reference set) (value.Integer i) = stuck
made (Reference set) (value.Logical b) = stuck
made (Reference set) (value.Bits b) = stuck
made (Reference set) (value.Str t) = stuck
made (Reference set) (value.Reference None) = give _
made (Reference set) (value.Reference (Some r)) = bind (doing.the_record r) _ (the_record r) (λ info. test (has set info.class.place) _ _ (give _) (fault_now fault.WrongRecordClass))

made_content : (t : ValueType) (c : Content) → Keeps (doing.made_content t c)
made_content t nothing = give _
made_content t (a_value v) = bind (doing.made t v) _ (made t v) (λ u. give (a_value u))
made_content t (a_spot k) = give _
made_content t (an_array a given) = give _
made_content t (some_bounds bounds) = give _
made_content t (a_thunk p) = give _
made_content t (a_procedure p) = give _

made_result : (t : Option ValueType) (c : Content) → Keeps (doing.made_result t c)
made_result None c = give c
made_result (Some t) c = made_content t c

text_in : (c : Content) → Keeps (doing.value_in c >>= doing.string_of)
text_in c = bind (doing.value_in c) doing.string_of (value_in c) string_of

characters_of_cell : (n : ℕ) (c : Content) → Keeps (doing.characters_of_cell n c)
characters_of_cell n nothing = give _
characters_of_cell n (a_value v) = text_in (a_value v)
characters_of_cell n (a_spot k) = text_in (a_spot k)
characters_of_cell n (an_array a given) = text_in (an_array a given)
characters_of_cell n (some_bounds bounds) = text_in (some_bounds bounds)
characters_of_cell n (a_thunk p) = text_in (a_thunk p)
characters_of_cell n (a_procedure p) = text_in (a_procedure p)

characters_of_field : (n : ℕ) (v : Option Value) → Keeps (doing.characters_of_field n v)
characters_of_field n None = give _
characters_of_field n (Some v) = string_of v

characters : (n : ℕ) (k : Where) → Keeps (doing.characters n k)
characters n (in_cell k) = bind (doing.cell_at k) _ (cell_at k) (characters_of_cell n)
characters n (in_field k) = record { by = λ m s. good_after (doing.there (on_top_of m.fields k) m) (doing.characters_of_field n) ((there (on_top_of m.fields k)).by m s) (characters_of_field n) }

put_string : (k : Where) (x : Result (List ℕ) Fault) → Keeps (doing.put_string k x)
put_string k (Ok t) = put k (value.Str t)
put_string k (Err f) = fault_now f

store : (k : Spot) (v : Value) → Keeps (doing.store k v)
store (whole k) v = put k v
store (within k n from count) v = bind (doing.string_of v) _ (string_of v) (λ text. bind (doing.characters n k) _ (characters n k) (λ s. put_string k _))

assign : (t : ValueType) (k : Spot) (v : Value) → Keeps (doing.assign t k v)
assign t k v = bind (doing.made t v) _ (made t v) (store k)

-- ---- arrays and records

subscripted : {A : Type 0} (a : ArrayInfo) (subscripts : List (Option ℤ)) (r : Row A) → Keeps r → Keeps (doing.subscripted a subscripts r)
subscripted a subscripts r p = test _ r _ p (fault_now fault.SubscriptOutsideBounds)

element_in : (u : Use) (a : ArrayInfo) (n : ℕ) → Keeps (doing.element_in u a n)
element_in u a n = test _ _ _ (variable u (in_cell (a.first + n))) stuck

element_of : (u : Use) (a : ArrayInfo) (subscripts : List (Option ℤ)) → Keeps (doing.element_of u a subscripts)
element_of u a subscripts = subscripted a subscripts _ (element_in u a _)

push_array : (t : ValueType) (bounds : List (ℤ × ℤ)) → Keeps (doing.push_array t bounds)
push_array t bounds = record { by = λ m s. either (nat_le (length m.cells + (1 + elements bounds)) most_cells) _ _ s tt }

make_record : (class : Name) (values : List (Option Value)) → Keeps (doing.make_record class values)
make_record class values = record { by = λ m s. either (nat_lt (length m.records) most_records && nat_le (length m.fields + length values) (2 + most_fields)) _ _ s tt }

field_in : (u : Use) (position : ℕ) (r : RecordMade) → Keeps (doing.field_in u position r)
field_in u position r = test _ _ _ (variable u (in_field (r.first + position))) stuck

field_of : (u : Use) (class : Place) (position : ℕ) (r : Option RecordId) → Keeps (doing.field_of u class position r)
field_of u class position None = fault_now fault.ReferenceNull
field_of u class position (Some r) = bind (doing.the_record r) _ (the_record r) (λ info. test _ _ _ (field_in u position info) (fault_now fault.WrongRecordClass))

is_of_class : (class : Place) (r : Option RecordId) → Keeps (doing.is_of_class class r)
is_of_class class None = hold _
is_of_class class (Some r) = bind (doing.the_record r) _ (the_record r) (λ info. hold _)

-- ---- operators and strings

answer : (a : Answer) → Keeps (doing.answer a)
answer (gives v) = hold _
answer (faults f) = fault_now f
answer misfits = stuck

spot_within : (m n : ℕ) (k : Spot) (i : ℤ) → Keeps (doing.spot_within m n k i)
spot_within m n (whole k) (pos i) = test _ _ _ (hold _) (fault_now fault.PlaceOutsideString)
spot_within m n (within k l from count) (pos i) = test _ _ _ (hold _) (fault_now fault.PlaceOutsideString)
spot_within m n (whole k) (negsuc i) = fault_now fault.PlaceOutsideString
spot_within m n (within k l from count) (negsuc i) = fault_now fault.PlaceOutsideString

string_answer : (x : Result (List ℕ) Fault) → Keeps (doing.string_answer x)
string_answer (Ok s) = hold _
string_answer (Err f) = fault_now f

part_of : (m n : ℕ) (c : Content) (i : ℤ) → Keeps (doing.part_of m n c i)
part_of m n nothing i = stuck
part_of m n (a_value v) i = bind (doing.string_of v) _ (string_of v) (λ s. string_answer _)
part_of m n (a_spot k) i = spot_within m n k i
part_of m n (an_array a given) i = stuck
part_of m n (some_bounds bounds) i = stuck
part_of m n (a_thunk p) i = stuck
part_of m n (a_procedure p) i = stuck

-- ---- output and data

print : (pieces : List Piece) → Keeps (doing.print pieces)
print pieces = record { by = λ m s. s }

within_lines : (set : Setting) → Keeps (doing.within_lines set)
within_lines set = record { by = λ m s. either (nat_le (length (lay m.pieces)) set.lines) _ _ s tt }

put_pieces : (set : Setting) (pieces : List Piece) → Keeps (doing.put_pieces set pieces)
put_pieces set [] = give _
put_pieces set (piece ∷ pieces) = then (doing.print (piece ∷ [])) _ (print (piece ∷ [])) (then (doing.within_lines set) _ (within_lines set) (put_pieces set pieces))

widths_in : (e : Entry) → Keeps (doing.widths_in e)
widths_in (a_name text k) = stuck
widths_in (a_procedure_name text k) = stuck
widths_in (a_block p cells) = stuck
widths_in (declared cells depth frames) = stuck
widths_in (a_turn st back) = stuck
widths_in (a_call head site) = stuck
widths_in (an_actual head) = stuck
widths_in an_aside = stuck
widths_in (some_widths ws) = give ws

set_entry : (k : ℕ) (e : Entry) → Keeps (doing.set_entry k e)
set_entry k e = record { by = λ m s. s }

width_now : (k : Width) (o : Option ℤ) → Keeps (doing.width_now k o)
width_now k (Some n) = give n
width_now k None = bind (doing.value_at (in_field (variable_of k))) doing.integer_of (value_at (in_field (variable_of k))) integer_of

value_placed : (set : Setting) (first : Bool) (v : Value) (columns blanks : ℤ) → Keeps (doing.value_placed set first v columns blanks)
value_placed set first v columns blanks = test (may_be_placed v columns blanks) _ _ (put_pieces set (pieces_of first v (widths_of columns blanks))) (fault_now fault.WidthOutOfRange)

value_written : (set : Setting) (first : Bool) (v : Value) (ws : WidthsSet) → Keeps (doing.value_written set first v ws)
value_written set first v ws = bind (doing.width_now Columns ws.columns) _ (width_now Columns ws.columns) (λ columns. bind (doing.width_now Blanks ws.blanks) _ (width_now Blanks ws.blanks) (λ blanks. value_placed set first v columns blanks))

read_so_far : Keeps doing.read_so_far
read_so_far = record { by = λ m s. s }

set_read : (n : ℕ) → Keeps (doing.set_read n)
set_read n = record { by = λ m s. s }

scan_answer : (x : Result (Value × ℕ) Fault) → Keeps (doing.scan_answer x)
scan_answer (Ok (v, n)) = then (doing.set_read n) _ (set_read n) (give v)
scan_answer (Err f) = fault_now f

scan : (set : Setting) (next : Bool) (t : Option SimpleType) → Keeps (doing.scan set next t)
scan set next None = stuck
scan set next (Some t) = bind doing.read_so_far _ read_so_far (λ n. scan_answer _)

take_card : (set : Setting) → Keeps (doing.take_card set)
take_card set = bind doing.read_so_far _ read_so_far (λ n. scan_answer _)

io_control : (n : ℤ) → Keeps (doing.io_control n)
io_control (pos n) = test _ _ _ (bind doing.read_so_far _ read_so_far (λ k. set_read _)) (test _ _ _ (print _) (give _))
io_control (negsuc n) = give _

-- ---- rows of the table

value_held : Keeps table.value_held
value_held = bind doing.held_now _ held_now value_in

integer_held : Keeps table.integer_held
integer_held = bind doing.held_now _ held_now integer_in

truth_held : Keeps table.truth_held
truth_held = bind doing.held_now _ held_now truth_in

spot_held : Keeps table.spot_held
spot_held = bind doing.held_now _ held_now spot_in

array_out : (links position : ℕ) → Keeps (doing.content_out links position >>= doing.array_in)
array_out links position = bind (doing.content_out links position) doing.array_in (content_out links position) array_in

element : (u : Mode) (links position count : ℕ) → Keeps (table.element u links position count)
element u links position n =
    bind (doing.wanted_for u) _ (wanted_for u) (λ purpose. bind (doing.pop_all n) _ (pop_all n) (λ cs. bind (doing.integers_in cs) _ (integers_in cs) (λ is.
    bind (doing.content_out links position >>= doing.array_in) _ (array_out links position) (λ a. then (doing.element_of purpose a.0 _) doing.go_on (element_of purpose a.0 _) go_on))))

field : (u : Mode) (class : Place) (position : ℕ) → Keeps (table.field u class position)
field u class position =
    bind (doing.wanted_for u) _ (wanted_for u) (λ purpose. then (table.value_held >>= doing.record_of >>= doing.field_of purpose class position) doing.go_on
    (bind (table.value_held >>= doing.record_of) (doing.field_of purpose class position) (bind table.value_held doing.record_of value_held record_of) (field_of purpose class position)) go_on)

entry_variable : (u : Mode) (links position : ℕ) → Keeps (table.entry_variable u links position)
entry_variable u links position =
    bind (doing.wanted_for u) _ (wanted_for u) (λ purpose. bind (doing.cell_out links position) _ (cell_out links position) (λ k. then (doing.variable purpose (in_cell k)) doing.go_on (variable purpose (in_cell k)) go_on))

-- statements

begin : (set : Setting) (st : Place) → Keeps (table.begin set st)
begin set st = then (doing.tick set) (doing.note_begun st) (tick set) (note_begun st)

chosen : (b : Bool) (n : ℕ) → Keeps (table.chosen b n)
chosen true n = bind doing.here _ here (λ k. go_to (k + 1 + n))
chosen false n = fault_now fault.CaseOutsideRange

choose : (count : ℕ) (n : Option ℕ) → Keeps (table.choose count n)
choose count None = fault_now fault.CaseOutsideRange
choose count (Some n) = chosen (nat_lt n count) n

assigned : (t : ValueType) (gives : Bool) → Keeps (table.assigned t gives)
assigned t b = bind table.value_held _ value_held (λ v. bind (doing.pop >>= doing.spot_in) _ (bind doing.pop doing.spot_in pop spot_in) (λ k.
    then (doing.assign t k v) _ (assign t k v) (then (doing.hold _) doing.go_on (hold _) go_on)))

jump_out : (links position target : ℕ) → Keeps (table.jump_out links position target)
jump_out links position target =
    bind (doing.text_out links) _ (text_out links) (λ text. bind (doing.start_out links) _ (start_out links) (λ start. bind (doing.entry_out links position) _ (entry_out links position) (λ e.
    then (table.cut_to text (start + position + 1) (Some e)) (doing.go_to target) (anyway _ (cut_to text (start + position + 1) e)) (go_to target))))

-- loops

turn_or_exit : (set : Setting) (next exit : ℕ) (b : Bool) (i : ℤ) → Keeps (table.turn_or_exit set next exit b i)
turn_or_exit set next exit true i = then (doing.tick set) _ (tick set) (bind doing.cells_now _ cells_now (λ n. then (doing.set_cell (n - 3) (a_value (value.Integer i))) (doing.go_to next) (set_cell (n - 3) (a_value (value.Integer i))) (go_to next)))
turn_or_exit set next exit false i = bind (doing.pop_all 3) _ (pop_all 3) (λ cs. then (doing.hold nothing) (doing.go_to exit) (hold nothing) (go_to exit))

integer_at : (k : ℕ) → Keeps (doing.cell_at k >>= doing.integer_in)
integer_at k = bind (doing.cell_at k) doing.integer_in (cell_at k) integer_in

loop_cells : Keeps table.loop_cells
loop_cells = bind doing.cells_now _ cells_now (λ n. bind (doing.cell_at (n - 3) >>= doing.integer_in) _ (integer_at (n - 3)) (λ i. bind (doing.cell_at (n - 2) >>= doing.integer_in) _ (integer_at (n - 2)) (λ j.
    bind (doing.cell_at (n - 1) >>= doing.integer_in) _ (integer_at (n - 1)) (λ k. give (i, j, k)))))

first_turn : (set : Setting) (exit : ℕ) (c : ℤ × ℤ × ℤ) → Keeps (table.first_turn set exit c)
first_turn set exit c = bind doing.here _ here (λ k. test (int_eq c.1 (pos 0)) _ _ (fault_now fault.StepZero) (turn_or_exit set (k + 1) exit _ _))

next_turn : (set : Setting) (target : ℕ) (c : ℤ × ℤ × ℤ) → Keeps (table.next_turn set target c)
next_turn set target c = bind doing.here _ here (λ k. turn_or_exit set target (k + 1) _ _)

turn : (marks : ℕ) (st : Place) (back : ℕ) (name : List ℕ) (below : ℕ) → Keeps (table.turn marks st back name below)
turn marks st back name below = bind doing.cells_now _ cells_now (λ n. then (doing.enter marks (a_turn st back)) (doing.enter marks (a_name name (n - below))) (enter marks (a_turn st back)) (enter marks (a_name name (n - below))))

turn_back : (e : Entry) → Keeps (table.turn_back (Some e))
turn_back (a_name t k) = stuck
turn_back (a_procedure_name t k) = stuck
turn_back (a_block p k) = stuck
turn_back (declared cells depth frames) = stuck
turn_back (a_turn st back) = give back
turn_back (a_call head site) = stuck
turn_back (an_actual head) = stuck
turn_back an_aside = stuck
turn_back (some_widths ws) = stuck

cut_to_position : (position : ℕ) → Keeps (table.cut_to_position position)
cut_to_position position = bind (doing.start_out 0) _ (start_out 0) (λ start. cut_entries (start + position))

-- blocks

declare_mark : (marks : ℕ) → Keeps (table.declare_mark marks)
declare_mark marks = record { by = λ m s. (enter marks _).by m s }

block_cells : (e : Entry) → Keeps (table.block_cells e)
block_cells (a_name t k) = stuck
block_cells (a_procedure_name t k) = stuck
block_cells (a_block p k) = give k
block_cells (declared cells depth frames) = stuck
block_cells (a_turn st back) = stuck
block_cells (a_call head site) = stuck
block_cells (an_actual head) = stuck
block_cells an_aside = stuck
block_cells (some_widths ws) = stuck

paired : (is : List ℤ) → Keeps (table.paired is)
paired [] = give []
paired (i ∷ []) = stuck
paired (i ∷ (j ∷ is)) = bind (table.paired is) _ (paired is) (λ bounds. give ((i, j) ∷ bounds))

bounds_in : (c : Content) → Keeps (table.bounds_in c)
bounds_in nothing = stuck
bounds_in (a_value v) = stuck
bounds_in (a_spot k) = stuck
bounds_in (an_array a given) = stuck
bounds_in (some_bounds bounds) = give bounds
bounds_in (a_thunk t) = stuck
bounds_in (a_procedure p) = stuck

-- actuals

handed : (c : Content) → Keeps (table.handed c)
handed nothing = stuck
handed (a_value v) = stuck
handed (a_spot k) = stuck
handed (an_array a given) = give _
handed (some_bounds bounds) = stuck
handed (a_thunk t) = give _
handed (a_procedure p) = give _

handed_out : (x : Source) → Keeps (doing.source_out x >>= table.handed)
handed_out x = bind (doing.source_out x) table.handed (source_out x) handed

thunk_here : (head : ℕ) (type : Option ValueType) (is_variable : Bool) → Keeps (table.thunk_here head type is_variable)
thunk_here head type is_variable = record { by = λ m s. s }

subarray : (links position : ℕ) (stars : List Bool) → Keeps (table.subarray links position stars)
subarray links position stars =
    bind (doing.pop_all (table.cells_of stars)) _ (pop_all (table.cells_of stars)) (λ cs. bind (doing.integers_in cs) _ (integers_in cs) (λ is. bind (doing.content_out links position >>= doing.array_in) _ (array_out links position) (λ a.
    then (doing.subscripted a.0 _ _) doing.go_on (subscripted a.0 _ _ (hold _)) go_on)))

-- a text that is entered: what comes last sets the display
text_runs : (head : ℕ) → Sets (doing.run_newest >> doing.go_to head)
text_runs head = kept doing.run_newest (doing.go_to head) run_newest (go_to head)

enter_aside : (marks head : ℕ) (purpose : Use) (type : Option ValueType) → Keeps (table.enter_aside marks head purpose type)
enter_aside marks head purpose type = record { by = λ m s. (later (doing.open_frame marks (m.pc + 1) (length m.cells) head m.current purpose type false) _ (later (doing.enter marks an_aside) _ (text_runs (head + 1)))).by m }

enter_actual : (marks back : ℕ) (purpose : Use) (t : Thunk) → Keeps (table.enter_actual marks back purpose t)
enter_actual marks back purpose t = then doing.deeper _ deeper (bind doing.cells_now _ cells_now (λ base. anyway _ (later (doing.open_frame marks back base t.head t.link purpose t.type true) _ (later (doing.enter marks (an_actual t.head)) _ (text_runs (t.head + 1))))))

use_thunk : (set : Setting) (marks back : ℕ) (purpose : Use) (t : Thunk) → Keeps (table.use_thunk set marks back purpose t)
use_thunk set marks back for_value t = then (doing.tick set) _ (tick set) (enter_actual marks back for_value t)
use_thunk set marks back for_place t = then (doing.tick set) _ (tick set) (test t.is_variable _ _ (enter_actual marks back for_place t) (fault_now fault.AssignmentToNoVariable))

call : (set : Setting) (marks : ℕ) (site : Place) (p : Closure) (head : ProcedureHead) → Keeps (table.call set marks site p head)
call set marks site p head = then (doing.tick set) _ (tick set) (then doing.deeper _ deeper (bind doing.here _ here (λ k. bind doing.cells_now _ cells_now (λ n.
    anyway _ (later (doing.open_frame marks (k + 1) (n - length head.formals) p.head p.link for_value None true) _
    (later (doing.enter marks (a_call p.head site)) _ (later (table.enter_formals marks (n - length head.formals) head.formals) _ (text_runs (p.head + 1)))))))))

answer_for : (u : Use) (f : Frame) → Keeps (table.answer_for u f)
answer_for for_value f = made_result f.type f.answer
answer_for for_place f = give f.answer

finished : (f : Frame) → Keeps (table.finished f)
finished f = then (doing.close_frame f) _ (anyway _ (close_frame f)) (then (table.answer_for f.purpose f >>= doing.hold) doing.go_on (bind (table.answer_for f.purpose f) doing.hold (answer_for f.purpose f) hold) go_on)

assign_back : (i : ℕ) (t : ValueType) → Keeps (table.assign_back i t)
assign_back i t = bind table.spot_held _ spot_held (λ k. bind doing.last_frame _ last_frame (λ f. bind (doing.cell_at (f.base + i) >>= doing.value_of_cell) _ (bind (doing.cell_at (f.base + i)) doing.value_of_cell (cell_at (f.base + i)) value_of_cell) (λ v.
    then (doing.assign t k v) doing.go_on (assign t k v) go_on)))

-- calls through a procedure formal

read_part : (code : List Coded) (f : FormalType) (r : Reading) → Keeps (table.read_part code f r)
read_part code f (as_phrase v g) = give _
read_part code f (as_name x) = bind (doing.source_out x) _ (source_out x) (λ c. give _)
read_part code f (as_subarray x n) = bind (doing.source_out x) _ (source_out x) (λ c. give _)
read_part code f as_nothing = give _

head_part : (code : List Coded) (f : FormalType) (head : ℕ) → Keeps (table.head_part code f head)
head_part code f head = bind (doing.there _) _ (there _) (λ (t : TextHead). read_part code f t.reading)

parts : (code : List Coded) (formals : List Formal) (heads : List ℕ) → Keeps (table.parts code formals heads)
parts code [] heads = give []
parts code (f ∷ formals) [] = give []
parts code (f ∷ formals) (head ∷ heads) = bind (table.head_part code f.is head) _ (head_part code f.is head) (λ p. bind (table.parts code formals heads) _ (parts code formals heads) (λ ps. give (p ∷ ps)))

compared : (code : List Coded) (w : Place) (compares : Bool) (heads : List ℕ) (p : ProcedureHead) → Keeps (table.compared code w compares heads p)
compared code w false heads p = give _
compared code w true heads p = bind (table.parts code p.formals heads) _ (parts code p.formals heads) (λ ps. test _ _ _ (give _) (fault_now fault.ActualsDoNotFit))

use_without : (set : Setting) (marks end : ℕ) (heads : List ℕ) (t : Thunk) → Keeps (table.use_without set marks end heads t)
use_without set marks end [] t = use_thunk set marks end for_value t
use_without set marks end (head ∷ heads) t = fault_now fault.ActualsDoNotFit

compare : (set : Setting) (code : Code) (w : Place) (compares : Bool) (heads : List ℕ) (end : ℕ) (c : Content) → Keeps (table.compare set code w compares heads end c)
compare set code w compares heads end nothing = stuck
compare set code w compares heads end (a_value v) = stuck
compare set code w compares heads end (a_spot k) = stuck
compare set code w compares heads end (an_array a given) = stuck
compare set code w compares heads end (some_bounds bounds) = stuck
compare set code w compares heads end (a_thunk t) = use_without set code.marks end heads t
compare set code w compares heads end (a_procedure p) = bind (doing.there _) _ (there _) (λ head. then (table.compared code.instructions w compares heads head) doing.go_on (compared code.instructions w compares heads head) go_on)

ready : (c : Content) → Keeps (table.ready c)
ready c = then (doing.hold c) _ (hold c) (bind doing.here _ here (λ k. go_to (k + 2)))

thunk_ready : (head : ℕ) (type : Option ValueType) (is_variable : Bool) → Keeps (table.thunk_here head type is_variable >>= table.ready)
thunk_ready head type is_variable = bind (table.thunk_here head type is_variable) table.ready (thunk_here head type is_variable) ready

prepare_phrase : (marks : ℕ) (f : FormalType) (head : ℕ) (v : Bool) (g : Gives) → Keeps (table.prepare_phrase marks f head v g)
prepare_phrase marks (by_value t) head v g = enter_aside marks head for_value (Some t)
prepare_phrase marks (by_value_result t) head v g = enter_aside marks head for_value (Some t)
prepare_phrase marks (by_result t) head v g = ready nothing
prepare_phrase marks (by_name t) head v g = thunk_ready head (Some t) _
prepare_phrase marks (for_procedure result) head v g = thunk_ready head result false
prepare_phrase marks (for_array t n) head v g = stuck

handed_ready : (x : Source) → Keeps (doing.source_out x >>= table.handed >>= table.ready)
handed_ready x = bind (doing.source_out x >>= table.handed) table.ready (handed_out x) ready

prepare_name : (marks : ℕ) (f : FormalType) (head : ℕ) (x : Source) → Keeps (table.prepare_name marks f head x)
prepare_name marks (by_value t) head x = enter_aside marks head for_value (Some t)
prepare_name marks (by_name t) head x = thunk_ready head (Some t) false
prepare_name marks (for_procedure result) head x = handed_ready x
prepare_name marks (for_array t n) head x = handed_ready x
prepare_name marks (by_result t) head x = stuck
prepare_name marks (by_value_result t) head x = stuck

prepare_nothing : (marks : ℕ) (f : FormalType) (head : ℕ) → Keeps (table.prepare_nothing marks f head)
prepare_nothing marks (by_name t) head = thunk_ready head (Some t) false
prepare_nothing marks (by_value t) head = enter_aside marks head for_value None
prepare_nothing marks (by_result t) head = enter_aside marks head for_value None
prepare_nothing marks (by_value_result t) head = enter_aside marks head for_value None
prepare_nothing marks (for_array t n) head = enter_aside marks head for_value None
prepare_nothing marks (for_procedure result) head = enter_aside marks head for_value None

prepare_by : (marks : ℕ) (f : FormalType) (head : ℕ) (r : Reading) → Keeps (table.prepare_by marks f head r)
prepare_by marks f head (as_phrase v g) = prepare_phrase marks f head v g
prepare_by marks f head (as_name x) = prepare_name marks f head x
prepare_by marks f head (as_subarray x n) = enter_aside marks head for_value None
prepare_by marks f head as_nothing = prepare_nothing marks f head

prepare : (code : Code) (head : ℕ) (f : Formal) → Keeps (table.prepare code head f)
prepare code head f = bind (doing.there _) _ (there _) (λ (t : TextHead). prepare_by code.marks f.is head t.reading)

closure_out : (x : Source) → Keeps (doing.source_out x >>= doing.closure_in)
closure_out x = bind (doing.source_out x) doing.closure_in (source_out x) closure_in

head_from : (code : List Coded) (x : Source) → Keeps (table.head_from code x)
head_from code x = bind (doing.source_out x >>= doing.closure_in) _ (closure_out x) (λ p. there _)

call_through : (set : Setting) (code : Code) (x : Source) (site : Place) → Keeps (table.call_through set code x site)
call_through set code x site = bind (doing.source_out x >>= doing.closure_in) _ (closure_out x) (λ p. bind (doing.there _) _ (there _) (call set code.marks site p))

stepped_over : Keeps table.stepped_over
stepped_over = bind doing.here _ here (λ k. go_to (k + 3))

place_back : (marks head : ℕ) (f : FormalType) → Keeps (table.place_back marks head f)
place_back marks head (by_result t) = enter_aside marks head for_place None
place_back marks head (by_value_result t) = enter_aside marks head for_place None
place_back marks head (by_name t) = stepped_over
place_back marks head (by_value t) = stepped_over
place_back marks head (for_array t n) = stepped_over
place_back marks head (for_procedure result) = stepped_over

formal_of_last : (code : List Coded) (i : ℕ) → Keeps (table.formal_of_last code i)
formal_of_last code i = bind doing.last_frame _ last_frame (λ f. bind (doing.there (procedure_head code f.head)) _ (there (procedure_head code f.head)) (λ p. there (slice_get p.formals i)))

going_on : {A : Type 0} (r : Row A) → Keeps r → Keeps (r >> doing.go_on)
going_on r p = then r doing.go_on p go_on

holding : (r : Row Content) → Keeps r → Keeps (r >>= doing.hold >> doing.go_on)
holding r p = going_on (r >>= doing.hold) (bind r doing.hold p hold)

stops : Keeps {A = Unit {0}} doing.ended
stops = record { by = λ m s. tt }

widths_here : (position : Option ℕ) → Keeps (table.widths_here position)
widths_here None = give none_set
widths_here (Some position) = bind (doing.entry_out 0 position) doing.widths_in (entry_out 0 position) widths_in

widths_become : (marks : ℕ) (position : Option ℕ) (ws : WidthsSet) → Keeps (table.widths_become marks position ws)
widths_become marks None ws = enter marks (some_widths ws)
widths_become marks (Some position) ws = bind (doing.start_out 0) _ (start_out 0) (λ start. set_entry (start + position) (some_widths ws))

standard_variable : (u : Mode) (n : ℕ) → Keeps (table.standard_variable u n)
standard_variable u n = bind (doing.wanted_for u) _ (wanted_for u) (λ purpose. going_on (doing.variable purpose (in_field n)) (variable purpose (in_field n)))

-- ---- each instruction

does : (set : Setting) (code : Code) (w : Place) (i : Instr) → Keeps (table.does set code w i)
does set code w instr.Nothing = going_on (doing.hold nothing) (hold nothing)
does set code w (instr.Constant v) = going_on (doing.hold (a_value v)) (hold (a_value v))
does set code w (instr.Variable u links position) = entry_variable u links position
does set code w (instr.Standard u n) = standard_variable u n
does set code w instr.Push = going_on (doing.held_now >>= doing.push) (bind doing.held_now doing.push held_now push)
does set code w instr.Reserve = going_on (doing.push nothing) (push nothing)
does set code w (instr.Unary op) = bind table.value_held _ value_held (λ v. going_on (doing.answer _) (answer _))
does set code w (instr.Binary op) = bind table.value_held _ value_held (λ v. bind (doing.pop >>= doing.value_in) _ (bind doing.pop doing.value_in pop value_in) (λ u. going_on (doing.answer _) (answer _)))
does set code w (instr.Relation op) = bind table.value_held _ value_held (λ v. bind (doing.pop >>= doing.value_in) _ (bind doing.pop doing.value_in pop value_in) (λ u. going_on (doing.answer _) (answer _)))
does set code w (instr.IsClass class) = going_on (table.value_held >>= doing.record_of >>= doing.is_of_class class) (bind (table.value_held >>= doing.record_of) (doing.is_of_class class) (bind table.value_held doing.record_of value_held record_of) (is_of_class class))
does set code w (instr.Element u links position count) = element u links position count
does set code w (instr.Field u class position) = field u class position
does set code w (instr.Part m n) = bind table.integer_held _ integer_held (λ i. bind doing.pop _ pop (λ c. going_on (doing.part_of m n c i) (part_of m n c i)))
does set code w (instr.Make t) = holding (doing.held_now >>= doing.made_content t) (bind doing.held_now (doing.made_content t) held_now (made_content t))
does set code w (instr.MakeRecord class count) = going_on (doing.pop_all count >>= doing.values_in >>= doing.make_record class) (bind (doing.pop_all count >>= doing.values_in) (doing.make_record class) (bind (doing.pop_all count) doing.values_in (pop_all count) values_in) (make_record class))
does set code w (instr.MakeRecordAlone class count) = going_on (doing.make_record class _) (make_record class _)
does set code w instr.Begin = going_on (table.begin set w) (begin set w)
does set code w (instr.Jump target) = go_to target
does set code w (instr.JumpUnless target) = bind table.truth_held _ truth_held (λ b. test b doing.go_on (doing.go_to target) go_on (go_to target))
does set code w (instr.Choose count) = bind table.integer_held _ integer_held (λ i. choose count (case_number i))
does set code w (instr.Assign t b) = assigned t b
does set code w instr.Assert = bind table.truth_held _ truth_held (λ b. test b _ _ (going_on (doing.hold nothing) (hold nothing)) (fault_now fault.AssertionFalse))
does set code w (instr.SetWidth k position) = bind table.integer_held _ integer_held (λ n. bind (table.widths_here position) _ (widths_here position) (λ ws. going_on (table.widths_become code.marks position (with_width k n ws)) (widths_become code.marks position (with_width k n ws))))
does set code w (instr.Write first position) = bind table.value_held _ value_held (λ v. going_on (table.widths_here position >>= doing.value_written set first v) (bind (table.widths_here position) (doing.value_written set first v) (widths_here position) (value_written set first v)))
does set code w (instr.CloseWidths position) = then (table.cut_to_position position) _ (cut_to_position position) (going_on (doing.hold nothing) (hold nothing))
does set code w (instr.Read next t) = bind table.spot_held _ spot_held (λ k. going_on (doing.scan set next (read_type t) >>= doing.assign t k) (bind (doing.scan set next (read_type t)) (doing.assign t k) (scan set next (read_type t)) (assign t k)))
does set code w (instr.ReadCard t) = bind table.spot_held _ spot_held (λ k. going_on (doing.take_card set >>= doing.assign t k) (bind (doing.take_card set) (doing.assign t k) (take_card set) (assign t k)))
does set code w instr.IoControl = then (table.integer_held >>= doing.io_control) _ (bind table.integer_held doing.io_control integer_held io_control) (going_on (doing.hold nothing) (hold nothing))
does set code w (instr.Goto links position target) = then (table.begin set w) _ (begin set w) (jump_out links position target)
does set code w (instr.Again target) = bind table.truth_held _ truth_held (λ b. test b _ _ (then (doing.tick set) (doing.go_to target) (tick set) (go_to target)) (going_on (doing.hold nothing) (hold nothing)))
does set code w (instr.FirstTurn exit) = bind table.loop_cells _ loop_cells (first_turn set exit)
does set code w (instr.Turn name) = going_on (table.turn code.marks w 0 name 3) (turn code.marks w 0 name 3)
does set code w (instr.NextTurn target position) = then (table.cut_to_position position) _ (cut_to_position position) (bind table.loop_cells _ loop_cells (next_turn set target))
does set code w (instr.ListTurn target name) = bind table.integer_held _ integer_held (λ i. then (doing.push _) _ (push _) (then (doing.tick set) _ (tick set) (bind doing.here _ here (λ k. then (table.turn code.marks w (k + 1) name 1) (doing.go_to target) (turn code.marks w (k + 1) name 1) (go_to target)))))
does set code w (instr.EndTurn position) = bind (doing.entry_out 0 position) _ (entry_out 0 position) (λ e. bind (table.turn_back (Some e)) _ (turn_back e) (λ back. then (table.cut_to_position position) _ (cut_to_position position) (bind doing.pop _ pop (λ c. go_to back))))
does set code w (instr.EnterBlock p) = bind doing.cells_now _ cells_now (λ n. going_on (doing.enter code.marks (a_block p n)) (enter code.marks (a_block p n)))
does set code w (instr.Declare name) = bind doing.cells_now _ cells_now (λ n. then (doing.push nothing) _ (push nothing) (going_on (doing.enter code.marks (a_name name n)) (enter code.marks (a_name name n))))
does set code w (instr.Bounds count) = bind (doing.pop_all (2 * count) >>= doing.integers_in >>= table.paired) _ (bind (doing.pop_all (2 * count) >>= doing.integers_in) table.paired (bind (doing.pop_all (2 * count)) doing.integers_in (pop_all (2 * count)) integers_in) paired) (λ bounds. going_on (doing.hold (some_bounds bounds)) (hold (some_bounds bounds)))
does set code w (instr.DeclareArray t name) = bind (doing.held_now >>= table.bounds_in) _ (bind doing.held_now table.bounds_in held_now bounds_in) (λ bounds. bind doing.cells_now _ cells_now (λ n. then (doing.push_array t bounds) _ (push_array t bounds) (going_on (doing.enter code.marks (a_name name n)) (enter code.marks (a_name name n)))))
does set code w instr.Declared = going_on (table.declare_mark code.marks) (declare_mark code.marks)
does set code w (instr.LeaveBlock position) = bind (doing.entry_out 0 position >>= table.block_cells) _ (bind (doing.entry_out 0 position) table.block_cells (entry_out 0 position) block_cells) (λ n. then (doing.cut_cells n) _ (cut_cells n) (going_on (table.cut_to_position position) (cut_to_position position)))
does set code w (instr.Procedure head behind) = go_to behind
does set code w (instr.Text head behind) = go_to behind
does set code w (instr.HandOn x) = holding (doing.source_out x >>= table.handed) (handed_out x)
does set code w (instr.MakeThunk head type is_variable) = holding (table.thunk_here head type is_variable) (thunk_here head type is_variable)
does set code w (instr.Subarray links position stars) = subarray links position stars
does set code w (instr.Aside head purpose type) = enter_aside code.marks head purpose type
does set code w (instr.UseFormal u links position) = bind (doing.wanted_for u) _ (wanted_for u) (λ purpose. bind (doing.content_out links position >>= doing.thunk_in) _ (bind (doing.content_out links position) doing.thunk_in (content_out links position) thunk_in) (λ t. bind doing.here _ here (λ k. use_thunk set code.marks (k + 1) purpose t)))
does set code w (instr.Call links head site) = bind (doing.text_out links) _ (text_out links) (λ text. bind (doing.there _) _ (there _) (call set code.marks site (record { head = head; link = text })))
does set code w instr.Return = bind doing.current_frame doing.go_back current_frame (λ f. anyway _ (go_back f))
does set code w instr.End = bind doing.last_frame table.finished last_frame finished
does set code w (instr.AssignBack i t) = assign_back i t
does set code w (instr.Compare compares x heads end) = bind (doing.source_out x) (table.compare set code w compares heads end) (source_out x) (compare set code w compares heads end)
does set code w (instr.Prepare x i head) = bind (table.head_from code.instructions x) _ (head_from code.instructions x) (λ p. bind (doing.there _) _ (there _) (prepare code head))
does set code w (instr.CallThrough x site) = call_through set code x site
does set code w (instr.PlaceBack i head) = bind (table.formal_of_last code.instructions i) _ (formal_of_last code.instructions i) (λ f. place_back code.marks head f.is)
does set code w instr.Stop = stops
does set code w instr.Stuck = stuck

-- ---- the law

further_same : (m n : Machine) → further m ≡ further n → m ≡ n
further_same m n e = cc (e)

subst_shown : (m n : Machine) → m ≡ n → IsShown m → IsShown n
subst_shown m n e g = subst IsShown e g

settles : (w : Place) (x : Next (Unit {0})) (n : Machine) → Good x → settled w x ≡ further n → IsShown n
settles w (on a m) n g e = subst_shown m n (further_same m n e) g
settles w (ended m) n g e = absurd (cc (e))
settles w (halted y m) n g e = absurd (cc (e))

row_keeps : (set : Setting) (code : Code) (m n : Machine) (c : Option Coded) → IsShown m → row_by set code m c ≡ further n → IsShown n
row_keeps set code m n None s e = absurd (cc (e))
row_keeps set code m n (Some c) s e = settles c.at (table.does set code c.at c.does m) n ((does set code c.at c.does).by m s) e

reached : (set : Setting) (code : Code) (m : Machine) → IsReached set code m → IsShown m
reached set code m at_start = refl
reached set code m (by_row {m = before} r e) = row_keeps set code before m (slice_get code.instructions before.pc) (reached set code before r) e

pub displays_are_links : DisplaysAreLinks
displays_are_links set code m r =
    let e = reached set code m r in
    record { out = λ n. ap (λ d. d n) e; program = λ levels inside. ap (λ d. d levels) e ∙ inside }
