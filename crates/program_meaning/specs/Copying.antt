-- What a phrase does, by copying: a call means a copy of the procedure's body in which the formals are replaced.
use Rattle.std.specs.Prelude.{ℕ, zero, suc, ◌+◌, ◌-◌, ◌*◌, ℤ, pos, negsuc, ◌+ℤ◌, int_le, List, [], ◌∷◌, ◌++◌, map, length, replicate, Option, Some, None, Result, Ok, Err, Bool, true, false, ◌&&◌, nat_eq, nat_lt, slice_get}
use Rattle.std.specs.Ordering.{int_eq}
use Rattle.value_ops.specs.declared.places.Place.{Place}
use Rattle.value_ops.specs.declared.faults.Fault.{Fault}
use Rattle.value_ops.specs.declared.faults.Fault.TheVariants as fault
use Rattle.value_ops.specs.declared.values.Value.{Value}
use Rattle.value_ops.specs.declared.values.Value.TheVariants as value
use Rattle.value_ops.specs.declared.values.SimpleType.{SimpleType}
use Rattle.value_ops.specs.declared.values.SimpleType.TheVariants as simple
use Rattle.value_ops.specs.Strings.{part}
use Rattle.algolw_typing.specs.Types.{ValueType, Gives, Statement, Simple, Integer, Logical, Bits, Str, Reference, is_place, is_same}
use Rattle.algolw_typing.specs.Verdicts.{Verdict, Good}
use Rattle.algolw_typing.specs.Meanings as typing
use Rattle.algolw_typing.specs.Meanings.{FormalType, by_name, by_value, by_result, by_value_result, for_array, for_procedure, gives_of}
use Rattle.algolw_typing.specs.Actuals.{actuals_fit, procedure_name, wants_procedure}
use Rattle.output_editing.specs.Layout.{Break}
use Rattle.input_editing.specs.Columns.{card_end, card_read, read_from}
use Rattle.input_editing.specs.Scanning.{scanned}
use Rattle.program_meaning.specs.Phrases.{Phrase, Empty, Constant, Named, Variable, Array, Label, Procedure, Copied, Unary, Binary, Relation, IsClass, Element, Field, Part, Record, RecordAlone, IfThen, Case, Block, Call, Assign, WhileDo, ForStep, ForList, Goto, Assert, Write, Read, ReadCard, IoControl, Phrases, no_phrases, phrase_and, Targets, no_targets, target_and, Subscripts, no_subscripts, star_and, subscript_and, Actuals, no_actuals, actual_and, Actual, Given, Alone, Subarray, Items, no_items, item_and, Bounds, no_bounds, bound_and, Decls, no_decls, variables_and, arrays_and, procedure_and, Name, Formal, Mark, Shape, leaf, one, two, three, shape, items_shape, with, with_items, kept, formal_places, label_places, Role, placed, sets}
use Rattle.program_meaning.specs.Operations.{unary, binary, relation}
use Rattle.program_meaning.specs.State as state
use Rattle.program_meaning.specs.State.{M, State, Outcome, on, jump, stop, Setting, Use, for_value, for_place, nothing, a_value, a_spot, Spot, wrong, unfinished, ArrayInfo, Held, a_variable, an_array, a_number, a_procedure, ShownName, in_block, in_call, in_actual, in_turn, ◌>>=◌, ◌>>◌, give, halt, fault_at, test, tick, begin, innermost, take_cells, give_back, holding, push_entry, pop_entry, deeper, shallower, under, entered, show, value_of, spot_of, integer_of, truth_of, string_in, record_in, answer_at, only_value, variable, look, new, made, made_result, assign, the_array, filled_in, subscripted, element_of, make_array, make_record, field_of, is_of_class, spot_within, string_answer, print, read_so_far, set_read, scan_answer, Made, catching, cells_held, set_cells, made_here, for_an_array}
use Rattle.program_meaning.specs.Widths.{WidthsSet, none_set, with_width, value_written}

-- a procedure in which every name but its formals is replaced, and the innermost statement round its declaration
pub record Closed : Type 0 where
  pub name : List ℕ
  pub result : Option ValueType
  pub formals : List Formal
  pub body : Phrase
  pub statement : Place

-- what is put for a name
pub record Put : Type 0 where
  pub name : Place
  pub by : Phrase

abbrev pub puts : List Put → Place → Phrase
puts [] x = Named x
puts (b ∷ bs) x = elim (is_place b.name x) [ true ↦ b.by | false ↦ puts bs x ]

-- ---- the names of a block

abbrev pub dimensions : Bounds → ℕ
dimensions no_bounds = 0
dimensions (bound_and a b rest) = 1 + dimensions rest

-- an array of which no subscript is given
abbrev pub free : ℕ → List (Option ℤ)
free n = replicate n None

abbrev pub numbered : (ℕ → Phrase) → ℕ → List Name → List Put → List Put
numbered by k [] bs = bs
numbered by k (x ∷ xs) bs = record { name = x.place; by = by k } ∷ numbered by (k + 1) xs bs

abbrev pub label_puts : ℕ → List Place → List Put
label_puts l [] = []
label_puts l (x ∷ xs) = record { name = x; by = Label l } ∷ label_puts (l + 1) xs

abbrev pub decl_puts : (variables arrays procedures : ℕ) → Decls → List Put → List Put
decl_puts v a p no_decls bs = bs
decl_puts v a p (variables_and names rest) bs = numbered Variable v names (decl_puts (v + length names) a p rest bs)
decl_puts v a p (arrays_and t names pairs rest) bs = numbered (λ k. Array k (free (dimensions pairs))) a names (decl_puts v (a + length names) p rest bs)
decl_puts v a p (procedure_and x result formals body rest) bs = record { name = x.place; by = Procedure p } ∷ decl_puts v a (p + 1) rest bs

abbrev pub variable_count : Decls → ℕ
variable_count no_decls = 0
variable_count (variables_and names rest) = length names + variable_count rest
variable_count (arrays_and t names pairs rest) = variable_count rest
variable_count (procedure_and x result formals body rest) = variable_count rest

abbrev pub array_count : Decls → ℕ
array_count no_decls = 0
array_count (variables_and names rest) = array_count rest
array_count (arrays_and t names pairs rest) = length names + array_count rest
array_count (procedure_and x result formals body rest) = array_count rest

abbrev pub closed_procedures : Place → (Place → Phrase) → Decls → List Closed
closed_procedures w f no_decls = []
closed_procedures w f (variables_and names rest) = closed_procedures w f rest
closed_procedures w f (arrays_and t names pairs rest) = closed_procedures w f rest
closed_procedures w f (procedure_and x result formals body rest) = record { name = x.text; result = result; formals = formals; body = with (kept (formal_places formals) f) body; statement = w } ∷ closed_procedures w f rest

-- fresh numbers for the names of a block
abbrev pub fresh : {P : Type 0} → Decls → Items → M P (List Put)
fresh decls items s = on (decl_puts (length s.memory) (length s.arrays) (length s.procedures) decls (label_puts s.labels (label_places items))) s

-- the first of the fresh numbers of variables, of arrays and of labels
pub record Firsts : Type 0 where
  pub variables : ℕ
  pub arrays : ℕ
  pub labels : ℕ

abbrev pub firsts : {P : Type 0} → M P Firsts
firsts s = on (record { variables = length s.memory; arrays = length s.arrays; labels = s.labels }) s

-- the block's variables, without values, its arrays, not made yet, its procedures and its labels are there
abbrev pub opened : Place → List Put → Decls → Items → M Closed (Unit {0})
opened w bs decls items s = on tt (record s {
  memory = s.memory ++ replicate (variable_count decls) None;
  arrays = s.arrays ++ replicate (array_count decls) None;
  procedures = s.procedures ++ closed_procedures w (puts bs) decls;
  labels = s.labels + length (label_places items);
})

abbrev pub shown : Name → Held → List ShownName
shown x held = record { text = x.text; held = held } ∷ []

-- the variables of a declaration, from number k on, name by name
abbrev pub declare_variables : {P : Type 0} → Place → ℕ → List Name → M P (Unit {0})
declare_variables w k [] = give tt
declare_variables w k (x ∷ xs) = take_cells 1 w >> (show (shown x (a_variable k)) >> declare_variables w (k + 1) xs)

abbrev pub declare_arrays : {P : Type 0} → Place → ℕ → ValueType → List Name → List (ℤ × ℤ) → M P (Unit {0})
declare_arrays w k t [] bounds = give tt
declare_arrays w k t (x ∷ xs) bounds = make_array w k t bounds >> (show (shown x (an_array k (free (length bounds)))) >> declare_arrays w (k + 1) t xs bounds)

-- the items from the k-th label on
abbrev pub from : ℕ → Items → Items
from k no_items = no_items
from k (item_and labels a rest) = elim (nat_lt k (length labels)) [ true ↦ item_and labels a rest | false ↦ from (k - length labels) rest ]

-- ---- actuals

-- what a formal becomes: a variable with a value, or without one, or what is put for it
pub data Ready : Type 0 where
  with_value : Value → Ready
  without_value : Ready
  put_for : Phrase → Ready

-- an actual is a variable of exactly this type
abbrev pub is_variable_of : ValueType → Bool → Gives → Bool
is_variable_of t is_variable Statement = false
is_variable_of t is_variable (Simple u) = is_variable && is_same u t

abbrev pub mark : Place → Place → Option ValueType → Bool → Mark
mark w first t is_variable = record { type = t; is_variable = is_variable; statement = w; first = first }

abbrev pub value_ready : Place → ValueType → M Closed state.Given → M Closed Ready
value_ready w t m = value_of w m >>= λ v. made w t v >>= λ u. give (with_value u)

-- a phrase, which m does for its value
abbrev pub phrase_ready : FormalType → Place → M Closed state.Given → Bool → Gives → Place → Phrase → M Closed Ready
phrase_ready (by_value t) w m v g first a = value_ready w t m
phrase_ready (by_value_result t) w m v g first a = value_ready w t m
phrase_ready (by_result t) w m v g first a = give without_value
phrase_ready (by_name t) w m v g first a = give (put_for (Copied (mark w first (Some t) (is_variable_of t v g)) a))
phrase_ready (for_procedure result) w m v g first a = give (put_for (Copied (mark w first result false) a))
phrase_ready (for_array t n) w m v g first a = halt wrong w

-- what is put for a procedure or an array formal whose actual is a name alone: what is put for that name
abbrev pub procedure_handed : Place → Phrase → M Closed Ready
procedure_handed w (Procedure k) = give (put_for (Procedure k))
procedure_handed w (Copied mark a) = give (put_for (Copied mark a))
procedure_handed w a = halt wrong w

abbrev pub array_handed : Place → Phrase → M Closed Ready
array_handed w (Array k given) = give (put_for (Array k given))
array_handed w a = halt wrong w

-- the name alone of an array or a procedure; where a value is wanted it is called, which m does
abbrev pub name_ready : FormalType → Place → M Closed state.Given → Place → Phrase → M Closed Ready
name_ready (by_value t) w m p a = value_ready w t m
name_ready (by_name t) w m p a = give (put_for (Copied (mark w p (Some t) false) (Call None true p a no_actuals)))
name_ready (for_procedure result) w m p a = procedure_handed w a
name_ready (for_array t n) w m p a = array_handed w a
name_ready (by_result t) w m p a = halt wrong w
name_ready (by_value_result t) w m p a = halt wrong w

-- what is put for a formal, and how it is shown
pub record Bound : Type 0 where
  pub puts : List Put
  pub names : List ShownName

abbrev pub none_bound : Bound
none_bound = record { puts = []; names = [] }

abbrev pub held_of : Phrase → Held
held_of (Array k given) = an_array k given
held_of (Procedure k) = a_procedure
held_of a = state.by_name

abbrev pub held_for : FormalType → Phrase → Held
held_for (for_procedure result) a = a_procedure
held_for f a = held_of a

abbrev pub bind_to : Formal → Phrase → Held → Bound → Bound
bind_to f a held b = record { puts = record { name = f.name.place; by = a } ∷ b.puts; names = record { text = f.name.text; held = held } ∷ b.names }

-- the formals' variables and copies
abbrev pub bound : Place → List Formal → List Ready → M Closed Bound
bound w [] [] = give none_bound
bound w (f ∷ fs) (with_value v ∷ rs) = new (Some v) >>= λ k. bound w fs rs >>= λ b. give (bind_to f (Variable k) (a_variable k) b)
bound w (f ∷ fs) (without_value ∷ rs) = new None >>= λ k. bound w fs rs >>= λ b. give (bind_to f (Variable k) (a_variable k) b)
bound w (f ∷ fs) (put_for a ∷ rs) = bound w fs rs >>= λ b. give (bind_to f a (held_for f.is a) b)
bound w fs rs = halt wrong w

abbrev pub value_type_of : Gives → Option ValueType
value_type_of Statement = None
value_type_of (Simple t) = Some t

-- a formal's value is given to the place of its actual, of this type, which m evaluates anew
abbrev pub give_back_value : Place → M Closed state.Given → Gives → Phrase → M Closed (Unit {0})
give_back_value w m (Simple t) (Variable k) = spot_of w m >>= λ spot. look w k >>= λ v. assign w t spot v
give_back_value w m g a = halt wrong w

abbrev pub assigned_back : FormalType → Place → M Closed state.Given → Gives → Phrase → M Closed (Unit {0})
assigned_back (by_result t) w m g a = give_back_value w m g a
assigned_back (by_value_result t) w m g a = give_back_value w m g a
assigned_back f w m g a = give tt

-- ---- comparing actuals with formals when a procedure formal is called

abbrev pub formal_types : List Formal → List FormalType
formal_types formals = map (λ f. f.is) formals

abbrev pub stars : List (Option ℤ) → ℕ
stars [] = 0
stars (None ∷ given) = 1 + stars given
stars (Some i ∷ given) = stars given

abbrev pub free_of : Subscripts → ℕ
free_of no_subscripts = 0
free_of (star_and rest) = 1 + free_of rest
free_of (subscript_and a rest) = free_of rest

abbrev pub array_part : Option (Option ArrayInfo) → ℕ → typing.Part
array_part (Some (Some a)) n = typing.as_array a.type n
array_part o n = typing.typeless

abbrev pub procedure_part : FormalType → Option Closed → typing.Part
procedure_part f None = typing.typeless
procedure_part f (Some p) = procedure_name (wants_procedure f) p.result (formal_types p.formals)

-- how the name alone is read: a procedure formal's stands for its own actual
abbrev pub name_part : State Closed → FormalType → Phrase → typing.Part
name_part s f (Array k given) = array_part (slice_get s.arrays k) (stars given)
name_part s f (Procedure k) = procedure_part f (slice_get s.procedures k)
name_part s f (Copied mark a) = typing.a_phrase false (gives_of mark.type)
name_part s f a = typing.typeless

abbrev pub subarray_part : State Closed → Phrase → ℕ → typing.Part
subarray_part s (Array k given) n = array_part (slice_get s.arrays k) n
subarray_part s a n = typing.typeless

abbrev pub actual_part : State Closed → FormalType → Actual → typing.Part
actual_part s f (Given v g first a) = typing.a_phrase v g
actual_part s f (Alone p a) = name_part s f a
actual_part s f (Subarray a subscripts) = subarray_part s a (free_of subscripts)

abbrev pub actual_parts : State Closed → List Formal → Actuals → List typing.Part
actual_parts s (f ∷ fs) (actual_and a rest) = actual_part s f.is a ∷ actual_parts s fs rest
actual_parts s fs more = []

abbrev pub actual_count : Actuals → ℕ
actual_count no_actuals = 0
actual_count (actual_and a rest) = 1 + actual_count rest

abbrev pub is_good : Verdict → Bool
is_good (Good g) = true
is_good v = false

abbrev pub they_fit : Place → State Closed → List Formal → Actuals → Bool
they_fit w s formals given = nat_eq (length formals) (actual_count given) && is_good (actuals_fit w (formal_types formals) (actual_parts s formals given) (Good Statement))

-- F10 where the actuals don't fit
abbrev pub compared : Place → Bool → List Formal → Actuals → M Closed (Unit {0})
compared w false formals given s = on tt s
compared w true formals given s = elim (they_fit w s formals given) [ true ↦ on (tt {0}) s | false ↦ stop (state.by_fault fault.ActualsDoNotFit) w s ]

abbrev pub no_actuals_given : {P : Type 0} → Place → Actuals → M P (Unit {0})
no_actuals_given w no_actuals = give tt
no_actuals_given w (actual_and a rest) = fault_at fault.ActualsDoNotFit w

-- ---- what is done

-- what may come behind a counted step: a phrase; a turn of WHILE, of FOR with a step, of FOR with a list; the items of a block from a label on
pub data Job : Type 0 where
  phrase_job : Use → (w : Place) → Phrase → Job
  while_job : (w : Place) → Phrase → Phrase → Job
  step_job : (w : Place) → Name → (control step limit : ℤ) → Phrase → Job
  list_job : (w : Place) → Name → (control : ℤ) → Phrase → Job
  items_job : Made → (w : Place) → Items → ℕ → Job

abbrev pub procedure_at : Place → Option Closed → M Closed Closed
procedure_at w None = halt wrong w
procedure_at w (Some p) = give p

abbrev pub the_procedure : Place → ℕ → M Closed Closed
the_procedure w k s = procedure_at w (slice_get s.procedures k) s

-- whether a FOR has a turn more: the control value is no farther than the limit, in the direction of the step
abbrev pub has_turn : (control step limit : ℤ) → Bool
has_turn i (pos n) k = int_le i k
has_turn i (negsuc n) k = int_le k i

abbrev pub at_control : Name → ℤ → Phrase → Phrase
at_control x i body = with (puts (record { name = x.place; by = Constant (value.Integer i) } ∷ [])) body

-- the simple type of what is read
abbrev pub read_type : ValueType → Option SimpleType
read_type Integer = Some simple.Integer
read_type Logical = Some simple.Logical
read_type Bits = Some simple.Bits
read_type (Str n) = Some (simple.Str n)
read_type (Reference set) = None

abbrev pub scan : {P : Type 0} → Setting → Place → Bool → Option SimpleType → M P Value
scan set w next None = halt wrong w
scan set w next (Some t) = read_so_far >>= λ n. scan_answer w (scanned set.cards (read_from next n) t)

-- a card that is read, as the value that it is
abbrev pub string_read : Result (List ℕ × ℕ) Fault → Result (Value × ℕ) Fault
string_read (Ok (text, n)) = Ok (value.Str text, n)
string_read (Err f) = Err f

-- the next card, as a STRING(80)
abbrev pub take_card : {P : Type 0} → Setting → Place → M P Value
take_card set w = read_so_far >>= λ n. scan_answer w (string_read (card_read set.cards n))

-- IOCONTROL(1) drops the rest of the card, IOCONTROL(2) closes the open line
abbrev pub io_control : {P : Type 0} → ℤ → M P (Unit {0})
io_control (pos n) = test (nat_eq n 1) (read_so_far >>= λ k. set_read (card_end k)) (test (nat_eq n 2) (print (Break ∷ [])) (give tt))
io_control (negsuc n) = give tt

-- a statement gives nothing; an assignment that is the right side of another gives its value
abbrev pub assigned : Option Place → Value → state.Given
assigned None v = a_value v
assigned (Some st) v = nothing

abbrev pub case_number : ℤ → Option ℕ
case_number (pos (suc n)) = Some n
case_number n = None

-- a function's value takes a cell while the formals are assigned back
abbrev pub value_held : {P : Type 0} → Option ValueType → Place → M P (Unit {0}) → M P (Unit {0})
value_held None w m = m
value_held (Some t) w m = holding w m

-- a procedure without actuals has no formals
abbrev pub no_formals : Place → List Formal → M Closed (List Ready)
no_formals w [] = give []
no_formals w (f ∷ fs) = halt wrong w

-- how many cells the subscripts of a subarray take
abbrev pub cells_of : List (Option ℤ) → ℕ
cells_of [] = 0
cells_of (None ∷ is) = cells_of is
cells_of (Some i ∷ is) = 1 + cells_of is

module _ (set : Setting) (later : Job → M Closed state.Given) where
  -- a copied actual is used
  abbrev pub copied : Use → Place → Mark → Phrase → M Closed state.Given
  copied for_value w mark a = tick set w >> (entered w (in_actual mark.first) (later (phrase_job for_value mark.statement a)) >>= made_result w mark.type)
  copied for_place w mark a = tick set w >> test mark.is_variable (entered w (in_actual mark.first) (later (phrase_job for_place mark.statement a))) (fault_at fault.AssignmentToNoVariable w)

  abbrev pub went : Place → Phrase → M Closed state.Given
  went w (Label l) s = jump l s
  went w a s = stop wrong w s

  abbrev pub while_turns : Place → M Closed state.Given → Phrase → Phrase → M Closed state.Given
  while_turns w m c body = truth_of w m >>= λ b. test b (tick set w >> later (while_job w c body)) (give nothing)

  abbrev pub step_turns : Place → Name → (control step limit : ℤ) → Phrase → M Closed state.Given
  step_turns w x i j k body = test (has_turn i j k) (tick set w >> later (step_job w x i j k body)) (give nothing)

  -- a block with these numbers for its names
  abbrev pub with_numbers : Place → Decls → Items → (Firsts → M Closed (Unit {0})) → (Items → M Closed state.Given) → Firsts → List Put → M Closed state.Given
  with_numbers w decls items declared done n bs =
      opened w bs decls items >> (declared n >> (made_here n.labels (length (label_places items)) >>= λ b.
      catching b (λ k. later (items_job b w (with_items (puts bs) items) k)) (done (with_items (puts bs) items))))

  abbrev pub block : Place → Place → Decls → Items → (Firsts → M Closed (Unit {0})) → (Items → M Closed state.Given) → M Closed state.Given
  block w p decls items declared done =
      under (in_block p []) (cells_held >>= λ held. firsts >>= λ n. fresh decls items >>= with_numbers w decls items declared done n >>= λ r. set_cells held >> give r)

  -- the body of a procedure, its value, and the assigning back
  abbrev pub body_done : Closed → (List Put → M Closed (Unit {0})) → Bound → M Closed state.Given
  body_done p back b =
      later (phrase_job for_value p.statement (with (puts b.puts) p.body)) >>= made_result p.statement p.result >>= λ r.
      value_held p.result p.statement (back b.puts) >> give r

  abbrev pub called : Place → Place → Closed → M Closed (List Ready) → (List Put → M Closed (Unit {0})) → M Closed state.Given
  called w p procedure ready back =
      ready >>= λ rs. tick set w >> (deeper w >> (bound w procedure.formals rs >>= λ b.
      under (in_call procedure.name p b.names) (body_done procedure back b) >>= λ r.
      shallower >> (give_back (length procedure.formals) >> give r)))

  abbrev pub invoked : Place → Bool → Place → Phrase → Actuals → (List Formal → M Closed (List Ready)) → (List Formal → List Put → M Closed (Unit {0})) → M Closed state.Given
  invoked w compares p (Procedure k) given ready back = the_procedure w k >>= λ procedure. compared w compares procedure.formals given >> called w p procedure (ready procedure.formals) (back procedure.formals)
  invoked w compares p (Copied mark a) given ready back = no_actuals_given w given >> copied for_value w mark a
  invoked w compares p a given ready back = halt wrong w

  -- an element of an array, whose subscripts are used now
  abbrev pub element_at : Use → Place → Phrase → List ℤ → M Closed state.Given
  element_at u w (Array k given) is = element_of u w k (filled_in given (map (λ i. Some i) is)) >>= λ r. give_back (length is) >> give r
  element_at u w a is = halt wrong w

  -- a subarray of an array: F3 unless its subscripts are within their bounds
  abbrev pub subarray_at : Place → Phrase → List (Option ℤ) → M Closed Ready
  subarray_at w (Array k given) is = the_array w k >>= λ a. subscripted w a (filled_in given is) (give_back (cells_of is) >> give (put_for (Array k (filled_in given is))))
  subarray_at w a is = halt wrong w

  abbrev mutual
    -- what a phrase does, by its shape, for this use, within this innermost statement
    pub go : Shape → Use → Place → Phrase → M Closed state.Given
    go leaf u w Empty = give nothing
    go leaf u w (Constant v) = only_value u w (give (a_value v))
    go leaf u w (Variable k) = variable u w k
    go leaf u w (Copied mark a) = copied u w mark a
    go (one x) u w (Unary op a) = only_value u w (value_of w (go x for_value w a) >>= λ v. answer_at w (unary op v))
    go (two x y) u w (Binary op a b) = only_value u w (value_of w (go x for_value w a) >>= λ v. holding w (value_of w (go y for_value w b)) >>= λ v'. answer_at w (binary op v v'))
    go (two x y) u w (Relation op a b) = only_value u w (value_of w (go x for_value w a) >>= λ v. holding w (value_of w (go y for_value w b)) >>= λ v'. answer_at w (relation op v v'))
    go (one x) u w (IsClass a class) = only_value u w (value_of w (go x for_value w a) >>= record_in w >>= is_of_class w class)
    go (one x) u w (Element a subscripts) = go_subscripts x w subscripts >>= element_at u w a
    go (one x) u w (Field class position a) = value_of w (go x for_value w a) >>= record_in w >>= field_of u w class position
    go (two x y) for_value w (Part m n a start) = value_of w (go x for_value w a) >>= string_in w >>= λ s. holding w (integer_of w (go y for_value w start)) >>= λ i. string_answer w (part s i n)
    go (two x y) for_place w (Part m n a start) = spot_of w (go x for_place w a) >>= λ k. holding w (integer_of w (go y for_value w start)) >>= spot_within w m n k
    go (one x) u w (Record class types values) = only_value u w (go_fields x w types values >>= λ vs. make_record w class vs >>= λ r. give_back (length vs) >> give r)
    go leaf u w (RecordAlone class n) = only_value u w (make_record w class (replicate n None))
    go (three x y z) u w (IfThen st t c a b) = only_value u w (begin set st >> (truth_of (innermost w st) (go x for_value (innermost w st) c) >>= λ truth. test truth (go y for_value (innermost w st) a) (go z for_value (innermost w st) b) >>= made_result (innermost w st) t))
    go (two x y) u w (Case st t c parts) = only_value u w (begin set st >> (integer_of (innermost w st) (go x for_value (innermost w st) c) >>= λ i. go_case y (innermost w st) (case_number i) parts >>= made_result (innermost w st) t))
    go (two x y) u w (Block st p decls items) = only_value u w (begin set st >> block (innermost w st) p decls items (λ n. go_decls x (innermost w st) n.variables n.arrays decls) (go_items y (innermost w st)))
    go (one x) u w (Call st compares p a actuals) = only_value u w (begin set st >> invoked (innermost w st) compares p a actuals (λ fs. go_actuals x (innermost w st) fs actuals) (λ fs bs. go_back x (innermost w st) fs actuals bs))
    go (two x y) u w (Assign st t a b) = only_value u w (begin set st >> (spot_of (innermost w st) (go x for_place (innermost w st) a) >>= λ k. holding (innermost w st) (value_of (innermost w st) (go y for_value (innermost w st) b) >>= λ v. assign (innermost w st) t k v >> give (assigned st v))))
    go (one x) u w (WhileDo st c body) = only_value u w (begin set (Some st) >> while_turns st (go x for_value st c) c body)
    go (three x y z) u w (ForStep st name a b c body) = only_value u w (begin set (Some st) >> (integer_of st (go x for_value st a) >>= λ i. take_cells 1 st >> (integer_of st (go y for_value st b) >>= λ j. take_cells 1 st >> (integer_of st (go z for_value st c) >>= λ k. take_cells 1 st >> (test (int_eq j (pos 0)) (fault_at fault.StepZero st) (step_turns st name i j k body) >> (give_back 3 >> give nothing))))))
    go (one x) u w (ForList st name values body) = only_value u w (begin set (Some st) >> (go_list x st name values body >> give nothing))
    go leaf u w (Goto st a) = begin set (Some st) >> went st a
    go (one x) u w (Assert st c) = only_value u w (begin set (Some st) >> (truth_of st (go x for_value st c) >>= λ truth. test truth (give nothing) (fault_at fault.AssertionFalse st)))
    go (one x) u w (Write st first roles values) = only_value u w (begin set (Some st) >> (go_writes x st first none_set roles values >> give nothing))
    go (one x) u w (Read st next targets) = only_value u w (begin set (Some st) >> (go_reads x st next targets >> give nothing))
    go (one x) u w (ReadCard st targets) = only_value u w (begin set (Some st) >> (go_cards x st targets >> give nothing))
    go (one x) u w (IoControl st a) = only_value u w (begin set (Some st) >> (integer_of st (go x for_value st a) >>= λ i. io_control i >> give nothing))
    go x u w a = halt wrong w

    -- each subscript takes a cell until all are used
    pub go_subscripts : Shape → Place → Phrases → M Closed (List ℤ)
    go_subscripts leaf w no_phrases = give []
    go_subscripts (two x y) w (phrase_and a rest) = integer_of w (go x for_value w a) >>= λ i. take_cells 1 w >> (go_subscripts y w rest >>= λ is. give (i ∷ is))
    go_subscripts x w rest = halt wrong w

    -- the values of a record's fields, each of which takes a cell until the record is made
    pub go_fields : Shape → Place → List ValueType → Phrases → M Closed (List (Option Value))
    go_fields leaf w [] no_phrases = give []
    go_fields (two x y) w (t ∷ ts) (phrase_and a rest) = value_of w (go x for_value w a) >>= made w t >>= λ v. take_cells 1 w >> (go_fields y w ts rest >>= λ vs. give (Some v ∷ vs))
    go_fields x w ts rest = halt wrong w

    -- the part of this number, F5 where there is none
    pub go_case : Shape → Place → Option ℕ → Phrases → M Closed state.Given
    go_case x w None rest = fault_at fault.CaseOutsideRange w
    go_case leaf w (Some n) no_phrases = fault_at fault.CaseOutsideRange w
    go_case (two x y) w (Some zero) (phrase_and a rest) = go x for_value w a
    go_case (two x y) w (Some (suc n)) (phrase_and a rest) = go_case y w (Some n) rest
    go_case x w n rest = halt wrong w

    -- a turn for each value
    pub go_list : Shape → Place → Name → Phrases → Phrase → M Closed (Unit {0})
    go_list leaf w name no_phrases body = give tt
    go_list (two x y) w name (phrase_and a rest) body = integer_of w (go x for_value w a) >>= λ i. holding w (tick set w >> later (list_job w name i body)) >> go_list y w name rest body
    go_list x w name rest body = halt wrong w

    -- a value is there before the widths by which it is placed
    pub go_writes : Shape → Place → Bool → WidthsSet → List Role → Phrases → M Closed (Unit {0})
    go_writes leaf w first ws roles no_phrases = give tt
    go_writes (two x y) w first ws (placed ∷ roles) (phrase_and a rest) = value_of w (go x for_value w a) >>= λ v. value_written set w first ws v >> go_writes y w false ws roles rest
    go_writes (two x y) w first ws (sets k ∷ roles) (phrase_and a rest) = integer_of w (go x for_value w a) >>= λ n. go_writes y w first (with_width k n ws) roles rest
    go_writes x w first ws roles rest = halt wrong w

    pub go_reads : Shape → Place → Bool → Targets → M Closed (Unit {0})
    go_reads leaf w next no_targets = give tt
    go_reads (two x y) w next (target_and t a rest) = spot_of w (go x for_place w a) >>= λ k. scan set w next (read_type t) >>= λ v. assign w t k v >> go_reads y w false rest
    go_reads x w next rest = halt wrong w

    pub go_cards : Shape → Place → Targets → M Closed (Unit {0})
    go_cards leaf w no_targets = give tt
    go_cards (two x y) w (target_and t a rest) = spot_of w (go x for_place w a) >>= λ k. take_card set w >>= λ v. assign w t k v >> go_cards y w rest
    go_cards x w rest = halt wrong w

    -- all items, one after the other; the last one tells what is given
    pub go_items : Shape → Place → Items → M Closed state.Given
    go_items leaf w no_items = give nothing
    go_items (two x leaf) w (item_and labels a no_items) = go x for_value w a
    go_items (two x y) w (item_and labels a rest) = go x for_value w a >> go_items y w rest
    go_items x w rest = halt wrong w

    -- the bounds of a declaration, each of which takes a cell until all are there
    pub go_bounds : Shape → Place → Bounds → M Closed (List (ℤ × ℤ))
    go_bounds leaf w no_bounds = give []
    go_bounds (three x y z) w (bound_and a b rest) = integer_of w (go x for_value w a) >>= λ i. take_cells 1 w >> (integer_of w (go y for_value w b) >>= λ j. take_cells 1 w >> (go_bounds z w rest >>= λ bs. give ((i, j) ∷ bs)))
    go_bounds x w bs = halt wrong w

    -- the declarations are made in order, their variables and arrays from these numbers on
    pub go_decls : Shape → Place → (variables arrays : ℕ) → Decls → M Closed (Unit {0})
    go_decls leaf w v n no_decls = give tt
    go_decls (one x) w v n (variables_and names rest) = declare_variables w v names >> go_decls x w (v + length names) n rest
    go_decls (two x y) w v n (arrays_and t names pairs rest) = go_bounds x w pairs >>= λ bs. give_back (2 * length bs) >> (declare_arrays w n t names bs >> go_decls y w v (n + length names) rest)
    go_decls (one x) w v n (procedure_and name result formals body rest) = go_decls x w v n rest
    go_decls x w v n rest = halt wrong w

    -- the subscripts of a subarray, each of which that is no `*` takes a cell until all are used
    pub go_stars : Shape → Place → Subscripts → M Closed (List (Option ℤ))
    go_stars leaf w no_subscripts = give []
    go_stars (one x) w (star_and rest) = go_stars x w rest >>= λ is. give (None ∷ is)
    go_stars (two x y) w (subscript_and a rest) = integer_of w (go x for_value w a) >>= λ i. take_cells 1 w >> (go_stars y w rest >>= λ is. give (Some i ∷ is))
    go_stars x w rest = halt wrong w

    -- an actual is made ready for its formal
    pub go_actual : Shape → Place → FormalType → Actual → M Closed Ready
    go_actual (one x) w f (Given v g first a) = phrase_ready f w (go x for_value w a) v g first a
    go_actual leaf w f (Alone p a) = name_ready f w (invoked w true p a no_actuals (λ fs. no_formals w fs) (λ fs bs. give tt)) p a
    go_actual (one x) w f (Subarray a subscripts) = for_an_array w f (go_stars x w subscripts >>= subarray_at w a)
    go_actual x w f a = halt wrong w

    -- each formal takes a cell once its actual is ready
    pub go_actuals : Shape → Place → List Formal → Actuals → M Closed (List Ready)
    go_actuals leaf w [] no_actuals = give []
    go_actuals (two x y) w (f ∷ fs) (actual_and a rest) = go_actual x w f.is a >>= λ r. take_cells 1 w >> (go_actuals y w fs rest >>= λ rs. give (r ∷ rs))
    go_actuals x w fs rest = halt wrong w

    -- the formals are assigned back from left to right
    pub go_back : Shape → Place → List Formal → Actuals → List Put → M Closed (Unit {0})
    go_back leaf w [] no_actuals [] = give tt
    go_back (two (one x) y) w (f ∷ fs) (actual_and (Given v g first a) rest) (b ∷ bs) = assigned_back f.is w (go x for_place w a) g b.by >> go_back y w fs rest bs
    go_back (two x y) w (f ∷ fs) (actual_and a rest) (b ∷ bs) = go_back y w fs rest bs
    go_back x w fs rest bs = halt wrong w

  -- one job, where what comes behind a counted step is done by later
  abbrev pub does : Job → M Closed state.Given
  does (phrase_job u w a) = go (shape a) u w a
  does (while_job w c body) = go (shape body) for_value w body >> while_turns w (go (shape c) for_value w c) c body
  does (step_job w x i j k body) = under (in_turn w (shown x (a_number i))) (go (shape (at_control x i body)) for_value w (at_control x i body)) >> step_turns w x (i +ℤ j) j k body
  does (list_job w x i body) = under (in_turn w (shown x (a_number i))) (go (shape (at_control x i body)) for_value w (at_control x i body))
  does (items_job b w items k) = catching b (λ j. later (items_job b w items j)) (go_items (items_shape (from k items)) w (from k items))

-- n bounds the steps that may be counted
abbrev pub run : Setting → ℕ → Job → M Closed state.Given
run set zero job = halt unfinished (record { card = 0; column = 0 })
run set (suc n) job = does set (run set n) job
