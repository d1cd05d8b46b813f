-- What a phrase does, by environments: no phrase is ever replaced, and a name means what its environment says.
use Rattle.std.specs.Prelude.{ℕ, zero, suc, ◌+◌, ◌*◌, ℤ, pos, ◌+ℤ◌, List, [], ◌∷◌, ◌++◌, map, length, replicate, Option, Some, None, Bool, true, false, ◌&&◌, nat_eq, slice_get}
use Rattle.std.specs.Ordering.{int_eq}
use Rattle.value_ops.specs.declared.places.Place.{Place}
use Rattle.value_ops.specs.declared.faults.Fault.TheVariants as fault
use Rattle.value_ops.specs.declared.values.Value.{Value}
use Rattle.value_ops.specs.declared.values.Value.TheVariants as value
use Rattle.value_ops.specs.Strings.{part}
use Rattle.algolw_typing.specs.Types.{ValueType, Gives, Statement, Simple, is_place}
use Rattle.algolw_typing.specs.Verdicts.{Good}
use Rattle.algolw_typing.specs.Meanings as typing
use Rattle.algolw_typing.specs.Meanings.{FormalType, by_name, by_value, by_result, by_value_result, for_array, for_procedure, gives_of}
use Rattle.algolw_typing.specs.Actuals.{actuals_fit, procedure_name, wants_procedure}
use Rattle.program_meaning.specs.Phrases.{Phrase, Empty, Constant, Named, Variable, Array, Label, Procedure, Copied, Unary, Binary, Relation, IsClass, Element, Field, Part, Record, RecordAlone, IfThen, Case, Block, Call, Assign, WhileDo, ForStep, ForList, Goto, Assert, Write, Read, ReadCard, IoControl, Phrases, no_phrases, phrase_and, Targets, no_targets, target_and, Subscripts, no_subscripts, star_and, subscript_and, Actuals, no_actuals, actual_and, Actual, Given, Alone, Subarray, Items, no_items, item_and, Bounds, no_bounds, bound_and, Decls, no_decls, variables_and, arrays_and, procedure_and, Name, Formal, Mark, label_places, Role, placed, sets}
use Rattle.program_meaning.specs.Operations.{unary, binary, relation}
use Rattle.program_meaning.specs.State as state
use Rattle.program_meaning.specs.State.{M, State, Outcome, on, jump, stop, Setting, Use, for_value, for_place, nothing, a_value, wrong, unfinished, Held, a_variable, an_array, a_number, a_procedure, ShownName, in_block, in_call, in_actual, in_turn, ◌>>=◌, ◌>>◌, give, halt, fault_at, test, tick, begin, innermost, take_cells, give_back, holding, deeper, shallower, under, entered, value_of, spot_of, integer_of, truth_of, string_in, record_in, answer_at, only_value, variable, look, new, made, made_result, assign, the_array, filled_in, subscripted, element_of, make_record, field_of, is_of_class, spot_within, string_answer, Made, catching, cells_held, set_cells, made_here, for_an_array}
use Rattle.program_meaning.specs.Widths.{WidthsSet, none_set, with_width, value_written}
use Rattle.program_meaning.specs.Copying.{dimensions, free, variable_count, array_count, Firsts, firsts, shown, declare_variables, declare_arrays, from, is_variable_of, mark, formal_types, stars, free_of, array_part, actual_count, is_good, no_actuals_given, has_turn, read_type, scan, take_card, io_control, assigned, case_number, cells_of, value_held}

mutual
  -- a finite list of names, each with what it means; a name means its first entry
  pub data Env : Type 0 where
    empty : Env
    bind : Place → Thing → Env → Env

  -- what a name means: a thunk is an actual together with the environment of its call
  pub data Thing : Type 0 where
    to_constant : Value → Thing
    to_variable : ℕ → Thing
    to_array : ℕ → List (Option ℤ) → Thing
    to_label : ℕ → Thing
    to_procedure : ℕ → Thing
    thunk : Mark → Phrase → Env → Thing

abbrev pub find : Env → Place → Option Thing
find empty x = None
find (bind y t e) x = elim (is_place y x) [ true ↦ Some t | false ↦ find e x ]

-- a procedure with the environment of its block
pub record Bodied : Type 0 where
  pub name : List ℕ
  pub result : Option ValueType
  pub formals : List Formal
  pub body : Phrase
  pub statement : Place
  pub env : Env

pub record Meant : Type 0 where
  pub name : Place
  pub by : Thing

abbrev pub extend : List Meant → Env → Env
extend [] e = e
extend (b ∷ bs) e = bind b.name b.by (extend bs e)

-- ---- the names of a block

abbrev pub numbered : (ℕ → Thing) → ℕ → List Name → List Meant → List Meant
numbered by k [] bs = bs
numbered by k (x ∷ xs) bs = record { name = x.place; by = by k } ∷ numbered by (k + 1) xs bs

abbrev pub label_things : ℕ → List Place → List Meant
label_things l [] = []
label_things l (x ∷ xs) = record { name = x; by = to_label l } ∷ label_things (l + 1) xs

abbrev pub decl_things : (variables arrays procedures : ℕ) → Decls → List Meant → List Meant
decl_things v a p no_decls bs = bs
decl_things v a p (variables_and names rest) bs = numbered to_variable v names (decl_things (v + length names) a p rest bs)
decl_things v a p (arrays_and t names pairs rest) bs = numbered (λ k. to_array k (free (dimensions pairs))) a names (decl_things v (a + length names) p rest bs)
decl_things v a p (procedure_and x result formals body rest) bs = record { name = x.place; by = to_procedure p } ∷ decl_things v a (p + 1) rest bs

abbrev pub bodied_procedures : Place → Env → Decls → List Bodied
bodied_procedures w e no_decls = []
bodied_procedures w e (variables_and names rest) = bodied_procedures w e rest
bodied_procedures w e (arrays_and t names pairs rest) = bodied_procedures w e rest
bodied_procedures w e (procedure_and x result formals body rest) = record { name = x.text; result = result; formals = formals; body = body; statement = w; env = e } ∷ bodied_procedures w e rest

abbrev pub fresh : {P : Type 0} → Decls → Items → M P (List Meant)
fresh decls items s = on (decl_things (length s.memory) (length s.arrays) (length s.procedures) decls (label_things s.labels (label_places items))) s

abbrev pub opened : Place → Env → Decls → Items → M Bodied (Unit {0})
opened w e decls items s = on tt (record s {
  memory = s.memory ++ replicate (variable_count decls) None;
  arrays = s.arrays ++ replicate (array_count decls) None;
  procedures = s.procedures ++ bodied_procedures w e decls;
  labels = s.labels + length (label_places items);
})

-- ---- actuals

pub data Ready : Type 0 where
  with_value : Value → Ready
  without_value : Ready
  put_for : Thing → Ready

-- what a phrase of one name means
abbrev pub head : Env → Phrase → Option Thing
head e (Named x) = find e x
head e (Constant v) = Some (to_constant v)
head e (Variable k) = Some (to_variable k)
head e (Array k given) = Some (to_array k given)
head e (Label l) = Some (to_label l)
head e (Procedure k) = Some (to_procedure k)
head e (Copied m a) = Some (thunk m a empty)
head e a = None

abbrev pub value_ready : Place → ValueType → M Bodied state.Given → M Bodied Ready
value_ready w t m = value_of w m >>= λ v. made w t v >>= λ u. give (with_value u)

abbrev pub phrase_ready : FormalType → Place → M Bodied state.Given → Bool → Gives → Place → Phrase → Env → M Bodied Ready
phrase_ready (by_value t) w m v g first a e = value_ready w t m
phrase_ready (by_value_result t) w m v g first a e = value_ready w t m
phrase_ready (by_result t) w m v g first a e = give without_value
phrase_ready (by_name t) w m v g first a e = give (put_for (thunk (mark w first (Some t) (is_variable_of t v g)) a e))
phrase_ready (for_procedure result) w m v g first a e = give (put_for (thunk (mark w first result false) a e))
phrase_ready (for_array t n) w m v g first a e = halt wrong w

-- for a procedure formal, and for an array
abbrev pub procedure_handed : Place → Option Thing → M Bodied Ready
procedure_handed w (Some (to_procedure k)) = give (put_for (to_procedure k))
procedure_handed w (Some (thunk m a e)) = give (put_for (thunk m a e))
procedure_handed w o = halt wrong w

abbrev pub array_handed : Place → Option Thing → M Bodied Ready
array_handed w (Some (to_array k given)) = give (put_for (to_array k given))
array_handed w o = halt wrong w

abbrev pub name_ready : FormalType → Place → M Bodied state.Given → Place → Phrase → Env → M Bodied Ready
name_ready (by_value t) w m p a e = value_ready w t m
name_ready (by_name t) w m p a e = give (put_for (thunk (mark w p (Some t) false) (Call None true p a no_actuals) e))
name_ready (for_procedure result) w m p a e = procedure_handed w (head e a)
name_ready (for_array t n) w m p a e = array_handed w (head e a)
name_ready (by_result t) w m p a e = halt wrong w
name_ready (by_value_result t) w m p a e = halt wrong w

pub record Bound : Type 0 where
  pub puts : List Meant
  pub names : List ShownName

abbrev pub none_bound : Bound
none_bound = record { puts = []; names = [] }

abbrev pub held_of : Thing → Held
held_of (to_array k given) = an_array k given
held_of (to_procedure k) = a_procedure
held_of t = state.by_name

abbrev pub held_for : FormalType → Thing → Held
held_for (for_procedure result) t = a_procedure
held_for f t = held_of t

abbrev pub bind_to : Formal → Thing → Held → Bound → Bound
bind_to f t held b = record { puts = record { name = f.name.place; by = t } ∷ b.puts; names = record { text = f.name.text; held = held } ∷ b.names }

abbrev pub bound : Place → List Formal → List Ready → M Bodied Bound
bound w [] [] = give none_bound
bound w (f ∷ fs) (with_value v ∷ rs) = new (Some v) >>= λ k. bound w fs rs >>= λ b. give (bind_to f (to_variable k) (a_variable k) b)
bound w (f ∷ fs) (without_value ∷ rs) = new None >>= λ k. bound w fs rs >>= λ b. give (bind_to f (to_variable k) (a_variable k) b)
bound w (f ∷ fs) (put_for t ∷ rs) = bound w fs rs >>= λ b. give (bind_to f t (held_for f.is t) b)
bound w fs rs = halt wrong w

abbrev pub give_back_value : Place → M Bodied state.Given → Gives → Thing → M Bodied (Unit {0})
give_back_value w m (Simple t) (to_variable k) = spot_of w m >>= λ spot. look w k >>= λ v. assign w t spot v
give_back_value w m g t = halt wrong w

abbrev pub assigned_back : FormalType → Place → M Bodied state.Given → Gives → Thing → M Bodied (Unit {0})
assigned_back (by_result t) w m g a = give_back_value w m g a
assigned_back (by_value_result t) w m g a = give_back_value w m g a
assigned_back f w m g a = give tt

-- ---- comparing actuals with formals when a procedure formal is called

abbrev pub procedure_part : FormalType → Option Bodied → typing.Part
procedure_part f None = typing.typeless
procedure_part f (Some p) = procedure_name (wants_procedure f) p.result (formal_types p.formals)

abbrev pub name_part : State Bodied → FormalType → Option Thing → typing.Part
name_part s f (Some (to_array k given)) = array_part (slice_get s.arrays k) (stars given)
name_part s f (Some (to_procedure k)) = procedure_part f (slice_get s.procedures k)
name_part s f (Some (thunk m a e)) = typing.a_phrase false (gives_of m.type)
name_part s f o = typing.typeless

abbrev pub subarray_part : State Bodied → Option Thing → ℕ → typing.Part
subarray_part s (Some (to_array k given)) n = array_part (slice_get s.arrays k) n
subarray_part s o n = typing.typeless

abbrev pub actual_part : State Bodied → Env → FormalType → Actual → typing.Part
actual_part s e f (Given v g first a) = typing.a_phrase v g
actual_part s e f (Alone p a) = name_part s f (head e a)
actual_part s e f (Subarray a subscripts) = subarray_part s (head e a) (free_of subscripts)

abbrev pub actual_parts : State Bodied → Env → List Formal → Actuals → List typing.Part
actual_parts s e (f ∷ fs) (actual_and a rest) = actual_part s e f.is a ∷ actual_parts s e fs rest
actual_parts s e fs more = []

abbrev pub they_fit : Place → State Bodied → Env → List Formal → Actuals → Bool
they_fit w s e formals given = nat_eq (length formals) (actual_count given) && is_good (actuals_fit w (formal_types formals) (actual_parts s e formals given) (Good Statement))

abbrev pub compared : Place → Bool → Env → List Formal → Actuals → M Bodied (Unit {0})
compared w false e formals given s = on tt s
compared w true e formals given s = elim (they_fit w s e formals given) [ true ↦ on (tt {0}) s | false ↦ stop (state.by_fault fault.ActualsDoNotFit) w s ]

-- ---- what is done

pub data Job : Type 0 where
  phrase_job : Use → (w : Place) → Phrase → Env → Job
  while_job : (w : Place) → Phrase → Phrase → Env → Job
  step_job : (w : Place) → Name → (control step limit : ℤ) → Phrase → Env → Job
  list_job : (w : Place) → Name → (control : ℤ) → Phrase → Env → Job
  items_job : Made → (w : Place) → Items → Env → ℕ → Job

abbrev pub procedure_at : Place → Option Bodied → M Bodied Bodied
procedure_at w None = halt wrong w
procedure_at w (Some p) = give p

abbrev pub the_procedure : Place → ℕ → M Bodied Bodied
the_procedure w k s = procedure_at w (slice_get s.procedures k) s

abbrev pub at_control : Name → ℤ → Env → Env
at_control x i e = bind x.place (to_constant (value.Integer i)) e

abbrev pub no_formals : Place → List Formal → M Bodied (List Ready)
no_formals w [] = give []
no_formals w (f ∷ fs) = halt wrong w

module _ (set : Setting) (later : Job → M Bodied state.Given) where
  abbrev pub copied : Use → Place → Mark → Phrase → Env → M Bodied state.Given
  copied for_value w m a e = tick set w >> (entered w (in_actual m.first) (later (phrase_job for_value m.statement a e)) >>= made_result w m.type)
  copied for_place w m a e = tick set w >> test m.is_variable (entered w (in_actual m.first) (later (phrase_job for_place m.statement a e))) (fault_at fault.AssignmentToNoVariable w)

  abbrev pub named : Use → Place → Option Thing → M Bodied state.Given
  named u w (Some (to_constant v)) = only_value u w (give (a_value v))
  named u w (Some (to_variable k)) = variable u w k
  named u w (Some (thunk m a e)) = copied u w m a e
  named u w o = halt wrong w

  abbrev pub went : Place → Option Thing → M Bodied state.Given
  went w (Some (to_label l)) s = jump l s
  went w o s = stop wrong w s

  abbrev pub while_turns : Place → M Bodied state.Given → Phrase → Phrase → Env → M Bodied state.Given
  while_turns w m c body e = truth_of w m >>= λ b. test b (tick set w >> later (while_job w c body e)) (give nothing)

  abbrev pub step_turns : Place → Name → (control step limit : ℤ) → Phrase → Env → M Bodied state.Given
  step_turns w x i j k body e = test (has_turn i j k) (tick set w >> later (step_job w x i j k body e)) (give nothing)

  abbrev pub with_numbers : Place → Decls → Items → Env → (Firsts → M Bodied (Unit {0})) → (Env → M Bodied state.Given) → Firsts → List Meant → M Bodied state.Given
  with_numbers w decls items e declared done n bs =
      opened w (extend bs e) decls items >> (declared n >> (made_here n.labels (length (label_places items)) >>= λ b.
      catching b (λ k. later (items_job b w items (extend bs e) k)) (done (extend bs e))))

  abbrev pub block : Place → Place → Decls → Items → Env → (Firsts → M Bodied (Unit {0})) → (Env → M Bodied state.Given) → M Bodied state.Given
  block w p decls items e declared done =
      under (in_block p []) (cells_held >>= λ held. firsts >>= λ n. fresh decls items >>= with_numbers w decls items e declared done n >>= λ r. set_cells held >> give r)

  abbrev pub body_done : Bodied → (List Meant → M Bodied (Unit {0})) → Bound → M Bodied state.Given
  body_done p back b =
      later (phrase_job for_value p.statement p.body (extend b.puts p.env)) >>= made_result p.statement p.result >>= λ r.
      value_held p.result p.statement (back b.puts) >> give r

  abbrev pub called : Place → Place → Bodied → M Bodied (List Ready) → (List Meant → M Bodied (Unit {0})) → M Bodied state.Given
  called w p procedure ready back =
      ready >>= λ rs. tick set w >> (deeper w >> (bound w procedure.formals rs >>= λ b.
      under (in_call procedure.name p b.names) (body_done procedure back b) >>= λ r.
      shallower >> (give_back (length procedure.formals) >> give r)))

  abbrev pub invoked : Place → Bool → Place → Option Thing → Actuals → Env → (List Formal → M Bodied (List Ready)) → (List Formal → List Meant → M Bodied (Unit {0})) → M Bodied state.Given
  invoked w compares p (Some (to_procedure k)) given e ready back = the_procedure w k >>= λ procedure. compared w compares e procedure.formals given >> called w p procedure (ready procedure.formals) (back procedure.formals)
  invoked w compares p (Some (thunk m a f)) given e ready back = no_actuals_given w given >> copied for_value w m a f
  invoked w compares p o given e ready back = halt wrong w

  -- an element of what the name means
  abbrev pub element_at : Use → Place → Option Thing → List ℤ → M Bodied state.Given
  element_at u w (Some (to_array k given)) is = element_of u w k (filled_in given (map (λ i. Some i) is)) >>= λ r. give_back (length is) >> give r
  element_at u w o is = halt wrong w

  abbrev pub subarray_at : Place → Option Thing → List (Option ℤ) → M Bodied Ready
  subarray_at w (Some (to_array k given)) is = the_array w k >>= λ a. subscripted w a (filled_in given is) (give_back (cells_of is) >> give (put_for (to_array k (filled_in given is))))
  subarray_at w o is = halt wrong w

  abbrev mutual
    pub go : Phrase → Use → Place → Env → M Bodied state.Given
    go Empty u w e = give nothing
    go (Constant v) u w e = only_value u w (give (a_value v))
    go (Named x) u w e = named u w (find e x)
    go (Variable k) u w e = variable u w k
    go (Array k given) u w e = halt wrong w
    go (Label l) u w e = halt wrong w
    go (Procedure k) u w e = halt wrong w
    go (Copied m a) u w e = copied u w m a empty
    go (Unary op a) u w e = only_value u w (value_of w (go a for_value w e) >>= λ v. answer_at w (unary op v))
    go (Binary op a b) u w e = only_value u w (value_of w (go a for_value w e) >>= λ v. holding w (value_of w (go b for_value w e)) >>= λ v'. answer_at w (binary op v v'))
    go (Relation op a b) u w e = only_value u w (value_of w (go a for_value w e) >>= λ v. holding w (value_of w (go b for_value w e)) >>= λ v'. answer_at w (relation op v v'))
    go (IsClass a class) u w e = only_value u w (value_of w (go a for_value w e) >>= record_in w >>= is_of_class w class)
    go (Element a subscripts) u w e = go_subscripts subscripts w e >>= element_at u w (head e a)
    go (Field class position a) u w e = value_of w (go a for_value w e) >>= record_in w >>= field_of u w class position
    go (Part m n a start) for_value w e = value_of w (go a for_value w e) >>= string_in w >>= λ s. holding w (integer_of w (go start for_value w e)) >>= λ i. string_answer w (part s i n)
    go (Part m n a start) for_place w e = spot_of w (go a for_place w e) >>= λ k. holding w (integer_of w (go start for_value w e)) >>= spot_within w m n k
    go (Record class types values) u w e = only_value u w (go_fields values w types e >>= λ vs. make_record w class vs >>= λ r. give_back (length vs) >> give r)
    go (RecordAlone class n) u w e = only_value u w (make_record w class (replicate n None))
    go (IfThen st t c a b) u w e = only_value u w (begin set st >> (truth_of (innermost w st) (go c for_value (innermost w st) e) >>= λ truth. test truth (go a for_value (innermost w st) e) (go b for_value (innermost w st) e) >>= made_result (innermost w st) t))
    go (Case st t c parts) u w e = only_value u w (begin set st >> (integer_of (innermost w st) (go c for_value (innermost w st) e) >>= λ i. go_case parts (innermost w st) (case_number i) e >>= made_result (innermost w st) t))
    go (Block st p decls items) u w e = only_value u w (begin set st >> block (innermost w st) p decls items e (λ n. go_decls decls (innermost w st) n.variables n.arrays e) (λ f. go_items items (innermost w st) f))
    go (Call st compares p a given) u w e = only_value u w (begin set st >> invoked (innermost w st) compares p (head e a) given e (λ fs. go_actuals given (innermost w st) fs e) (λ fs bs. go_back given (innermost w st) fs bs e))
    go (Assign st t a b) u w e = only_value u w (begin set st >> (spot_of (innermost w st) (go a for_place (innermost w st) e) >>= λ k. holding (innermost w st) (value_of (innermost w st) (go b for_value (innermost w st) e) >>= λ v. assign (innermost w st) t k v >> give (assigned st v))))
    go (WhileDo st c body) u w e = only_value u w (begin set (Some st) >> while_turns st (go c for_value st e) c body e)
    go (ForStep st name a b c body) u w e = only_value u w (begin set (Some st) >> (integer_of st (go a for_value st e) >>= λ i. take_cells 1 st >> (integer_of st (go b for_value st e) >>= λ j. take_cells 1 st >> (integer_of st (go c for_value st e) >>= λ k. take_cells 1 st >> (test (int_eq j (pos 0)) (fault_at fault.StepZero st) (step_turns st name i j k body e) >> (give_back 3 >> give nothing))))))
    go (ForList st name values body) u w e = only_value u w (begin set (Some st) >> (go_list values st name body e >> give nothing))
    go (Goto st a) u w e = begin set (Some st) >> went st (head e a)
    go (Assert st c) u w e = only_value u w (begin set (Some st) >> (truth_of st (go c for_value st e) >>= λ truth. test truth (give nothing) (fault_at fault.AssertionFalse st)))
    go (Write st first roles values) u w e = only_value u w (begin set (Some st) >> (go_writes values st first none_set roles e >> give nothing))
    go (Read st next targets) u w e = only_value u w (begin set (Some st) >> (go_reads targets st next e >> give nothing))
    go (ReadCard st targets) u w e = only_value u w (begin set (Some st) >> (go_cards targets st e >> give nothing))
    go (IoControl st a) u w e = only_value u w (begin set (Some st) >> (integer_of st (go a for_value st e) >>= λ i. io_control i >> give nothing))

    pub go_subscripts : Phrases → Place → Env → M Bodied (List ℤ)
    go_subscripts no_phrases w e = give []
    go_subscripts (phrase_and a rest) w e = integer_of w (go a for_value w e) >>= λ i. take_cells 1 w >> (go_subscripts rest w e >>= λ is. give (i ∷ is))

    pub go_fields : Phrases → Place → List ValueType → Env → M Bodied (List (Option Value))
    go_fields no_phrases w [] e = give []
    go_fields (phrase_and a rest) w (t ∷ ts) e = value_of w (go a for_value w e) >>= made w t >>= λ v. take_cells 1 w >> (go_fields rest w ts e >>= λ vs. give (Some v ∷ vs))
    go_fields rest w ts e = halt wrong w

    pub go_case : Phrases → Place → Option ℕ → Env → M Bodied state.Given
    go_case rest w None e = fault_at fault.CaseOutsideRange w
    go_case no_phrases w (Some n) e = fault_at fault.CaseOutsideRange w
    go_case (phrase_and a rest) w (Some zero) e = go a for_value w e
    go_case (phrase_and a rest) w (Some (suc n)) e = go_case rest w (Some n) e

    pub go_list : Phrases → Place → Name → Phrase → Env → M Bodied (Unit {0})
    go_list no_phrases w name body e = give tt
    go_list (phrase_and a rest) w name body e = integer_of w (go a for_value w e) >>= λ i. holding w (tick set w >> later (list_job w name i body e)) >> go_list rest w name body e

    pub go_writes : Phrases → Place → Bool → WidthsSet → List Role → Env → M Bodied (Unit {0})
    go_writes no_phrases w first ws roles e = give tt
    go_writes (phrase_and a rest) w first ws [] e = halt wrong w
    go_writes (phrase_and a rest) w first ws (placed ∷ roles) e = value_of w (go a for_value w e) >>= λ v. value_written set w first ws v >> go_writes rest w false ws roles e
    go_writes (phrase_and a rest) w first ws (sets k ∷ roles) e = integer_of w (go a for_value w e) >>= λ n. go_writes rest w first (with_width k n ws) roles e

    pub go_reads : Targets → Place → Bool → Env → M Bodied (Unit {0})
    go_reads no_targets w next e = give tt
    go_reads (target_and t a rest) w next e = spot_of w (go a for_place w e) >>= λ k. scan set w next (read_type t) >>= λ v. assign w t k v >> go_reads rest w false e

    pub go_cards : Targets → Place → Env → M Bodied (Unit {0})
    go_cards no_targets w e = give tt
    go_cards (target_and t a rest) w e = spot_of w (go a for_place w e) >>= λ k. take_card set w >>= λ v. assign w t k v >> go_cards rest w e

    pub go_items : Items → Place → Env → M Bodied state.Given
    go_items no_items w e = give nothing
    go_items (item_and labels a no_items) w e = go a for_value w e
    go_items (item_and labels a rest) w e = go a for_value w e >> go_items rest w e

    pub go_bounds : Bounds → Place → Env → M Bodied (List (ℤ × ℤ))
    go_bounds no_bounds w e = give []
    go_bounds (bound_and a b rest) w e = integer_of w (go a for_value w e) >>= λ i. take_cells 1 w >> (integer_of w (go b for_value w e) >>= λ j. take_cells 1 w >> (go_bounds rest w e >>= λ bs. give ((i, j) ∷ bs)))

    pub go_decls : Decls → Place → (variables arrays : ℕ) → Env → M Bodied (Unit {0})
    go_decls no_decls w v n e = give tt
    go_decls (variables_and names rest) w v n e = declare_variables w v names >> go_decls rest w (v + length names) n e
    go_decls (arrays_and t names pairs rest) w v n e = go_bounds pairs w e >>= λ bs. give_back (2 * length bs) >> (declare_arrays w n t names bs >> go_decls rest w v (n + length names) e)
    go_decls (procedure_and name result formals body rest) w v n e = go_decls rest w v n e

    pub go_stars : Subscripts → Place → Env → M Bodied (List (Option ℤ))
    go_stars no_subscripts w e = give []
    go_stars (star_and rest) w e = go_stars rest w e >>= λ is. give (None ∷ is)
    go_stars (subscript_and a rest) w e = integer_of w (go a for_value w e) >>= λ i. take_cells 1 w >> (go_stars rest w e >>= λ is. give (Some i ∷ is))

    pub go_actual : Actual → Place → FormalType → Env → M Bodied Ready
    go_actual (Given v g first a) w f e = phrase_ready f w (go a for_value w e) v g first a e
    go_actual (Alone p a) w f e = name_ready f w (invoked w true p (head e a) no_actuals e (λ fs. no_formals w fs) (λ fs bs. give tt)) p a e
    go_actual (Subarray a subscripts) w f e = for_an_array w f (go_stars subscripts w e >>= subarray_at w (head e a))

    pub go_actuals : Actuals → Place → List Formal → Env → M Bodied (List Ready)
    go_actuals no_actuals w [] e = give []
    go_actuals (actual_and a rest) w (f ∷ fs) e = go_actual a w f.is e >>= λ r. take_cells 1 w >> (go_actuals rest w fs e >>= λ rs. give (r ∷ rs))
    go_actuals rest w fs e = halt wrong w

    pub go_back : Actuals → Place → List Formal → List Meant → Env → M Bodied (Unit {0})
    go_back no_actuals w [] [] e = give tt
    go_back (actual_and (Given v g first a) rest) w (f ∷ fs) (b ∷ bs) e = assigned_back f.is w (go a for_place w e) g b.by >> go_back rest w fs bs e
    go_back (actual_and a rest) w (f ∷ fs) (b ∷ bs) e = go_back rest w fs bs e
    go_back rest w fs bs e = halt wrong w

  abbrev pub does : Job → M Bodied state.Given
  does (phrase_job u w a e) = go a u w e
  does (while_job w c body e) = go body for_value w e >> while_turns w (go c for_value w e) c body e
  does (step_job w x i j k body e) = under (in_turn w (shown x (a_number i))) (go body for_value w (at_control x i e)) >> step_turns w x (i +ℤ j) j k body e
  does (list_job w x i body e) = under (in_turn w (shown x (a_number i))) (go body for_value w (at_control x i e))
  does (items_job b w items e k) = catching b (λ j. later (items_job b w items e j)) (go_items (from k items) w e)

abbrev pub run : Setting → ℕ → Job → M Bodied state.Given
run set zero job = halt unfinished (record { card = 0; column = 0 })
run set (suc n) job = does set (run set n) job
