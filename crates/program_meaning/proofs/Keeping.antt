-- What changes neither counts nor cells, depth and entries.
use Rattle.std.proofs.Common.{◌≡◌, ◌≢◌, ℕ, ◌+◌, ℤ, pos, negsuc, List, [], ◌∷◌, length, take, refl, ◌∙◌}
use Rattle.std.specs.Prelude.{Option, Some, None, Bool, true, false, nat_lt, nat_le, nat_eq, slice_get, replicate, Ok, Err}
use Rattle.std.specs.Prelude as std
use Rattle.value_ops.specs.declared.places.Place.{Place}
use Rattle.value_ops.specs.declared.faults.Fault.{Fault}
use Rattle.value_ops.specs.declared.faults.Fault.TheVariants as fault
use Rattle.value_ops.specs.declared.values.Value.{Value}
use Rattle.value_ops.specs.declared.values.Value.TheVariants as value
use Rattle.value_ops.specs.declared.values.RecordId.{RecordId}
use Rattle.value_ops.specs.declared.values.SimpleType.{SimpleType}
use Rattle.value_ops.specs.Strings.{with_part}
use Rattle.algolw_tree.specs.declared.standard.Width.{Width}
use Rattle.algolw_tree.specs.declared.standard.Width.TheVariants.{Columns, Blanks}
use Rattle.algolw_typing.specs.Types.{ValueType, Integer, Logical, Bits, Str, Reference, has}
use Rattle.output_editing.specs.Layout.{Piece, Break, lay}
use Rattle.input_editing.specs.Columns.{card_end, card_read, read_from}
use Rattle.input_editing.specs.Scanning.{scanned}
use Rattle.program_meaning.specs.Phrases.{Actuals, no_actuals, actual_and, Items, Decls, Name, Formal}
use Rattle.program_meaning.specs.Operations.{Answer, gives, faults, misfits}
use Rattle.program_meaning.specs.State as state
use Rattle.program_meaning.specs.State.{State, Outcome, on, jump, stop, M, Setting, Why, by_fault, by_limit, wrong, unfinished, Entry, ShownName, Use, for_value, for_place, nothing, a_value, a_spot, Spot, whole, within, ArrayInfo, RecordInfo, a_number, in_block, in_call, in_actual, in_turn, after, ◌>>=◌, ◌>>◌, give, halt, fault_at, test, tick, note_begun, begin, innermost, take_cells, give_back, holding, push_entry, pop_entry, under, deeper, shallower, entered, show, value_in, value_of, spot_in, spot_of, integer_in, integer_of, truth_in, truth_of, string_in, record_in, answer_at, only_value, defined, look, put, variable, new, record_at, the_record, made, made_result, characters, string_held, put_string, store, assign, array_at, the_array, filled_in, all_within, subscripted, offset, elements, element_of, place_array, make_array, make_record, is_place_of, field_of, is_of_class, spot_within, string_answer, print, within_lines, put_pieces, read_so_far, set_read, scan_answer, Made, back_to, is_own, caught, catching, cells_held, set_cells, made_here, most_cells, most_depth, most_records, most_fields}
use Rattle.program_meaning.specs.Copying.{firsts, no_actuals_given, scan, string_read, take_card, io_control, from}
use Rattle.program_meaning.specs.Widths.{WidthsSet, variable_of, width_now, may_be_placed, widths_of, pieces_of, value_placed, value_written}
use Rattle.program_meaning.specs.Environments as env
use Rattle.program_meaning.specs.Environments.{Env, empty, bind, find, Bodied, Meant, Thing, to_constant, to_variable, to_array, to_label, to_procedure, thunk, extend, head}

-- two states with the same counts, cells, depth and entries
pub record Unmoved (s t : State Bodied) : Type 0 where
  pub steps : t.steps ≡ s.steps
  pub begun : t.begun ≡ s.begun
  pub cells : t.cells ≡ s.cells
  pub depth : t.depth ≡ s.depth
  pub active : t.active ≡ s.active

abbrev pub Kept : {A : Type 0} → State Bodied → Outcome Bodied A → Type 0
Kept s (on a t) = Unmoved s t
Kept s (jump l t) = ⊥
Kept s (stop y w t) = (y ≢ unfinished) × Unmoved s t

pub record Keeps {A : Type 0} (m : M Bodied A) : Type 0 where
  pub by : (s : State Bodied) → Kept s (m s)

both : (s t u : State Bodied) → Unmoved s t → Unmoved t u → Unmoved s u
both s t u p q = record { steps = q.steps ∙ p.steps; begun = q.begun ∙ p.begun; cells = q.cells ∙ p.cells; depth = q.depth ∙ p.depth; active = q.active ∙ p.active }

kept_from : {A : Type 0} (s t : State Bodied) (r : Outcome Bodied A) → Unmoved s t → Kept t r → Kept s r
kept_from s t (on a u) p k = both s t u p k
kept_from s t (jump l u) p k = k
kept_from s t (stop y w u) p k = (k.0, both s t u p k.1)

kept_after : {A B : Type 0} (s : State Bodied) (f : A → M Bodied B) → ((a : A) → Keeps (f a)) → (r : Outcome Bodied A) → Kept s r → Kept s (after r f)
kept_after s f h (on a t) k = kept_from s t (f a t) k ((h a).by t)
kept_after s f h (jump l t) k = k
kept_after s f h (stop y w t) k = k

pub keeps_bind : {A B : Type 0} {m : M Bodied A} {f : A → M Bodied B} → Keeps m → ((a : A) → Keeps (f a)) → Keeps (m >>= f)
keeps_bind {m = m} {f = f} h g = record { by = λ s. kept_after s f g (m s) (h.by s) }

pub keeps_then : {A B : Type 0} {m : M Bodied A} {f : M Bodied B} → Keeps m → Keeps f → Keeps (m >> f)
keeps_then {m = m} {f = f} h g = record { by = λ s. kept_after s (λ a. f) (λ a. g) (m s) (h.by s) }

pub keeps_at : {A : Type 0} (s : State Bodied) (b : Bool) (x y : Outcome Bodied A) → Kept s x → Kept s y → Kept s (elim b [ true ↦ x | false ↦ y ])
keeps_at s true x y p q = p
keeps_at s false x y p q = q

pub keeps_test : {A : Type 0} {m k : M Bodied A} (b : Bool) → Keeps m → Keeps k → Keeps (test b m k)
keeps_test b h g = record { by = λ s. keeps_at s b _ _ (h.by s) (g.by s) }

pub keeps_give : {A : Type 0} (a : A) → Keeps (give a)
keeps_give a = record { by = λ s. record { steps = refl; begun = refl; cells = refl; depth = refl; active = refl } }

pub keeps_wrong : {A : Type 0} (w : Place) → Keeps {A = A} (halt wrong w)
keeps_wrong w = record { by = λ s. ((λ x. cc), record { steps = refl; begun = refl; cells = refl; depth = refl; active = refl }) }

pub keeps_fault : {A : Type 0} (f : Fault) (w : Place) → Keeps {A = A} (fault_at f w)
keeps_fault f w = record { by = λ s. ((λ x. cc), record { steps = refl; begun = refl; cells = refl; depth = refl; active = refl }) }

-- what only changes other parts of the state
pub keeps_put : (k : ℕ) (v : Value) → Keeps (put k v)
keeps_put k v = record { by = λ s. record { steps = refl; begun = refl; cells = refl; depth = refl; active = refl } }

pub keeps_new : (v : Option Value) → Keeps (new v)
keeps_new v = record { by = λ s. record { steps = refl; begun = refl; cells = refl; depth = refl; active = refl } }

pub keeps_print : (pieces : List Piece) → Keeps (print pieces)
keeps_print pieces = record { by = λ s. record { steps = refl; begun = refl; cells = refl; depth = refl; active = refl } }

pub keeps_read_so_far : Keeps read_so_far
keeps_read_so_far = record { by = λ s. record { steps = refl; begun = refl; cells = refl; depth = refl; active = refl } }

pub keeps_set_read : (n : ℕ) → Keeps (set_read n)
keeps_set_read n = record { by = λ s. record { steps = refl; begun = refl; cells = refl; depth = refl; active = refl } }

pub keeps_cells_held : Keeps cells_held
keeps_cells_held = record { by = λ s. record { steps = refl; begun = refl; cells = refl; depth = refl; active = refl } }

pub keeps_made_here : (l n : ℕ) → Keeps (made_here l n)
keeps_made_here l n = record { by = λ s. record { steps = refl; begun = refl; cells = refl; depth = refl; active = refl } }

pub keeps_firsts : Keeps firsts
keeps_firsts = record { by = λ s. record { steps = refl; begun = refl; cells = refl; depth = refl; active = refl } }

pub keeps_fresh : (ds : Decls) (is : Items) → Keeps (env.fresh ds is)
keeps_fresh ds is = record { by = λ s. record { steps = refl; begun = refl; cells = refl; depth = refl; active = refl } }

pub keeps_opened : (w : Place) (e : Env) (ds : Decls) (is : Items) → Keeps (env.opened w e ds is)
keeps_opened w e ds is = record { by = λ s. record { steps = refl; begun = refl; cells = refl; depth = refl; active = refl } }

-- values
pub keeps_value_in : (w : Place) (r : state.Given) → Keeps (value_in w r)
keeps_value_in w (a_value v) = keeps_give v
keeps_value_in w nothing = keeps_wrong w
keeps_value_in w (a_spot k) = keeps_wrong w

pub keeps_spot_in : (w : Place) (r : state.Given) → Keeps (spot_in w r)
keeps_spot_in w (a_spot k) = keeps_give k
keeps_spot_in w nothing = keeps_wrong w
keeps_spot_in w (a_value v) = keeps_wrong w

pub keeps_integer_in : (w : Place) (v : Value) → Keeps (integer_in w v)
keeps_integer_in w (value.Integer n) = keeps_give n
keeps_integer_in w (value.Logical b) = keeps_wrong w
keeps_integer_in w (value.Bits b) = keeps_wrong w
keeps_integer_in w (value.Str b) = keeps_wrong w
keeps_integer_in w (value.Reference b) = keeps_wrong w

pub keeps_truth_in : (w : Place) (v : Value) → Keeps (truth_in w v)
keeps_truth_in w (value.Logical n) = keeps_give n
keeps_truth_in w (value.Integer b) = keeps_wrong w
keeps_truth_in w (value.Bits b) = keeps_wrong w
keeps_truth_in w (value.Str b) = keeps_wrong w
keeps_truth_in w (value.Reference b) = keeps_wrong w

pub keeps_string_in : (w : Place) (v : Value) → Keeps (string_in w v)
keeps_string_in w (value.Str n) = keeps_give n
keeps_string_in w (value.Integer b) = keeps_wrong w
keeps_string_in w (value.Bits b) = keeps_wrong w
keeps_string_in w (value.Logical b) = keeps_wrong w
keeps_string_in w (value.Reference b) = keeps_wrong w

pub keeps_record_in : (w : Place) (v : Value) → Keeps (record_in w v)
keeps_record_in w (value.Reference n) = keeps_give n
keeps_record_in w (value.Integer b) = keeps_wrong w
keeps_record_in w (value.Bits b) = keeps_wrong w
keeps_record_in w (value.Logical b) = keeps_wrong w
keeps_record_in w (value.Str b) = keeps_wrong w

pub keeps_answer : (w : Place) (a : Answer) → Keeps (answer_at w a)
keeps_answer w (gives v) = keeps_give (a_value v)
keeps_answer w (faults f) = keeps_fault f w
keeps_answer w misfits = keeps_wrong w

pub keeps_defined : (w : Place) (o : Option (Option Value)) → Keeps (defined w o)
keeps_defined w None = keeps_wrong w
keeps_defined w (Some None) = keeps_fault fault.ValueUndefined w
keeps_defined w (Some (Some v)) = keeps_give v

pub keeps_look : (w : Place) (k : ℕ) → Keeps (look w k)
keeps_look w k = record { by = λ s. (keeps_defined w (slice_get s.memory k)).by s }

pub keeps_variable : (u : Use) (w : Place) (k : ℕ) → Keeps (variable u w k)
keeps_variable for_value w k = keeps_bind (keeps_look w k) (λ v. keeps_give (a_value v))
keeps_variable for_place w k = keeps_give (a_spot (whole k))

pub keeps_record_at : (w : Place) (o : Option RecordInfo) → Keeps (record_at w o)
keeps_record_at w None = keeps_wrong w
keeps_record_at w (Some r) = keeps_give r

pub keeps_the_record : (w : Place) (r : RecordId) → Keeps (the_record w r)
keeps_the_record w r = record { by = λ s. (keeps_record_at w (slice_get s.records r.0)).by s }

pub keeps_made : (w : Place) (t : ValueType) (v : Value) → Keeps (made w t v)
keeps_made w Integer (value.Integer n) = keeps_give _
keeps_made w Logical (value.Logical b) = keeps_give _
keeps_made w Bits (value.Bits b) = keeps_give _
keeps_made w (Str n) (value.Str s) = keeps_give _
keeps_made w (Reference set) (value.Reference None) = keeps_give _
keeps_made w (Reference set) (value.Reference (Some r)) = keeps_bind (keeps_the_record w r) (λ info. keeps_test (has set info.class.place) (keeps_give _) (keeps_fault fault.WrongRecordClass w))
keeps_made w Integer (value.Logical b) = keeps_wrong w
keeps_made w Integer (value.Bits b) = keeps_wrong w
keeps_made w Integer (value.Str b) = keeps_wrong w
keeps_made w Integer (value.Reference b) = keeps_wrong w
keeps_made w Logical (value.Integer b) = keeps_wrong w
keeps_made w Logical (value.Bits b) = keeps_wrong w
keeps_made w Logical (value.Str b) = keeps_wrong w
keeps_made w Logical (value.Reference b) = keeps_wrong w
keeps_made w Bits (value.Integer b) = keeps_wrong w
keeps_made w Bits (value.Logical b) = keeps_wrong w
keeps_made w Bits (value.Str b) = keeps_wrong w
keeps_made w Bits (value.Reference b) = keeps_wrong w
keeps_made w (Str n) (value.Integer b) = keeps_wrong w
keeps_made w (Str n) (value.Logical b) = keeps_wrong w
keeps_made w (Str n) (value.Bits b) = keeps_wrong w
keeps_made w (Str n) (value.Reference b) = keeps_wrong w
keeps_made w (Reference set) (value.Integer b) = keeps_wrong w
keeps_made w (Reference set) (value.Logical b) = keeps_wrong w
keeps_made w (Reference set) (value.Bits b) = keeps_wrong w
keeps_made w (Reference set) (value.Str b) = keeps_wrong w

pub keeps_made_result : (w : Place) (t : Option ValueType) (r : state.Given) → Keeps (made_result w t r)
keeps_made_result w (Some t) (a_value v) = keeps_bind (keeps_made w t v) (λ u. keeps_give (a_value u))
keeps_made_result w (Some t) nothing = keeps_give _
keeps_made_result w (Some t) (a_spot k) = keeps_give _
keeps_made_result w None r = keeps_give r

pub keeps_characters : (w : Place) (m : ℕ) (o : Option (Option Value)) → Keeps (characters w m o)
keeps_characters w m None = keeps_wrong w
keeps_characters w m (Some None) = keeps_give _
keeps_characters w m (Some (Some v)) = keeps_string_in w v

pub keeps_string_held : (w : Place) (k m : ℕ) → Keeps (string_held w k m)
keeps_string_held w k m = record { by = λ s. (keeps_characters w m (slice_get s.memory k)).by s }

pub keeps_put_string : (w : Place) (k : ℕ) (r : std.Result (List ℕ) Fault) → Keeps (put_string w k r)
keeps_put_string w k (Ok s) = keeps_put k _
keeps_put_string w k (Err f) = keeps_fault f w

pub keeps_store : (w : Place) (spot : Spot) (v : Value) → Keeps (store w spot v)
keeps_store w (whole k) v = keeps_put k v
keeps_store w (within k m from n) v = keeps_bind (keeps_string_in w v) (λ text. keeps_bind (keeps_string_held w k m) (λ s. keeps_put_string w k (with_part s (pos from) n (take n text))))

pub keeps_assign : (w : Place) (t : ValueType) (spot : Spot) (v : Value) → Keeps (assign w t spot v)
keeps_assign w t spot v = keeps_bind (keeps_made w t v) (λ u. keeps_store w spot u)

pub keeps_array_at : (w : Place) (o : Option (Option ArrayInfo)) → Keeps (array_at w o)
keeps_array_at w None = keeps_wrong w
keeps_array_at w (Some None) = keeps_wrong w
keeps_array_at w (Some (Some a)) = keeps_give a

pub keeps_the_array : (w : Place) (k : ℕ) → Keeps (the_array w k)
keeps_the_array w k = record { by = λ s. (keeps_array_at w (slice_get s.arrays k)).by s }

pub keeps_subscripted : {A : Type 0} {m : M Bodied A} (w : Place) (a : ArrayInfo) (subs : List (Option ℤ)) → Keeps m → Keeps (subscripted w a subs m)
keeps_subscripted w a subs h = keeps_test (all_within a.bounds subs) h (keeps_fault fault.SubscriptOutsideBounds w)

pub keeps_element : (u : Use) (w : Place) (k : ℕ) (subs : List (Option ℤ)) → Keeps (element_of u w k subs)
keeps_element u w k subs = keeps_bind (keeps_the_array w k) (λ a. keeps_subscripted w a subs (keeps_test (nat_lt (offset a.bounds subs) (elements a.bounds)) (keeps_variable u w (a.first + offset a.bounds subs)) (keeps_wrong w)))

pub keeps_make_record : (w : Place) (class : Name) (values : List (Option Value)) → Keeps (make_record w class values)
keeps_make_record w class values = record { by = λ s. keeps_at s (std.◌&&◌ (nat_lt (length s.records) most_records) (nat_le (s.fields + length values) most_fields)) _ _ (record { steps = refl; begun = refl; cells = refl; depth = refl; active = refl }) ((λ x. cc), record { steps = refl; begun = refl; cells = refl; depth = refl; active = refl }) }

pub keeps_field : (u : Use) (w class : Place) (position : ℕ) (r : Option RecordId) → Keeps (field_of u w class position r)
keeps_field u w class position None = keeps_fault fault.ReferenceNull w
keeps_field u w class position (Some r) = keeps_bind (keeps_the_record w r) (λ info. keeps_test (is_place_of class info) (keeps_test (nat_lt position info.count) (keeps_variable u w (info.first + position)) (keeps_wrong w)) (keeps_fault fault.WrongRecordClass w))

pub keeps_class : (w class : Place) (r : Option RecordId) → Keeps (is_of_class w class r)
keeps_class w class None = keeps_give _
keeps_class w class (Some r) = keeps_bind (keeps_the_record w r) (λ info. keeps_give _)

pub keeps_within : (w : Place) (m n : ℕ) (spot : Spot) (at : ℤ) → Keeps (spot_within w m n spot at)
keeps_within w m n (whole k) (pos at) = keeps_test (nat_le (at + n) m) (keeps_give _) (keeps_fault fault.PlaceOutsideString w)
keeps_within w m n (within k l from count) (pos at) = keeps_test (nat_le (at + n) m) (keeps_give _) (keeps_fault fault.PlaceOutsideString w)
keeps_within w m n (whole k) (negsuc at) = keeps_fault fault.PlaceOutsideString w
keeps_within w m n (within k l from count) (negsuc at) = keeps_fault fault.PlaceOutsideString w

pub keeps_string_answer : (w : Place) (r : std.Result (List ℕ) Fault) → Keeps (string_answer w r)
keeps_string_answer w (Ok s) = keeps_give _
keeps_string_answer w (Err f) = keeps_fault f w

pub keeps_within_lines : (set : Setting) (w : Place) → Keeps (within_lines set w)
keeps_within_lines set w = record { by = λ s. keeps_at s (nat_le (length (lay s.pieces)) set.lines) _ _ (record { steps = refl; begun = refl; cells = refl; depth = refl; active = refl }) ((λ x. cc), record { steps = refl; begun = refl; cells = refl; depth = refl; active = refl }) }

pub keeps_put_pieces : (set : Setting) (w : Place) (pieces : List Piece) → Keeps (put_pieces set w pieces)
keeps_put_pieces set w [] = keeps_give tt
keeps_put_pieces set w (piece ∷ pieces) = keeps_then (keeps_print (piece ∷ [])) (keeps_then (keeps_within_lines set w) (keeps_put_pieces set w pieces))

pub keeps_scan_answer : (w : Place) (r : std.Result (Value × ℕ) Fault) → Keeps (scan_answer w r)
keeps_scan_answer w (Ok (v, n)) = keeps_then (keeps_set_read n) (keeps_give v)
keeps_scan_answer w (Err f) = keeps_fault f w

pub keeps_scan : (set : Setting) (w : Place) (next : Bool) (t : Option SimpleType) → Keeps (scan set w next t)
keeps_scan set w next None = keeps_wrong w
keeps_scan set w next (Some t) = keeps_bind keeps_read_so_far (λ n. keeps_scan_answer w (scanned set.cards (read_from next n) t))

pub keeps_take_card : (set : Setting) (w : Place) → Keeps (take_card set w)
keeps_take_card set w = keeps_bind keeps_read_so_far (λ n. keeps_scan_answer w (string_read (card_read set.cards n)))

pub keeps_io_control : (n : ℤ) → Keeps (io_control n)
keeps_io_control (pos n) = keeps_test (nat_eq n 1) (keeps_bind keeps_read_so_far (λ k. keeps_set_read (card_end k))) (keeps_test (nat_eq n 2) (keeps_print (Break ∷ [])) (keeps_give tt))
keeps_io_control (negsuc n) = keeps_give tt

keeps_width : (w : Place) (k : Width) (o : Option ℤ) → Keeps (width_now w k o)
keeps_width w k (Some n) = keeps_give n
keeps_width w k None = keeps_bind (keeps_look w (variable_of k)) (λ v. keeps_integer_in w v)

keeps_placed : (set : Setting) (w : Place) (first : Bool) (v : Value) (columns blanks : ℤ) → Keeps (value_placed set w first v columns blanks)
keeps_placed set w first v columns blanks = keeps_test (may_be_placed v columns blanks) (keeps_put_pieces set w (pieces_of first v (widths_of columns blanks))) (keeps_fault fault.WidthOutOfRange w)

pub keeps_written : (set : Setting) (w : Place) (first : Bool) (ws : WidthsSet) (v : Value) → Keeps (value_written set w first ws v)
keeps_written set w first ws v = keeps_bind (keeps_width w Columns ws.columns) (λ columns. keeps_bind (keeps_width w Blanks ws.blanks) (λ blanks. keeps_placed set w first v columns blanks))

pub keeps_no_actuals : (w : Place) (given : Actuals) → Keeps (no_actuals_given w given)
keeps_no_actuals w no_actuals = keeps_give tt
keeps_no_actuals w (actual_and a rest) = keeps_fault fault.ActualsDoNotFit w

pub keeps_procedure_handed : (w : Place) (o : Option Thing) → Keeps (env.procedure_handed w o)
keeps_procedure_handed w None = keeps_wrong w
keeps_procedure_handed w (Some (to_constant v)) = keeps_wrong w
keeps_procedure_handed w (Some (to_variable k)) = keeps_wrong w
keeps_procedure_handed w (Some (to_array k given)) = keeps_wrong w
keeps_procedure_handed w (Some (to_label k)) = keeps_wrong w
keeps_procedure_handed w (Some (to_procedure k)) = keeps_give _
keeps_procedure_handed w (Some (thunk m a e)) = keeps_give _

pub keeps_array_handed : (w : Place) (o : Option Thing) → Keeps (env.array_handed w o)
keeps_array_handed w None = keeps_wrong w
keeps_array_handed w (Some (to_constant v)) = keeps_wrong w
keeps_array_handed w (Some (to_variable k)) = keeps_wrong w
keeps_array_handed w (Some (to_array k given)) = keeps_give _
keeps_array_handed w (Some (to_label k)) = keeps_wrong w
keeps_array_handed w (Some (to_procedure k)) = keeps_wrong w
keeps_array_handed w (Some (thunk m a e)) = keeps_wrong w

pub keeps_bound : (w : Place) (fs : List Formal) (rs : List env.Ready) → Keeps (env.bound w fs rs)
keeps_bound w [] [] = keeps_give _
keeps_bound w (f ∷ fs) (env.with_value v ∷ rs) = keeps_bind (keeps_new (Some v)) (λ k. keeps_bind (keeps_bound w fs rs) (λ b. keeps_give (env.bind_to f (to_variable k) (state.a_variable k) b)))
keeps_bound w (f ∷ fs) (env.without_value ∷ rs) = keeps_bind (keeps_new None) (λ k. keeps_bind (keeps_bound w fs rs) (λ b. keeps_give (env.bind_to f (to_variable k) (state.a_variable k) b)))
keeps_bound w (f ∷ fs) (env.put_for t ∷ rs) = keeps_bind (keeps_bound w fs rs) (λ b. keeps_give _)
keeps_bound w [] (r ∷ rs) = keeps_wrong w
keeps_bound w (f ∷ fs) [] = keeps_wrong w

pub keeps_compared : (w : Place) (compares : Bool) (e : Env) (fs : List Formal) (given : Actuals) → Keeps (env.compared w compares e fs given)
keeps_compared w false e fs given = record { by = λ s. record { steps = refl; begun = refl; cells = refl; depth = refl; active = refl } }
keeps_compared w true e fs given = record { by = λ s. keeps_at s (env.they_fit w s e fs given) _ _ (record { steps = refl; begun = refl; cells = refl; depth = refl; active = refl }) ((λ x. cc), record { steps = refl; begun = refl; cells = refl; depth = refl; active = refl }) }

pub keeps_no_formals : (w : Place) (fs : List Formal) → Keeps (env.no_formals w fs)
keeps_no_formals w [] = keeps_give []
keeps_no_formals w (f ∷ fs) = keeps_wrong w

pub keeps_procedure_at : (w : Place) (o : Option Bodied) → Keeps (env.procedure_at w o)
keeps_procedure_at w None = keeps_wrong w
keeps_procedure_at w (Some p) = keeps_give p

pub keeps_the_procedure : (w : Place) (k : ℕ) → Keeps (env.the_procedure w k)
keeps_the_procedure w k = record { by = λ s. (keeps_procedure_at w (slice_get s.procedures k)).by s }
