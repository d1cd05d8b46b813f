-- States by environments that hold texts alone, and what keeps them so.
use Rattle.std.proofs.Common.{◌≡◌, ℕ, zero, suc, ◌+◌, ◌-◌, ℤ, pos, negsuc, List, [], ◌∷◌, ◌++◌, length, take, All, refl}
use Rattle.std.specs.Prelude.{⊤, Option, Some, None, Bool, true, false, nat_lt, nat_le, nat_eq, slice_get, slice_set, replicate, IfSome, Ok, Err}
use Rattle.std.specs.Prelude as std
use Rattle.std.proofs.lemmas.List.Elements.{All-nil, All-cons, All-head, All-tail, All-append, All-set, All-replicate, All-push}
use Rattle.value_ops.specs.declared.places.Place.{Place}
use Rattle.value_ops.specs.declared.faults.Fault.{Fault}
use Rattle.value_ops.specs.declared.faults.Fault.TheVariants as fault
use Rattle.value_ops.specs.declared.values.Value.{Value}
use Rattle.value_ops.specs.declared.values.Value.TheVariants as value
use Rattle.value_ops.specs.declared.values.RecordId.{RecordId}
use Rattle.value_ops.specs.declared.values.SimpleType.{SimpleType}
use Rattle.value_ops.specs.Strings.{with_part}
use Rattle.algolw_tree.specs.declared.standard.Width.{Width}
use Rattle.algolw_tree.specs.declared.standard.Width.TheVariants.{Columns, Blanks}
use Rattle.algolw_typing.specs.Types.{ValueType, Gives, Statement, Simple, Integer, Logical, Bits, Str, Reference, has, is_place}
use Rattle.algolw_typing.specs.Meanings.{FormalType, by_name, by_value, by_result, by_value_result, for_array, for_procedure}
use Rattle.output_editing.specs.Layout.{Piece, Break, lay}
use Rattle.input_editing.specs.Columns.{card_end, card_read, read_from}
use Rattle.input_editing.specs.Scanning.{scanned}
use Rattle.program_meaning.specs.Phrases.{Phrase, Constant, Named, Variable, Array, Label, Procedure, Copied, Actuals, no_actuals, actual_and, Items, no_items, item_and, Decls, no_decls, variables_and, arrays_and, procedure_and, Name, Formal, Mark, Call, label_places}
use Rattle.program_meaning.specs.Operations.{Answer, gives, faults, misfits}
use Rattle.program_meaning.specs.State as state
use Rattle.program_meaning.specs.State.{State, Outcome, on, jump, stop, M, Setting, Why, wrong, Entry, ShownName, Use, for_value, for_place, nothing, a_value, a_spot, Spot, whole, within, ArrayInfo, RecordInfo, a_number, in_block, in_call, in_actual, in_turn, behind_first, with_shown, on_first, after, ◌>>=◌, ◌>>◌, give, halt, fault_at, test, tick, note_begun, begin, innermost, take_cells, give_back, holding, push_entry, pop_entry, under, deeper, shallower, entered, show, value_in, value_of, spot_in, spot_of, integer_in, integer_of, truth_in, truth_of, string_in, record_in, answer_at, only_value, defined, look, put, variable, new, record_at, the_record, made, made_result, characters, string_held, put_string, store, assign, array_at, the_array, filled_in, all_within, subscripted, offset, elements, element_of, place_array, make_array, make_record, is_place_of, field_of, is_of_class, spot_within, string_answer, print, within_lines, put_pieces, read_so_far, set_read, scan_answer, Made, cells_held, set_cells, most_cells, most_depth, most_records, most_fields}
use Rattle.program_meaning.specs.Copying.{Firsts, firsts, free, shown, declare_variables, declare_arrays, no_actuals_given, scan, string_read, take_card, io_control, variable_count, array_count, dimensions}
use Rattle.program_meaning.specs.Widths.{WidthsSet, variable_of, width_now, may_be_placed, widths_of, pieces_of, value_placed, value_written}
use Rattle.program_meaning.specs.Environments as env
use Rattle.program_meaning.specs.Environments.{Env, empty, bind, find, Bodied, Meant, Thing, to_constant, to_variable, to_array, to_label, to_procedure, thunk, extend, head}
use Rattle.printed_lines.specs.Texts.{IsText, IsWord, ValueHolds}
use Rattle.printed_lines.specs.Phrases.{NameHolds, FormalHolds, PhraseHolds, DeclsHold}
use Rattle.printed_lines.specs.States.{VariableHolds, RecordHolds, PieceHolds, ShownHolds, EntryHolds}
use Rattle.printed_lines.proofs.Texts.{found, text_take, text_blanks, text_filled, ResultHolds, text_with_part}
use Rattle.printed_lines.proofs.Reading.{ReadHolds, card_holds, scanned_holds}
use Rattle.printed_lines.proofs.Lines.{pieces_hold}

-- ---- environments

abbrev mutual
  pub EnvHolds : Env → Type 0
  EnvHolds empty = ⊤
  EnvHolds (bind x t e) = ThingHolds t × EnvHolds e

  pub ThingHolds : Thing → Type 0
  ThingHolds (to_constant v) = ValueHolds v
  ThingHolds (to_variable k) = ⊤
  ThingHolds (to_array k given) = ⊤
  ThingHolds (to_label l) = ⊤
  ThingHolds (to_procedure k) = ⊤
  ThingHolds (thunk mark a e) = PhraseHolds a × EnvHolds e

-- what a name means, where it means something
abbrev pub MaybeHolds : Option Thing → Type 0
MaybeHolds None = ⊤
MaybeHolds (Some t) = ThingHolds t

abbrev pub MeantHold : List Meant → Type 0
MeantHold [] = ⊤
MeantHold (b ∷ bs) = ThingHolds b.by × MeantHold bs

pub record BodiedHolds (p : Bodied) : Type 0 where
  pub name : IsWord p.name
  pub formals : All FormalHolds p.formals
  pub body : PhraseHolds p.body
  pub env : EnvHolds p.env

find_at : (b : Bool) (t : Thing) (o : Option Thing) → ThingHolds t → MaybeHolds o → MaybeHolds (elim b [ true ↦ Some t | false ↦ o ])
find_at true t o h k = h
find_at false t o h k = k

pub find_holds : (e : Env) (x : Place) → EnvHolds e → MaybeHolds (find e x)
find_holds empty x h = tt
find_holds (bind y t e) x h = find_at (is_place y x) t (find e x) h.0 (find_holds e x h.1)

pub head_holds : (e : Env) (a : Phrase) → EnvHolds e → PhraseHolds a → MaybeHolds (head e a)
head_holds e (Named x) h k = find_holds e x h
head_holds e (Constant v) h k = k
head_holds e (Copied m a) h k = (k, tt)
head_holds e a h k = tt

pub extend_holds : (bs : List Meant) (e : Env) → MeantHold bs → EnvHolds e → EnvHolds (extend bs e)
extend_holds [] e h k = k
extend_holds (b ∷ bs) e h k = (h.0, extend_holds bs e h.1 k)

-- ---- states

abbrev pub Holding : State Bodied → Type 0
Holding s = All VariableHolds s.memory × All RecordHolds s.records × All PieceHolds s.pieces × All EntryHolds s.active × All BodiedHolds s.procedures

-- what is given, and the state then, or where it jumps or stops
abbrev pub Held : {A : Type 0} → (A → Type 0) → Outcome Bodied A → Type 0
Held G (on a t) = G a × Holding t
Held G (jump l t) = Holding t
Held G (stop y w t) = Holding t

pub record Holds {A : Type 0} (G : A → Type 0) (m : M Bodied A) : Type 0 where
  pub by : (s : State Bodied) → Holding s → Held G (m s)

-- whatever it is
abbrev pub Any : {A : Type 0} → A → Type 0
Any a = ⊤

held_after : {A B : Type 0} (G : A → Type 0) (H : B → Type 0) (f : A → M Bodied B) → ((a : A) → G a → Holds H (f a)) → (r : Outcome Bodied A) → Held G r → Held H (after r f)
held_after G H f h (on a t) k = (h a k.0).by t k.1
held_after G H f h (jump l t) k = k
held_after G H f h (stop y w t) k = k

pub holds_bind : {A B : Type 0} {G : A → Type 0} {H : B → Type 0} {m : M Bodied A} {f : A → M Bodied B} → Holds G m → ((a : A) → G a → Holds H (f a)) → Holds H (m >>= f)
holds_bind {G = G} {H = H} {m = m} {f = f} h g = record { by = λ s k. held_after G H f g (m s) (h.by s k) }

pub holds_then : {A B : Type 0} {G : A → Type 0} {H : B → Type 0} {m : M Bodied A} {f : M Bodied B} → Holds G m → Holds H f → Holds H (m >> f)
holds_then {G = G} {H = H} {m = m} {f = f} h g = record { by = λ s k. held_after G H (λ a. f) (λ a l. g) (m s) (h.by s k) }

pub held_at : {A : Type 0} (G : A → Type 0) (b : Bool) (x y : Outcome Bodied A) → Held G x → Held G y → Held G (elim b [ true ↦ x | false ↦ y ])
held_at G true x y p q = p
held_at G false x y p q = q

pub holds_test : {A : Type 0} {G : A → Type 0} {m k : M Bodied A} (b : Bool) → Holds G m → Holds G k → Holds G (test b m k)
holds_test {G = G} b h g = record { by = λ s k. held_at G b _ _ (h.by s k) (g.by s k) }

pub holds_give : {A : Type 0} {G : A → Type 0} (a : A) → G a → Holds G (give a)
holds_give a h = record { by = λ s k. (h, k) }

pub holds_any : {A : Type 0} (a : A) → Holds Any (give a)
holds_any a = record { by = λ s k. (tt, k) }

pub holds_wrong : {A : Type 0} {G : A → Type 0} (w : Place) → Holds G (halt wrong w)
holds_wrong w = record { by = λ s k. k }

pub holds_fault : {A : Type 0} {G : A → Type 0} (f : Fault) (w : Place) → Holds G (fault_at f w)
holds_fault f w = record { by = λ s k. k }

-- ---- counts, cells and entries

pub holds_tick : (set : Setting) (w : Place) → Holds Any (tick set w)
holds_tick set w = record { by = λ s k. held_at Any (nat_lt s.steps set.steps) _ _ (tt, k) k }

pub holds_begin : (set : Setting) (st : Option Place) → Holds Any (begin set st)
holds_begin set None = holds_any tt
holds_begin set (Some st) = holds_then (holds_tick set st) (record { by = λ s k. (tt, k) })

pub holds_take : (n : ℕ) (w : Place) → Holds Any (take_cells n w)
holds_take n w = record { by = λ s k. held_at Any (nat_le (s.cells + n) most_cells) _ _ (tt, k) k }

pub holds_back : (n : ℕ) → Holds Any (give_back n)
holds_back n = record { by = λ s k. (tt, k) }

pub holds_deeper : (w : Place) → Holds Any (deeper w)
holds_deeper w = record { by = λ s k. held_at Any (nat_lt s.depth most_depth) _ _ (tt, k) k }

pub holds_shallower : Holds Any shallower
holds_shallower = record { by = λ s k. (tt, k) }

pub holds_holding : {A : Type 0} {G : A → Type 0} {m : M Bodied A} (w : Place) → Holds G m → Holds G (holding w m)
holds_holding w h = holds_then (holds_take 1 w) (holds_bind h (λ a g. holds_then (holds_back 1) (holds_give a g)))

behind_holds : (es : List Entry) → All EntryHolds es → All EntryHolds (behind_first es)
behind_holds [] h = h
behind_holds (e ∷ es) h = All-tail EntryHolds e es h

holds_pop : Holds Any pop_entry
holds_pop = record { by = λ s k. (tt, (k.0, k.1, k.2, behind_holds s.active k.3, k.4)) }

pub holds_under : {A : Type 0} {G : A → Type 0} {m : M Bodied A} (e : Entry) → EntryHolds e → Holds G m → Holds G (under e m)
holds_under e p h = holds_then (holds_push e p) (holds_bind h (λ a g. holds_then holds_pop (holds_give a g)))
  where
    holds_push : (e : Entry) → EntryHolds e → Holds Any (push_entry e)
    holds_push e p = record { by = λ s k. (tt, (k.0, k.1, k.2, All-cons EntryHolds e s.active p k.3, k.4)) }

pub holds_entered : {A : Type 0} {G : A → Type 0} {m : M Bodied A} (w : Place) (e : Entry) → EntryHolds e → Holds G m → Holds G (entered w e m)
holds_entered w e p h = holds_then (holds_deeper w) (holds_bind (holds_under e p h) (λ a g. holds_then holds_shallower (holds_give a g)))

with_holds : (xs : List ShownName) (e : Entry) → All ShownHolds xs → EntryHolds e → EntryHolds (with_shown xs e)
with_holds xs (in_block p names) h k = All-append ShownHolds names xs k h
with_holds xs (in_call x p names) h k = k
with_holds xs (in_actual p) h k = k
with_holds xs (in_turn p names) h k = k

first_holds : (xs : List ShownName) (es : List Entry) → All ShownHolds xs → All EntryHolds es → All EntryHolds (on_first xs es)
first_holds xs [] h k = k
first_holds xs (e ∷ es) h k = All-cons EntryHolds (with_shown xs e) es (with_holds xs e h (All-head EntryHolds e es k)) (All-tail EntryHolds e es k)

pub holds_show : (xs : List ShownName) → All ShownHolds xs → Holds Any (show xs)
holds_show xs h = record { by = λ s k. (tt, (k.0, k.1, k.2, first_holds xs s.active h k.3, k.4)) }

-- ---- values

abbrev pub GivenHolds : state.Given → Type 0
GivenHolds nothing = ⊤
GivenHolds (a_value v) = ValueHolds v
GivenHolds (a_spot k) = ⊤

abbrev pub AnswerHolds : Answer → Type 0
AnswerHolds (gives v) = ValueHolds v
AnswerHolds (faults f) = ⊤
AnswerHolds misfits = ⊤

holds_value_in : (w : Place) (r : state.Given) → GivenHolds r → Holds ValueHolds (value_in w r)
holds_value_in w (a_value v) h = holds_give v h
holds_value_in w nothing h = holds_wrong w
holds_value_in w (a_spot k) h = holds_wrong w

pub holds_value : {m : M Bodied state.Given} (w : Place) → Holds GivenHolds m → Holds ValueHolds (value_of w m)
holds_value w h = holds_bind h (λ r g. holds_value_in w r g)

holds_spot_in : (w : Place) (r : state.Given) → Holds Any (spot_in w r)
holds_spot_in w (a_spot k) = holds_any k
holds_spot_in w nothing = holds_wrong w
holds_spot_in w (a_value v) = holds_wrong w

pub holds_spot : {m : M Bodied state.Given} (w : Place) → Holds GivenHolds m → Holds Any (spot_of w m)
holds_spot w h = holds_bind h (λ r g. holds_spot_in w r)

holds_integer_in : (w : Place) (v : Value) → Holds Any (integer_in w v)
holds_integer_in w (value.Integer n) = holds_any n
holds_integer_in w v = holds_wrong w

pub holds_integer : {m : M Bodied state.Given} (w : Place) → Holds GivenHolds m → Holds Any (integer_of w m)
holds_integer w h = holds_bind (holds_value w h) (λ v g. holds_integer_in w v)

holds_truth_in : (w : Place) (v : Value) → Holds Any (truth_in w v)
holds_truth_in w (value.Logical b) = holds_any b
holds_truth_in w v = holds_wrong w

pub holds_truth : {m : M Bodied state.Given} (w : Place) → Holds GivenHolds m → Holds Any (truth_of w m)
holds_truth w h = holds_bind (holds_value w h) (λ v g. holds_truth_in w v)

pub holds_string_in : (w : Place) (v : Value) → ValueHolds v → Holds IsText (string_in w v)
holds_string_in w (value.Str s) h = holds_give s h
holds_string_in w (value.Integer n) h = holds_wrong w
holds_string_in w (value.Logical n) h = holds_wrong w
holds_string_in w (value.Bits n) h = holds_wrong w
holds_string_in w (value.Reference n) h = holds_wrong w

pub holds_record_in : (w : Place) (v : Value) → Holds Any (record_in w v)
holds_record_in w (value.Reference r) = holds_any r
holds_record_in w v = holds_wrong w

pub holds_answer : (w : Place) (a : Answer) → AnswerHolds a → Holds GivenHolds (answer_at w a)
holds_answer w (gives v) h = holds_give (a_value v) h
holds_answer w (faults f) h = holds_fault f w
holds_answer w misfits h = holds_wrong w

pub holds_only : {m : M Bodied state.Given} (u : Use) (w : Place) → Holds GivenHolds m → Holds GivenHolds (only_value u w m)
holds_only for_value w h = h
holds_only for_place w h = holds_wrong w

holds_defined : (w : Place) (o : Option (Option Value)) → IfSome o VariableHolds → Holds ValueHolds (defined w o)
holds_defined w None h = holds_wrong w
holds_defined w (Some None) h = holds_fault fault.ValueUndefined w
holds_defined w (Some (Some v)) h = holds_give v h

pub holds_look : (w : Place) (k : ℕ) → Holds ValueHolds (look w k)
holds_look w k = record { by = λ s h. (holds_defined w (slice_get s.memory k) (found VariableHolds s.memory k h.0)).by s h }

pub holds_put : (k : ℕ) (v : Value) → ValueHolds v → Holds Any (put k v)
holds_put k v h = record { by = λ s p. (tt, (All-set VariableHolds s.memory k (Some v) h p.0, p.1, p.2, p.3, p.4)) }

pub holds_variable : (u : Use) (w : Place) (k : ℕ) → Holds GivenHolds (variable u w k)
holds_variable for_value w k = holds_bind (holds_look w k) (λ v h. holds_give (a_value v) h)
holds_variable for_place w k = holds_give (a_spot (whole k)) tt

pub holds_new : (v : Option Value) → VariableHolds v → Holds Any (new v)
holds_new v h = record { by = λ s p. (tt, (All-push VariableHolds s.memory v p.0 h, p.1, p.2, p.3, p.4)) }

holds_record_at : (w : Place) (o : Option RecordInfo) → Holds Any (record_at w o)
holds_record_at w None = holds_wrong w
holds_record_at w (Some r) = holds_any r

pub holds_the_record : (w : Place) (r : RecordId) → Holds Any (the_record w r)
holds_the_record w r = record { by = λ s h. (holds_record_at w (slice_get s.records r.0)).by s h }

pub holds_made : (w : Place) (t : ValueType) (v : Value) → ValueHolds v → Holds ValueHolds (made w t v)
holds_made w Integer (value.Integer n) h = holds_give (value.Integer n) tt
holds_made w Logical (value.Logical b) h = holds_give (value.Logical b) tt
holds_made w Bits (value.Bits b) h = holds_give (value.Bits b) tt
holds_made w (Str n) (value.Str s) h = holds_give (value.Str _) (text_filled n h)
holds_made w (Reference set) (value.Reference None) h = holds_give (value.Reference None) tt
holds_made w (Reference set) (value.Reference (Some r)) h = holds_bind (holds_the_record w r) (λ info k. holds_test (has set info.class.place) (holds_give (value.Reference (Some r)) tt) (holds_fault fault.WrongRecordClass w))
holds_made w t v h = holds_wrong w

pub holds_made_result : (w : Place) (t : Option ValueType) (r : state.Given) → GivenHolds r → Holds GivenHolds (made_result w t r)
holds_made_result w (Some t) (a_value v) h = holds_bind (holds_made w t v h) (λ u k. holds_give (a_value u) k)
holds_made_result w (Some t) nothing h = holds_give nothing h
holds_made_result w (Some t) (a_spot k) h = holds_give (a_spot k) h
holds_made_result w None r h = holds_give r h

holds_characters : (w : Place) (m : ℕ) (o : Option (Option Value)) → IfSome o VariableHolds → Holds IsText (characters w m o)
holds_characters w m None h = holds_wrong w
holds_characters w m (Some None) h = holds_give _ (text_blanks m)
holds_characters w m (Some (Some v)) h = holds_string_in w v h

holds_string_held : (w : Place) (k m : ℕ) → Holds IsText (string_held w k m)
holds_string_held w k m = record { by = λ s h. (holds_characters w m (slice_get s.memory k) (found VariableHolds s.memory k h.0)).by s h }

holds_put_string : (w : Place) (k : ℕ) (r : std.Result (List ℕ) Fault) → ResultHolds r → Holds Any (put_string w k r)
holds_put_string w k (Ok s) h = holds_put k (value.Str s) h
holds_put_string w k (Err f) h = holds_fault f w

holds_store : (w : Place) (spot : Spot) (v : Value) → ValueHolds v → Holds Any (store w spot v)
holds_store w (whole k) v h = holds_put k v h
holds_store w (within k m from n) v h = holds_bind (holds_string_in w v h) (λ text p. holds_bind (holds_string_held w k m) (λ s q. holds_put_string w k (with_part s (pos from) n (take n text)) (text_with_part (pos from) n q (text_take n p))))

pub holds_assign : (w : Place) (t : ValueType) (spot : Spot) (v : Value) → ValueHolds v → Holds Any (assign w t spot v)
holds_assign w t spot v h = holds_bind (holds_made w t v h) (λ u k. holds_store w spot u k)

-- ---- arrays and records

holds_array_at : (w : Place) (o : Option (Option ArrayInfo)) → Holds Any (array_at w o)
holds_array_at w None = holds_wrong w
holds_array_at w (Some None) = holds_wrong w
holds_array_at w (Some (Some a)) = holds_any a

pub holds_the_array : (w : Place) (k : ℕ) → Holds Any (the_array w k)
holds_the_array w k = record { by = λ s h. (holds_array_at w (slice_get s.arrays k)).by s h }

pub holds_element : (u : Use) (w : Place) (k : ℕ) (subs : List (Option ℤ)) → Holds GivenHolds (element_of u w k subs)
holds_element u w k subs = holds_bind (holds_the_array w k) (λ a p. holds_test (all_within a.bounds subs) (holds_test (nat_lt (offset a.bounds subs) (elements a.bounds)) (holds_variable u w (a.first + offset a.bounds subs)) (holds_wrong w)) (holds_fault fault.SubscriptOutsideBounds w))

holds_place : (k : ℕ) (t : ValueType) (bounds : List (ℤ × ℤ)) → Holds Any (place_array k t bounds)
holds_place k t bounds = record { by = λ s p. (tt, (All-append VariableHolds s.memory (replicate (elements bounds) None) p.0 (All-replicate VariableHolds (elements bounds) None tt), p.1, p.2, p.3, p.4)) }

pub holds_make_record : (w : Place) (class : Name) (values : List (Option Value)) → NameHolds class → All VariableHolds values → Holds GivenHolds (make_record w class values)
holds_make_record w class values h k = record {
  by = λ s p. held_at GivenHolds (std.◌&&◌ (nat_lt (length s.records) most_records) (nat_le (s.fields + length values) most_fields)) _ _
      (tt, (All-append VariableHolds s.memory values p.0 k, All-push RecordHolds s.records _ p.1 h, p.2, p.3, p.4)) p;
}

pub holds_field : (u : Use) (w class : Place) (position : ℕ) (r : Option RecordId) → Holds GivenHolds (field_of u w class position r)
holds_field u w class position None = holds_fault fault.ReferenceNull w
holds_field u w class position (Some r) = holds_bind (holds_the_record w r) (λ info p. holds_test (is_place_of class info) (holds_test (nat_lt position info.count) (holds_variable u w (info.first + position)) (holds_wrong w)) (holds_fault fault.WrongRecordClass w))

pub holds_class : (w class : Place) (r : Option RecordId) → Holds GivenHolds (is_of_class w class r)
holds_class w class None = holds_give (a_value (value.Logical false)) tt
holds_class w class (Some r) = holds_bind (holds_the_record w r) (λ info p. holds_give (a_value (value.Logical (is_place_of class info))) tt)

pub holds_within : (w : Place) (m n : ℕ) (spot : Spot) (at : ℤ) → Holds GivenHolds (spot_within w m n spot at)
holds_within w m n (whole k) (pos at) = holds_test (nat_le (at + n) m) (holds_give _ tt) (holds_fault fault.PlaceOutsideString w)
holds_within w m n (within k l from count) (pos at) = holds_test (nat_le (at + n) m) (holds_give _ tt) (holds_fault fault.PlaceOutsideString w)
holds_within w m n k (negsuc at) = holds_fault fault.PlaceOutsideString w

pub holds_string_answer : (w : Place) (r : std.Result (List ℕ) Fault) → ResultHolds r → Holds GivenHolds (string_answer w r)
holds_string_answer w (Ok s) h = holds_give (a_value (value.Str s)) h
holds_string_answer w (Err f) h = holds_fault f w

-- ---- output and data

holds_print : (pieces : List Piece) → All PieceHolds pieces → Holds Any (print pieces)
holds_print pieces h = record { by = λ s p. (tt, (p.0, p.1, All-append PieceHolds s.pieces pieces p.2 h, p.3, p.4)) }

holds_within_lines : (set : Setting) (w : Place) → Holds Any (within_lines set w)
holds_within_lines set w = record { by = λ s p. held_at Any (nat_le (length (lay s.pieces)) set.lines) _ _ (tt, p) p }

holds_put_pieces : (set : Setting) (w : Place) (pieces : List Piece) → All PieceHolds pieces → Holds Any (put_pieces set w pieces)
holds_put_pieces set w [] h = holds_any tt
holds_put_pieces set w (piece ∷ pieces) h = holds_then (holds_print (piece ∷ []) (All-cons PieceHolds piece [] (All-head PieceHolds piece pieces h) (All-nil PieceHolds))) (holds_then (holds_within_lines set w) (holds_put_pieces set w pieces (All-tail PieceHolds piece pieces h)))

holds_set_read : (n : ℕ) → Holds Any (set_read n)
holds_set_read n = record { by = λ s p. (tt, p) }

holds_read_so_far : Holds Any read_so_far
holds_read_so_far = record { by = λ s p. (tt, p) }

holds_scan_answer : (w : Place) (r : std.Result (Value × ℕ) Fault) → ReadHolds r → Holds ValueHolds (scan_answer w r)
holds_scan_answer w (Ok (v, n)) h = holds_then (holds_set_read n) (holds_give v h)
holds_scan_answer w (Err f) h = holds_fault f w

pub holds_scan : (set : Setting) → All IsText set.cards → (w : Place) (next : Bool) (t : Option SimpleType) → Holds ValueHolds (scan set w next t)
holds_scan set h w next None = holds_wrong w
holds_scan set h w next (Some t) = holds_bind holds_read_so_far (λ n p. holds_scan_answer w (scanned set.cards (read_from next n) t) (scanned_holds set.cards (read_from next n) t h))

pub holds_take_card : (set : Setting) → All IsText set.cards → (w : Place) → Holds ValueHolds (take_card set w)
holds_take_card set h w = holds_bind holds_read_so_far (λ n p. holds_scan_answer w (string_read (card_read set.cards n)) (card_holds set.cards n h))

pub holds_io_control : (n : ℤ) → Holds Any (io_control n)
holds_io_control (pos n) = holds_test (nat_eq n 1) (holds_bind holds_read_so_far (λ k p. holds_set_read (card_end k))) (holds_test (nat_eq n 2) (holds_print (Break ∷ []) (All-cons PieceHolds Break [] tt (All-nil PieceHolds))) (holds_any tt))
holds_io_control (negsuc n) = holds_any tt

holds_width : (w : Place) (k : Width) (o : Option ℤ) → Holds Any (width_now w k o)
holds_width w k (Some n) = holds_any n
holds_width w k None = holds_bind (holds_look w (variable_of k)) (λ v p. holds_integer_in w v)

pub holds_written : (set : Setting) (w : Place) (first : Bool) (ws : WidthsSet) (v : Value) → ValueHolds v → Holds Any (value_written set w first ws v)
holds_written set w first ws v h =
    holds_bind (holds_width w Columns ws.columns) (λ columns p. holds_bind (holds_width w Blanks ws.blanks) (λ blanks q.
    holds_test (may_be_placed v columns blanks) (holds_put_pieces set w (pieces_of first v (widths_of columns blanks)) (pieces_hold first v (widths_of columns blanks) h)) (holds_fault fault.WidthOutOfRange w)))

-- ---- actuals

abbrev pub ReadyHolds : env.Ready → Type 0
ReadyHolds (env.with_value v) = ValueHolds v
ReadyHolds env.without_value = ⊤
ReadyHolds (env.put_for t) = ThingHolds t

abbrev pub ReadyHold : List env.Ready → Type 0
ReadyHold [] = ⊤
ReadyHold (r ∷ rs) = ReadyHolds r × ReadyHold rs

pub record BoundHolds (b : env.Bound) : Type 0 where
  pub puts : MeantHold b.puts
  pub names : All ShownHolds b.names

pub holds_no_actuals : (w : Place) (given : Actuals) → Holds Any (no_actuals_given w given)
holds_no_actuals w no_actuals = holds_any tt
holds_no_actuals w (actual_and a rest) = holds_fault fault.ActualsDoNotFit w

pub holds_procedure_handed : (w : Place) (o : Option Thing) → MaybeHolds o → Holds ReadyHolds (env.procedure_handed w o)
holds_procedure_handed w (Some (to_procedure k)) h = holds_give (env.put_for (to_procedure k)) tt
holds_procedure_handed w (Some (thunk m a e)) h = holds_give (env.put_for (thunk m a e)) h
holds_procedure_handed w o h = holds_wrong w

pub holds_array_handed : (w : Place) (o : Option Thing) → Holds ReadyHolds (env.array_handed w o)
holds_array_handed w (Some (to_array k given)) = holds_give (env.put_for (to_array k given)) tt
holds_array_handed w o = holds_wrong w

bound_to : (f : Formal) (t : Thing) (held : state.Held) (b : env.Bound) → FormalHolds f → ThingHolds t → BoundHolds b → BoundHolds (env.bind_to f t held b)
bound_to f t held b h k l = record { puts = (k, l.puts); names = All-cons ShownHolds _ b.names h l.names }

pub holds_bound : (w : Place) (fs : List Formal) (rs : List env.Ready) → All FormalHolds fs → ReadyHold rs → Holds BoundHolds (env.bound w fs rs)
holds_bound w [] [] h k = holds_give env.none_bound (record { puts = tt; names = All-nil ShownHolds })
holds_bound w (f ∷ fs) (env.with_value v ∷ rs) h k = holds_bind (holds_new (Some v) k.0) (λ n p. holds_bind (holds_bound w fs rs (All-tail FormalHolds f fs h) k.1) (λ b q. holds_give (env.bind_to f (to_variable n) (state.a_variable n) b) (bound_to f (to_variable n) (state.a_variable n) b (All-head FormalHolds f fs h) tt q)))
holds_bound w (f ∷ fs) (env.without_value ∷ rs) h k = holds_bind (holds_new None tt) (λ n p. holds_bind (holds_bound w fs rs (All-tail FormalHolds f fs h) k.1) (λ b q. holds_give (env.bind_to f (to_variable n) (state.a_variable n) b) (bound_to f (to_variable n) (state.a_variable n) b (All-head FormalHolds f fs h) tt q)))
holds_bound w (f ∷ fs) (env.put_for t ∷ rs) h k = holds_bind (holds_bound w fs rs (All-tail FormalHolds f fs h) k.1) (λ b q. holds_give (env.bind_to f t (env.held_for f.is t) b) (bound_to f t (env.held_for f.is t) b (All-head FormalHolds f fs h) k.0 q))
holds_bound w [] (r ∷ rs) h k = holds_wrong w
holds_bound w (f ∷ fs) [] h k = holds_wrong w

pub holds_compared : (w : Place) (compares : Bool) (e : Env) (fs : List Formal) (given : Actuals) → Holds Any (env.compared w compares e fs given)
holds_compared w false e fs given = record { by = λ s p. (tt, p) }
holds_compared w true e fs given = record { by = λ s p. held_at Any (env.they_fit w s e fs given) _ _ (tt, p) p }

holds_procedure_at : (w : Place) (o : Option Bodied) → IfSome o BodiedHolds → Holds BodiedHolds (env.procedure_at w o)
holds_procedure_at w None h = holds_wrong w
holds_procedure_at w (Some p) h = holds_give p h

pub holds_the_procedure : (w : Place) (k : ℕ) → Holds BodiedHolds (env.the_procedure w k)
holds_the_procedure w k = record { by = λ s h. (holds_procedure_at w (slice_get s.procedures k) (found BodiedHolds s.procedures k h.4)).by s h }

-- ---- blocks

numbered_hold : (by : ℕ → Thing) → ((k : ℕ) → ThingHolds (by k)) → (k : ℕ) (names : List Name) (bs : List Meant) → MeantHold bs → MeantHold (env.numbered by k names bs)
numbered_hold by h k [] bs p = p
numbered_hold by h k (x ∷ xs) bs p = (h k, numbered_hold by h (k + 1) xs bs p)

labels_hold : (l : ℕ) (xs : List Place) → MeantHold (env.label_things l xs)
labels_hold l [] = tt
labels_hold l (x ∷ xs) = (tt, labels_hold (l + 1) xs)

decls_hold : (v a p : ℕ) (ds : Decls) (bs : List Meant) → MeantHold bs → MeantHold (env.decl_things v a p ds bs)
decls_hold v a p no_decls bs h = h
decls_hold v a p (variables_and names rest) bs h = numbered_hold to_variable (λ k. tt) v names _ (decls_hold (v + length names) a p rest bs h)
decls_hold v a p (arrays_and t names pairs rest) bs h = numbered_hold (λ k. to_array k (free (dimensions pairs))) (λ k. tt) a names _ (decls_hold v (a + length names) p rest bs h)
decls_hold v a p (procedure_and x result formals body rest) bs h = (tt, decls_hold v a (p + 1) rest bs h)

pub holds_fresh : (ds : Decls) (is : Items) → Holds MeantHold (env.fresh ds is)
holds_fresh ds is = record { by = λ s p. (decls_hold (length s.memory) (length s.arrays) (length s.procedures) ds (env.label_things s.labels (label_places is)) (labels_hold s.labels (label_places is)), p) }

bodied_hold : (w : Place) (e : Env) (ds : Decls) → EnvHolds e → DeclsHold ds → All BodiedHolds (env.bodied_procedures w e ds)
bodied_hold w e no_decls h k = All-nil BodiedHolds
bodied_hold w e (variables_and names rest) h k = bodied_hold w e rest h k.1
bodied_hold w e (arrays_and t names pairs rest) h k = bodied_hold w e rest h k.2
bodied_hold w e (procedure_and x result formals body rest) h k = All-cons BodiedHolds _ (env.bodied_procedures w e rest) (record { name = k.0; formals = k.1; body = k.2; env = h }) (bodied_hold w e rest h k.3)

pub holds_opened : (w : Place) (e : Env) (ds : Decls) (is : Items) → EnvHolds e → DeclsHold ds → Holds Any (env.opened w e ds is)
holds_opened w e ds is h k = record {
  by = λ s p. (tt, (All-append VariableHolds s.memory (replicate (variable_count ds) None) p.0 (All-replicate VariableHolds (variable_count ds) None tt), p.1, p.2, p.3, All-append BodiedHolds s.procedures (env.bodied_procedures w e ds) p.4 (bodied_hold w e ds h k)));
}

shown_name : (x : Name) (held : state.Held) → NameHolds x → All ShownHolds (shown x held)
shown_name x held h = All-cons ShownHolds _ [] h (All-nil ShownHolds)

pub holds_variables : (w : Place) (k : ℕ) (names : List Name) → All NameHolds names → Holds Any (declare_variables w k names)
holds_variables w k [] h = holds_any tt
holds_variables w k (x ∷ xs) h = holds_then (holds_take 1 w) (holds_then (holds_show (shown x (state.a_variable k)) (shown_name x (state.a_variable k) (All-head NameHolds x xs h))) (holds_variables w (k + 1) xs (All-tail NameHolds x xs h)))

pub holds_arrays : (w : Place) (k : ℕ) (t : ValueType) (names : List Name) (bounds : List (ℤ × ℤ)) → All NameHolds names → Holds Any (declare_arrays w k t names bounds)
holds_arrays w k t [] bounds h = holds_any tt
holds_arrays w k t (x ∷ xs) bounds h = holds_then (holds_then (holds_take (1 + elements bounds) w) (holds_place k t bounds)) (holds_then (holds_show (shown x (state.an_array k (free (length bounds)))) (shown_name x (state.an_array k (free (length bounds))) (All-head NameHolds x xs h))) (holds_arrays w (k + 1) t xs bounds (All-tail NameHolds x xs h)))

pub holds_firsts : Holds Any firsts
holds_firsts = record { by = λ s p. (tt, p) }

pub holds_cells_held : Holds Any cells_held
holds_cells_held = record { by = λ s p. (tt, p) }

pub holds_set_cells : (n : ℕ) → Holds Any (set_cells n)
holds_set_cells n = record { by = λ s p. (tt, p) }
