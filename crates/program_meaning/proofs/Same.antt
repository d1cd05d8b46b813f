-- The same computation over closed procedures and over procedures with environments.
use Rattle.std.proofs.Common.{◌≡◌, ℕ, ◌+◌, ◌-◌, ℤ, pos, negsuc, List, [], ◌∷◌, length, take, refl, ap, ◌∙◌}
use Rattle.std.specs.Prelude.{Option, Some, None, Bool, true, false, nat_lt, nat_le, nat_eq, slice_get, Ok, Err}
use Rattle.std.specs.Prelude as std
use Rattle.value_ops.specs.declared.places.Place.{Place}
use Rattle.value_ops.specs.declared.faults.Fault.{Fault}
use Rattle.value_ops.specs.declared.faults.Fault.TheVariants as fault
use Rattle.value_ops.specs.declared.values.Value.{Value}
use Rattle.value_ops.specs.declared.values.Value.TheVariants as value
use Rattle.value_ops.specs.declared.values.RecordId.{RecordId}
use Rattle.value_ops.specs.declared.values.SimpleType.{SimpleType}
use Rattle.value_ops.specs.Strings.{with_part}
use Rattle.algolw_tree.specs.declared.standard.Width.{Width}
use Rattle.algolw_tree.specs.declared.standard.Width.TheVariants.{Columns, Blanks}
use Rattle.algolw_typing.specs.Types.{ValueType, Integer, Logical, Bits, Str, Reference, has}
use Rattle.output_editing.specs.Layout.{Piece, Break, lay}
use Rattle.input_editing.specs.Columns.{card_end, card_read, read_from}
use Rattle.input_editing.specs.Scanning.{scanned}
use Rattle.program_meaning.specs.Phrases.{Name, Actuals, no_actuals, actual_and}
use Rattle.program_meaning.specs.Operations.{Answer, gives, faults, misfits}
use Rattle.program_meaning.specs.State.{State, Outcome, on, jump, stop, M, Setting, Why, wrong, Entry, ShownName, Use, for_value, for_place, Given, nothing, a_value, a_spot, Spot, whole, within, ArrayInfo, RecordInfo, after, ◌>>=◌, ◌>>◌, give, halt, fault_at, test, tick, note_begun, begin, take_cells, give_back, holding, push_entry, pop_entry, under, deeper, shallower, entered, show, value_in, value_of, spot_in, spot_of, integer_in, integer_of, truth_in, truth_of, string_in, record_in, answer_at, only_value, defined, look, put, variable, new, record_at, the_record, made, made_result, characters, string_held, put_string, store, assign, array_at, the_array, all_within, subscripted, offset, elements, element_of, make_array, make_record, is_place_of, field_of, is_of_class, spot_within, string_answer, print, put_pieces, within_lines, read_so_far, set_read, scan_answer, Made, back_to, is_own, caught, catching, cells_held, set_cells, made_here, most_cells, most_depth, most_records, most_fields}
use Rattle.program_meaning.specs.Copying.{Closed, free, shown, declare_variables, declare_arrays, no_actuals_given, value_held, scan, string_read, take_card, io_control}
use Rattle.program_meaning.specs.Widths.{WidthsSet, variable_of, width_now, may_be_placed, widths_of, pieces_of, value_placed, value_written}
use Rattle.program_meaning.specs.State as state
use Rattle.program_meaning.specs.Environments.{Bodied}
use Rattle.program_meaning.specs.Closing.{closed_state, closed_outcome}

pub record Same {A B : Type 0} (f : A → B) (m : M Bodied A) (m' : M Closed B) : Type 0 where
  pub by : (s : State Bodied) → closed_outcome f (m s) ≡ m' (closed_state s)

abbrev pub i : {A : Type 0} → A → A
i a = a

-- ---- one after the other

after_same : {A B C D : Type 0} (f : A → B) (g : C → D) (k : A → M Bodied C) (k' : B → M Closed D) → ((a : A) → Same g (k a) (k' (f a))) → (r : Outcome Bodied A) → closed_outcome g (after r k) ≡ after (closed_outcome f r) k'
after_same f g k k' h (on a s) = (h a).by s
after_same f g k k' h (jump l s) = refl
after_same f g k k' h (stop y w s) = refl

pub same_bind : {A B C D : Type 0} {f : A → B} {g : C → D} {m : M Bodied A} {m' : M Closed B} {k : A → M Bodied C} (k' : B → M Closed D) → Same f m m' → ((a : A) → Same g (k a) (k' (f a))) → Same g (m >>= k) (m' >>= k')
same_bind {f = f} {g = g} {m = m} {k = k} k' h hk = record { by = λ s. after_same f g k k' hk (m s) ∙ ap (λ r. after r k') (h.by s) }

pub same_then : {A B C D : Type 0} {f : A → B} {g : C → D} {m : M Bodied A} {m' : M Closed B} {k : M Bodied C} {k' : M Closed D} → Same f m m' → Same g k k' → Same g (m >> k) (m' >> k')
same_then {f = f} {g = g} {m = m} {k = k} {k' = k'} h hk = record { by = λ s. after_same f g (λ a. k) (λ a. k') (λ a. hk) (m s) ∙ ap (λ r. after r (λ a. k')) (h.by s) }

-- what a computation gives
abbrev pub Holds : {A : Type 0} → (A → Type 0) → Outcome Bodied A → Type 0
Holds Q (on a s) = Q a
Holds Q (jump l s) = Unit {0}
Holds Q (stop y w s) = Unit {0}

pub record Yields {A : Type 0} (Q : A → Type 0) (m : M Bodied A) : Type 0 where
  pub by : (s : State Bodied) → Holds Q (m s)

after_same_with : {A B C D : Type 0} (Q : A → Type 0) (f : A → B) (g : C → D) (k : A → M Bodied C) (k' : B → M Closed D) → ((a : A) → Q a → Same g (k a) (k' (f a))) → (r : Outcome Bodied A) → Holds Q r → closed_outcome g (after r k) ≡ after (closed_outcome f r) k'
after_same_with Q f g k k' h (on a s) q = (h a q).by s
after_same_with Q f g k k' h (jump l s) q = refl
after_same_with Q f g k k' h (stop y w s) q = refl

pub same_bind_with : {A B C D : Type 0} {f : A → B} {g : C → D} {m : M Bodied A} {m' : M Closed B} {k : A → M Bodied C} (k' : B → M Closed D) (Q : A → Type 0) → Yields Q m → Same f m m' → ((a : A) → Q a → Same g (k a) (k' (f a))) → Same g (m >>= k) (m' >>= k')
same_bind_with {f = f} {g = g} {m = m} {k = k} k' Q y h hk = record { by = λ s. after_same_with Q f g k k' hk (m s) (y.by s) ∙ ap (λ r. after r k') (h.by s) }

holds_after : {A C : Type 0} (P : A → Type 0) (Q : C → Type 0) (k : A → M Bodied C) → ((a : A) → P a → Yields Q (k a)) → (r : Outcome Bodied A) → Holds P r → Holds Q (after r k)
holds_after P Q k h (on a s) p = (h a p).by s
holds_after P Q k h (jump l s) p = tt
holds_after P Q k h (stop y w s) p = tt

pub yields_bind : {A C : Type 0} {m : M Bodied A} {k : A → M Bodied C} (P : A → Type 0) (Q : C → Type 0) → Yields P m → ((a : A) → P a → Yields Q (k a)) → Yields Q (m >>= k)
yields_bind {m = m} {k = k} P Q y h = record { by = λ s. holds_after P Q k h (m s) (y.by s) }

test_same : {A B : Type 0} (f : A → B) (b : Bool) (x y : Outcome Bodied A) (x' y' : Outcome Closed B) → closed_outcome f x ≡ x' → closed_outcome f y ≡ y' → closed_outcome f (elim b [ true ↦ x | false ↦ y ]) ≡ elim b [ true ↦ x' | false ↦ y' ]
test_same f true x y x' y' p q = p
test_same f false x y x' y' p q = q

pub same_test : {A B : Type 0} {f : A → B} {m k : M Bodied A} {m' k' : M Closed B} (b : Bool) → Same f m m' → Same f k k' → Same f (test b m k) (test b m' k')
same_test {f = f} b h g = record { by = λ s. test_same f b _ _ _ _ (h.by s) (g.by s) }

-- ---- what changes the state

pub same_give : {A B : Type 0} (f : A → B) (a : A) → Same f (give a) (give (f a))
same_give f a = record { by = λ s. refl }

pub same_halt : {A B : Type 0} (f : A → B) (y : Why) (w : Place) → Same f (halt y w) (halt y w)
same_halt f y w = record { by = λ s. refl }

pub same_tick : (set : Setting) (w : Place) → Same i (tick set w) (tick set w)
same_tick set w = record { by = λ s. test_same i (nat_lt s.steps set.steps) _ _ _ _ refl refl }

pub same_begin : (set : Setting) (st : Option Place) → Same i (begin set st) (begin set st)
same_begin set None = same_give i tt
same_begin set (Some st) = same_then (same_tick set st) (record { by = λ s. refl })

pub same_take : (n : ℕ) (w : Place) → Same i (take_cells n w) (take_cells n w)
same_take n w = record { by = λ s. test_same i (nat_le (s.cells + n) most_cells) _ _ _ _ refl refl }

pub same_back : (n : ℕ) → Same i (give_back n) (give_back n)
same_back n = record { by = λ s. refl }

pub same_holding : {A B : Type 0} {f : A → B} {m : M Bodied A} {m' : M Closed B} (w : Place) → Same f m m' → Same f (holding w m) (holding w m')
same_holding {f = f} w h = same_then (same_take 1 w) (same_bind _ h (λ a. same_then (same_back 1) (same_give f a)))

pub same_push : (e : Entry) → Same i (push_entry e) (push_entry e)
same_push e = record { by = λ s. refl }

pub same_pop : Same i pop_entry pop_entry
same_pop = record { by = λ s. refl }

pub same_deeper : (w : Place) → Same i (deeper w) (deeper w)
same_deeper w = record { by = λ s. test_same i (nat_lt s.depth most_depth) _ _ _ _ refl refl }

pub same_shallower : Same i shallower shallower
same_shallower = record { by = λ s. refl }

pub same_under : {A B : Type 0} {f : A → B} {m : M Bodied A} {m' : M Closed B} (e : Entry) → Same f m m' → Same f (under e m) (under e m')
same_under {f = f} e h = same_then (same_push e) (same_bind _ h (λ a. same_then same_pop (same_give f a)))

pub same_entered : {A B : Type 0} {f : A → B} {m : M Bodied A} {m' : M Closed B} (w : Place) (e : Entry) → Same f m m' → Same f (entered w e m) (entered w e m')
same_entered {f = f} w e h = same_then (same_deeper w) (same_bind _ (same_under e h) (λ a. same_then same_shallower (same_give f a)))

pub same_show : (xs : List ShownName) → Same i (show xs) (show xs)
same_show xs = record { by = λ s. refl }

pub same_cells_held : Same i cells_held cells_held
same_cells_held = record { by = λ s. refl }

pub same_set_cells : (n : ℕ) → Same i (set_cells n) (set_cells n)
same_set_cells n = record { by = λ s. refl }

pub same_made_here : (l n : ℕ) → Same i (made_here l n) (made_here l n)
same_made_here l n = record { by = λ s. refl }

-- ---- values and places

same_value_in : (w : Place) (r : Given) → Same i (value_in w r) (value_in w r)
same_value_in w (a_value v) = same_give i v
same_value_in w nothing = same_halt i wrong w
same_value_in w (a_spot k) = same_halt i wrong w

pub same_value : {m : M Bodied Given} {m' : M Closed Given} (w : Place) → Same i m m' → Same i (value_of w m) (value_of w m')
same_value w h = same_bind _ h (λ r. same_value_in w r)

same_spot_in : (w : Place) (r : Given) → Same i (spot_in w r) (spot_in w r)
same_spot_in w (a_spot k) = same_give i k
same_spot_in w nothing = same_halt i wrong w
same_spot_in w (a_value v) = same_halt i wrong w

pub same_spot : {m : M Bodied Given} {m' : M Closed Given} (w : Place) → Same i m m' → Same i (spot_of w m) (spot_of w m')
same_spot w h = same_bind _ h (λ r. same_spot_in w r)

same_integer_in : (w : Place) (v : Value) → Same i (integer_in w v) (integer_in w v)
same_integer_in w (value.Integer n) = same_give i n
same_integer_in w (value.Logical b) = same_halt i wrong w
same_integer_in w (value.Bits b) = same_halt i wrong w
same_integer_in w (value.Str s) = same_halt i wrong w
same_integer_in w (value.Reference r) = same_halt i wrong w

pub same_integer : {m : M Bodied Given} {m' : M Closed Given} (w : Place) → Same i m m' → Same i (integer_of w m) (integer_of w m')
same_integer w h = same_bind _ (same_value w h) (λ v. same_integer_in w v)

same_truth_in : (w : Place) (v : Value) → Same i (truth_in w v) (truth_in w v)
same_truth_in w (value.Logical b) = same_give i b
same_truth_in w (value.Integer n) = same_halt i wrong w
same_truth_in w (value.Bits b) = same_halt i wrong w
same_truth_in w (value.Str s) = same_halt i wrong w
same_truth_in w (value.Reference r) = same_halt i wrong w

pub same_truth : {m : M Bodied Given} {m' : M Closed Given} (w : Place) → Same i m m' → Same i (truth_of w m) (truth_of w m')
same_truth w h = same_bind _ (same_value w h) (λ v. same_truth_in w v)

pub same_string_in : (w : Place) (v : Value) → Same i (string_in w v) (string_in w v)
same_string_in w (value.Str s) = same_give i s
same_string_in w (value.Integer n) = same_halt i wrong w
same_string_in w (value.Bits b) = same_halt i wrong w
same_string_in w (value.Logical b) = same_halt i wrong w
same_string_in w (value.Reference r) = same_halt i wrong w

pub same_record_in : (w : Place) (v : Value) → Same i (record_in w v) (record_in w v)
same_record_in w (value.Reference r) = same_give i r
same_record_in w (value.Integer n) = same_halt i wrong w
same_record_in w (value.Bits b) = same_halt i wrong w
same_record_in w (value.Logical b) = same_halt i wrong w
same_record_in w (value.Str s) = same_halt i wrong w

pub same_answer : (w : Place) (a : Answer) → Same i (answer_at w a) (answer_at w a)
same_answer w (gives v) = same_give i (a_value v)
same_answer w (faults f) = record { by = λ s. refl }
same_answer w misfits = same_halt i wrong w

pub same_only : {m : M Bodied Given} {m' : M Closed Given} (u : Use) (w : Place) → Same i m m' → Same i (only_value u w m) (only_value u w m')
same_only for_value w h = h
same_only for_place w h = same_halt i wrong w

same_defined : (w : Place) (o : Option (Option Value)) → Same i (defined w o) (defined w o)
same_defined w None = same_halt i wrong w
same_defined w (Some None) = record { by = λ s. refl }
same_defined w (Some (Some v)) = same_give i v

pub same_look : (w : Place) (k : ℕ) → Same i (look w k) (look w k)
same_look w k = record { by = λ s. (same_defined w (slice_get s.memory k)).by s }

pub same_put : (k : ℕ) (v : Value) → Same i (put k v) (put k v)
same_put k v = record { by = λ s. refl }

pub same_variable : (u : Use) (w : Place) (k : ℕ) → Same i (variable u w k) (variable u w k)
same_variable for_value w k = same_bind _ (same_look w k) (λ v. same_give i (a_value v))
same_variable for_place w k = same_give i (a_spot (whole k))

pub same_new : (v : Option Value) → Same i (new v) (new v)
same_new v = record { by = λ s. refl }

same_record_at : (w : Place) (o : Option RecordInfo) → Same i (record_at w o) (record_at w o)
same_record_at w None = same_halt i wrong w
same_record_at w (Some r) = same_give i r

pub same_the_record : (w : Place) (r : RecordId) → Same i (the_record w r) (the_record w r)
same_the_record w r = record { by = λ s. (same_record_at w (slice_get s.records r.0)).by s }

pub same_fault : {A B : Type 0} (g : A → B) (f : Fault) (w : Place) → Same g (fault_at f w) (fault_at f w)
same_fault g f w = record { by = λ s. refl }

pub same_made : (w : Place) (t : ValueType) (v : Value) → Same i (made w t v) (made w t v)
same_made w Integer (value.Integer n) = same_give i _
same_made w Logical (value.Logical b) = same_give i _
same_made w Bits (value.Bits b) = same_give i _
same_made w (Str n) (value.Str s) = same_give i _
same_made w (Reference set) (value.Reference None) = same_give i _
same_made w (Reference set) (value.Reference (Some r)) = same_bind _ (same_the_record w r) (λ info. same_test (has set info.class.place) (same_give i _) (same_fault i fault.WrongRecordClass w))
same_made w Integer (value.Logical b) = same_halt i wrong w
same_made w Integer (value.Bits b) = same_halt i wrong w
same_made w Integer (value.Str b) = same_halt i wrong w
same_made w Integer (value.Reference b) = same_halt i wrong w
same_made w Logical (value.Integer b) = same_halt i wrong w
same_made w Logical (value.Bits b) = same_halt i wrong w
same_made w Logical (value.Str b) = same_halt i wrong w
same_made w Logical (value.Reference b) = same_halt i wrong w
same_made w Bits (value.Integer b) = same_halt i wrong w
same_made w Bits (value.Logical b) = same_halt i wrong w
same_made w Bits (value.Str b) = same_halt i wrong w
same_made w Bits (value.Reference b) = same_halt i wrong w
same_made w (Str n) (value.Integer b) = same_halt i wrong w
same_made w (Str n) (value.Logical b) = same_halt i wrong w
same_made w (Str n) (value.Bits b) = same_halt i wrong w
same_made w (Str n) (value.Reference b) = same_halt i wrong w
same_made w (Reference set) (value.Integer b) = same_halt i wrong w
same_made w (Reference set) (value.Logical b) = same_halt i wrong w
same_made w (Reference set) (value.Bits b) = same_halt i wrong w
same_made w (Reference set) (value.Str b) = same_halt i wrong w

pub same_made_result : (w : Place) (t : Option ValueType) (r : Given) → Same i (made_result w t r) (made_result w t r)
same_made_result w (Some t) (a_value v) = same_bind _ (same_made w t v) (λ u. same_give i (a_value u))
same_made_result w (Some t) nothing = same_give i _
same_made_result w (Some t) (a_spot k) = same_give i _
same_made_result w None r = same_give i r

same_characters : (w : Place) (m : ℕ) (o : Option (Option Value)) → Same i (characters w m o) (characters w m o)
same_characters w m None = same_halt i wrong w
same_characters w m (Some None) = same_give i _
same_characters w m (Some (Some v)) = same_string_in w v

same_string_held : (w : Place) (k m : ℕ) → Same i (string_held w k m) (string_held w k m)
same_string_held w k m = record { by = λ s. (same_characters w m (slice_get s.memory k)).by s }

same_put_string : (w : Place) (k : ℕ) (r : std.Result (List ℕ) Fault) → Same i (put_string w k r) (put_string w k r)
same_put_string w k (Ok s) = same_put k _
same_put_string w k (Err f) = same_fault i f w

pub same_store : (w : Place) (spot : Spot) (v : Value) → Same i (store w spot v) (store w spot v)
same_store w (whole k) v = same_put k v
same_store w (within k m from n) v = same_bind _ (same_string_in w v) (λ text. same_bind _ (same_string_held w k m) (λ s. same_put_string w k (with_part s (pos from) n (take n text))))

pub same_assign : (w : Place) (t : ValueType) (spot : Spot) (v : Value) → Same i (assign w t spot v) (assign w t spot v)
same_assign w t spot v = same_bind _ (same_made w t v) (λ u. same_store w spot u)

-- ---- arrays, records, parts of strings

same_array_at : (w : Place) (o : Option (Option ArrayInfo)) → Same i (array_at w o) (array_at w o)
same_array_at w None = same_halt i wrong w
same_array_at w (Some None) = same_halt i wrong w
same_array_at w (Some (Some a)) = same_give i a

pub same_the_array : (w : Place) (k : ℕ) → Same i (the_array w k) (the_array w k)
same_the_array w k = record { by = λ s. (same_array_at w (slice_get s.arrays k)).by s }

pub same_subscripted : {A B : Type 0} {f : A → B} {m : M Bodied A} {m' : M Closed B} (w : Place) (a : ArrayInfo) (subscripts : List (Option ℤ)) → Same f m m' → Same f (subscripted w a subscripts m) (subscripted w a subscripts m')
same_subscripted {f = f} w a subscripts h = same_test (all_within a.bounds subscripts) h (same_fault f fault.SubscriptOutsideBounds w)

pub same_element : (u : Use) (w : Place) (k : ℕ) (subscripts : List (Option ℤ)) → Same i (element_of u w k subscripts) (element_of u w k subscripts)
same_element u w k subscripts = same_bind _ (same_the_array w k) (λ a. same_subscripted w a subscripts (same_test (nat_lt (offset a.bounds subscripts) (elements a.bounds)) (same_variable u w (a.first + offset a.bounds subscripts)) (same_halt i wrong w)))

pub same_make_array : (w : Place) (k : ℕ) (t : ValueType) (bounds : List (ℤ × ℤ)) → Same i (make_array w k t bounds) (make_array w k t bounds)
same_make_array w k t bounds = same_then (same_take (1 + elements bounds) w) (record { by = λ s. refl })

pub same_make_record : (w : Place) (class : Name) (values : List (Option Value)) → Same i (make_record w class values) (make_record w class values)
same_make_record w class values = record { by = λ s. test_same i (std.◌&&◌ (nat_lt (length s.records) most_records) (nat_le (s.fields + length values) most_fields)) _ _ _ _ refl refl }

pub same_field : (u : Use) (w class : Place) (position : ℕ) (r : Option RecordId) → Same i (field_of u w class position r) (field_of u w class position r)
same_field u w class position None = same_fault i fault.ReferenceNull w
same_field u w class position (Some r) = same_bind _ (same_the_record w r) (λ info. same_test (is_place_of class info) (same_test (nat_lt position info.count) (same_variable u w (info.first + position)) (same_halt i wrong w)) (same_fault i fault.WrongRecordClass w))

pub same_class : (w class : Place) (r : Option RecordId) → Same i (is_of_class w class r) (is_of_class w class r)
same_class w class None = same_give i _
same_class w class (Some r) = same_bind _ (same_the_record w r) (λ info. same_give i _)

pub same_within : (w : Place) (m n : ℕ) (spot : Spot) (at : ℤ) → Same i (spot_within w m n spot at) (spot_within w m n spot at)
same_within w m n (whole k) (pos at) = same_test (nat_le (at + n) m) (same_give i _) (same_fault i fault.PlaceOutsideString w)
same_within w m n (within k l from count) (pos at) = same_test (nat_le (at + n) m) (same_give i _) (same_fault i fault.PlaceOutsideString w)
same_within w m n (whole k) (negsuc at) = same_fault i fault.PlaceOutsideString w
same_within w m n (within k l from count) (negsuc at) = same_fault i fault.PlaceOutsideString w

pub same_string_answer : (w : Place) (r : std.Result (List ℕ) Fault) → Same i (string_answer w r) (string_answer w r)
same_string_answer w (Ok s) = same_give i _
same_string_answer w (Err f) = same_fault i f w

-- ---- output and data

same_print : (pieces : List Piece) → Same i (print pieces) (print pieces)
same_print pieces = record { by = λ s. refl }

same_within_lines : (set : Setting) (w : Place) → Same i (within_lines set w) (within_lines set w)
same_within_lines set w = record { by = λ s. test_same i (nat_le (length (lay s.pieces)) set.lines) _ _ _ _ refl refl }

pub same_put_pieces : (set : Setting) (w : Place) (pieces : List Piece) → Same i (put_pieces set w pieces) (put_pieces set w pieces)
same_put_pieces set w [] = same_give i tt
same_put_pieces set w (piece ∷ pieces) = same_then (same_print (piece ∷ [])) (same_then (same_within_lines set w) (same_put_pieces set w pieces))

same_read_so_far : Same i read_so_far read_so_far
same_read_so_far = record { by = λ s. refl }

same_set_read : (n : ℕ) → Same i (set_read n) (set_read n)
same_set_read n = record { by = λ s. refl }

same_scan_answer : (w : Place) (r : std.Result (Value × ℕ) Fault) → Same i (scan_answer w r) (scan_answer w r)
same_scan_answer w (Ok (v, n)) = same_then (same_set_read n) (same_give i v)
same_scan_answer w (Err f) = same_fault i f w

pub same_scan : (set : Setting) (w : Place) (next : Bool) (t : Option SimpleType) → Same i (scan set w next t) (scan set w next t)
same_scan set w next None = same_halt i wrong w
same_scan set w next (Some t) = same_bind _ same_read_so_far (λ n. same_scan_answer w (scanned set.cards (read_from next n) t))

pub same_take_card : (set : Setting) (w : Place) → Same i (take_card set w) (take_card set w)
same_take_card set w = same_bind _ same_read_so_far (λ n. same_scan_answer w (string_read (card_read set.cards n)))

pub same_io_control : (n : ℤ) → Same i (io_control n) (io_control n)
same_io_control (pos n) = same_test (nat_eq n 1) (same_bind _ same_read_so_far (λ k. same_set_read (card_end k))) (same_test (nat_eq n 2) (same_print (Break ∷ [])) (same_give i tt))
same_io_control (negsuc n) = same_give i tt

same_width : (w : Place) (k : Width) (o : Option ℤ) → Same i (width_now w k o) (width_now w k o)
same_width w k (Some n) = same_give i n
same_width w k None = same_bind _ (same_look w (variable_of k)) (λ v. same_integer_in w v)

same_placed : (set : Setting) (w : Place) (first : Bool) (v : Value) (columns blanks : ℤ) → Same i (value_placed set w first v columns blanks) (value_placed set w first v columns blanks)
same_placed set w first v columns blanks = same_test (may_be_placed v columns blanks) (same_put_pieces set w (pieces_of first v (widths_of columns blanks))) (same_fault i fault.WidthOutOfRange w)

pub same_written : (set : Setting) (w : Place) (first : Bool) (ws : WidthsSet) (v : Value) → Same i (value_written set w first ws v) (value_written set w first ws v)
same_written set w first ws v = same_bind _ (same_width w Columns ws.columns) (λ columns. same_bind _ (same_width w Blanks ws.blanks) (λ blanks. same_placed set w first v columns blanks))

-- ---- blocks and calls

caught_same : {A B : Type 0} (f : A → B) (b : Made) (k : ℕ → M Bodied A) (k' : ℕ → M Closed B) → ((n : ℕ) → Same f (k n) (k' n)) → (r : Outcome Bodied A) → closed_outcome f (caught b k r) ≡ caught b k' (closed_outcome f r)
caught_same f b k k' h (on a s) = refl
caught_same f b k k' h (jump l s) = test_same f (is_own b l) _ _ _ _ ((h (l - b.first)).by (back_to b s)) refl
caught_same f b k k' h (stop y w s) = refl

pub same_catching : {A B : Type 0} {f : A → B} {m : M Bodied A} {m' : M Closed B} {k : ℕ → M Bodied A} {k' : ℕ → M Closed B} (b : Made) → ((n : ℕ) → Same f (k n) (k' n)) → Same f m m' → Same f (catching b k m) (catching b k' m')
same_catching {f = f} {m = m} {k = k} {k' = k'} b hk h = record { by = λ s. caught_same f b k k' hk (m s) ∙ ap (caught b k') (h.by s) }

pub same_declare_variables : (w : Place) (k : ℕ) (names : List Name) → Same i (declare_variables w k names) (declare_variables w k names)
same_declare_variables w k [] = same_give i tt
same_declare_variables w k (x ∷ xs) = same_then (same_take 1 w) (same_then (same_show (shown x (state.a_variable k))) (same_declare_variables w (k + 1) xs))

pub same_declare_arrays : (w : Place) (k : ℕ) (t : ValueType) (names : List Name) (bounds : List (ℤ × ℤ)) → Same i (declare_arrays w k t names bounds) (declare_arrays w k t names bounds)
same_declare_arrays w k t [] bounds = same_give i tt
same_declare_arrays w k t (x ∷ xs) bounds = same_then (same_make_array w k t bounds) (same_then (same_show (shown x (state.an_array k (free (length bounds))))) (same_declare_arrays w (k + 1) t xs bounds))

pub same_no_actuals : (w : Place) (given : Actuals) → Same i (no_actuals_given w given) (no_actuals_given w given)
same_no_actuals w no_actuals = same_give i tt
same_no_actuals w (actual_and a rest) = same_fault i fault.ActualsDoNotFit w

pub same_value_held : {m : M Bodied (Unit {0})} {m' : M Closed (Unit {0})} (t : Option ValueType) (w : Place) → Same i m m' → Same i (value_held t w m) (value_held t w m')
same_value_held None w h = h
same_value_held (Some t) w h = same_holding w h
