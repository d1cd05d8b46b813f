-- The bound on a run is never what stops it; steps grow within their limit, and no more statements are begun than steps are counted.
use Rattle.std.proofs.Common.{◌≡◌, ◌≢◌, ℕ, zero, suc, ◌+◌, ◌-◌, ◌*◌, ◌<◌, ◌≤◌, max, ℤ, pos, ◌+ℤ◌, List, [], ◌∷◌, length, map, refl, ap, arith}
use borrow.Author.Tests.{ltb-true}
use Rattle.std.specs.Prelude.{Option, Some, None, Bool, true, false, nat_lt, nat_le, replicate}
use Rattle.std.specs.Ordering.{int_eq}
use Rattle.value_ops.specs.declared.places.Place.{Place}
use Rattle.value_ops.specs.declared.faults.Fault.TheVariants as fault
use Rattle.value_ops.specs.declared.faults.Limit.TheVariants as limit
use Rattle.value_ops.specs.Strings.{part}
use Rattle.algolw_typing.specs.Types.{ValueType, Gives, Statement, Simple}
use Rattle.algolw_typing.specs.Meanings.{FormalType, by_name, by_value, by_result, by_value_result, for_array, for_procedure}
use Rattle.program_meaning.specs.Phrases.{Phrase, Empty, Constant, Named, Variable, Array, Label, Procedure, Copied, Unary, Binary, Relation, IsClass, Element, Field, Part, Record, RecordAlone, IfThen, Case, Block, Call, Assign, WhileDo, ForStep, ForList, Goto, Assert, Write, Read, ReadCard, IoControl, Phrases, no_phrases, phrase_and, Targets, no_targets, target_and, Subscripts, no_subscripts, star_and, subscript_and, Actuals, no_actuals, actual_and, Actual, Given, Alone, Subarray, Items, no_items, item_and, Bounds, no_bounds, bound_and, Decls, no_decls, variables_and, arrays_and, procedure_and, Name, Formal, Mark, label_places, Role, placed, sets}
use Rattle.program_meaning.specs.Widths.{WidthsSet, none_set, with_width}
use Rattle.program_meaning.specs.Operations.{unary, binary, relation}
use Rattle.program_meaning.specs.State as state
use Rattle.program_meaning.specs.State.{State, Outcome, on, jump, stop, M, Setting, Why, by_fault, by_limit, wrong, unfinished, Entry, ShownName, Use, for_value, for_place, nothing, a_value, a_spot, Spot, whole, within, ArrayInfo, RecordInfo, a_number, in_block, in_call, in_actual, in_turn, after, ◌>>=◌, ◌>>◌, give, halt, fault_at, test, tick, note_begun, begin, innermost, take_cells, give_back, holding, push_entry, pop_entry, under, deeper, shallower, entered, show, value_in, value_of, spot_in, spot_of, integer_in, integer_of, truth_in, truth_of, string_in, record_in, answer_at, only_value, defined, look, put, variable, new, record_at, the_record, made, made_result, characters, string_held, put_string, store, assign, array_at, the_array, filled_in, all_within, subscripted, offset, elements, element_of, place_array, make_array, make_record, is_place_of, field_of, is_of_class, spot_within, string_answer, print, within_lines, put_pieces, read_so_far, set_read, scan_answer, Made, back_to, is_own, caught, catching, cells_held, set_cells, made_here, most_cells, most_depth, most_records, most_fields, for_an_array}
use Rattle.program_meaning.specs.Copying.{Firsts, free, shown, declare_variables, declare_arrays, value_held, read_type, has_turn, case_number, cells_of, from}
use Rattle.program_meaning.specs.Environments as env
use Rattle.program_meaning.specs.Environments.{Env, empty, bind, find, Bodied, Meant, Thing, to_constant, to_variable, to_array, to_label, to_procedure, thunk, extend, head}
use Rattle.program_meaning.proofs.Keeping.{Kept, Keeps, keeps_bind, keeps_then, keeps_test, keeps_give, keeps_wrong, keeps_fault, keeps_cells_held, keeps_made_here, keeps_firsts, keeps_fresh, keeps_opened, keeps_value_in, keeps_spot_in, keeps_integer_in, keeps_truth_in, keeps_string_in, keeps_record_in, keeps_answer, keeps_look, keeps_variable, keeps_made, keeps_made_result, keeps_assign, keeps_the_array, keeps_element, keeps_make_record, keeps_field, keeps_class, keeps_within, keeps_string_answer, keeps_scan, keeps_take_card, keeps_io_control, keeps_written, keeps_no_actuals, keeps_procedure_handed, keeps_array_handed, keeps_bound, keeps_compared, keeps_no_formals, keeps_the_procedure}

nat_lt_means : (a b : ℕ) → nat_lt a b ≡ true → a < b
nat_lt_means a b e = ltb-true a b e

-- from one state to another steps grow, by no more than the limit leaves, and no more statements are begun than steps are counted
pub record Since (lim : ℕ) (s t : State Bodied) : Type 0 where
  pub grown : s.steps ≤ t.steps
  pub steps : t.steps ≤ max lim s.steps
  pub begun : length t.begun + s.steps ≤ length s.begun + t.steps

-- a jump has counted a step
abbrev pub Good : {A : Type 0} → ℕ → State Bodied → Outcome Bodied A → Type 0
Good lim s (on a t) = Since lim s t
Good lim s (jump l t) = (s.steps < t.steps) × Since lim s t
Good lim s (stop y w t) = (y ≢ unfinished) × Since lim s t

-- in a state in which the limit leaves less than n steps
pub record Alive {A : Type 0} (lim : ℕ) (n : ℕ) (m : M Bodied A) : Type 0 where
  pub by : (s : State Bodied) → lim - s.steps < n → Good lim s (m s)

both : (lim : ℕ) (s t u : State Bodied) → Since lim s t → Since lim t u → Since lim s u
both lim s t u p q = record { grown = omega (arith, p.grown, q.grown); steps = omega (arith, p.grown, p.steps, q.steps); begun = omega (arith, p.begun, q.begun) }

since_good : {A : Type 0} (lim : ℕ) (s t : State Bodied) (r : Outcome Bodied A) → Since lim s t → Good lim t r → Good lim s r
since_good lim s t (on a u) h g = both lim s t u h g
since_good lim s t (jump l u) h g = (omega (arith, h.grown, g.0), both lim s t u h g.1)
since_good lim s t (stop y w u) h g = (g.0, both lim s t u h g.1)

good_after : {A B : Type 0} (lim n : ℕ) (s : State Bodied) (f : A → M Bodied B) → ((a : A) → Alive lim n (f a)) → lim - s.steps < n → (r : Outcome Bodied A) → Good lim s r → Good lim s (after r f)
good_after lim n s f h b (on a t) g = since_good lim s t (f a t) g ((h a).by t (omega (arith, g.grown, b)))
good_after lim n s f h b (jump l t) g = g
good_after lim n s f h b (stop y w t) g = g

pub alive_bind : {A B : Type 0} {lim n : ℕ} {m : M Bodied A} {f : A → M Bodied B} → Alive lim n m → ((a : A) → Alive lim n (f a)) → Alive lim n (m >>= f)
alive_bind {lim = lim} {n = n} {m = m} {f = f} h g = record { by = λ s b. good_after lim n s f g b (m s) (h.by s b) }

pub alive_then : {A B : Type 0} {lim n : ℕ} {m : M Bodied A} {f : M Bodied B} → Alive lim n m → Alive lim n f → Alive lim n (m >> f)
alive_then {lim = lim} {n = n} {m = m} {f = f} h g = record { by = λ s b. good_after lim n s (λ a. f) (λ a. g) b (m s) (h.by s b) }

-- ---- what changes no counts

record Uncounted (s t : State Bodied) : Type 0 where
  steps : t.steps ≡ s.steps
  begun : t.begun ≡ s.begun

abbrev Counted : {A : Type 0} → State Bodied → Outcome Bodied A → Type 0
Counted s (on a t) = Uncounted s t
Counted s (jump l t) = ⊥
Counted s (stop y w t) = (y ≢ unfinished) × Uncounted s t

record Counts {A : Type 0} (m : M Bodied A) : Type 0 where
  by : (s : State Bodied) → Counted s (m s)

counts_at : {A : Type 0} (s : State Bodied) (b : Bool) (x y : Outcome Bodied A) → Counted s x → Counted s y → Counted s (elim b [ true ↦ x | false ↦ y ])
counts_at s true x y p q = p
counts_at s false x y p q = q

counts_take : (n : ℕ) (w : Place) → Counts (take_cells n w)
counts_take n w = record { by = λ s. counts_at s (nat_le (s.cells + n) most_cells) _ _ (record { steps = refl; begun = refl }) ((λ x. cc), record { steps = refl; begun = refl }) }

counts_deeper : (w : Place) → Counts (deeper w)
counts_deeper w = record { by = λ s. counts_at s (nat_lt s.depth most_depth) _ _ (record { steps = refl; begun = refl }) ((λ x. cc), record { steps = refl; begun = refl }) }

counts_back : (n : ℕ) → Counts (give_back n)
counts_back n = record { by = λ s. record { steps = refl; begun = refl } }

counts_push : (e : Entry) → Counts (push_entry e)
counts_push e = record { by = λ s. record { steps = refl; begun = refl } }

counts_pop : Counts pop_entry
counts_pop = record { by = λ s. record { steps = refl; begun = refl } }

counts_shallower : Counts shallower
counts_shallower = record { by = λ s. record { steps = refl; begun = refl } }

counts_show : (xs : List ShownName) → Counts (show xs)
counts_show xs = record { by = λ s. record { steps = refl; begun = refl } }

counts_set_cells : (n : ℕ) → Counts (set_cells n)
counts_set_cells n = record { by = λ s. record { steps = refl; begun = refl } }

counts_array : (k : ℕ) (t : ValueType) (bounds : List (ℤ × ℤ)) → Counts (place_array k t bounds)
counts_array k t bounds = record { by = λ s. record { steps = refl; begun = refl } }

-- ---- what changes no counts is alive

uncounted_since : (lim : ℕ) (s t : State Bodied) → Uncounted s t → Since lim s t
uncounted_since lim s t k = let same : length t.begun ≡ length s.begun = ap length k.begun in record { grown = omega (arith, k.steps); steps = omega (arith, k.steps); begun = omega (arith, k.steps, same) }

counted_good : {A : Type 0} (lim : ℕ) (s : State Bodied) (r : Outcome Bodied A) → Counted s r → Good lim s r
counted_good lim s (on a t) k = uncounted_since lim s t k
counted_good lim s (jump l t) k = elim k [ ]
counted_good lim s (stop y w t) k = (k.0, uncounted_since lim s t k.1)

alive_counts : {A : Type 0} {m : M Bodied A} {lim n : ℕ} → Counts m → Alive lim n m
alive_counts {m = m} {lim = lim} h = record { by = λ s b. counted_good lim s (m s) (h.by s) }

kept_counted : {A : Type 0} (s : State Bodied) (r : Outcome Bodied A) → Kept s r → Counted s r
kept_counted s (on a t) k = record { steps = k.steps; begun = k.begun }
kept_counted s (jump l t) k = k
kept_counted s (stop y w t) k = (k.0, record { steps = k.1.steps; begun = k.1.begun })

pub alive_keeps : {A : Type 0} {m : M Bodied A} {lim n : ℕ} → Keeps m → Alive lim n m
alive_keeps {m = m} {lim = lim} h = record { by = λ s b. counted_good lim s (m s) (kept_counted s (m s) (h.by s)) }

still : {A : Type 0} (lim : ℕ) (s : State Bodied) (b : Bool) (x y : Outcome Bodied A) → Good lim s x → Good lim s y → Good lim s (elim b [ true ↦ x | false ↦ y ])
still lim s true x y p q = p
still lim s false x y p q = q

pub alive_test : {A : Type 0} {lim n : ℕ} {m k : M Bodied A} (b : Bool) → Alive lim n m → Alive lim n k → Alive lim n (test b m k)
alive_test {lim = lim} b h g = record { by = λ s q. still lim s b _ _ (h.by s q) (g.by s q) }

-- ---- steps

same_since : (lim : ℕ) (s : State Bodied) → Since lim s s
same_since lim s = record { grown = omega arith; steps = omega arith; begun = omega arith }

-- a step more, and a statement begun
abbrev step_more : State Bodied → State Bodied
step_more s = record s { steps = s.steps + 1 }

step_since : (set : Setting) (s : State Bodied) → nat_lt s.steps set.steps ≡ true → Since set.steps s (step_more s)
step_since set s e = let lt : s.steps < set.steps = nat_lt_means s.steps set.steps e in record { grown = omega arith; steps = omega (arith, lt); begun = omega arith }

begun_since : (set : Setting) (st : Place) (s : State Bodied) → nat_lt s.steps set.steps ≡ true → Since set.steps s (record (step_more s) { begun = st ∷ s.begun })
begun_since set st s e = let lt : s.steps < set.steps = nat_lt_means s.steps set.steps e in record { grown = omega arith; steps = omega (arith, lt); begun = omega arith }

ticked : {A : Type 0} (set : Setting) (w : Place) (m : M Bodied A) (s : State Bodied) (n : ℕ) (b : Bool) → nat_lt s.steps set.steps ≡ b → ((t : State Bodied) → set.steps - t.steps < n → Good set.steps t (m t)) → set.steps - s.steps < suc n
    → Good set.steps s (after (elim b [ true ↦ on (tt {0}) (step_more s) | false ↦ stop (by_limit limit.Steps) w s ]) (λ x. m))
ticked set w m s n true e h q =
    let lt : s.steps < set.steps = nat_lt_means s.steps set.steps e in
    since_good set.steps s (step_more s) (m (step_more s)) (step_since set s e) (h (step_more s) (omega (arith, q, lt)))
ticked set w m s n false e h q = ((λ x. cc), same_since set.steps s)

-- a step counted leaves one less to be done
pub alive_tick : {A : Type 0} {n : ℕ} {m : M Bodied A} (set : Setting) (w : Place) → Alive set.steps n m → Alive set.steps (suc n) (tick set w >> m)
alive_tick {n = n} {m = m} set w h = record { by = λ s b. ticked set w m s n (nat_lt s.steps set.steps) refl h.by b }

begun_at : (set : Setting) (st : Place) (s : State Bodied) (b : Bool) → nat_lt s.steps set.steps ≡ b
    → Good set.steps s (after (elim b [ true ↦ on (tt {0}) (step_more s) | false ↦ stop (by_limit limit.Steps) st s ]) (λ x. note_begun st))
begun_at set st s true e = begun_since set st s e
begun_at set st s false e = ((λ x. cc), same_since set.steps s)

alive_begin : {n : ℕ} (set : Setting) (st : Option Place) → Alive set.steps n (begin set st)
alive_begin set None = alive_keeps (keeps_give tt)
alive_begin set (Some st) = record { by = λ s b. begun_at set st s (nat_lt s.steps set.steps) refl }

alive_down : {A : Type 0} {lim n : ℕ} {m : M Bodied A} → Alive lim (suc n) m → Alive lim n m
alive_down h = record { by = λ s b. h.by s (omega (arith, b)) }

-- ---- what is done with something alive

alive_value : {lim n : ℕ} {m : M Bodied state.Given} (w : Place) → Alive lim n m → Alive lim n (value_of w m)
alive_value w h = alive_bind h (λ r. alive_keeps (keeps_value_in w r))

alive_spot : {lim n : ℕ} {m : M Bodied state.Given} (w : Place) → Alive lim n m → Alive lim n (spot_of w m)
alive_spot w h = alive_bind h (λ r. alive_keeps (keeps_spot_in w r))

alive_integer : {lim n : ℕ} {m : M Bodied state.Given} (w : Place) → Alive lim n m → Alive lim n (integer_of w m)
alive_integer w h = alive_bind (alive_value w h) (λ v. alive_keeps (keeps_integer_in w v))

alive_truth : {lim n : ℕ} {m : M Bodied state.Given} (w : Place) → Alive lim n m → Alive lim n (truth_of w m)
alive_truth w h = alive_bind (alive_value w h) (λ v. alive_keeps (keeps_truth_in w v))

alive_holding : {A : Type 0} {lim n : ℕ} {m : M Bodied A} (w : Place) → Alive lim n m → Alive lim n (holding w m)
alive_holding w h = alive_then (alive_counts (counts_take 1 w)) (alive_bind h (λ a. alive_then (alive_counts (counts_back 1)) (alive_keeps (keeps_give a))))

alive_under : {A : Type 0} {lim n : ℕ} {m : M Bodied A} (e : Entry) → Alive lim n m → Alive lim n (under e m)
alive_under e h = alive_then (alive_counts (counts_push e)) (alive_bind h (λ a. alive_then (alive_counts counts_pop) (alive_keeps (keeps_give a))))

alive_entered : {A : Type 0} {lim n : ℕ} {m : M Bodied A} (w : Place) (e : Entry) → Alive lim n m → Alive lim n (entered w e m)
alive_entered w e h = alive_then (alive_counts (counts_deeper w)) (alive_bind (alive_under e h) (λ a. alive_then (alive_counts counts_shallower) (alive_keeps (keeps_give a))))

alive_only : {lim n : ℕ} {m : M Bodied state.Given} (u : Use) (w : Place) → Alive lim n m → Alive lim n (only_value u w m)
alive_only for_value w h = h
alive_only for_place w h = alive_keeps (keeps_wrong w)

-- a jump has counted a step, so what it goes on with has one less to do
back_since : (lim : ℕ) (b : Made) (s t : State Bodied) → Since lim s t → Since lim s (back_to b t)
back_since lim b s t h = record { grown = h.grown; steps = h.steps; begun = h.begun }

alive_caught : {A : Type 0} (lim n : ℕ) (s : State Bodied) (b : Made) (r : ℕ → M Bodied A) → ((j : ℕ) → Alive lim n (r j)) → lim - s.steps < suc n → (x : Outcome Bodied A) → Good lim s x → Good lim s (caught b r x)
alive_caught lim n s b r h q (on a t) g = g
alive_caught lim n s b r h q (jump l t) g =
    still lim s (is_own b l) _ _ (since_good lim s (back_to b t) (r (l - b.first) (back_to b t)) (back_since lim b s t g.1) ((h (l - b.first)).by (back_to b t) (omega (arith, g.0, g.1.steps, q)))) g
alive_caught lim n s b r h q (stop y w t) g = g

alive_catching : {A : Type 0} {lim n : ℕ} {m : M Bodied A} {r : ℕ → M Bodied A} (b : Made) → ((j : ℕ) → Alive lim n (r j)) → Alive lim (suc n) m → Alive lim (suc n) (catching b r m)
alive_catching {lim = lim} {n = n} {m = m} {r = r} b h g = record { by = λ s q. alive_caught lim n s b r h q (m s) (g.by s q) }

alive_value_held : {lim n : ℕ} {m : M Bodied (Unit {0})} (t : Option ValueType) (w : Place) → Alive lim n m → Alive lim n (value_held t w m)
alive_value_held None w h = h
alive_value_held (Some t) w h = alive_holding w h

alive_value_ready : {lim n : ℕ} {m : M Bodied state.Given} (w : Place) (t : ValueType) → Alive lim n m → Alive lim n (env.value_ready w t m)
alive_value_ready w t h = alive_bind (alive_value w h) (λ v. alive_keeps (keeps_bind (keeps_made w t v) (λ u. keeps_give _)))

alive_phrase_ready : {lim n : ℕ} {m : M Bodied state.Given} (f : FormalType) (w : Place) (v : Bool) (g : Gives) (first : Place) (a : Phrase) (e : Env) → Alive lim n m → Alive lim n (env.phrase_ready f w m v g first a e)
alive_phrase_ready (by_value t) w v g first a e h = alive_value_ready w t h
alive_phrase_ready (by_value_result t) w v g first a e h = alive_value_ready w t h
alive_phrase_ready (by_result t) w v g first a e h = alive_keeps (keeps_give _)
alive_phrase_ready (by_name t) w v g first a e h = alive_keeps (keeps_give _)
alive_phrase_ready (for_procedure result) w v g first a e h = alive_keeps (keeps_give _)
alive_phrase_ready (for_array t n) w v g first a e h = alive_keeps (keeps_wrong w)

alive_for_an_array : {A : Type 0} {lim n : ℕ} {m : M Bodied A} (w : Place) (f : FormalType) → Alive lim n m → Alive lim n (for_an_array w f m)
alive_for_an_array w (by_value t) h = alive_keeps (keeps_wrong w)
alive_for_an_array w (by_name t) h = alive_keeps (keeps_wrong w)
alive_for_an_array w (by_result t) h = alive_keeps (keeps_wrong w)
alive_for_an_array w (by_value_result t) h = alive_keeps (keeps_wrong w)
alive_for_an_array w (for_procedure result) h = alive_keeps (keeps_wrong w)
alive_for_an_array w (for_array t n) h = h

alive_name_ready : {lim n : ℕ} {m : M Bodied state.Given} (f : FormalType) (w p : Place) (a : Phrase) (e : Env) → Alive lim n m → Alive lim n (env.name_ready f w m p a e)
alive_name_ready (by_value t) w p a e h = alive_value_ready w t h
alive_name_ready (by_name t) w p a e h = alive_keeps (keeps_give _)
alive_name_ready (for_procedure result) w p a e h = alive_keeps (keeps_procedure_handed w (head e a))
alive_name_ready (for_array t n) w p a e h = alive_keeps (keeps_array_handed w (head e a))
alive_name_ready (by_result t) w p a e h = alive_keeps (keeps_wrong w)
alive_name_ready (by_value_result t) w p a e h = alive_keeps (keeps_wrong w)

alive_give_back_value : {lim n : ℕ} {m : M Bodied state.Given} (w : Place) (g : Gives) (t : Thing) → Alive lim n m → Alive lim n (env.give_back_value w m g t)
alive_give_back_value w (Simple ty) (to_variable k) h = alive_bind (alive_spot w h) (λ spot. alive_keeps (keeps_bind (keeps_look w k) (λ v. keeps_assign w ty spot v)))
alive_give_back_value w (Simple ty) (to_constant v) h = alive_keeps (keeps_wrong w)
alive_give_back_value w (Simple ty) (to_array k given) h = alive_keeps (keeps_wrong w)
alive_give_back_value w (Simple ty) (to_label k) h = alive_keeps (keeps_wrong w)
alive_give_back_value w (Simple ty) (to_procedure k) h = alive_keeps (keeps_wrong w)
alive_give_back_value w (Simple ty) (thunk m a e) h = alive_keeps (keeps_wrong w)
alive_give_back_value w Statement t h = alive_keeps (keeps_wrong w)

alive_assigned_back : {lim n : ℕ} {m : M Bodied state.Given} (f : FormalType) (w : Place) (g : Gives) (t : Thing) → Alive lim n m → Alive lim n (env.assigned_back f w m g t)
alive_assigned_back (by_result ty) w g t h = alive_give_back_value w g t h
alive_assigned_back (by_value_result ty) w g t h = alive_give_back_value w g t h
alive_assigned_back (by_value ty) w g t h = alive_keeps (keeps_give tt)
alive_assigned_back (by_name ty) w g t h = alive_keeps (keeps_give tt)
alive_assigned_back (for_array ty n) w g t h = alive_keeps (keeps_give tt)
alive_assigned_back (for_procedure result) w g t h = alive_keeps (keeps_give tt)

alive_make_array : {lim n : ℕ} (w : Place) (k : ℕ) (t : ValueType) (bounds : List (ℤ × ℤ)) → Alive lim n (make_array w k t bounds)
alive_make_array w k t bounds = alive_then (alive_counts (counts_take (1 + elements bounds) w)) (alive_counts (counts_array k t bounds))

alive_declare_variables : {lim n : ℕ} (w : Place) (k : ℕ) (names : List Name) → Alive lim n (declare_variables w k names)
alive_declare_variables w k [] = alive_keeps (keeps_give tt)
alive_declare_variables w k (x ∷ xs) = alive_then (alive_counts (counts_take 1 w)) (alive_then (alive_counts (counts_show (shown x (state.a_variable k)))) (alive_declare_variables w (k + 1) xs))

alive_declare_arrays : {lim n : ℕ} (w : Place) (k : ℕ) (t : ValueType) (names : List Name) (bounds : List (ℤ × ℤ)) → Alive lim n (declare_arrays w k t names bounds)
alive_declare_arrays w k t [] bounds = alive_keeps (keeps_give tt)
alive_declare_arrays w k t (x ∷ xs) bounds = alive_then (alive_make_array w k t bounds) (alive_then (alive_counts (counts_show (shown x (state.an_array k (free (length bounds)))))) (alive_declare_arrays w (k + 1) t xs bounds))

module _ (set : Setting) (later : env.Job → M Bodied state.Given) (n : ℕ) (hl : (job : env.Job) → Alive set.steps n (later job)) where
  alive_copied : (u : Use) (w : Place) (m : Mark) (a : Phrase) (e : Env) → Alive set.steps (suc n) (env.copied set later u w m a e)
  alive_copied for_value w m a e = alive_tick set w (alive_bind (alive_entered w (in_actual m.first) (hl (env.phrase_job for_value m.statement a e))) (λ r. alive_keeps (keeps_made_result w m.type r)))
  alive_copied for_place w m a e = alive_tick set w (alive_test m.is_variable (alive_entered w (in_actual m.first) (hl (env.phrase_job for_place m.statement a e))) (alive_keeps (keeps_fault fault.AssignmentToNoVariable w)))

  alive_named : (u : Use) (w : Place) (o : Option Thing) → Alive set.steps (suc n) (env.named set later u w o)
  alive_named u w None = alive_keeps (keeps_wrong w)
  alive_named u w (Some (to_constant v)) = alive_only u w (alive_keeps (keeps_give _))
  alive_named u w (Some (to_variable k)) = alive_keeps (keeps_variable u w k)
  alive_named u w (Some (to_array k given)) = alive_keeps (keeps_wrong w)
  alive_named u w (Some (to_label k)) = alive_keeps (keeps_wrong w)
  alive_named u w (Some (to_procedure k)) = alive_keeps (keeps_wrong w)
  alive_named u w (Some (thunk m a e)) = alive_copied u w m a e

  alive_while : {m : M Bodied state.Given} (w : Place) → Alive set.steps (suc n) m → (c body : Phrase) (e : Env) → Alive set.steps (suc n) (env.while_turns set later w m c body e)
  alive_while w h c body e = alive_bind (alive_truth w h) (λ b. alive_test b (alive_tick set w (hl (env.while_job w c body e))) (alive_keeps (keeps_give _)))

  alive_steps : (w : Place) (x : Name) (i j k : ℤ) (body : Phrase) (e : Env) → Alive set.steps (suc n) (env.step_turns set later w x i j k body e)
  alive_steps w x i j k body e = alive_test (has_turn i j k) (alive_tick set w (hl (env.step_job w x i j k body e))) (alive_keeps (keeps_give _))

  -- a GOTO counts a step, and then jumps
  jumped : (st : Place) (s : State Bodied) (b : Bool) → nat_lt s.steps set.steps ≡ b → (o : Option Thing)
      → Good set.steps s (after (after (elim b [ true ↦ on (tt {0}) (step_more s) | false ↦ stop (by_limit limit.Steps) st s ]) (λ x. note_begun st)) (λ x. env.went set later st o))
  jumped st s true e (Some (to_label l)) = (omega arith, begun_since set st s e)
  jumped st s true e None = ((λ x. cc), begun_since set st s e)
  jumped st s true e (Some (to_constant v)) = ((λ x. cc), begun_since set st s e)
  jumped st s true e (Some (to_variable v)) = ((λ x. cc), begun_since set st s e)
  jumped st s true e (Some (to_array v g)) = ((λ x. cc), begun_since set st s e)
  jumped st s true e (Some (to_procedure v)) = ((λ x. cc), begun_since set st s e)
  jumped st s true e (Some (thunk m a g)) = ((λ x. cc), begun_since set st s e)
  jumped st s false e o = ((λ x. cc), same_since set.steps s)

  alive_goto : (st : Place) (o : Option Thing) → Alive set.steps (suc n) (begin set (Some st) >> env.went set later st o)
  alive_goto st o = record { by = λ s b. jumped st s (nat_lt s.steps set.steps) refl o }

  alive_with_numbers : (w : Place) (ds : Decls) (is : Items) (e : Env) (d : Firsts → M Bodied (Unit {0})) (m : Env → M Bodied state.Given) → ((k : Firsts) → Alive set.steps (suc n) (d k)) → ((f : Env) → Alive set.steps (suc n) (m f)) → (k : Firsts) (bs : List Meant)
      → Alive set.steps (suc n) (env.with_numbers set later w ds is e d m k bs)
  alive_with_numbers w ds is e d m hd h k bs =
      alive_then (alive_keeps (keeps_opened w (extend bs e) ds is)) (alive_then (hd k) (alive_bind (alive_keeps (keeps_made_here k.labels (length (label_places is)))) (λ b.
      alive_catching b (λ j. hl (env.items_job b w is (extend bs e) j)) (h (extend bs e)))))

  alive_block : (w p : Place) (ds : Decls) (is : Items) (e : Env) (d : Firsts → M Bodied (Unit {0})) (m : Env → M Bodied state.Given) → ((k : Firsts) → Alive set.steps (suc n) (d k)) → ((f : Env) → Alive set.steps (suc n) (m f))
      → Alive set.steps (suc n) (env.block set later w p ds is e d m)
  alive_block w p ds is e d m hd h =
      alive_under (in_block p []) (alive_bind (alive_keeps keeps_cells_held) (λ held. alive_bind (alive_keeps keeps_firsts) (λ k.
      alive_bind (alive_bind {f = env.with_numbers set later w ds is e d m k} (alive_keeps (keeps_fresh ds is)) (λ bs. alive_with_numbers w ds is e d m hd h k bs)) (λ r. alive_then (alive_counts (counts_set_cells held)) (alive_keeps (keeps_give r))))))

  alive_called : (w p : Place) (procedure : Bodied) (r : M Bodied (List env.Ready)) (k : List Meant → M Bodied (Unit {0})) → Alive set.steps (suc n) r → ((bs : List Meant) → Alive set.steps n (k bs)) → Alive set.steps (suc n) (env.called set later w p procedure r k)
  alive_called w p procedure r k hr hk =
      alive_bind hr (λ rs. alive_tick set w (alive_then (alive_counts (counts_deeper w)) (alive_bind (alive_keeps (keeps_bound w procedure.formals rs)) (λ b.
      alive_bind (alive_under (in_call procedure.name p b.names) (alive_bind (alive_bind (hl (env.phrase_job for_value procedure.statement procedure.body (extend b.puts procedure.env))) (λ r. alive_keeps (keeps_made_result procedure.statement procedure.result r))) (λ r. alive_then (alive_value_held procedure.result procedure.statement (hk b.puts)) (alive_keeps (keeps_give r)))))
      (λ r. alive_then (alive_counts counts_shallower) (alive_then (alive_counts (counts_back (length procedure.formals))) (alive_keeps (keeps_give r))))))))

  alive_invoked : (w : Place) (compares : Bool) (p : Place) (o : Option Thing) (given : Actuals) (e : Env) (r : List Formal → M Bodied (List env.Ready)) (k : List Formal → List Meant → M Bodied (Unit {0}))
      → ((fs : List Formal) → Alive set.steps (suc n) (r fs)) → ((fs : List Formal) (bs : List Meant) → Alive set.steps n (k fs bs)) → Alive set.steps (suc n) (env.invoked set later w compares p o given e r k)
  alive_invoked w compares p None given e r k hr hk = alive_keeps (keeps_wrong w)
  alive_invoked w compares p (Some (to_constant v)) given e r k hr hk = alive_keeps (keeps_wrong w)
  alive_invoked w compares p (Some (to_variable v)) given e r k hr hk = alive_keeps (keeps_wrong w)
  alive_invoked w compares p (Some (to_array v g)) given e r k hr hk = alive_keeps (keeps_wrong w)
  alive_invoked w compares p (Some (to_label v)) given e r k hr hk = alive_keeps (keeps_wrong w)
  alive_invoked w compares p (Some (to_procedure v)) given e r k hr hk = alive_bind (alive_keeps (keeps_the_procedure w v)) (λ procedure. alive_then (alive_keeps (keeps_compared w compares e procedure.formals given)) (alive_called w p procedure (r procedure.formals) (k procedure.formals) (hr procedure.formals) (hk procedure.formals)))
  alive_invoked w compares p (Some (thunk m a f)) given e r k hr hk = alive_then (alive_keeps (keeps_no_actuals w given)) (alive_copied for_value w m a f)

  alive_element_at : (u : Use) (w : Place) (o : Option Thing) (is : List ℤ) → Alive set.steps (suc n) (env.element_at set later u w o is)
  alive_element_at u w None is = alive_keeps (keeps_wrong w)
  alive_element_at u w (Some (to_constant v)) is = alive_keeps (keeps_wrong w)
  alive_element_at u w (Some (to_variable v)) is = alive_keeps (keeps_wrong w)
  alive_element_at u w (Some (to_array k given)) is = alive_bind (alive_keeps (keeps_element u w k (filled_in given (map (λ i. Some i) is)))) (λ r. alive_then (alive_counts (counts_back (length is))) (alive_keeps (keeps_give r)))
  alive_element_at u w (Some (to_label v)) is = alive_keeps (keeps_wrong w)
  alive_element_at u w (Some (to_procedure v)) is = alive_keeps (keeps_wrong w)
  alive_element_at u w (Some (thunk m a e)) is = alive_keeps (keeps_wrong w)

  alive_subarray_at : (w : Place) (o : Option Thing) (is : List (Option ℤ)) → Alive set.steps (suc n) (env.subarray_at set later w o is)
  alive_subarray_at w None is = alive_keeps (keeps_wrong w)
  alive_subarray_at w (Some (to_constant v)) is = alive_keeps (keeps_wrong w)
  alive_subarray_at w (Some (to_variable v)) is = alive_keeps (keeps_wrong w)
  alive_subarray_at w (Some (to_array k given)) is = alive_bind (alive_keeps (keeps_the_array w k)) (λ a. alive_test (all_within a.bounds (filled_in given is)) (alive_then (alive_counts (counts_back (cells_of is))) (alive_keeps (keeps_give (env.put_for (to_array k (filled_in given is)))))) (alive_keeps (keeps_fault fault.SubscriptOutsideBounds w)))
  alive_subarray_at w (Some (to_label v)) is = alive_keeps (keeps_wrong w)
  alive_subarray_at w (Some (to_procedure v)) is = alive_keeps (keeps_wrong w)
  alive_subarray_at w (Some (thunk m a e)) is = alive_keeps (keeps_wrong w)

  mutual
    alive : (a : Phrase) (u : Use) (w : Place) (e : Env) → Alive set.steps (suc n) (env.go set later a u w e)
    alive Empty u w e = alive_keeps (keeps_give _)
    alive (Constant v) u w e = alive_only u w (alive_keeps (keeps_give _))
    alive (Named x) u w e = alive_named u w (find e x)
    alive (Variable k) u w e = alive_keeps (keeps_variable u w k)
    alive (Array k given) u w e = alive_keeps (keeps_wrong w)
    alive (Label l) u w e = alive_keeps (keeps_wrong w)
    alive (Procedure k) u w e = alive_keeps (keeps_wrong w)
    alive (Copied m a) u w e = alive_copied u w m a empty
    alive (Unary op a) u w e = alive_only u w (alive_bind (alive_value w (alive a for_value w e)) (λ v. alive_keeps (keeps_answer w (unary op v))))
    alive (Binary op a b) u w e = alive_only u w (alive_bind (alive_value w (alive a for_value w e)) (λ v. alive_bind (alive_holding w (alive_value w (alive b for_value w e))) (λ v'. alive_keeps (keeps_answer w (binary op v v')))))
    alive (Relation op a b) u w e = alive_only u w (alive_bind (alive_value w (alive a for_value w e)) (λ v. alive_bind (alive_holding w (alive_value w (alive b for_value w e))) (λ v'. alive_keeps (keeps_answer w (relation op v v')))))
    alive (IsClass a class) u w e = alive_only u w (alive_bind (alive_bind (alive_value w (alive a for_value w e)) (λ v. alive_keeps (keeps_record_in w v))) (λ r. alive_keeps (keeps_class w class r)))
    alive (Element a subs) u w e = alive_bind (alive_subscripts subs w e) (λ is. alive_element_at u w (head e a) is)
    alive (Field class k a) u w e = alive_bind (alive_bind (alive_value w (alive a for_value w e)) (λ v. alive_keeps (keeps_record_in w v))) (λ r. alive_keeps (keeps_field u w class k r))
    alive (Part m k a start) for_value w e = alive_bind (alive_bind (alive_value w (alive a for_value w e)) (λ v. alive_keeps (keeps_string_in w v))) (λ s. alive_bind (alive_holding w (alive_integer w (alive start for_value w e))) (λ j. alive_keeps (keeps_string_answer w (part s j k))))
    alive (Part m k a start) for_place w e = alive_bind (alive_spot w (alive a for_place w e)) (λ spot. alive_bind (alive_holding w (alive_integer w (alive start for_value w e))) (λ j. alive_keeps (keeps_within w m k spot j)))
    alive (Record class types values) u w e = alive_only u w (alive_bind (alive_fields values w types e) (λ vs. alive_bind (alive_keeps (keeps_make_record w class vs)) (λ r. alive_then (alive_counts (counts_back (length vs))) (alive_keeps (keeps_give r)))))
    alive (RecordAlone class k) u w e = alive_only u w (alive_keeps (keeps_make_record w class (replicate k None)))
    alive (IfThen st t c a b) u w e = alive_only u w (alive_then (alive_begin set st) (alive_bind (alive_truth (innermost w st) (alive c for_value (innermost w st) e)) (λ truth. alive_bind (alive_test truth (alive a for_value (innermost w st) e) (alive b for_value (innermost w st) e)) (λ r. alive_keeps (keeps_made_result (innermost w st) t r)))))
    alive (Case st t c parts) u w e = alive_only u w (alive_then (alive_begin set st) (alive_bind (alive_integer (innermost w st) (alive c for_value (innermost w st) e)) (λ k. alive_bind (alive_case parts (innermost w st) (case_number k) e) (λ r. alive_keeps (keeps_made_result (innermost w st) t r)))))
    alive (Block st p ds is) u w e = alive_only u w (alive_then (alive_begin set st) (alive_block (innermost w st) p ds is e (λ k. env.go_decls set later ds (innermost w st) k.variables k.arrays e) (λ f. env.go_items set later is (innermost w st) f) (λ k. alive_decls ds (innermost w st) k.variables k.arrays e) (λ f. alive_items is (innermost w st) f)))
    alive (Call st compares p a given) u w e = alive_only u w (alive_then (alive_begin set st) (alive_invoked (innermost w st) compares p (head e a) given e (λ fs. env.go_actuals set later given (innermost w st) fs e) (λ fs bs. env.go_back set later given (innermost w st) fs bs e) (λ fs. alive_actuals given (innermost w st) fs e) (λ fs bs. alive_down (alive_back given (innermost w st) fs bs e))))
    alive (Assign st t a b) u w e = alive_only u w (alive_then (alive_begin set st) (alive_bind (alive_spot (innermost w st) (alive a for_place (innermost w st) e)) (λ k. alive_holding (innermost w st) (alive_bind (alive_value (innermost w st) (alive b for_value (innermost w st) e)) (λ v. alive_keeps (keeps_then (keeps_assign (innermost w st) t k v) (keeps_give _)))))))
    alive (WhileDo st c body) u w e = alive_only u w (alive_then (alive_begin set (Some st)) (alive_while st (alive c for_value st e) c body e))
    alive (ForStep st x a b c body) u w e = alive_only u w (alive_then (alive_begin set (Some st)) (alive_bind (alive_integer st (alive a for_value st e)) (λ i. alive_then (alive_counts (counts_take 1 st)) (alive_bind (alive_integer st (alive b for_value st e)) (λ j. alive_then (alive_counts (counts_take 1 st)) (alive_bind (alive_integer st (alive c for_value st e)) (λ k. alive_then (alive_counts (counts_take 1 st)) (alive_then (alive_test (int_eq j (pos 0)) (alive_keeps (keeps_fault fault.StepZero st)) (alive_steps st x i j k body e)) (alive_then (alive_counts (counts_back 3)) (alive_keeps (keeps_give _)))))))))))
    alive (ForList st x values body) u w e = alive_only u w (alive_then (alive_begin set (Some st)) (alive_then (alive_list values st x body e) (alive_keeps (keeps_give _))))
    alive (Goto st a) u w e = alive_goto st (head e a)
    alive (Assert st c) u w e = alive_only u w (alive_then (alive_begin set (Some st)) (alive_bind (alive_truth st (alive c for_value st e)) (λ truth. alive_keeps (keeps_test truth (keeps_give _) (keeps_fault fault.AssertionFalse st)))))
    alive (Write st first roles values) u w e = alive_only u w (alive_then (alive_begin set (Some st)) (alive_then (alive_writes values st first none_set roles e) (alive_keeps (keeps_give _))))
    alive (Read st next targets) u w e = alive_only u w (alive_then (alive_begin set (Some st)) (alive_then (alive_reads targets st next e) (alive_keeps (keeps_give _))))
    alive (ReadCard st targets) u w e = alive_only u w (alive_then (alive_begin set (Some st)) (alive_then (alive_cards targets st e) (alive_keeps (keeps_give _))))
    alive (IoControl st a) u w e = alive_only u w (alive_then (alive_begin set (Some st)) (alive_bind (alive_integer st (alive a for_value st e)) (λ k. alive_keeps (keeps_then (keeps_io_control k) (keeps_give _)))))

    alive_subscripts : (ps : Phrases) (w : Place) (e : Env) → Alive set.steps (suc n) (env.go_subscripts set later ps w e)
    alive_subscripts no_phrases w e = alive_keeps (keeps_give [])
    alive_subscripts (phrase_and a rest) w e = alive_bind (alive_integer w (alive a for_value w e)) (λ k. alive_then (alive_counts (counts_take 1 w)) (alive_bind (alive_subscripts rest w e) (λ is. alive_keeps (keeps_give _))))

    alive_fields : (ps : Phrases) (w : Place) (ts : List ValueType) (e : Env) → Alive set.steps (suc n) (env.go_fields set later ps w ts e)
    alive_fields no_phrases w [] e = alive_keeps (keeps_give [])
    alive_fields no_phrases w (t ∷ ts) e = alive_keeps (keeps_wrong w)
    alive_fields (phrase_and a rest) w [] e = alive_keeps (keeps_wrong w)
    alive_fields (phrase_and a rest) w (t ∷ ts) e = alive_bind (alive_bind (alive_value w (alive a for_value w e)) (λ v. alive_keeps (keeps_made w t v))) (λ v. alive_then (alive_counts (counts_take 1 w)) (alive_bind (alive_fields rest w ts e) (λ vs. alive_keeps (keeps_give _))))

    alive_case : (ps : Phrases) (w : Place) (k : Option ℕ) (e : Env) → Alive set.steps (suc n) (env.go_case set later ps w k e)
    alive_case no_phrases w None e = alive_keeps (keeps_fault fault.CaseOutsideRange w)
    alive_case (phrase_and a rest) w None e = alive_keeps (keeps_fault fault.CaseOutsideRange w)
    alive_case no_phrases w (Some k) e = alive_keeps (keeps_fault fault.CaseOutsideRange w)
    alive_case (phrase_and a rest) w (Some zero) e = alive a for_value w e
    alive_case (phrase_and a rest) w (Some (suc k)) e = alive_case rest w (Some k) e

    alive_list : (ps : Phrases) (w : Place) (x : Name) (body : Phrase) (e : Env) → Alive set.steps (suc n) (env.go_list set later ps w x body e)
    alive_list no_phrases w x body e = alive_keeps (keeps_give tt)
    alive_list (phrase_and a rest) w x body e = alive_bind (alive_integer w (alive a for_value w e)) (λ k. alive_then (alive_holding w (alive_tick set w (hl (env.list_job w x k body e)))) (alive_list rest w x body e))

    alive_writes : (ps : Phrases) (w : Place) (first : Bool) (ws : WidthsSet) (roles : List Role) (e : Env) → Alive set.steps (suc n) (env.go_writes set later ps w first ws roles e)
    alive_writes no_phrases w first ws roles e = alive_keeps (keeps_give tt)
    alive_writes (phrase_and a rest) w first ws [] e = alive_keeps (keeps_wrong w)
    alive_writes (phrase_and a rest) w first ws (placed ∷ roles) e = alive_bind (alive_value w (alive a for_value w e)) (λ v. alive_then (alive_keeps (keeps_written set w first ws v)) (alive_writes rest w false ws roles e))
    alive_writes (phrase_and a rest) w first ws (sets k ∷ roles) e = alive_bind (alive_integer w (alive a for_value w e)) (λ n. alive_writes rest w first (with_width k n ws) roles e)

    alive_reads : (ps : Targets) (w : Place) (next : Bool) (e : Env) → Alive set.steps (suc n) (env.go_reads set later ps w next e)
    alive_reads no_targets w next e = alive_keeps (keeps_give tt)
    alive_reads (target_and t a rest) w next e = alive_bind (alive_spot w (alive a for_place w e)) (λ k. alive_bind (alive_keeps (keeps_scan set w next (read_type t))) (λ v. alive_then (alive_keeps (keeps_assign w t k v)) (alive_reads rest w false e)))

    alive_cards : (ps : Targets) (w : Place) (e : Env) → Alive set.steps (suc n) (env.go_cards set later ps w e)
    alive_cards no_targets w e = alive_keeps (keeps_give tt)
    alive_cards (target_and t a rest) w e = alive_bind (alive_spot w (alive a for_place w e)) (λ k. alive_bind (alive_keeps (keeps_take_card set w)) (λ v. alive_then (alive_keeps (keeps_assign w t k v)) (alive_cards rest w e)))

    alive_items : (is : Items) (w : Place) (e : Env) → Alive set.steps (suc n) (env.go_items set later is w e)
    alive_items no_items w e = alive_keeps (keeps_give _)
    alive_items (item_and labels a no_items) w e = alive a for_value w e
    alive_items (item_and labels a (item_and labels' b rest)) w e = alive_then (alive a for_value w e) (alive_items (item_and labels' b rest) w e)

    alive_bounds : (bs : Bounds) (w : Place) (e : Env) → Alive set.steps (suc n) (env.go_bounds set later bs w e)
    alive_bounds no_bounds w e = alive_keeps (keeps_give [])
    alive_bounds (bound_and a b rest) w e = alive_bind (alive_integer w (alive a for_value w e)) (λ i. alive_then (alive_counts (counts_take 1 w)) (alive_bind (alive_integer w (alive b for_value w e)) (λ j. alive_then (alive_counts (counts_take 1 w)) (alive_bind (alive_bounds rest w e) (λ bs. alive_keeps (keeps_give _))))))

    alive_decls : (ds : Decls) (w : Place) (v k : ℕ) (e : Env) → Alive set.steps (suc n) (env.go_decls set later ds w v k e)
    alive_decls no_decls w v k e = alive_keeps (keeps_give tt)
    alive_decls (variables_and names rest) w v k e = alive_then (alive_declare_variables w v names) (alive_decls rest w (v + length names) k e)
    alive_decls (arrays_and t names pairs rest) w v k e = alive_bind (alive_bounds pairs w e) (λ bs. alive_then (alive_counts (counts_back (2 * length bs))) (alive_then (alive_declare_arrays w k t names bs) (alive_decls rest w v (k + length names) e)))
    alive_decls (procedure_and x result formals body rest) w v k e = alive_decls rest w v k e

    alive_stars : (ps : Subscripts) (w : Place) (e : Env) → Alive set.steps (suc n) (env.go_stars set later ps w e)
    alive_stars no_subscripts w e = alive_keeps (keeps_give [])
    alive_stars (star_and rest) w e = alive_bind (alive_stars rest w e) (λ is. alive_keeps (keeps_give _))
    alive_stars (subscript_and a rest) w e = alive_bind (alive_integer w (alive a for_value w e)) (λ k. alive_then (alive_counts (counts_take 1 w)) (alive_bind (alive_stars rest w e) (λ is. alive_keeps (keeps_give _))))

    alive_actual : (a : Actual) (w : Place) (f : FormalType) (e : Env) → Alive set.steps (suc n) (env.go_actual set later a w f e)
    alive_actual (Given v g first a) w f e = alive_phrase_ready f w v g first a e (alive a for_value w e)
    alive_actual (Alone p a) w f e = alive_name_ready f w p a e (alive_invoked w true p (head e a) no_actuals e (λ fs. env.no_formals w fs) (λ fs bs. give tt) (λ fs. alive_keeps (keeps_no_formals w fs)) (λ fs bs. alive_keeps (keeps_give tt)))
    alive_actual (Subarray a subs) w f e = alive_for_an_array w f (alive_bind (alive_stars subs w e) (λ is. alive_subarray_at w (head e a) is))

    alive_actuals : (ps : Actuals) (w : Place) (fs : List Formal) (e : Env) → Alive set.steps (suc n) (env.go_actuals set later ps w fs e)
    alive_actuals no_actuals w [] e = alive_keeps (keeps_give [])
    alive_actuals no_actuals w (f ∷ fs) e = alive_keeps (keeps_wrong w)
    alive_actuals (actual_and a rest) w [] e = alive_keeps (keeps_wrong w)
    alive_actuals (actual_and a rest) w (f ∷ fs) e = alive_bind (alive_actual a w f.is e) (λ r. alive_then (alive_counts (counts_take 1 w)) (alive_bind (alive_actuals rest w fs e) (λ rs. alive_keeps (keeps_give _))))

    alive_back : (ps : Actuals) (w : Place) (fs : List Formal) (bs : List Meant) (e : Env) → Alive set.steps (suc n) (env.go_back set later ps w fs bs e)
    alive_back no_actuals w [] [] e = alive_keeps (keeps_give tt)
    alive_back no_actuals w [] (b ∷ bs) e = alive_keeps (keeps_wrong w)
    alive_back no_actuals w (f ∷ fs) bs e = alive_keeps (keeps_wrong w)
    alive_back (actual_and (Given v g first a) rest) w [] bs e = alive_keeps (keeps_wrong w)
    alive_back (actual_and (Alone p a) rest) w [] bs e = alive_keeps (keeps_wrong w)
    alive_back (actual_and (Subarray a subs) rest) w [] bs e = alive_keeps (keeps_wrong w)
    alive_back (actual_and (Given v g first a) rest) w (f ∷ fs) [] e = alive_keeps (keeps_wrong w)
    alive_back (actual_and (Alone p a) rest) w (f ∷ fs) [] e = alive_keeps (keeps_wrong w)
    alive_back (actual_and (Subarray a subs) rest) w (f ∷ fs) [] e = alive_keeps (keeps_wrong w)
    alive_back (actual_and (Given v g first a) rest) w (f ∷ fs) (b ∷ bs) e = alive_then (alive_assigned_back f.is w g b.by (alive a for_place w e)) (alive_back rest w fs bs e)
    alive_back (actual_and (Alone p a) rest) w (f ∷ fs) (b ∷ bs) e = alive_back rest w fs bs e
    alive_back (actual_and (Subarray a subs) rest) w (f ∷ fs) (b ∷ bs) e = alive_back rest w fs bs e

  alive_does : (job : env.Job) → Alive set.steps (suc n) (env.does set later job)
  alive_does (env.phrase_job u w a e) = alive a u w e
  alive_does (env.while_job w c body e) = alive_then (alive body for_value w e) (alive_while w (alive c for_value w e) c body e)
  alive_does (env.step_job w x i j k body e) = alive_then (alive_under (in_turn w (shown x (a_number i))) (alive body for_value w (env.at_control x i e))) (alive_steps w x (i +ℤ j) j k body e)
  alive_does (env.list_job w x i body e) = alive_under (in_turn w (shown x (a_number i))) (alive body for_value w (env.at_control x i e))
  alive_does (env.items_job b w is e k) = alive_catching b (λ j. hl (env.items_job b w is e j)) (alive_items (from k is) w e)

-- the bound never stops a run
pub alive_run : (set : Setting) (n : ℕ) (job : env.Job) → Alive set.steps n (env.run set n job)
alive_run set zero job = record { by = λ s b. absurd (omega (arith, b)) }
alive_run set (suc n) job = alive_does set (env.run set n) n (alive_run set n) job
