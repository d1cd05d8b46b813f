-- Environments give what copying gives.
use Rattle.std.proofs.Common.{◌≡◌, ℕ, zero, suc, ◌+◌, ◌*◌, ℤ, pos, ◌+ℤ◌, List, [], ◌∷◌, refl, ap, ◌∙◌, sym, subst, map, length}
use Rattle.std.specs.Prelude.{Option, Some, None, Bool, true, false, ◌&&◌, nat_eq, slice_get, replicate}
use Rattle.std.specs.Ordering.{int_eq}
use Rattle.value_ops.specs.declared.places.Place.{Place}
use Rattle.value_ops.specs.declared.faults.Fault.TheVariants as fault
use Rattle.value_ops.specs.declared.values.Value.TheVariants as value
use Rattle.value_ops.specs.Strings.{part}
use Rattle.algolw_typing.specs.Types.{ValueType, Gives, Statement, Simple}
use Rattle.algolw_typing.specs.Verdicts.{Good}
use Rattle.algolw_typing.specs.Meanings.{FormalType, by_name, by_value, by_result, by_value_result, for_array, for_procedure}
use Rattle.algolw_typing.specs.Actuals.{actuals_fit}
use Rattle.program_meaning.specs.Phrases.{Phrase, Empty, Constant, Named, Variable, Array, Label, Procedure, Copied, Unary, Binary, Relation, IsClass, Element, Field, Part, Record, RecordAlone, IfThen, Case, Block, Call, Assign, WhileDo, ForStep, ForList, Goto, Assert, Write, Read, ReadCard, IoControl, Phrases, no_phrases, phrase_and, Targets, no_targets, target_and, Subscripts, no_subscripts, star_and, subscript_and, Actuals, no_actuals, actual_and, Actual, Given, Alone, Subarray, Items, no_items, item_and, Bounds, no_bounds, bound_and, Decls, no_decls, variables_and, arrays_and, procedure_and, Name, Formal, Mark, leaf, shape, phrases_shape, targets_shape, subscripts_shape, actuals_shape, actual_shape, items_shape, bounds_shape, decls_shape, with, with_phrases, with_targets, with_subscripts, with_actuals, with_actual, with_items, with_bounds, with_decls, kept, formal_places, label_places, block_places, Role, placed, sets}
use Rattle.program_meaning.specs.Widths.{WidthsSet, none_set, with_width}
use Rattle.program_meaning.specs.Operations.{unary, binary, relation}
use Rattle.program_meaning.specs.State as state
use Rattle.program_meaning.specs.State.{M, State, on, Setting, Use, for_value, for_place, nothing, a_value, wrong, unfinished, Made, a_number, in_block, in_call, in_actual, in_turn, ◌>>=◌, ◌>>◌, give, innermost, take_cells, test, catching, filled_in, for_an_array}
use Rattle.program_meaning.specs.Copying as copying
use Rattle.program_meaning.specs.Copying.{Closed, Put, puts, Firsts, shown, has_turn, mark, is_variable_of, read_type, case_number, assigned, cells_of, from, is_good, formal_types, actual_count, free_of, stars, array_part}
use Rattle.program_meaning.specs.Environments as environments
use Rattle.program_meaning.specs.Environments.{Env, empty, bind, find, Bodied, Meant, Thing, to_constant, to_variable, to_array, to_label, to_procedure, thunk, extend, head}
use Rattle.program_meaning.specs.Closing.{put_by, shut, closed_procedure, closed_put, closed_ready, closed_bound, closed_state, closed_job, closed_outcome, EnvironmentsGiveWhatCopyingGives}
use Rattle.program_meaning.proofs.Same.{Same, i, Yields, same_bind, same_bind_with, same_then, yields_bind, same_test, same_give, same_halt, same_fault, same_tick, same_begin, same_take, same_back, same_holding, same_deeper, same_shallower, same_under, same_entered, same_cells_held, same_set_cells, same_made_here, same_value, same_spot, same_integer, same_truth, same_string_in, same_record_in, same_answer, same_only, same_look, same_variable, same_new, same_made, same_made_result, same_assign, same_the_array, same_subscripted, same_element, same_make_record, same_field, same_class, same_within, same_string_answer, same_scan, same_take_card, same_io_control, same_written, same_catching, same_declare_variables, same_declare_arrays, same_value_held}
use Rattle.program_meaning.proofs.Putting.{with_with, with_with_items, with_none, same_shape, same_items_shape, leaf_put, put_find, shut_or, meant_places, label_places_same}
use Rattle.program_meaning.proofs.Blocks.{same_fresh, same_firsts, yields_fresh, fit_numbers, same_opened, from_same}

-- ---- procedures

procedure_at_same : (w : Place) (ps : List Bodied) (k : ℕ) (s : State Bodied) → closed_outcome closed_procedure (environments.procedure_at w (slice_get ps k) s) ≡ copying.procedure_at w (slice_get (map closed_procedure ps) k) (closed_state s)
procedure_at_same w [] k s = refl
procedure_at_same w (p ∷ ps) zero s = refl
procedure_at_same w (p ∷ ps) (suc k) s = procedure_at_same w ps k s

same_the_procedure : (w : Place) (k : ℕ) → Same closed_procedure (environments.the_procedure w k) (copying.the_procedure w k)
same_the_procedure w k = record { by = λ s. procedure_at_same w s.procedures k s }

-- ---- actuals

same_value_ready : {m : M Bodied state.Given} {m' : M Closed state.Given} (w : Place) (t : ValueType) → Same i m m' → Same closed_ready (environments.value_ready w t m) (copying.value_ready w t m')
same_value_ready w t h = same_bind _ (same_value w h) (λ v. same_bind _ (same_made w t v) (λ u. same_give closed_ready (environments.with_value u)))

same_phrase_ready : {m : M Bodied state.Given} {m' : M Closed state.Given} (f : FormalType) (w : Place) (v : Bool) (g : Gives) (first : Place) (a : Phrase) (e : Env) → Same i m m' → Same closed_ready (environments.phrase_ready f w m v g first a e) (copying.phrase_ready f w m' v g first (with (put_by e) a))
same_phrase_ready (by_value t) w v g first a e h = same_value_ready w t h
same_phrase_ready (by_value_result t) w v g first a e h = same_value_ready w t h
same_phrase_ready (by_result t) w v g first a e h = same_give closed_ready environments.without_value
same_phrase_ready (by_name t) w v g first a e h = record { by = λ s. refl }
same_phrase_ready (for_procedure result) w v g first a e h = record { by = λ s. refl }
same_phrase_ready (for_array t n) w v g first a e h = same_halt closed_ready wrong w

procedure_handed_shut : (w x : Place) (o : Option Thing) → Same closed_ready (environments.procedure_handed w o) (copying.procedure_handed w (shut_or x o))
procedure_handed_shut w x None = same_halt closed_ready wrong w
procedure_handed_shut w x (Some (to_constant v)) = same_halt closed_ready wrong w
procedure_handed_shut w x (Some (to_variable k)) = same_halt closed_ready wrong w
procedure_handed_shut w x (Some (to_array k given)) = same_halt closed_ready wrong w
procedure_handed_shut w x (Some (to_label k)) = same_halt closed_ready wrong w
procedure_handed_shut w x (Some (to_procedure k)) = record { by = λ s. refl }
procedure_handed_shut w x (Some (thunk m a e)) = record { by = λ s. refl }

array_handed_shut : (w x : Place) (o : Option Thing) → Same closed_ready (environments.array_handed w o) (copying.array_handed w (shut_or x o))
array_handed_shut w x None = same_halt closed_ready wrong w
array_handed_shut w x (Some (to_constant v)) = same_halt closed_ready wrong w
array_handed_shut w x (Some (to_variable k)) = same_halt closed_ready wrong w
array_handed_shut w x (Some (to_array k given)) = record { by = λ s. refl }
array_handed_shut w x (Some (to_label k)) = same_halt closed_ready wrong w
array_handed_shut w x (Some (to_procedure k)) = same_halt closed_ready wrong w
array_handed_shut w x (Some (thunk m a e)) = same_halt closed_ready wrong w

-- a copied actual is closed
mark_shut : (m : Mark) (a : Phrase) → shut (thunk m a empty) ≡ Copied m a
mark_shut m a = ap (Copied m) (with_none a (put_by empty) (λ y. refl))

same_procedure_handed : (w : Place) (e : Env) (a : Phrase) → Same closed_ready (environments.procedure_handed w (head e a)) (copying.procedure_handed w (with (put_by e) a))
same_procedure_handed w e (Named x) = rw (put_find e x) (procedure_handed_shut w x (find e x))
same_procedure_handed w e (Copied m a) = record { by = λ s. ap (λ p. on (copying.put_for p) (closed_state s)) (mark_shut m a) }
same_procedure_handed w e _ = record { by = λ s. refl }

same_array_handed : (w : Place) (e : Env) (a : Phrase) → Same closed_ready (environments.array_handed w (head e a)) (copying.array_handed w (with (put_by e) a))
same_array_handed w e (Named x) = rw (put_find e x) (array_handed_shut w x (find e x))
same_array_handed w e _ = record { by = λ s. refl }

same_name_ready : {m : M Bodied state.Given} {m' : M Closed state.Given} (f : FormalType) (w p : Place) (a : Phrase) (e : Env) → Same i m m' → Same closed_ready (environments.name_ready f w m p a e) (copying.name_ready f w m' p (with (put_by e) a))
same_name_ready (by_value t) w p a e h = same_value_ready w t h
same_name_ready (by_name t) w p a e h = record { by = λ s. refl }
same_name_ready (for_procedure result) w p a e h = same_procedure_handed w e a
same_name_ready (for_array t n) w p a e h = same_array_handed w e a
same_name_ready (by_result t) w p a e h = same_halt closed_ready wrong w
same_name_ready (by_value_result t) w p a e h = same_halt closed_ready wrong w

same_for_an_array : {A B : Type 0} {f : A → B} {m : M Bodied A} {m' : M Closed B} (w : Place) (t : FormalType) → Same f m m' → Same f (for_an_array w t m) (for_an_array w t m')
same_for_an_array {f = f} w (by_value t) h = same_halt f wrong w
same_for_an_array {f = f} w (by_name t) h = same_halt f wrong w
same_for_an_array {f = f} w (by_result t) h = same_halt f wrong w
same_for_an_array {f = f} w (by_value_result t) h = same_halt f wrong w
same_for_an_array {f = f} w (for_procedure result) h = same_halt f wrong w
same_for_an_array w (for_array t n) h = h

held_of_same : (t : Thing) → copying.held_of (shut t) ≡ environments.held_of t
held_of_same (to_constant v) = refl
held_of_same (to_variable k) = refl
held_of_same (to_array k given) = refl
held_of_same (to_label k) = refl
held_of_same (to_procedure k) = refl
held_of_same (thunk m a e) = refl

held_same : (f : FormalType) (t : Thing) → copying.held_for f (shut t) ≡ environments.held_for f t
held_same (for_procedure result) t = refl
held_same (by_value ty) t = held_of_same t
held_same (by_result ty) t = held_of_same t
held_same (by_value_result ty) t = held_of_same t
held_same (by_name ty) t = held_of_same t
held_same (for_array ty n) t = held_of_same t

same_bound : (w : Place) (fs : List Formal) (rs : List environments.Ready) → Same closed_bound (environments.bound w fs rs) (copying.bound w fs (map closed_ready rs))
same_bound w [] [] = record { by = λ s. refl }
same_bound w (f ∷ fs) (environments.with_value v ∷ rs) = same_bind (λ k. copying.bound w fs (map closed_ready rs) >>= λ b. give (copying.bind_to f (Variable k) (state.a_variable k) b)) (same_new (Some v)) (λ k. same_bind (λ b. give (copying.bind_to f (Variable k) (state.a_variable k) b)) (same_bound w fs rs) (λ b. same_give closed_bound (environments.bind_to f (to_variable k) (state.a_variable k) b)))
same_bound w (f ∷ fs) (environments.without_value ∷ rs) = same_bind (λ k. copying.bound w fs (map closed_ready rs) >>= λ b. give (copying.bind_to f (Variable k) (state.a_variable k) b)) (same_new None) (λ k. same_bind (λ b. give (copying.bind_to f (Variable k) (state.a_variable k) b)) (same_bound w fs rs) (λ b. same_give closed_bound (environments.bind_to f (to_variable k) (state.a_variable k) b)))
same_bound w (f ∷ fs) (environments.put_for t ∷ rs) = same_bind (λ b. give (copying.bind_to f (shut t) (copying.held_for f.is (shut t)) b)) (same_bound w fs rs) (λ b. record { by = λ s. ap (λ h. on (copying.bind_to f (shut t) h (closed_bound b)) (closed_state s)) (sym (held_same f.is t)) })
same_bound w [] (r ∷ rs) = record { by = λ s. refl }
same_bound w (f ∷ fs) [] = record { by = λ s. refl }

yields_bind_to : (f : Formal) (fs : List Formal) (t : Thing) (h : state.Held) (m : M Bodied environments.Bound) → Yields (λ b. meant_places b.puts ≡ formal_places fs) m → Yields (λ b. meant_places b.puts ≡ formal_places (f ∷ fs)) (m >>= λ b. give (environments.bind_to f t h b))
yields_bind_to f fs t h m y = yields_bind {m = m} {k = λ b. give (environments.bind_to f t h b)} (λ b. meant_places b.puts ≡ formal_places fs) (λ b. meant_places b.puts ≡ formal_places (f ∷ fs)) y (λ b q. record { by = λ s. ap (λ xs. f.name.place ∷ xs) q })

yields_bound : (w : Place) (fs : List Formal) (rs : List environments.Ready) → Yields (λ b. meant_places b.puts ≡ formal_places fs) (environments.bound w fs rs)
yields_bound w [] [] = record { by = λ s. refl }
yields_bound w (f ∷ fs) (environments.with_value v ∷ rs) = record { by = λ s. (yields_bind_to f fs (to_variable (length s.memory)) (state.a_variable (length s.memory)) _ (yields_bound w fs rs)).by _ }
yields_bound w (f ∷ fs) (environments.without_value ∷ rs) = record { by = λ s. (yields_bind_to f fs (to_variable (length s.memory)) (state.a_variable (length s.memory)) _ (yields_bound w fs rs)).by _ }
yields_bound w (f ∷ fs) (environments.put_for t ∷ rs) = yields_bind_to f fs t (environments.held_for f.is t) _ (yields_bound w fs rs)
yields_bound w [] (r ∷ rs) = record { by = λ s. tt }
yields_bound w (f ∷ fs) [] = record { by = λ s. tt }

same_give_back_value : {m : M Bodied state.Given} {m' : M Closed state.Given} (w : Place) (g : Gives) (t : Thing) → Same i m m' → Same i (environments.give_back_value w m g t) (copying.give_back_value w m' g (shut t))
same_give_back_value w (Simple ty) (to_variable k) h = same_bind _ (same_spot w h) (λ spot. same_bind _ (same_look w k) (λ v. same_assign w ty spot v))
same_give_back_value w (Simple ty) (to_constant v) h = same_halt i wrong w
same_give_back_value w (Simple ty) (to_array k given) h = same_halt i wrong w
same_give_back_value w (Simple ty) (to_label k) h = same_halt i wrong w
same_give_back_value w (Simple ty) (to_procedure k) h = same_halt i wrong w
same_give_back_value w (Simple ty) (thunk m a e) h = same_halt i wrong w
same_give_back_value w Statement t h = same_halt i wrong w

same_assigned_back : {m : M Bodied state.Given} {m' : M Closed state.Given} (f : FormalType) (w : Place) (g : Gives) (t : Thing) → Same i m m' → Same i (environments.assigned_back f w m g t) (copying.assigned_back f w m' g (shut t))
same_assigned_back (by_result ty) w g t h = same_give_back_value w g t h
same_assigned_back (by_value_result ty) w g t h = same_give_back_value w g t h
same_assigned_back (by_value ty) w g t h = same_give i tt
same_assigned_back (by_name ty) w g t h = same_give i tt
same_assigned_back (for_array ty n) w g t h = same_give i tt
same_assigned_back (for_procedure result) w g t h = same_give i tt

-- ---- comparing actuals with formals

procedure_part_same : (f : FormalType) (ps : List Bodied) (k : ℕ) → copying.procedure_part f (slice_get (map closed_procedure ps) k) ≡ environments.procedure_part f (slice_get ps k)
procedure_part_same f [] k = refl
procedure_part_same f (p ∷ ps) zero = refl
procedure_part_same f (p ∷ ps) (suc k) = procedure_part_same f ps k

name_part_shut : (s : State Bodied) (f : FormalType) (x : Place) (o : Option Thing) → copying.name_part (closed_state s) f (shut_or x o) ≡ environments.name_part s f o
name_part_shut s f x None = refl
name_part_shut s f x (Some (to_constant v)) = refl
name_part_shut s f x (Some (to_variable k)) = refl
name_part_shut s f x (Some (to_array k given)) = refl
name_part_shut s f x (Some (to_label k)) = refl
name_part_shut s f x (Some (to_procedure k)) = procedure_part_same f s.procedures k
name_part_shut s f x (Some (thunk m a e)) = refl

name_part_same : (s : State Bodied) (f : FormalType) (e : Env) (a : Phrase) → copying.name_part (closed_state s) f (with (put_by e) a) ≡ environments.name_part s f (head e a)
name_part_same s f e (Named x) = ap (copying.name_part (closed_state s) f) (put_find e x) ∙ name_part_shut s f x (find e x)
name_part_same s f e (Procedure k) = procedure_part_same f s.procedures k
name_part_same s f e _ = refl

subarray_part_shut : (s : State Bodied) (x : Place) (o : Option Thing) (n : ℕ) → copying.subarray_part (closed_state s) (shut_or x o) n ≡ environments.subarray_part s o n
subarray_part_shut s x None n = refl
subarray_part_shut s x (Some (to_constant v)) n = refl
subarray_part_shut s x (Some (to_variable k)) n = refl
subarray_part_shut s x (Some (to_array k given)) n = refl
subarray_part_shut s x (Some (to_label k)) n = refl
subarray_part_shut s x (Some (to_procedure k)) n = refl
subarray_part_shut s x (Some (thunk m a e)) n = refl

subarray_part_same : (s : State Bodied) (e : Env) (a : Phrase) (n : ℕ) → copying.subarray_part (closed_state s) (with (put_by e) a) n ≡ environments.subarray_part s (head e a) n
subarray_part_same s e (Named x) n = ap (λ p. copying.subarray_part (closed_state s) p n) (put_find e x) ∙ subarray_part_shut s x (find e x) n
subarray_part_same s e _ n = refl

free_of_same : (f : Place → Phrase) (ps : Subscripts) → free_of (with_subscripts f ps) ≡ free_of ps
free_of_same f no_subscripts = refl
free_of_same f (star_and ps) = ap (λ n. 1 + n) (free_of_same f ps)
free_of_same f (subscript_and a ps) = free_of_same f ps

actual_part_same : (s : State Bodied) (e : Env) (f : FormalType) (a : Actual) → copying.actual_part (closed_state s) f (with_actual (put_by e) a) ≡ environments.actual_part s e f a
actual_part_same s e f (Given v g first a) = refl
actual_part_same s e f (Alone p a) = name_part_same s f e a
actual_part_same s e f (Subarray a ps) = ap (copying.subarray_part (closed_state s) (with (put_by e) a)) (free_of_same (put_by e) ps) ∙ subarray_part_same s e a (free_of ps)

actual_parts_same : (s : State Bodied) (e : Env) (fs : List Formal) (given : Actuals) → copying.actual_parts (closed_state s) fs (with_actuals (put_by e) given) ≡ environments.actual_parts s e fs given
actual_parts_same s e [] no_actuals = refl
actual_parts_same s e [] (actual_and a rest) = refl
actual_parts_same s e (f ∷ fs) no_actuals = refl
actual_parts_same s e (f ∷ fs) (actual_and a rest) =
    ap (λ p. p ∷ copying.actual_parts (closed_state s) fs (with_actuals (put_by e) rest)) (actual_part_same s e f.is a)
    ∙ ap (λ ps. environments.actual_part s e f.is a ∷ ps) (actual_parts_same s e fs rest)

actual_count_same : (f : Place → Phrase) (given : Actuals) → actual_count (with_actuals f given) ≡ actual_count given
actual_count_same f no_actuals = refl
actual_count_same f (actual_and a rest) = ap (λ n. 1 + n) (actual_count_same f rest)

they_fit_same : (w : Place) (s : State Bodied) (e : Env) (fs : List Formal) (given : Actuals) → copying.they_fit w (closed_state s) fs (with_actuals (put_by e) given) ≡ environments.they_fit w s e fs given
they_fit_same w s e fs given =
    ap (λ n. nat_eq (length fs) n && is_good (actuals_fit w (formal_types fs) (copying.actual_parts (closed_state s) fs (with_actuals (put_by e) given)) (Good Statement))) (actual_count_same (put_by e) given)
    ∙ ap (λ ps. nat_eq (length fs) (actual_count given) && is_good (actuals_fit w (formal_types fs) ps (Good Statement))) (actual_parts_same s e fs given)

compared_at : (w : Place) (s : State Bodied) (b b' : Bool) → b' ≡ b
    → closed_outcome i (elim b [ true ↦ on (tt {0}) s | false ↦ state.stop (state.by_fault fault.ActualsDoNotFit) w s ]) ≡ elim b' [ true ↦ on (tt {0}) (closed_state s) | false ↦ state.stop (state.by_fault fault.ActualsDoNotFit) w (closed_state s) ]
compared_at w s true b' e = rw e refl
compared_at w s false b' e = rw e refl

same_compared : (w : Place) (compares : Bool) (e : Env) (fs : List Formal) (given : Actuals) → Same i (environments.compared w compares e fs given) (copying.compared w compares fs (with_actuals (put_by e) given))
same_compared w false e fs given = record { by = λ s. refl }
same_compared w true e fs given = record { by = λ s. compared_at w s (environments.they_fit w s e fs given) (copying.they_fit w (closed_state s) fs (with_actuals (put_by e) given)) (they_fit_same w s e fs given) }

same_none_given : (w : Place) (f : Place → Phrase) (given : Actuals) → Same i (copying.no_actuals_given w given) (copying.no_actuals_given w (with_actuals f given))
same_none_given w f no_actuals = same_give i tt
same_none_given w f (actual_and a rest) = same_fault i fault.ActualsDoNotFit w

same_no_formals : (w : Place) (fs : List Formal) → Same (map closed_ready) (environments.no_formals w fs) (copying.no_formals w fs)
same_no_formals w [] = record { by = λ s. refl }
same_no_formals w (f ∷ fs) = record { by = λ s. refl }

-- ---- what is done

module _ (set : Setting) (later : environments.Job → M Bodied state.Given) (later' : copying.Job → M Closed state.Given) (hl : (job : environments.Job) → Same i (later job) (later' (closed_job job))) where
  same_copied : (u : Use) (w : Place) (m : Mark) (a : Phrase) (e : Env) → Same i (environments.copied set later u w m a e) (copying.copied set later' u w m (with (put_by e) a))
  same_copied for_value w m a e = same_then (same_tick set w) (same_bind _ (same_entered w (in_actual m.first) (hl (environments.phrase_job for_value m.statement a e))) (λ r. same_made_result w m.type r))
  same_copied for_place w m a e = same_then (same_tick set w) (same_test m.is_variable (same_entered w (in_actual m.first) (hl (environments.phrase_job for_place m.statement a e))) (same_fault i fault.AssignmentToNoVariable w))

  same_mark : (u : Use) (w : Place) (m : Mark) (a : Phrase) → Same i (environments.copied set later u w m a empty) (copying.copied set later' u w m a)
  same_mark u w m a = subst (λ q. Same i (environments.copied set later u w m a empty) (copying.copied set later' u w m q)) (with_none a (put_by empty) (λ y. refl)) (same_copied u w m a empty)

  same_named : (u : Use) (w x : Place) (o : Option Thing) → Same i (environments.named set later u w o) (copying.go set later' leaf u w (shut_or x o))
  same_named u w x None = same_halt i wrong w
  same_named u w x (Some (to_constant v)) = same_only u w (same_give i (a_value v))
  same_named u w x (Some (to_variable k)) = same_variable u w k
  same_named u w x (Some (to_array k given)) = same_halt i wrong w
  same_named u w x (Some (to_label k)) = same_halt i wrong w
  same_named u w x (Some (to_procedure k)) = same_halt i wrong w
  same_named u w x (Some (thunk m a e)) = same_copied u w m a e

  went_shut : (w x : Place) (o : Option Thing) → Same i (environments.went set later w o) (copying.went set later' w (shut_or x o))
  went_shut w x None = record { by = λ s. refl }
  went_shut w x (Some (to_constant v)) = record { by = λ s. refl }
  went_shut w x (Some (to_variable k)) = record { by = λ s. refl }
  went_shut w x (Some (to_array k given)) = record { by = λ s. refl }
  went_shut w x (Some (to_label k)) = record { by = λ s. refl }
  went_shut w x (Some (to_procedure k)) = record { by = λ s. refl }
  went_shut w x (Some (thunk m a e)) = record { by = λ s. refl }

  same_went : (w : Place) (e : Env) (a : Phrase) → Same i (environments.went set later w (head e a)) (copying.went set later' w (with (put_by e) a))
  same_went w e (Named x) = rw (put_find e x) (went_shut w x (find e x))
  same_went w e _ = record { by = λ s. refl }

  same_while : {m : M Bodied state.Given} {m' : M Closed state.Given} (w : Place) → Same i m m' → (c body : Phrase) (e : Env) → Same i (environments.while_turns set later w m c body e) (copying.while_turns set later' w m' (with (put_by e) c) (with (put_by e) body))
  same_while w h c body e = same_bind _ (same_truth w h) (λ b. same_test b (same_then (same_tick set w) (hl (environments.while_job w c body e))) (same_give i nothing))

  same_steps : (w : Place) (x : Name) (n j k : ℤ) (body : Phrase) (e : Env) → Same i (environments.step_turns set later w x n j k body e) (copying.step_turns set later' w x n j k (with (kept (x.place ∷ []) (put_by e)) body))
  same_steps w x n j k body e = same_test (has_turn n j k) (same_then (same_tick set w) (hl (environments.step_job w x n j k body e))) (same_give i nothing)

  -- ---- blocks

  same_done : (b : Made) (w : Place) (is is' : Items) (e : Env) (m : M Bodied state.Given) (m' : Items → M Closed state.Given) → is' ≡ with_items (put_by e) is → Same i m (m' (with_items (put_by e) is))
      → Same i (catching b (λ k. later (environments.items_job b w is e k)) m) (catching b (λ k. later' (copying.items_job b w is' k)) (m' is'))
  same_done b w is is' e m m' p h = rw p (same_catching b (λ k. hl (environments.items_job b w is e k)) h)

  same_made_at : (l : ℕ) (is : Items) (g : Place → Phrase) → Same i (state.made_here l (length (label_places is))) (state.made_here l (length (label_places (with_items g is))))
  same_made_at l is g = rw (label_places_same g is) (same_made_here l (length (label_places is)))

  same_with_numbers : (w : Place) (ds : Decls) (is : Items) (e : Env) (d : Firsts → M Bodied (Unit {0})) (d' : Firsts → M Closed (Unit {0})) (m : Env → M Bodied state.Given) (m' : Items → M Closed state.Given)
      → ((n : Firsts) → Same i (d n) (d' n)) → ((f : Env) → Same i (m f) (m' (with_items (put_by f) is))) → (n : Firsts) (bs : List Meant) → meant_places bs ≡ block_places ds is
      → Same i (environments.with_numbers set later w ds is e d m n bs) (copying.with_numbers set later' w (with_decls (put_by e) (kept (block_places ds is) (put_by e)) ds) (with_items (kept (block_places ds is) (put_by e)) is) d' m' n (map closed_put bs))
  same_with_numbers w ds is e d d' m m' hd h n bs q =
      let g = kept (block_places ds is) (put_by e) in
      same_then (same_opened w bs e ds is (put_by e) q) (same_then (hd n) (same_bind _ (same_made_at n.labels is g) (λ b.
      same_done b w is _ (extend bs e) (m (extend bs e)) m' (with_with_items is (puts (map closed_put bs)) g (put_by (extend bs e)) (fit_numbers bs e (block_places ds is) q)) (h (extend bs e)))))

  same_block : (w p : Place) (ds : Decls) (is : Items) (e : Env) (d : Firsts → M Bodied (Unit {0})) (d' : Firsts → M Closed (Unit {0})) (m : Env → M Bodied state.Given) (m' : Items → M Closed state.Given)
      → ((n : Firsts) → Same i (d n) (d' n)) → ((f : Env) → Same i (m f) (m' (with_items (put_by f) is)))
      → Same i (environments.block set later w p ds is e d m) (copying.block set later' w p (with_decls (put_by e) (kept (block_places ds is) (put_by e)) ds) (with_items (kept (block_places ds is) (put_by e)) is) d' m')
  same_block w p ds is e d d' m m' hd h =
      let g = kept (block_places ds is) (put_by e) in
      let ds' = with_decls (put_by e) g ds in
      let is' = with_items g is in
      same_under (in_block p []) (same_bind _ same_cells_held (λ held. same_bind _ same_firsts (λ n. same_bind _
      (same_bind_with (copying.with_numbers set later' w ds' is' d' m' n) (λ bs. meant_places bs ≡ block_places ds is) (yields_fresh ds is) (same_fresh (put_by e) g ds is) (λ bs q. same_with_numbers w ds is e d d' m m' hd h n bs q))
      (λ r. same_then (same_set_cells held) (same_give i r)))))

  -- ---- calls

  same_body : (p : Bodied) (bs : List Meant) → meant_places bs ≡ formal_places p.formals
      → Same i (later (environments.phrase_job for_value p.statement p.body (extend bs p.env))) (later' (copying.phrase_job for_value p.statement (with (puts (map closed_put bs)) (with (kept (formal_places p.formals) (put_by p.env)) p.body))))
  same_body p bs q = rw (with_with p.body (puts (map closed_put bs)) (kept (formal_places p.formals) (put_by p.env)) (put_by (extend bs p.env)) (fit_numbers bs p.env (formal_places p.formals) q)) (hl (environments.phrase_job for_value p.statement p.body (extend bs p.env)))

  same_body_done : (p : Bodied) (back : List Meant → M Bodied (Unit {0})) (back' : List Put → M Closed (Unit {0})) (b : environments.Bound) → meant_places b.puts ≡ formal_places p.formals → ((bs : List Meant) → Same i (back bs) (back' (map closed_put bs)))
      → Same i (environments.body_done set later p back b) (copying.body_done set later' (closed_procedure p) back' (closed_bound b))
  same_body_done p back back' b q hb = same_bind _ (same_bind _ (same_body p b.puts q) (λ r. same_made_result p.statement p.result r)) (λ r. same_then (same_value_held p.result p.statement (hb b.puts)) (same_give i r))

  same_called : (w p : Place) (procedure : Bodied) (ready : M Bodied (List environments.Ready)) (ready' : M Closed (List copying.Ready)) (back : List Meant → M Bodied (Unit {0})) (back' : List Put → M Closed (Unit {0}))
      → Same (map closed_ready) ready ready' → ((bs : List Meant) → Same i (back bs) (back' (map closed_put bs))) → Same i (environments.called set later w p procedure ready back) (copying.called set later' w p (closed_procedure procedure) ready' back')
  same_called w p procedure ready ready' back back' hr hb =
      same_bind _ hr (λ rs. same_then (same_tick set w) (same_then (same_deeper w)
      (same_bind_with _ (λ b. meant_places b.puts ≡ formal_places procedure.formals) (yields_bound w procedure.formals rs) (same_bound w procedure.formals rs) (λ b q.
      same_bind _ (same_under (in_call procedure.name p b.names) (same_body_done procedure back back' b q hb)) (λ r.
      same_then same_shallower (same_then (same_back (length procedure.formals)) (same_give i r)))))))

  invoked_shut : (w : Place) (compares : Bool) (p x : Place) (o : Option Thing) (given : Actuals) (e : Env) (r : List Formal → M Bodied (List environments.Ready)) (r' : List Formal → M Closed (List copying.Ready)) (k : List Formal → List Meant → M Bodied (Unit {0})) (k' : List Formal → List Put → M Closed (Unit {0}))
      → ((fs : List Formal) → Same (map closed_ready) (r fs) (r' fs)) → ((fs : List Formal) (bs : List Meant) → Same i (k fs bs) (k' fs (map closed_put bs)))
      → Same i (environments.invoked set later w compares p o given e r k) (copying.invoked set later' w compares p (shut_or x o) (with_actuals (put_by e) given) r' k')
  invoked_shut w compares p x None given e r r' k k' hr hk = same_halt i wrong w
  invoked_shut w compares p x (Some (to_constant v)) given e r r' k k' hr hk = same_halt i wrong w
  invoked_shut w compares p x (Some (to_variable n)) given e r r' k k' hr hk = same_halt i wrong w
  invoked_shut w compares p x (Some (to_array n subs)) given e r r' k k' hr hk = same_halt i wrong w
  invoked_shut w compares p x (Some (to_label n)) given e r r' k k' hr hk = same_halt i wrong w
  invoked_shut w compares p x (Some (to_procedure n)) given e r r' k k' hr hk = same_bind _ (same_the_procedure w n) (λ procedure. same_then (same_compared w compares e procedure.formals given) (same_called w p procedure (r procedure.formals) (r' procedure.formals) (k procedure.formals) (k' procedure.formals) (hr procedure.formals) (hk procedure.formals)))
  invoked_shut w compares p x (Some (thunk m a f)) given e r r' k k' hr hk = same_then (same_none_given w (put_by e) given) (same_copied for_value w m a f)

  same_invoked : (w : Place) (compares : Bool) (p : Place) (h : Phrase) (given : Actuals) (e : Env) (r : List Formal → M Bodied (List environments.Ready)) (r' : List Formal → M Closed (List copying.Ready)) (k : List Formal → List Meant → M Bodied (Unit {0})) (k' : List Formal → List Put → M Closed (Unit {0}))
      → ((fs : List Formal) → Same (map closed_ready) (r fs) (r' fs)) → ((fs : List Formal) (bs : List Meant) → Same i (k fs bs) (k' fs (map closed_put bs)))
      → Same i (environments.invoked set later w compares p (head e h) given e r k) (copying.invoked set later' w compares p (with (put_by e) h) (with_actuals (put_by e) given) r' k')
  same_invoked w compares p (Named x) given e r r' k k' hr hk = rw (put_find e x) (invoked_shut w compares p x (find e x) given e r r' k k' hr hk)
  same_invoked w compares p (Procedure n) given e r r' k k' hr hk = invoked_shut w compares p p (Some (to_procedure n)) given e r r' k k' hr hk
  same_invoked w compares p (Copied m a) given e r r' k k' hr hk = same_then (same_none_given w (put_by e) given) (same_mark for_value w m a)
  same_invoked w compares p _ given e r r' k k' hr hk = record { by = λ s. refl }

  -- ---- arrays

  element_shut : (u : Use) (w x : Place) (o : Option Thing) (is : List ℤ) → Same i (environments.element_at set later u w o is) (copying.element_at set later' u w (shut_or x o) is)
  element_shut u w x None is = same_halt i wrong w
  element_shut u w x (Some (to_constant v)) is = same_halt i wrong w
  element_shut u w x (Some (to_variable n)) is = same_halt i wrong w
  element_shut u w x (Some (to_array n given)) is = same_bind _ (same_element u w n (filled_in given (map (λ j. Some j) is))) (λ r. same_then (same_back (length is)) (same_give i r))
  element_shut u w x (Some (to_label n)) is = same_halt i wrong w
  element_shut u w x (Some (to_procedure n)) is = same_halt i wrong w
  element_shut u w x (Some (thunk m a e)) is = same_halt i wrong w

  same_element_at : (u : Use) (w : Place) (e : Env) (a : Phrase) (is : List ℤ) → Same i (environments.element_at set later u w (head e a) is) (copying.element_at set later' u w (with (put_by e) a) is)
  same_element_at u w e (Named x) is = rw (put_find e x) (element_shut u w x (find e x) is)
  same_element_at u w e (Array n given) is = element_shut u w w (Some (to_array n given)) is
  same_element_at u w e _ is = record { by = λ s. refl }

  subarray_shut : (w x : Place) (o : Option Thing) (is : List (Option ℤ)) → Same closed_ready (environments.subarray_at set later w o is) (copying.subarray_at set later' w (shut_or x o) is)
  subarray_shut w x None is = same_halt closed_ready wrong w
  subarray_shut w x (Some (to_constant v)) is = same_halt closed_ready wrong w
  subarray_shut w x (Some (to_variable n)) is = same_halt closed_ready wrong w
  subarray_shut w x (Some (to_array n given)) is = same_bind _ (same_the_array w n) (λ a. same_subscripted w a (filled_in given is) (same_then (same_back (cells_of is)) (same_give closed_ready (environments.put_for (to_array n (filled_in given is))))))
  subarray_shut w x (Some (to_label n)) is = same_halt closed_ready wrong w
  subarray_shut w x (Some (to_procedure n)) is = same_halt closed_ready wrong w
  subarray_shut w x (Some (thunk m a e)) is = same_halt closed_ready wrong w

  same_subarray_at : (w : Place) (e : Env) (a : Phrase) (is : List (Option ℤ)) → Same closed_ready (environments.subarray_at set later w (head e a) is) (copying.subarray_at set later' w (with (put_by e) a) is)
  same_subarray_at w e (Named x) is = rw (put_find e x) (subarray_shut w x (find e x) is)
  same_subarray_at w e (Array n given) is = subarray_shut w w (Some (to_array n given)) is
  same_subarray_at w e _ is = record { by = λ s. refl }

  mutual
    law : (a : Phrase) (u : Use) (w : Place) (e : Env) → Same i (environments.go set later a u w e) (copying.go set later' (shape a) u w (with (put_by e) a))
    law Empty u w e = same_give i nothing
    law (Constant v) u w e = same_only u w (same_give i (a_value v))
    law (Named x) u w e = rw (put_find e x) (same_named u w x (find e x))
    law (Variable k) u w e = same_variable u w k
    law (Array k given) u w e = same_halt i wrong w
    law (Label l) u w e = same_halt i wrong w
    law (Procedure k) u w e = same_halt i wrong w
    law (Copied m a) u w e = same_mark u w m a
    law (Unary op a) u w e = same_only u w (same_bind _ (same_value w (law a for_value w e)) (λ v. same_answer w (unary op v)))
    law (Binary op a b) u w e = same_only u w (same_bind _ (same_value w (law a for_value w e)) (λ v. same_bind _ (same_holding w (same_value w (law b for_value w e))) (λ v'. same_answer w (binary op v v'))))
    law (Relation op a b) u w e = same_only u w (same_bind _ (same_value w (law a for_value w e)) (λ v. same_bind _ (same_holding w (same_value w (law b for_value w e))) (λ v'. same_answer w (relation op v v'))))
    law (IsClass a class) u w e = same_only u w (same_bind _ (same_bind _ (same_value w (law a for_value w e)) (λ v. same_record_in w v)) (λ r. same_class w class r))
    law (Element a subs) u w e = same_bind _ (law_subscripts subs w e) (λ is. same_element_at u w e a is)
    law (Field class n a) u w e = same_bind _ (same_bind _ (same_value w (law a for_value w e)) (λ v. same_record_in w v)) (λ r. same_field u w class n r)
    law (Part m n a start) for_value w e = same_bind _ (same_bind _ (same_value w (law a for_value w e)) (λ v. same_string_in w v)) (λ s. same_bind _ (same_holding w (same_integer w (law start for_value w e))) (λ j. same_string_answer w (part s j n)))
    law (Part m n a start) for_place w e = same_bind _ (same_spot w (law a for_place w e)) (λ k. same_bind _ (same_holding w (same_integer w (law start for_value w e))) (λ j. same_within w m n k j))
    law (Record class types values) u w e = same_only u w (same_bind _ (law_fields values w types e) (λ vs. same_bind _ (same_make_record w class vs) (λ r. same_then (same_back (length vs)) (same_give i r))))
    law (RecordAlone class n) u w e = same_only u w (same_make_record w class (replicate n None))
    law (IfThen st t c a b) u w e = same_only u w (same_then (same_begin set st) (same_bind _ (same_truth (innermost w st) (law c for_value (innermost w st) e)) (λ truth. same_bind _ (same_test truth (law a for_value (innermost w st) e) (law b for_value (innermost w st) e)) (λ r. same_made_result (innermost w st) t r))))
    law (Case st t c parts) u w e = same_only u w (same_then (same_begin set st) (same_bind _ (same_integer (innermost w st) (law c for_value (innermost w st) e)) (λ n. same_bind _ (law_case parts (innermost w st) (case_number n) e) (λ r. same_made_result (innermost w st) t r))))
    law (Block st p ds is) u w e = same_only u w (same_then (same_begin set st) (same_block (innermost w st) p ds is e
        (λ n. environments.go_decls set later ds (innermost w st) n.variables n.arrays e) (λ n. copying.go_decls set later' (decls_shape ds) (innermost w st) n.variables n.arrays (with_decls (put_by e) (kept (block_places ds is) (put_by e)) ds))
        (λ f. environments.go_items set later is (innermost w st) f) (copying.go_items set later' (items_shape is) (innermost w st))
        (λ n. law_decls ds (innermost w st) n.variables n.arrays e (kept (block_places ds is) (put_by e))) (λ f. law_items is (innermost w st) f)))
    law (Call st compares p a given) u w e = same_only u w (same_then (same_begin set st) (same_invoked (innermost w st) compares p a given e
        (λ fs. environments.go_actuals set later given (innermost w st) fs e) (λ fs. copying.go_actuals set later' (actuals_shape given) (innermost w st) fs (with_actuals (put_by e) given))
        (λ fs bs. environments.go_back set later given (innermost w st) fs bs e) (λ fs bs. copying.go_back set later' (actuals_shape given) (innermost w st) fs (with_actuals (put_by e) given) bs)
        (λ fs. law_actuals given (innermost w st) fs e) (λ fs bs. law_back given (innermost w st) fs bs e)))
    law (Assign st t a b) u w e = same_only u w (same_then (same_begin set st) (same_bind _ (same_spot (innermost w st) (law a for_place (innermost w st) e)) (λ k. same_holding (innermost w st) (same_bind _ (same_value (innermost w st) (law b for_value (innermost w st) e)) (λ v. same_then (same_assign (innermost w st) t k v) (same_give i (assigned st v)))))))
    law (WhileDo st c body) u w e = same_only u w (same_then (same_begin set (Some st)) (same_while st (law c for_value st e) c body e))
    law (ForStep st x a b c body) u w e = same_only u w (same_then (same_begin set (Some st)) (same_bind _ (same_integer st (law a for_value st e)) (λ n. same_then (same_take 1 st) (same_bind _ (same_integer st (law b for_value st e)) (λ j. same_then (same_take 1 st) (same_bind _ (same_integer st (law c for_value st e)) (λ k. same_then (same_take 1 st) (same_then (same_test (int_eq j (pos 0)) (same_fault i fault.StepZero st) (same_steps st x n j k body e)) (same_then (same_back 3) (same_give i nothing))))))))))
    law (ForList st x values body) u w e = same_only u w (same_then (same_begin set (Some st)) (same_then (law_list values st x body e) (same_give i nothing)))
    law (Goto st a) u w e = same_then (same_begin set (Some st)) (same_went st e a)
    law (Assert st c) u w e = same_only u w (same_then (same_begin set (Some st)) (same_bind _ (same_truth st (law c for_value st e)) (λ truth. same_test truth (same_give i nothing) (same_fault i fault.AssertionFalse st))))
    law (Write st first roles values) u w e = same_only u w (same_then (same_begin set (Some st)) (same_then (law_writes values st first none_set roles e) (same_give i nothing)))
    law (Read st next targets) u w e = same_only u w (same_then (same_begin set (Some st)) (same_then (law_reads targets st next e) (same_give i nothing)))
    law (ReadCard st targets) u w e = same_only u w (same_then (same_begin set (Some st)) (same_then (law_cards targets st e) (same_give i nothing)))
    law (IoControl st a) u w e = same_only u w (same_then (same_begin set (Some st)) (same_bind _ (same_integer st (law a for_value st e)) (λ n. same_then (same_io_control n) (same_give i nothing))))

    law_subscripts : (ps : Phrases) (w : Place) (e : Env) → Same i (environments.go_subscripts set later ps w e) (copying.go_subscripts set later' (phrases_shape ps) w (with_phrases (put_by e) ps))
    law_subscripts no_phrases w e = same_give i []
    law_subscripts (phrase_and a rest) w e = same_bind _ (same_integer w (law a for_value w e)) (λ n. same_then (same_take 1 w) (same_bind _ (law_subscripts rest w e) (λ is. same_give i (n ∷ is))))

    law_fields : (ps : Phrases) (w : Place) (ts : List ValueType) (e : Env) → Same i (environments.go_fields set later ps w ts e) (copying.go_fields set later' (phrases_shape ps) w ts (with_phrases (put_by e) ps))
    law_fields no_phrases w [] e = same_give i []
    law_fields no_phrases w (t ∷ ts) e = same_halt i wrong w
    law_fields (phrase_and a rest) w [] e = same_halt i wrong w
    law_fields (phrase_and a rest) w (t ∷ ts) e = same_bind _ (same_bind _ (same_value w (law a for_value w e)) (λ v. same_made w t v)) (λ v. same_then (same_take 1 w) (same_bind _ (law_fields rest w ts e) (λ vs. same_give i (Some v ∷ vs))))

    law_case : (ps : Phrases) (w : Place) (n : Option ℕ) (e : Env) → Same i (environments.go_case set later ps w n e) (copying.go_case set later' (phrases_shape ps) w n (with_phrases (put_by e) ps))
    law_case no_phrases w None e = same_fault i fault.CaseOutsideRange w
    law_case (phrase_and a rest) w None e = same_fault i fault.CaseOutsideRange w
    law_case no_phrases w (Some n) e = same_fault i fault.CaseOutsideRange w
    law_case (phrase_and a rest) w (Some zero) e = law a for_value w e
    law_case (phrase_and a rest) w (Some (suc n)) e = law_case rest w (Some n) e

    law_list : (ps : Phrases) (w : Place) (x : Name) (body : Phrase) (e : Env) → Same i (environments.go_list set later ps w x body e) (copying.go_list set later' (phrases_shape ps) w x (with_phrases (put_by e) ps) (with (kept (x.place ∷ []) (put_by e)) body))
    law_list no_phrases w x body e = same_give i tt
    law_list (phrase_and a rest) w x body e = same_bind _ (same_integer w (law a for_value w e)) (λ n. same_then (same_holding w (same_then (same_tick set w) (hl (environments.list_job w x n body e)))) (law_list rest w x body e))

    law_writes : (ps : Phrases) (w : Place) (first : Bool) (ws : WidthsSet) (roles : List Role) (e : Env) → Same i (environments.go_writes set later ps w first ws roles e) (copying.go_writes set later' (phrases_shape ps) w first ws roles (with_phrases (put_by e) ps))
    law_writes no_phrases w first ws roles e = same_give i tt
    law_writes (phrase_and a rest) w first ws [] e = same_halt i wrong w
    law_writes (phrase_and a rest) w first ws (placed ∷ roles) e = same_bind _ (same_value w (law a for_value w e)) (λ v. same_then (same_written set w first ws v) (law_writes rest w false ws roles e))
    law_writes (phrase_and a rest) w first ws (sets k ∷ roles) e = same_bind _ (same_integer w (law a for_value w e)) (λ n. law_writes rest w first (with_width k n ws) roles e)

    law_reads : (ps : Targets) (w : Place) (next : Bool) (e : Env) → Same i (environments.go_reads set later ps w next e) (copying.go_reads set later' (targets_shape ps) w next (with_targets (put_by e) ps))
    law_reads no_targets w next e = same_give i tt
    law_reads (target_and t a rest) w next e = same_bind _ (same_spot w (law a for_place w e)) (λ k. same_bind _ (same_scan set w next (read_type t)) (λ v. same_then (same_assign w t k v) (law_reads rest w false e)))

    law_cards : (ps : Targets) (w : Place) (e : Env) → Same i (environments.go_cards set later ps w e) (copying.go_cards set later' (targets_shape ps) w (with_targets (put_by e) ps))
    law_cards no_targets w e = same_give i tt
    law_cards (target_and t a rest) w e = same_bind _ (same_spot w (law a for_place w e)) (λ k. same_bind _ (same_take_card set w) (λ v. same_then (same_assign w t k v) (law_cards rest w e)))

    law_items : (is : Items) (w : Place) (e : Env) → Same i (environments.go_items set later is w e) (copying.go_items set later' (items_shape is) w (with_items (put_by e) is))
    law_items no_items w e = same_give i nothing
    law_items (item_and labels a no_items) w e = law a for_value w e
    law_items (item_and labels a (item_and labels' b rest)) w e = same_then (law a for_value w e) (law_items (item_and labels' b rest) w e)

    law_bounds : (bs : Bounds) (w : Place) (e : Env) → Same i (environments.go_bounds set later bs w e) (copying.go_bounds set later' (bounds_shape bs) w (with_bounds (put_by e) bs))
    law_bounds no_bounds w e = same_give i []
    law_bounds (bound_and a b rest) w e = same_bind _ (same_integer w (law a for_value w e)) (λ n. same_then (same_take 1 w) (same_bind _ (same_integer w (law b for_value w e)) (λ j. same_then (same_take 1 w) (same_bind _ (law_bounds rest w e) (λ bs. same_give i ((n, j) ∷ bs))))))

    law_decls : (ds : Decls) (w : Place) (v n : ℕ) (e : Env) (g : Place → Phrase) → Same i (environments.go_decls set later ds w v n e) (copying.go_decls set later' (decls_shape ds) w v n (with_decls (put_by e) g ds))
    law_decls no_decls w v n e g = same_give i tt
    law_decls (variables_and names rest) w v n e g = same_then (same_declare_variables w v names) (law_decls rest w (v + length names) n e g)
    law_decls (arrays_and t names pairs rest) w v n e g = same_bind _ (law_bounds pairs w e) (λ bs. same_then (same_back (2 * length bs)) (same_then (same_declare_arrays w n t names bs) (law_decls rest w v (n + length names) e g)))
    law_decls (procedure_and x result formals body rest) w v n e g = law_decls rest w v n e g

    law_stars : (ps : Subscripts) (w : Place) (e : Env) → Same i (environments.go_stars set later ps w e) (copying.go_stars set later' (subscripts_shape ps) w (with_subscripts (put_by e) ps))
    law_stars no_subscripts w e = same_give i []
    law_stars (star_and rest) w e = same_bind _ (law_stars rest w e) (λ is. same_give i (None ∷ is))
    law_stars (subscript_and a rest) w e = same_bind _ (same_integer w (law a for_value w e)) (λ n. same_then (same_take 1 w) (same_bind _ (law_stars rest w e) (λ is. same_give i (Some n ∷ is))))

    law_actual : (a : Actual) (w : Place) (f : FormalType) (e : Env) → Same closed_ready (environments.go_actual set later a w f e) (copying.go_actual set later' (actual_shape a) w f (with_actual (put_by e) a))
    law_actual (Given v g first a) w f e = same_phrase_ready f w v g first a e (law a for_value w e)
    law_actual (Alone p a) w f e = same_name_ready f w p a e (same_invoked w true p a no_actuals e (λ fs. environments.no_formals w fs) (λ fs. copying.no_formals w fs) (λ fs bs. give tt) (λ fs bs. give tt) (λ fs. same_no_formals w fs) (λ fs bs. same_give i tt))
    law_actual (Subarray a subs) w f e = same_for_an_array w f (same_bind _ (law_stars subs w e) (λ is. same_subarray_at w e a is))

    law_actuals : (ps : Actuals) (w : Place) (fs : List Formal) (e : Env) → Same (map closed_ready) (environments.go_actuals set later ps w fs e) (copying.go_actuals set later' (actuals_shape ps) w fs (with_actuals (put_by e) ps))
    law_actuals no_actuals w [] e = record { by = λ s. refl }
    law_actuals no_actuals w (f ∷ fs) e = record { by = λ s. refl }
    law_actuals (actual_and a rest) w [] e = record { by = λ s. refl }
    law_actuals (actual_and a rest) w (f ∷ fs) e = same_bind (λ r. take_cells 1 w >> (copying.go_actuals set later' (actuals_shape rest) w fs (with_actuals (put_by e) rest) >>= λ rs. give (r ∷ rs))) (law_actual a w f.is e) (λ r. same_then (same_take 1 w) (same_bind (λ rs. give (closed_ready r ∷ rs)) (law_actuals rest w fs e) (λ rs. same_give (map closed_ready) (r ∷ rs))))

    law_back : (ps : Actuals) (w : Place) (fs : List Formal) (bs : List Meant) (e : Env) → Same i (environments.go_back set later ps w fs bs e) (copying.go_back set later' (actuals_shape ps) w fs (with_actuals (put_by e) ps) (map closed_put bs))
    law_back no_actuals w [] [] e = same_give i tt
    law_back no_actuals w [] (b ∷ bs) e = record { by = λ s. refl }
    law_back no_actuals w (f ∷ fs) bs e = record { by = λ s. refl }
    law_back (actual_and (Given v g first a) rest) w [] bs e = record { by = λ s. refl }
    law_back (actual_and (Alone p a) rest) w [] bs e = record { by = λ s. refl }
    law_back (actual_and (Subarray a subs) rest) w [] bs e = record { by = λ s. refl }
    law_back (actual_and (Given v g first a) rest) w (f ∷ fs) [] e = record { by = λ s. refl }
    law_back (actual_and (Alone p a) rest) w (f ∷ fs) [] e = record { by = λ s. refl }
    law_back (actual_and (Subarray a subs) rest) w (f ∷ fs) [] e = record { by = λ s. refl }
    law_back (actual_and (Given v g first a) rest) w (f ∷ fs) (b ∷ bs) e = same_then (same_assigned_back f.is w g b.by (law a for_place w e)) (law_back rest w fs bs e)
    law_back (actual_and (Alone p a) rest) w (f ∷ fs) (b ∷ bs) e = law_back rest w fs bs e
    law_back (actual_and (Subarray a subs) rest) w (f ∷ fs) (b ∷ bs) e = law_back rest w fs bs e

  -- the control name is a constant in the body
  control_same : (x : Name) (n : ℤ) (body : Phrase) (e : Env) → copying.at_control x n (with (kept (x.place ∷ []) (put_by e)) body) ≡ with (put_by (environments.at_control x n e)) body
  control_same x n body e = with_with body (puts (record { name = x.place; by = Constant (value.Integer n) } ∷ [])) (kept (x.place ∷ []) (put_by e)) (put_by (environments.at_control x n e)) (fit_numbers (record { name = x.place; by = to_constant (value.Integer n) } ∷ []) e (x.place ∷ []) refl)

  law_turn : (w : Place) (x : Name) (n : ℤ) (body : Phrase) (e : Env) (a : Phrase) → a ≡ with (put_by (environments.at_control x n e)) body
      → Same i (environments.go set later body for_value w (environments.at_control x n e)) (copying.go set later' (shape a) for_value w a)
  law_turn w x n body e a p = rw (p, same_shape body (put_by (environments.at_control x n e)) (leaf_put (environments.at_control x n e))) (law body for_value w (environments.at_control x n e))

  law_does : (job : environments.Job) → Same i (environments.does set later job) (copying.does set later' (closed_job job))
  law_does (environments.phrase_job u w a e) = rw (same_shape a (put_by e) (leaf_put e)) (law a u w e)
  law_does (environments.while_job w c body e) = rw (same_shape c (put_by e) (leaf_put e), same_shape body (put_by e) (leaf_put e)) (same_then (law body for_value w e) (same_while w (law c for_value w e) c body e))
  law_does (environments.step_job w x n j k body e) = same_then (same_under (in_turn w (shown x (a_number n))) (law_turn w x n body e _ (control_same x n body e))) (same_steps w x (n +ℤ j) j k body e)
  law_does (environments.list_job w x n body e) = same_under (in_turn w (shown x (a_number n))) (law_turn w x n body e _ (control_same x n body e))
  law_does (environments.items_job b w is e k) = rw (from_same (put_by e) is k, same_items_shape (from k is) (put_by e) (leaf_put e)) (same_catching b (λ j. hl (environments.items_job b w is e j)) (law_items (from k is) w e))

law_run : (set : Setting) (n : ℕ) (job : environments.Job) → Same i (environments.run set n job) (copying.run set n (closed_job job))
law_run set zero job = same_halt i unfinished (record { card = 0; column = 0 })
law_run set (suc n) job = law_does set (environments.run set n) (copying.run set n) (law_run set n) job

pub environments_give_what_copying_gives : EnvironmentsGiveWhatCopyingGives
environments_give_what_copying_gives set n job s = (law_run set n job).by s
