-- Cells, depth and what is under way are balanced by each phrase that ends on its own.
use Rattle.std.proofs.Common.{◌≡◌, ℕ, zero, suc, ◌+◌, ◌-◌, ◌*◌, ℤ, pos, ◌+ℤ◌, List, [], ◌∷◌, length, map, refl, ap, sym, ◌∙◌, arith}
use Rattle.std.specs.Prelude.{Option, Some, None, Bool, true, false, nat_lt, nat_le, replicate}
use Rattle.std.specs.Ordering.{int_eq}
use Rattle.value_ops.specs.declared.places.Place.{Place}
use Rattle.value_ops.specs.declared.faults.Fault.TheVariants as fault
use Rattle.value_ops.specs.Strings.{part}
use Rattle.algolw_typing.specs.Types.{ValueType, Gives, Statement, Simple}
use Rattle.algolw_typing.specs.Meanings.{FormalType, by_name, by_value, by_result, by_value_result, for_array, for_procedure}
use Rattle.program_meaning.specs.Phrases.{Phrase, Empty, Constant, Named, Variable, Array, Label, Procedure, Copied, Unary, Binary, Relation, IsClass, Element, Field, Part, Record, RecordAlone, IfThen, Case, Block, Call, Assign, WhileDo, ForStep, ForList, Goto, Assert, Write, Read, ReadCard, IoControl, Phrases, no_phrases, phrase_and, Targets, no_targets, target_and, Subscripts, no_subscripts, star_and, subscript_and, Actuals, no_actuals, actual_and, Actual, Given, Alone, Subarray, Items, no_items, item_and, Bounds, no_bounds, bound_and, Decls, no_decls, variables_and, arrays_and, procedure_and, Name, Formal, Mark, label_places, Role, placed, sets}
use Rattle.program_meaning.specs.Widths.{WidthsSet, none_set, with_width}
use Rattle.program_meaning.specs.Operations.{unary, binary, relation}
use Rattle.program_meaning.specs.State as state
use Rattle.program_meaning.specs.State.{State, Outcome, on, jump, stop, M, behind_first, with_shown, on_first, Setting, Why, by_fault, by_limit, wrong, unfinished, Entry, ShownName, Use, for_value, for_place, nothing, a_value, a_spot, Spot, whole, within, ArrayInfo, RecordInfo, a_number, in_block, in_call, in_actual, in_turn, after, ◌>>=◌, ◌>>◌, give, halt, fault_at, test, tick, note_begun, begin, innermost, take_cells, give_back, holding, push_entry, pop_entry, under, deeper, shallower, entered, show, value_in, value_of, spot_in, spot_of, integer_in, integer_of, truth_in, truth_of, string_in, record_in, answer_at, only_value, defined, look, put, variable, new, record_at, the_record, made, made_result, characters, string_held, put_string, store, assign, array_at, the_array, filled_in, all_within, subscripted, offset, elements, element_of, place_array, make_array, make_record, is_place_of, field_of, is_of_class, spot_within, string_answer, print, within_lines, put_pieces, read_so_far, set_read, scan_answer, Made, back_to, is_own, caught, catching, cells_held, set_cells, made_here, most_cells, most_depth, most_records, most_fields, for_an_array}
use Rattle.program_meaning.specs.Copying.{Firsts, firsts, free, shown, declare_variables, declare_arrays, value_held, read_type, has_turn, case_number, cells_of, from}
use Rattle.program_meaning.specs.Environments as env
use Rattle.program_meaning.specs.Environments.{Env, empty, bind, find, Bodied, Meant, Thing, to_constant, to_variable, to_array, to_label, to_procedure, thunk, extend, head}
use Rattle.program_meaning.proofs.Keeping.{Kept, Keeps, keeps_bind, keeps_then, keeps_test, keeps_give, keeps_wrong, keeps_fault, keeps_fresh, keeps_opened, keeps_value_in, keeps_spot_in, keeps_integer_in, keeps_truth_in, keeps_string_in, keeps_record_in, keeps_answer, keeps_look, keeps_variable, keeps_made, keeps_made_result, keeps_assign, keeps_the_array, keeps_element, keeps_make_record, keeps_field, keeps_class, keeps_within, keeps_string_answer, keeps_scan, keeps_take_card, keeps_io_control, keeps_written, keeps_no_actuals, keeps_procedure_handed, keeps_array_handed, keeps_bound, keeps_compared, keeps_the_procedure}
use Rattle.program_meaning.specs.Laws.{IsAsMade, IsBalanced, MayBegin}

pub record Balanced {A : Type 0} (m : M Bodied A) : Type 0 where
  pub by : (s : State Bodied) → IsBalanced s (m s)

balanced_from : {A : Type 0} (s t : State Bodied) (r : Outcome Bodied A) → t.cells ≡ s.cells → t.depth ≡ s.depth → t.active ≡ s.active → IsBalanced t r → IsBalanced s r
balanced_from s t (on a u) p q e b = (b.0 ∙ p, b.1 ∙ q, b.2 ∙ e)
balanced_from s t (jump l u) p q e b = tt
balanced_from s t (stop y w u) p q e b = tt

balanced_after : {A B : Type 0} (s : State Bodied) (f : A → M Bodied B) → ((a : A) → Balanced (f a)) → (r : Outcome Bodied A) → IsBalanced s r → IsBalanced s (after r f)
balanced_after s f h (on a t) b = balanced_from s t (f a t) b.0 b.1 b.2 ((h a).by t)
balanced_after s f h (jump l t) b = tt
balanced_after s f h (stop y w t) b = tt

balanced_bind : {A B : Type 0} {m : M Bodied A} {f : A → M Bodied B} → Balanced m → ((a : A) → Balanced (f a)) → Balanced (m >>= f)
balanced_bind {m = m} {f = f} h g = record { by = λ s. balanced_after s f g (m s) (h.by s) }

balanced_then : {A B : Type 0} {m : M Bodied A} {f : M Bodied B} → Balanced m → Balanced f → Balanced (m >> f)
balanced_then {m = m} {f = f} h g = record { by = λ s. balanced_after s (λ a. f) (λ a. g) (m s) (h.by s) }

balanced_at : {A : Type 0} (s : State Bodied) (b : Bool) (x y : Outcome Bodied A) → IsBalanced s x → IsBalanced s y → IsBalanced s (elim b [ true ↦ x | false ↦ y ])
balanced_at s true x y p q = p
balanced_at s false x y p q = q

balanced_test : {A : Type 0} {m k : M Bodied A} (b : Bool) → Balanced m → Balanced k → Balanced (test b m k)
balanced_test b h g = record { by = λ s. balanced_at s b _ _ (h.by s) (g.by s) }

kept_balanced : {A : Type 0} (s : State Bodied) (r : Outcome Bodied A) → Kept s r → IsBalanced s r
kept_balanced s (on a t) k = (k.cells, k.depth, k.active)
kept_balanced s (jump l t) k = tt
kept_balanced s (stop y w t) k = tt

balanced_keeps : {A : Type 0} {m : M Bodied A} → Keeps m → Balanced m
balanced_keeps {m = m} h = record { by = λ s. kept_balanced s (m s) (h.by s) }

balanced_step : (set : Setting) (w : Place) → Balanced (tick set w)
balanced_step set w = record { by = λ s. balanced_at s (nat_lt s.steps set.steps) _ _ (refl, refl, refl) tt }

balanced_tick : {A : Type 0} {m : M Bodied A} (set : Setting) (w : Place) → Balanced m → Balanced (tick set w >> m)
balanced_tick set w h = balanced_then (balanced_step set w) h

balanced_begin : (set : Setting) (st : Option Place) → Balanced (begin set st)
balanced_begin set None = balanced_keeps (keeps_give tt)
balanced_begin set (Some st) = balanced_tick set st (record { by = λ s. (refl, refl, refl) })

-- ---- cells and depth that are taken and given back

-- from c cells and depth k above some level to d a cells and depth k'
abbrev Moved : {A : Type 0} → (b j : ℕ) → List Entry → (d : A → ℕ) → (k' : ℕ) → Outcome Bodied A → Type 0
Moved b j es d k' (on a t) = (t.cells ≡ b + d a) × (t.depth ≡ j + k') × (t.active ≡ es)
Moved b j es d k' (jump l t) = Unit {0}
Moved b j es d k' (stop y w t) = Unit {0}

record Moves {A : Type 0} (c k : ℕ) (d : A → ℕ) (k' : ℕ) (m : M Bodied A) : Type 0 where
  by : (s : State Bodied) (b j : ℕ) → s.cells ≡ b + c → s.depth ≡ j + k → Moved b j s.active d k' (m s)

moved_to : {A : Type 0} (b j : ℕ) (es fs : List Entry) (d : A → ℕ) (k' : ℕ) (r : Outcome Bodied A) → es ≡ fs → Moved b j es d k' r → Moved b j fs d k' r
moved_to b j es fs d k' (on a t) e m = (m.0, m.1, m.2 ∙ e)
moved_to b j es fs d k' (jump l t) e m = tt
moved_to b j es fs d k' (stop y w t) e m = tt

moved_after : {A B : Type 0} (b j : ℕ) (es : List Entry) (d : A → ℕ) (k' : ℕ) (e : B → ℕ) (k'' : ℕ) (f : A → M Bodied B) → ((a : A) → Moves (d a) k' e k'' (f a)) → (r : Outcome Bodied A) → Moved b j es d k' r → Moved b j es e k'' (after r f)
moved_after b j es d k' e k'' f h (on a t) m = moved_to b j t.active es e k'' (f a t) m.2 ((h a).by t b j m.0 m.1)
moved_after b j es d k' e k'' f h (jump l t) m = tt
moved_after b j es d k' e k'' f h (stop y w t) m = tt

moves_bind : {A B : Type 0} {c k k' k'' : ℕ} {d : A → ℕ} {e : B → ℕ} {m : M Bodied A} {f : A → M Bodied B} → Moves c k d k' m → ((a : A) → Moves (d a) k' e k'' (f a)) → Moves c k e k'' (m >>= f)
moves_bind {k' = k'} {k'' = k''} {d = d} {e = e} {m = m} {f = f} h g = record { by = λ s b j p q. moved_after b j s.active d k' e k'' f g (m s) (h.by s b j p q) }

moves_then : {A B : Type 0} {c k c' k' k'' : ℕ} {e : B → ℕ} {m : M Bodied A} {f : M Bodied B} → Moves c k (λ a. c') k' m → Moves c' k' e k'' f → Moves c k e k'' (m >> f)
moves_then {c' = c'} {k' = k'} {k'' = k''} {e = e} {m = m} {f = f} h g = record { by = λ s b j p q. moved_after b j s.active (λ a. c') k' e k'' (λ a. f) (λ a. g) (m s) (h.by s b j p q) }

moved_balanced : {A : Type 0} (s : State Bodied) (b j c k : ℕ) (r : Outcome Bodied A) → s.cells ≡ b + c → s.depth ≡ j + k → IsBalanced s r → Moved b j s.active (λ a. c) k r
moved_balanced s b j c k (on a t) p q m = (m.0 ∙ p, m.1 ∙ q, m.2)
moved_balanced s b j c k (jump l t) p q m = tt
moved_balanced s b j c k (stop y w t) p q m = tt

moves_balanced : {A : Type 0} {m : M Bodied A} (c k : ℕ) → Balanced m → Moves c k (λ a. c) k m
moves_balanced {m = m} c k h = record { by = λ s b j p q. moved_balanced s b j c k (m s) p q (h.by s) }

nothing_more : (n : ℕ) → n ≡ n + 0
nothing_more n = omega arith

back_at_start : {A : Type 0} (s : State Bodied) (r : Outcome Bodied A) → Moved s.cells s.depth s.active (λ a. 0) 0 r → IsBalanced s r
back_at_start s (on a t) m = (m.0 ∙ sym (nothing_more s.cells), m.1 ∙ sym (nothing_more s.depth), m.2)
back_at_start s (jump l t) m = tt
back_at_start s (stop y w t) m = tt

balanced_moves : {A : Type 0} {m : M Bodied A} → Moves 0 0 (λ a. 0) 0 m → Balanced m
balanced_moves {m = m} h = record { by = λ s. back_at_start s (m s) (h.by s s.cells s.depth (nothing_more s.cells) (nothing_more s.depth)) }

moved_at : {A : Type 0} (b j : ℕ) (es : List Entry) (d : A → ℕ) (k' : ℕ) (t : Bool) (x y : Outcome Bodied A) → Moved b j es d k' x → Moved b j es d k' y → Moved b j es d k' (elim t [ true ↦ x | false ↦ y ])
moved_at b j es d k' true x y p q = p
moved_at b j es d k' false x y p q = q

moves_test : {A : Type 0} {c k k' : ℕ} {d : A → ℕ} {m n : M Bodied A} (t : Bool) → Moves c k d k' m → Moves c k d k' n → Moves c k d k' (test t m n)
moves_test {k' = k'} {d = d} t h g = record { by = λ s b j p q. moved_at b j s.active d k' t _ _ (h.by s b j p q) (g.by s b j p q) }

moves_take : (c k n : ℕ) (w : Place) → Moves c k (λ a. c + n) k (take_cells n w)
moves_take c k n w = record { by = λ s b j p q. moved_at b j s.active (λ a. c + n) k (nat_le (s.cells + n) most_cells) _ _ (omega (arith, p), q, refl) tt }

moves_back : (c k n : ℕ) → Moves (c + n) k (λ a. c) k (give_back n)
moves_back c k n = record { by = λ s b j p q. (omega (arith, p), q, refl) }

moves_deeper : (c k : ℕ) (w : Place) → Moves c k (λ a. c) (k + 1) (deeper w)
moves_deeper c k w = record { by = λ s b j p q. moved_at b j s.active (λ a. c) (k + 1) (nat_lt s.depth most_depth) _ _ (p, omega (arith, q), refl) tt }

moves_shallower : (c k : ℕ) → Moves c (k + 1) (λ a. c) k shallower
moves_shallower c k = record { by = λ s b j p q. (p, omega (arith, q), refl) }

-- a cell that is held while m is done
balanced_holding : {A : Type 0} {m : M Bodied A} (w : Place) → Balanced m → Balanced (holding w m)
balanced_holding w h = balanced_moves (moves_then (moves_take 0 0 1 w) (moves_bind (moves_balanced (0 + 1) 0 h) (λ a. moves_then (moves_back 0 0 1) (moves_balanced 0 0 (balanced_keeps (keeps_give a))))))

popped : {A : Type 0} (s : State Bodied) (e : Entry) (r : Outcome Bodied A) → IsBalanced (record s { active = e ∷ s.active }) r → IsBalanced s (after r (λ a. pop_entry >> give a))
popped s e (on a t) b = (b.0, b.1, ap behind_first b.2)
popped s e (jump l t) b = tt
popped s e (stop y w t) b = tt

balanced_under : {A : Type 0} {m : M Bodied A} (e : Entry) → Balanced m → Balanced (under e m)
balanced_under {m = m} e h = record { by = λ s. popped s e (m (record s { active = e ∷ s.active })) (h.by (record s { active = e ∷ s.active })) }

balanced_entered : {A : Type 0} {m : M Bodied A} (w : Place) (e : Entry) → Balanced m → Balanced (entered w e m)
balanced_entered w e h = balanced_moves (moves_then (moves_deeper 0 0 w) (moves_bind (moves_balanced 0 (0 + 1) (balanced_under e h)) (λ a. moves_then (moves_shallower 0 0) (moves_balanced 0 0 (balanced_keeps (keeps_give a))))))

balanced_value : {m : M Bodied state.Given} (w : Place) → Balanced m → Balanced (value_of w m)
balanced_value w h = balanced_bind h (λ r. balanced_keeps (keeps_value_in w r))

balanced_spot : {m : M Bodied state.Given} (w : Place) → Balanced m → Balanced (spot_of w m)
balanced_spot w h = balanced_bind h (λ r. balanced_keeps (keeps_spot_in w r))

balanced_integer : {m : M Bodied state.Given} (w : Place) → Balanced m → Balanced (integer_of w m)
balanced_integer w h = balanced_bind (balanced_value w h) (λ v. balanced_keeps (keeps_integer_in w v))

balanced_truth : {m : M Bodied state.Given} (w : Place) → Balanced m → Balanced (truth_of w m)
balanced_truth w h = balanced_bind (balanced_value w h) (λ v. balanced_keeps (keeps_truth_in w v))

balanced_only : {m : M Bodied state.Given} (u : Use) (w : Place) → Balanced m → Balanced (only_value u w m)
balanced_only for_value w h = h
balanced_only for_place w h = balanced_keeps (keeps_wrong w)

balanced_value_held : {m : M Bodied (Unit {0})} (t : Option ValueType) (w : Place) → Balanced m → Balanced (value_held t w m)
balanced_value_held None w h = h
balanced_value_held (Some t) w h = balanced_holding w h

balanced_value_ready : {m : M Bodied state.Given} (w : Place) (t : ValueType) → Balanced m → Balanced (env.value_ready w t m)
balanced_value_ready w t h = balanced_bind (balanced_value w h) (λ v. balanced_keeps (keeps_bind (keeps_made w t v) (λ u. keeps_give _)))

balanced_phrase_ready : {m : M Bodied state.Given} (f : FormalType) (w : Place) (v : Bool) (g : Gives) (first : Place) (a : Phrase) (e : Env) → Balanced m → Balanced (env.phrase_ready f w m v g first a e)
balanced_phrase_ready (by_value t) w v g first a e h = balanced_value_ready w t h
balanced_phrase_ready (by_value_result t) w v g first a e h = balanced_value_ready w t h
balanced_phrase_ready (by_result t) w v g first a e h = balanced_keeps (keeps_give _)
balanced_phrase_ready (by_name t) w v g first a e h = balanced_keeps (keeps_give _)
balanced_phrase_ready (for_procedure result) w v g first a e h = balanced_keeps (keeps_give _)
balanced_phrase_ready (for_array t n) w v g first a e h = balanced_keeps (keeps_wrong w)

balanced_for_an_array : {A : Type 0} {m : M Bodied A} (w : Place) (f : FormalType) → Balanced m → Balanced (for_an_array w f m)
balanced_for_an_array w (by_value t) h = balanced_keeps (keeps_wrong w)
balanced_for_an_array w (by_name t) h = balanced_keeps (keeps_wrong w)
balanced_for_an_array w (by_result t) h = balanced_keeps (keeps_wrong w)
balanced_for_an_array w (by_value_result t) h = balanced_keeps (keeps_wrong w)
balanced_for_an_array w (for_procedure result) h = balanced_keeps (keeps_wrong w)
balanced_for_an_array w (for_array t n) h = h

balanced_name_ready : {m : M Bodied state.Given} (f : FormalType) (w p : Place) (a : Phrase) (e : Env) → Balanced m → Balanced (env.name_ready f w m p a e)
balanced_name_ready (by_value t) w p a e h = balanced_value_ready w t h
balanced_name_ready (by_name t) w p a e h = balanced_keeps (keeps_give _)
balanced_name_ready (for_procedure result) w p a e h = balanced_keeps (keeps_procedure_handed w (head e a))
balanced_name_ready (for_array t n) w p a e h = balanced_keeps (keeps_array_handed w (head e a))
balanced_name_ready (by_result t) w p a e h = balanced_keeps (keeps_wrong w)
balanced_name_ready (by_value_result t) w p a e h = balanced_keeps (keeps_wrong w)

balanced_give_back_value : {m : M Bodied state.Given} (w : Place) (g : Gives) (t : Thing) → Balanced m → Balanced (env.give_back_value w m g t)
balanced_give_back_value w (Simple ty) (to_variable k) h = balanced_bind (balanced_spot w h) (λ spot. balanced_keeps (keeps_bind (keeps_look w k) (λ v. keeps_assign w ty spot v)))
balanced_give_back_value w (Simple ty) (to_constant v) h = balanced_keeps (keeps_wrong w)
balanced_give_back_value w (Simple ty) (to_array k given) h = balanced_keeps (keeps_wrong w)
balanced_give_back_value w (Simple ty) (to_label k) h = balanced_keeps (keeps_wrong w)
balanced_give_back_value w (Simple ty) (to_procedure k) h = balanced_keeps (keeps_wrong w)
balanced_give_back_value w (Simple ty) (thunk m a e) h = balanced_keeps (keeps_wrong w)
balanced_give_back_value w Statement t h = balanced_keeps (keeps_wrong w)

balanced_assigned_back : {m : M Bodied state.Given} (f : FormalType) (w : Place) (g : Gives) (t : Thing) → Balanced m → Balanced (env.assigned_back f w m g t)
balanced_assigned_back (by_result ty) w g t h = balanced_give_back_value w g t h
balanced_assigned_back (by_value_result ty) w g t h = balanced_give_back_value w g t h
balanced_assigned_back (by_value ty) w g t h = balanced_keeps (keeps_give tt)
balanced_assigned_back (by_name ty) w g t h = balanced_keeps (keeps_give tt)
balanced_assigned_back (for_array ty n) w g t h = balanced_keeps (keeps_give tt)
balanced_assigned_back (for_procedure result) w g t h = balanced_keeps (keeps_give tt)

-- ---- blocks

-- the depth, and what is under way but for the names of the innermost entry, are left as they were
abbrev Tailed : {A : Type 0} → State Bodied → Outcome Bodied A → Type 0
Tailed s (on a t) = (t.depth ≡ s.depth) × (behind_first t.active ≡ behind_first s.active)
Tailed s (jump l t) = Unit {0}
Tailed s (stop y w t) = Unit {0}

record Tails {A : Type 0} (m : M Bodied A) : Type 0 where
  by : (s : State Bodied) → Tailed s (m s)

tailed_from : {A : Type 0} (s t : State Bodied) (r : Outcome Bodied A) → t.depth ≡ s.depth → behind_first t.active ≡ behind_first s.active → Tailed t r → Tailed s r
tailed_from s t (on a u) p q h = (h.0 ∙ p, h.1 ∙ q)
tailed_from s t (jump l u) p q h = tt
tailed_from s t (stop y w u) p q h = tt

tailed_after : {A B : Type 0} (s : State Bodied) (f : A → M Bodied B) → ((a : A) → Tails (f a)) → (r : Outcome Bodied A) → Tailed s r → Tailed s (after r f)
tailed_after s f h (on a t) k = tailed_from s t (f a t) k.0 k.1 ((h a).by t)
tailed_after s f h (jump l t) k = tt
tailed_after s f h (stop y w t) k = tt

tails_bind : {A B : Type 0} {m : M Bodied A} {f : A → M Bodied B} → Tails m → ((a : A) → Tails (f a)) → Tails (m >>= f)
tails_bind {m = m} {f = f} h g = record { by = λ s. tailed_after s f g (m s) (h.by s) }

tails_then : {A B : Type 0} {m : M Bodied A} {f : M Bodied B} → Tails m → Tails f → Tails (m >> f)
tails_then {m = m} {f = f} h g = record { by = λ s. tailed_after s (λ a. f) (λ a. g) (m s) (h.by s) }

tailed_balanced : {A : Type 0} (s : State Bodied) (r : Outcome Bodied A) → IsBalanced s r → Tailed s r
tailed_balanced s (on a t) b = (b.1, ap behind_first b.2)
tailed_balanced s (jump l t) b = tt
tailed_balanced s (stop y w t) b = tt

tails_balanced : {A : Type 0} {m : M Bodied A} → Balanced m → Tails m
tails_balanced {m = m} h = record { by = λ s. tailed_balanced s (m s) (h.by s) }

tailed_at : {A : Type 0} (s : State Bodied) (b : Bool) (x y : Outcome Bodied A) → Tailed s x → Tailed s y → Tailed s (elim b [ true ↦ x | false ↦ y ])
tailed_at s true x y p q = p
tailed_at s false x y p q = q

tails_take : (n : ℕ) (w : Place) → Tails (take_cells n w)
tails_take n w = record { by = λ s. tailed_at s (nat_le (s.cells + n) most_cells) _ _ (refl, refl) tt }

tails_back : (n : ℕ) → Tails (give_back n)
tails_back n = record { by = λ s. (refl, refl) }

shown_behind : (xs : List ShownName) (es : List Entry) → behind_first (on_first xs es) ≡ behind_first es
shown_behind xs [] = refl
shown_behind xs (e ∷ es) = refl

tails_show : (xs : List ShownName) → Tails (show xs)
tails_show xs = record { by = λ s. (refl, shown_behind xs s.active) }

tails_place : (k : ℕ) (t : ValueType) (bounds : List (ℤ × ℤ)) → Tails (place_array k t bounds)
tails_place k t bounds = record { by = λ s. (refl, refl) }

tails_variables : (w : Place) (k : ℕ) (names : List Name) → Tails (declare_variables w k names)
tails_variables w k [] = tails_balanced (balanced_keeps (keeps_give tt))
tails_variables w k (x ∷ xs) = tails_then (tails_take 1 w) (tails_then (tails_show (shown x (state.a_variable k))) (tails_variables w (k + 1) xs))

tails_arrays : (w : Place) (k : ℕ) (t : ValueType) (names : List Name) (bounds : List (ℤ × ℤ)) → Tails (declare_arrays w k t names bounds)
tails_arrays w k t [] bounds = tails_balanced (balanced_keeps (keeps_give tt))
tails_arrays w k t (x ∷ xs) bounds = tails_then (tails_then (tails_take (1 + elements bounds) w) (tails_place k t bounds)) (tails_then (tails_show (shown x (state.an_array k (free (length bounds))))) (tails_arrays w (k + 1) t xs bounds))

-- a block gives back its cells, and its entry
left_at : (s s' : State Bodied) (r : Outcome Bodied state.Given) → s'.depth ≡ s.depth → behind_first s'.active ≡ s.active → Tailed s' r
    → IsBalanced s (after (after r (λ a. set_cells s.cells >> give a)) (λ a. pop_entry >> give a))
left_at s s' (on a t) p q h = (refl, h.0 ∙ p, h.1 ∙ q)
left_at s s' (jump l t) p q h = tt
left_at s s' (stop y w t) p q h = tt

balanced_left : (e : Entry) (m : Firsts → M Bodied state.Given) → ((n : Firsts) → Tails (m n)) → Balanced (under e (cells_held >>= λ held. firsts >>= λ n. m n >>= λ r. set_cells held >> give r))
balanced_left e m h = record {
  by = λ s.
      let s' : State Bodied = record s { active = e ∷ s.active } in
      let n : Firsts = record { variables = length s.memory; arrays = length s.arrays; labels = s.labels } in
      left_at s s' (m n s') refl refl ((h n).by s');
}

resumed_at : (s : State Bodied) (b : Made) (k : ℕ → M Bodied state.Given) → IsAsMade b s → ((j : ℕ) (t : State Bodied) → IsAsMade b t → IsBalanced t (k j t)) → (r : Outcome Bodied state.Given) → IsBalanced s r → IsBalanced s (caught b k r)
resumed_at s b k made h (on a t) r = r
resumed_at s b k made h (jump l t) r = balanced_at s (is_own b l) _ _ (balanced_from s (back_to b t) (k (l - b.first) (back_to b t)) (sym made.0) (sym made.1) (sym made.2) (h (l - b.first) (back_to b t) (refl, refl, refl))) tt
resumed_at s b k made h (stop y w t) r = tt

balanced_catching : (l n : ℕ) (m : M Bodied state.Given) (k : Made → ℕ → M Bodied state.Given) → Balanced m → ((b : Made) (j : ℕ) (t : State Bodied) → IsAsMade b t → IsBalanced t (k b j t)) → Balanced (made_here l n >>= λ b. catching b (k b) m)
balanced_catching l n m k h g = record {
  by = λ s.
      let b : Made = record { first = l; count = n; cells = s.cells; depth = s.depth; active = s.active } in
      resumed_at s b (k b) (refl, refl, refl) (g b) (m s) (h.by s);
}

-- ---- what is done

module _ (set : Setting) (later : env.Job → M Bodied state.Given) (hl : (job : env.Job) (s : State Bodied) → MayBegin job s → IsBalanced s (later job s)) where
  balanced_copied : (u : Use) (w : Place) (m : Mark) (a : Phrase) (e : Env) → Balanced (env.copied set later u w m a e)
  balanced_copied for_value w m a e = balanced_tick set w (balanced_bind (balanced_entered w (in_actual m.first) (record { by = λ s. hl (env.phrase_job for_value m.statement a e) s tt })) (λ r. balanced_keeps (keeps_made_result w m.type r)))
  balanced_copied for_place w m a e = balanced_tick set w (balanced_test m.is_variable (balanced_entered w (in_actual m.first) (record { by = λ s. hl (env.phrase_job for_place m.statement a e) s tt })) (balanced_keeps (keeps_fault fault.AssignmentToNoVariable w)))

  balanced_named : (u : Use) (w : Place) (o : Option Thing) → Balanced (env.named set later u w o)
  balanced_named u w None = balanced_keeps (keeps_wrong w)
  balanced_named u w (Some (to_constant v)) = balanced_only u w (balanced_keeps (keeps_give _))
  balanced_named u w (Some (to_variable k)) = balanced_keeps (keeps_variable u w k)
  balanced_named u w (Some (to_array k given)) = balanced_keeps (keeps_wrong w)
  balanced_named u w (Some (to_label k)) = balanced_keeps (keeps_wrong w)
  balanced_named u w (Some (to_procedure k)) = balanced_keeps (keeps_wrong w)
  balanced_named u w (Some (thunk m a e)) = balanced_copied u w m a e

  balanced_while : {m : M Bodied state.Given} (w : Place) → Balanced m → (c body : Phrase) (e : Env) → Balanced (env.while_turns set later w m c body e)
  balanced_while w h c body e = balanced_bind (balanced_truth w h) (λ b. balanced_test b (balanced_tick set w (record { by = λ s. hl (env.while_job w c body e) s tt })) (balanced_keeps (keeps_give _)))

  balanced_steps : (w : Place) (x : Name) (i j k : ℤ) (body : Phrase) (e : Env) → Balanced (env.step_turns set later w x i j k body e)
  balanced_steps w x i j k body e = balanced_test (has_turn i j k) (balanced_tick set w (record { by = λ s. hl (env.step_job w x i j k body e) s tt })) (balanced_keeps (keeps_give _))

  jumped : (st : Place) (o : Option Thing) (s : State Bodied) → IsBalanced s (env.went set later st o s)
  jumped st None s = tt
  jumped st (Some (to_constant v)) s = tt
  jumped st (Some (to_variable v)) s = tt
  jumped st (Some (to_array v g)) s = tt
  jumped st (Some (to_label v)) s = tt
  jumped st (Some (to_procedure v)) s = tt
  jumped st (Some (thunk m a e)) s = tt

  balanced_goto : (st : Place) (o : Option Thing) → Balanced (begin set (Some st) >> env.went set later st o)
  balanced_goto st o = balanced_then (balanced_begin set (Some st)) (record { by = λ s. jumped st o s })

  tails_numbers : (w : Place) (ds : Decls) (is : Items) (e : Env) (d : Firsts → M Bodied (Unit {0})) (m : Env → M Bodied state.Given) → ((k : Firsts) → Tails (d k)) → ((f : Env) → Balanced (m f)) → (k : Firsts) (bs : List Meant)
      → Tails (env.with_numbers set later w ds is e d m k bs)
  tails_numbers w ds is e d m hd h k bs =
      tails_then (tails_balanced (balanced_keeps (keeps_opened w (extend bs e) ds is))) (tails_then (hd k)
      (tails_balanced (balanced_catching k.labels (length (label_places is)) (m (extend bs e)) (λ b j. later (env.items_job b w is (extend bs e) j)) (h (extend bs e)) (λ b j t p. hl (env.items_job b w is (extend bs e) j) t p))))

  balanced_block : (w p : Place) (ds : Decls) (is : Items) (e : Env) (d : Firsts → M Bodied (Unit {0})) (m : Env → M Bodied state.Given) → ((k : Firsts) → Tails (d k)) → ((f : Env) → Balanced (m f))
      → Balanced (env.block set later w p ds is e d m)
  balanced_block w p ds is e d m hd h =
      balanced_left (in_block p []) (λ n. env.fresh ds is >>= env.with_numbers set later w ds is e d m n) (λ n. tails_bind {f = env.with_numbers set later w ds is e d m n} (tails_balanced (balanced_keeps (keeps_fresh ds is))) (λ bs. tails_numbers w ds is e d m hd h n bs))

  balanced_called : (w p : Place) (procedure : Bodied) (r : M Bodied (List env.Ready)) (k : List Meant → M Bodied (Unit {0})) → Moves 0 0 (λ rs. 0 + length procedure.formals) 0 r → ((bs : List Meant) → Balanced (k bs)) → Balanced (env.called set later w p procedure r k)
  balanced_called w p procedure r k hr hk =
      let c = 0 + length procedure.formals in
      balanced_moves (moves_bind hr (λ rs. moves_then (moves_balanced c 0 (balanced_step set w)) (moves_then (moves_deeper c 0 w) (moves_bind (moves_balanced c (0 + 1) (balanced_keeps (keeps_bound w procedure.formals rs))) (λ b.
      moves_bind (moves_balanced c (0 + 1) (balanced_under (in_call procedure.name p b.names) (balanced_bind (balanced_bind (record { by = λ s. hl (env.phrase_job for_value procedure.statement procedure.body (extend b.puts procedure.env)) s tt }) (λ r. balanced_keeps (keeps_made_result procedure.statement procedure.result r))) (λ r. balanced_then (balanced_value_held procedure.result procedure.statement (hk b.puts)) (balanced_keeps (keeps_give r))))))
      (λ r. moves_then (moves_shallower c 0) (moves_then (moves_back 0 0 (length procedure.formals)) (moves_balanced 0 0 (balanced_keeps (keeps_give r))))))))))

  balanced_invoked : (w : Place) (compares : Bool) (p : Place) (o : Option Thing) (given : Actuals) (e : Env) (r : List Formal → M Bodied (List env.Ready)) (k : List Formal → List Meant → M Bodied (Unit {0}))
      → ((fs : List Formal) → Moves 0 0 (λ rs. 0 + length fs) 0 (r fs)) → ((fs : List Formal) (bs : List Meant) → Balanced (k fs bs)) → Balanced (env.invoked set later w compares p o given e r k)
  balanced_invoked w compares p None given e r k hr hk = balanced_keeps (keeps_wrong w)
  balanced_invoked w compares p (Some (to_constant v)) given e r k hr hk = balanced_keeps (keeps_wrong w)
  balanced_invoked w compares p (Some (to_variable v)) given e r k hr hk = balanced_keeps (keeps_wrong w)
  balanced_invoked w compares p (Some (to_array v g)) given e r k hr hk = balanced_keeps (keeps_wrong w)
  balanced_invoked w compares p (Some (to_label v)) given e r k hr hk = balanced_keeps (keeps_wrong w)
  balanced_invoked w compares p (Some (to_procedure v)) given e r k hr hk = balanced_bind (balanced_keeps (keeps_the_procedure w v)) (λ procedure. balanced_then (balanced_keeps (keeps_compared w compares e procedure.formals given)) (balanced_called w p procedure (r procedure.formals) (k procedure.formals) (hr procedure.formals) (hk procedure.formals)))
  balanced_invoked w compares p (Some (thunk m a f)) given e r k hr hk = balanced_then (balanced_keeps (keeps_no_actuals w given)) (balanced_copied for_value w m a f)

  moves_wrong : {A : Type 0} (c : ℕ) (d : A → ℕ) (w : Place) → Moves c 0 d 0 (halt wrong w)
  moves_wrong c d w = record { by = λ s b j p q. tt }

  moves_no_formals : (w : Place) (fs : List Formal) → Moves 0 0 (λ rs. 0 + length fs) 0 (env.no_formals w fs)
  moves_no_formals w [] = record { by = λ s b j p q. (p, q, refl) }
  moves_no_formals w (f ∷ fs) = moves_wrong _ _ w

  tailed_moved : {A : Type 0} (s : State Bodied) (d : A → ℕ) (r : Outcome Bodied A) → Moved s.cells s.depth s.active d 0 r → Tailed s r
  tailed_moved s d (on a t) m = (m.1 ∙ sym (nothing_more s.depth), ap behind_first m.2)
  tailed_moved s d (jump l t) m = tt
  tailed_moved s d (stop y w t) m = tt

  tails_moves : {A : Type 0} {d : A → ℕ} {m : M Bodied A} → Moves 0 0 d 0 m → Tails m
  tails_moves {d = d} {m = m} h = record { by = λ s. tailed_moved s d (m s) (h.by s s.cells s.depth (nothing_more s.cells) (nothing_more s.depth)) }

  moves_element_at : (u : Use) (w : Place) (o : Option Thing) (is : List ℤ) → Moves (0 + length is) 0 (λ r. 0) 0 (env.element_at set later u w o is)
  moves_element_at u w None is = moves_wrong _ _ w
  moves_element_at u w (Some (to_constant v)) is = moves_wrong _ _ w
  moves_element_at u w (Some (to_variable v)) is = moves_wrong _ _ w
  moves_element_at u w (Some (to_array k given)) is = moves_bind (moves_balanced (0 + length is) 0 (balanced_keeps (keeps_element u w k (filled_in given (map (λ i. Some i) is))))) (λ r. moves_then (moves_back 0 0 (length is)) (moves_balanced 0 0 (balanced_keeps (keeps_give r))))
  moves_element_at u w (Some (to_label v)) is = moves_wrong _ _ w
  moves_element_at u w (Some (to_procedure v)) is = moves_wrong _ _ w
  moves_element_at u w (Some (thunk m a e)) is = moves_wrong _ _ w

  moves_subarray_at : (w : Place) (o : Option Thing) (is : List (Option ℤ)) → Moves (0 + cells_of is) 0 (λ r. 0) 0 (env.subarray_at set later w o is)
  moves_subarray_at w None is = moves_wrong _ _ w
  moves_subarray_at w (Some (to_constant v)) is = moves_wrong _ _ w
  moves_subarray_at w (Some (to_variable v)) is = moves_wrong _ _ w
  moves_subarray_at w (Some (to_array k given)) is = moves_bind (moves_balanced (0 + cells_of is) 0 (balanced_keeps (keeps_the_array w k))) (λ a. moves_test (all_within a.bounds (filled_in given is)) (moves_then (moves_back 0 0 (cells_of is)) (moves_balanced 0 0 (balanced_keeps (keeps_give (env.put_for (to_array k (filled_in given is))))))) (record { by = λ s b j p q. tt }))
  moves_subarray_at w (Some (to_label v)) is = moves_wrong _ _ w
  moves_subarray_at w (Some (to_procedure v)) is = moves_wrong _ _ w
  moves_subarray_at w (Some (thunk m a e)) is = moves_wrong _ _ w

  mutual
    balanced : (a : Phrase) (u : Use) (w : Place) (e : Env) → Balanced (env.go set later a u w e)
    balanced Empty u w e = balanced_keeps (keeps_give _)
    balanced (Constant v) u w e = balanced_only u w (balanced_keeps (keeps_give _))
    balanced (Named x) u w e = balanced_named u w (find e x)
    balanced (Variable k) u w e = balanced_keeps (keeps_variable u w k)
    balanced (Array k given) u w e = balanced_keeps (keeps_wrong w)
    balanced (Label l) u w e = balanced_keeps (keeps_wrong w)
    balanced (Procedure k) u w e = balanced_keeps (keeps_wrong w)
    balanced (Copied m a) u w e = balanced_copied u w m a empty
    balanced (Unary op a) u w e = balanced_only u w (balanced_bind (balanced_value w (balanced a for_value w e)) (λ v. balanced_keeps (keeps_answer w (unary op v))))
    balanced (Binary op a b) u w e = balanced_only u w (balanced_bind (balanced_value w (balanced a for_value w e)) (λ v. balanced_bind (balanced_holding w (balanced_value w (balanced b for_value w e))) (λ v'. balanced_keeps (keeps_answer w (binary op v v')))))
    balanced (Relation op a b) u w e = balanced_only u w (balanced_bind (balanced_value w (balanced a for_value w e)) (λ v. balanced_bind (balanced_holding w (balanced_value w (balanced b for_value w e))) (λ v'. balanced_keeps (keeps_answer w (relation op v v')))))
    balanced (IsClass a class) u w e = balanced_only u w (balanced_bind (balanced_bind (balanced_value w (balanced a for_value w e)) (λ v. balanced_keeps (keeps_record_in w v))) (λ r. balanced_keeps (keeps_class w class r)))
    balanced (Element a subs) u w e = balanced_moves (moves_bind (moves_subscripts subs 0 w e) (λ is. moves_element_at u w (head e a) is))
    balanced (Field class k a) u w e = balanced_bind (balanced_bind (balanced_value w (balanced a for_value w e)) (λ v. balanced_keeps (keeps_record_in w v))) (λ r. balanced_keeps (keeps_field u w class k r))
    balanced (Part m k a start) for_value w e = balanced_bind (balanced_bind (balanced_value w (balanced a for_value w e)) (λ v. balanced_keeps (keeps_string_in w v))) (λ s. balanced_bind (balanced_holding w (balanced_integer w (balanced start for_value w e))) (λ j. balanced_keeps (keeps_string_answer w (part s j k))))
    balanced (Part m k a start) for_place w e = balanced_bind (balanced_spot w (balanced a for_place w e)) (λ spot. balanced_bind (balanced_holding w (balanced_integer w (balanced start for_value w e))) (λ j. balanced_keeps (keeps_within w m k spot j)))
    balanced (Record class types values) u w e = balanced_only u w (balanced_moves (moves_bind (moves_fields values 0 w types e) (λ vs. moves_bind (moves_balanced (0 + length vs) 0 (balanced_keeps (keeps_make_record w class vs))) (λ r. moves_then (moves_back 0 0 (length vs)) (moves_balanced 0 0 (balanced_keeps (keeps_give r)))))))
    balanced (RecordAlone class k) u w e = balanced_only u w (balanced_keeps (keeps_make_record w class (replicate k None)))
    balanced (IfThen st t c a b) u w e = balanced_only u w (balanced_then (balanced_begin set st) (balanced_bind (balanced_truth (innermost w st) (balanced c for_value (innermost w st) e)) (λ truth. balanced_bind (balanced_test truth (balanced a for_value (innermost w st) e) (balanced b for_value (innermost w st) e)) (λ r. balanced_keeps (keeps_made_result (innermost w st) t r)))))
    balanced (Case st t c parts) u w e = balanced_only u w (balanced_then (balanced_begin set st) (balanced_bind (balanced_integer (innermost w st) (balanced c for_value (innermost w st) e)) (λ k. balanced_bind (balanced_case parts (innermost w st) (case_number k) e) (λ r. balanced_keeps (keeps_made_result (innermost w st) t r)))))
    balanced (Block st p ds is) u w e = balanced_only u w (balanced_then (balanced_begin set st) (balanced_block (innermost w st) p ds is e (λ k. env.go_decls set later ds (innermost w st) k.variables k.arrays e) (λ f. env.go_items set later is (innermost w st) f) (λ k. tails_decls ds (innermost w st) k.variables k.arrays e) (λ f. balanced_items is (innermost w st) f)))
    balanced (Call st compares p a given) u w e = balanced_only u w (balanced_then (balanced_begin set st) (balanced_invoked (innermost w st) compares p (head e a) given e (λ fs. env.go_actuals set later given (innermost w st) fs e) (λ fs bs. env.go_back set later given (innermost w st) fs bs e) (λ fs. moves_actuals given 0 (innermost w st) fs e) (λ fs bs. balanced_back given (innermost w st) fs bs e)))
    balanced (Assign st t a b) u w e = balanced_only u w (balanced_then (balanced_begin set st) (balanced_bind (balanced_spot (innermost w st) (balanced a for_place (innermost w st) e)) (λ k. balanced_holding (innermost w st) (balanced_bind (balanced_value (innermost w st) (balanced b for_value (innermost w st) e)) (λ v. balanced_keeps (keeps_then (keeps_assign (innermost w st) t k v) (keeps_give _)))))))
    balanced (WhileDo st c body) u w e = balanced_only u w (balanced_then (balanced_begin set (Some st)) (balanced_while st (balanced c for_value st e) c body e))
    balanced (ForStep st x a b c body) u w e = balanced_only u w (balanced_then (balanced_begin set (Some st)) (balanced_moves (moves_bind (moves_balanced 0 0 (balanced_integer st (balanced a for_value st e))) (λ i. moves_then (moves_take 0 0 1 st) (moves_bind (moves_balanced 1 0 (balanced_integer st (balanced b for_value st e))) (λ j. moves_then (moves_take 1 0 1 st) (moves_bind (moves_balanced 2 0 (balanced_integer st (balanced c for_value st e))) (λ k. moves_then (moves_take 2 0 1 st) (moves_then (moves_balanced 3 0 (balanced_test (int_eq j (pos 0)) (balanced_keeps (keeps_fault fault.StepZero st)) (balanced_steps st x i j k body e))) (moves_then (moves_back 0 0 3) (moves_balanced 0 0 (balanced_keeps (keeps_give _)))))))))))))
    balanced (ForList st x values body) u w e = balanced_only u w (balanced_then (balanced_begin set (Some st)) (balanced_then (balanced_list values st x body e) (balanced_keeps (keeps_give _))))
    balanced (Goto st a) u w e = balanced_goto st (head e a)
    balanced (Assert st c) u w e = balanced_only u w (balanced_then (balanced_begin set (Some st)) (balanced_bind (balanced_truth st (balanced c for_value st e)) (λ truth. balanced_keeps (keeps_test truth (keeps_give _) (keeps_fault fault.AssertionFalse st)))))
    balanced (Write st first roles values) u w e = balanced_only u w (balanced_then (balanced_begin set (Some st)) (balanced_then (balanced_writes values st first none_set roles e) (balanced_keeps (keeps_give _))))
    balanced (Read st next targets) u w e = balanced_only u w (balanced_then (balanced_begin set (Some st)) (balanced_then (balanced_reads targets st next e) (balanced_keeps (keeps_give _))))
    balanced (ReadCard st targets) u w e = balanced_only u w (balanced_then (balanced_begin set (Some st)) (balanced_then (balanced_cards targets st e) (balanced_keeps (keeps_give _))))
    balanced (IoControl st a) u w e = balanced_only u w (balanced_then (balanced_begin set (Some st)) (balanced_bind (balanced_integer st (balanced a for_value st e)) (λ k. balanced_keeps (keeps_then (keeps_io_control k) (keeps_give _)))))

    moves_subscripts : (ps : Phrases) (c : ℕ) (w : Place) (e : Env) → Moves c 0 (λ is. c + length is) 0 (env.go_subscripts set later ps w e)
    moves_subscripts no_phrases c w e = record { by = λ s b j p q. (omega (arith, p), q, refl) }
    moves_subscripts (phrase_and a rest) c w e = moves_bind (moves_balanced c 0 (balanced_integer w (balanced a for_value w e))) (λ k. moves_then (moves_take c 0 1 w) (moves_bind (moves_subscripts rest (c + 1) w e) (λ is. record { by = λ s b j p q. (omega (arith, p), q, refl) })))

    moves_fields : (ps : Phrases) (c : ℕ) (w : Place) (ts : List ValueType) (e : Env) → Moves c 0 (λ vs. c + length vs) 0 (env.go_fields set later ps w ts e)
    moves_fields no_phrases c w [] e = record { by = λ s b j p q. (omega (arith, p), q, refl) }
    moves_fields no_phrases c w (t ∷ ts) e = moves_wrong _ _ w
    moves_fields (phrase_and a rest) c w [] e = moves_wrong _ _ w
    moves_fields (phrase_and a rest) c w (t ∷ ts) e = moves_bind (moves_balanced c 0 (balanced_bind (balanced_value w (balanced a for_value w e)) (λ v. balanced_keeps (keeps_made w t v)))) (λ v. moves_then (moves_take c 0 1 w) (moves_bind (moves_fields rest (c + 1) w ts e) (λ vs. record { by = λ s b j p q. (omega (arith, p), q, refl) })))

    balanced_case : (ps : Phrases) (w : Place) (k : Option ℕ) (e : Env) → Balanced (env.go_case set later ps w k e)
    balanced_case no_phrases w None e = balanced_keeps (keeps_fault fault.CaseOutsideRange w)
    balanced_case (phrase_and a rest) w None e = balanced_keeps (keeps_fault fault.CaseOutsideRange w)
    balanced_case no_phrases w (Some k) e = balanced_keeps (keeps_fault fault.CaseOutsideRange w)
    balanced_case (phrase_and a rest) w (Some zero) e = balanced a for_value w e
    balanced_case (phrase_and a rest) w (Some (suc k)) e = balanced_case rest w (Some k) e

    balanced_list : (ps : Phrases) (w : Place) (x : Name) (body : Phrase) (e : Env) → Balanced (env.go_list set later ps w x body e)
    balanced_list no_phrases w x body e = balanced_keeps (keeps_give tt)
    balanced_list (phrase_and a rest) w x body e = balanced_bind (balanced_integer w (balanced a for_value w e)) (λ k. balanced_then (balanced_holding w (balanced_tick set w (record { by = λ s. hl (env.list_job w x k body e) s tt }))) (balanced_list rest w x body e))

    balanced_writes : (ps : Phrases) (w : Place) (first : Bool) (ws : WidthsSet) (roles : List Role) (e : Env) → Balanced (env.go_writes set later ps w first ws roles e)
    balanced_writes no_phrases w first ws roles e = balanced_keeps (keeps_give tt)
    balanced_writes (phrase_and a rest) w first ws [] e = balanced_keeps (keeps_wrong w)
    balanced_writes (phrase_and a rest) w first ws (placed ∷ roles) e = balanced_bind (balanced_value w (balanced a for_value w e)) (λ v. balanced_then (balanced_keeps (keeps_written set w first ws v)) (balanced_writes rest w false ws roles e))
    balanced_writes (phrase_and a rest) w first ws (sets k ∷ roles) e = balanced_bind (balanced_integer w (balanced a for_value w e)) (λ n. balanced_writes rest w first (with_width k n ws) roles e)

    balanced_reads : (ps : Targets) (w : Place) (next : Bool) (e : Env) → Balanced (env.go_reads set later ps w next e)
    balanced_reads no_targets w next e = balanced_keeps (keeps_give tt)
    balanced_reads (target_and t a rest) w next e = balanced_bind (balanced_spot w (balanced a for_place w e)) (λ k. balanced_bind (balanced_keeps (keeps_scan set w next (read_type t))) (λ v. balanced_then (balanced_keeps (keeps_assign w t k v)) (balanced_reads rest w false e)))

    balanced_cards : (ps : Targets) (w : Place) (e : Env) → Balanced (env.go_cards set later ps w e)
    balanced_cards no_targets w e = balanced_keeps (keeps_give tt)
    balanced_cards (target_and t a rest) w e = balanced_bind (balanced_spot w (balanced a for_place w e)) (λ k. balanced_bind (balanced_keeps (keeps_take_card set w)) (λ v. balanced_then (balanced_keeps (keeps_assign w t k v)) (balanced_cards rest w e)))

    balanced_items : (is : Items) (w : Place) (e : Env) → Balanced (env.go_items set later is w e)
    balanced_items no_items w e = balanced_keeps (keeps_give _)
    balanced_items (item_and labels a no_items) w e = balanced a for_value w e
    balanced_items (item_and labels a (item_and labels' b rest)) w e = balanced_then (balanced a for_value w e) (balanced_items (item_and labels' b rest) w e)

    moves_bounds : (bs : Bounds) (c : ℕ) (w : Place) (e : Env) → Moves c 0 (λ ps. c + 2 * length ps) 0 (env.go_bounds set later bs w e)
    moves_bounds no_bounds c w e = record { by = λ s b j p q. (omega (arith, p), q, refl) }
    moves_bounds (bound_and a b rest) c w e = moves_bind (moves_balanced c 0 (balanced_integer w (balanced a for_value w e))) (λ i. moves_then (moves_take c 0 1 w) (moves_bind (moves_balanced (c + 1) 0 (balanced_integer w (balanced b for_value w e))) (λ j. moves_then (moves_take (c + 1) 0 1 w) (moves_bind (moves_bounds rest (c + 1 + 1) w e) (λ ps. record { by = λ s b j p q. (omega (arith, p), q, refl) })))))

    tails_decls : (ds : Decls) (w : Place) (v k : ℕ) (e : Env) → Tails (env.go_decls set later ds w v k e)
    tails_decls no_decls w v k e = tails_balanced (balanced_keeps (keeps_give tt))
    tails_decls (variables_and names rest) w v k e = tails_then (tails_variables w v names) (tails_decls rest w (v + length names) k e)
    tails_decls (arrays_and t names pairs rest) w v k e = tails_bind (tails_moves (moves_bounds pairs 0 w e)) (λ bs. tails_then (tails_back (2 * length bs)) (tails_then (tails_arrays w k t names bs) (tails_decls rest w v (k + length names) e)))
    tails_decls (procedure_and x result formals body rest) w v k e = tails_decls rest w v k e

    moves_stars : (ps : Subscripts) (c : ℕ) (w : Place) (e : Env) → Moves c 0 (λ is. c + cells_of is) 0 (env.go_stars set later ps w e)
    moves_stars no_subscripts c w e = record { by = λ s b j p q. (omega (arith, p), q, refl) }
    moves_stars (star_and rest) c w e = moves_bind (moves_stars rest c w e) (λ is. record { by = λ s b j p q. (p, q, refl) })
    moves_stars (subscript_and a rest) c w e = moves_bind (moves_balanced c 0 (balanced_integer w (balanced a for_value w e))) (λ k. moves_then (moves_take c 0 1 w) (moves_bind (moves_stars rest (c + 1) w e) (λ is. record { by = λ s b j p q. (omega (arith, p), q, refl) })))

    balanced_actual : (a : Actual) (w : Place) (f : FormalType) (e : Env) → Balanced (env.go_actual set later a w f e)
    balanced_actual (Given v g first a) w f e = balanced_phrase_ready f w v g first a e (balanced a for_value w e)
    balanced_actual (Alone p a) w f e = balanced_name_ready f w p a e (balanced_invoked w true p (head e a) no_actuals e (λ fs. env.no_formals w fs) (λ fs bs. give tt) (λ fs. moves_no_formals w fs) (λ fs bs. balanced_keeps (keeps_give tt)))
    balanced_actual (Subarray a subs) w f e = balanced_for_an_array w f (balanced_moves (moves_bind (moves_stars subs 0 w e) (λ is. moves_subarray_at w (head e a) is)))

    moves_actuals : (ps : Actuals) (c : ℕ) (w : Place) (fs : List Formal) (e : Env) → Moves c 0 (λ rs. c + length fs) 0 (env.go_actuals set later ps w fs e)
    moves_actuals no_actuals c w [] e = record { by = λ s b j p q. (omega (arith, p), q, refl) }
    moves_actuals no_actuals c w (f ∷ fs) e = moves_wrong _ _ w
    moves_actuals (actual_and a rest) c w [] e = moves_wrong _ _ w
    moves_actuals (actual_and a rest) c w (f ∷ fs) e = moves_bind (moves_balanced c 0 (balanced_actual a w f.is e)) (λ r. moves_then (moves_take c 0 1 w) (moves_bind (moves_actuals rest (c + 1) w fs e) (λ rs. record { by = λ s b j p q. (omega (arith, p), q, refl) })))

    balanced_back : (ps : Actuals) (w : Place) (fs : List Formal) (bs : List Meant) (e : Env) → Balanced (env.go_back set later ps w fs bs e)
    balanced_back no_actuals w [] [] e = balanced_keeps (keeps_give tt)
    balanced_back no_actuals w [] (b ∷ bs) e = balanced_keeps (keeps_wrong w)
    balanced_back no_actuals w (f ∷ fs) bs e = balanced_keeps (keeps_wrong w)
    balanced_back (actual_and (Given v g first a) rest) w [] bs e = balanced_keeps (keeps_wrong w)
    balanced_back (actual_and (Alone p a) rest) w [] bs e = balanced_keeps (keeps_wrong w)
    balanced_back (actual_and (Subarray a subs) rest) w [] bs e = balanced_keeps (keeps_wrong w)
    balanced_back (actual_and (Given v g first a) rest) w (f ∷ fs) [] e = balanced_keeps (keeps_wrong w)
    balanced_back (actual_and (Alone p a) rest) w (f ∷ fs) [] e = balanced_keeps (keeps_wrong w)
    balanced_back (actual_and (Subarray a subs) rest) w (f ∷ fs) [] e = balanced_keeps (keeps_wrong w)
    balanced_back (actual_and (Given v g first a) rest) w (f ∷ fs) (b ∷ bs) e = balanced_then (balanced_assigned_back f.is w g b.by (balanced a for_place w e)) (balanced_back rest w fs bs e)
    balanced_back (actual_and (Alone p a) rest) w (f ∷ fs) (b ∷ bs) e = balanced_back rest w fs bs e
    balanced_back (actual_and (Subarray a subs) rest) w (f ∷ fs) (b ∷ bs) e = balanced_back rest w fs bs e

  balanced_does : (job : env.Job) (s : State Bodied) → MayBegin job s → IsBalanced s (env.does set later job s)
  balanced_does (env.phrase_job u w a e) s p = (balanced a u w e).by s
  balanced_does (env.while_job w c body e) s p = (balanced_then (balanced body for_value w e) (balanced_while w (balanced c for_value w e) c body e)).by s
  balanced_does (env.step_job w x i j k body e) s p = (balanced_then (balanced_under (in_turn w (shown x (a_number i))) (balanced body for_value w (env.at_control x i e))) (balanced_steps w x (i +ℤ j) j k body e)).by s
  balanced_does (env.list_job w x i body e) s p = (balanced_under (in_turn w (shown x (a_number i))) (balanced body for_value w (env.at_control x i e))).by s
  balanced_does (env.items_job b w is e k) s p = resumed_at s b (λ j. later (env.items_job b w is e j)) p (λ j t q. hl (env.items_job b w is e j) t q) (env.go_items set later (from k is) w e s) ((balanced_items (from k is) w e).by s)

pub balanced_run : (set : Setting) (n : ℕ) (job : env.Job) (s : State Bodied) → MayBegin job s → IsBalanced s (env.run set n job s)
balanced_run set zero job s p = tt
balanced_run set (suc n) job s p = balanced_does set (env.run set n) (balanced_run set n) job s p
