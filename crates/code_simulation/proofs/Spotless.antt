-- What is done for its value gives no place.
use Rattle.std.proofs.Common.{ℕ, zero, suc, ◌+◌, ℤ, pos, ◌+ℤ◌, List, [], ◌∷◌, length, map, Option, Some, None}
use Rattle.std.specs.Prelude.{slice_get, nat_lt, nat_le, ◌&&◌, ◌++◌, Bool, true, false, replicate}
use Rattle.value_ops.specs.declared.values.Value.TheVariants as value
use Rattle.value_ops.specs.declared.faults.Limit.TheVariants as limit
use Rattle.std.specs.Ordering.{int_eq}
use Rattle.value_ops.specs.declared.places.Place.{Place}
use Rattle.value_ops.specs.declared.faults.Fault.TheVariants as fault
use Rattle.value_ops.specs.declared.values.Value.{Value}
use Rattle.value_ops.specs.declared.values.RecordId.{RecordId}
use Rattle.value_ops.specs.Strings.{part}
use Rattle.algolw_typing.specs.Types.{ValueType}
use Rattle.program_meaning.specs.Phrases.{Phrase, Empty, Constant, Named, Variable, Array, Label, Procedure, Copied, Unary, Binary, Relation, IsClass, Element, Field, Part, Record, RecordAlone, IfThen, Case, Block, Call, Assign, WhileDo, ForStep, ForList, Goto, Assert, Write, Read, ReadCard, IoControl, Phrases, no_phrases, phrase_and, Items, no_items, item_and, Decls, Name, Mark, Actuals, label_places}
use Rattle.program_meaning.specs.Operations.{Answer, gives, faults, misfits, unary, binary, relation}
use Rattle.program_meaning.specs.State as state
use Rattle.program_meaning.specs.State.{State, Setting, Outcome, on, jump, stop, M, Use, for_value, for_place, after, Made, back_to, is_own, caught, innermost, answer_at, string_answer, made_result}
use Rattle.program_meaning.specs.Copying.{Firsts, case_number, from, has_turn, assigned}
use Rattle.program_meaning.specs.Environments.{Env, find, Thing, to_constant, to_variable, to_array, to_label, to_procedure, thunk, Bodied, Job, phrase_job, while_job, step_job, list_job, items_job, go, go_case, go_items, go_subscripts, named, copied, invoked, called, body_done, element_at, while_turns, step_turns, block, with_numbers, head, does, run, Meant, extend}
use Rattle.code_simulation.proofs.Rows.{OnAll}
use Rattle.code_simulation.proofs.Blocks.{NoSpot}

abbrev pub Clean : Outcome Bodied state.Given → Type 0
Clean r = OnAll NoSpot r

clean_after : {A : Type 0} (r : Outcome Bodied A) (f : A → M Bodied state.Given) → ((a : A) (s : State Bodied) → Clean (f a s)) → Clean (after r f)
clean_after (on a s) f h = h a s
clean_after (jump l s) f h = tt
clean_after (stop y w s) f h = tt

pub clean_then : (r : Outcome Bodied state.Given) (f : state.Given → M Bodied state.Given) → Clean r → ((a : state.Given) (s : State Bodied) → NoSpot a → Clean (f a s)) → Clean (after r f)
clean_then (on a s) f p h = h a s p
clean_then (jump l s) f p h = tt
clean_then (stop y w s) f p h = tt

clean_test : (b : Bool) (x y : Outcome Bodied state.Given) → Clean x → Clean y → Clean (elim b [ true ↦ x | false ↦ y ])
clean_test true x y p q = p
clean_test false x y p q = q

clean_answer : (w : Place) (a : Answer) (s : State Bodied) → Clean (answer_at w a s)
clean_answer w (gives v) s = tt
clean_answer w (faults f) s = tt
clean_answer w misfits s = tt

pub clean_made : (w : Place) (t : Option ValueType) (r : state.Given) (s : State Bodied) → NoSpot r → Clean (made_result w t r s)
clean_made w None r s p = p
clean_made w (Some t) state.nothing s p = tt
clean_made w (Some t) (state.a_spot k) s p = p
clean_made w (Some t) (state.a_value v) s p = clean_after (state.made w t v s) (λ u. state.give (state.a_value u)) (λ u s'. tt)

clean_variable : (w : Place) (k : ℕ) (s : State Bodied) → Clean (state.variable for_value w k s)
clean_variable w k s = clean_after (state.look w k s) (λ v. state.give (state.a_value v)) (λ v s'. tt)

clean_under : (e : state.Entry) (m : M Bodied state.Given) (s : State Bodied) → ((s' : State Bodied) → Clean (m s')) → Clean (state.under e m s)
clean_under e m s h = clean_then (m (record s { active = e ∷ s.active })) (λ a. state.◌>>◌ state.pop_entry (state.give a)) (h _) (λ a s' p. p)

clean_entered : (w : Place) (e : state.Entry) (m : M Bodied state.Given) (s : State Bodied) → ((s' : State Bodied) → Clean (m s')) → Clean (state.entered w e m s)
clean_entered w e m s h = clean_after (state.deeper w s) (λ z. state.◌>>=◌ (state.under e m) (λ a. state.◌>>◌ state.shallower (state.give a))) (λ z s1. clean_then (state.under e m s1) (λ a. state.◌>>◌ state.shallower (state.give a)) (clean_under e m s1 h) (λ a s' p. p))

pub clean_caught : (made : Made) (resume : ℕ → M Bodied state.Given) (r : Outcome Bodied state.Given) → Clean r → ((j : ℕ) (s : State Bodied) → Clean (resume j s)) → Clean (caught made resume r)
clean_caught made resume (on a s) p h = p
clean_caught made resume (jump l s) p h = clean_test (is_own made l) (resume (Rattle.std.specs.Prelude.◌-◌ l made.first) (back_to made s)) (jump l s) (h _ _) tt
clean_caught made resume (stop y w s) p h = tt

-- all jobs but those for a place
abbrev pub IsClean : Job → Outcome Bodied state.Given → Type 0
IsClean (phrase_job for_place w a e) r = Unit {0}
IsClean job r = Clean r

module _ (set : Setting) (later : Job → M Bodied state.Given) (hl : (job : Job) (s : State Bodied) → IsClean job (later job s)) where
  clean_copied : (w : Place) (m : Mark) (a : Phrase) (e : Env) (s : State Bodied) → Clean (copied set later for_value w m a e s)
  clean_copied w m a e s = clean_after (state.tick set w s) (λ z. state.◌>>=◌ (state.entered w (state.in_actual m.first) (later (phrase_job for_value m.statement a e))) (made_result w m.type))
      (λ z s1. clean_then (state.entered w (state.in_actual m.first) (later (phrase_job for_value m.statement a e)) s1) (made_result w m.type) (clean_entered w (state.in_actual m.first) (later (phrase_job for_value m.statement a e)) s1 (λ s'. hl (phrase_job for_value m.statement a e) s')) (λ r s' p. clean_made w m.type r s' p))

  clean_named : (w : Place) (o : Option Thing) (s : State Bodied) → Clean (named set later for_value w o s)
  clean_named w None s = tt
  clean_named w (Some (to_constant v)) s = tt
  clean_named w (Some (to_variable k)) s = clean_variable w k s
  clean_named w (Some (thunk m a e)) s = clean_copied w m a e s
  clean_named w (Some (to_array k given)) s = tt
  clean_named w (Some (to_label k)) s = tt
  clean_named w (Some (to_procedure k)) s = tt

  clean_called : (w p : Place) (b : Bodied) (ready : M Bodied (List Rattle.program_meaning.specs.Environments.Ready)) (back : List Rattle.program_meaning.specs.Environments.Meant → M Bodied (Unit {0})) (s : State Bodied) → Clean (called set later w p b ready back s)
  clean_called w p b ready back s =
      clean_after (ready s) _ (λ rs s1. clean_after (state.tick set w s1) _ (λ z s2. clean_after (state.deeper w s2) _ (λ z s3. clean_after (Rattle.program_meaning.specs.Environments.bound w b.formals rs s3) _ (λ bs s4.
      clean_then (state.under (state.in_call b.name p bs.names) (body_done set later b back bs) s4) _ (clean_under (state.in_call b.name p bs.names) (body_done set later b back bs) s4 (λ s5.
      clean_then (after (later (phrase_job for_value b.statement b.body (Rattle.program_meaning.specs.Environments.extend bs.puts b.env)) s5) (made_result b.statement b.result)) _
      (clean_then (later (phrase_job for_value b.statement b.body (Rattle.program_meaning.specs.Environments.extend bs.puts b.env)) s5) (made_result b.statement b.result) (hl (phrase_job for_value b.statement b.body (Rattle.program_meaning.specs.Environments.extend bs.puts b.env)) s5) (λ r s6 q. clean_made b.statement b.result r s6 q))
      (λ r s6 q. clean_after (Rattle.program_meaning.specs.Copying.value_held b.result b.statement (back bs.puts) s6) (λ z. state.give r) (λ z s7. q)))) (λ r s5 q. q)))))

  clean_invoked : (w : Place) (compares : Bool) (p : Place) (o : Option Thing) (given : Actuals) (e : Env) (ready : List Rattle.program_meaning.specs.Phrases.Formal → M Bodied (List Rattle.program_meaning.specs.Environments.Ready)) (back : List Rattle.program_meaning.specs.Phrases.Formal → List Rattle.program_meaning.specs.Environments.Meant → M Bodied (Unit {0})) (s : State Bodied) → Clean (invoked set later w compares p o given e ready back s)
  clean_invoked w compares p None given e ready back s = tt
  clean_invoked w compares p (Some (to_constant v)) given e ready back s = tt
  clean_invoked w compares p (Some (to_variable v)) given e ready back s = tt
  clean_invoked w compares p (Some (to_array v i)) given e ready back s = tt
  clean_invoked w compares p (Some (to_label v)) given e ready back s = tt
  clean_invoked w compares p (Some (to_procedure k)) given e ready back s = clean_after (Rattle.program_meaning.specs.Environments.the_procedure w k s) _ (λ b s1. clean_after (Rattle.program_meaning.specs.Environments.compared w compares e b.formals given s1) _ (λ z s2. clean_called w p b (ready b.formals) (back b.formals) s2))
  clean_invoked w compares p (Some (thunk m a f)) given e ready back s = clean_after (Rattle.program_meaning.specs.Copying.no_actuals_given w given s) (λ z. copied set later for_value w m a f) (λ z s1. clean_copied w m a f s1)

  clean_element : (w : Place) (o : Option Thing) (is : List ℤ) (s : State Bodied) → Clean (element_at set later for_value w o is s)
  clean_element w (Some (to_array k given)) is s =
      clean_then (state.element_of for_value w k (state.filled_in given (map (λ i. Some i) is)) s) _ (clean_after (state.the_array w k s) _ (λ a s1. clean_test (state.all_within a.bounds (state.filled_in given (map (λ i. Some i) is))) _ _ (clean_test (nat_lt (state.offset a.bounds (state.filled_in given (map (λ i. Some i) is))) (state.elements a.bounds)) _ _ (clean_variable w (a.first + state.offset a.bounds (state.filled_in given (map (λ i. Some i) is))) s1) tt) tt)) (λ r s1 q. q)
  clean_element w None is s = tt
  clean_element w (Some (to_constant v)) is s = tt
  clean_element w (Some (to_variable v)) is s = tt
  clean_element w (Some (to_label v)) is s = tt
  clean_element w (Some (to_procedure v)) is s = tt
  clean_element w (Some (thunk m a e)) is s = tt

  clean_field : (w class : Place) (position : ℕ) (r : Option RecordId) (s : State Bodied) → Clean (state.field_of for_value w class position r s)
  clean_field w class position None s = tt
  clean_field w class position (Some r) s = clean_after (state.the_record w r s) _ (λ info s1. clean_test (state.is_place_of class info) _ _ (clean_test (nat_lt position info.count) _ _ (clean_variable w (info.first + position) s1) tt) tt)

  clean_class : (w class : Place) (r : Option RecordId) (s : State Bodied) → Clean (state.is_of_class w class r s)
  clean_class w class None s = tt
  clean_class w class (Some r) s = clean_after (state.the_record w r s) _ (λ info s1. tt)

  clean_string : (w : Place) (r : Rattle.std.specs.Prelude.Result (List ℕ) Rattle.value_ops.specs.declared.faults.Fault.Fault) (s : State Bodied) → Clean (string_answer w r s)
  clean_string w (Rattle.std.specs.Prelude.Ok x) s = tt
  clean_string w (Rattle.std.specs.Prelude.Err f) s = tt

  clean_record : (w : Place) (class : Name) (vs : List (Option Value)) (s : State Bodied) → Clean (state.make_record w class vs s)
  clean_record w class vs s = by (◌&&◌ (nat_lt (length s.records) state.most_records) (nat_le (s.fields + length vs) state.most_fields))
    where
      made : State Bodied
      made = record s { records = s.records ++ record { class = class; first = length s.memory; count = length vs } ∷ []; memory = s.memory ++ vs; fields = s.fields + length vs }

      by : (b : Bool) → Clean (elim b [ true ↦ on (state.a_value (value.Reference (Some (record { 0 = length s.records })))) made | false ↦ stop (state.by_limit limit.Records) w s ])
      by true = tt
      by false = tt

  clean_assigned : (st : Option Place) (v : Value) → NoSpot (assigned st v)
  clean_assigned None v = tt
  clean_assigned (Some st) v = tt

  clean_while : (w : Place) (m : M Bodied state.Given) (c body : Phrase) (e : Env) (s : State Bodied) → Clean (while_turns set later w m c body e s)
  clean_while w m c body e s = clean_after (state.truth_of w m s) _ (λ b s1. clean_test b _ _ (clean_after (state.tick set w s1) _ (λ z s2. hl (while_job w c body e) s2)) tt)

  clean_step : (w : Place) (x : Name) (i j k : ℤ) (body : Phrase) (e : Env) (s : State Bodied) → Clean (step_turns set later w x i j k body e s)
  clean_step w x i j k body e s = clean_test (has_turn i j k) _ _ (clean_after (state.tick set w s) _ (λ z s2. hl (step_job w x i j k body e) s2)) tt

  clean_went : (w : Place) (o : Option Thing) (s : State Bodied) → Clean (Rattle.program_meaning.specs.Environments.went set later w o s)
  clean_went w None s = tt
  clean_went w (Some (to_constant v)) s = tt
  clean_went w (Some (to_variable v)) s = tt
  clean_went w (Some (to_array v i)) s = tt
  clean_went w (Some (to_label v)) s = tt
  clean_went w (Some (to_procedure v)) s = tt
  clean_went w (Some (thunk m a f)) s = tt

  clean_numbers : (w : Place) (decls : Decls) (items : Items) (e : Env) (declared : Firsts → M Bodied (Unit {0})) (done : Env → M Bodied state.Given) (n : Firsts) (bs : List Meant) (s : State Bodied) → ((f : Env) (s' : State Bodied) → Clean (done f s')) → Clean (with_numbers set later w decls items e declared done n bs s)
  clean_numbers w decls items e declared done n bs s h =
      clean_after (Rattle.program_meaning.specs.Environments.opened w (extend bs e) decls items s) (λ z. state.◌>>◌ (declared n) (state.◌>>=◌ (state.made_here n.labels (length (label_places items))) (λ b. state.catching b (λ k. later (items_job b w items (extend bs e) k)) (done (extend bs e)))))
      (λ z s1. clean_after (declared n s1) (λ z. state.◌>>=◌ (state.made_here n.labels (length (label_places items))) (λ b. state.catching b (λ k. later (items_job b w items (extend bs e) k)) (done (extend bs e))))
      (λ z s2. clean_after (state.made_here n.labels (length (label_places items)) s2) (λ b. state.catching b (λ k. later (items_job b w items (extend bs e) k)) (done (extend bs e)))
      (λ b s3. clean_caught b (λ k. later (items_job b w items (extend bs e) k)) (done (extend bs e) s3) (h (extend bs e) s3) (λ j s4. hl (items_job b w items (extend bs e) j) s4))))

  clean_block : (w p : Place) (decls : Decls) (items : Items) (e : Env) (declared : Firsts → M Bodied (Unit {0})) (done : Env → M Bodied state.Given) (s : State Bodied) → ((f : Env) (s' : State Bodied) → Clean (done f s')) → Clean (block set later w p decls items e declared done s)
  clean_block w p decls items e declared done s h = clean_under (state.in_block p []) (state.◌>>=◌ state.cells_held (λ held. state.◌>>=◌ Rattle.program_meaning.specs.Copying.firsts (λ n. state.◌>>=◌ (state.◌>>=◌ (Rattle.program_meaning.specs.Environments.fresh decls items) (with_numbers set later w decls items e declared done n)) (λ r. state.◌>>◌ (state.set_cells held) (state.give r))))) s
      (λ s1. clean_after (state.cells_held s1) (λ held. state.◌>>=◌ Rattle.program_meaning.specs.Copying.firsts (λ n. state.◌>>=◌ (state.◌>>=◌ (Rattle.program_meaning.specs.Environments.fresh decls items) (with_numbers set later w decls items e declared done n)) (λ r. state.◌>>◌ (state.set_cells held) (state.give r))))
      (λ held s2. clean_after (Rattle.program_meaning.specs.Copying.firsts s2) (λ n. state.◌>>=◌ (state.◌>>=◌ (Rattle.program_meaning.specs.Environments.fresh decls items) (with_numbers set later w decls items e declared done n)) (λ r. state.◌>>◌ (state.set_cells held) (state.give r)))
      (λ n s3. clean_then (state.◌>>=◌ (Rattle.program_meaning.specs.Environments.fresh decls items) (with_numbers set later w decls items e declared done n) s3) (λ r. state.◌>>◌ (state.set_cells held) (state.give r))
      (clean_after (Rattle.program_meaning.specs.Environments.fresh decls items s3) (with_numbers set later w decls items e declared done n) (λ bs s4. clean_numbers w decls items e declared done n bs s4 h)) (λ r s4 q. q))))

  mutual
    pub clean : (a : Phrase) (w : Place) (e : Env) (s : State Bodied) → Clean (go set later a for_value w e s)
    clean Empty w e s = tt
    clean (Constant v) w e s = tt
    clean (Named x) w e s = clean_named w (find e x) s
    clean (Variable k) w e s = clean_variable w k s
    clean (Array k given) w e s = tt
    clean (Label l) w e s = tt
    clean (Procedure k) w e s = tt
    clean (Copied m a) w e s = clean_copied w m a Rattle.program_meaning.specs.Environments.empty s
    clean (Unary op a) w e s = clean_after (state.value_of w (go set later a for_value w e) s) _ (λ v s1. clean_answer w (unary op v) s1)
    clean (Binary op a b) w e s = clean_after (state.value_of w (go set later a for_value w e) s) _ (λ v s1. clean_after (state.holding w (state.value_of w (go set later b for_value w e)) s1) _ (λ v' s2. clean_answer w (binary op v v') s2))
    clean (Relation op a b) w e s = clean_after (state.value_of w (go set later a for_value w e) s) _ (λ v s1. clean_after (state.holding w (state.value_of w (go set later b for_value w e)) s1) _ (λ v' s2. clean_answer w (relation op v v') s2))
    clean (IsClass a class) w e s = clean_after (after (state.value_of w (go set later a for_value w e) s) (state.record_in w)) _ (λ r s1. clean_class w class r s1)
    clean (Element a given) w e s = clean_after (go_subscripts set later given w e s) _ (λ is s1. clean_element w (head e a) is s1)
    clean (Field class position a) w e s = clean_after (after (state.value_of w (go set later a for_value w e) s) (state.record_in w)) _ (λ r s1. clean_field w class position r s1)
    clean (Part m n a start) w e s = clean_after (after (state.value_of w (go set later a for_value w e) s) (state.string_in w)) _ (λ x s1. clean_after (state.holding w (state.integer_of w (go set later start for_value w e)) s1) _ (λ i s2. clean_string w (part x i n) s2))
    clean (Record class types values) w e s = clean_after (Rattle.program_meaning.specs.Environments.go_fields set later values w types e s) _ (λ vs s1. clean_then (state.make_record w class vs s1) _ (clean_record w class vs s1) (λ r s2 q. q))
    clean (RecordAlone class n) w e s = clean_record w class (replicate n None) s
    clean (IfThen st t c a b) w e s = clean_after (state.begin set st s) _ (λ z s1. clean_after (state.truth_of (innermost w st) (go set later c for_value (innermost w st) e) s1) _ (λ truth s2. clean_then (state.test truth (go set later a for_value (innermost w st) e) (go set later b for_value (innermost w st) e) s2) _ (clean_test truth _ _ (clean a (innermost w st) e s2) (clean b (innermost w st) e s2)) (λ r s3 q. clean_made (innermost w st) t r s3 q)))
    clean (Case st t c parts) w e s = clean_after (state.begin set st s) _ (λ z s1. clean_after (state.integer_of (innermost w st) (go set later c for_value (innermost w st) e) s1) _ (λ i s2. clean_then (go_case set later parts (innermost w st) (case_number i) e s2) _ (clean_case parts (innermost w st) (case_number i) e s2) (λ r s3 q. clean_made (innermost w st) t r s3 q)))
    clean (Block st p decls items) w e s = clean_after (state.begin set st s) _ (λ z s1. clean_block (innermost w st) p decls items e (λ n. Rattle.program_meaning.specs.Environments.go_decls set later decls (innermost w st) n.variables n.arrays e) (λ f. go_items set later items (innermost w st) f) s1 (λ f s2. clean_items items (innermost w st) f s2))
    clean (Call st compares p a given) w e s = clean_after (state.begin set st s) _ (λ z s1. clean_invoked (innermost w st) compares p (head e a) given e _ _ s1)
    clean (Assign st t a b) w e s = clean_after (state.begin set st s) _ (λ z s1. clean_after (state.spot_of (innermost w st) (go set later a for_place (innermost w st) e) s1) _ (λ k s2. clean_after (state.take_cells 1 (innermost w st) s2) _ (λ z s3. clean_then (state.◌>>=◌ (state.value_of (innermost w st) (go set later b for_value (innermost w st) e)) (λ v. state.◌>>◌ (state.assign (innermost w st) t k v) (state.give (assigned st v))) s3) (λ r. state.◌>>◌ (state.give_back 1) (state.give r)) (clean_after (state.value_of (innermost w st) (go set later b for_value (innermost w st) e) s3) (λ v. state.◌>>◌ (state.assign (innermost w st) t k v) (state.give (assigned st v))) (λ v s4. clean_after (state.assign (innermost w st) t k v s4) _ (λ z s5. clean_assigned st v))) (λ r s4 q. q))))
    clean (WhileDo st c body) w e s = clean_after (state.begin set (Some st) s) _ (λ z s1. clean_while st (go set later c for_value st e) c body e s1)
    clean (ForStep st x a b c body) w e s = clean_after (state.begin set (Some st) s) _ (λ z s1. clean_after (state.integer_of st (go set later a for_value st e) s1) _ (λ i s2. clean_after (state.take_cells 1 st s2) _ (λ z s3. clean_after (state.integer_of st (go set later b for_value st e) s3) _ (λ j s4. clean_after (state.take_cells 1 st s4) _ (λ z s5. clean_after (state.integer_of st (go set later c for_value st e) s5) _ (λ k s6. clean_after (state.take_cells 1 st s6) _ (λ z s7. clean_after (state.test (int_eq j (pos 0)) (state.fault_at fault.StepZero st) (step_turns set later st x i j k body e) s7) (λ z. state.◌>>◌ (state.give_back 3) (state.give state.nothing)) (λ z s8. tt))))))))
    clean (ForList st x values body) w e s = clean_after (state.begin set (Some st) s) _ (λ z s1. clean_after (Rattle.program_meaning.specs.Environments.go_list set later values st x body e s1) _ (λ z s2. tt))
    clean (Goto st a) w e s = clean_after (state.begin set (Some st) s) _ (λ z s1. clean_went st (head e a) s1)
    clean (Assert st c) w e s = clean_after (state.begin set (Some st) s) _ (λ z s1. clean_after (state.truth_of st (go set later c for_value st e) s1) _ (λ t s2. clean_test t _ _ tt tt))
    clean (Write st first roles values) w e s = clean_after (state.begin set (Some st) s) _ (λ z s1. clean_after (Rattle.program_meaning.specs.Environments.go_writes set later values st first Rattle.program_meaning.specs.Widths.none_set roles e s1) _ (λ z s2. tt))
    clean (Read st next targets) w e s = clean_after (state.begin set (Some st) s) _ (λ z s1. clean_after (Rattle.program_meaning.specs.Environments.go_reads set later targets st next e s1) _ (λ z s2. tt))
    clean (ReadCard st targets) w e s = clean_after (state.begin set (Some st) s) _ (λ z s1. clean_after (Rattle.program_meaning.specs.Environments.go_cards set later targets st e s1) _ (λ z s2. tt))
    clean (IoControl st a) w e s = clean_after (state.begin set (Some st) s) _ (λ z s1. clean_after (state.integer_of st (go set later a for_value st e) s1) _ (λ i s2. clean_after (Rattle.program_meaning.specs.Copying.io_control i s2) _ (λ z s3. tt)))

    pub clean_case : (parts : Phrases) (w : Place) (n : Option ℕ) (e : Env) (s : State Bodied) → Clean (go_case set later parts w n e s)
    clean_case no_phrases w None e s = tt
    clean_case (phrase_and a rest) w None e s = tt
    clean_case no_phrases w (Some n) e s = tt
    clean_case (phrase_and a rest) w (Some zero) e s = clean a w e s
    clean_case (phrase_and a rest) w (Some (suc n)) e s = clean_case rest w (Some n) e s

    pub clean_items : (items : Items) (w : Place) (e : Env) (s : State Bodied) → Clean (go_items set later items w e s)
    clean_items no_items w e s = tt
    clean_items (item_and labels a no_items) w e s = clean a w e s
    clean_items (item_and labels a (item_and labels' a' rest)) w e s = clean_after (go set later a for_value w e s) _ (λ r s1. clean_items (item_and labels' a' rest) w e s1)

  -- a job behind a step, whatever it is
  pub clean_job : (job : Job) (s : State Bodied) → IsClean job (does set later job s)
  clean_job (phrase_job for_place w a e) s = tt
  clean_job (phrase_job for_value w a e) s = clean a w e s
  clean_job (while_job w c body e) s = clean_after (go set later body for_value w e s) _ (λ r s1. clean_while w (go set later c for_value w e) c body e s1)
  clean_job (step_job w x i j k body e) s = clean_after (state.under (state.in_turn w (Rattle.program_meaning.specs.Copying.shown x (state.a_number i))) (go set later body for_value w (Rattle.program_meaning.specs.Environments.at_control x i e)) s) _ (λ r s1. clean_step w x (i +ℤ j) j k body e s1)
  clean_job (list_job w x i body e) s = clean_under (state.in_turn w (Rattle.program_meaning.specs.Copying.shown x (state.a_number i))) (go set later body for_value w (Rattle.program_meaning.specs.Environments.at_control x i e)) s (λ s1. clean body w (Rattle.program_meaning.specs.Environments.at_control x i e) s1)
  clean_job (items_job made w items e k) s = clean_caught made (λ j. later (items_job made w items e j)) (go_items set later (from k items) w e s) (clean_items (from k items) w e s) (λ j s1. hl (items_job made w items e j) s1)

pub runs_are_clean : (set : Setting) (n : ℕ) (job : Job) (s : State Bodied) → IsClean job (run set n job s)
runs_are_clean set zero (phrase_job for_place w a e) s = tt
runs_are_clean set zero (phrase_job for_value w a e) s = tt
runs_are_clean set zero (while_job w c body e) s = tt
runs_are_clean set zero (step_job w x i j k body e) s = tt
runs_are_clean set zero (list_job w x i body e) s = tt
runs_are_clean set zero (items_job made w items e k) s = tt
runs_are_clean set (suc n) job s = clean_job set (run set n) (runs_are_clean set n) job s
