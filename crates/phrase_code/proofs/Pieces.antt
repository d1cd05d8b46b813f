-- The pieces of code that hold no phrase are fit, and so are texts, actuals and calls round what they hold.
use Rattle.std.proofs.Common.{◌≡◌, ℕ, ◌+◌, ◌≤◌, List, [], ◌∷◌, length, Option, Some, None, refl, arith}
use Rattle.std.specs.Prelude.{Bool, false}
use Rattle.value_ops.specs.declared.places.Place.{Place}
use Rattle.algolw_typing.specs.Types.{ValueType, Gives, Statement, Simple}
use Rattle.algolw_typing.specs.Meanings.{FormalType, by_name, by_value, by_result, by_value_result, for_array, for_procedure}
use Rattle.program_meaning.specs.Phrases.{Phrases, no_phrases, phrase_and, Name}
use Rattle.program_meaning.specs.State.{for_value, for_place}
use Rattle.stack_code.specs.Instr as instr
use Rattle.stack_code.specs.Instr.{Mode, the_value, the_place, as_asked, Reading}
use Rattle.stack_code.specs.Code.{Coded}
use Rattle.stack_code.specs.GoingOn.{StandsReading, WellFormedAside}
use Rattle.phrase_code.specs.Sizes.{Kind, a_variable, an_array, a_name_formal, a_procedure_formal, a_procedure, a_label, Known, begin_size, make_size, result_size, named_size, goto_size, text_size, given_size, alone_size, back_size, size, jumps_size, parts_size}
use Rattle.phrase_code.specs.Coding.{◌▸◌, one, Stand, Context, inner_text, kind_of_stand, begin_code, make_code, result_code, named_by, named_code, element_code, goto_by, goto_code, phrase_count, declare_code, declare_arrays_code, subarray_code, hand_on_code, jumps_code, bare_call, text_code, given_code, alone_code, back_code, source_of, links}
use Rattle.phrase_code.proofs.Sizes.{length_code}
use Rattle.phrase_code.proofs.Parts.{Written, front, Part, none, then, to, within, knowing, single, plain, next, stuck, ahead, Headed, text_stands, fit_aside}
use Rattle.phrase_code.proofs.Targets.{Leads, FoundLeads, source_leads, name_reads}

module _ (program : List Coded) where
  -- ---- single instructions

  pub begin_part : {top k : ℕ} (st : Option Place) → k + begin_size st ≤ top → Part program top k (begin_code st) (k + begin_size st)
  begin_part None l = to (omega arith) none
  begin_part (Some st) l = next st instr.Begin refl (λ s. s) l

  pub make_part : {top k : ℕ} (w : Place) (t : Option ValueType) → k + make_size t ≤ top → Part program top k (make_code w t) (k + make_size t)
  make_part w None l = to (omega arith) none
  make_part w (Some t) l = next w (instr.Make t) refl (λ s. s) l

  pub result_part : {top k : ℕ} (w : Place) (t : Option ValueType) → k + result_size t ≤ top → Part program top k (result_code w t) (k + result_size t)
  result_part w None l = to (omega arith) none
  result_part w (Some t) l = to (omega arith) (then (next w (instr.Make t) refl (λ s. s) (omega (arith, l))) (next w instr.Reserve refl (λ s. s) (omega (arith, l))))

  use_part : (c : Context) (w : Place) (u : Mode) (k : ℕ) (s : Stand) → Part program (k + 2) k (one w (instr.UseFormal u (links c s) s.position) ▸ one w instr.End) (k + 2)
  use_part c w u k s = to (omega arith) (then (next w _ refl (λ s. s) (omega arith)) (next w instr.End refl (λ s. s) (omega arith)))

  kind_part : (c : Context) (w : Place) (u : Mode) (k : ℕ) (kind : Kind) (s : Stand) → Part program (k + named_size (Some kind)) k (named_by c w u kind s) (k + named_size (Some kind))
  kind_part c w u k a_variable s = next w (instr.Variable u (links c s) s.position) refl (λ s. s) (omega arith)
  kind_part c w u k an_array s = stuck w
  kind_part c w u k a_name_formal s = use_part c w u k s
  kind_part c w u k a_procedure_formal s = use_part c w u k s
  kind_part c w u k (a_procedure formals) s = stuck w
  kind_part c w u k a_label s = stuck w

  pub named_part : (c : Context) (w : Place) (u : Mode) (k : ℕ) (o : Option Stand) → Part program (k + named_size (kind_of_stand o)) k (named_code c w u o) (k + named_size (kind_of_stand o))
  named_part c w u k None = stuck w
  named_part c w u k (Some s) = kind_part c w u k s.kind s

  pub element_part : {top k : ℕ} (c : Context) (w : Place) (u : Mode) (n : ℕ) (o : Option Stand) → k + 1 ≤ top → Part program top k (element_code c w u n o) (k + 1)
  element_part c w u n None l = stuck w
  element_part c w u n (Some s) l = next w (instr.Element u (links c s) s.position n) refl (λ s. s) l

  no_goto : (k : ℕ) (st : Place) → Part program (k + 2) k (one st instr.Begin ▸ one st instr.Stuck) (k + 2)
  no_goto k st = to (omega arith) (then (next st instr.Begin refl (λ s. s) (omega arith)) (stuck st))

  goto_kind_part : (c : Context) (st : Place) (k : ℕ) (kind : Kind) (s : Stand) → Leads program kind s.target → Part program (k + goto_size (Some kind)) k (goto_by c st kind s) (k + goto_size (Some kind))
  goto_kind_part c st k a_variable s h = no_goto k st
  goto_kind_part c st k an_array s h = no_goto k st
  goto_kind_part c st k a_name_formal s h = no_goto k st
  goto_kind_part c st k a_procedure_formal s h = no_goto k st
  goto_kind_part c st k (a_procedure formals) s h = no_goto k st
  goto_kind_part c st k a_label s h = plain st (instr.Goto (links c s) s.position s.target) refl (λ t. h)

  pub goto_part : (c : Context) (st : Place) (k : ℕ) (o : Option Stand) → FoundLeads program o → Part program (k + goto_size (kind_of_stand o)) k (goto_code c st o) (k + goto_size (kind_of_stand o))
  goto_part c st k None h = no_goto k st
  goto_part c st k (Some s) h = goto_kind_part c st k s.kind s h

  pub declare_part : {top : ℕ} (w : Place) (k : ℕ) (xs : List Name) → k + length xs ≤ top → Part program top k (declare_code w xs) (k + length xs)
  declare_part w k [] l = to (omega arith) none
  declare_part w k (x ∷ xs) l = to (omega arith) (then (next w (instr.Declare x.text) refl (λ s. s) (omega (arith, l))) (declare_part w (k + 1) xs (omega (arith, l))))

  pub declare_arrays_part : {top : ℕ} (w : Place) (t : ValueType) (k : ℕ) (xs : List Name) → k + length xs ≤ top → Part program top k (declare_arrays_code w t xs) (k + length xs)
  declare_arrays_part w t k [] l = to (omega arith) none
  declare_arrays_part w t k (x ∷ xs) l = to (omega arith) (then (next w (instr.DeclareArray t x.text) refl (λ s. s) (omega (arith, l))) (declare_arrays_part w t (k + 1) xs (omega (arith, l))))

  pub subarray_part : {top k : ℕ} (c : Context) (w : Place) (stars : List Bool) (o : Option Stand) → k + 1 ≤ top → Part program top k (subarray_code c w stars o) (k + 1)
  subarray_part c w stars None l = stuck w
  subarray_part c w stars (Some s) l = next w (instr.Subarray (links c s) s.position stars) refl (λ s. s) l

  hand_on_part : {top k : ℕ} (c : Context) (w : Place) (o : Option Stand) → FoundLeads program o → k + 1 ≤ top → Part program top k (hand_on_code c w o) (k + 1)
  hand_on_part c w None h l = stuck w
  hand_on_part c w (Some s) h l = next w (instr.HandOn (source_of c s)) refl (λ t. (source_leads program c s h, t)) l

  pub jumps_part : {top : ℕ} (names : List Known) (w : Place) (j k : ℕ) (parts : Phrases) → j + jumps_size parts ≤ k → k + parts_size names parts ≤ top → Part program top j (jumps_code names w k parts) (j + jumps_size parts)
  jumps_part names w j k no_phrases l m = to (omega arith) none
  jumps_part names w j k (phrase_and a more) l m =
      to (omega arith) (then (plain w (instr.Jump k) refl (λ t. ahead (omega (arith, l)) (omega (arith, m)) t)) (jumps_part names w (j + 1) (k + (size names a + 1)) more (omega (arith, l)) (omega (arith, m))))

  pub as_many : (parts : Phrases) → phrase_count parts ≡ jumps_size parts
  as_many no_phrases = refl
  as_many (phrase_and a more) = let e = as_many more in omega (arith, e)

  -- ---- texts

  pub text_part : (w : Place) (k : ℕ) (first : Place) (r : Reading) (n : ℕ) (a : List Coded) → StandsReading program r → Part program (k + 1 + n) (k + 1) a (k + 1 + n) → Part program (k + text_size n) k (text_code w k first r n a) (k + text_size n)
  text_part w k first r n a reads p =
      to (omega arith) (then (single w (instr.Text (record { first = first; reading = r }) (k + text_size n)) (λ t. (ahead (omega arith) (omega arith) t, reads)) (λ behind q. let e : k + text_size n ≡ behind = cc q in omega (arith, e)))
      (then (within (omega arith) p) (plain w instr.Return refl (λ t. tt))))

  -- a text, and a copied actual of it
  thunk_part : (w : Place) (k n : ℕ) (a : List Coded) (t : Option ValueType) (v : Bool) → Part program (k + text_size n) k a (k + text_size n) → (Written program k a → Headed program k (k + text_size n)) →
      Part program (k + (text_size n + 2)) k (a ▸ one w (instr.MakeThunk k t v) ▸ one w instr.Push) (k + (text_size n + 2))
  thunk_part w k n a t v p headed = knowing (let e = length_code a (one w (instr.MakeThunk k t v) ▸ one w instr.Push) in let l = p.long in omega (arith, e, l))
      (λ top h. to (omega arith) (then (within (omega arith) p) (then (next w (instr.MakeThunk k t v) refl (λ s. (text_stands program k (k + text_size n) (headed (front program k a _ h)), s)) (omega arith)) (next w instr.Push refl (λ s. s) (omega arith)))))

  -- a text that is entered at once for its value, which is pushed
  aside_part : (w : Place) (k n : ℕ) (a : List Coded) (t : ValueType) → Part program (k + text_size n) k a (k + text_size n) → (Written program k a → Headed program k (k + text_size n)) →
      Part program (k + (text_size n + 3)) k (a ▸ one w (instr.Aside k for_value (Some t)) ▸ one w instr.End ▸ one w instr.Push) (k + (text_size n + 3))
  aside_part w k n a t p headed = knowing (let e = length_code a (one w (instr.Aside k for_value (Some t)) ▸ one w instr.End ▸ one w instr.Push) in let l = p.long in omega (arith, e, l))
      (λ top h. let f = front program k a _ h in let m = k + text_size n in
      to (omega arith) (then (within (omega arith) p) (then (next w (instr.Aside k for_value (Some t)) refl (λ s. (fit_aside program k m m (headed f) (omega arith) (p.piece (omega (arith, top)) f), s)) (omega arith))
      (then (next w instr.End refl (λ s. s) (omega arith)) (next w instr.Push refl (λ s. s) (omega arith))))))

  -- ---- actuals in line

  value_part : (w : Place) (k n : ℕ) (a : List Coded) (t : ValueType) → Part program (k + n) k a (k + n) → Part program (k + (n + 2)) k (a ▸ one w (instr.Make t) ▸ one w instr.Push) (k + (n + 2))
  value_part w k n a t p = to (omega arith) (then (within (omega arith) p) (then (next w (instr.Make t) refl (λ s. s) (omega arith)) (next w instr.Push refl (λ s. s) (omega arith))))

  -- one that is a phrase of size n
  pub given_part : (f : FormalType) (c : Context) (w : Place) (k : ℕ) (v : Bool) (g : Gives) (first : Place) (n : ℕ) (coded : Context → Mode → ℕ → List Coded) →
      ((u : Mode) (l : ℕ) → Part program (l + n) l (coded c u l) (l + n)) → ((u : Mode) (l : ℕ) → Part program (l + n) l (coded (inner_text c) u l) (l + n)) → Part program (k + given_size f n) k (given_code f c w k v g first n coded) (k + given_size f n)
  given_part (by_value t) c w k v g first n coded p q = value_part w k n (coded c the_value k) t (p the_value k)
  given_part (by_result t) c w k v g first n coded p q = next w instr.Reserve refl (λ s. s) (omega arith)
  given_part (by_value_result t) c w k v g first n coded p q = aside_part w k n _ t (text_part w k first _ n _ tt (q as_asked (k + 1))) (λ h. record { at = w; head = _; is = h.0 })
  given_part (by_name t) c w k v g first n coded p q = thunk_part w k n _ (Some t) _ (text_part w k first _ n _ tt (q as_asked (k + 1))) (λ h. record { at = w; head = _; is = h.0 })
  given_part (for_procedure result) c w k v g first n coded p q = thunk_part w k n _ result false (text_part w k first _ n _ tt (q as_asked (k + 1))) (λ h. record { at = w; head = _; is = h.0 })
  given_part (for_array t d) c w k v g first n coded p q = stuck w

  -- one that is a name alone, whose call has size n
  pub alone_part : (f : FormalType) (c : Context) (w : Place) (k : ℕ) (p : Place) (n : ℕ) (o : Option Stand) → FoundLeads program o →
      ((l : ℕ) → Part program (l + n) l (bare_call c w p l o) (l + n)) → ((l : ℕ) → Part program (l + n) l (bare_call (inner_text c) w p l o) (l + n)) → Part program (k + alone_size f n) k (alone_code f c w k p n o) (k + alone_size f n)
  alone_part (by_value t) c w k p n o h q r = value_part w k n (bare_call c w p k o) t (q k)
  alone_part (by_name t) c w k p n o h q r = thunk_part w k n _ (Some t) false (text_part w k p _ n _ (name_reads program c o h) (r (k + 1))) (λ g. record { at = w; head = _; is = g.0 })
  alone_part (for_procedure result) c w k p n o h q r = to (omega arith) (then (hand_on_part c w o h (omega arith)) (next w instr.Push refl (λ s. s) (omega arith)))
  alone_part (for_array t d) c w k p n o h q r = to (omega arith) (then (hand_on_part c w o h (omega arith)) (next w instr.Push refl (λ s. s) (omega arith)))
  alone_part (by_result t) c w k p n o h q r = stuck w
  alone_part (by_value_result t) c w k p n o h q r = stuck w

  -- where an actual by value result is assigned back its text is entered
  abbrev pub EntersBack : FormalType → (k kr : ℕ) → Type 0
  EntersBack (by_value_result t) k kr = WellFormedAside program k kr
  EntersBack f k kr = Unit {0}

  -- assigning back, where the text that is entered for its place stands in front
  pub back_part : (f : FormalType) (c : Context) (w : Place) (k i kr : ℕ) (g : Gives) (n : ℕ) (coded : Context → Mode → ℕ → List Coded) → ((u : Mode) (l : ℕ) → Part program (l + n) l (coded c u l) (l + n)) →
      EntersBack f k kr → Part program (k + back_size f g n) k (back_code f c w k i kr g coded) (k + back_size f g n)
  back_part (by_result t) c w k i kr (Simple u) n coded p a = to (omega arith) (then (within (omega arith) (p the_place k)) (next w (instr.AssignBack i u) refl (λ s. s) (omega arith)))
  back_part (by_result t) c w k i kr Statement n coded p a = to (omega arith) none
  back_part (by_value_result t) c w k i kr (Simple u) n coded p a =
      to (omega arith) (then (next w (instr.Aside kr for_place None) refl (λ s. (a, s)) (omega arith)) (then (next w instr.End refl (λ s. s) (omega arith)) (next w (instr.AssignBack i u) refl (λ s. s) (omega arith))))
  back_part (by_value_result t) c w k i kr Statement n coded p a = to (omega arith) none
  back_part (by_value t) c w k i kr g n coded p a = to (omega arith) none
  back_part (by_name t) c w k i kr g n coded p a = to (omega arith) none
  back_part (for_array t d) c w k i kr g n coded p a = to (omega arith) none
  back_part (for_procedure t) c w k i kr g n coded p a = to (omega arith) none
