-- Actuals in line, of a call of a declared procedure: each is pushed.
use Rattle.std.proofs.Common.{◌≡◌, ℕ, ◌+◌, ◌⊎◌, inl, inr, List, length, Option, Some, None, refl, sym, ap, ◌∙◌, subst, arith}
use Rattle.std.specs.Prelude.{Bool}
use Rattle.value_ops.specs.declared.places.Place.{Place}
use Rattle.value_ops.specs.declared.values.Value.{Value}
use Rattle.algolw_typing.specs.Types.{ValueType}
use Rattle.program_meaning.specs.Phrases.{Phrase, Named, Subscripts}
use Rattle.program_meaning.specs.State as state
use Rattle.program_meaning.specs.State.{State, Setting, by_limit, on, stop, M, for_value, after, ArrayInfo, most_cells}
use Rattle.program_meaning.specs.Copying as copying
use Rattle.program_meaning.specs.Environments.{Env, Bodied, Job, go, go_stars, find, head, Thing, to_constant, to_variable, to_array, to_label, to_procedure, thunk}
use Rattle.stack_code.specs.Instr as instr
use Rattle.stack_code.specs.Instr.{Instr, the_value, as_asked}
use Rattle.stack_code.specs.Code.{Code, Coded}
use Rattle.stack_code.specs.Machine as machine
use Rattle.stack_code.specs.Machine.{Machine, Content}
use Rattle.stack_code.specs.Doing as doing
use Rattle.stack_code.specs.Doing.{Next, Row, ended, halted, go_on, there, ◌>>◌}
use Rattle.stack_code.specs.Table.{does}
use Rattle.phrase_code.specs.Sizes.{size, subscripts_size}
use Rattle.phrase_code.specs.Coding.{Context, Stand, known, links, code, code_subscripts, stand_of, stand_at, one, ◌▸◌}
use Rattle.code_simulation.specs.Relation.{HasAt, Has, Base, Heap, mach, World, HasArray, Grew, At, Shows}
use Rattle.code_simulation.specs.Following.{Follows, Reached, PhraseFollows}
use Rattle.code_simulation.proofs.Stacks.{has_front, has_back}
use Rattle.code_simulation.proofs.Rows.{one_row, follows_from, follows_then, follows_on, grew_here}
use Rattle.code_simulation.proofs.Keeping.{pushed, with_cells}
use Rattle.code_simulation.proofs.Values.{follows_at}
use Rattle.code_simulation.proofs.Operators.{behind, at_reached, value_by}
use Rattle.program_meaning.specs.Environments.{Ready, with_value, without_value, put_for, value_ready, procedure_handed, array_handed, subarray_at}
use Rattle.stack_code.specs.Machine.{Thunk}
use Rattle.phrase_code.specs.Sizes.{text_size}
use Rattle.phrase_code.specs.Coding.{inner_text, text_code, hand_on_code, source_by, stars_of, subarray_code}
use Rattle.code_simulation.specs.Written.{IsWritten}
use Rattle.code_simulation.specs.Relation.{LiveProcedure, HasText, IsUnderWay}
use Rattle.code_simulation.proofs.Sizes.{code_sized, text_sized, hand_on_sized, subarray_sized, subscripts_sized}
use Rattle.code_simulation.proofs.Keeping.{Later, array_later, shows_later}
use Rattle.code_simulation.proofs.Making.{made_alike}
use Rattle.code_simulation.proofs.Storing.{alike_then}
use Rattle.code_simulation.proofs.Counting.{follows_assoc}
use Rattle.code_simulation.proofs.Names.{content_is, Found, found}
use Rattle.code_simulation.proofs.Scopes.{joined_code}
use Rattle.code_simulation.proofs.Subarrays.{ArrayReady, EachStar, subarray_follows}
use Rattle.phrase_code.specs.Marks.{marks, subscripts_marks}
use Rattle.code_simulation.specs.Room.{Fits}
use Rattle.code_simulation.proofs.Keeping.{as_few, under_way_later, runs_under_way}
use Rattle.code_simulation.proofs.Values.{push_below}
use Rattle.std.specs.Prelude.{◌<◌, ◌≤◌}
use Rattle.code_simulation.proofs.Counting.{push_within}

-- what is ready for a formal, as its cell holds it
abbrev pub ReadyAs : List Coded → World → Base → List (Option ArrayInfo) → Ready → Content → Type 0
ReadyAs program w b arrays (with_value v) (machine.a_value u) = v ≡ u
ReadyAs program w b arrays without_value machine.nothing = Unit {0}
ReadyAs program w b arrays (put_for (to_array k given)) (machine.an_array a free) = (given ≡ free) × HasArray b arrays k a
ReadyAs program w b arrays (put_for (to_procedure k)) (machine.a_procedure q) = (p : LiveProcedure) × Has p w.procedures × (k ≡ p.number) × (q ≡ record { head = p.head; link = p.link })
ReadyAs program w b arrays (put_for (thunk m a e)) (machine.a_thunk t) = (c : Context) × HasText program t m a c × Shows program w b arrays e c.names c.level t.link × (marks a ≤ w.marks) × IsUnderWay b.frames t.link
ReadyAs program w b arrays r x = ⊥

-- what is ready stays so on a later machine
pub ready_later : {w w' : World} {b b' : Base} {arrays arrays' : List (Option ArrayInfo)} (program : List Coded) → Later w b arrays w' b' arrays' → (r : Ready) (x : Content) → ReadyAs program w b arrays r x → ReadyAs program w' b' arrays' r x
ready_later program l (with_value v) (machine.a_value u) q = q
ready_later program l without_value machine.nothing q = tt
ready_later program l (put_for (to_array k given)) (machine.an_array a free) q = (q.0, array_later l k a q.1)
ready_later program l (put_for (to_procedure k)) (machine.a_procedure p) q = (q.0, l.procedures q.0 q.1, q.2, q.3)
ready_later program l (put_for (thunk m a e)) (machine.a_thunk t) q = (q.0, q.1, shows_later program l e (q.0).names (q.0).level t.link q.2, as_few l q.3, under_way_later l t.link q.4)
ready_later program l r x q = absurd q

module _ (set : Setting) (program : Code) (later : Job → M Bodied state.Given) where
  -- how it goes on behind an actual whose cell has been pushed, wherever it stands
  abbrev pub GoesOnReady : {A : Type 0} (R : A → Heap → State Bodied → Machine → Type 0) (w : World) (b : Base) (h : Heap) (s : State Bodied) (c : Context) (e : Env) (end : ℕ) (F : Ready → M Bodied A) → Type 0
  GoesOnReady R w b h s c e end F = (r : Ready) (x : Content) (h' : Heap) (s' : State Bodied) (held : Content) → ReadyAs program.instructions w b s'.arrays r x → Grew h s h' s' → s'.active ≡ s.active → At program.instructions w b h' s' c e → length b.slots < most_cells →
      Follows set program R w.targets h' (with_cells (s'.cells + 1) s') (mach (pushed x b) h' s' end held) (F r (with_cells (s'.cells + 1) s'))

  -- ---- one that is a phrase

  made_shape : (n : Next Value) → doing.after (doing.after (doing.after n (λ u. doing.give (machine.a_value u))) doing.hold) (λ z. go_on) ≡ doing.after n (λ u m. doing.after (doing.hold (machine.a_value u) m) (λ z. go_on))
  made_shape (doing.on y n) = refl
  made_shape (ended n) = refl
  made_shape (halted y n) = refl

  -- for a formal by VALUE
  pub value_actual : {A : Type 0} (R : A → Heap → State Bodied → Machine → Type 0) (t : ValueType) (a : Phrase) → PhraseFollows set program later a → (at : Place) (w : World) (b : Base) (h : Heap) (s : State Bodied) (c : Context) (e : Env) (k : ℕ) (held : Content) (F : Ready → M Bodied A) →
      HasAt program.instructions k (code c at the_value k a ▸ one at (instr.Make t) ▸ one at instr.Push) → At program.instructions w b h s c e → Fits program.marks w b (marks a) → GoesOnReady R w b h s c e (k + (size (known c) a + 2)) F →
      Follows set program R w.targets h s (mach b h s k held) (after (value_ready at t (go set later a for_value at e) s) (λ r. state.◌>>◌ (state.take_cells 1 at) (F r)))
  value_actual R t a p at w b h s c e k held F code l ft g =
      let k1 = k + size (known c) a in
      let V = state.value_of at (go set later a for_value at e) in
      let G : Value → M Bodied Ready = λ v. state.◌>>=◌ (state.made at t v) (λ u. state.give (with_value u)) in
      let K : Ready → M Bodied _ = λ r. state.◌>>◌ (state.take_cells 1 at) (F r) in
      let has1 = behind program.instructions c at the_value k a _ code in
      let ek : k1 + 1 + 1 ≡ k + (size (known c) a + 2) = omega arith in
      follows_assoc set program R w.targets h s (mach b h s k held) (V s) G K
      (follows_then set program (λ v. Reached b s.active k1 (machine.a_value v)) R w.targets h s (mach b h s k held) (V s) (λ v s1. after (G v s1) K)
      (value_by set program later a p at w b h s c e k held (has_front program.instructions k _ _ code) l ft)
      (λ v h1 s1 m1 r1 g1. let l1 = at_reached set program w b h s c e k1 (machine.a_value v) h1 s1 m1 l g1 r1 in
      let m0 = mach b h1 s1 k1 (machine.a_value v) in
      follows_at set program R w.targets h1 s1 m1 m0 (after (G v s1) K) r1.is
      (follows_assoc set program R w.targets h1 s1 m0 (state.made at t v s1) (λ u. state.give (with_value u)) K
      (alike_then set program R w.targets b h1 s1 k1 (machine.a_value v) m0 (record { at = at; does = instr.Make t }) (λ u m. doing.after (doing.hold (machine.a_value u) m) (λ z. go_on)) (λ u. K (with_value u)) (state.made at t v s1) (doing.made t v m0) has1.0 (made_shape (doing.made t v m0)) l1.agrees.listed l1.agrees.settled (made_alike b h1 s1 m0 at t v l1.agrees.settled refl)
      (λ u d. let x = machine.a_value u in
      follows_from set program R w.targets h1 s1 h1 s1 m0 (mach b h1 s1 (k1 + 1) x) (K (with_value u) s1) (one_row set program m0 (mach b h1 s1 (k1 + 1) x) _ has1.0 d) (grew_here h1 s1)
      (push_below set program R w.targets w b h1 s1 (k1 + 1) x at (λ z. F (with_value u)) has1.1.0 l1.agrees (λ few.
      subst (λ n. Follows set program R w.targets h1 (with_cells (s1.cells + 1) s1) (mach (pushed x b) h1 s1 n x) (F (with_value u) (with_cells (s1.cells + 1) s1))) (sym ek)
      (g (with_value u) x h1 s1 x refl g1 r1.listed l1 few))))))))

  -- for a formal by RESULT
  pub result_actual : {A : Type 0} (R : A → Heap → State Bodied → Machine → Type 0) (at : Place) (w : World) (b : Base) (h : Heap) (s : State Bodied) (c : Context) (e : Env) (k : ℕ) (held : Content) (F : Ready → M Bodied A) →
      HasAt program.instructions k (one at instr.Reserve) → At program.instructions w b h s c e → GoesOnReady R w b h s c e (k + 1) F →
      Follows set program R w.targets h s (mach b h s k held) (after (on without_value s) (λ r. state.◌>>◌ (state.take_cells 1 at) (F r)))
  result_actual R at w b h s c e k held F code l g = let s1 = with_cells (s.cells + 1) s in
      push_within set program R w.targets w b h s k machine.nothing held (mach b h s k held) (record { at = at; does = instr.Reserve }) go_on (λ z. F without_value) code.0 refl l.agrees
      (λ few d. follows_from set program R w.targets h s1 h s1 (mach b h s k held) (mach (pushed machine.nothing b) h s (k + 1) held) (F without_value s1) (one_row set program (mach b h s k held) (mach (pushed machine.nothing b) h s (k + 1) held) _ code.0 d) (grew_here h s1)
      (g without_value machine.nothing h s held tt (grew_here h s) refl l few))

  -- for a formal by name, and for a procedure formal: its text is stepped over, and a thunk of it is pushed
  pub thunk_actual : {A : Type 0} (R : A → Heap → State Bodied → Machine → Type 0) (type : Option ValueType) (is_variable : Bool) (first : Place) (reading : Rattle.stack_code.specs.Instr.Reading) (a : Phrase) → IsWritten a → (at : Place) (w : World) (b : Base) (h : Heap) (s : State Bodied) (c : Context) (e : Env) (k : ℕ) (held : Content) (F : Ready → M Bodied A) →
      HasAt program.instructions k (text_code at k first reading (size (known c) a) (code (inner_text c) at as_asked (k + 1) a) ▸ one at (instr.MakeThunk k type is_variable) ▸ one at instr.Push) → At program.instructions w b h s c e → marks a ≤ w.marks → GoesOnReady R w b h s c e (k + (text_size (size (known c) a) + 2)) F →
      Follows set program R w.targets h s (mach b h s k held) (after (on (put_for (thunk (copying.mark at first type is_variable) a e)) s) (λ r. state.◌>>◌ (state.take_cells 1 at) (F r)))
  thunk_actual R type is_variable first reading a wa at w b h s c e k held F code l fw g =
      let n = size (known c) a in
      let kt = k + text_size n in
      let body = Rattle.phrase_code.specs.Coding.code (inner_text c) at as_asked (k + 1) a in
      let mk = copying.mark at first type is_variable in
      let th : Thunk = record { head = k; link = b.current; type = type; is_variable = is_variable } in
      let x = machine.a_thunk th in
      let r = put_for (thunk mk a e) in
      let has0 = has_front program.instructions k (text_code at k first reading n body) (one at (instr.MakeThunk k type is_variable) ▸ one at instr.Push) code in
      let has1 = has_back program.instructions k (text_size n) (text_code at k first reading n body) (one at (instr.MakeThunk k type is_variable) ▸ one at instr.Push) (text_sized at k first reading n body (code_sized (inner_text c) at as_asked (k + 1) a)).by code in
      let tx : HasText program.instructions th mk a c = record { type = refl; is_variable = refl; written = wa; reading = reading; behind = kt; head = has0.0; body = has_front program.instructions (k + 1) body (one at instr.Return) has0.1; back = (has_back program.instructions (k + 1) n body (one at instr.Return) (code_sized (inner_text c) at as_asked (k + 1) a).by has0.1).0 } in
      let ek : kt + 1 + 1 ≡ k + (text_size n + 2) = omega arith in
      let all = after (state.take_cells 1 at s) (λ z. F r) in
      follows_from set program R w.targets h s h s (mach b h s k held) (mach b h s kt held) all (one_row set program (mach b h s k held) (mach b h s kt held) _ has0.0 refl) (grew_here h s)
      (follows_from set program R w.targets h s h s (mach b h s kt held) (mach b h s (kt + 1) x) all (one_row set program (mach b h s kt held) (mach b h s (kt + 1) x) _ has1.0 refl) (grew_here h s)
      (push_below set program R w.targets w b h s (kt + 1) x at (λ z. F r) has1.1.0 l.agrees (λ few.
      subst (λ n. Follows set program R w.targets h (with_cells (s.cells + 1) s) (mach (pushed x b) h s n x) (F r (with_cells (s.cells + 1) s))) (sym ek)
      (g r x h s x (c, tx, l.shows, fw, runs_under_way l) (grew_here h s) refl l few))))

  -- ---- one that is a name alone, for an array or a procedure formal

  array_handed_by : (at : Place) (w : World) (b : Base) (h : Heap) (s : State Bodied) (c : Context) (e : Env) (k : ℕ) (held : Content) (ot : Option Thing) (os : Option Stand) → Found program.instructions w b s.arrays c.level b.current ot os → HasAt program.instructions k (hand_on_code c at os) → At program.instructions w b h s c e →
      Follows set program (λ r h' s' m'. (x : Content) × (m' ≡ mach b h s (k + 1) x) × (h' ≡ h) × (s' ≡ s) × ReadyAs program.instructions w b s.arrays r x) w.targets h s (mach b h s k held) (array_handed at ot s)
  array_handed_by at w b h s c e k held None os f code l = tt
  array_handed_by at w b h s c e k held (Some t) None f code l = absurd f
  array_handed_by at w b h s c e k held (Some (to_constant v)) (Some name) f code l = tt
  array_handed_by at w b h s c e k held (Some (to_variable v)) (Some name) f code l = tt
  array_handed_by at w b h s c e k held (Some (to_label v)) (Some name) f code l = tt
  array_handed_by at w b h s c e k held (Some (to_array ka given)) (Some name) f code l =
      let x = machine.an_array f.1 given in
      follows_on set program _ w.targets h s (mach b h s k held) (mach b h s (k + 1) x) (put_for (to_array ka given)) (one_row set program (mach b h s k held) (mach b h s (k + 1) x) _ code.0
      (ap (λ κ. does set program at (instr.HandOn (source_by κ (links c name) name)) (mach b h s k held)) f.0 ∙ ap (λ o. doing.after (doing.after (doing.after o Rattle.stack_code.specs.Table.handed) doing.hold) (λ z. go_on)) (content_is b h s k held c name _ f.2)))
      (x, refl, refl, refl, (refl, f.3))
  array_handed_by at w b h s c e k held (Some (to_procedure kp)) (Some name) f code l = tt
  array_handed_by at w b h s c e k held (Some (thunk m a env)) (Some name) f code l = tt

  procedure_handed_by : (at : Place) (w : World) (b : Base) (h : Heap) (s : State Bodied) (c : Context) (e : Env) (k : ℕ) (held : Content) (ot : Option Thing) (os : Option Stand) → Found program.instructions w b s.arrays c.level b.current ot os → HasAt program.instructions k (hand_on_code c at os) → At program.instructions w b h s c e →
      Follows set program (λ r h' s' m'. (x : Content) × (m' ≡ mach b h s (k + 1) x) × (h' ≡ h) × (s' ≡ s) × ReadyAs program.instructions w b s.arrays r x) w.targets h s (mach b h s k held) (procedure_handed at ot s)
  procedure_handed_by at w b h s c e k held None os f code l = tt
  procedure_handed_by at w b h s c e k held (Some t) None f code l = absurd f
  procedure_handed_by at w b h s c e k held (Some (to_constant v)) (Some name) f code l = tt
  procedure_handed_by at w b h s c e k held (Some (to_variable v)) (Some name) f code l = tt
  procedure_handed_by at w b h s c e k held (Some (to_label v)) (Some name) f code l = tt
  procedure_handed_by at w b h s c e k held (Some (to_array ka given)) (Some name) f code l = tt
  procedure_handed_by at w b h s c e k held (Some (to_procedure kp)) (Some name) (inl y) code l =
      let q : Rattle.stack_code.specs.Machine.Closure = record { head = y.procedure.head; link = y.procedure.link } in
      let x = machine.a_procedure q in
      follows_on set program _ w.targets h s (mach b h s k held) (mach b h s (k + 1) x) (put_for (to_procedure kp)) (one_row set program (mach b h s k held) (mach b h s (k + 1) x) _ code.0
      (ap (λ κ. does set program at (instr.HandOn (source_by κ (links c name) name)) (mach b h s k held)) y.kind
      ∙ ap (λ o. doing.after (doing.after (doing.after (there (doing.closure_from name.target o) (mach b h s k held)) Rattle.stack_code.specs.Table.handed) doing.hold) (λ z. go_on)) y.text_is
      ∙ ap (λ n. doing.on tt (mach b h s (k + 1) (machine.a_procedure (record { head = n; link = y.procedure.link })))) y.head))
      (x, refl, refl, refl, (y.procedure, y.has, y.number, refl))
  procedure_handed_by at w b h s c e k held (Some (to_procedure kp)) (Some name) (inr y) code l =
      let q : Rattle.stack_code.specs.Machine.Closure = record { head = y.procedure.head; link = y.procedure.link } in
      let x = machine.a_procedure q in
      follows_on set program _ w.targets h s (mach b h s k held) (mach b h s (k + 1) x) (put_for (to_procedure kp)) (one_row set program (mach b h s k held) (mach b h s (k + 1) x) _ code.0
      (ap (λ κ. does set program at (instr.HandOn (source_by κ (links c name) name)) (mach b h s k held)) y.kind ∙ ap (λ o. doing.after (doing.after (doing.after o Rattle.stack_code.specs.Table.handed) doing.hold) (λ z. go_on)) (content_is b h s k held c name _ y.entry)))
      (x, refl, refl, refl, (y.procedure, y.has, y.number, refl))
  procedure_handed_by at w b h s c e k held (Some (thunk m a env)) (Some name) f code l = either f.0
    where
      x : Content
      x = machine.a_thunk f.1

      Q : Ready → Heap → State Bodied → Machine → Type 0
      Q r h' s' m' = (x : Content) × (m' ≡ mach b h s (k + 1) x) × (h' ≡ h) × (s' ≡ s) × ReadyAs program.instructions w b s.arrays r x

      there_is : (κ : Rattle.phrase_code.specs.Sizes.Kind) → name.kind ≡ κ → source_by κ (links c name) name ≡ Rattle.stack_code.specs.Instr.from_entry (links c name) name.position → Follows set program Q w.targets h s (mach b h s k held) (procedure_handed at (Some (thunk m a env)) s)
      there_is κ q y = follows_on set program Q w.targets h s (mach b h s k held) (mach b h s (k + 1) x) (put_for (thunk m a env)) (one_row set program (mach b h s k held) (mach b h s (k + 1) x) _ code.0
          (ap (λ κ. does set program at (instr.HandOn (source_by κ (links c name) name)) (mach b h s k held)) q ∙ ap (λ z. does set program at (instr.HandOn z) (mach b h s k held)) y ∙ ap (λ o. doing.after (doing.after (doing.after o Rattle.stack_code.specs.Table.handed) doing.hold) (λ z. go_on)) (content_is b h s k held c name _ f.2)))
          (x, refl, refl, refl, (f.3, f.4, f.5, f.6, f.7))

      either : ((name.kind ≡ Rattle.phrase_code.specs.Sizes.a_name_formal) ⊎ (name.kind ≡ Rattle.phrase_code.specs.Sizes.a_procedure_formal)) → Follows set program Q w.targets h s (mach b h s k held) (procedure_handed at (Some (thunk m a env)) s)
      either (inl q) = there_is Rattle.phrase_code.specs.Sizes.a_name_formal q refl
      either (inr q) = there_is Rattle.phrase_code.specs.Sizes.a_procedure_formal q refl

  -- what hands on does so by its row
  pub record Hands (H : Place → Option Thing → M Bodied Ready) : Type 0 where
    pub by : (at : Place) (w : World) (b : Base) (h : Heap) (s : State Bodied) (c : Context) (e : Env) (k : ℕ) (held : Content) (ot : Option Thing) (os : Option Stand) → Found program.instructions w b s.arrays c.level b.current ot os → HasAt program.instructions k (hand_on_code c at os) → At program.instructions w b h s c e →
        Follows set program (λ r h' s' m'. (x : Content) × (m' ≡ mach b h s (k + 1) x) × (h' ≡ h) × (s' ≡ s) × ReadyAs program.instructions w b s.arrays r x) w.targets h s (mach b h s k held) (H at ot s)

  pub array_hands : Hands array_handed
  array_hands = record { by = array_handed_by }

  pub procedure_hands : Hands procedure_handed
  procedure_hands = record { by = procedure_handed_by }

  -- a name that is handed on
  pub handed_actual : {A : Type 0} (R : A → Heap → State Bodied → Machine → Type 0) (H : Place → Option Thing → M Bodied Ready) → Hands H → (x : Place) (at : Place) (w : World) (b : Base) (h : Heap) (s : State Bodied) (c : Context) (e : Env) (k : ℕ) (held : Content) (F : Ready → M Bodied A) →
      HasAt program.instructions k (hand_on_code c at (stand_of c (Named x)) ▸ one at instr.Push) → At program.instructions w b h s c e → GoesOnReady R w b h s c e (k + 2) F →
      Follows set program R w.targets h s (mach b h s k held) (after (H at (head e (Named x)) s) (λ r. state.◌>>◌ (state.take_cells 1 at) (F r)))
  handed_actual {A} R H hands x at w b h s c e k held F code l g =
      let os = stand_of c (Named x) in
      let has1 = has_back program.instructions k 1 (hand_on_code c at os) (one at instr.Push) (hand_on_sized c at os).by code in
      follows_then set program Q R w.targets h s (mach b h s k held) (H at (find e x) s) (λ r. state.◌>>◌ (state.take_cells 1 at) (F r))
      (hands.by at w b h s c e k held (find e x) (stand_at c.names x) (found program.instructions w b s.arrays c.level b.current e c.names x l.shows) (has_front program.instructions k (hand_on_code c at os) (one at instr.Push) code) l)
      (λ r h1 s1 m1 q g1.
      follows_at set program R w.targets h1 s1 m1 (mach b h s (k + 1) q.0) (after (state.take_cells 1 at s1) (λ z. F r)) q.1
      (subst (λ n. Follows set program R w.targets n s1 (mach b h s (k + 1) q.0) (after (state.take_cells 1 at s1) (λ z. F r))) (sym q.2)
      (subst (λ n. Follows set program R w.targets h n (mach b h s (k + 1) q.0) (after (state.take_cells 1 at n) (λ z. F r))) (sym q.3)
      (push_below set program R w.targets w b h s (k + 1) q.0 at (λ z. F r) has1.0 l.agrees (λ few.
      subst (λ n. Follows set program R w.targets h (with_cells (s.cells + 1) s) (mach (pushed q.0 b) h s n q.0) (F r (with_cells (s.cells + 1) s))) (two k)
      (g r q.0 h s q.0 q.4 (grew_here h s) refl l few))))))
    where
      Q : Ready → Heap → State Bodied → Machine → Type 0
      Q r h' s' m' = (x : Content) × (m' ≡ mach b h s (k + 1) x) × (h' ≡ h) × (s' ≡ s) × ReadyAs program.instructions w b s.arrays r x

      two : (i : ℕ) → i + 2 ≡ i + 1 + 1
      two i = omega arith

  -- ---- a subarray

  pub subarray_actual : {A : Type 0} (R : A → Heap → State Bodied → Machine → Type 0) (x : Place) (given : Subscripts) → EachStar set program later given → (at : Place) (w : World) (b : Base) (h : Heap) (s : State Bodied) (c : Context) (e : Env) (k : ℕ) (held : Content) (F : Ready → M Bodied A) →
      HasAt program.instructions k (code_subscripts c at k given ▸ subarray_code c at (stars_of given) (stand_of c (Named x)) ▸ one at instr.Push) → At program.instructions w b h s c e → Fits program.marks w b (subscripts_marks given) → GoesOnReady R w b h s c e (k + (subscripts_size (known c) given + 2)) F →
      Follows set program R w.targets h s (mach b h s k held) (after (after (go_stars set later given at e s) (subarray_at set later at (head e (Named x)))) (λ r. state.◌>>◌ (state.take_cells 1 at) (F r)))
  subarray_actual R x given ps at w b h s c e k held F code l ft g =
      let n = subscripts_size (known c) given in
      let os = stand_of c (Named x) in
      let front = code_subscripts c at k given in
      let joined = subst (HasAt program.instructions k) (sym (joined_code front (subarray_code c at (stars_of given) os) (one at instr.Push))) code in
      let has1 = has_back program.instructions (k + n) 1 (subarray_code c at (stars_of given) os) (one at instr.Push) (subarray_sized c at (stars_of given) os).by (has_back program.instructions k n front (subarray_code c at (stars_of given) os ▸ one at instr.Push) (subscripts_sized c at k given).by code) in
      follows_then set program (ArrayReady b s.active (k + n + 1)) R w.targets h s (mach b h s k held) (after (go_stars set later given at e s) (subarray_at set later at (find e x))) (λ r. state.◌>>◌ (state.take_cells 1 at) (F r))
      (subarray_follows set program later x given ps at w b h s c e k held (has_front program.instructions k (front ▸ subarray_code c at (stars_of given) os) (one at instr.Push) joined) l ft)
      (λ r h1 s1 m1 q g1. let y = machine.an_array q.array q.given in let z = q.reached in
      let l1 = at_reached set program w b h s c e (k + n + 1) y h1 s1 m1 l g1 z in
      follows_at set program R w.targets h1 s1 m1 (mach b h1 s1 (k + n + 1) y) (after (state.take_cells 1 at s1) (λ z. F r)) z.is
      (push_below set program R w.targets w b h1 s1 (k + n + 1) y at (λ z. F r) has1.0 l1.agrees (λ few.
      subst (λ i. Follows set program R w.targets h1 (with_cells (s1.cells + 1) s1) (mach (pushed y b) h1 s1 i y) (F r (with_cells (s1.cells + 1) s1))) (two k n)
      (g r y h1 s1 y (subst (λ i. ReadyAs program.instructions w b s1.arrays i y) (sym q.is) (refl, q.has)) g1 z.listed l1 few))))
    where
      two : (i n : ℕ) → i + (n + 2) ≡ i + n + 1 + 1
      two i n = omega arith
