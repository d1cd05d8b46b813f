-- Actuals of a call through a procedure formal: each is prepared for its formal, and pushed.
use Rattle.std.proofs.Common.{◌≡◌, ℕ, suc, ◌+◌, ◌⊎◌, inl, inr, List, [], ◌∷◌, length, map, Option, Some, None, refl, sym, ap, ◌∙◌, subst, arith}
use Rattle.std.specs.Prelude.{slice_get, Bool, true, false}
use Rattle.value_ops.specs.declared.places.Place.{Place}
use Rattle.algolw_typing.specs.Types.{ValueType, Gives}
use Rattle.algolw_typing.specs.Meanings.{FormalType, by_name, by_value, by_result, by_value_result, for_array, for_procedure}
use Rattle.program_meaning.specs.Phrases.{Phrase, Named, Subscripts, Formal, Actual, Given, Alone, Subarray, Actuals, no_actuals, actual_and}
use Rattle.program_meaning.specs.State as state
use Rattle.program_meaning.specs.State.{State, Setting, Outcome, on, stop, wrong, M, for_value, after, ArrayInfo}
use Rattle.program_meaning.specs.Copying as copying
use Rattle.program_meaning.specs.Copying.{free_of}
use Rattle.program_meaning.specs.Environments.{Env, Thing, to_constant, to_variable, to_array, to_label, to_procedure, thunk, Bodied, Job, find, head, Ready, with_value, without_value, put_for, procedure_handed, array_handed, phrase_ready, subarray_at, invoked, no_formals, go, go_stars, go_actual, go_actuals}
use Rattle.stack_code.specs.Instr as instr
use Rattle.stack_code.specs.Instr.{Instr, Reading, as_name, as_subarray, as_nothing, as_asked}
use Rattle.stack_code.specs.Code.{Code, Coded, procedure_of, text_of}
use Rattle.stack_code.specs.Machine as machine
use Rattle.stack_code.specs.Machine.{Machine, Content, Thunk}
use Rattle.stack_code.specs.Doing as doing
use Rattle.stack_code.specs.Doing.{frame_for, go_on, there, ◌>>=◌}
use Rattle.stack_code.specs.Table as table
use Rattle.stack_code.specs.Table.{does, enter_aside, prepare, prepare_by, prepare_phrase, prepare_name}
use Rattle.phrase_code.specs.Sizes.{size, kind_at, bare_call_size, subscripts_size, text_of_size, text_size, prepares_size}
use Rattle.phrase_code.specs.Coding.{Context, Stand, known, code, stand_at, stand_of, source_of, inner_text, one, ◌▸◌, text_code, bare_call, reading_of_name, reading_of_subarray, stars_of, code_subscripts, subarray_code, code_text, code_texts, prepares_code}
use Rattle.code_simulation.specs.Written.{IsWritten}
use Rattle.code_simulation.specs.Relation.{HasAt, Base, Heap, mach, World, LiveProcedure, HasText, Means, At, content_of}
use Rattle.code_simulation.specs.Following.{already, Comes, Follows, PhraseFollows}
use Rattle.code_simulation.proofs.Stacks.{has_front, has_back, length_map, length_code}
use Rattle.code_simulation.proofs.Sizes.{code_sized, subscripts_sized, subarray_sized, text_of_sized}
use Rattle.code_simulation.proofs.Rows.{one_row, comes_on, follows_from, follows_then, follows_on, follows_more, grew_here}
use Rattle.code_simulation.proofs.Keeping.{pushed, with_cells, over_pushed, later_over, listed_later, runs_under_way, at_pushed}
use Rattle.code_simulation.proofs.Values.{follows_at}
use Rattle.code_simulation.proofs.Operators.{at_reached}
use Rattle.code_simulation.proofs.Texts.{inside, answered_in, over_inside, settled_in, closed, returned}
use Rattle.code_simulation.proofs.Copied.{inside_at}
use Rattle.code_simulation.proofs.Names.{found}
use Rattle.code_simulation.proofs.Cells.{pushed_all}
use Rattle.code_simulation.proofs.Subarrays.{EachStar, ArrayReady, subarray_follows}
use Rattle.code_simulation.proofs.Actuals.{ReadyAs, ready_later, GoesOnReady}
use Rattle.code_simulation.proofs.ActualLists.{ActualDoes, EachActual, actuals_and, ActualsReady, over_pushed_all}
use Rattle.code_simulation.proofs.Bare.{bare, bare_code, bare_size, bare_does}
use Rattle.code_simulation.proofs.Asides.{aside_actual}
use Rattle.code_simulation.proofs.CallRows.{head_of}
use Rattle.code_simulation.proofs.Sources.{StandsFor, stands_later, source_is, Hands, array_hands_on, procedure_hands_on, IsRead, IsUnread, Nameless, reading_is}
use Rattle.phrase_code.specs.Marks.{marks, actual_marks, actuals_marks, subscripts_marks}
use Rattle.code_simulation.specs.Room.{Fits}
use Rattle.code_simulation.proofs.Values.{push_below}
use Rattle.code_simulation.proofs.Room.{fits_left, fits_right, fits_most, fits_pushed, fits_aside, room_for_entry, room_for_frame, link_is_below, text_in_room}

module _ (set : Setting) (program : Code) (later : Job → M Bodied state.Given) where
  -- the text of a phrase that is copied
  text_is : (at first : Place) (reading : Reading) (a : Phrase) → IsWritten a → (c : Context) (kh : ℕ) (link : Option ℕ) (type : Option ValueType) (v : Bool) → HasAt program.instructions kh (text_code at kh first reading (size (known c) a) (code (inner_text c) at as_asked (kh + 1) a)) →
      HasText program.instructions (record { head = kh; link = link; type = type; is_variable = v }) (copying.mark at first type v) a c
  text_is at first reading a wa c kh link type v tx =
      let body = Rattle.phrase_code.specs.Coding.code (inner_text c) at as_asked (kh + 1) a in
      record { type = refl; is_variable = refl; written = wa; reading = reading; behind = kh + text_size (size (known c) a); head = tx.0; body = has_front program.instructions (kh + 1) body (one at instr.Return) tx.1; back = (has_back program.instructions (kh + 1) (size (known c) a) body (one at instr.Return) (code_sized (inner_text c) at as_asked (kh + 1) a).by tx.1).0 }

  -- what is ready at once is held, the End is stepped over, and it is pushed
  ready_pushed : {A : Type 0} (R : A → Heap → State Bodied → Machine → Type 0) (at : Place) (w : World) (b : Base) (h : Heap) (s : State Bodied) (c : Context) (e : Env) (k : ℕ) (held : Content) (F : Ready → M Bodied A) (does_it : Instr) (r : Ready) (x : Content) → does set program at does_it (mach b h s k held) ≡ table.ready x (mach b h s k held) →
      HasAt program.instructions k (one at does_it ▸ one at instr.End ▸ one at instr.Push) → At program.instructions w b h s c e → ReadyAs program.instructions w b s.arrays r x → GoesOnReady set program later R w b h s c e (k + 3) F →
      Follows set program R w.targets h s (mach b h s k held) (after (state.take_cells 1 at s) (λ z. F r))
  ready_pushed R at w b h s c e k held F does_it r x row code l rx g =
      let push = subst (λ n. slice_get program.instructions n ≡ Some (record { at = at; does = instr.Push })) (two k) code.1.1.0 in
      follows_from set program R w.targets h s h s (mach b h s k held) (mach b h s (k + 2) x) (after (state.take_cells 1 at s) (λ z. F r)) (one_row set program (mach b h s k held) (mach b h s (k + 2) x) _ code.0 row) (grew_here h s)
      (push_below set program R w.targets w b h s (k + 2) x at (λ z. F r) push l.agrees (λ few.
      subst (λ n. Follows set program R w.targets h (with_cells (s.cells + 1) s) (mach (pushed x b) h s n x) (F r (with_cells (s.cells + 1) s))) (three k)
      (g r x h s x rx (grew_here h s) refl l few)))
    where
      two : (n : ℕ) → n + 1 + 1 ≡ n + 2
      two n = omega arith

      three : (n : ℕ) → n + 3 ≡ n + 2 + 1
      three n = omega arith

  -- ---- a phrase

  prepared_phrase : {A : Type 0} (R : A → Heap → State Bodied → Machine → Type 0) (v : Bool) (g : Gives) (first : Place) (reading : Reading) (a : Phrase) → IsWritten a → PhraseFollows set program later a → (f : FormalType) (at : Place) (w : World) (b : Base) (h : Heap) (s : State Bodied) (c : Context) (e : Env) (k kh : ℕ) (held : Content) (F : Ready → M Bodied A) (does_it : Instr) →
      does set program at does_it (mach b h s k held) ≡ prepare_phrase program.marks f kh v g (mach b h s k held) → HasAt program.instructions k (one at does_it ▸ one at instr.End ▸ one at instr.Push) → HasAt program.instructions kh (text_code at kh first reading (size (known c) a) (code (inner_text c) at as_asked (kh + 1) a)) →
      At program.instructions w b h s c e → Fits program.marks w b (1 + marks a) → GoesOnReady set program later R w b h s c e (k + 3) F →
      Follows set program R w.targets h s (mach b h s k held) (after (phrase_ready f at (go set later a for_value at e) v g first a e s) (λ r. state.◌>>◌ (state.take_cells 1 at) (F r)))
  prepared_phrase R v g first reading a wa p (by_value t) at w b h s c e k kh held F does_it row code tx l ft go_on_ready =
      let x = text_is at first reading a wa c kh b.current (Some t) v tx in aside_actual set program later R t a p at w b h s c e k kh held F does_it row code x.body x.back l ft go_on_ready
  prepared_phrase R v g first reading a wa p (by_value_result t) at w b h s c e k kh held F does_it row code tx l ft go_on_ready =
      let x = text_is at first reading a wa c kh b.current (Some t) v tx in aside_actual set program later R t a p at w b h s c e k kh held F does_it row code x.body x.back l ft go_on_ready
  prepared_phrase R v g first reading a wa p (by_result t) at w b h s c e k kh held F does_it row code tx l ft go_on_ready = ready_pushed R at w b h s c e k held F does_it without_value machine.nothing row code l tt go_on_ready
  prepared_phrase R v g first reading a wa p (by_name t) at w b h s c e k kh held F does_it row code tx l ft go_on_ready =
      let iv = copying.is_variable_of t v g in
      ready_pushed R at w b h s c e k held F does_it (put_for (thunk (copying.mark at first (Some t) iv) a e)) (machine.a_thunk (record { head = kh; link = b.current; type = Some t; is_variable = iv })) row code l (c, text_is at first reading a wa c kh b.current (Some t) iv tx, l.shows, (let y = fits_most ft in let z = ft.marks_are in omega (arith, y, z)), runs_under_way l) go_on_ready
  prepared_phrase R v g first reading a wa p (for_procedure result) at w b h s c e k kh held F does_it row code tx l ft go_on_ready =
      ready_pushed R at w b h s c e k held F does_it (put_for (thunk (copying.mark at first result false) a e)) (machine.a_thunk (record { head = kh; link = b.current; type = result; is_variable = false })) row code l (c, text_is at first reading a wa c kh b.current result false tx, l.shows, (let y = fits_most ft in let z = ft.marks_are in omega (arith, y, z)), runs_under_way l) go_on_ready
  prepared_phrase R v g first reading a wa p (for_array t n) at w b h s c e k kh held F does_it row code tx l ft go_on_ready = tt

  -- ---- a name alone

  -- where it stands for nothing, it is wrong to call it or to hand it on
  nameless_called : (at p : Place) (ot : Option Thing) → Nameless ot → (e : Env) (s : State Bodied) → invoked set later at true p ot no_actuals e (λ fs. no_formals at fs) (λ fs bs. state.give tt) s ≡ stop wrong at s
  nameless_called at p None q e s = refl
  nameless_called at p (Some (to_label v)) q e s = refl
  nameless_called at p (Some (to_constant v)) q e s = absurd q
  nameless_called at p (Some (to_variable v)) q e s = absurd q
  nameless_called at p (Some (to_array v given)) q e s = absurd q
  nameless_called at p (Some (to_procedure v)) q e s = absurd q
  nameless_called at p (Some (thunk m a f)) q e s = absurd q

  nameless_array : (at : Place) (ot : Option Thing) → Nameless ot → (s : State Bodied) → array_handed at ot s ≡ stop wrong at s
  nameless_array at None q s = refl
  nameless_array at (Some (to_label v)) q s = refl
  nameless_array at (Some (to_constant v)) q s = absurd q
  nameless_array at (Some (to_variable v)) q s = absurd q
  nameless_array at (Some (to_array v given)) q s = absurd q
  nameless_array at (Some (to_procedure v)) q s = absurd q
  nameless_array at (Some (thunk m a f)) q s = absurd q

  nameless_procedure : (at : Place) (ot : Option Thing) → Nameless ot → (s : State Bodied) → procedure_handed at ot s ≡ stop wrong at s
  nameless_procedure at None q s = refl
  nameless_procedure at (Some (to_label v)) q s = refl
  nameless_procedure at (Some (to_constant v)) q s = absurd q
  nameless_procedure at (Some (to_variable v)) q s = absurd q
  nameless_procedure at (Some (to_array v given)) q s = absurd q
  nameless_procedure at (Some (to_procedure v)) q s = absurd q
  nameless_procedure at (Some (thunk m a f)) q s = absurd q

  -- nothing is claimed where the meaning is wrong
  wrong_here : {A B : Type 0} (R : B → Heap → State Bodied → Machine → Type 0) (w : World) (h : Heap) (s : State Bodied) (m : Machine) (at : Place) (o : Outcome Bodied A) (K : A → M Bodied B) → o ≡ stop wrong at s → Follows set program R w.targets h s m (after o K)
  wrong_here R w h s m at o K e = subst (λ z. Follows set program R w.targets h s m (after z K)) (sym e) (tt)

  -- what stands for the name is handed on
  handed_pushed : {A : Type 0} (R : A → Heap → State Bodied → Machine → Type 0) (at : Place) (w : World) (b : Base) (h : Heap) (s : State Bodied) (c : Context) (e : Env) (k : ℕ) (held : Content) (F : Ready → M Bodied A) (does_it : Instr) (name : Stand) (o : Outcome Bodied Ready) → Hands program.instructions w b h s at c name o →
      does set program at does_it (mach b h s k held) ≡ (doing.source_out (source_of c name) >>= table.handed >>= table.ready) (mach b h s k held) → HasAt program.instructions k (one at does_it ▸ one at instr.End ▸ one at instr.Push) → At program.instructions w b h s c e → GoesOnReady set program later R w b h s c e (k + 3) F →
      Follows set program R w.targets h s (mach b h s k held) (after o (λ r. state.◌>>◌ (state.take_cells 1 at) (F r)))
  handed_pushed R at w b h s c e k held F does_it name o (inr x) row code l g = wrong_here R w h s (mach b h s k held) at o _ x
  handed_pushed R at w b h s c e k held F does_it name o (inl x) row code l g =
      subst (λ z. Follows set program R w.targets h s (mach b h s k held) (after z (λ r. state.◌>>◌ (state.take_cells 1 at) (F r)))) (sym x.gives)
      (ready_pushed R at w b h s c e k held F does_it x.ready x.content (row ∙ ap (λ r. doing.after (doing.after r table.handed) table.ready) (x.source k held) ∙ ap (λ r. doing.after r table.ready) (x.handed (mach b h s k held))) code l x.is g)

  -- its text is that of the phrase that calls it
  bare_text : (at p x : Place) (reading : Reading) (c : Context) (kh : ℕ) → HasAt program.instructions kh (text_code at kh p reading (bare_call_size (kind_at (known c) x)) (bare_call (inner_text c) at p (kh + 1) (stand_at c.names x))) →
      HasAt program.instructions kh (text_code at kh p reading (size (known c) (bare p x)) (code (inner_text c) at as_asked (kh + 1) (bare p x)))
  bare_text at p x reading c kh tx =
      let body = Rattle.phrase_code.specs.Coding.code (inner_text c) at as_asked (kh + 1) (bare p x) in
      subst (λ n. HasAt program.instructions kh (text_code at kh p reading n body)) (sym (bare_size c p x))
      (subst (λ z. HasAt program.instructions kh (text_code at kh p reading (bare_call_size (kind_at (known c) x)) z)) (sym (bare_code (inner_text c) at p as_asked (kh + 1) x)) tx)

  prepared_name : {A : Type 0} (R : A → Heap → State Bodied → Machine → Type 0) (p x : Place) → PhraseFollows set program later (bare p x) → (f : FormalType) (at : Place) (w : World) (b : Base) (h : Heap) (s : State Bodied) (c : Context) (e : Env) (k kh : ℕ) (held : Content) (F : Ready → M Bodied A) (does_it : Instr) →
      does set program at does_it (mach b h s k held) ≡ prepare_by program.marks f kh (reading_of_name c (stand_at c.names x)) (mach b h s k held) → HasAt program.instructions k (one at does_it ▸ one at instr.End ▸ one at instr.Push) →
      HasAt program.instructions kh (text_code at kh p (reading_of_name c (stand_at c.names x)) (bare_call_size (kind_at (known c) x)) (bare_call (inner_text c) at p (kh + 1) (stand_at c.names x))) → At program.instructions w b h s c e → Fits program.marks w b 1 → GoesOnReady set program later R w b h s c e (k + 3) F →
      Follows set program R w.targets h s (mach b h s k held) (after (go_actual set later (Alone p (Named x)) at f e s) (λ r. state.◌>>◌ (state.take_cells 1 at) (F r)))
  prepared_name {A} R p x d (by_value t) at w b h s c e k kh held F does_it row code tx l ft g = by (reading_is program.instructions w b s.arrays c (find e x) os (found program.instructions w b s.arrays c.level b.current e c.names x l.shows))
    where
      os : Option Stand
      os = stand_at c.names x

      m : Machine
      m = mach b h s k held

      K : Ready → M Bodied A
      K r = state.◌>>◌ (state.take_cells 1 at) (F r)

      made : Outcome Bodied state.Given → Outcome Bodied Ready
      made r = after (after r (state.value_in at)) (λ v. state.◌>>=◌ (state.made at t v) (λ u. state.give (with_value u)))

      text : HasText program.instructions (record { head = kh; link = b.current; type = Some t; is_variable = false }) (copying.mark at p (Some t) false) (bare p x) c
      text = text_is at p (reading_of_name c os) (bare p x) (tt, tt) c kh b.current (Some t) false (bare_text at p x (reading_of_name c os) c kh tx)

      by : IsRead c (find e x) os (λ t name. Means program.instructions w b s.arrays t name c.level b.current) ⊎ IsUnread c (find e x) os → Follows set program R w.targets h s m (after (go_actual set later (Alone p (Named x)) at (by_value t) e s) K)
      by (inl y) = subst (λ r. Follows set program R w.targets h s m (after (made r) K)) (bare_does set later at p x e s)
          (aside_actual set program later R t (bare p x) d at w b h s c e k kh held F does_it (row ∙ ap (λ z. prepare_by program.marks (by_value t) kh z m) y.name_read) code text.body text.back l ft g)
      by (inr y) = wrong_here R w h s m at (go_actual set later (Alone p (Named x)) at (by_value t) e s) K (ap made (nameless_called at p (find e x) y.nameless e s))
  prepared_name R p x d (by_name t) at w b h s c e k kh held F does_it row code tx l ft g =
      let os = stand_at c.names x in
      ready_pushed R at w b h s c e k held F does_it (put_for (thunk (copying.mark at p (Some t) false) (bare p x) e)) (machine.a_thunk (record { head = kh; link = b.current; type = Some t; is_variable = false }))
      (row ∙ by (reading_is program.instructions w b s.arrays c (find e x) os (found program.instructions w b s.arrays c.level b.current e c.names x l.shows)))
      code l (c, text_is at p (reading_of_name c os) (bare p x) (tt, tt) c kh b.current (Some t) false (bare_text at p x (reading_of_name c os) c kh tx), l.shows, omega arith, runs_under_way l) g
    where
      m : Machine
      m = mach b h s k held

      by : IsRead c (find e x) (stand_at c.names x) (λ t name. Means program.instructions w b s.arrays t name c.level b.current) ⊎ IsUnread c (find e x) (stand_at c.names x) →
          prepare_by program.marks (by_name t) kh (reading_of_name c (stand_at c.names x)) m ≡ table.ready (machine.a_thunk (record { head = kh; link = b.current; type = Some t; is_variable = false })) m
      by (inl y) = ap (λ z. prepare_by program.marks (by_name t) kh z m) y.name_read
      by (inr y) = ap (λ z. prepare_by program.marks (by_name t) kh z m) y.name_unread
  prepared_name {A} R p x d (for_procedure result) at w b h s c e k kh held F does_it row code tx l ft g = by (reading_is program.instructions w b s.arrays c (find e x) os (found program.instructions w b s.arrays c.level b.current e c.names x l.shows))
    where
      os : Option Stand
      os = stand_at c.names x

      m : Machine
      m = mach b h s k held

      by : IsRead c (find e x) os (λ t name. Means program.instructions w b s.arrays t name c.level b.current) ⊎ IsUnread c (find e x) os → Follows set program R w.targets h s m (after (procedure_handed at (find e x) s) (λ r. state.◌>>◌ (state.take_cells 1 at) (F r)))
      by (inl y) = handed_pushed R at w b h s c e k held F does_it y.name (procedure_handed at (find e x) s)
          (subst (λ o. Hands program.instructions w b h s at c y.name (procedure_handed at o s)) (sym y.thing_is) (procedure_hands_on program.instructions w b h s at c y.name y.thing y.means_it))
          (row ∙ ap (λ z. prepare_by program.marks (for_procedure result) kh z m) y.name_read) code l g
      by (inr y) = wrong_here R w h s m at (procedure_handed at (find e x) s) _ (nameless_procedure at (find e x) y.nameless s)
  prepared_name {A} R p x d (for_array t n) at w b h s c e k kh held F does_it row code tx l ft g = by (reading_is program.instructions w b s.arrays c (find e x) os (found program.instructions w b s.arrays c.level b.current e c.names x l.shows))
    where
      os : Option Stand
      os = stand_at c.names x

      m : Machine
      m = mach b h s k held

      by : IsRead c (find e x) os (λ t name. Means program.instructions w b s.arrays t name c.level b.current) ⊎ IsUnread c (find e x) os → Follows set program R w.targets h s m (after (array_handed at (find e x) s) (λ r. state.◌>>◌ (state.take_cells 1 at) (F r)))
      by (inl y) = handed_pushed R at w b h s c e k held F does_it y.name (array_handed at (find e x) s)
          (subst (λ o. Hands program.instructions w b h s at c y.name (array_handed at o s)) (sym y.thing_is) (array_hands_on program.instructions w b h s at c y.name y.thing y.means_it))
          (row ∙ ap (λ z. prepare_by program.marks (for_array t n) kh z m) y.name_read) code l g
      by (inr y) = wrong_here R w h s m at (array_handed at (find e x) s) _ (nameless_array at (find e x) y.nameless s)
  prepared_name R p x d (by_result t) at w b h s c e k kh held F does_it row code tx l ft g = tt
  prepared_name R p x d (by_value_result t) at w b h s c e k kh held F does_it row code tx l ft g = tt

  -- ---- a subarray

  -- its text is entered as an aside, and the array is held behind its end
  subarray_aside : (x : Place) (given : Subscripts) → EachStar set program later given → (at : Place) (w : World) (b : Base) (h : Heap) (s : State Bodied) (c : Context) (e : Env) (k kh : ℕ) (held : Content) (does_it : Instr) →
      does set program at does_it (mach b h s k held) ≡ enter_aside program.marks kh for_value None (mach b h s k held) → HasAt program.instructions k (one at does_it ▸ one at instr.End) →
      HasAt program.instructions (kh + 1) (code_subscripts (inner_text c) at (kh + 1) given ▸ subarray_code (inner_text c) at (stars_of given) (stand_of c (Named x))) → slice_get program.instructions (kh + 1 + subscripts_size (known c) given + 1) ≡ Some (record { at = at; does = instr.Return }) → At program.instructions w b h s c e → Fits program.marks w b (1 + subscripts_marks given) →
      Follows set program (ArrayReady b s.active (k + 1 + 1)) w.targets h s (mach b h s k held) (after (go_stars set later given at e s) (subarray_at set later at (head e (Named x))))
  subarray_aside x given ps at w b h s c e k kh held does_it row code body back l ft =
      let n = length (map (content_of s.memory) b.slots) in
      let fr = frame_for (mach b h s k held) (k + 1) n kh b.current for_value None false in
      let bi = inside fr machine.an_aside b in
      let kb = kh + 1 + subscripts_size (known c) given + 1 in
      let ag = l.agrees in
      let X = after (go_stars set later given at e s) (subarray_at set later at (head e (Named x))) in
      let li : At program.instructions w bi h s (inner_text c) e = inside_at program.instructions w b h s s c e fr machine.an_aside ag (grew_here h s) refl refl refl refl refl refl l.shows (listed_later program.instructions (later_over w b bi s.arrays s.arrays (over_inside fr machine.an_aside b) (λ j z i. i)) b.entries [] s.active ag.listed) in
      text_in_room set program (ArrayReady b s.active (k + 1 + 1)) w.targets b h s k held (mach b h s k held) (record { at = at; does = does_it }) (k + 1) n kh (kh + 1) b.current for_value None false machine.an_aside X (link_is_below b.frames b.current (runs_under_way l)) (room_for_frame ft) (room_for_entry ft) code.0 row
      (follows_more set program (ArrayReady bi s.active kb) (ArrayReady b s.active (k + 1 + 1)) w.targets h s (mach bi h s (kh + 1) held) X
      (λ r h1 s1 m1 q. let y = machine.an_array q.array q.given in let z = q.reached in (
        mach b h1 s1 (k + 1 + 1) y,
        subst (λ m. Comes set program m (mach b h1 s1 (k + 1 + 1) y)) (sym z.is)
            (comes_on set program (returned set program b h1 s1 kb y fr machine.an_aside at back)
            (one_row set program (mach (answered_in fr machine.an_aside y b) h1 s1 (k + 1) y) (mach b h1 s1 (k + 1 + 1) y) (record { at = at; does = instr.End }) code.1.0
            (ap (λ m. doing.after (doing.hold y m) (λ z. go_on)) (closed set program b h1 s1 (k + 1) y fr machine.an_aside y refl refl (length_map (content_of s.memory) b.slots))))),
        record {
          number = q.number;
          array = q.array;
          given = q.given;
          is = q.is;
          has = record { info = q.has.info; is = q.has.is; type = q.has.type; bounds = q.has.bounds; elements = q.has.elements };
          reached = record { is = refl; settled = settled_in bi b h1 s1.memory s1.records s1.fields refl (λ j i. i) z.settled; cells = z.cells; listed = z.listed };
        },
      ))
      (subarray_follows set program later x given ps at w bi h s (inner_text c) e (kh + 1) held body li (fits_aside fr ft)))

  prepared_subarray : {A : Type 0} (R : A → Heap → State Bodied → Machine → Type 0) (x : Place) (given : Subscripts) → EachStar set program later given → (f : FormalType) (at : Place) (w : World) (b : Base) (h : Heap) (s : State Bodied) (c : Context) (e : Env) (k kh : ℕ) (held : Content) (F : Ready → M Bodied A) (does_it : Instr) →
      does set program at does_it (mach b h s k held) ≡ prepare_by program.marks f kh (reading_of_subarray c (free_of given) (stand_at c.names x)) (mach b h s k held) → HasAt program.instructions k (one at does_it ▸ one at instr.End ▸ one at instr.Push) →
      HasAt program.instructions kh (code_text c at kh (Subarray (Named x) given)) → At program.instructions w b h s c e → Fits program.marks w b (1 + subscripts_marks given) → GoesOnReady set program later R w b h s c e (k + 3) F →
      Follows set program R w.targets h s (mach b h s k held) (after (go_actual set later (Subarray (Named x) given) at f e s) (λ r. state.◌>>◌ (state.take_cells 1 at) (F r)))
  prepared_subarray {A} R x given ps (for_array t n) at w b h s c e k kh held F does_it row code tx l ft g =
      follows_then set program (ArrayReady b s.active (k + 1 + 1)) R w.targets h s m (after (go_stars set later given at e s) (subarray_at set later at (find e x))) (λ r. state.◌>>◌ (state.take_cells 1 at) (F r))
      (subarray_aside x given ps at w b h s c e k kh held does_it (row ∙ by (reading_is program.instructions w b s.arrays c (find e x) (stand_at c.names x) (found program.instructions w b s.arrays c.level b.current e c.names x l.shows))) (code.0, (code.1.0, tt)) (has_front program.instructions (kh + 1) body (one at instr.Return) tx.1) back l ft)
      (λ r h1 s1 m1 q g1. let y = machine.an_array q.array q.given in let z = q.reached in
      let l1 = at_reached set program w b h s c e (k + 1 + 1) y h1 s1 m1 l g1 z in
      follows_at set program R w.targets h1 s1 m1 (mach b h1 s1 (k + 1 + 1) y) (after (state.take_cells 1 at s1) (λ z. F r)) z.is
      (push_below set program R w.targets w b h1 s1 (k + 1 + 1) y at (λ z. F r) code.1.1.0 l1.agrees (λ few.
      subst (λ i. Follows set program R w.targets h1 (with_cells (s1.cells + 1) s1) (mach (pushed y b) h1 s1 i y) (F r (with_cells (s1.cells + 1) s1))) (three k)
      (g r y h1 s1 y (subst (λ i. ReadyAs program.instructions w b s1.arrays i y) (sym q.is) (refl, q.has)) g1 z.listed l1 few))))
    where
      m : Machine
      m = mach b h s k held

      body : List Coded
      body = code_subscripts (inner_text c) at (kh + 1) given ▸ subarray_code (inner_text c) at (stars_of given) (stand_of c (Named x))

      sized : length body ≡ subscripts_size (known c) given + 1
      sized = length_code (code_subscripts (inner_text c) at (kh + 1) given) _ ∙ ap (λ i. i + length (subarray_code (inner_text c) at (stars_of given) (stand_of c (Named x)))) (subscripts_sized (inner_text c) at (kh + 1) given).by ∙ ap (λ i. subscripts_size (known c) given + i) (subarray_sized (inner_text c) at (stars_of given) (stand_of c (Named x))).by

      back : slice_get program.instructions (kh + 1 + subscripts_size (known c) given + 1) ≡ Some (record { at = at; does = instr.Return })
      back = subst (λ i. slice_get program.instructions i ≡ Some (record { at = at; does = instr.Return })) (sums kh (subscripts_size (known c) given)) (has_back program.instructions (kh + 1) (subscripts_size (known c) given + 1) body (one at instr.Return) sized tx.1).0
        where
          sums : (i j : ℕ) → i + 1 + (j + 1) ≡ i + 1 + j + 1
          sums i j = omega arith

      by : IsRead c (find e x) (stand_at c.names x) (λ t name. Means program.instructions w b s.arrays t name c.level b.current) ⊎ IsUnread c (find e x) (stand_at c.names x) →
          prepare_by program.marks (for_array t n) kh (reading_of_subarray c (free_of given) (stand_at c.names x)) m ≡ enter_aside program.marks kh for_value None m
      by (inl y) = ap (λ z. prepare_by program.marks (for_array t n) kh z m) (y.subarray_read (free_of given))
      by (inr y) = ap (λ z. prepare_by program.marks (for_array t n) kh z m) (y.subarray_unread (free_of given))

      three : (i : ℕ) → i + 3 ≡ i + 1 + 1 + 1
      three i = omega arith
  prepared_subarray R x given ps f at w b h s c e k kh held F does_it row code tx l ft g = tt

  -- ---- one after the other

  module _ (c : Context) (name : Stand) (q : LiveProcedure) (p : Bodied) (st : Place) (behind : ℕ) (head_is : slice_get program.instructions q.head ≡ Some (record { at = st; does = instr.Procedure (head_of p) behind })) where
    -- the row that prepares the i-th actual
    prepare_row : (at : Place) (b : Base) (h : Heap) (s : State Bodied) (k : ℕ) (held : Content) (i kh : ℕ) (f : Formal) (first : Place) (r : Reading) (over : ℕ) → StandsFor b name c.level b.current q → slice_get p.formals i ≡ Some f → slice_get program.instructions kh ≡ Some (record { at = at; does = instr.Text (record { first = first; reading = r }) over }) →
        does set program at (instr.Prepare (source_of c name) i kh) (mach b h s k held) ≡ prepare_by program.marks f.is kh r (mach b h s k held)
    prepare_row at b h s k held i kh f first r over sf ef tx =
        let m = mach b h s k held in
        ap (λ o. doing.after (doing.after (doing.after o doing.closure_in) (λ y. there (procedure_of (slice_get program.instructions y.head)))) (λ y. there (slice_get y.formals i) >>= prepare program kh)) (source_is b h s k held c name q sf)
        ∙ ap (λ o. doing.after (there (procedure_of o) m) (λ y. there (slice_get y.formals i) >>= prepare program kh)) head_is
        ∙ ap (λ o. doing.after (there o m) (prepare program kh)) ef
        ∙ ap (λ o. doing.after (there (text_of o) m) (λ t. prepare_by program.marks f.is kh t.reading)) tx

    prepared_actual : {A : Type 0} (R : A → Heap → State Bodied → Machine → Type 0) (a : Actual) → ActualDoes set program later a → (f : Formal) (at : Place) (w : World) (b : Base) (h : Heap) (s : State Bodied) (e : Env) (k kh i : ℕ) (held : Content) (F : Ready → M Bodied A) → StandsFor b name c.level b.current q → slice_get p.formals i ≡ Some f →
        HasAt program.instructions k (one at (instr.Prepare (source_of c name) i kh) ▸ one at instr.End ▸ one at instr.Push) → HasAt program.instructions kh (code_text c at kh a) → At program.instructions w b h s c e → Fits program.marks w b (1 + actual_marks a) → GoesOnReady set program later R w b h s c e (k + 3) F →
        Follows set program R w.targets h s (mach b h s k held) (after (go_actual set later a at f.is e s) (λ r. state.◌>>◌ (state.take_cells 1 at) (F r)))
    prepared_actual R (Given v g first a) d f at w b h s e k kh i held F sf ef has tx l ft go_on_ready = prepared_phrase R v g first _ a d.0 d.1 f.is at w b h s c e k kh held F _ (prepare_row at b h s k held i kh f first _ _ sf ef tx.0) has tx l ft go_on_ready
    prepared_actual R (Alone y (Named x)) d f at w b h s e k kh i held F sf ef has tx l ft go_on_ready = prepared_name R y x d f.is at w b h s c e k kh held F _ (prepare_row at b h s k held i kh f y _ _ sf ef tx.0) has tx l ft go_on_ready
    prepared_actual R (Subarray (Named x) given) d f at w b h s e k kh i held F sf ef has tx l ft go_on_ready = prepared_subarray R x given d f.is at w b h s c e k kh held F _ (prepare_row at b h s k held i kh f at _ _ sf ef tx.0) has tx l ft go_on_ready
    prepared_actual R a d f at w b h s e k kh i held F sf ef has tx l ft go_on_ready = absurd d

    pub prepares_follow : (given : Actuals) → EachActual set program later given → (fs : List Formal) (at : Place) (w : World) (b : Base) (h : Heap) (s : State Bodied) (e : Env) (k kh i : ℕ) (held : Content) → ((j : ℕ) → slice_get p.formals (i + j) ≡ slice_get fs j) → StandsFor b name c.level b.current q →
        HasAt program.instructions k (prepares_code (known c) at (source_of c name) i kh given) → HasAt program.instructions kh (code_texts c at kh given) → At program.instructions w b h s c e → Fits program.marks w b (actuals_marks given) →
        Follows set program (ActualsReady program.instructions w b s.active (k + prepares_size given) (length fs)) w.targets h s (mach b h s k held) (go_actuals set later given at fs e s)
    prepares_follow no_actuals d [] at w b h s e k kh i held ff sf has tx l ft = follows_on set program _ w.targets h s (mach b h s k held) (mach b h s k held) [] already
        (record { cells = []; ready = tt; heaped = record { held = held; is = ap (λ n. mach b h s n held) (omega arith); settled = l.agrees.settled; cells = let z = l.agrees.cells in omega (arith, z); listed = refl }; count_is = refl; few = λ n u v. omega (arith, v) })
    prepares_follow no_actuals d (f ∷ fs) at w b h s e k kh i held ff sf has tx l ft = tt
    prepares_follow (actual_and a rest) d [] at w b h s e k kh i held ff sf has tx l ft = tt
    prepares_follow (actual_and a rest) (actuals_and d ds) (f ∷ fs) at w b h s e k kh i held ff sf has tx l ft =
        let n = text_of_size (known c) a in
        let R = ActualsReady program.instructions w b s.active (k + (3 + prepares_size rest)) (suc (length fs)) in
        let tx1 = has_back program.instructions kh n (code_text c at kh a) _ (text_of_sized c at kh a).by tx in
        prepared_actual R a d f at w b h s e k kh i held (λ r. state.◌>>=◌ (go_actuals set later rest at fs e) (λ rs. state.give (r ∷ rs))) sf (first_is i (ff 0)) (has.0, (has.1.0, (has.1.1.0, tt))) (has_front program.instructions kh (code_text c at kh a) _ tx) l (fits_left (1 + actual_marks a) (actuals_marks rest) ft)
        (λ r x h1 s1 held1 rx g1 ea l1 few. let s2 = with_cells (s1.cells + 1) s1 in
        follows_then set program (ActualsReady program.instructions w (pushed x b) s2.active (k + 3 + prepares_size rest) (length fs)) R w.targets h1 s2 (mach (pushed x b) h1 s1 (k + 3) held1) (go_actuals set later rest at fs e s2) (λ rs. state.give (r ∷ rs))
        (prepares_follow rest ds fs at w (pushed x b) h1 s2 e (k + 3) (kh + n) (i + 1) held1 (λ j. next_is i j (ff (suc j))) (stands_later (later_over w b (pushed x b) s1.arrays s1.arrays (over_pushed x b) (λ z y u. u)) name c.level b.current q sf)
        (subst (λ z. HasAt program.instructions z (prepares_code (known c) at (source_of c name) (i + 1) (kh + n) rest)) (three k) has.1.1.1) tx1 (at_pushed program.instructions w b h1 s1 c e x l1) (fits_pushed x (fits_right (1 + actual_marks a) (actuals_marks rest) ft)))
        (λ rs h3 s3 m3 z g3. let y = z.heaped in
        follows_on set program R w.targets h3 s3 m3 m3 (r ∷ rs) already
        (record {
          cells = x ∷ z.cells;
          ready = (ready_later program.instructions (later_over w b (pushed_all (x ∷ z.cells) b) s1.arrays s3.arrays (over_pushed_all (x ∷ z.cells) b) g3.arrays) r x rx, z.ready);
          heaped = record { held = y.held; is = y.is ∙ ap (λ j. mach (pushed_all (x ∷ z.cells) b) h3 s3 j y.held) (same k (prepares_size rest)); settled = y.settled; cells = let j = y.cells in omega (arith, j); listed = y.listed ∙ ea };
          count_is = let j = z.count_is in omega (arith, j);
          few = λ n u v. let j = z.few (n + 1) (omega (arith, u)) (omega (arith, u, few)) in omega (arith, j);
        })))
      where
        same : (j o : ℕ) → j + 3 + o ≡ j + (3 + o)
        same j o = omega arith

        three : (j : ℕ) → j + 1 + 1 + 1 ≡ j + 3
        three j = omega arith

        first_is : (j : ℕ) → slice_get p.formals (j + 0) ≡ Some f → slice_get p.formals j ≡ Some f
        first_is j = subst (λ z. slice_get p.formals z ≡ Some f) (omega arith)

        next_is : (j o : ℕ) → slice_get p.formals (j + suc o) ≡ slice_get fs o → slice_get p.formals (j + 1 + o) ≡ slice_get fs o
        next_is j o = subst (λ z. slice_get p.formals z ≡ slice_get fs o) (omega arith)
