-- Asides: texts of actuals that are entered at once, for VALUE RESULT.
use Rattle.std.proofs.Common.{◌≡◌, ℕ, ◌+◌, List, [], length, map, Option, Some, refl, sym, ap, subst, arith}
use Rattle.std.specs.Prelude.{slice_get, false}
use Rattle.value_ops.specs.declared.places.Place.{Place}
use Rattle.value_ops.specs.declared.values.Value.{Value}
use Rattle.algolw_typing.specs.Types.{ValueType}
use Rattle.program_meaning.specs.Phrases.{Phrase}
use Rattle.program_meaning.specs.State as state
use Rattle.program_meaning.specs.State.{State, Setting, Outcome, on, jump, stop, M, Use, for_value, for_place, after}
use Rattle.program_meaning.specs.Environments.{Env, Bodied, Job, go, head}
use Rattle.stack_code.specs.Instr as instr
use Rattle.stack_code.specs.Instr.{Instr, as_asked}
use Rattle.stack_code.specs.Code.{Code}
use Rattle.stack_code.specs.Machine as machine
use Rattle.stack_code.specs.Machine.{Machine, Content}
use Rattle.stack_code.specs.Table.{does, enter_aside}
use Rattle.phrase_code.specs.Sizes.{size}
use Rattle.phrase_code.specs.Coding.{Context, known, code, one, ◌▸◌}
use Rattle.code_simulation.specs.Relation.{HasAt, Base, Heap, mach, World, Target, Holds, Grew, Agrees, At, content_of}
use Rattle.code_simulation.specs.Following.{Follows, Gives, Reached, PhraseFollows}
use Rattle.code_simulation.proofs.Stacks.{has_front, has_back, length_map}
use Rattle.code_simulation.proofs.Rows.{one_row, follows_from, follows_then, grew_here}
use Rattle.code_simulation.proofs.Keeping.{pushed, with_cells, agrees_on, runs_under_way}
use Rattle.code_simulation.proofs.Values.{follows_at}
use Rattle.code_simulation.proofs.Operators.{at_reached, gives_as}
use Rattle.program_meaning.specs.Environments.{Ready, with_value, value_ready}
use Rattle.stack_code.specs.Doing.{frame_for}
use Rattle.phrase_code.specs.Sizes.{text_size}
use Rattle.phrase_code.specs.Coding.{inner_text, text_code}
use Rattle.code_simulation.specs.Relation.{asked}
use Rattle.code_simulation.proofs.Sizes.{code_sized, text_sized}
use Rattle.code_simulation.proofs.Keeping.{later_over, listed_later}
use Rattle.code_simulation.proofs.Texts.{inside, answered_in, over_inside, settled_in, holds_in, newest_at, returned, ended_for_value, ended_for_place}
use Rattle.code_simulation.proofs.Copied.{inside_at}
use Rattle.code_simulation.proofs.Cells.{follows_plain}
use Rattle.code_simulation.proofs.Actuals.{ReadyAs, GoesOnReady}
use Rattle.phrase_code.specs.Marks.{marks}
use Rattle.code_simulation.specs.Room.{Fits}
use Rattle.code_simulation.proofs.Room.{fits_aside, room_for_frame, room_for_entry, link_is_below, text_in_room}
use Rattle.code_simulation.proofs.Values.{push_below}

-- a value is held that is ready
abbrev pub ValueHeld : Base → List state.Entry → ℕ → Ready → Heap → State Bodied → Machine → Type 0
ValueHeld b active next r h s m = (u : Value) × (r ≡ with_value u) × Reached b active next (machine.a_value u) h s m

module _ (set : Setting) (program : Code) (later : Job → M Bodied state.Given) where
  -- a text that is entered as an aside, up to behind its return; b is the stacks round it
  aside_inside : (u : Use) (type : Option ValueType) (a : Phrase) → PhraseFollows set program later a → (at : Place) (w : World) (b : Base) (h : Heap) (s : State Bodied) (c : Context) (e : Env) (k head : ℕ) (held : Content) (R : state.Given → Heap → State Bodied → Machine → Type 0) (f : state.Given → M Bodied state.Given) (does_it : Instr) →
      does set program at does_it (mach b h s k held) ≡ enter_aside program.marks head u type (mach b h s k held) → slice_get program.instructions k ≡ Some (record { at = at; does = does_it }) → HasAt program.instructions (head + 1) (code (inner_text c) at as_asked (head + 1) a) → slice_get program.instructions (head + 1 + size (known c) a) ≡ Some (record { at = at; does = instr.Return }) → At program.instructions w b h s c e → Fits program.marks w b (1 + marks a) →
      ((r : state.Given) (h' : Heap) (s' : State Bodied) (x : Content) → Holds b h' r x → Grew h s h' s' → s'.active ≡ s.active → Agrees program.instructions w b h' s' →
      Follows set program R w.targets h' s' (mach (answered_in (frame_for (mach b h s k held) (k + 1) (length (map (content_of s.memory) b.slots)) head b.current u type false) machine.an_aside x b) h' s' (k + 1) x) (f r s')) →
      Follows set program R w.targets h s (mach b h s k held) (after (go set later a u at e s) f)
  aside_inside u type a p at w b h s c e k head held R f does_it row i body back l ft g =
      let n = length (map (content_of s.memory) b.slots) in
      let fr = frame_for (mach b h s k held) (k + 1) n head b.current u type false in
      let x = machine.an_aside in
      let bi = inside fr x b in
      let kb = head + 1 + size (known c) a in
      let ag = l.agrees in
      let li : At program.instructions w bi h s (inner_text c) e = inside_at program.instructions w b h s s c e fr x ag (grew_here h s) refl refl refl refl refl refl l.shows (listed_later program.instructions (later_over w b bi s.arrays s.arrays (over_inside fr x b) (λ j z i. i)) b.entries [] s.active ag.listed) in
      text_in_room set program R w.targets b h s k held (mach b h s k held) (record { at = at; does = does_it }) (k + 1) n head (head + 1) b.current u type false x (after (go set later a u at e s) f) (link_is_below b.frames b.current (runs_under_way l)) (room_for_frame ft) (room_for_entry ft) i row
      (follows_then set program (Gives bi s.active kb) R w.targets h s (mach bi h s (head + 1) held) (go set later a u at e s) f
      (p.by u at w bi h s (inner_text c) e as_asked (head + 1) held body (ap asked (newest_at fr b.frames)) li (fits_aside fr ft))
      (λ r h4 s4 m4 q g4. let y = q.held in let pr = q.reached in
      follows_at set program R w.targets h4 s4 m4 (mach bi h4 s4 kb y) (f r s4) pr.is
      (follows_from set program R w.targets h4 s4 h4 s4 (mach bi h4 s4 kb y) (mach (answered_in fr x y b) h4 s4 (k + 1) y) (f r s4) (returned set program b h4 s4 kb y fr x at back) (grew_here h4 s4)
      (g r h4 s4 y (holds_in b bi h4 r y refl q.holds) g4 pr.listed
      (agrees_on program.instructions w b h h4 s s4 g4 (settled_in bi b h4 s4.memory s4.records s4.fields refl (λ j i. i) pr.settled) pr.cells pr.listed ag)))))

  -- an aside for a value, which is made into its type
  pub aside_for_value : (type : Option ValueType) (a : Phrase) → PhraseFollows set program later a → (at : Place) (w : World) (b : Base) (h : Heap) (s : State Bodied) (c : Context) (e : Env) (k head : ℕ) (held : Content) (does_it : Instr) →
      does set program at does_it (mach b h s k held) ≡ enter_aside program.marks head for_value type (mach b h s k held) → slice_get program.instructions k ≡ Some (record { at = at; does = does_it }) → slice_get program.instructions (k + 1) ≡ Some (record { at = at; does = instr.End }) → HasAt program.instructions (head + 1) (code (inner_text c) at as_asked (head + 1) a) → slice_get program.instructions (head + 1 + size (known c) a) ≡ Some (record { at = at; does = instr.Return }) → At program.instructions w b h s c e → Fits program.marks w b (1 + marks a) →
      Follows set program (Gives b s.active (k + 1 + 1)) w.targets h s (mach b h s k held) (after (go set later a for_value at e s) (state.made_result at type))
  aside_for_value type a p at w b h s c e k head held does_it row i en body back l ft =
      aside_inside for_value type a p at w b h s c e k head held (Gives b s.active (k + 1 + 1)) (state.made_result at type) does_it row i body back l ft
      (λ r h4 s4 x hx g4 ea a4. gives_as set program b s4.active s.active (k + 1 + 1) w.targets h4 s4 _ (state.made_result at type r s4) ea
      (ended_for_value set program b h4 s4 (k + 1) x w.targets at w (mach b h s k held) (k + 1) (length (map (content_of s.memory) b.slots)) head b.current type false machine.an_aside r en refl refl (length_map (content_of s.memory) b.slots) a4 hx))

  -- an aside for a place
  pub aside_for_place : (type : Option ValueType) (a : Phrase) → PhraseFollows set program later a → (at : Place) (w : World) (b : Base) (h : Heap) (s : State Bodied) (c : Context) (e : Env) (k head : ℕ) (held : Content) (does_it : Instr) →
      does set program at does_it (mach b h s k held) ≡ enter_aside program.marks head for_place type (mach b h s k held) → slice_get program.instructions k ≡ Some (record { at = at; does = does_it }) → slice_get program.instructions (k + 1) ≡ Some (record { at = at; does = instr.End }) → HasAt program.instructions (head + 1) (code (inner_text c) at as_asked (head + 1) a) → slice_get program.instructions (head + 1 + size (known c) a) ≡ Some (record { at = at; does = instr.Return }) → At program.instructions w b h s c e → Fits program.marks w b (1 + marks a) →
      Follows set program (Gives b s.active (k + 1 + 1)) w.targets h s (mach b h s k held) (go set later a for_place at e s)
  aside_for_place type a p at w b h s c e k head held does_it row i en body back l ft =
      follows_plain set program (Gives b s.active (k + 1 + 1)) w.targets h s (mach b h s k held) (go set later a for_place at e s)
      (aside_inside for_place type a p at w b h s c e k head held (Gives b s.active (k + 1 + 1)) (λ r. state.give r) does_it row i body back l ft
      (λ r h4 s4 x hx g4 ea a4. gives_as set program b s4.active s.active (k + 1 + 1) w.targets h4 s4 _ (on r s4) ea
      (ended_for_place set program b h4 s4 (k + 1) x w.targets at w (mach b h s k held) (k + 1) (length (map (content_of s.memory) b.slots)) head b.current type false machine.an_aside r en refl refl (length_map (content_of s.memory) b.slots) a4 hx)))

  -- ---- what was made is ready

  made_ready : (b : Base) (active : List state.Entry) (next : ℕ) (ts : List Target) (h : Heap) (s : State Bodied) (m : Machine) (o : Outcome Bodied Value) → Follows set program (Gives b active next) ts h s m (after o (λ u. state.give (state.a_value u))) → Follows set program (ValueHeld b active next) ts h s m (after o (λ u. state.give (with_value u)))
  made_ready b active next ts h s m (jump l s') f = f
  made_ready b active next ts h s m (stop y w s') f = f
  made_ready b active next ts h s m (on u s') x = let q = x.is in by q.held q.holds q.reached
    where
      by : (y : Content) → Holds b x.heap (state.a_value u) y → Reached b active next y x.heap s' x.last → Follows set program (ValueHeld b active next) ts h s m (on (with_value u) s')
      by (machine.a_value v) e q = record { heap = x.heap; last = x.last; comes = x.comes; is = (u, refl, subst (λ z. Reached b active next (machine.a_value z) x.heap s' x.last) (sym e) q); grew = x.grew }
      by y e q = absurd e

  result_ready : (at : Place) (t : ValueType) (b : Base) (active : List state.Entry) (next : ℕ) (ts : List Target) (h : Heap) (s : State Bodied) (m : Machine) (r : Outcome Bodied state.Given) → Follows set program (Gives b active next) ts h s m (after r (state.made_result at (Some t))) → Follows set program (ValueHeld b active next) ts h s m (after (after r (state.value_in at)) (λ v. state.◌>>=◌ (state.made at t v) (λ u. state.give (with_value u))))
  result_ready at t b active next ts h s m (on state.nothing s') f = tt
  result_ready at t b active next ts h s m (on (state.a_spot k) s') f = tt
  result_ready at t b active next ts h s m (on (state.a_value v) s') f = made_ready b active next ts h s m (state.made at t v s') f
  result_ready at t b active next ts h s m (jump l s') f = f
  result_ready at t b active next ts h s m (stop y w s') f = f

  -- the text of an actual is entered as an aside for its value, by whatever row, and its value is pushed
  pub aside_actual : {A : Type 0} (R : A → Heap → State Bodied → Machine → Type 0) (t : ValueType) (a : Phrase) → PhraseFollows set program later a → (at : Place) (w : World) (b : Base) (h : Heap) (s : State Bodied) (c : Context) (e : Env) (k head : ℕ) (held : Content) (F : Ready → M Bodied A) (does_it : Instr) →
      does set program at does_it (mach b h s k held) ≡ enter_aside program.marks head for_value (Some t) (mach b h s k held) → HasAt program.instructions k (one at does_it ▸ one at instr.End ▸ one at instr.Push) → HasAt program.instructions (head + 1) (code (inner_text c) at as_asked (head + 1) a) → slice_get program.instructions (head + 1 + size (known c) a) ≡ Some (record { at = at; does = instr.Return }) →
      At program.instructions w b h s c e → Fits program.marks w b (1 + marks a) → GoesOnReady set program later R w b h s c e (k + 3) F →
      Follows set program R w.targets h s (mach b h s k held) (after (value_ready at t (go set later a for_value at e) s) (λ r. state.◌>>◌ (state.take_cells 1 at) (F r)))
  aside_actual R t a p at w b h s c e k head held F does_it row code body back l ft g =
      let ek : k + 1 + 1 + 1 ≡ k + 3 = omega arith in
      let K : Ready → M Bodied _ = λ r. state.◌>>◌ (state.take_cells 1 at) (F r) in
      follows_then set program (ValueHeld b s.active (k + 1 + 1)) R w.targets h s (mach b h s k held) (value_ready at t (go set later a for_value at e) s) K
      (result_ready at t b s.active (k + 1 + 1) w.targets h s (mach b h s k held) (go set later a for_value at e s)
      (aside_for_value (Some t) a p at w b h s c e k head held does_it row code.0 code.1.0 body back l ft))
      (λ r h1 s1 m1 q g1. let u = q.0 in let x = machine.a_value u in let z = q.2 in
      let l1 = at_reached set program w b h s c e (k + 1 + 1) x h1 s1 m1 l g1 z in
      follows_at set program R w.targets h1 s1 m1 (mach b h1 s1 (k + 1 + 1) x) (K r s1) z.is
      (push_below set program R w.targets w b h1 s1 (k + 1 + 1) x at (λ y. F r) code.1.1.0 l1.agrees (λ few.
      subst (λ i. Follows set program R w.targets h1 (with_cells (s1.cells + 1) s1) (mach (pushed x b) h1 s1 i x) (F r (with_cells (s1.cells + 1) s1))) (sym ek)
      (g r x h1 s1 x (subst (λ i. ReadyAs program.instructions w b s1.arrays i x) (sym q.1) refl) g1 z.listed l1 few))))

  -- an actual for a formal by VALUE RESULT: its text is stepped over, and entered as an aside for its value
  pub value_result_actual : {A : Type 0} (R : A → Heap → State Bodied → Machine → Type 0) (t : ValueType) (first : Place) (reading : Rattle.stack_code.specs.Instr.Reading) (a : Phrase) → PhraseFollows set program later a → (at : Place) (w : World) (b : Base) (h : Heap) (s : State Bodied) (c : Context) (e : Env) (k : ℕ) (held : Content) (F : Ready → M Bodied A) →
      HasAt program.instructions k (text_code at k first reading (size (known c) a) (code (inner_text c) at as_asked (k + 1) a) ▸ one at (instr.Aside k for_value (Some t)) ▸ one at instr.End ▸ one at instr.Push) → At program.instructions w b h s c e → Fits program.marks w b (1 + marks a) → GoesOnReady set program later R w b h s c e (k + (text_size (size (known c) a) + 3)) F →
      Follows set program R w.targets h s (mach b h s k held) (after (value_ready at t (go set later a for_value at e) s) (λ r. state.◌>>◌ (state.take_cells 1 at) (F r)))
  value_result_actual R t first reading a p at w b h s c e k held F code l ft g =
      let n = size (known c) a in
      let kt = k + text_size n in
      let body = Rattle.phrase_code.specs.Coding.code (inner_text c) at as_asked (k + 1) a in
      let more = one at (instr.Aside k for_value (Some t)) ▸ one at instr.End ▸ one at instr.Push in
      let has0 = has_front program.instructions k (text_code at k first reading n body) more code in
      let has1 = has_back program.instructions k (text_size n) (text_code at k first reading n body) more (text_sized at k first reading n body (code_sized (inner_text c) at as_asked (k + 1) a)).by code in
      let back = (has_back program.instructions (k + 1) n body (one at instr.Return) (code_sized (inner_text c) at as_asked (k + 1) a).by has0.1).0 in
      let ek : k + (text_size n + 3) ≡ kt + 3 = omega arith in
      follows_from set program R w.targets h s h s (mach b h s k held) (mach b h s kt held) (after (value_ready at t (go set later a for_value at e) s) (λ r. state.◌>>◌ (state.take_cells 1 at) (F r))) (one_row set program (mach b h s k held) (mach b h s kt held) _ has0.0 refl) (grew_here h s)
      (aside_actual R t a p at w b h s c e kt k held F (instr.Aside k for_value (Some t)) refl has1 (has_front program.instructions (k + 1) body (one at instr.Return) has0.1) back l ft (subst (λ i. GoesOnReady set program later R w b h s c e i F) ek g))
