-- FOR with a step.
use Rattle.std.proofs.Common.{◌≡◌, ◌≢◌, ℕ, ◌+◌, ◌-◌, ◌<◌, ℤ, pos, ◌+ℤ◌, List, [], ◌∷◌, length, map, Option, Some, refl, sym, ap, ◌∙◌, subst, arith}
use Rattle.std.specs.Prelude.{slice_get, Bool, true, false}
use Rattle.std.specs.Ordering.{int_eq}
use Rattle.value_ops.specs.declared.places.Place.{Place}
use Rattle.value_ops.specs.declared.faults.Fault.TheVariants as fault
use Rattle.value_ops.specs.declared.values.Value.{Value}
use Rattle.value_ops.specs.declared.values.Value.TheVariants as value
use Rattle.program_meaning.specs.Phrases.{Phrase, Name, ForStep}
use Rattle.program_meaning.specs.State as state
use Rattle.program_meaning.specs.State.{State, Setting, Outcome, on, jump, stop, M, Use, for_value, for_place, ArrayInfo, after, behind_first}
use Rattle.program_meaning.specs.Copying.{has_turn, shown}
use Rattle.program_meaning.specs.Environments.{Env, Bodied, Job, step_job, go, step_turns, at_control}
use Rattle.stack_code.specs.Instr as instr
use Rattle.stack_code.specs.Instr.{Instr, Mode, the_value}
use Rattle.stack_code.specs.Code.{Code, Coded}
use Rattle.stack_code.specs.Machine as machine
use Rattle.stack_code.specs.Machine.{Machine, Content, Entry, on_top_of, lowest, replaced}
use Rattle.stack_code.specs.Doing as doing
use Rattle.stack_code.specs.Doing.{Next, Row, there, go_on, enter, ◌>>=◌, ◌>>◌}
use Rattle.stack_code.specs.Table.{does, turn_or_exit, first_turn, next_turn, loop_cells}
use Rattle.phrase_code.specs.Sizes.{size}
use Rattle.phrase_code.specs.Coding.{Context, known, code, turn_context, one, ◌▸◌}
use Rattle.code_simulation.specs.Written.{IsWritten}
use Rattle.code_simulation.specs.Relation.{HasAt, Slot, fixed, Base, Heap, mach, World, Target, HasEntry, Shows, Settled, Listed, Grew, Agrees, At, Wanted, content_of}
use Rattle.code_simulation.specs.Following.{already, Follows, Gives, Reached, LoopEnds, controlled, loop_base, PhraseFollows, CodeDoes, LaterFollows}
use Rattle.code_simulation.proofs.Stacks.{top_is, top_at, top_more, is_other, length_map, lowest_append, has_front}
use Rattle.code_simulation.proofs.Rows.{one_row, follows_from, follows_then, follows_on, grew_here, grew_on}
use Rattle.code_simulation.proofs.Keeping.{Over, pushed, with_cells, later_over, listed_later, shows_later, start_later, agrees_over, settled_pushed, grew_to, at_on, at_pushed}
use Rattle.code_simulation.proofs.Values.{follows_at, push_then, settled_below, fault_here, gives_nothing}
use Rattle.code_simulation.proofs.Counting.{ticked, begun_state, begin_then, at_begun, follows_since, follows_assoc, tick_then}
use Rattle.code_simulation.proofs.Operators.{behind, at_reached, ends_at, gives_as}
use Rattle.code_simulation.proofs.Choices.{integer_by, code_at}
use Rattle.code_simulation.proofs.Texts.{settled_in}
use Rattle.code_simulation.proofs.Scopes.{own_entry}
use Rattle.phrase_code.specs.Marks.{marks}
use Rattle.std.specs.Prelude.{max}
use Rattle.code_simulation.specs.Room.{Fits}
use Rattle.program_meaning.specs.State.{most_cells}
use Rattle.code_simulation.proofs.Room.{fits_left, fits_right, fits_pushed, fits_turn, room_for_entry, room_above_mark, deep_behind, enter_in_room}
use Rattle.code_simulation.proofs.Values.{push_below}

-- ---- the three cells

three_cells : (l : List Content) (x y z : Content) → (on_top_of (z ∷ y ∷ x ∷ l) (length (z ∷ y ∷ x ∷ l) - 3) ≡ Some x) × (on_top_of (z ∷ y ∷ x ∷ l) (length (z ∷ y ∷ x ∷ l) - 2) ≡ Some y) × (on_top_of (z ∷ y ∷ x ∷ l) (length (z ∷ y ∷ x ∷ l) - 1) ≡ Some z)
three_cells l x y z = (
  top_more z (y ∷ x ∷ l) _ x (top_more y (x ∷ l) _ x (top_at x l (length (z ∷ y ∷ x ∷ l) - 3) (omega arith))),
  top_more z (y ∷ x ∷ l) _ y (top_at y (x ∷ l) (length (z ∷ y ∷ x ∷ l) - 2) (omega arith)),
  top_at z (y ∷ x ∷ l) (length (z ∷ y ∷ x ∷ l) - 1) (omega arith),
)

replaced_other : {A : Type 0} (y : A) (xs : List A) (k : ℕ) (v : A) → k ≢ length xs → replaced (y ∷ xs) k v ≡ y ∷ replaced xs k v
replaced_other y xs k v h = ap (λ (b : Bool). let l : List _ = elim b [ true ↦ v ∷ xs | false ↦ y ∷ replaced xs k v ] in l) (is_other k (length xs) h)

replaced_third : (l : List Content) (x y z v : Content) → replaced (z ∷ y ∷ x ∷ l) (length (z ∷ y ∷ x ∷ l) - 3) v ≡ z ∷ y ∷ v ∷ l
replaced_third l x y z v =
    replaced_other z (y ∷ x ∷ l) (length (z ∷ y ∷ x ∷ l) - 3) v (λ e. absurd (omega (arith, e)))
    ∙ ap (λ r. z ∷ r) (replaced_other y (x ∷ l) (length (z ∷ y ∷ x ∷ l) - 3) v (λ e. absurd (omega (arith, e))))
    ∙ ap (λ r. z ∷ y ∷ r) (Rattle.code_simulation.proofs.Texts.replaced_newest x v l (length (z ∷ y ∷ x ∷ l) - 3) (omega arith))

module _ (i j n : ℤ) (b : Base) (h : Heap) (s : State Bodied) (k : ℕ) (held : Content) where
  loop_cells_are : loop_cells (mach (loop_base i j n b) h s k held) ≡ doing.on (i, j, n) (mach (loop_base i j n b) h s k held)
  loop_cells_are =
      let m0 = mach (loop_base i j n b) h s k held in
      let t = three_cells (map (content_of s.memory) b.slots) (machine.a_value (value.Integer i)) (machine.a_value (value.Integer j)) (machine.a_value (value.Integer n)) in
      let last : ℤ → ℤ → Content → Row (ℤ × ℤ × ℤ) = λ x y c. doing.integer_in c >>= λ z. doing.give (x, y, z) in
      let mid : ℤ → Content → Row (ℤ × ℤ × ℤ) = λ x c. doing.integer_in c >>= λ y. ((doing.cell_at (length m0.cells - 1) >>= doing.integer_in) >>= λ z. doing.give (x, y, z)) in
      ap (λ o. doing.after (doing.after (there o m0) doing.integer_in) (λ x. (doing.cell_at (length m0.cells - 2) >>= doing.integer_in) >>= λ y. ((doing.cell_at (length m0.cells - 1) >>= doing.integer_in) >>= λ z. doing.give (x, y, z)))) t.0
      ∙ ap (λ o. doing.after (doing.after (there o m0) doing.integer_in) (λ y. (doing.cell_at (length m0.cells - 1) >>= doing.integer_in) >>= λ z. doing.give (i, y, z))) t.1
      ∙ ap (λ o. doing.after (doing.after (there o m0) doing.integer_in) (λ z. doing.give (i, j, z))) t.2

  set_control : (v : ℤ) → doing.set_cell (length (mach (loop_base i j n b) h s k held).cells - 3) (machine.a_value (value.Integer v)) (mach (loop_base i j n b) h s k held) ≡ doing.on tt (mach (loop_base v j n b) h s k held)
  set_control v = ap (λ l. doing.on tt (record (mach (loop_base i j n b) h s k held) { cells = l })) (replaced_third (map (content_of s.memory) b.slots) (machine.a_value (value.Integer i)) (machine.a_value (value.Integer j)) (machine.a_value (value.Integer n)) (machine.a_value (value.Integer v)))

abbrev over_loop : (i j n : ℤ) (b : Base) → Over b (loop_base i j n b)
over_loop i j n b = record { slots = fixed (machine.a_value (value.Integer n)) ∷ fixed (machine.a_value (value.Integer j)) ∷ fixed (machine.a_value (value.Integer i)) ∷ []; slots_are = refl; entries = []; entries_are = refl; frames = []; frames_are = refl; reserved = λ k z. z }

settled_loop : (i j n : ℤ) (b : Base) (h : Heap) (memory : List (Option Value)) (records : List state.RecordInfo) (fields : ℕ) → Settled b h memory records fields → Settled (loop_base i j n b) h memory records fields
settled_loop i j n b h memory records fields a = settled_pushed (machine.a_value (value.Integer n)) (controlled (value.Integer j) (controlled (value.Integer i) b)) h memory records fields (settled_pushed (machine.a_value (value.Integer j)) (controlled (value.Integer i) b) h memory records fields (settled_pushed (machine.a_value (value.Integer i)) b h memory records fields a))

-- the stacks of a turn
abbrev stepped_base : Place → Name → ℤ → ℤ → ℤ → Base → Base
stepped_base at x i j n b = record (loop_base i j n b) { entries = machine.a_name x.text (length b.slots) ∷ (machine.a_turn at 0 ∷ b.entries) }

module _ (set : Setting) (program : Code) (later : Job → M Bodied state.Given) (hl : LaterFollows set program later) where
  -- the row that begins a turn or leaves the loop
  turns_then : (at : Place) (x : Name) (i i' j n : ℤ) (body : Phrase) → IsWritten body → (w : World) (b : Base) (h : Heap) (s : State Bodied) (c : Context) (e : Env) (k kr : ℕ) (held : Content) (m : Machine) (i0 : Coded) → i0.at ≡ at → slice_get program.instructions m.pc ≡ Some i0 →
      HasAt program.instructions k (one at (instr.Turn x.text) ▸ code (turn_context c x) at the_value (k + 1) body ▸ one at (instr.NextTurn k c.count)) → does set program i0.at i0.does m ≡ turn_or_exit set k (k + 1 + size (known (turn_context c x)) body + 1) (has_turn i' j n) i' (mach (loop_base i j n b) h s kr held) → length b.slots + 3 ≡ s.cells → At program.instructions w b h (record s { cells = s.cells - 3 }) c e → Fits program.marks w b (1 + marks body) → length b.slots < most_cells →
      Follows set program (LoopEnds b s.active (k + 1 + size (known (turn_context c x)) body + 1)) w.targets h s m (step_turns set later at x i' j n body e s)
  turns_then at x i i' j n body wb w b h s c e k kr held m i0 ea f code d q l ft few = by (has_turn i' j n) d
    where
      exit : ℕ
      exit = k + 1 + size (known (turn_context c x)) body + 1

      R : state.Given → Heap → State Bodied → Machine → Type 0
      R = LoopEnds b s.active exit

      lb : Base
      lb = loop_base i j n b

      listed : Listed program.instructions lb s.arrays lb.entries [] s.active
      listed = listed_later program.instructions (later_over w b lb s.arrays s.arrays (over_loop i j n b) (λ y z o. o)) b.entries [] s.active l.agrees.listed

      by : (t : Bool) → does set program i0.at i0.does m ≡ turn_or_exit set k exit t i' (mach lb h s kr held) → Follows set program R w.targets h s m (state.test t (state.◌>>◌ (state.tick set at) (later (step_job at x i' j n body e))) (state.give state.nothing) s)
      by false d1 = follows_on set program R w.targets h s m (mach b h s exit machine.nothing) state.nothing (one_row set program m (mach b h s exit machine.nothing) i0 f d1) (refl, refl, l.agrees.settled, q, refl)
      by true d1 = subst (λ z. Follows set program R w.targets h s m (after (state.tick set z s) (λ y. later (step_job at x i' j n body e)))) ea
          (tick_then set program R w.targets lb h s kr held m i0 (doing.cells_now >>= λ o. doing.set_cell (o - 3) (machine.a_value (value.Integer i')) >> doing.go_to k) (λ z. later (step_job at x i' j n body e)) f d1 listed (settled_loop i j n b h s.memory s.records s.fields l.agrees.settled)
          (λ d2. follows_from set program R w.targets h (ticked s) h (ticked s) m (mach (loop_base i' j n b) h (ticked s) k held) (later (step_job at x i' j n body e) (ticked s)) (one_row set program m (mach (loop_base i' j n b) h (ticked s) k held) i0 f (d2 ∙ ap (λ r. doing.after r (λ z. doing.go_to k)) (set_control i j n b h (ticked s) kr held i'))) (grew_here h (ticked s))
          (hl.step at x i' j n body wb w b h (ticked s) c e k held code q (at_on program.instructions w b h h (record s { cells = s.cells - 3 }) (record (ticked s) { cells = s.cells - 3 }) c e (grew_to h (record s { cells = s.cells - 3 }) (record (ticked s) { cells = s.cells - 3 }) refl refl refl refl (λ d. d)) l.agrees.settled l.agrees.cells refl l) ft few)))

  -- ---- a turn, and those that follow

  turn_at : (at : Place) (x : Name) (i j n : ℤ) (w : World) (b : Base) (h : Heap) (s : State Bodied) (c : Context) (e : Env) → length b.slots + 3 ≡ s.cells → At program.instructions w b h (record s { cells = s.cells - 3 }) c e → At program.instructions w (stepped_base at x i j n b) h (record s { active = state.in_turn at (shown x (state.a_number i)) ∷ s.active }) (turn_context c x) (at_control x i e)
  turn_at at x i j n w b h s c e q l = record {
    agrees = agrees_over program.instructions w b tb h h (record s { cells = s.cells - 3 }) s1 o (grew_to h (record s { cells = s.cells - 3 }) s1 refl refl refl refl (λ d. d)) (settled_in lb tb h s.memory s.records s.fields refl (λ y z. z) (settled_loop i j n b h s.memory s.records s.fields l.agrees.settled)) (omega (arith, q)) listed l.agrees;
    shows = (
      refl,
      (
        refl,
        own_entry program.instructions w tb s.arrays c.level b.current l.start st _ (machine.a_name x.text (length b.slots)) (length b.slots) (fixed (machine.a_value (value.Integer i))) refl
            (top_at (machine.a_name x.text (length b.slots)) (machine.a_turn at 0 ∷ b.entries) (l.start + (c.count + 1)) (let y = l.counted in omega (arith, y))) refl control,
      ),
      shows_later program.instructions lo e c.names c.level b.current l.shows,
    );
    start = l.start;
    starts = st;
    counted = let y = l.counted in omega (arith, y);
  }
    where
      lb : Base
      lb = loop_base i j n b

      tb : Base
      tb = stepped_base at x i j n b

      s1 : State Bodied
      s1 = record s { active = state.in_turn at (shown x (state.a_number i)) ∷ s.active }

      o : Over b tb
      o = record { slots = (over_loop i j n b).slots; slots_are = refl; entries = machine.a_name x.text (length b.slots) ∷ machine.a_turn at 0 ∷ []; entries_are = refl; frames = []; frames_are = refl; reserved = λ y z. z }

      lo : Rattle.code_simulation.proofs.Keeping.Later w b s.arrays w tb s.arrays
      lo = later_over w b tb s.arrays s.arrays o (λ y z p. p)

      st : doing.start_at tb.frames (Some tb.current) ≡ Some l.start
      st = start_later b.frames tb.frames lo.frames (Some b.current) l.start l.starts

      control : on_top_of tb.slots (length b.slots) ≡ Some (fixed (machine.a_value (value.Integer i)))
      control = top_more _ (fixed (machine.a_value (value.Integer j)) ∷ fixed (machine.a_value (value.Integer i)) ∷ b.slots) (length b.slots) _ (top_more _ (fixed (machine.a_value (value.Integer i)) ∷ b.slots) (length b.slots) _ (top_is (fixed (machine.a_value (value.Integer i))) b.slots))

      listed : Listed program.instructions tb s.arrays tb.entries [] s1.active
      listed = (state.a_number i, subst (Rattle.code_simulation.specs.Relation.Shown tb s.arrays (state.a_number i)) (sym control) refl, (refl, refl, listed_later program.instructions lo b.entries [] s.active l.agrees.listed))

  pub step_job_follows : (at : Place) (x : Name) (i j n : ℤ) (body : Phrase) → IsWritten body → PhraseFollows set program later body → (w : World) (b : Base) (h : Heap) (s : State Bodied) (c : Context) (e : Env) (k : ℕ) (held : Content) →
      HasAt program.instructions k (one at (instr.Turn x.text) ▸ code (turn_context c x) at the_value (k + 1) body ▸ one at (instr.NextTurn k c.count)) → length b.slots + 3 ≡ s.cells → At program.instructions w b h (record s { cells = s.cells - 3 }) c e → Fits program.marks w b (1 + marks body) → length b.slots < most_cells →
      Follows set program (LoopEnds b s.active (k + 1 + size (known (turn_context c x)) body + 1)) w.targets h s (mach (loop_base i j n b) h s k held) (after (state.under (state.in_turn at (shown x (state.a_number i))) (go set later body for_value at (at_control x i e)) s) (λ r. step_turns set later at x (i +ℤ j) j n body e))
  unfolding turn_at
  step_job_follows at x i j n body wb pb w b h s c e k held code q l ft few =
      enter_in_room set program m0 m0 i0 (machine.a_turn at 0) ((doing.enter program.marks (machine.a_name x.text (length m0.cells - 3))) >> go_on) (room_for_entry ft) (shape (doing.enter program.marks (machine.a_turn at 0) m0))
      (λ d1. enter_in_room set program m0 m1 i0 (machine.a_name x.text (length m0.cells - 3)) go_on (room_above_mark (marks body) (machine.a_turn at 0 ∷ b.entries) ft ft.few refl) d1
      (λ d2. follows_from set program R w.targets h s h s1 m0 (mach tb h s1 (k + 1) held) whole (one_row set program m0 (mach tb h s1 (k + 1) held) i0 code.0 (d2 ∙ ap (λ z. doing.on tt (record (mach tb h s1 (k + 1) held) { entries = machine.a_name x.text z ∷ (machine.a_turn at 0 ∷ b.entries) })) cell)) (grew_to h s s1 refl refl refl refl (λ d. d))
      (follows_assoc set program R w.targets h s1 (mach tb h s1 (k + 1) held) (go set later body for_value at (at_control x i e) s1) (λ a. state.◌>>◌ state.pop_entry (state.give a)) (λ r. step_turns set later at x (i +ℤ j) j n body e)
      (follows_then set program (Gives tb s1.active k2) R w.targets h s1 (mach tb h s1 (k + 1) held) (go set later body for_value at (at_control x i e) s1) (λ r s4. step_turns set later at x (i +ℤ j) j n body e (record s4 { active = behind_first s4.active }))
      (pb.by for_value at w tb h s1 (turn_context c x) (at_control x i e) the_value (k + 1) held (has_front program.instructions (k + 1) _ _ code.1) refl lt (fits_turn at 0 x.text (length b.slots) tb.slots (omega arith) few ft))
      (λ r h4 s4 m4 g gr.
      let y = g.reached in
      let s5 : State Bodied = record s4 { active = behind_first s4.active } in
      let ac : s5.active ≡ s.active = ap behind_first y.listed in
      let st5 = Rattle.code_simulation.proofs.Jumping.settled_above b tb h4 s4.memory s4.records s4.fields over y.settled in
      let g5 = grew_on h (record s { cells = s.cells - 3 }) h s1 h4 (record s5 { cells = s5.cells - 3 }) (grew_to h (record s { cells = s.cells - 3 }) s1 refl refl refl refl (λ d. d)) (grew_on h s1 h4 s4 h4 (record s5 { cells = s5.cells - 3 }) gr (grew_to h4 s4 (record s5 { cells = s5.cells - 3 }) refl refl refl refl (deep_behind s4))) in
      let l5 = at_on program.instructions w b h h4 (record s { cells = s.cells - 3 }) (record s5 { cells = s5.cells - 3 }) c e g5 st5 (let z = y.cells in omega (arith, z)) ac l in
      follows_at set program R w.targets h4 s4 m4 (mach tb h4 s4 k2 g.held) _ y.is
      (follows_since set program R w.targets h4 s4 s5 (mach tb h4 s4 k2 g.held) _ refl refl refl refl (deep_behind s4)
      (subst (λ z. Follows set program (LoopEnds b z exit) w.targets h4 s5 (mach tb h4 s5 k2 g.held) (step_turns set later at x (i +ℤ j) j n body e s5)) ac
      (turns_then at x i (i +ℤ j) j n body wb w b h4 s5 c e k k2 g.held (mach tb h4 s5 k2 g.held) (record { at = at; does = instr.NextTurn k c.count }) refl (behind program.instructions (turn_context c x) at the_value (k + 1) body _ code.1).0 code
      (cut h4 s5 g.held ∙ ap (λ r. doing.after r (next_turn set k)) (loop_cells_are i j n b h4 s5 k2 g.held)) (let z = y.cells in omega (arith, z)) l5 ft few))))))))
    where
      m0 : Machine
      m0 = mach (loop_base i j n b) h s k held

      m1 : Machine
      m1 = record m0 { entries = machine.a_turn at 0 ∷ b.entries }

      i0 : Coded
      i0 = record { at = at; does = instr.Turn x.text }

      k2 : ℕ
      k2 = k + 1 + size (known (turn_context c x)) body

      exit : ℕ
      exit = k2 + 1

      R : state.Given → Heap → State Bodied → Machine → Type 0
      R = LoopEnds b s.active exit

      tb : Base
      tb = stepped_base at x i j n b

      s1 : State Bodied
      s1 = record s { active = state.in_turn at (shown x (state.a_number i)) ∷ s.active }

      whole : Outcome Bodied state.Given
      whole = after (after (go set later body for_value at (at_control x i e) s1) (λ a. state.◌>>◌ state.pop_entry (state.give a))) (λ r. step_turns set later at x (i +ℤ j) j n body e)

      cell : length m0.cells - 3 ≡ length b.slots
      cell = let z = length_map (content_of s.memory) b.slots in omega (arith, z)

      lt : At program.instructions w tb h s1 (turn_context c x) (at_control x i e)
      lt = turn_at at x i j n w b h s c e q l

      over : Over b tb
      over = record { slots = (over_loop i j n b).slots; slots_are = refl; entries = machine.a_name x.text (length b.slots) ∷ machine.a_turn at 0 ∷ []; entries_are = refl; frames = []; frames_are = refl; reserved = λ y z. z }

      shape : (r : Next (Unit {0})) → doing.after (doing.after r (λ z. doing.enter program.marks (machine.a_name x.text (length m0.cells - 3)))) (λ z. go_on) ≡ doing.after r (λ z. (doing.enter program.marks (machine.a_name x.text (length m0.cells - 3))) >> go_on)
      shape (doing.on y m) = refl
      shape (doing.ended m) = refl
      shape (doing.halted y m) = refl

      cut : (h4 : Heap) (s5 : State Bodied) (x4 : Content) → does set program at (instr.NextTurn k c.count) (mach tb h4 s5 k2 x4) ≡ doing.after (loop_cells (mach (loop_base i j n b) h4 s5 k2 x4)) (next_turn set k)
      cut h4 s5 x4 =
          ap (λ o. doing.after (doing.after (there o (mach tb h4 s5 k2 x4)) (λ z. doing.cut_entries (z + c.count))) (λ z. loop_cells >>= next_turn set k)) lt.starts
          ∙ ap (λ z. doing.after (loop_cells (record (mach (loop_base i j n b) h4 s5 k2 x4) { entries = z })) (next_turn set k)) (ap (lowest tb.entries) (l.counted) ∙ lowest_append (machine.a_name x.text (length b.slots) ∷ machine.a_turn at 0 ∷ []) b.entries)

  -- ---- the phrase

  -- what follows where the three values are pushed
  first_follows : (at : Place) (x : Name) (i j n : ℤ) (body : Phrase) → IsWritten body → (w : World) (b : Base) (h : Heap) (s : State Bodied) (c : Context) (e : Env) (k : ℕ) (held : Content) → slice_get program.instructions k ≡ Some (record { at = at; does = instr.FirstTurn (k + 1 + 1 + size (known (turn_context c x)) body + 1) }) →
      HasAt program.instructions (k + 1) (one at (instr.Turn x.text) ▸ code (turn_context c x) at the_value (k + 1 + 1) body ▸ one at (instr.NextTurn (k + 1) c.count)) → length b.slots + 3 ≡ s.cells → At program.instructions w b h (record s { cells = s.cells - 3 }) c e → Fits program.marks w b (1 + marks body) → length b.slots < most_cells →
      Follows set program (Gives b s.active (k + 1 + 1 + size (known (turn_context c x)) body + 1)) w.targets h s (mach (loop_base i j n b) h s k held) (after (state.test (int_eq j (pos 0)) (state.fault_at fault.StepZero at) (step_turns set later at x i j n body e) s) (λ z. state.◌>>◌ (state.give_back 3) (state.give state.nothing)))
  first_follows at x i j n body wb w b h s c e k held f code q l ft few = by (int_eq j (pos 0)) row
    where
      exit : ℕ
      exit = k + 1 + 1 + size (known (turn_context c x)) body + 1

      m0 : Machine
      m0 = mach (loop_base i j n b) h s k held

      row : does set program at (instr.FirstTurn exit) m0 ≡ doing.test (int_eq j (pos 0)) (doing.fault_now fault.StepZero) (turn_or_exit set (k + 1) exit (has_turn i j n) i) m0
      row = ap (λ r. doing.after r (first_turn set exit)) (loop_cells_are i j n b h s k held)

      by : (t : Bool) → does set program at (instr.FirstTurn exit) m0 ≡ doing.test t (doing.fault_now fault.StepZero) (turn_or_exit set (k + 1) exit (has_turn i j n) i) m0 → Follows set program (Gives b s.active exit) w.targets h s m0 (after (state.test t (state.fault_at fault.StepZero at) (step_turns set later at x i j n body e) s) (λ z. state.◌>>◌ (state.give_back 3) (state.give state.nothing)))
      by true d = fault_here set program (Gives b s.active exit) w.targets h s m0 (record { at = at; does = instr.FirstTurn exit }) fault.StepZero (loop_base i j n b) k held f d
          (listed_later program.instructions (later_over w b (loop_base i j n b) s.arrays s.arrays (over_loop i j n b) (λ y z o. o)) b.entries [] s.active l.agrees.listed) (settled_loop i j n b h s.memory s.records s.fields l.agrees.settled)
      by false d = follows_then set program (LoopEnds b s.active exit) (Gives b s.active exit) w.targets h s m0 (step_turns set later at x i j n body e s) (λ z. state.◌>>◌ (state.give_back 3) (state.give state.nothing))
          (turns_then at x i i j n body wb w b h s c e (k + 1) k held m0 (record { at = at; does = instr.FirstTurn exit }) refl f code d q l ft few)
          (λ r h1 s1 m1 y g. let s2 = with_cells (s1.cells - 3) s1 in
          follows_at set program (Gives b s.active exit) w.targets h1 s1 m1 (mach b h1 s1 exit machine.nothing) (on state.nothing s2) y.0
          (follows_since set program (Gives b s.active exit) w.targets h1 s1 s2 (mach b h1 s1 exit machine.nothing) (on state.nothing s2) refl refl refl refl (λ d. d)
          (gives_nothing set program b s.active exit w.targets h1 s2 (mach b h1 s2 exit machine.nothing) already y.2 (let z = y.3 in omega (arith, z)) y.4)))

  pub for_step_follows : (st : Place) (x : Name) (a d f body : Phrase) → IsWritten body → PhraseFollows set program later a → PhraseFollows set program later d → PhraseFollows set program later f → PhraseFollows set program later (ForStep st x a d f body)
  for_step_follows st x a d f body wb pa pd pf = record { by = by }
    where
      G : M Bodied state.Given
      G = state.◌>>◌ (state.give_back 3) (state.give state.nothing)

      by : (u : Use) (at : Place) → CodeDoes set program u at (ForStep st x a d f body) (go set later (ForStep st x a d f body) u at)
      by for_place at w b h s c e mode k held code wanted l ft = tt
      by for_value at w b h s c e mode k held code wanted l ft =
          let sa = size (known c) a in let sd = size (known c) d in let sf = size (known c) f in let sb = size (known (turn_context c x)) body in
          let s0 = begun_state (Some st) s in
          let l0 = at_begun set program (Some st) w b h s c e l in
          let k1 = k + 1 + sa in let k2 = k1 + 1 + sd in let k3 = k2 + 1 + sf in let kf = k3 + 1 in
          let end = kf + 1 + 1 + sb + 1 in
          let R = Gives b s.active end in
          let hasa = code.1 in
          let fb : Fits program.marks w b (max (marks d) (max (marks f) (1 + marks body))) = fits_right (marks a) (max (marks d) (max (marks f) (1 + marks body))) ft in
          let fc : Fits program.marks w b (max (marks f) (1 + marks body)) = fits_right (marks d) (max (marks f) (1 + marks body)) fb in
          let h1' = behind program.instructions c st the_value (k + 1) a _ hasa in
          let hd = code_at set program later c st the_value (k + 2 + sa) (k1 + 1) d _ (omega arith) h1'.1 in
          let h2' = behind program.instructions c st the_value (k1 + 1) d _ hd in
          let hf = code_at set program later c st the_value (k + 3 + sa + sd) (k2 + 1) f _ (omega arith) h2'.1 in
          let h3' = behind program.instructions c st the_value (k2 + 1) f _ hf in
          let e1 : k + 7 + sa + sd + sf + sb ≡ end = omega arith in
          let e2 : k + 6 + sa + sd + sf ≡ kf + 1 + 1 = omega arith in
          let e3 : k + 5 + sa + sd + sf ≡ kf + 1 = omega arith in
          let hft = subst (λ z. slice_get program.instructions kf ≡ Some (record { at = st; does = instr.FirstTurn z })) e1 h3'.1.0 in
          let hbody = subst (λ z. HasAt program.instructions (kf + 1) (one st (instr.Turn x.text) ▸ Rattle.phrase_code.specs.Coding.code (turn_context c x) st the_value (kf + 1 + 1) body ▸ one st (instr.NextTurn z c.count))) e3
          (subst (λ z. HasAt program.instructions (kf + 1) (one st (instr.Turn x.text) ▸ Rattle.phrase_code.specs.Coding.code (turn_context c x) st the_value z body ▸ one st (instr.NextTurn (k + 5 + sa + sd + sf) c.count))) e2 h3'.1.1) in
          ends_at set program b s.active end (k + size (known c) (ForStep st x a d f body)) w.targets h s (mach b h s k held) (go set later (ForStep st x a d f body) for_value at e s) (omega arith)
          (begin_then set program R w.targets (Some st) w b h s k held _ _ code l.agrees (λ has.
          follows_then set program (λ i. Reached b s0.active k1 (machine.a_value (value.Integer i))) R w.targets h s0 (mach b h s0 (k + 1) held) (state.integer_of st (go set later a for_value st e) s0) _
          (integer_by set program later a pa st w b h s0 c e (k + 1) held (has_front program.instructions (k + 1) _ _ hasa) l0 (fits_left (marks a) (max (marks d) (max (marks f) (1 + marks body))) ft))
          (λ i g1 t1 m1 r1 gr1. let xi = machine.a_value (value.Integer i) in let a1 = at_reached set program w b h s0 c e k1 xi g1 t1 m1 l0 gr1 r1 in let b1 = pushed xi b in let t1' = with_cells (t1.cells + 1) t1 in let a1' = at_pushed program.instructions w b g1 t1 c e xi a1 in
          follows_at set program R w.targets g1 t1 m1 (mach b g1 t1 k1 xi) _ r1.is
          (push_below set program R w.targets w b g1 t1 k1 xi st _ h1'.0 a1.agrees (λ few.
          follows_then set program (λ j. Reached b1 t1.active k2 (machine.a_value (value.Integer j))) R w.targets g1 t1' (mach b1 g1 t1 (k1 + 1) xi) (state.integer_of st (go set later d for_value st e) t1') _
          (integer_by set program later d pd st w b1 g1 t1' c e (k1 + 1) xi (has_front program.instructions (k1 + 1) _ _ hd) a1' (fits_pushed xi (fits_left (marks d) (max (marks f) (1 + marks body)) fb)))
          (λ j g2 t2 m2 r2 gr2. let xj = machine.a_value (value.Integer j) in let a2 = at_reached set program w b1 g1 t1' c e k2 xj g2 t2 m2 a1' gr2 r2 in let b2 = pushed xj b1 in let t2' = with_cells (t2.cells + 1) t2 in let a2' = at_pushed program.instructions w b1 g2 t2 c e xj a2 in
          follows_at set program R w.targets g2 t2 m2 (mach b1 g2 t2 k2 xj) _ r2.is
          (push_then set program R w.targets w b1 g2 t2 k2 xj st _ h2'.0 a2.agrees
          (follows_then set program (λ n. Reached b2 t2.active k3 (machine.a_value (value.Integer n))) R w.targets g2 t2' (mach b2 g2 t2 (k2 + 1) xj) (state.integer_of st (go set later f for_value st e) t2') _
          (integer_by set program later f pf st w b2 g2 t2' c e (k2 + 1) xj (has_front program.instructions (k2 + 1) _ _ hf) a2' (fits_pushed xj (fits_pushed xi (fits_left (marks f) (1 + marks body) fc))))
          (λ n g3 t3 m3 r3 gr3. let xn = machine.a_value (value.Integer n) in let a3 = at_reached set program w b2 g2 t2' c e k3 xn g3 t3 m3 a2' gr3 r3 in let t3' = with_cells (t3.cells + 1) t3 in
          follows_at set program R w.targets g3 t3 m3 (mach b2 g3 t3 k3 xn) _ r3.is
          (push_then set program R w.targets w b2 g3 t3 k3 xn st (λ z. state.◌>>◌ (state.test (int_eq j (pos 0)) (state.fault_at fault.StepZero st) (step_turns set later st x i j n body e)) G) h3'.0 a3.agrees
          (gives_as set program b t3.active s.active end w.targets g3 t3' (mach (loop_base i j n b) g3 t3' kf xn) _ (r3.listed ∙ r2.listed ∙ r1.listed)
          (first_follows st x i j n body wb w b g3 t3' c e kf xn hft hbody (let z = r3.cells in omega (arith, z))
          (at_on program.instructions w b g1 g3 t1 (record t3' { cells = t3'.cells - 3 }) c e
          (grew_on g1 t1 g3 t3 g3 (record t3' { cells = t3'.cells - 3 }) (grew_on g1 t1 g2 t2 g3 t3 (grew_on g1 t1 g1 t1' g2 t2 (grew_to g1 t1 t1' refl refl refl refl (λ d. d)) gr2) (grew_on g2 t2 g2 t2' g3 t3 (grew_to g2 t2 t2' refl refl refl refl (λ d. d)) gr3)) (grew_to g3 t3 (record t3' { cells = t3'.cells - 3 }) refl refl refl refl (λ d. d)))
          (settled_below xi b g3 t3.memory t3.records t3.fields (settled_below xj b1 g3 t3.memory t3.records t3.fields r3.settled)) (let z = r3.cells in omega (arith, z)) (r3.listed ∙ r2.listed) a1) (fits_right (marks f) (1 + marks body) fc) few))))))))))))
