-- FOR with a list.
use Rattle.std.proofs.Common.{◌≡◌, ℕ, suc, ◌+◌, ◌-◌, ◌<◌, ℤ, List, [], ◌∷◌, length, Some, refl, sym, ap, ◌∙◌, subst, arith}
use Rattle.std.specs.Prelude.{slice_get}
use Rattle.value_ops.specs.declared.places.Place.{Place}
use Rattle.value_ops.specs.declared.values.Value.TheVariants as value
use Rattle.program_meaning.specs.Phrases.{Phrase, Name, ForList, Phrases, no_phrases, phrase_and}
use Rattle.program_meaning.specs.State as state
use Rattle.program_meaning.specs.State.{State, Setting, by_limit, Outcome, on, jump, stop, M, Use, for_value, for_place, ArrayInfo, most_cells, after, behind_first}
use Rattle.program_meaning.specs.Copying.{shown}
use Rattle.program_meaning.specs.Environments.{Env, Bodied, Job, list_job, go, go_list, at_control}
use Rattle.stack_code.specs.Instr as instr
use Rattle.stack_code.specs.Instr.{Instr, Mode, the_value}
use Rattle.stack_code.specs.Code.{Code, Coded}
use Rattle.stack_code.specs.Machine as machine
use Rattle.stack_code.specs.Machine.{Machine, Content, Entry, on_top_of, lowest}
use Rattle.stack_code.specs.Doing as doing
use Rattle.stack_code.specs.Doing.{Next, Row, there, go_on, push, enter, ◌>>=◌, ◌>>◌}
use Rattle.stack_code.specs.Table.{does, turn_back, cut_to_position}
use Rattle.phrase_code.specs.Sizes.{size, list_size}
use Rattle.phrase_code.specs.Coding.{Context, known, code, code_list, turn_context, one, ◌▸◌}
use Rattle.code_simulation.specs.Written.{IsWritten}
use Rattle.code_simulation.specs.Relation.{HasAt, Slot, fixed, Base, Heap, mach, World, Target, Shows, Settled, Listed, Grew, Agrees, At, Wanted, content_of}
use Rattle.code_simulation.specs.Following.{already, Follows, Gives, Reached, TurnEnds, controlled, turn_base, PhraseFollows, CodeDoes, LaterFollows}
use Rattle.code_simulation.proofs.Stacks.{top_at, top_more, length_map, lowest_append, has_front, has_back}
use Rattle.code_simulation.proofs.Sizes.{list_sized}
use Rattle.code_simulation.proofs.Rows.{one_row, follows_from, follows_then, follows_on, grew_here, grew_on}
use Rattle.code_simulation.proofs.Keeping.{Over, Later, pushed, with_cells, later_over, listed_later, shows_later, start_later, agrees_over, settled_pushed, grew_to, at_on}
use Rattle.code_simulation.proofs.Values.{follows_at}
use Rattle.code_simulation.proofs.Counting.{ticked, begun_state, begin_then, at_begun, follows_since, follows_assoc, tick_then}
use Rattle.code_simulation.proofs.Operators.{behind, at_reached, ends_at}
use Rattle.code_simulation.proofs.Choices.{integer_by, code_at}
use Rattle.code_simulation.proofs.Texts.{settled_in}
use Rattle.code_simulation.proofs.Scopes.{own_entry}
use Rattle.code_simulation.proofs.Statements.{IsLeft, EachDoes, does_and, nothing_behind}
use Rattle.code_simulation.proofs.Jumping.{settled_above}
use Rattle.phrase_code.specs.Marks.{marks, phrases_marks}
use Rattle.code_simulation.specs.Room.{Fits}
use Rattle.code_simulation.proofs.Room.{fits_left, fits_right, fits_turn, room_for_entry, room_above_mark, deep_behind, enter_in_room}
use Rattle.code_simulation.proofs.Counting.{push_within}

-- code from its parts
joined : (program : List Coded) (k n : ℕ) (a b : List Coded) → length a ≡ n → HasAt program k a → HasAt program (k + n) b → HasAt program k (a ▸ b)
joined program k n [] b q h i = let e : k + n ≡ k = omega (arith, q) in subst (λ l. HasAt program l b) e i
joined program k n (c ∷ a) b q h i = let e : k + n ≡ k + 1 + length a = omega (arith, q) in (h.0, joined program (k + 1) (length a) a b refl h.1 (subst (λ l. HasAt program l b) e i))

module _ (set : Setting) (program : Code) (later : Job → M Bodied state.Given) where
  over_turn : (at : Place) (back : ℕ) (x : Name) (i : ℤ) (b : Base) → Over b (turn_base at back x (controlled (value.Integer i) b))
  over_turn at back x i b = record { slots = fixed (machine.a_value (value.Integer i)) ∷ []; slots_are = refl; entries = machine.a_name x.text (suc (length b.slots) - 1) ∷ machine.a_turn at back ∷ []; entries_are = refl; frames = []; frames_are = refl; reserved = λ y z. z }

  list_turn_at : (at : Place) (back : ℕ) (x : Name) (i : ℤ) (w : World) (b : Base) (h : Heap) (s : State Bodied) (c : Context) (e : Env) → length b.slots + 1 ≡ s.cells → At program.instructions w b h (record s { cells = s.cells - 1 }) c e →
      At program.instructions w (turn_base at back x (controlled (value.Integer i) b)) h (record s { active = state.in_turn at (shown x (state.a_number i)) ∷ s.active }) (turn_context c x) (at_control x i e)
  list_turn_at at back x i w b h s c e q l = record {
    agrees = agrees_over program.instructions w b tb h h (record s { cells = s.cells - 1 }) s1 o (grew_to h (record s { cells = s.cells - 1 }) s1 refl refl refl refl (λ d. d)) (settled_in lb tb h s.memory s.records s.fields refl (λ y z. z) (settled_pushed (machine.a_value (value.Integer i)) b h s.memory s.records s.fields l.agrees.settled)) (omega (arith, q)) listed l.agrees;
    shows = (
      refl,
      (
        refl,
        own_entry program.instructions w tb s.arrays c.level b.current l.start st _ (machine.a_name x.text (suc (length b.slots) - 1)) (suc (length b.slots) - 1) (fixed (machine.a_value (value.Integer i))) refl
            (top_at (machine.a_name x.text (suc (length b.slots) - 1)) (machine.a_turn at back ∷ b.entries) (l.start + (c.count + 1)) (let y = l.counted in omega (arith, y))) refl control,
      ),
      shows_later program.instructions lo e c.names c.level b.current l.shows,
    );
    start = l.start;
    starts = st;
    counted = let y = l.counted in omega (arith, y);
  }
    where
      lb : Base
      lb = controlled (value.Integer i) b

      tb : Base
      tb = turn_base at back x lb

      s1 : State Bodied
      s1 = record s { active = state.in_turn at (shown x (state.a_number i)) ∷ s.active }

      o : Over b tb
      o = record { slots = fixed (machine.a_value (value.Integer i)) ∷ []; slots_are = refl; entries = machine.a_name x.text (suc (length b.slots) - 1) ∷ machine.a_turn at back ∷ []; entries_are = refl; frames = []; frames_are = refl; reserved = λ y z. z }

      lo : Later w b s.arrays w tb s.arrays
      lo = later_over w b tb s.arrays s.arrays o (λ y z p. p)

      st : doing.start_at tb.frames (Some tb.current) ≡ Some l.start
      st = start_later b.frames tb.frames lo.frames (Some b.current) l.start l.starts

      control : on_top_of tb.slots (suc (length b.slots) - 1) ≡ Some (fixed (machine.a_value (value.Integer i)))
      control = top_at (fixed (machine.a_value (value.Integer i))) b.slots (suc (length b.slots) - 1) (omega arith)

      listed : Listed program.instructions tb s.arrays tb.entries [] s1.active
      listed = (state.a_number i, subst (Rattle.code_simulation.specs.Relation.Shown tb s.arrays (state.a_number i)) (sym control) refl, (refl, refl, listed_later program.instructions lo b.entries [] s.active l.agrees.listed))

  -- one turn
  pub turn_job_follows : (at : Place) (x : Name) (i : ℤ) (body : Phrase) → PhraseFollows set program later body → (w : World) (b : Base) (h : Heap) (s : State Bodied) (c : Context) (e : Env) (k back : ℕ) (held : Content) →
      HasAt program.instructions k (code (turn_context c x) at the_value k body ▸ one at (instr.EndTurn c.count)) → length b.slots + 1 ≡ s.cells → At program.instructions w b h (record s { cells = s.cells - 1 }) c e → Fits program.marks w b (1 + marks body) → length b.slots < most_cells →
      Follows set program (TurnEnds b s.active back) w.targets h s (mach (turn_base at back x (controlled (value.Integer i) b)) h s k held) (state.under (state.in_turn at (shown x (state.a_number i))) (go set later body for_value at (at_control x i e)) s)
  unfolding list_turn_at
  turn_job_follows at x i body pb w b h s c e k back held code q l ft few =
      follows_since set program R w.targets h s s1 (mach tb h s1 k held) (after (go set later body for_value at (at_control x i e) s1) (λ a. state.◌>>◌ state.pop_entry (state.give a))) refl refl refl refl (λ d. d)
      (follows_then set program (Gives tb s1.active k2) R w.targets h s1 (mach tb h s1 k held) (go set later body for_value at (at_control x i e) s1) (λ a. state.◌>>◌ state.pop_entry (state.give a))
      (pb.by for_value at w tb h s1 (turn_context c x) (at_control x i e) the_value k held (has_front program.instructions k _ _ code) refl lt (fits_turn at back x.text (suc (length b.slots) - 1) tb.slots (omega arith) few ft))
      (λ r h4 s4 m4 g gr. let y = g.reached in let s5 : State Bodied = record s4 { active = behind_first s4.active } in
      follows_at set program R w.targets h4 s4 m4 (mach tb h4 s4 k2 g.held) (on r s5) y.is
      (follows_since set program R w.targets h4 s4 s5 (mach tb h4 s5 k2 g.held) (on r s5) refl refl refl refl (deep_behind s4)
      (follows_on set program R w.targets h4 s5 (mach tb h4 s5 k2 g.held) (mach b h4 s5 back g.held) r
      (one_row set program (mach tb h4 s5 k2 g.held) (mach b h4 s5 back g.held) _ (behind program.instructions (turn_context c x) at the_value k body _ code).0 (ended h4 s5 g.held))
      (g.held, refl, settled_above b tb h4 s4.memory s4.records s4.fields over y.settled, (let z = y.cells in omega (arith, z)), ap behind_first y.listed)))))
    where
      k2 : ℕ
      k2 = k + size (known (turn_context c x)) body

      R : state.Given → Heap → State Bodied → Machine → Type 0
      R = TurnEnds b s.active back

      tb : Base
      tb = turn_base at back x (controlled (value.Integer i) b)

      over : Over b tb
      over = record { slots = fixed (machine.a_value (value.Integer i)) ∷ []; slots_are = refl; entries = machine.a_name x.text (suc (length b.slots) - 1) ∷ machine.a_turn at back ∷ []; entries_are = refl; frames = []; frames_are = refl; reserved = λ y z. z }

      s1 : State Bodied
      s1 = record s { active = state.in_turn at (shown x (state.a_number i)) ∷ s.active }

      lt : At program.instructions w tb h s1 (turn_context c x) (at_control x i e)
      lt = list_turn_at at back x i w b h s c e q l

      entry : on_top_of tb.entries (l.start + c.count) ≡ Some (machine.a_turn at back)
      entry = top_more _ (machine.a_turn at back ∷ b.entries) (l.start + c.count) _ (top_at (machine.a_turn at back) b.entries (l.start + c.count) l.counted)

      ended : (h4 : Heap) (s5 : State Bodied) (x4 : Content) → does set program at (instr.EndTurn c.count) (mach tb h4 s5 k2 x4) ≡ doing.on tt (mach b h4 s5 back x4)
      ended h4 s5 x4 =
          ap (λ o. doing.after (there (doing.entry_on tb.entries o c.count) m4) then) lt.starts
          ∙ ap (λ o. doing.after (there o m4) then) entry
          ∙ ap (λ o. doing.after (doing.after (there o m4) (λ z. doing.cut_entries (z + c.count))) (λ z. doing.pop >>= λ y. doing.go_to back)) lt.starts
          ∙ ap (λ z. doing.on tt (record (mach b h4 s5 back x4) { entries = z })) (ap (lowest tb.entries) l.counted ∙ lowest_append (machine.a_name x.text (suc (length b.slots) - 1) ∷ machine.a_turn at back ∷ []) b.entries)
        where
          m4 : Machine
          m4 = mach tb h4 s5 k2 x4

          then : Entry → Row (Unit {0})
          then o = turn_back (Some o) >>= λ bk. (cut_to_position c.count >> (doing.pop >>= λ y. doing.go_to bk))

  module _ (hl : LaterFollows set program later) where
    list_follows : (values : Phrases) → EachDoes set program later values → (at : Place) (x : Name) (body : Phrase) → IsWritten body → (w : World) (b : Base) (h : Heap) (s : State Bodied) (c : Context) (e : Env) (kb k : ℕ) (held : Content) → HasAt program.instructions kb (code (turn_context c x) at the_value kb body ▸ one at (instr.EndTurn c.count)) → HasAt program.instructions k (code_list c at x kb k values) → At program.instructions w b h s c e → Fits program.marks w b (phrases_marks values) → Fits program.marks w b (1 + marks body) →
        Follows set program (IsLeft b s.active (k + list_size (known c) values)) w.targets h s (mach b h s k held) (go_list set later values at x body e s)
    list_follows no_phrases p at x body wb w b h s c e kb k held hb code l ft fb = follows_on set program (IsLeft b s.active (k + 0)) w.targets h s (mach b h s k held) (mach b h s k held) tt already (held, record { is = ap (λ n. mach b h s n held) (omega arith); settled = l.agrees.settled; cells = l.agrees.cells; listed = refl })
    list_follows (phrase_and a rest) (does_and p ps) at x body wb w b h s c e kb k held hb code l ft fb =
        let k1 = k + size (known c) a in
        let kn = k + (size (known c) a + (1 + list_size (known c) rest)) in
        let R = IsLeft b s.active kn in
        let has1 = behind program.instructions c at the_value k a _ code in
        follows_then set program (λ i. Reached b s.active k1 (machine.a_value (value.Integer i))) R w.targets h s (mach b h s k held) (state.integer_of at (go set later a for_value at e) s) (λ i. state.◌>>◌ (state.holding at (state.◌>>◌ (state.tick set at) (later (list_job at x i body e)))) (go_list set later rest at x body e))
        (integer_by set program later a p at w b h s c e k held (has_front program.instructions k _ _ code) l (fits_left (marks a) (phrases_marks rest) ft))
        (λ i h1 s1 m1 r g. let y = machine.a_value (value.Integer i) in let l1 = at_reached set program w b h s c e k1 y h1 s1 m1 l g r in
        follows_at set program R w.targets h1 s1 m1 (mach b h1 s1 k1 y) _ r.is
        (subst (λ act. Follows set program (IsLeft b act kn) w.targets h1 s1 (mach b h1 s1 k1 y) (after (state.holding at (state.◌>>◌ (state.tick set at) (later (list_job at x i body e))) s1) (λ z. go_list set later rest at x body e))) r.listed
        (one_value i h1 s1 l1 has1.0 (λ h2 s2 x2 l2 ea. subst (λ act. Follows set program (IsLeft b act kn) w.targets h2 s2 (mach b h2 s2 (k1 + 1) x2) (go_list set later rest at x body e s2)) ea
        (subst (λ n. Follows set program (IsLeft b s2.active n) w.targets h2 s2 (mach b h2 s2 (k1 + 1) x2) (go_list set later rest at x body e s2)) (same (size (known c) a) (list_size (known c) rest) k)
        (list_follows rest ps at x body wb w b h2 s2 c e kb (k1 + 1) x2 hb (subst (λ n. HasAt program.instructions (k1 + 1) (code_list c at x kb n rest)) (again k (size (known c) a)) has1.1) l2 (fits_right (marks a) (phrases_marks rest) ft) fb))))))
      where
        same : (n o i : ℕ) → i + n + 1 + o ≡ i + (n + (1 + o))
        same n o i = omega arith

        again : (i n : ℕ) → i + (n + 1) ≡ i + n + 1
        again i n = omega arith

        one_value : (i : ℤ) (h1 : Heap) (s1 : State Bodied) → At program.instructions w b h1 s1 c e → slice_get program.instructions (k + size (known c) a) ≡ Some (record { at = at; does = instr.ListTurn kb x.text }) →
            ((h2 : Heap) (s2 : State Bodied) (x2 : Content) → At program.instructions w b h2 s2 c e → s2.active ≡ s1.active → Follows set program (IsLeft b s1.active (k + (size (known c) a + (1 + list_size (known c) rest)))) w.targets h2 s2 (mach b h2 s2 (k + size (known c) a + 1) x2) (go_list set later rest at x body e s2)) →
            Follows set program (IsLeft b s1.active (k + (size (known c) a + (1 + list_size (known c) rest)))) w.targets h1 s1 (mach b h1 s1 (k + size (known c) a) (machine.a_value (value.Integer i))) (after (state.holding at (state.◌>>◌ (state.tick set at) (later (list_job at x i body e))) s1) (λ z. go_list set later rest at x body e))
        one_value i h1 s1 l1 has1 rest_follows =
            follows_assoc set program R w.targets h1 s1 m0 (state.take_cells 1 at s1) (λ z. state.◌>>=◌ (state.◌>>◌ (state.tick set at) (later (list_job at x i body e))) (λ r. state.◌>>◌ (state.give_back 1) (state.give r))) F
            (push_within set program R w.targets w b h1 s1 k1 y y m0 i0 (doing.tick set >> K) (λ z s2. after (after (after (state.tick set at s2) (λ o. later (list_job at x i body e))) (λ r. state.◌>>◌ (state.give_back 1) (state.give r))) F) has1 refl l1.agrees
            (λ few d1. follows_assoc set program R w.targets h1 s2 m0 (after (state.tick set at s2) (λ o. later (list_job at x i body e))) (λ r. state.◌>>◌ (state.give_back 1) (state.give r)) F
            (follows_assoc set program R w.targets h1 s2 m0 (state.tick set at s2) (λ o. later (list_job at x i body e)) (λ r s4. after (on r (with_cells (s4.cells - 1) s4)) F)
            (tick_then set program R w.targets (pushed y b) h1 s2 k1 y m0 i0 K (λ o s4. after (later (list_job at x i body e) s4) (λ r s5. F r (with_cells (s5.cells - 1) s5))) has1 d1
            (listed_later program.instructions (later_over w b (pushed y b) s1.arrays s1.arrays (record { slots = fixed y ∷ []; slots_are = refl; entries = []; entries_are = refl; frames = []; frames_are = refl; reserved = λ o z. z }) (λ o z q. q)) b.entries [] s1.active l1.agrees.listed) (settled_pushed y b h1 s1.memory s1.records s1.fields l1.agrees.settled)
            (λ d2. enter_in_room set program m0 mp i0 (machine.a_turn at (k1 + 1)) ((doing.enter program.marks (machine.a_name x.text (length mp.cells - 1))) >> doing.go_to kb) (room_for_entry fb) (d2 ∙ shape (doing.enter program.marks (machine.a_turn at (k1 + 1)) mp))
            (λ d3. enter_in_room set program m0 (record mp { entries = machine.a_turn at (k1 + 1) ∷ b.entries }) i0 (machine.a_name x.text (length mp.cells - 1)) (doing.go_to kb) (room_above_mark (marks body) (machine.a_turn at (k1 + 1) ∷ b.entries) fb fb.few refl) d3
            (λ d4. follows_from set program R w.targets h1 s3 h1 s3 m0 (mach tb h1 s3 kb y) (after (later (list_job at x i body e) s3) (λ r s5. F r (with_cells (s5.cells - 1) s5)))
            (one_row set program m0 (mach tb h1 s3 kb y) i0 has1 (d4 ∙ ap (λ z. doing.on tt (record (mach tb h1 s3 kb y) { entries = machine.a_name x.text z ∷ (machine.a_turn at (k1 + 1) ∷ b.entries) })) (let z = length_map (content_of s1.memory) b.slots in omega (arith, z)))) (grew_here h1 s3)
            (follows_then set program (TurnEnds b s3.active (k1 + 1)) R w.targets h1 s3 (mach tb h1 s3 kb y) (later (list_job at x i body e) s3) (λ r s5. F r (with_cells (s5.cells - 1) s5))
            (hl.turn at x i body wb w b h1 s3 c e kb (k1 + 1) y hb (let z = l1.agrees.cells in omega (arith, z)) (at_on program.instructions w b h1 h1 s1 (record s3 { cells = s3.cells - 1 }) c e (grew_to h1 s1 (record s3 { cells = s3.cells - 1 }) refl refl refl refl (λ d. d)) l1.agrees.settled (let z = l1.agrees.cells in omega (arith, z)) refl l1) fb few)
            (λ r h5 s5 m5 q g5. let s6 = with_cells (s5.cells - 1) s5 in
            follows_at set program R w.targets h5 s5 m5 (mach b h5 s5 (k1 + 1) q.0) (F r s6) q.1
            (follows_since set program R w.targets h5 s5 s6 (mach b h5 s6 (k1 + 1) q.0) (F r s6) refl refl refl refl (λ d. d)
            (rest_follows h5 s6 q.0 (at_on program.instructions w b h1 h5 s1 s6 c e (grew_on h1 s1 h5 s5 h5 s6 (grew_on h1 s1 h1 s3 h5 s5 (grew_to h1 s1 s3 refl refl refl refl (λ d. d)) g5) (grew_to h5 s5 s6 refl refl refl refl (λ d. d))) q.2 (let z = q.3 in omega (arith, z)) q.4 l1) q.4)))))))))))
          where
            k1 : ℕ
            k1 = k + size (known c) a

            y : Content
            y = machine.a_value (value.Integer i)

            R : Unit {0} → Heap → State Bodied → Machine → Type 0
            R = IsLeft b s1.active (k + (size (known c) a + (1 + list_size (known c) rest)))

            F : state.Given → M Bodied (Unit {0})
            F r = go_list set later rest at x body e

            m0 : Machine
            m0 = mach b h1 s1 k1 y

            i0 : Coded
            i0 = record { at = at; does = instr.ListTurn kb x.text }

            s2 : State Bodied
            s2 = with_cells (s1.cells + 1) s1

            s3 : State Bodied
            s3 = ticked s2

            mp : Machine
            mp = mach (pushed y b) h1 s3 k1 y

            tb : Base
            tb = turn_base at (k1 + 1) x (controlled (value.Integer i) b)

            K : Row (Unit {0})
            K = doing.here >>= λ o. (Rattle.stack_code.specs.Table.turn program.marks at (o + 1) x.text 1 >> doing.go_to kb)

            shape : (r : Next (Unit {0})) → doing.after (doing.after r (λ z. doing.enter program.marks (machine.a_name x.text (length mp.cells - 1)))) (λ z. doing.go_to kb) ≡ doing.after r (λ z. (doing.enter program.marks (machine.a_name x.text (length mp.cells - 1))) >> doing.go_to kb)
            shape (doing.on o m) = refl
            shape (doing.ended m) = refl
            shape (doing.halted o m) = refl

    pub for_list_follows : (st : Place) (x : Name) (values : Phrases) (body : Phrase) → EachDoes set program later values → IsWritten body → PhraseFollows set program later (ForList st x values body)
    for_list_follows st x values body ps wb = record { by = by }
      where
        by : (u : Use) (at : Place) → CodeDoes set program u at (ForList st x values body) (go set later (ForList st x values body) u at)
        by for_place at w b h s c e mode k held code wanted l ft = tt
        by for_value at w b h s c e mode k held code wanted l ft =
            let sb = size (known (turn_context c x)) body in
            let s0 = begun_state (Some st) s in
            let kv = k + 3 + sb in
            let kl = kv + list_size (known c) values in
            let R = Gives b s.active (kl + 1) in
            let hb0 = code_at set program later (turn_context c x) st the_value (k + 2) (k + 1 + 1) body _ (omega arith) code.1.1 in
            let e2 : k + 1 + 1 ≡ k + 2 = omega arith in
            let hb1 = subst (λ z. HasAt program.instructions z (Rattle.phrase_code.specs.Coding.code (turn_context c x) st the_value (k + 2) body ▸ one st (instr.EndTurn c.count) ▸ code_list c st x (k + 2) kv values ▸ one st instr.Nothing)) e2 code.1.1 in
            let hend = behind program.instructions (turn_context c x) st the_value (k + 2) body _ hb1 in
            let e3 : k + 2 + sb + 1 ≡ kv = omega arith in
            let hl1 = subst (λ z. HasAt program.instructions z (code_list c st x (k + 2) kv values ▸ one st instr.Nothing)) e3 hend.1 in
            let hbody = joined program.instructions (k + 2) (size (known (turn_context c x)) body) _ (one st (instr.EndTurn c.count)) (Rattle.code_simulation.proofs.Sizes.code_sized (turn_context c x) st the_value (k + 2) body).by (has_front program.instructions (k + 2) _ _ hb1) (hend.0, tt) in
            ends_at set program b s.active (kl + 1) (k + size (known c) (ForList st x values body)) w.targets h s (mach b h s k held) (go set later (ForList st x values body) for_value at e s) (omega arith)
            (begin_then set program R w.targets (Some st) w b h s k held (one st (instr.Jump (k + 3 + sb)) ▸ Rattle.phrase_code.specs.Coding.code (turn_context c x) st the_value (k + 2) body ▸ one st (instr.EndTurn c.count) ▸ code_list c st x (k + 2) kv values ▸ one st instr.Nothing) (λ z s1. after (go_list set later values st x body e s1) (λ y. state.give state.nothing)) code l.agrees (λ has.
            follows_from set program R w.targets h s0 h s0 (mach b h s0 (k + 1) held) (mach b h s0 kv held) (after (go_list set later values st x body e s0) (λ y. state.give state.nothing)) (one_row set program (mach b h s0 (k + 1) held) (mach b h s0 kv held) (record { at = st; does = instr.Jump kv }) has.0 refl) (grew_here h s0)
            (nothing_behind set program later st b s.active kl w.targets h s0 (mach b h s0 kv held) (go_list set later values st x body e s0) (has_back program.instructions kv (list_size (known c) values) _ _ (list_sized c st x (k + 2) kv values).by hl1).0
            (list_follows values ps st x body wb w b h s0 c e (k + 2) kv held hbody (has_front program.instructions kv _ _ hl1) (at_begun set program (Some st) w b h s c e l) (fits_left (phrases_marks values) (1 + marks body) ft) (fits_right (phrases_marks values) (1 + marks body) ft)))))
