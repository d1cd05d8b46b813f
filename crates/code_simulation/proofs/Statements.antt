-- Assignment, ASSERT, WRITE, READ, READCARD and IOCONTROL.
use Rattle.std.proofs.Common.{◌≡◌, ℕ, ◌+◌, ◌-◌, ◌≤◌, ℤ, List, [], ◌∷◌, length, Option, Some, None, refl, ap, ◌∙◌, subst, arith}
use Rattle.std.specs.Prelude.{slice_get, Bool, true, false}
use Rattle.value_ops.specs.declared.places.Place.{Place}
use Rattle.value_ops.specs.declared.faults.Fault.TheVariants as fault
use Rattle.value_ops.specs.declared.values.Value.{Value}
use Rattle.value_ops.specs.declared.values.Value.TheVariants as value
use Rattle.algolw_tree.specs.declared.standard.Width.{Width}
use Rattle.algolw_typing.specs.Types.{ValueType}
use Rattle.program_meaning.specs.Phrases.{Phrase, Assign, Assert, Write, Read, ReadCard, IoControl, Phrases, no_phrases, phrase_and, Targets, no_targets, target_and, Role, placed, sets}
use Rattle.program_meaning.specs.State as state
use Rattle.program_meaning.specs.State.{State, Setting, Outcome, on, jump, stop, M, Use, for_value, for_place, after, innermost, give_back}
use Rattle.program_meaning.specs.Widths.{WidthsSet, none_set, with_width, value_written}
use Rattle.program_meaning.specs.Copying as copying
use Rattle.program_meaning.specs.Copying.{read_type}
use Rattle.program_meaning.specs.Environments.{Env, Bodied, Job, go, go_writes, go_reads, go_cards}
use Rattle.stack_code.specs.Instr as instr
use Rattle.stack_code.specs.Instr.{Instr, Mode, the_value, the_place, as_asked}
use Rattle.stack_code.specs.Code.{Code, Coded}
use Rattle.stack_code.specs.Machine as machine
use Rattle.stack_code.specs.Machine.{Machine, Content, Entry, lowest, replaced}
use Rattle.stack_code.specs.Doing as doing
use Rattle.stack_code.specs.Doing.{◌>>◌, ◌>>=◌, hold, go_on}
use Rattle.stack_code.specs.Table.{does, given_on, widths_here, widths_become}
use Rattle.phrase_code.specs.Sizes.{size, begin_size, writes_size, targets_size}
use Rattle.phrase_code.specs.Coding.{Context, with_entries, known, code, code_writes, code_reads, code_cards, one, ◌▸◌, is_none}
use Rattle.code_simulation.specs.Relation.{HasAt, Base, Heap, mach, World, Target, Holds, Settled, Grew, Agrees, At, Wanted}
use Rattle.code_simulation.specs.Following.{already, Follows, Gives, Reached, PhraseFollows, CodeDoes}
use Rattle.code_simulation.proofs.Stacks.{is_equal, top_at, lowest_append, has_front, has_back}
use Rattle.code_simulation.proofs.Sizes.{reads_sized, cards_sized}
use Rattle.code_simulation.proofs.Rows.{one_row, follows_from, follows_then, follows_on, grew_here, grew_on}
use Rattle.code_simulation.proofs.Keeping.{Over, later_over, agrees_over, listed_later, shows_later, grew_to, at_on, pushed, with_cells, at_pushed}
use Rattle.code_simulation.proofs.Texts.{settled_in}
use Rattle.code_simulation.proofs.Values.{settled_below, follows_at, spot_follows, Placed, IsTruth, IsInteger, gives_nothing, fault_here, push_then}
use Rattle.code_simulation.proofs.Counting.{begun_state, begin_then, at_begun, active_begun, follows_assoc}
use Rattle.code_simulation.proofs.Operators.{behind, at_reached, ends_at, gives_as, value_by}
use Rattle.code_simulation.proofs.Choices.{truth_by, integer_by, code_at}
use Rattle.code_simulation.proofs.Storing.{with_memory, grew_memory, assign_then, written_then, scan_then, card_then, control_then}
use Rattle.phrase_code.specs.Marks.{marks, width_marks, phrases_marks, targets_marks}
use Rattle.std.specs.Prelude.{max}
use Rattle.std.proofs.Math.Nat.{le-max_left, le-max_right}
use Rattle.code_simulation.specs.Room.{Fits}
use Rattle.code_simulation.proofs.Room.{fits_less, fits_left, fits_right, fits_pushed, fits_marked, room_for_entry, enter_in_room}

-- behind a list of statements' parts: whatever is held
abbrev pub IsLeft : Base → List state.Entry → ℕ → Unit {0} → Heap → State Bodied → Machine → Type 0
IsLeft b active next z h s m = (held : Content) × Reached b active next held h s m

-- ---- widths on the stacks

-- the stacks with the entry of a WRITE's widths
abbrev widened : WidthsSet → Base → Base
widened ws b = record b { entries = machine.some_widths ws ∷ b.entries }

over_widened : (ws : WidthsSet) (b : Base) → Over b (widened ws b)
over_widened ws b = record { slots = []; slots_are = refl; entries = machine.some_widths ws ∷ []; entries_are = refl; frames = []; frames_are = refl; reserved = λ k i. i }

at_widened : (program : List Coded) (ws : WidthsSet) (w : World) (b : Base) (h : Heap) (s : State Bodied) (c : Context) (e : Env) → At program w b h s c e → At program w (widened ws b) h s (with_entries 1 c) e
at_widened program ws w b h s c e a = record {
  agrees = agrees_over program w b (widened ws b) h h s s (over_widened ws b) (grew_here h s) (settled_in b (widened ws b) h s.memory s.records s.fields refl (λ k i. i) a.agrees.settled) a.agrees.cells
      (listed_later program (later_over w b (widened ws b) s.arrays s.arrays (over_widened ws b) (λ k z i. i)) b.entries [] s.active a.agrees.listed) a.agrees;
  shows = shows_later program (later_over w b (widened ws b) s.arrays s.arrays (over_widened ws b) (λ k z i. i)) e c.names c.level b.current a.shows;
  start = a.start;
  starts = a.starts;
  counted = let q = a.counted in omega (arith, q);
}

-- below them, at a later state
at_unwidened : (program : List Coded) (ws : WidthsSet) (w : World) (b : Base) (h : Heap) (s : State Bodied) (c : Context) (e : Env) (k : ℕ) (x : Content) (h' : Heap) (s' : State Bodied) (m : Machine) → At program w b h s c e → Grew h s h' s' → Reached (widened ws b) s.active k x h' s' m → At program w b h' s' c e
at_unwidened program ws w b h s c e k x h' s' m a g r = at_on program w b h h' s s' c e g (settled_in (widened ws b) b h' s'.memory s'.records s'.fields refl (λ k i. i) r.settled) r.cells r.listed a

fits_widened : {most n : ℕ} {w : World} {b : Base} (ws : WidthsSet) → Fits most w b (1 + n) → Fits most w (widened ws b) n
fits_widened {b = b} ws f = fits_marked (widened ws b) f.named f.few refl refl refl f

-- marks of a part of a list, and of those behind it
front_fits : (a rest : ℕ) → 1 + a ≤ 1 + max a rest
front_fits a rest = let q = le-max_left a rest in omega (arith, q)

back_fits : (a rest : ℕ) → 1 + rest ≤ 1 + max a rest
back_fits a rest = let q = le-max_right a rest in omega (arith, q)

part_fits : (n a rest : ℕ) → a ≤ n + max a rest
part_fits n a rest = let q = le-max_left a rest in omega (arith, q)

rest_fits : (n a rest : ℕ) → n + rest ≤ n + max a rest
rest_fits n a rest = let q = le-max_right a rest in omega (arith, q)

behind_part : (n o i : ℕ) → i + n + 1 + o ≡ i + (n + (1 + o))
behind_part n o i = omega arith

behind_value : (i n : ℕ) → i + (n + 1) ≡ i + n + 1
behind_value i n = omega arith

-- rows that look for the entry
start_is : {program : List Coded} {w : World} {b : Base} {h : Heap} {s : State Bodied} {c : Context} {e : Env} (ws : WidthsSet) (k : ℕ) (held : Content) (l : At program w b h s c e) → doing.start_out 0 (mach (widened ws b) h s k held) ≡ doing.on l.start (mach (widened ws b) h s k held)
start_is {b = b} {h} {s} ws k held l = ap (λ o. doing.there o (mach (widened ws b) h s k held)) l.starts

widths_there : {program : List Coded} {w : World} {b : Base} {h : Heap} {s : State Bodied} {c : Context} {e : Env} (ws : WidthsSet) (k : ℕ) (held : Content) (l : At program w b h s c e) → widths_here (Some c.count) (mach (widened ws b) h s k held) ≡ doing.on ws (mach (widened ws b) h s k held)
widths_there {b = b} {h} {s} {c} ws k held l =
    ap (λ o. doing.after (doing.there (doing.entry_on (machine.some_widths ws ∷ b.entries) o c.count) (mach (widened ws b) h s k held)) doing.widths_in) l.starts
    ∙ ap (λ o. doing.after (doing.there o (mach (widened ws b) h s k held)) doing.widths_in) (top_at (machine.some_widths ws) b.entries (l.start + c.count) l.counted)

module _ (set : Setting) (program : Code) where
  closed_is : (ws : WidthsSet) (w : World) (b : Base) (h : Heap) (s : State Bodied) (c : Context) (e : Env) (k : ℕ) (held : Content) (st : Place) → At program.instructions w b h s c e → does set program st (instr.CloseWidths c.count) (mach (widened ws b) h s k held) ≡ doing.on tt (mach b h s (k + 1) machine.nothing)
  closed_is ws w b h s c e k held st l =
      ap (λ r. doing.after (doing.after r (λ start. doing.cut_entries (start + c.count))) (λ z. hold machine.nothing >> go_on)) (start_is ws k held l)
      ∙ ap (λ z. doing.on tt (record (mach b h s (k + 1) machine.nothing) { entries = z })) (ap (lowest (machine.some_widths ws ∷ b.entries)) l.counted ∙ lowest_append (machine.some_widths ws ∷ []) b.entries)

  widths_are : (ws : WidthsSet) (w : World) (b : Base) (h : Heap) (s : State Bodied) (c : Context) (e : Env) (k : ℕ) (held : Content) (f : WidthsSet → doing.Row (Unit {0})) → At program.instructions w b h s c e → ((widths_here (Some c.count) >>= f) >> go_on) (mach (widened ws b) h s k held) ≡ (f ws >> go_on) (mach (widened ws b) h s k held)
  widths_are ws w b h s c e k held f l = ap (λ r. doing.after (doing.after r f) (λ z. go_on)) (widths_there ws k held l)

  reset_is : (ws : WidthsSet) (width : Width) (n : ℤ) (w : World) (b : Base) (h : Heap) (s : State Bodied) (c : Context) (e : Env) (k : ℕ) (held : Content) (st : Place) → At program.instructions w b h s c e → held ≡ machine.a_value (value.Integer n) → does set program st (instr.SetWidth width (Some c.count)) (mach (widened ws b) h s k held) ≡ doing.on tt (mach (widened (with_width width n ws) b) h s (k + 1) held)
  reset_is ws width n w b h s c e k held st l q =
      let m = mach (widened ws b) h s k held in
      let new = machine.some_widths (with_width width n ws) in
      ap (λ x. doing.after (doing.integer_in x m) (λ i. widths_here (Some c.count) >>= λ old. widths_become program.marks (Some c.count) (with_width width i old) >> go_on)) q
      ∙ ap (λ r. doing.after r (λ old. widths_become program.marks (Some c.count) (with_width width n old) >> go_on)) (widths_there ws k held l)
      ∙ ap (λ r. doing.after (doing.after r (λ start. doing.set_entry (start + c.count) new)) (λ z. go_on)) (start_is ws k held l)
      ∙ ap (λ z. doing.on tt (record (mach (widened ws b) h s (k + 1) held) { entries = z })) (ap (λ i. replaced (machine.some_widths ws ∷ b.entries) i new) l.counted ∙ newest_replaced (machine.some_widths ws) new b.entries)
    where
      newest_replaced : (x y : Entry) (xs : List Entry) → replaced (x ∷ xs) (length xs) y ≡ y ∷ xs
      newest_replaced x y xs = ap (λ (t : Bool). let o : List Entry = elim t [ true ↦ y ∷ xs | false ↦ x ∷ replaced xs (length xs) y ] in o) (is_equal (length xs))

  -- below a cell that was pushed
  pub at_below : (w : World) (b : Base) (h : Heap) (s : State Bodied) (c : Context) (e : Env) (y : Content) (k : ℕ) (x : Content) (h' : Heap) (s' : State Bodied) (m' : Machine) → At program.instructions w b h s c e → Grew h (with_cells (s.cells + 1) s) h' s' → Reached (pushed y b) s.active k x h' s' m' → At program.instructions w b h' (with_cells (s'.cells - 1) s') c e
  at_below w b h s c e y k x h' s' m' a g q = at_on program.instructions w b h h' s (with_cells (s'.cells - 1) s') c e
      (grew_on h s h' s' h' (with_cells (s'.cells - 1) s') (grew_on h s h (with_cells (s.cells + 1) s) h' s' (grew_to h s (with_cells (s.cells + 1) s) refl refl refl refl (λ d. d)) g) (grew_to h' s' (with_cells (s'.cells - 1) s') refl refl refl refl (λ d. d)))
      (settled_below y b h' s'.memory s'.records s'.fields q.settled) (let z = q.cells in omega (arith, z)) q.listed a

  module _ (later : Job → M Bodied state.Given) where
    pub spot_by : (a : Phrase) → PhraseFollows set program later a → (at : Place) (w : World) (b : Base) (h : Heap) (s : State Bodied) (c : Context) (e : Env) (k : ℕ) (held : Content) → HasAt program.instructions k (code c at the_place k a) → At program.instructions w b h s c e → Fits program.marks w b (marks a) → Follows set program (Placed set program b s.active (k + size (known c) a)) w.targets h s (mach b h s k held) (state.spot_of at (go set later a for_place at e) s)
    spot_by a p at w b h s c e k held code l ft = spot_follows set program b s.active (k + size (known c) a) w.targets h s (mach b h s k held) at (go set later a for_place at e s) (p.by for_place at w b h s c e the_place k held code refl l ft)

    -- ---- assignment

    assigned_holds : (b : Base) (h : Heap) (st : Option Place) (v : Value) → Holds b h (copying.assigned st v) (given_on (is_none st) v)
    assigned_holds b h None v = refl
    assigned_holds b h (Some st) v = tt

    assigned_follows : (st : Option Place) (t : ValueType) (a d : Phrase) → PhraseFollows set program later a → PhraseFollows set program later d → (at : Place) (w : World) (b : Base) (h : Heap) (s : State Bodied) (c : Context) (e : Env) (k l1 : ℕ) (held : Content) →
        HasAt program.instructions k (code c at the_place k a ▸ one at instr.Push ▸ code c at the_value l1 d ▸ one at (instr.Assign t (is_none st))) → l1 ≡ k + size (known c) a + 1 → At program.instructions w b h s c e → Fits program.marks w b (max (marks a) (marks d)) →
        Follows set program (Gives b s.active (k + size (known c) a + 1 + size (known c) d + 1)) w.targets h s (mach b h s k held) (after (state.spot_of at (go set later a for_place at e) s) (λ sp s1. after (state.take_cells 1 at s1) (λ z s2. after (after (state.value_of at (go set later d for_value at e) s2) (λ v s3. after (state.assign at t sp v s3) (λ y. state.give (copying.assigned st v)))) (λ r. state.◌>>◌ (give_back 1) (state.give r)))))
    assigned_follows st t a d pa pd at w b h s c e k l1 held code q1 l ft =
        let k1 = k + size (known c) a in
        let k2 = k1 + 1 + size (known c) d in
        let R = Gives b s.active (k2 + 1) in
        let has1 = behind program.instructions c at the_place k a _ code in
        let has2 = code_at set program later c at the_value l1 (k1 + 1) d _ q1 has1.1 in
        let has3 = behind program.instructions c at the_value (k1 + 1) d _ has2 in
        follows_then set program (Placed set program b s.active k1) R w.targets h s (mach b h s k held) (state.spot_of at (go set later a for_place at e) s) (λ sp s1. after (state.take_cells 1 at s1) (λ z s2. after (after (state.value_of at (go set later d for_value at e) s2) (λ v s3. after (state.assign at t sp v s3) (λ y. state.give (copying.assigned st v)))) (λ r. state.◌>>◌ (give_back 1) (state.give r))))
        (spot_by a pa at w b h s c e k held (has_front program.instructions k _ _ code) l (fits_left (marks a) (marks d) ft))
        (λ sp h1 s1 m1 pl g. let r = pl.reached in let x = machine.a_spot pl.spot in let a1 = at_reached set program w b h s c e k1 x h1 s1 m1 l g r in
        follows_at set program R w.targets h1 s1 m1 (mach b h1 s1 k1 x) _ r.is
        (push_then set program R w.targets w b h1 s1 k1 x at (λ z s2. after (after (state.value_of at (go set later d for_value at e) s2) (λ v s3. after (state.assign at t sp v s3) (λ y. state.give (copying.assigned st v)))) (λ r. state.◌>>◌ (give_back 1) (state.give r))) has1.0 a1.agrees
        (follows_assoc set program R w.targets h1 (with_cells (s1.cells + 1) s1) (mach (pushed x b) h1 s1 (k1 + 1) x) (state.value_of at (go set later d for_value at e) (with_cells (s1.cells + 1) s1)) (λ v s3. after (state.assign at t sp v s3) (λ y. state.give (copying.assigned st v))) (λ r. state.◌>>◌ (give_back 1) (state.give r))
        (follows_then set program (λ v. Reached (pushed x b) s1.active k2 (machine.a_value v)) R w.targets h1 (with_cells (s1.cells + 1) s1) (mach (pushed x b) h1 s1 (k1 + 1) x) (state.value_of at (go set later d for_value at e) (with_cells (s1.cells + 1) s1)) (λ v s3. after (after (state.assign at t sp v s3) (λ y. state.give (copying.assigned st v))) (λ r. state.◌>>◌ (give_back 1) (state.give r)))
        (value_by set program later d pd at w (pushed x b) h1 (with_cells (s1.cells + 1) s1) c e (k1 + 1) x (has_front program.instructions (k1 + 1) _ _ has2) (at_pushed program.instructions w b h1 s1 c e x a1) (fits_pushed x (fits_right (marks a) (marks d) ft)))
        (λ v h3 s3 m3 r3 g3. let a3 = at_below w b h1 s1 c e x k2 (machine.a_value v) h3 s3 m3 a1 g3 r3 in
        follows_at set program R w.targets h3 s3 m3 (mach (pushed x b) h3 s3 k2 (machine.a_value v)) _ r3.is
        (follows_assoc set program R w.targets h3 s3 (mach (pushed x b) h3 s3 k2 (machine.a_value v)) (state.assign at t sp v s3) (λ y. state.give (copying.assigned st v)) (λ r. state.◌>>◌ (give_back 1) (state.give r))
        (assign_then set program R w.targets b h3 s3 k2 (machine.a_value v) (mach (pushed x b) h3 s3 k2 (machine.a_value v)) (record { at = at; does = instr.Assign t (is_none st) }) (hold (given_on (is_none st) v) >> go_on) (λ z s4. on (copying.assigned st v) (with_cells (s4.cells - 1) s4)) t sp pl.spot v has3.0 refl a3.agrees.listed a3.agrees.settled (spot_on sp pl.spot h1 h3 g3.fields pl.stands)
        (λ memory em stm dm. let s4 = with_memory memory s3 in let s5 = with_cells (s4.cells - 1) s4 in
        follows_from set program R w.targets h3 s4 h3 s5 (mach (pushed x b) h3 s3 k2 (machine.a_value v)) (mach b h3 s5 (k2 + 1) (given_on (is_none st) v)) (on (copying.assigned st v) s5) (one_row set program (mach (pushed x b) h3 s3 k2 (machine.a_value v)) (mach b h3 s5 (k2 + 1) (given_on (is_none st) v)) (record { at = at; does = instr.Assign t (is_none st) }) has3.0 dm) (grew_to h3 s4 s5 refl refl refl refl (λ d. d))
        (follows_on set program R w.targets h3 s5 (mach b h3 s5 (k2 + 1) (given_on (is_none st) v)) (mach b h3 s5 (k2 + 1) (given_on (is_none st) v)) (copying.assigned st v) already
        (record { held = given_on (is_none st) v; holds = assigned_holds b h3 st v; reached = record { is = refl; settled = stm; cells = a3.agrees.cells; listed = r3.listed ∙ r.listed } }))))))))))
      where
        spot_on : (sp : state.Spot) (y : machine.Spot) (h1 h3 : Heap) → ((f n : ℕ) → Rattle.stack_code.specs.Machine.on_top_of h1.fields f ≡ Some n → Rattle.stack_code.specs.Machine.on_top_of h3.fields f ≡ Some n) → Rattle.code_simulation.specs.Relation.HeldSpot b h1 sp y → Rattle.code_simulation.specs.Relation.HeldSpot b h3 sp y
        spot_on (state.whole n) (machine.whole (machine.in_cell i)) h1 h3 f q = q
        spot_on (state.whole n) (machine.whole (machine.in_field i)) h1 h3 f q = f i n q
        spot_on (state.within n i j y) (machine.within (machine.in_cell o) i' j' y') h1 h3 f q = q
        spot_on (state.within n i j y) (machine.within (machine.in_field o) i' j' y') h1 h3 f q = (f o n q.0, q.1, q.2, q.3)
        spot_on (state.whole n) (machine.within o i' j' y') h1 h3 f q = absurd q
        spot_on (state.within n i j y) (machine.whole o) h1 h3 f q = absurd q

    pub assign_follows : (st : Option Place) (t : ValueType) (a d : Phrase) → PhraseFollows set program later a → PhraseFollows set program later d → PhraseFollows set program later (Assign st t a d)
    assign_follows st t a d pa pd = record { by = by }
      where
        by : (u : Use) (at : Place) → CodeDoes set program u at (Assign st t a d) (go set later (Assign st t a d) u at)
        by for_place at w b h s c e mode k held code wanted l ft = tt
        by for_value at w b h s c e mode k held code wanted l ft =
            let s0 = begun_state st s in
            let k0 = k + begin_size st in
            let end = k0 + size (known c) a + 1 + size (known c) d + 1 in
            ends_at set program b s.active end (k + size (known c) (Assign st t a d)) w.targets h s (mach b h s k held) (go set later (Assign st t a d) for_value at e s) (omega arith)
            (begin_then set program (Gives b s.active end) w.targets st w b h s k held _ _ code l.agrees (λ has.
            gives_as set program b s0.active s.active end w.targets h s0 (mach b h s0 k0 held) _ (active_begun set program st s)
            (assigned_follows st t a d pa pd (innermost at st) w b h s0 c e k0 _ held has refl (at_begun set program st w b h s c e l) ft)))

    -- ---- ASSERT and IOCONTROL

    pub assert_follows : (st : Place) (a : Phrase) → PhraseFollows set program later a → PhraseFollows set program later (Assert st a)
    assert_follows st a p = record { by = by }
      where
        by : (u : Use) (at : Place) → CodeDoes set program u at (Assert st a) (go set later (Assert st a) u at)
        by for_place at w b h s c e mode k held code wanted l ft = tt
        by for_value at w b h s c e mode k held code wanted l ft =
            let s0 = begun_state (Some st) s in
            let k1 = k + 1 + size (known c) a in
            ends_at set program b s.active (k1 + 1) (k + size (known c) (Assert st a)) w.targets h s (mach b h s k held) (go set later (Assert st a) for_value at e s) (omega arith)
            (begin_then set program (Gives b s.active (k1 + 1)) w.targets (Some st) w b h s k held _ (λ z s1. after (state.truth_of st (go set later a for_value st e) s1) (λ truth. state.test truth (state.give state.nothing) (state.fault_at fault.AssertionFalse st))) code l.agrees (λ has.
            follows_then set program (IsTruth set program b s.active k1) (Gives b s.active (k1 + 1)) w.targets h s0 (mach b h s0 (k + 1) held) (state.truth_of st (go set later a for_value st e) s0) (λ truth. state.test truth (state.give state.nothing) (state.fault_at fault.AssertionFalse st))
            (truth_by set program later a p st w b h s0 c e (k + 1) held (has_front program.instructions (k + 1) _ _ has) (at_begun set program (Some st) w b h s c e l) ft)
            (λ truth h1 s1 m1 r g. let a1 = at_reached set program w b h s0 c e k1 (machine.a_value (value.Logical truth)) h1 s1 m1 (at_begun set program (Some st) w b h s c e l) g r in
            follows_at set program (Gives b s.active (k1 + 1)) w.targets h1 s1 m1 (mach b h1 s1 k1 (machine.a_value (value.Logical truth))) _ r.is (which truth w b h1 s1 c e k1 s.active (behind program.instructions c st the_value (k + 1) a _ has).0 a1 r.listed))))
          where
            which : (truth : Bool) (w : World) (b : Base) (h1 : Heap) (s1 : State Bodied) (c : Context) (e : Env) (k1 : ℕ) (active : List state.Entry) → slice_get program.instructions k1 ≡ Some (record { at = st; does = instr.Assert }) → At program.instructions w b h1 s1 c e → s1.active ≡ active → Follows set program (Gives b active (k1 + 1)) w.targets h1 s1 (mach b h1 s1 k1 (machine.a_value (value.Logical truth))) (state.test truth (state.give state.nothing) (state.fault_at fault.AssertionFalse st) s1)
            which true w b h1 s1 c e k1 active i a1 q = gives_nothing set program b active (k1 + 1) w.targets h1 s1 (mach b h1 s1 k1 (machine.a_value (value.Logical true))) (one_row set program (mach b h1 s1 k1 (machine.a_value (value.Logical true))) (mach b h1 s1 (k1 + 1) machine.nothing) _ i refl) a1.agrees.settled a1.agrees.cells q
            which false w b h1 s1 c e k1 active i a1 q = fault_here set program (Gives b active (k1 + 1)) w.targets h1 s1 (mach b h1 s1 k1 (machine.a_value (value.Logical false))) _ fault.AssertionFalse b k1 (machine.a_value (value.Logical false)) i refl a1.agrees.listed a1.agrees.settled

    pub control_follows : (st : Place) (a : Phrase) → PhraseFollows set program later a → PhraseFollows set program later (IoControl st a)
    control_follows st a p = record { by = by }
      where
        by : (u : Use) (at : Place) → CodeDoes set program u at (IoControl st a) (go set later (IoControl st a) u at)
        by for_place at w b h s c e mode k held code wanted l ft = tt
        by for_value at w b h s c e mode k held code wanted l ft =
            let s0 = begun_state (Some st) s in
            let k1 = k + 1 + size (known c) a in
            let R = Gives b s.active (k1 + 1) in
            ends_at set program b s.active (k1 + 1) (k + size (known c) (IoControl st a)) w.targets h s (mach b h s k held) (go set later (IoControl st a) for_value at e s) (omega arith)
            (begin_then set program R w.targets (Some st) w b h s k held _ (λ z s1. after (state.integer_of st (go set later a for_value st e) s1) (λ i. state.◌>>◌ (copying.io_control i) (state.give state.nothing))) code l.agrees (λ has.
            follows_then set program (IsInteger set program b s.active k1) R w.targets h s0 (mach b h s0 (k + 1) held) (state.integer_of st (go set later a for_value st e) s0) (λ i. state.◌>>◌ (copying.io_control i) (state.give state.nothing))
            (integer_by set program later a p st w b h s0 c e (k + 1) held (has_front program.instructions (k + 1) _ _ has) (at_begun set program (Some st) w b h s c e l) ft)
            (λ i h1 s1 m1 r g. let a1 = at_reached set program w b h s0 c e k1 (machine.a_value (value.Integer i)) h1 s1 m1 (at_begun set program (Some st) w b h s c e l) g r in
            let has1 = (behind program.instructions c st the_value (k + 1) a _ has).0 in
            let v = machine.a_value (value.Integer i) in
            follows_at set program R w.targets h1 s1 m1 (mach b h1 s1 k1 v) _ r.is
            (control_then set program R w.targets b h1 s1 k1 v (mach b h1 s1 k1 v) (record { at = st; does = instr.IoControl }) (hold machine.nothing >> go_on) (λ z. state.give state.nothing) i refl
            (λ l n d. gives_nothing set program b s.active (k1 + 1) w.targets h1 (record s1 { pieces = l; data_read = n }) (mach b h1 s1 k1 v) (one_row set program (mach b h1 s1 k1 v) (mach b h1 (record s1 { pieces = l; data_read = n }) (k1 + 1) machine.nothing) _ has1 d) a1.agrees.settled a1.agrees.cells r.listed)))))

    -- ---- WRITE

    pub data EachDoes : Phrases → Type 0 where
      does_none : EachDoes no_phrases
      does_and : {a : Phrase} {rest : Phrases} → PhraseFollows set program later a → EachDoes rest → EachDoes (phrase_and a rest)

    -- the end of a WRITE: nothing is held
    abbrev WriteEnds : Base → List state.Entry → ℕ → Unit {0} → Heap → State Bodied → Machine → Type 0
    WriteEnds b active next z h s m = Gives b active next state.nothing h s m

    -- the parts behind a setting: the entry of the widths lies on the stacks
    opened_follow : (values : Phrases) → EachDoes values → (st : Place) (first : Bool) (ws : WidthsSet) (roles : List Role) (w : World) (b : Base) (h : Heap) (s : State Bodied) (c : Context) (e : Env) (k : ℕ) (held : Content) → HasAt program.instructions k (code_writes (with_entries 1 c) st first (Some c.count) k roles values) → At program.instructions w b h s c e → Fits program.marks w b (1 + phrases_marks values) →
        Follows set program (WriteEnds b s.active (k + writes_size (known c) values)) w.targets h s (mach (widened ws b) h s k held) (go_writes set later values st first ws roles e s)
    opened_follow no_phrases p st first ws roles w b h s c e k held code l ft =
        follows_on set program (WriteEnds b s.active (k + 1)) w.targets h s (mach (widened ws b) h s k held) (mach b h s (k + 1) machine.nothing) tt
        (one_row set program (mach (widened ws b) h s k held) (mach b h s (k + 1) machine.nothing) (record { at = st; does = instr.CloseWidths c.count }) code.0 (closed_is ws w b h s c e k held st l))
        (record { held = machine.nothing; holds = tt; reached = record { is = refl; settled = l.agrees.settled; cells = l.agrees.cells; listed = refl } })
    opened_follow (phrase_and a rest) ps st first ws [] w b h s c e k held code l ft = tt
    opened_follow (phrase_and a rest) (does_and p ps) st first ws (placed ∷ roles) w b h s c e k held code l ft =
        let k1 = k + size (known c) a in
        let kn = k + (size (known c) a + (1 + writes_size (known c) rest)) in
        let R = WriteEnds b s.active kn in
        let c' = with_entries 1 c in
        let bw = widened ws b in
        let has1 = behind program.instructions c' st the_value k a _ code in
        follows_then set program (λ v. Reached bw s.active k1 (machine.a_value v)) R w.targets h s (mach bw h s k held) (state.value_of st (go set later a for_value st e) s) (λ v. state.◌>>◌ (value_written set st first ws v) (go_writes set later rest st false ws roles e))
        (value_by set program later a p st w bw h s c' e k held (has_front program.instructions k _ _ code) (at_widened program.instructions ws w b h s c e l) (fits_widened ws (fits_less (front_fits (marks a) (phrases_marks rest)) ft)))
        (λ v h1 s1 m1 r g. let a1 = at_unwidened program.instructions ws w b h s c e k1 (machine.a_value v) h1 s1 m1 l g r in
        let aw = at_widened program.instructions ws w b h1 s1 c e a1 in
        let x = machine.a_value v in
        follows_at set program R w.targets h1 s1 m1 (mach bw h1 s1 k1 x) _ r.is
        (written_then set program R w.targets bw h1 s1 k1 x (mach bw h1 s1 k1 x) (record { at = st; does = instr.Write first (Some c.count) }) go_on (λ z. go_writes set later rest st false ws roles e) first ws v has1.0 (widths_are ws w b h1 s1 c e k1 x (doing.value_written set first v) a1) aw.agrees.listed aw.agrees.settled
        (λ pieces d. let s2 : State Bodied = record s1 { pieces = pieces } in
        follows_from set program R w.targets h1 s2 h1 s2 (mach bw h1 s1 k1 x) (mach bw h1 s2 (k1 + 1) x) (go_writes set later rest st false ws roles e s2) (one_row set program (mach bw h1 s1 k1 x) (mach bw h1 s2 (k1 + 1) x) _ has1.0 d) (grew_here h1 s2)
        (subst (λ act. Follows set program (WriteEnds b act kn) w.targets h1 s2 (mach bw h1 s2 (k1 + 1) x) (go_writes set later rest st false ws roles e s2)) r.listed
        (subst (λ n. Follows set program (WriteEnds b s1.active n) w.targets h1 s2 (mach bw h1 s2 (k1 + 1) x) (go_writes set later rest st false ws roles e s2)) (behind_part (size (known c) a) (writes_size (known c) rest) k)
        (opened_follow rest ps st false ws roles w b h1 s2 c e (k1 + 1) x (subst (λ n. HasAt program.instructions (k1 + 1) (code_writes c' st false (Some c.count) n roles rest)) (behind_value k (size (known c) a)) has1.1) (at_on program.instructions w b h1 h1 s1 s2 c e (grew_to h1 s1 s2 refl refl refl refl (λ d. d)) a1.agrees.settled a1.agrees.cells refl a1) (fits_less (back_fits (marks a) (phrases_marks rest)) ft)))))))
    opened_follow (phrase_and a rest) (does_and p ps) st first ws (sets width ∷ roles) w b h s c e k held code l ft =
        let k1 = k + size (known c) a in
        let kn = k + (size (known c) a + (1 + writes_size (known c) rest)) in
        let R = WriteEnds b s.active kn in
        let c' = with_entries 1 c in
        let bw = widened ws b in
        let has1 = behind program.instructions c' st the_value k a _ code in
        follows_then set program (IsInteger set program bw s.active k1) R w.targets h s (mach bw h s k held) (state.integer_of st (go set later a for_value st e) s) (λ n. go_writes set later rest st first (with_width width n ws) roles e)
        (integer_by set program later a p st w bw h s c' e k held (has_front program.instructions k _ _ code) (at_widened program.instructions ws w b h s c e l) (fits_widened ws (fits_less (front_fits (marks a) (phrases_marks rest)) ft)))
        (λ n h1 s1 m1 r g. let a1 = at_unwidened program.instructions ws w b h s c e k1 (machine.a_value (value.Integer n)) h1 s1 m1 l g r in
        let x = machine.a_value (value.Integer n) in
        let ws' = with_width width n ws in
        let bn = widened ws' b in
        follows_at set program R w.targets h1 s1 m1 (mach bw h1 s1 k1 x) _ r.is
        (follows_from set program R w.targets h1 s1 h1 s1 (mach bw h1 s1 k1 x) (mach bn h1 s1 (k1 + 1) x) (go_writes set later rest st first ws' roles e s1) (one_row set program (mach bw h1 s1 k1 x) (mach bn h1 s1 (k1 + 1) x) (record { at = st; does = instr.SetWidth width (Some c.count) }) has1.0 (reset_is ws width n w b h1 s1 c e k1 x st a1 refl)) (grew_here h1 s1)
        (subst (λ act. Follows set program (WriteEnds b act kn) w.targets h1 s1 (mach bn h1 s1 (k1 + 1) x) (go_writes set later rest st first ws' roles e s1)) r.listed
        (subst (λ i. Follows set program (WriteEnds b s1.active i) w.targets h1 s1 (mach bn h1 s1 (k1 + 1) x) (go_writes set later rest st first ws' roles e s1)) (behind_part (size (known c) a) (writes_size (known c) rest) k)
        (opened_follow rest ps st first ws' roles w b h1 s1 c e (k1 + 1) x (subst (λ i. HasAt program.instructions (k1 + 1) (code_writes c' st first (Some c.count) i roles rest)) (behind_value k (size (known c) a)) has1.1) a1 (fits_less (back_fits (marks a) (phrases_marks rest)) ft))))))

    -- the parts in front of any setting, and the first setting
    writes_follow : (values : Phrases) → EachDoes values → (st : Place) (first : Bool) (roles : List Role) (w : World) (b : Base) (h : Heap) (s : State Bodied) (c : Context) (e : Env) (k : ℕ) (held : Content) → HasAt program.instructions k (code_writes c st first None k roles values) → At program.instructions w b h s c e → Fits program.marks w b (width_marks roles + phrases_marks values) →
        Follows set program (WriteEnds b s.active (k + writes_size (known c) values)) w.targets h s (mach b h s k held) (go_writes set later values st first none_set roles e s)
    writes_follow no_phrases p st first roles w b h s c e k held code l ft =
        follows_on set program (WriteEnds b s.active (k + 1)) w.targets h s (mach b h s k held) (mach b h s (k + 1) machine.nothing) tt
        (one_row set program (mach b h s k held) (mach b h s (k + 1) machine.nothing) (record { at = st; does = instr.Nothing }) code.0 refl)
        (record { held = machine.nothing; holds = tt; reached = record { is = refl; settled = l.agrees.settled; cells = l.agrees.cells; listed = refl } })
    writes_follow (phrase_and a rest) ps st first [] w b h s c e k held code l ft = tt
    writes_follow (phrase_and a rest) (does_and p ps) st first (placed ∷ roles) w b h s c e k held code l ft =
        let k1 = k + size (known c) a in
        let kn = k + (size (known c) a + (1 + writes_size (known c) rest)) in
        let R = WriteEnds b s.active kn in
        let has1 = behind program.instructions c st the_value k a _ code in
        follows_then set program (λ v. Reached b s.active k1 (machine.a_value v)) R w.targets h s (mach b h s k held) (state.value_of st (go set later a for_value st e) s) (λ v. state.◌>>◌ (value_written set st first none_set v) (go_writes set later rest st false none_set roles e))
        (value_by set program later a p st w b h s c e k held (has_front program.instructions k _ _ code) l (fits_less (part_fits (width_marks roles) (marks a) (phrases_marks rest)) ft))
        (λ v h1 s1 m1 r g. let a1 = at_reached set program w b h s c e k1 (machine.a_value v) h1 s1 m1 l g r in
        let x = machine.a_value v in
        follows_at set program R w.targets h1 s1 m1 (mach b h1 s1 k1 x) _ r.is
        (written_then set program R w.targets b h1 s1 k1 x (mach b h1 s1 k1 x) (record { at = st; does = instr.Write first None }) go_on (λ z. go_writes set later rest st false none_set roles e) first none_set v has1.0 refl a1.agrees.listed a1.agrees.settled
        (λ pieces d. let s2 : State Bodied = record s1 { pieces = pieces } in
        follows_from set program R w.targets h1 s2 h1 s2 (mach b h1 s1 k1 x) (mach b h1 s2 (k1 + 1) x) (go_writes set later rest st false none_set roles e s2) (one_row set program (mach b h1 s1 k1 x) (mach b h1 s2 (k1 + 1) x) _ has1.0 d) (grew_here h1 s2)
        (subst (λ act. Follows set program (WriteEnds b act kn) w.targets h1 s2 (mach b h1 s2 (k1 + 1) x) (go_writes set later rest st false none_set roles e s2)) r.listed
        (subst (λ n. Follows set program (WriteEnds b s1.active n) w.targets h1 s2 (mach b h1 s2 (k1 + 1) x) (go_writes set later rest st false none_set roles e s2)) (behind_part (size (known c) a) (writes_size (known c) rest) k)
        (writes_follow rest ps st false roles w b h1 s2 c e (k1 + 1) x (subst (λ n. HasAt program.instructions (k1 + 1) (code_writes c st false None n roles rest)) (behind_value k (size (known c) a)) has1.1) (at_on program.instructions w b h1 h1 s1 s2 c e (grew_to h1 s1 s2 refl refl refl refl (λ d. d)) a1.agrees.settled a1.agrees.cells refl a1) (fits_less (rest_fits (width_marks roles) (marks a) (phrases_marks rest)) ft)))))))
    writes_follow (phrase_and a rest) (does_and p ps) st first (sets width ∷ roles) w b h s c e k held code l ft =
        let k1 = k + size (known c) a in
        let kn = k + (size (known c) a + (1 + writes_size (known c) rest)) in
        let R = WriteEnds b s.active kn in
        let has1 = behind program.instructions c st the_value k a _ code in
        follows_then set program (IsInteger set program b s.active k1) R w.targets h s (mach b h s k held) (state.integer_of st (go set later a for_value st e) s) (λ n. go_writes set later rest st first (with_width width n none_set) roles e)
        (integer_by set program later a p st w b h s c e k held (has_front program.instructions k _ _ code) l (fits_less (part_fits 1 (marks a) (phrases_marks rest)) ft))
        (λ n h1 s1 m1 r g. let a1 = at_reached set program w b h s c e k1 (machine.a_value (value.Integer n)) h1 s1 m1 l g r in
        let x = machine.a_value (value.Integer n) in
        let ws' = with_width width n none_set in
        let bn = widened ws' b in
        follows_at set program R w.targets h1 s1 m1 (mach b h1 s1 k1 x) _ r.is
        (enter_in_room set program (mach b h1 s1 k1 x) (mach b h1 s1 k1 x) (record { at = st; does = instr.SetWidth width None }) (machine.some_widths ws') go_on (room_for_entry ft) refl
        (λ d. follows_from set program R w.targets h1 s1 h1 s1 (mach b h1 s1 k1 x) (mach bn h1 s1 (k1 + 1) x) (go_writes set later rest st first ws' roles e s1) (one_row set program (mach b h1 s1 k1 x) (mach bn h1 s1 (k1 + 1) x) (record { at = st; does = instr.SetWidth width None }) has1.0 d) (grew_here h1 s1)
        (subst (λ act. Follows set program (WriteEnds b act kn) w.targets h1 s1 (mach bn h1 s1 (k1 + 1) x) (go_writes set later rest st first ws' roles e s1)) r.listed
        (subst (λ i. Follows set program (WriteEnds b s1.active i) w.targets h1 s1 (mach bn h1 s1 (k1 + 1) x) (go_writes set later rest st first ws' roles e s1)) (behind_part (size (known c) a) (writes_size (known c) rest) k)
        (opened_follow rest ps st first ws' roles w b h1 s1 c e (k1 + 1) x (subst (λ i. HasAt program.instructions (k1 + 1) (code_writes (with_entries 1 c) st first (Some c.count) i roles rest)) (behind_value k (size (known c) a)) has1.1) a1 (fits_less (back_fits (marks a) (phrases_marks rest)) ft)))))))

    -- behind a list, nothing is held
    pub nothing_behind : (st : Place) (b : Base) (active : List state.Entry) (k : ℕ) (ts : List Target) (h : Heap) (s : State Bodied) (m : Machine) (r : Outcome Bodied (Unit {0})) → slice_get program.instructions k ≡ Some (record { at = st; does = instr.Nothing }) → Follows set program (IsLeft b active k) ts h s m r → Follows set program (Gives b active (k + 1)) ts h s m (after r (λ z. state.give state.nothing))
    nothing_behind st b active k ts h s m r i f = follows_then set program (IsLeft b active k) (Gives b active (k + 1)) ts h s m r (λ z. state.give state.nothing) f (λ z h1 s1 m1 q g. let y = q.1 in
        follows_at set program (Gives b active (k + 1)) ts h1 s1 m1 (mach b h1 s1 k q.0) (on state.nothing s1) y.is
        (gives_nothing set program b active (k + 1) ts h1 s1 (mach b h1 s1 k q.0) (one_row set program (mach b h1 s1 k q.0) (mach b h1 s1 (k + 1) machine.nothing) _ i refl) y.settled y.cells y.listed))

    pub write_follows : (st : Place) (first : Bool) (roles : List Role) (values : Phrases) → EachDoes values → PhraseFollows set program later (Write st first roles values)
    write_follows st first roles values ps = record { by = by }
      where
        by : (u : Use) (at : Place) → CodeDoes set program u at (Write st first roles values) (go set later (Write st first roles values) u at)
        by for_place at w b h s c e mode k held code wanted l ft = tt
        by for_value at w b h s c e mode k held code wanted l ft =
            let s0 = begun_state (Some st) s in
            let kn = k + 1 + writes_size (known c) values in
            ends_at set program b s.active kn (k + size (known c) (Write st first roles values)) w.targets h s (mach b h s k held) (go set later (Write st first roles values) for_value at e s) (omega arith)
            (begin_then set program (Gives b s.active kn) w.targets (Some st) w b h s k held _ (λ z s1. after (go_writes set later values st first none_set roles e s1) (λ y. state.give state.nothing)) code l.agrees (λ has.
            follows_then set program (WriteEnds b s.active kn) (Gives b s.active kn) w.targets h s0 (mach b h s0 (k + 1) held) (go_writes set later values st first none_set roles e s0) (λ z. state.give state.nothing)
            (writes_follow values ps st first roles w b h s0 c e (k + 1) held has (at_begun set program (Some st) w b h s c e l) ft)
            (λ z h1 s1 m1 q g. follows_on set program (Gives b s.active kn) w.targets h1 s1 m1 m1 state.nothing already q)))

    -- ---- READ and READCARD

    pub data TargetsDo : Targets → Type 0 where
      targets_none : TargetsDo no_targets
      targets_and : {t : ValueType} {a : Phrase} {rest : Targets} → PhraseFollows set program later a → TargetsDo rest → TargetsDo (target_and t a rest)

    reads_follow : (targets : Targets) → TargetsDo targets → (st : Place) (first : Bool) (w : World) (b : Base) (h : Heap) (s : State Bodied) (c : Context) (e : Env) (k : ℕ) (held : Content) → HasAt program.instructions k (code_reads c st first k targets) → At program.instructions w b h s c e → Fits program.marks w b (targets_marks targets) →
        Follows set program (IsLeft b s.active (k + targets_size (known c) targets)) w.targets h s (mach b h s k held) (go_reads set later targets st first e s)
    reads_follow no_targets p st first w b h s c e k held code l ft = follows_on set program (IsLeft b s.active (k + 0)) w.targets h s (mach b h s k held) (mach b h s k held) tt already (held, record { is = ap (λ n. mach b h s n held) (omega arith); settled = l.agrees.settled; cells = l.agrees.cells; listed = refl })
    reads_follow (target_and t a rest) (targets_and p ps) st first w b h s c e k held code l ft =
        let k1 = k + size (known c) a in
        let kn = k + (size (known c) a + (1 + targets_size (known c) rest)) in
        let R = IsLeft b s.active kn in
        let has1 = behind program.instructions c st the_place k a _ code in
        follows_then set program (Placed set program b s.active k1) R w.targets h s (mach b h s k held) (state.spot_of st (go set later a for_place st e) s) (λ sp s1. after (copying.scan set st first (read_type t) s1) (λ v. state.◌>>◌ (state.assign st t sp v) (go_reads set later rest st false e)))
        (spot_by a p st w b h s c e k held (has_front program.instructions k _ _ code) l (fits_left (marks a) (targets_marks rest) ft))
        (λ sp h1 s1 m1 pl g. let r = pl.reached in let x = machine.a_spot pl.spot in let a1 = at_reached set program w b h s c e k1 x h1 s1 m1 l g r in
        follows_at set program R w.targets h1 s1 m1 (mach b h1 s1 k1 x) _ r.is
        (scan_then set program R w.targets b h1 s1 k1 x (mach b h1 s1 k1 x) (record { at = st; does = instr.Read first t }) (λ v. doing.assign t pl.spot v >> go_on) (λ v. state.◌>>◌ (state.assign st t sp v) (go_reads set later rest st false e)) first (read_type t) has1.0 (shape (doing.scan set first (read_type t) (mach b h1 s1 k1 x)) (doing.assign t pl.spot) go_on) a1.agrees.listed a1.agrees.settled
        (λ v n d. let s2 : State Bodied = record s1 { data_read = n } in
        assign_then set program R w.targets b h1 s2 k1 x (mach b h1 s1 k1 x) (record { at = st; does = instr.Read first t }) go_on (λ z. go_reads set later rest st false e) t sp pl.spot v has1.0 d a1.agrees.listed a1.agrees.settled pl.stands
        (λ memory em stm dm. let s3 : State Bodied = record s2 { memory = memory } in
        let g3 = grew_on h1 s1 h1 s2 h1 s3 (grew_to h1 s1 s2 refl refl refl refl (λ d. d)) (grew_memory h1 s2 memory em) in
        follows_from set program R w.targets h1 s3 h1 s3 (mach b h1 s1 k1 x) (mach b h1 s3 (k1 + 1) x) (go_reads set later rest st false e s3) (one_row set program (mach b h1 s1 k1 x) (mach b h1 s3 (k1 + 1) x) _ has1.0 dm) (grew_here h1 s3)
        (subst (λ act. Follows set program (IsLeft b act kn) w.targets h1 s3 (mach b h1 s3 (k1 + 1) x) (go_reads set later rest st false e s3)) r.listed
        (subst (λ i. Follows set program (IsLeft b s1.active i) w.targets h1 s3 (mach b h1 s3 (k1 + 1) x) (go_reads set later rest st false e s3)) (same (size (known c) a) (targets_size (known c) rest) k)
        (reads_follow rest ps st false w b h1 s3 c e (k1 + 1) x (subst (λ i. HasAt program.instructions (k1 + 1) (code_reads c st false i rest)) (again k (size (known c) a)) has1.1) (at_on program.instructions w b h1 h1 s1 s3 c e g3 stm a1.agrees.cells refl a1) (fits_right (marks a) (targets_marks rest) ft))))))))
      where
        same : (n o i : ℕ) → i + n + 1 + o ≡ i + (n + (1 + o))
        same n o i = omega arith

        again : (i n : ℕ) → i + (n + 1) ≡ i + n + 1
        again i n = omega arith

        shape : (n : doing.Next Value) (f : Value → doing.Row (Unit {0})) (g : doing.Row (Unit {0})) → doing.after (doing.after n f) (λ z. g) ≡ doing.after n (λ v. f v >> g)
        shape (doing.on v m) f g = refl
        shape (doing.ended m) f g = refl
        shape (doing.halted y m) f g = refl

    cards_follow : (targets : Targets) → TargetsDo targets → (st : Place) (w : World) (b : Base) (h : Heap) (s : State Bodied) (c : Context) (e : Env) (k : ℕ) (held : Content) → HasAt program.instructions k (code_cards c st k targets) → At program.instructions w b h s c e → Fits program.marks w b (targets_marks targets) →
        Follows set program (IsLeft b s.active (k + targets_size (known c) targets)) w.targets h s (mach b h s k held) (go_cards set later targets st e s)
    cards_follow no_targets p st w b h s c e k held code l ft = follows_on set program (IsLeft b s.active (k + 0)) w.targets h s (mach b h s k held) (mach b h s k held) tt already (held, record { is = ap (λ n. mach b h s n held) (omega arith); settled = l.agrees.settled; cells = l.agrees.cells; listed = refl })
    cards_follow (target_and t a rest) (targets_and p ps) st w b h s c e k held code l ft =
        let k1 = k + size (known c) a in
        let kn = k + (size (known c) a + (1 + targets_size (known c) rest)) in
        let R = IsLeft b s.active kn in
        let has1 = behind program.instructions c st the_place k a _ code in
        follows_then set program (Placed set program b s.active k1) R w.targets h s (mach b h s k held) (state.spot_of st (go set later a for_place st e) s) (λ sp s1. after (copying.take_card set st s1) (λ v. state.◌>>◌ (state.assign st t sp v) (go_cards set later rest st e)))
        (spot_by a p st w b h s c e k held (has_front program.instructions k _ _ code) l (fits_left (marks a) (targets_marks rest) ft))
        (λ sp h1 s1 m1 pl g. let r = pl.reached in let x = machine.a_spot pl.spot in let a1 = at_reached set program w b h s c e k1 x h1 s1 m1 l g r in
        follows_at set program R w.targets h1 s1 m1 (mach b h1 s1 k1 x) _ r.is
        (card_then set program R w.targets b h1 s1 k1 x (mach b h1 s1 k1 x) (record { at = st; does = instr.ReadCard t }) (λ v. doing.assign t pl.spot v >> go_on) (λ v. state.◌>>◌ (state.assign st t sp v) (go_cards set later rest st e)) has1.0 (shape (doing.take_card set (mach b h1 s1 k1 x)) (doing.assign t pl.spot) go_on) a1.agrees.listed a1.agrees.settled
        (λ v n d. let s2 : State Bodied = record s1 { data_read = n } in
        assign_then set program R w.targets b h1 s2 k1 x (mach b h1 s1 k1 x) (record { at = st; does = instr.ReadCard t }) go_on (λ z. go_cards set later rest st e) t sp pl.spot v has1.0 d a1.agrees.listed a1.agrees.settled pl.stands
        (λ memory em stm dm. let s3 : State Bodied = record s2 { memory = memory } in
        let g3 = grew_on h1 s1 h1 s2 h1 s3 (grew_to h1 s1 s2 refl refl refl refl (λ d. d)) (grew_memory h1 s2 memory em) in
        follows_from set program R w.targets h1 s3 h1 s3 (mach b h1 s1 k1 x) (mach b h1 s3 (k1 + 1) x) (go_cards set later rest st e s3) (one_row set program (mach b h1 s1 k1 x) (mach b h1 s3 (k1 + 1) x) _ has1.0 dm) (grew_here h1 s3)
        (subst (λ act. Follows set program (IsLeft b act kn) w.targets h1 s3 (mach b h1 s3 (k1 + 1) x) (go_cards set later rest st e s3)) r.listed
        (subst (λ i. Follows set program (IsLeft b s1.active i) w.targets h1 s3 (mach b h1 s3 (k1 + 1) x) (go_cards set later rest st e s3)) (same (size (known c) a) (targets_size (known c) rest) k)
        (cards_follow rest ps st w b h1 s3 c e (k1 + 1) x (subst (λ i. HasAt program.instructions (k1 + 1) (code_cards c st i rest)) (again k (size (known c) a)) has1.1) (at_on program.instructions w b h1 h1 s1 s3 c e g3 stm a1.agrees.cells refl a1) (fits_right (marks a) (targets_marks rest) ft))))))))
      where
        same : (n o i : ℕ) → i + n + 1 + o ≡ i + (n + (1 + o))
        same n o i = omega arith

        again : (i n : ℕ) → i + (n + 1) ≡ i + n + 1
        again i n = omega arith

        shape : (n : doing.Next Value) (f : Value → doing.Row (Unit {0})) (g : doing.Row (Unit {0})) → doing.after (doing.after n f) (λ z. g) ≡ doing.after n (λ v. f v >> g)
        shape (doing.on v m) f g = refl
        shape (doing.ended m) f g = refl
        shape (doing.halted y m) f g = refl

    pub read_follows : (st : Place) (first : Bool) (targets : Targets) → TargetsDo targets → PhraseFollows set program later (Read st first targets)
    read_follows st first targets ps = record { by = by }
      where
        by : (u : Use) (at : Place) → CodeDoes set program u at (Read st first targets) (go set later (Read st first targets) u at)
        by for_place at w b h s c e mode k held code wanted l ft = tt
        by for_value at w b h s c e mode k held code wanted l ft =
            let s0 = begun_state (Some st) s in
            let k1 = k + 1 + targets_size (known c) targets in
            ends_at set program b s.active (k1 + 1) (k + size (known c) (Read st first targets)) w.targets h s (mach b h s k held) (go set later (Read st first targets) for_value at e s) (omega arith)
            (begin_then set program (Gives b s.active (k1 + 1)) w.targets (Some st) w b h s k held _ (λ z s1. after (go_reads set later targets st first e s1) (λ y. state.give state.nothing)) code l.agrees (λ has.
            nothing_behind st b s.active k1 w.targets h s0 (mach b h s0 (k + 1) held) (go_reads set later targets st first e s0) (has_back program.instructions (k + 1) (targets_size (known c) targets) _ _ (reads_sized c st first (k + 1) targets).by has).0
            (reads_follow targets ps st first w b h s0 c e (k + 1) held (has_front program.instructions (k + 1) _ _ has) (at_begun set program (Some st) w b h s c e l) ft)))

    pub read_card_follows : (st : Place) (targets : Targets) → TargetsDo targets → PhraseFollows set program later (ReadCard st targets)
    read_card_follows st targets ps = record { by = by }
      where
        by : (u : Use) (at : Place) → CodeDoes set program u at (ReadCard st targets) (go set later (ReadCard st targets) u at)
        by for_place at w b h s c e mode k held code wanted l ft = tt
        by for_value at w b h s c e mode k held code wanted l ft =
            let s0 = begun_state (Some st) s in
            let k1 = k + 1 + targets_size (known c) targets in
            ends_at set program b s.active (k1 + 1) (k + size (known c) (ReadCard st targets)) w.targets h s (mach b h s k held) (go set later (ReadCard st targets) for_value at e s) (omega arith)
            (begin_then set program (Gives b s.active (k1 + 1)) w.targets (Some st) w b h s k held _ (λ z s1. after (go_cards set later targets st e s1) (λ y. state.give state.nothing)) code l.agrees (λ has.
            nothing_behind st b s.active k1 w.targets h s0 (mach b h s0 (k + 1) held) (go_cards set later targets st e s0) (has_back program.instructions (k + 1) (targets_size (known c) targets) _ _ (cards_sized c st (k + 1) targets).by has).0
            (cards_follow targets ps st w b h s0 c e (k + 1) held (has_front program.instructions (k + 1) _ _ has) (at_begun set program (Some st) w b h s c e l) ft)))
