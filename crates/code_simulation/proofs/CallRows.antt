-- The row of a call: a step, the depth, the frame, the mark, and the names of formals. And the body that is found there.
use Rattle.std.proofs.Common.{◌≡◌, ℕ, zero, suc, ◌+◌, ◌-◌, ◌<◌, ◌≤◌, List, [], ◌∷◌, ◌++◌, length, map, Option, Some, None, refl, sym, ap, ◌∙◌, subst, arith, length-append, append_assoc, append-nil}
use Rattle.std.specs.Prelude.{slice_get}
use Rattle.value_ops.specs.declared.places.Place.{Place}
use Rattle.value_ops.specs.declared.values.Value.{Value}
use Rattle.program_meaning.specs.Phrases.{Formal}
use Rattle.program_meaning.specs.State as state
use Rattle.program_meaning.specs.State.{State, Setting, Outcome, on, M, after, for_value, ArrayInfo, in_call}
use Rattle.program_meaning.specs.Environments.{Bodied, Ready, with_value, without_value, put_for, Bound, bound, extend}
use Rattle.stack_code.specs.Instr as instr
use Rattle.stack_code.specs.Instr.{Instr, ProcedureHead}
use Rattle.stack_code.specs.Code.{Code, Coded, procedure_of}
use Rattle.stack_code.specs.Machine as machine
use Rattle.stack_code.specs.Machine.{Machine, Content, Entry, Frame, Closure, on_top_of}
use Rattle.stack_code.specs.Doing as doing
use Rattle.stack_code.specs.Doing.{frame_for, open_frame, enter, run_newest, go_to, start_of, there, here, cells_now, outwards, ◌>>=◌, ◌>>◌}
use Rattle.stack_code.specs.Table.{does, call, enter_formals, name_of}
use Rattle.phrase_code.specs.Coding.{body_context}
use Rattle.code_simulation.specs.Relation.{Slot, variable, fixed, Base, Heap, mach, World, LiveProcedure, Lives, Settled, Listed, Grew, Agrees, At, content_of, field_of}
use Rattle.code_simulation.specs.Following.{Follows}
use Rattle.code_simulation.specs.Ready.{ReadyAre, FormalsAt, new_values, bound_of, pushed_slots, bound_slots, formal_entries}
use Rattle.code_simulation.proofs.Stacks.{length_map}
use Rattle.code_simulation.proofs.Rows.{one_row, follows_from}
use Rattle.code_simulation.proofs.Keeping.{Over, Later, later_over, shows_later, listed_later, agrees_over, with_cells}
use Rattle.code_simulation.proofs.Counting.{ticked, deepened, tick_then, deeper_then}
use Rattle.code_simulation.proofs.Texts.{settled_in, inner_shows, newest_at}
use Rattle.code_simulation.proofs.Growing.{cells_appended, fields_appended}
use Rattle.code_simulation.proofs.Cells.{fixed_over, pushed_all, length_over, settled_below_all}
use Rattle.code_simulation.proofs.Binding.{bound_is, cells_bound, settled_bound, shows_formals, formals_at, formals_listed}
use Rattle.code_simulation.proofs.Joining.{entries_there, ready_down, ready_later_all}
use Rattle.code_simulation.specs.Room.{Fits}
use Rattle.code_simulation.specs.UnderWay.{names_in, texts_in, IsDeep}
use Rattle.program_meaning.specs.State.{most_cells, most_depth}
use Rattle.code_simulation.proofs.Room.{room_for_frame, room_for_entry, texts_below, marks_few_in_text, link_is_below, opened_is, frame_in_room, enter_in_room, formals_in_room}

-- the frame of a call from here
abbrev pub call_frame : Base → (back head : ℕ) → (link : Option ℕ) → Frame
call_frame b back head link = record { back = back; text = b.current; link = link; start = length b.entries; base = length b.slots; purpose = for_value; type = None; head = head; counts = Rattle.std.specs.Prelude.true; answer = machine.nothing }

-- the stacks in a call: its formals have their cells and entries, where the first new variable has number n
abbrev pub call_base : Base → (back head : ℕ) → (link : Option ℕ) → (site : Place) → (n : ℕ) → List Formal → List Ready → List Content → Base
call_base b back head link site n fs rs xs = record {
  reserved = b.reserved;
  slots = bound_slots n rs xs b.slots;
  entries = formal_entries (length b.slots) fs (machine.a_call head site ∷ b.entries);
  frames = call_frame b back head link ∷ b.frames;
  current = Some (length (call_frame b back head link ∷ b.frames) - 1);
}

-- the state when formals are bound, and in the body
abbrev pub bound_state : List Ready → State Bodied → State Bodied
bound_state rs s = record s { steps = s.steps + 1; depth = s.depth + 1; memory = s.memory ++ new_values rs }

abbrev pub body_state : List ℕ → Place → List Formal → List Ready → State Bodied → State Bodied
body_state name site fs rs s = record (bound_state rs s) { active = in_call name site (bound_of (length s.memory) fs rs).names ∷ s.active }

over_pushes : (xs : List Content) (l : List Slot) → fixed_over xs l ≡ pushed_slots xs l
over_pushes [] l = refl
over_pushes (x ∷ xs) l = over_pushes xs (fixed x ∷ l)

bound_append : (n : ℕ) (rs : List Ready) (xs : List Content) (l : List Slot) → bound_slots n rs xs l ≡ bound_slots n rs xs [] ++ l
bound_append n [] xs l = refl
bound_append n (with_value v ∷ rs) [] l = refl
bound_append n (without_value ∷ rs) [] l = refl
bound_append n (put_for t ∷ rs) [] l = refl
bound_append n (with_value v ∷ rs) (x ∷ xs) l = bound_append (n + 1) rs xs (variable n ∷ l) ∙ sym (append_assoc (bound_slots (n + 1) rs xs []) (variable n ∷ []) l) ∙ ap (λ z. z ++ l) (sym (bound_append (n + 1) rs xs (variable n ∷ [])))
bound_append n (without_value ∷ rs) (x ∷ xs) l = bound_append (n + 1) rs xs (variable n ∷ l) ∙ sym (append_assoc (bound_slots (n + 1) rs xs []) (variable n ∷ []) l) ∙ ap (λ z. z ++ l) (sym (bound_append (n + 1) rs xs (variable n ∷ [])))
bound_append n (put_for t ∷ rs) (x ∷ xs) l = bound_append n rs xs (fixed x ∷ l) ∙ sym (append_assoc (bound_slots n rs xs []) (fixed x ∷ []) l) ∙ ap (λ z. z ++ l) (sym (bound_append n rs xs (fixed x ∷ [])))

entries_append : (cell : ℕ) (fs : List Formal) (es : List Entry) → formal_entries cell fs es ≡ formal_entries cell fs [] ++ es
entries_append cell [] es = refl
entries_append cell (f ∷ fs) es = entries_append (cell + 1) fs (name_of f.is f.name.text cell ∷ es) ∙ sym (append_assoc (formal_entries (cell + 1) fs []) (name_of f.is f.name.text cell ∷ []) es) ∙ ap (λ z. z ++ es) (sym (entries_append (cell + 1) fs (name_of f.is f.name.text cell ∷ [])))

pub entries_count : (cell : ℕ) (fs : List Formal) (es : List Entry) → length (formal_entries cell fs es) ≡ length es + length fs
entries_count cell [] es = omega arith
entries_count cell (f ∷ fs) es = let e = entries_count (cell + 1) fs (name_of f.is f.name.text cell ∷ es) in omega (arith, e)

pub over_call : (b : Base) (back head : ℕ) (link : Option ℕ) (site : Place) (n : ℕ) (fs : List Formal) (rs : List Ready) (xs : List Content) → Over b (call_base b back head link site n fs rs xs)
over_call b back head link site n fs rs xs = record {
  slots = bound_slots n rs xs [];
  slots_are = bound_append n rs xs b.slots;
  entries = formal_entries (length b.slots) fs [] ++ machine.a_call head site ∷ [];
  entries_are = entries_append (length b.slots) fs (machine.a_call head site ∷ b.entries) ∙ sym (append_assoc (formal_entries (length b.slots) fs []) (machine.a_call head site ∷ []) b.entries);
  frames = call_frame b back head link ∷ [];
  frames_are = refl;
  reserved = λ k i. i;
}

-- more variables
pub grew_bound : (h : Heap) (s s' : State Bodied) (more : List (Option Value)) → s'.memory ≡ s.memory ++ more → s'.arrays ≡ s.arrays → s'.procedures ≡ s.procedures → s'.labels ≡ s.labels → (IsDeep s → IsDeep s') → Grew h s h s'
grew_bound h s s' more p q r t d = record {
  memory = let e = ap length p in let n = length-append s.memory more in omega (arith, e, n);
  arrays = λ k a e. subst (λ l. slice_get l k ≡ Some a) (sym q) e;
  procedures = λ k a e. subst (λ l. slice_get l k ≡ Some a) (sym r) e;
  labels = omega (arith, t);
  fields = λ f k e. e;
  fresh = λ f k e. inl_ e;
  deep = d;
}
  where
    inl_ : {A B : Type 0} → A → Rattle.std.specs.Prelude.◌⊎◌ A B
    inl_ x = Rattle.std.proofs.Common.inl x

-- ---- the body of a call

-- the machine in a call that has just been entered, at the body's code
pub call_at : (program : List Coded) (w : World) (b : Base) (h : Heap) (s : State Bodied) (k j : ℕ) (site : Place) (q : LiveProcedure) (rs : List Ready) (xs : List Content) (ld : Lives program w b s q) → Agrees program w b h (with_cells j s) →
    Settled (pushed_all xs b) h s.memory s.records s.fields → length b.slots + length xs ≡ s.cells → ReadyAre program w (pushed_all xs b) s.arrays ld.bodied.formals rs xs →
    At program w (call_base b k q.head q.link site (length s.memory) ld.bodied.formals rs xs) h (body_state ld.bodied.name site ld.bodied.formals rs s) (body_context q.context ld.bodied.formals) (extend (bound_of (length s.memory) ld.bodied.formals rs).puts ld.bodied.env)
call_at program w b h s k j site q rs xs ld ag st ec rd = record {
  agrees = agrees_over program w b cb h h (with_cells j s) s3 oc (grew_bound h (with_cells j s) s3 (new_values rs) refl refl refl refl (λ d. omega (arith, d))) settled cells listed ag;
  shows = shows_formals program w cb s.arrays (q.context.level + 1) cb.current (length b.entries) starts fs rs xs 1 (length b.slots) n ld.bodied.env q.context.names fat rc
      (inner_shows cb (length (f ∷ b.frames) - 1) f (newest_at f b.frames) program w s.arrays ld.bodied.env q.context.names q.context.level (shows_later program lo ld.bodied.env q.context.names q.context.level q.link ld.shows));
  start = length b.entries;
  starts = starts;
  counted = let e = entries_count (length b.slots) fs (machine.a_call q.head site ∷ b.entries) in omega (arith, e);
}
  where
    fs : List Formal
    fs = ld.bodied.formals

    n : ℕ
    n = length s.memory

    f : Frame
    f = call_frame b k q.head q.link

    cb : Base
    cb = call_base b k q.head q.link site n fs rs xs

    s3 : State Bodied
    s3 = body_state ld.bodied.name site fs rs s

    oc : Over b cb
    oc = over_call b k q.head q.link site n fs rs xs

    lo : Later w b s.arrays w cb s.arrays
    lo = later_over w b cb s.arrays s.arrays oc (λ i z y. y)

    starts : doing.start_at cb.frames (Some cb.current) ≡ Some (length b.entries)
    starts = ap start_of (newest_at f b.frames)

    rb : ReadyAre program w b s.arrays fs rs xs
    rb = ready_down program w b s.arrays xs (entries_there program b s.arrays b.entries [] s.active ag.listed) fs rs xs rd

    rc : ReadyAre program w cb s.arrays fs rs xs
    rc = ready_later_all program lo fs rs xs rb

    fat : FormalsAt cb (length b.entries) 1 (length b.slots) n fs rs xs
    fat = formals_at cb (length b.entries) fs rs xs 1 (length b.slots) n (machine.a_call q.head site ∷ b.entries) b.slots refl refl (omega arith) refl

    settled : Settled cb h s3.memory s3.records s3.fields
    settled = settled_in (record b { slots = bound_slots n rs xs b.slots }) cb h s3.memory s.records s.fields refl (λ i y. y) (settled_bound program w b s.arrays fs rs xs b h s.memory s.records s.fields rb (settled_below_all xs b h s.memory s.records s.fields st))

    cells : length cb.slots ≡ s3.cells
    cells = sym (length_map (content_of s3.memory) cb.slots) ∙ ap length (cells_bound program w b s.arrays fs rs xs s.memory b.slots rb) ∙ length_map (content_of s3.memory) (pushed_slots xs b.slots) ∙ ap length (sym (over_pushes xs b.slots)) ∙ length_over xs b.slots ∙ ec

    listed : Listed program cb s.arrays cb.entries [] s3.active
    listed = formals_listed program w cb s.arrays (length b.entries) fs rs xs 1 (length b.slots) n (machine.a_call q.head site ∷ b.entries) [] s3.active fat rc
        (record { at = ld.bodied.statement; known = record { name = ld.bodied.name; result = ld.bodied.result; formals = fs }; behind = ld.behind; is = ld.head; name_is = refl }, refl, append-nil (bound_of n fs rs).names, listed_later program lo b.entries [] s.active ag.listed)

-- ---- the row

-- a procedure as its name hands it on, and as its head tells it
abbrev pub closure_of : LiveProcedure → Closure
closure_of q = record { head = q.head; link = q.link }

abbrev pub head_of : Bodied → ProcedureHead
head_of p = record { name = p.name; result = p.result; formals = p.formals }

module _ (set : Setting) (program : Code) where
  -- a procedure that is declared is called so
  pub declared_row : (w : World) (b : Base) (h : Heap) (s : State Bodied) (k : ℕ) (held : Content) (at site : Place) (links : ℕ) (q : LiveProcedure) (xs : List Content) (s0 : State Bodied) (ld : Lives program.instructions w b s0 q) → outwards b.frames b.current links ≡ Some q.link →
      does set program at (instr.Call links q.head site) (mach (pushed_all xs b) h s k held) ≡ call set program.marks site (closure_of q) (head_of ld.bodied) (mach (pushed_all xs b) h s k held)
  declared_row w b h s k held at site links q xs s0 ld text_is =
      let m = mach (pushed_all xs b) h s k held in
      ap (λ o. doing.after (there o m) (λ text. there (procedure_of (slice_get program.instructions q.head)) >>= call set program.marks site (record { head = q.head; link = text }))) text_is
      ∙ ap (λ o. doing.after (there (procedure_of o) m) (call set program.marks site (closure_of q))) ld.head

  pub call_row : {A : Type 0} {fitting : ℕ} (R : A → Heap → State Bodied → Machine → Type 0) (w : World) (b : Base) (h : Heap) (s : State Bodied) (k : ℕ) (held : Content) (at site : Place) (does_it : Instr) (q : LiveProcedure) (rs : List Ready) (xs : List Content) (ld : Lives program.instructions w b s q) (G : Bound → M Bodied A) →
      does set program at does_it (mach (pushed_all xs b) h s k held) ≡ call set program.marks site (closure_of q) (head_of ld.bodied) (mach (pushed_all xs b) h s k held) → slice_get program.instructions k ≡ Some (record { at = at; does = does_it }) → length xs ≡ length ld.bodied.formals → ReadyAre program.instructions w (pushed_all xs b) s.arrays ld.bodied.formals rs xs →
      Settled (pushed_all xs b) h s.memory s.records s.fields → Listed program.instructions (pushed_all xs b) s.arrays b.entries [] s.active → IsDeep s → Fits program.marks w b fitting → names_in b.entries + length ld.bodied.formals ≤ most_cells →
      (texts_in b.entries < most_depth → Follows set program R w.targets h (bound_state rs s) (mach (call_base b (k + 1) q.head q.link site (length s.memory) ld.bodied.formals rs xs) h (bound_state rs s) (q.head + 1) held) (G (bound_of (length s.memory) ld.bodied.formals rs) (bound_state rs s))) →
      Follows set program R w.targets h s (mach (pushed_all xs b) h s k held) (after (state.tick set at s) (λ z. state.◌>>◌ (state.deeper at) (state.◌>>=◌ (bound at ld.bodied.formals rs) G)))
  call_row R w b h s k held at site does_it q rs xs ld G row has count rd st ls dp ft few g =
      tick_then set program R w.targets bp h s k held m0 i (doing.deeper >> body) (λ z. state.◌>>◌ (state.deeper at) (state.◌>>=◌ (bound at fs rs) G)) has row ls st
      (λ d1. deeper_then set program R w.targets bp h (ticked s) k held m0 i body (λ z. state.◌>>=◌ (bound at fs rs) G) has d1 ls st
      (λ dq d2. let tb = texts_below program.instructions bp s ls dp dq in subst (λ z. Follows set program R w.targets h s1 m0 (after z G)) (sym (bound_is program.instructions w bp s.arrays at fs rs xs s1 rd))
      (frame_in_room set program m0 m1 i f rest (room_for_frame ft) (d2 ∙ based ∙ opened_is program.marks (k + 1) (length b.slots) q.head q.link for_value None Rattle.std.specs.Prelude.true rest m1 (link_is_below b.frames q.link ld.under_way))
      (λ d3. enter_in_room set program m0 (record m1 { frames = f ∷ b.frames }) i (machine.a_call q.head site) (enter_formals program.marks (length b.slots) fs >> last) (room_for_entry ft) d3
      (λ d4. formals_in_room set program m0 i last fs (length b.slots) (record m1 { frames = f ∷ b.frames; entries = machine.a_call q.head site ∷ b.entries }) few (marks_few_in_text ft tb) d4
      (λ d5. follows_from set program R w.targets h s1 h s2 m0 m2 (G (bound_of (length s.memory) fs rs) s2) (one_row set program m0 m2 i has (d5 ∙ there_is)) (grew_bound h s1 s2 (new_values rs) refl refl refl refl (λ d. d)) (g tb)))))))
    where
      fs : List Formal
      fs = ld.bodied.formals

      bp : Base
      bp = pushed_all xs b

      i : Coded
      i = record { at = at; does = does_it }

      m0 : Machine
      m0 = mach bp h s k held

      s1 : State Bodied
      s1 = deepened (ticked s)

      m1 : Machine
      m1 = mach bp h s1 k held

      s2 : State Bodied
      s2 = bound_state rs s

      cb : Base
      cb = call_base b (k + 1) q.head q.link site (length s.memory) fs rs xs

      m2 : Machine
      m2 = mach cb h s2 (q.head + 1) held

      f : Frame
      f = call_frame b (k + 1) q.head q.link

      last : doing.Row (Unit {0})
      last = run_newest >> go_to (q.head + 1)

      from : ℕ → doing.Row (Unit {0})
      from n = open_frame program.marks (k + 1) n q.head q.link for_value None Rattle.std.specs.Prelude.true >> (enter program.marks (machine.a_call q.head site) >> (enter_formals program.marks n fs >> last))

      rest : doing.Row (Unit {0})
      rest = enter program.marks (machine.a_call q.head site) >> (enter_formals program.marks (length b.slots) fs >> last)

      body : doing.Row (Unit {0})
      body = here >>= λ j. cells_now >>= λ n. open_frame program.marks (j + 1) (n - length fs) q.head q.link for_value None Rattle.std.specs.Prelude.true >>
          (enter program.marks (machine.a_call q.head site) >> (enter_formals program.marks (n - length fs) fs >> (run_newest >> go_to (q.head + 1))))

      based : body m1 ≡ from (length b.slots) m1
      based = ap (λ n. from n m1) (let a = length_map (content_of s.memory) (fixed_over xs b.slots) in let e = length_over xs b.slots in omega (arith, a, e, count))

      cells_are : map (content_of s.memory) (fixed_over xs b.slots) ≡ map (content_of s2.memory) cb.slots
      cells_are = sym (cells_appended bp h s.memory (new_values rs) s.records s.fields st) ∙ ap (map (content_of s2.memory)) (over_pushes xs b.slots) ∙ sym (cells_bound program.instructions w bp s.arrays fs rs xs s.memory b.slots rd)

      there_is : last (record m1 { frames = f ∷ b.frames; entries = formal_entries (length b.slots) fs (machine.a_call q.head site ∷ b.entries) }) ≡ doing.on tt m2
      there_is = ap (λ l. doing.on tt (record m2 { cells = l; fields = map (field_of s.memory) h.fields })) cells_are ∙ ap (λ l. doing.on tt (record m2 { fields = l })) (sym (fields_appended bp h s.memory (new_values rs) s.records s.fields st))
