-- A call of a declared procedure, put together.
use Rattle.std.proofs.Common.{◌≡◌, ℕ, ◌+◌, ◌-◌, List, [], ◌∷◌, length, Option, Some, None, refl, sym, ap, ◌∙◌, subst, arith, append-nil}
use Rattle.std.specs.Prelude.{slice_get, false}
use Rattle.value_ops.specs.declared.places.Place.{Place}
use Rattle.algolw_typing.specs.Types.{ValueType}
use Rattle.program_meaning.specs.Phrases.{Formal, Actuals}
use Rattle.program_meaning.specs.State as state
use Rattle.program_meaning.specs.State.{State, Setting, on, M, after, in_call}
use Rattle.program_meaning.specs.Environments.{Env, extend, to_procedure, Bodied, Job, Ready, Bound, Meant, compared, procedure_at, the_procedure, called, invoked, body_done, go_actuals, go_back}
use Rattle.stack_code.specs.Instr as instr
use Rattle.stack_code.specs.Instr.{Instr}
use Rattle.stack_code.specs.Code.{Code, Coded}
use Rattle.stack_code.specs.Machine as machine
use Rattle.stack_code.specs.Machine.{Machine, Content, Frame, on_top_of}
use Rattle.stack_code.specs.Table.{does, call}
use Rattle.phrase_code.specs.Sizes.{Kind, a_procedure, call_kind, call_size, texts_size, actuals_size, backs_size}
use Rattle.phrase_code.specs.Coding.{Stand, Context, known, links, body_context, with_entries, code_actuals, code_backs, code_texts, call_code, one, ◌▸◌}
use Rattle.code_simulation.specs.Relation.{HasAt, Slot, fixed, Base, Heap, mach, World, LiveProcedure, Lives, HasProcedure, IsHeadOf, Holds, Settled, Listed, Grew, Agrees, At}
use Rattle.code_simulation.specs.Following.{Follows, Gives, LaterFollows}
use Rattle.code_simulation.specs.Ready.{ReadyAre, FormalsAt, slot_of, next_number, bound_of, bound_slots, formal_entries}
use Rattle.code_simulation.proofs.Stacks.{has_front, has_back, top_more}
use Rattle.code_simulation.proofs.Sizes.{actuals_sized, backs_sized}
use Rattle.code_simulation.proofs.Rows.{grew_on, follows_then}
use Rattle.code_simulation.proofs.Keeping.{Over, Later, over_same, later_over, start_later, shows_later, listed_later, agrees_over, with_cells, grew_to, settled_pushed}
use Rattle.code_simulation.proofs.Values.{follows_at}
use Rattle.code_simulation.proofs.Counting.{follows_since, follows_assoc}
use Rattle.code_simulation.proofs.Texts.{settled_in}
use Rattle.code_simulation.proofs.Cells.{Heaped, pushed_all, at_heaped}
use Rattle.code_simulation.proofs.Blocks.{NoSpot}
use Rattle.code_simulation.proofs.Spotless.{IsClean}
use Rattle.code_simulation.proofs.ActualLists.{EachActual, over_pushed_all}
use Rattle.code_simulation.proofs.Binding.{formals_at, formals_listed}
use Rattle.code_simulation.proofs.Joining.{ActualsBound, actuals_bound, entries_there, ready_down, ready_later_all}
use Rattle.code_simulation.proofs.CallRows.{call_frame, call_base, bound_state, body_state, entries_count, over_call, call_at, call_row, closure_of, head_of, declared_row}
use Rattle.code_simulation.proofs.CallEnds.{answering, held_base, held_state, freed_state, BackDone, body_returns, call_closes}
use Rattle.code_simulation.proofs.Backs.{PutsAt, puts_at, back_follows}
use Rattle.phrase_code.specs.Marks.{marks, actuals_marks}
use Rattle.code_simulation.specs.Room.{Fits}
use Rattle.code_simulation.specs.UnderWay.{names_in, texts_in, texts_under}
use Rattle.program_meaning.specs.State.{most_depth}
use Rattle.code_simulation.proofs.Room.{fits_call, fits_most}
use Rattle.code_simulation.proofs.CallEnds.{fits_held}
use Rattle.std.specs.Prelude.{◌<◌, ◌≤◌}

-- formals have their entries and cells on stacks with more cells
formals_over : (b b' : Base) → b'.entries ≡ b.entries → ((k : ℕ) (x : Slot) → on_top_of b.slots k ≡ Some x → on_top_of b'.slots k ≡ Some x) → (start position cell n : ℕ) (fs : List Formal) (rs : List Ready) (xs : List Content) → FormalsAt b start position cell n fs rs xs → FormalsAt b' start position cell n fs rs xs
formals_over b b' e g start position cell n (f ∷ fs) (r ∷ rs) (x ∷ xs) q = (ap (λ l. on_top_of l (start + position)) e ∙ q.0, g cell (slot_of n r x) q.1, formals_over b b' e g start (position + 1) (cell + 1) (next_number n r) fs rs xs q.2)
formals_over b b' e g start position cell n [] rs xs q = tt
formals_over b b' e g start position cell n (f ∷ fs) [] xs q = tt
formals_over b b' e g start position cell n (f ∷ fs) (r ∷ rs) [] q = tt

-- the caller's context, with the answered frame and what belongs to it on its stacks
answer_at : (program : List Coded) (w : World) (b ba : Base) (h1 h2 : Heap) (s1 s5 : State Bodied) (c : Context) (e : Env) (j n head : ℕ) (site : Place) (name : List ℕ) (fs : List Formal) (rs : List Ready) (xs : List Content) → Over b ba → At program w b h1 (with_cells j s1) c e → Grew h1 s1 h2 s5 →
    Settled ba h2 s5.memory s5.records s5.fields → length ba.slots ≡ s5.cells → s5.active ≡ in_call name site (bound_of n fs rs).names ∷ s1.active → ba.entries ≡ formal_entries (length b.slots) fs (machine.a_call head site ∷ b.entries) → FormalsAt ba (length b.entries) 1 (length b.slots) n fs rs xs →
    ReadyAre program w b s1.arrays fs rs xs → IsHeadOf program head name → ba.current ≡ b.current → At program w ba h2 s5 (with_entries (1 + length fs) c) e
answer_at program w b ba h1 h2 s1 s5 c e j n head site name fs rs xs o l g st ec ea ee fat rb hd cu = record {
  agrees = agrees_over program w b ba h1 h2 (with_cells j s1) s5 o gr st ec listed l.agrees;
  shows = subst (λ t. Rattle.code_simulation.specs.Relation.Shows program w ba s5.arrays e c.names c.level t) (sym cu) (shows_later program lo e c.names c.level b.current l.shows);
  start = l.start;
  starts = ap (λ t. Rattle.stack_code.specs.Doing.start_at ba.frames (Some t)) cu ∙ start_later b.frames ba.frames lo.frames (Some b.current) l.start l.starts;
  counted = let i = l.counted in let k = ap length ee in let m = entries_count (length b.slots) fs (machine.a_call head site ∷ b.entries) in omega (arith, i, k, m);
}
  where
    gr : Grew h1 (with_cells j s1) h2 s5
    gr = grew_on h1 (with_cells j s1) h1 s1 h2 s5 (grew_to h1 (with_cells j s1) s1 refl refl refl refl (λ d. d)) g

    lo : Later w b s1.arrays w ba s5.arrays
    lo = later_over w b ba s1.arrays s5.arrays o g.arrays

    listed : Listed program ba s5.arrays ba.entries [] s5.active
    listed = subst (λ z. Listed program ba s5.arrays z [] s5.active) (sym ee) (subst (λ z. Listed program ba s5.arrays (formal_entries (length b.slots) fs (machine.a_call head site ∷ b.entries)) [] z) (sym ea)
        (formals_listed program w ba s5.arrays (length b.entries) fs rs xs 1 (length b.slots) n (machine.a_call head site ∷ b.entries) [] (in_call name site (bound_of n fs rs).names ∷ s1.active) fat (ready_later_all program lo fs rs xs rb)
        (hd, refl, append-nil (bound_of n fs rs).names, listed_later program lo b.entries [] s1.active l.agrees.listed)))

over_answer : (result : Option ValueType) (b cb : Base) (f : Frame) (x : Content) → Over b cb → cb.frames ≡ f ∷ b.frames → Over b (answering (held_base result cb) f b.frames x)
over_answer None b cb f x o e = record { slots = o.slots; slots_are = o.slots_are; entries = o.entries; entries_are = o.entries_are; frames = record f { answer = x } ∷ []; frames_are = refl; reserved = o.reserved }
over_answer (Some t) b cb f x o e = record { slots = fixed machine.nothing ∷ o.slots; slots_are = ap (λ l. fixed machine.nothing ∷ l) o.slots_are; entries = o.entries; entries_are = o.entries_are; frames = record f { answer = x } ∷ []; frames_are = refl; reserved = o.reserved }

held_any : (b b' : Base) (h h' : Heap) (r : state.Given) (x : Content) → NoSpot r → Holds b h r x → Holds b' h' r x
held_any b b' h h' state.nothing machine.nothing n q = tt
held_any b b' h h' (state.a_value v) (machine.a_value u) n q = q
held_any b b' h h' (state.a_spot k) x n q = absurd n
held_any b b' h h' r x n q = absurd q

-- what a value that is held changes
record HeldIs (result : Option ValueType) (cb : Base) (f : Frame) (frames : List Frame) (x : Content) (h : Heap) (s : State Bodied) : Type 0 where
  pub settled : Settled (answering (held_base result cb) f frames x) h (held_state result s).memory (held_state result s).records (held_state result s).fields
  pub cells : length (answering (held_base result cb) f frames x).slots ≡ (held_state result s).cells
  pub active : (held_state result s).active ≡ s.active
  pub entries : (answering (held_base result cb) f frames x).entries ≡ cb.entries
  pub current : (answering (held_base result cb) f frames x).current ≡ f.text
  pub slots : (k : ℕ) (y : Slot) → on_top_of cb.slots k ≡ Some y → on_top_of (answering (held_base result cb) f frames x).slots k ≡ Some y
  pub grew : Grew h s h (held_state result s)

held_is : (result : Option ValueType) (cb : Base) (f : Frame) (frames : List Frame) (x : Content) (h : Heap) (s : State Bodied) → Settled cb h s.memory s.records s.fields → length cb.slots ≡ s.cells → HeldIs result cb f frames x h s
held_is None cb f frames x h s st ec = record { settled = settled_in cb (answering cb f frames x) h s.memory s.records s.fields refl (λ k i. i) st; cells = ec; active = refl; entries = refl; current = refl; slots = λ k y e. e; grew = grew_to h s s refl refl refl refl (λ d. d) }
held_is (Some t) cb f frames x h s st ec = record {
  settled = let pb = held_base (Some t) cb in settled_in pb (answering pb f frames x) h s.memory s.records s.fields refl (λ k i. i) (settled_pushed machine.nothing cb h s.memory s.records s.fields st);
  cells = omega (arith, ec);
  active = refl;
  entries = refl;
  current = refl;
  slots = λ k y e. top_more (fixed machine.nothing) cb.slots k y e;
  grew = grew_to h s (with_cells (s.cells + 1) s) refl refl refl refl (λ d. d);
}

module _ (set : Setting) (program : Code) (later : Job → M Bodied state.Given) (hl : LaterFollows set program later) (clean : (job : Job) (s : State Bodied) → IsClean job (later job s)) where
  -- the code between two places assigns formals back, wherever the call has answered
  abbrev pub BacksFollow : (w : World) (b : Base) (h : Heap) (s : State Bodied) (c : Context) (e : Env) (from to : ℕ) (q : LiveProcedure) (count : ℕ) → (List Meant → M Bodied (Unit {0})) → Type 0
  BacksFollow w b h s c e from to q count back = (ba : Base) (h' : Heap) (s' : State Bodied) (x : Content) (puts : List Meant) → Over b ba → ba.current ≡ b.current → ba.frames ≡ record (call_frame b from q.head q.link) { answer = x } ∷ b.frames → Grew h s h' s' →
      At program.instructions w ba h' s' (with_entries (1 + count) c) e → PutsAt ba (length b.slots) puts → ((n : ℕ) → n ≤ program.marks → Fits program.marks w ba n) → Follows set program (BackDone ba s'.active to) w.targets h' s' (mach ba h' s' from x) (back puts s')

  -- a row calls the procedure, whatever cells were pushed
  abbrev pub CallsBy : (b : Base) (k : ℕ) (at site : Place) (q : LiveProcedure) → Bodied → Instr → Type 0
  CallsBy b k at site q p does_it = (xs : List Content) (h : Heap) (s : State Bodied) (held : Content) → does set program at does_it (mach (pushed_all xs b) h s k held) ≡ call set program.marks site (closure_of q) (head_of p) (mach (pushed_all xs b) h s k held)

  -- a call whose actuals are ready, by whatever row, up to behind its end
  pub call_goes_on : {fitting : ℕ} (at p : Place) (w : World) (b : Base) (h : Heap) (s : State Bodied) (c : Context) (e : Env) (ka kb : ℕ) (q : LiveProcedure) (ld : Lives program.instructions w b s q) (does_it : Instr) (back : List Meant → M Bodied (Unit {0})) → CallsBy b ka at p q ld.bodied does_it →
      slice_get program.instructions ka ≡ Some (record { at = at; does = does_it }) → slice_get program.instructions kb ≡ Some (record { at = at; does = instr.End }) → BacksFollow w b h s c e (ka + 1) kb q (length ld.bodied.formals) back → At program.instructions w b h s c e → Fits program.marks w b fitting →
      (ready : M Bodied (List Ready)) (m : Machine) → Follows set program (ActualsBound program.instructions w b s.active ka ld.bodied.formals) w.targets h s m (ready s) →
      Follows set program (Gives b s.active (kb + 1)) w.targets h s m (called set later at p ld.bodied ready back s)
  call_goes_on at p w b h s c e ka kb q ld does_it back row has_call has_end backs l ft ready m prepared =
      follows_then set program (ActualsBound program.instructions w b s.active ka fs) R w.targets h s m (ready s) (λ rs. state.◌>>◌ (state.tick set at) (state.◌>>◌ (state.deeper at) (state.◌>>=◌ (Rattle.program_meaning.specs.Environments.bound at fs rs) G))) prepared
      (λ rs h1 s1 m1 a g1. behind rs h1 s1 m1 a g1)
    where
      fs : List Formal
      fs = ld.bodied.formals

      R : state.Given → Heap → State Bodied → Machine → Type 0
      R = Gives b s.active (kb + 1)

      K : state.Given → M Bodied state.Given
      K r = state.◌>>◌ state.shallower (state.◌>>◌ (state.give_back (length fs)) (state.give r))

      G : Bound → M Bodied state.Given
      G bnd = state.◌>>=◌ (state.under (in_call ld.bodied.name p bnd.names) (body_done set later ld.bodied back bnd)) K

      T : state.Given → M Bodied state.Given
      T r s' = after (state.◌>>◌ state.pop_entry (state.give r) s') K

      behind : (rs : List Ready) (h1 : Heap) (s1 : State Bodied) (m1 : Machine) (a : ActualsBound program.instructions w b s.active ka fs rs h1 s1 m1) → Grew h s h1 s1 → Follows set program R w.targets h1 s1 m1 (state.◌>>◌ (state.tick set at) (state.◌>>◌ (state.deeper at) (state.◌>>=◌ (Rattle.program_meaning.specs.Environments.bound at fs rs) G)) s1)
      behind rs h1 s1 m1 a g1 =
          follows_at set program R w.targets h1 s1 m1 (mach (pushed_all xs b) h1 s1 ka hp.held) _ hp.is
          (call_row set program R w b h1 s1 ka hp.held at p does_it q rs xs ld1 G (row xs h1 s1 hp.held) has_call a.count_is a.ready hp.settled
          (listed_later program.instructions (later_over w b (pushed_all xs b) s1.arrays s1.arrays (over_pushed_all xs b) (λ i z j. j)) b.entries [] s1.active l1.agrees.listed) l1.agrees.deep ft (a.few (names_in b.entries) ft.named ft.few)
          (λ tb. follows_since set program R w.targets h1 s2 s3 (mach cb h1 s2 (q.head + 1) hp.held) (G bnd s2) refl refl refl refl (λ d. let y = l1.agrees.deep in omega (arith, y))
          (follows_assoc set program R w.targets h1 s3 (mach cb h1 s3 (q.head + 1) hp.held) (body_done set later ld.bodied back bnd s3) (λ r. state.◌>>◌ state.pop_entry (state.give r)) K
          (body_returns set program later hl clean R w cb h1 s3 (body_context q.context fs) (extend bnd.puts ld.bodied.env) (q.head + 1) hp.held f b.frames ld.bodied.statement ld.bodied.body ld.bodied.result (back bnd.puts) T ld.written ld.body ld.result ld.back
          (call_at program.instructions w b h1 s1 (ka + 1) (s1.cells - length xs) p q rs xs ld1 l1.agrees hp.settled hp.cells a.ready)
          (fits_call cb f q.head p (length b.slots) fs (marks ld.bodied.body) refl refl (let i = count_cells in omega (arith, i)) (a.few (names_in b.entries) ft.named ft.few) tb (let y = ft.marks_are in let z = ld.few in omega (arith, y, z)) ft)
          (λ r x h2 s4 ns hx g2 ea st ec. answered tb r x h2 s4 ns hx g2 ea st ec)))))
        where
          hp : Heaped b a.cells s.active ka h1 s1 m1
          hp = a.heaped

          xs : List Content
          xs = a.cells

          n : ℕ
          n = length s1.memory

          l1 : At program.instructions w b h1 (with_cells (s1.cells - length xs) s1) c e
          l1 = at_heaped program.instructions w b h s c e xs ka h1 s1 m1 (length xs) refl l g1 hp

          ld1 : Lives program.instructions w b s1 q
          ld1 = record {
            bodied = ld.bodied;
            is = g1.procedures q.number ld.bodied ld.is;
            formals = ld.formals;
            written = ld.written;
            few = ld.few;
            behind = ld.behind;
            head = ld.head;
            body = ld.body;
            result = ld.result;
            back = ld.back;
            shows = shows_later program.instructions (later_over w b b s.arrays s1.arrays (over_same b) g1.arrays) ld.bodied.env q.context.names q.context.level q.link ld.shows;
            under_way = ld.under_way;
          }

          bnd : Bound
          bnd = bound_of n fs rs

          s2 : State Bodied
          s2 = bound_state rs s1

          s3 : State Bodied
          s3 = body_state ld.bodied.name p fs rs s1

          f : Frame
          f = call_frame b (ka + 1) q.head q.link

          cb : Base
          cb = call_base b (ka + 1) q.head q.link p n fs rs xs

          rb : ReadyAre program.instructions w b s1.arrays fs rs xs
          rb = ready_down program.instructions w b s1.arrays xs (entries_there program.instructions b s1.arrays b.entries [] s1.active l1.agrees.listed) fs rs xs a.ready

          hd : IsHeadOf program.instructions q.head ld.bodied.name
          hd = record { at = ld.bodied.statement; known = record { name = ld.bodied.name; result = ld.bodied.result; formals = fs }; behind = ld.behind; is = ld.head; name_is = refl }

          count_cells : length cb.slots ≡ length b.slots + length fs
          count_cells = let i = (call_at program.instructions w b h1 s1 (ka + 1) (s1.cells - length xs) p q rs xs ld1 l1.agrees hp.settled hp.cells a.ready).agrees.cells in let j = hp.cells in let m = a.count_is in omega (arith, i, j, m)

          answered : texts_in b.entries < most_depth → (r : state.Given) (x : Content) (h2 : Heap) (s4 : State Bodied) → NoSpot r → Holds cb h2 r x → Grew h1 s3 h2 s4 → s4.active ≡ s3.active → Settled cb h2 s4.memory s4.records s4.fields → length cb.slots ≡ s4.cells →
              Follows set program R w.targets h2 (held_state ld.bodied.result s4) (mach (answering (held_base ld.bodied.result cb) f b.frames x) h2 (held_state ld.bodied.result s4) (ka + 1) x) (after (back bnd.puts (held_state ld.bodied.result s4)) (λ z s5. T r (freed_state ld.bodied.result s5)))
          answered tb r x h2 s4 ns hx g2 ea st ec =
              let result = ld.bodied.result in
              let ba = answering (held_base result cb) f b.frames x in
              let hs = held_state result s4 in
              let hi = held_is result cb f b.frames x h2 s4 st ec in
              let oc = over_call b (ka + 1) q.head q.link p n fs rs xs in
              let oa = over_answer result b cb f x oc refl in
              let fat = formals_over cb ba hi.entries hi.slots (length b.entries) 1 (length b.slots) n fs rs xs (formals_at cb (length b.entries) fs rs xs 1 (length b.slots) n (machine.a_call q.head p ∷ b.entries) b.slots refl refl (omega arith) refl) in
              let g4 = grew_on h1 s1 h2 s4 h2 hs (grew_on h1 s1 h1 s3 h2 s4 grew_call g2) hi.grew in
              let la = answer_at program.instructions w b ba h1 h2 s1 hs c e (s1.cells - length xs) n q.head p ld.bodied.name fs rs xs oa l1 g4 hi.settled hi.cells (hi.active ∙ ea) hi.entries fat rb hd hi.current in
              follows_then set program (BackDone ba hs.active kb) R w.targets h2 hs (mach ba h2 hs (ka + 1) x) (back bnd.puts hs) (λ z s5. T r (freed_state result s5))
              (backs ba h2 hs x bnd.puts oa hi.current refl (grew_on h s h1 s1 h2 hs g1 g4) la (puts_at program.instructions w b ba s1.arrays (length b.entries) 1 (length b.slots) n fs rs xs rb fat)
              (λ more few. fits_held result cb f b.frames x (fits_call (answering cb f b.frames x) (record f { answer = x }) q.head p (length b.slots) fs more refl refl (let i = count_cells in omega (arith, i)) (a.few (names_in b.entries) ft.named ft.few) tb few ft)))
              (λ z h5 s5 m5 bd g5. let rc = bd.reached in
              follows_at set program R w.targets h5 s5 m5 (mach ba h5 s5 kb bd.held) (T r (freed_state result s5)) rc.is
              (call_closes set program later w b cb h5 s5 kb (ka + 1) q.head (length fs) q.link result s.active r x bd.held at has_end oc count_cells ns (held_any cb cb h2 h5 r x ns hx)
              (ap state.behind_first (rc.listed ∙ hi.active ∙ ea) ∙ hp.listed)
              (let u = ap texts_under (rc.listed ∙ hi.active ∙ ea) in let v = ap (λ z. texts_under (state.behind_first z)) (rc.listed ∙ hi.active ∙ ea) in omega (arith, u, v)) rc.settled rc.cells oa))
            where
              grew_call : Grew h1 s1 h1 s3
              grew_call = Rattle.code_simulation.proofs.CallRows.grew_bound h1 s1 s3 (Rattle.code_simulation.specs.Ready.new_values rs) refl refl refl refl (λ d. omega (arith, d))

  -- a call in line
  declared_follows : (given : Actuals) → EachActual set program later given → (at p : Place) (w : World) (b : Base) (h : Heap) (s : State Bodied) (c : Context) (e : Env) (k v : ℕ) (held : Content) (name : Stand) (y : HasProcedure w b v name c.level b.current) (ld : Lives program.instructions w b s y.procedure) →
      HasAt program.instructions k (code_actuals c at k given ld.bodied.formals ▸ (one at (instr.Call (links c name) name.target p) ▸ (code_backs (with_entries (1 + length ld.bodied.formals) c) at (k + actuals_size (known c) given ld.bodied.formals + 1) 0 k given ld.bodied.formals ▸ one at instr.End))) → At program.instructions w b h s c e → Fits program.marks w b (actuals_marks given) →
      Follows set program (Gives b s.active (k + actuals_size (known c) given ld.bodied.formals + 1 + backs_size (known c) given ld.bodied.formals + 1)) w.targets h s (mach b h s k held) (called set later at p ld.bodied (go_actuals set later given at ld.bodied.formals e) (λ bs. go_back set later given at ld.bodied.formals bs e) s)
  declared_follows given ps at p w b h s c e k v held name y ld code l ft =
      call_goes_on at p w b h s c e ka (ka + 1 + backs_size (known c) given fs) q ld (instr.Call (links c name) q.head p) (λ bs. go_back set later given at fs bs e)
      (λ xs h' s' held'. declared_row set program w b h' s' ka held' at p (links c name) q xs s ld y.text_is) has_call has_end
      (λ ba h2 s2 x puts o ec ef g la ap_ fb. back_follows set program later given ps fs puts at w ba h2 s2 c c' e (ka + 1) 0 k (length b.slots) x _ b.frames ef (omega arith) refl refl (has_front program.instructions (ka + 1) backs (one at instr.End) has1.1) has0 la ap_ (fb (actuals_marks given) (fits_most ft)))
      l ft (go_actuals set later given at fs e) (mach b h s k held) (actuals_bound set program later given ps fs at w b h s c e k held has0 l ft)
    where
      q : LiveProcedure
      q = y.procedure

      fs : List Formal
      fs = ld.bodied.formals

      ka : ℕ
      ka = k + actuals_size (known c) given fs

      c' : Context
      c' = with_entries (1 + length fs) c

      backs : List Coded
      backs = code_backs c' at (ka + 1) 0 k given fs

      has0 : HasAt program.instructions k (code_actuals c at k given fs)
      has0 = has_front program.instructions k (code_actuals c at k given fs) _ code

      has1 : HasAt program.instructions ka (one at (instr.Call (links c name) name.target p) ▸ (backs ▸ one at instr.End))
      has1 = has_back program.instructions k (actuals_size (known c) given fs) (code_actuals c at k given fs) _ (actuals_sized c at k given fs).by code

      has_call : slice_get program.instructions ka ≡ Some (record { at = at; does = instr.Call (links c name) q.head p })
      has_call = subst (λ i. slice_get program.instructions ka ≡ Some (record { at = at; does = instr.Call (links c name) i p })) y.head has1.0

      has_end : slice_get program.instructions (ka + 1 + backs_size (known c) given fs) ≡ Some (record { at = at; does = instr.End })
      has_end = (has_back program.instructions (ka + 1) (backs_size (known c) given fs) backs (one at instr.End) (backs_sized c' at (ka + 1) 0 k given fs).by has1.1).0

  -- a call by the name of a declared procedure, as the induction meets it
  pub declared_call : (given : Actuals) → EachActual set program later given → (at p : Place) (w : World) (b : Base) (h : Heap) (s : State Bodied) (c : Context) (e : Env) (k v : ℕ) (held : Content) (name : Stand) (y : HasProcedure w b v name c.level b.current) →
      HasAt program.instructions k (call_code c at false p k given (call_kind false (Some name.kind)) (Some name) (λ formals. code_actuals c at k given formals) (λ formals. code_backs (with_entries (1 + length formals) c) at (k + actuals_size (known c) given formals + 1) 0 k given formals) (λ l. code_texts c at l given)) → At program.instructions w b h s c e → Fits program.marks w b (actuals_marks given) →
      Follows set program (Gives b s.active (k + call_size (call_kind false (Some name.kind)) (λ formals. actuals_size (known c) given formals) (λ formals. backs_size (known c) given formals) (texts_size (known c) given) given)) w.targets h s (mach b h s k held) (invoked set later at false p (Some (to_procedure v)) given e (λ fs. go_actuals set later given at fs e) (λ fs bs. go_back set later given at fs bs e) s)
  declared_call given ps at p w b h s c e k v held name y code l ft = subst Goal (sym kind) (there (subst Code kind code))
    where
      ld : Lives program.instructions w b s y.procedure
      ld = l.agrees.lives y.procedure y.has

      fs : List Formal
      fs = ld.bodied.formals

      kind : name.kind ≡ a_procedure fs
      kind = y.kind ∙ ap a_procedure (sym ld.formals)

      Code : Kind → Type 0
      Code κ = HasAt program.instructions k (call_code c at false p k given (call_kind false (Some κ)) (Some name) (λ formals. code_actuals c at k given formals) (λ formals. code_backs (with_entries (1 + length formals) c) at (k + actuals_size (known c) given formals + 1) 0 k given formals) (λ l. code_texts c at l given))

      does_it : Bodied → M Bodied state.Given
      does_it q = state.◌>>◌ (compared at false e q.formals given) (called set later at p q (go_actuals set later given at q.formals e) (λ bs. go_back set later given at q.formals bs e))

      Goal : Kind → Type 0
      Goal κ = Follows set program (Gives b s.active (k + call_size (call_kind false (Some κ)) (λ formals. actuals_size (known c) given formals) (λ formals. backs_size (known c) given formals) (texts_size (known c) given) given)) w.targets h s (mach b h s k held) (after (the_procedure at v s) does_it)

      found : the_procedure at v s ≡ on ld.bodied s
      found = ap (λ n. procedure_at at (slice_get s.procedures n) s) y.number ∙ ap (λ o. procedure_at at o s) ld.is

      sums : (i m n : ℕ) → i + m + 1 + n + 1 ≡ i + (m + (1 + (n + 1)))
      sums i m n = omega arith

      there : Code (a_procedure fs) → Goal (a_procedure fs)
      there has = subst (λ z. Follows set program (Gives b s.active (k + (actuals_size (known c) given fs + (1 + (backs_size (known c) given fs + 1))))) w.targets h s (mach b h s k held) (after z does_it)) (sym found)
          (subst (λ n. Follows set program (Gives b s.active n) w.targets h s (mach b h s k held) (does_it ld.bodied s)) (sums k (actuals_size (known c) given fs) (backs_size (known c) given fs))
          (declared_follows given ps at p w b h s c e k v held name y ld has l ft))
