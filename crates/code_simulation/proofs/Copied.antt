-- Uses of copied actuals.
use Rattle.std.proofs.Common.{◌≡◌, ℕ, ◌+◌, ◌-◌, ◌<◌, ◌≤◌, List, [], ◌∷◌, length, map, Some, refl, sym, ap, ◌∙◌, subst, arith}
use Rattle.std.specs.Prelude.{slice_get, Bool, true, false}
use Rattle.value_ops.specs.declared.faults.Fault.TheVariants as fault
use Rattle.program_meaning.specs.Phrases.{Phrase, Mark}
use Rattle.program_meaning.specs.State as state
use Rattle.program_meaning.specs.State.{State, Setting, Outcome, on, jump, stop, M, Use, for_value, for_place, ArrayInfo, after, behind_first, in_actual}
use Rattle.program_meaning.specs.Environments.{Env, Bodied, Job, phrase_job, copied}
use Rattle.stack_code.specs.Instr as instr
use Rattle.stack_code.specs.Instr.{Instr, Mode, the_value, the_place, as_asked}
use Rattle.stack_code.specs.Code.{Code, Coded}
use Rattle.stack_code.specs.Machine as machine
use Rattle.stack_code.specs.Machine.{Machine, Content, Entry, Frame, Thunk, on_top_of}
use Rattle.stack_code.specs.Doing as doing
use Rattle.stack_code.specs.Doing.{start_at, start_of, frame_for}
use Rattle.stack_code.specs.Table.{does, use_thunk, enter_actual}
use Rattle.phrase_code.specs.Sizes.{size}
use Rattle.phrase_code.specs.Coding.{Context, known, inner_text}
use Rattle.code_simulation.specs.Relation.{Base, Heap, mach, World, Target, HasText, IsTextOf, IsUnderWay, Shows, asked, asked_in, Settled, Listed, Grew, Agrees, At, content_of}
use Rattle.code_simulation.specs.Following.{Follows, Gives, LaterFollows}
use Rattle.code_simulation.proofs.Stacks.{length_map}
use Rattle.code_simulation.proofs.Rows.{grew_on, follows_from, follows_then}
use Rattle.code_simulation.proofs.Keeping.{later_over, shows_later, listed_later, agrees_over, agrees_on, grew_to}
use Rattle.code_simulation.proofs.Values.{follows_at, fault_here}
use Rattle.code_simulation.proofs.Operators.{gives_as}
use Rattle.code_simulation.proofs.Counting.{ticked, deepened, follows_since, follows_assoc, tick_then, deeper_then}
use Rattle.code_simulation.proofs.Texts.{inside, answered_in, over_inside, settled_in, holds_in, inner_shows, newest_at, returned, ended_state, ended_for_value, ended_for_place}
use Rattle.phrase_code.specs.Marks.{marks}
use Rattle.code_simulation.specs.Room.{Fits}
use Rattle.program_meaning.specs.State.{most_depth}
use Rattle.code_simulation.proofs.Room.{fits_actual, room_for_frame, room_for_entry, texts_below, link_is_below, text_in_room, deep_left}

-- the machine inside a text that has just been entered, at its code
pub inside_at : (program : List Coded) (w : World) (b : Base) (h : Heap) (s s' : State Bodied) (c : Context) (e : Env) (f : Frame) (x : Entry) → Agrees program w b h s → Grew h s h s' → s'.memory ≡ s.memory → s'.records ≡ s.records → s'.fields ≡ s.fields → s'.cells ≡ s.cells → s'.arrays ≡ s.arrays →
    f.start ≡ length b.entries → Shows program w b s.arrays e c.names c.level f.link → Listed program (inside f x b) s'.arrays (x ∷ b.entries) [] s'.active → At program w (inside f x b) h s' (inner_text c) e
inside_at program w b h s s' c e f x a g em er ef ec ea es sh l = record {
  agrees = agrees_over program w b (inside f x b) h h s s' (over_inside f x b) g
      (subst (λ n. Settled (inside f x b) h s'.memory s'.records n) (sym ef) (subst (λ n. Settled (inside f x b) h s'.memory n s.fields) (sym er) (subst (λ n. Settled (inside f x b) h n s.records s.fields) (sym em) (settled_in b (inside f x b) h s.memory s.records s.fields refl (λ k i. i) a.settled))))
      (a.cells ∙ sym ec) l a;
  shows = inner_shows (inside f x b) (length (f ∷ b.frames) - 1) f (newest_at f b.frames) program w s'.arrays e c.names c.level (shows_later program (later_over w b (inside f x b) s.arrays s'.arrays (over_inside f x b) g.arrays) e c.names c.level f.link sh);
  start = length b.entries;
  starts = ap start_of (newest_at f b.frames) ∙ ap (λ n. Some n) es;
  counted = omega arith;
}

-- a copied actual is entered
abbrev entering : ℕ → ℕ → Use → Thunk → doing.Row (Unit {0})
entering marks back u t = doing.◌>>=◌ doing.cells_now (λ base. doing.◌>>◌ (doing.open_frame marks back base t.head t.link u t.type true) (doing.◌>>◌ (doing.enter marks (machine.an_actual t.head)) (doing.◌>>◌ doing.run_newest (doing.go_to (t.head + 1)))))

module _ (set : Setting) (program : Code) (later : Job → M Bodied state.Given) (hl : LaterFollows set program later) where
  -- the row of a use, behind its step and its depth
  inside_follows : {n : ℕ} (u : Use) (w : World) (b : Base) (h : Heap) (s s2 : State Bodied) (k : ℕ) (held : Content) (m : Machine) (c : Coded) (back : ℕ) (t : Thunk) (mk : Mark) (a : Phrase) (ctx : Context) (f : Env) (R : state.Given → M Bodied state.Given) → s2 ≡ deepened (ticked s) → Agrees program.instructions w b h s → HasText program.instructions t mk a ctx → Shows program.instructions w b s.arrays f ctx.names ctx.level t.link → marks a ≤ w.marks → IsUnderWay b.frames t.link → Fits program.marks w b n → s.depth < most_depth →
      slice_get program.instructions m.pc ≡ Some c → does set program c.at c.does m ≡ entering program.marks back u t (mach b h (deepened (ticked s)) k held) →
      ((r : state.Given) (h' : Heap) (s' : State Bodied) (x : Content) → Gives (inside (frame_for (mach b h (deepened (ticked s)) k held) back (length (map (content_of s.memory) b.slots)) t.head t.link u t.type true) (machine.an_actual t.head) b) (in_actual mk.first ∷ s.active) (t.head + 1 + size (known ctx) a) r h' s' (mach (inside (frame_for (mach b h (deepened (ticked s)) k held) back (length (map (content_of s.memory) b.slots)) t.head t.link u t.type true) (machine.an_actual t.head) b) h' s' (t.head + 1 + size (known ctx) a) x) → Rattle.code_simulation.specs.Relation.Holds b h' r x →
      Grew h s h' s' → Agrees program.instructions w b h' (ended_state true (record s' { active = behind_first s'.active })) → behind_first s'.active ≡ s.active →
      Follows set program (Gives b s.active (back + 1)) w.targets h' (ended_state true (record s' { active = behind_first s'.active })) (mach (answered_in (frame_for (mach b h (deepened (ticked s)) k held) back (length (map (content_of s.memory) b.slots)) t.head t.link u t.type true) (machine.an_actual t.head) x b) h' s' back x) (R r (ended_state true (record s' { active = behind_first s'.active })))) →
      Follows set program (Gives b s.active (back + 1)) w.targets h (deepened (ticked s)) m (after (state.under (in_actual mk.first) (later (phrase_job u mk.statement a f)) (deepened (ticked s))) (λ r s1. R r (ended_state true s1)))
  inside_follows u w b h s s2 k held m c back t mk a ctx f R es2 ag tx sh fw lk ft dq q d g =
      let s0 = deepened (ticked s) in
      let s3 : State Bodied = record s0 { active = in_actual mk.first ∷ s.active } in
      let n = length (map (content_of s.memory) b.slots) in
      let fr = frame_for (mach b h s0 k held) back n t.head t.link u t.type true in
      let x = machine.an_actual t.head in
      let bi = inside fr x b in
      let l : At program.instructions w bi h s3 (inner_text ctx) f = inside_at program.instructions w b h s s3 ctx f fr x ag (grew_to h s s3 refl refl refl refl (λ z. omega (arith, z))) refl refl refl refl refl refl sh
      (record { at = mk.statement; reading = tx.reading; behind = tx.behind; is = tx.head }, refl, listed_later program.instructions (later_over w b bi s.arrays s.arrays (over_inside fr x b) (λ j z i. i)) b.entries [] s.active ag.listed) in
      follows_assoc set program (Gives b s.active (back + 1)) w.targets h s0 m (later (phrase_job u mk.statement a f) s3) (λ r. state.◌>>◌ state.pop_entry (state.give r)) (λ r s1. R r (ended_state true s1))
      (text_in_room set program (Gives b s.active (back + 1)) w.targets b h s0 k held m c back n t.head (t.head + 1) t.link u t.type true x _ (link_is_below b.frames t.link lk) (room_for_frame ft) (room_for_entry ft) q d
      (follows_since set program (Gives b s.active (back + 1)) w.targets h s0 s3 (mach bi h s0 (t.head + 1) held) _ refl refl refl refl (λ z. let y = ag.deep in omega (arith, y))
      (follows_then set program (Gives bi (in_actual mk.first ∷ s.active) (t.head + 1 + size (known ctx) a)) (Gives b s.active (back + 1)) w.targets h s3 (mach bi h s3 (t.head + 1) held) (later (phrase_job u mk.statement a f) s3) (λ r s1. R r (ended_state true (record s1 { active = behind_first s1.active })))
      (hl.phrase u mk.statement a tx.written w bi h s3 (inner_text ctx) f as_asked (t.head + 1) held tx.body (ap asked (newest_at fr b.frames)) l (fits_actual fr t.head (marks a) (texts_below program.instructions b s ag.listed ag.deep dq) (let y = ft.marks_are in omega (arith, y, fw)) ft))
      (λ r h4 s4 m4 p g4.
      let y = p.held in
      let pr = p.reached in
      let s5 : State Bodied = ended_state true (record s4 { active = behind_first s4.active }) in
      let ac : behind_first s4.active ≡ s.active = ap behind_first pr.listed in
      let gr = grew_on h s h4 s4 h4 s5 (grew_on h s h s3 h4 s4 (grew_to h s s3 refl refl refl refl (λ z. omega (arith, z))) g4) (grew_to h4 s4 s5 refl refl refl refl (deep_left s4 s5 (in_actual mk.first) s.active (omega arith) pr.listed ac refl)) in
      follows_at set program (Gives b s.active (back + 1)) w.targets h4 s4 m4 (mach bi h4 s4 (t.head + 1 + size (known ctx) a) y) _ pr.is
      (follows_from set program (Gives b s.active (back + 1)) w.targets h4 s4 h4 s5 (mach bi h4 s4 (t.head + 1 + size (known ctx) a) y) (mach (answered_in fr x y b) h4 s4 back y) _ (returned set program b h4 s4 (t.head + 1 + size (known ctx) a) y fr x mk.statement tx.back) (grew_to h4 s4 s5 refl refl refl refl (deep_left s4 s5 (in_actual mk.first) s.active (omega arith) pr.listed ac refl))
      (g r h4 s4 y (record { held = y; holds = p.holds; reached = record { is = refl; settled = pr.settled; cells = pr.cells; listed = pr.listed } }) (holds_in b bi h4 r y refl p.holds) (grew_on h s h s3 h4 s4 (grew_to h s s3 refl refl refl refl (λ z. omega (arith, z))) g4)
      (agrees_on program.instructions w b h h4 s s5 gr (settled_in bi b h4 s4.memory s4.records s4.fields refl (λ j i. i) pr.settled) pr.cells ac ag) ac))))))

  pub copied_follows : {n : ℕ} (u : Use) (w : World) (b : Base) (h : Heap) (s : State Bodied) (k : ℕ) (held : Content) (m : Machine) (c : Coded) (back : ℕ) (t : Thunk) (mk : Mark) (a : Phrase) (ctx : Context) (f : Env) → Agrees program.instructions w b h s → HasText program.instructions t mk a ctx → Shows program.instructions w b s.arrays f ctx.names ctx.level t.link → marks a ≤ w.marks → IsUnderWay b.frames t.link → Fits program.marks w b n →
      slice_get program.instructions m.pc ≡ Some c → does set program c.at c.does m ≡ use_thunk set program.marks back u t (mach b h s k held) → slice_get program.instructions back ≡ Some (record { at = c.at; does = instr.End }) →
      Follows set program (Gives b s.active (back + 1)) w.targets h s m (copied set later u c.at mk a f s)
  copied_follows for_value w b h s k held m c back t mk a ctx f ag tx sh fw lk ft q d en =
      tick_then set program (Gives b s.active (back + 1)) w.targets b h s k held m c (enter_actual program.marks back for_value t) (λ z s1. after (state.entered c.at (in_actual mk.first) (later (phrase_job for_value mk.statement a f)) s1) (state.made_result c.at mk.type)) q d ag.listed ag.settled
      (λ d1. follows_assoc set program (Gives b s.active (back + 1)) w.targets h (ticked s) m (state.deeper c.at (ticked s)) (λ z s1. after (state.under (in_actual mk.first) (later (phrase_job for_value mk.statement a f)) s1) (λ r. state.◌>>◌ state.shallower (state.give r))) (state.made_result c.at mk.type)
      (deeper_then set program (Gives b s.active (back + 1)) w.targets b h (ticked s) k held m c (entering program.marks back for_value t) (λ z s1. after (after (state.under (in_actual mk.first) (later (phrase_job for_value mk.statement a f)) s1) (λ r. state.◌>>◌ state.shallower (state.give r))) (state.made_result c.at mk.type)) q d1 ag.listed ag.settled
      (λ dq d2. follows_assoc set program (Gives b s.active (back + 1)) w.targets h (deepened (ticked s)) m (state.under (in_actual mk.first) (later (phrase_job for_value mk.statement a f)) (deepened (ticked s))) (λ r. state.◌>>◌ state.shallower (state.give r)) (state.made_result c.at mk.type)
      (inside_follows for_value w b h s (deepened (ticked s)) k held m c back t mk a ctx f (state.made_result c.at mk.type) refl ag tx sh fw lk ft dq q d2
      (λ r h' s' x p x_holds g a' e'.
      let s1 : State Bodied = record s' { active = behind_first s'.active } in
      gives_as set program b s1.active s.active (back + 1) w.targets h' (ended_state true s1) _ _ e'
      (subst (λ ty. Follows set program (Gives b s1.active (back + 1)) w.targets h' (ended_state true s1) (mach (answered_in (frame_for (mach b h (deepened (ticked s)) k held) back (length (map (content_of s.memory) b.slots)) t.head t.link for_value t.type true) (machine.an_actual t.head) x b) h' s' back x) (state.made_result c.at ty r (ended_state true s1))) tx.type
      (ended_for_value set program b h' s1 back x w.targets c.at w (mach b h (deepened (ticked s)) k held) back (length (map (content_of s.memory) b.slots)) t.head t.link t.type true (machine.an_actual t.head) r en refl refl (length_map (content_of s.memory) b.slots) a' x_holds)))))))
  copied_follows for_place w b h s k held m c back t mk a ctx f ag tx sh fw lk ft q d en =
      tick_then set program (Gives b s.active (back + 1)) w.targets b h s k held m c (doing.test t.is_variable (enter_actual program.marks back for_place t) (doing.fault_now fault.AssignmentToNoVariable)) (λ z. state.test mk.is_variable (state.entered c.at (in_actual mk.first) (later (phrase_job for_place mk.statement a f))) (state.fault_at fault.AssignmentToNoVariable c.at)) q d ag.listed ag.settled
      (λ d1. by mk.is_variable t.is_variable tx.is_variable d1)
    where
      by : (v v' : Bool) → v' ≡ v → does set program c.at c.does m ≡ doing.test v' (enter_actual program.marks back for_place t) (doing.fault_now fault.AssignmentToNoVariable) (mach b h (ticked s) k held) → Follows set program (Gives b s.active (back + 1)) w.targets h (ticked s) m (state.test v (state.entered c.at (in_actual mk.first) (later (phrase_job for_place mk.statement a f))) (state.fault_at fault.AssignmentToNoVariable c.at) (ticked s))
      by true true e d1 =
          deeper_then set program (Gives b s.active (back + 1)) w.targets b h (ticked s) k held m c (entering program.marks back for_place t) (λ z s1. after (state.under (in_actual mk.first) (later (phrase_job for_place mk.statement a f)) s1) (λ r. state.◌>>◌ state.shallower (state.give r))) q d1 ag.listed ag.settled
          (λ dq d2. inside_follows for_place w b h s (deepened (ticked s)) k held m c back t mk a ctx f (λ r s1. on r s1) refl ag tx sh fw lk ft dq q d2
          (λ r h' s' x p x_holds g a' e'.
          let s1 : State Bodied = record s' { active = behind_first s'.active } in
          gives_as set program b s1.active s.active (back + 1) w.targets h' (ended_state true s1) (mach (answered_in (frame_for (mach b h (deepened (ticked s)) k held) back (length (map (content_of s.memory) b.slots)) t.head t.link for_place t.type true) (machine.an_actual t.head) x b) h' s' back x) (on r (ended_state true s1)) e'
          (ended_for_place set program b h' s1 back x w.targets c.at w (mach b h (deepened (ticked s)) k held) back (length (map (content_of s.memory) b.slots)) t.head t.link t.type true (machine.an_actual t.head) r en refl refl (length_map (content_of s.memory) b.slots) a' x_holds)))
      by false false e d1 = fault_here set program (Gives b s.active (back + 1)) w.targets h (ticked s) m c fault.AssignmentToNoVariable b k held q d1 ag.listed ag.settled
      by true false e d1 = absurd (cc)
      by false true e d1 = absurd (cc)
