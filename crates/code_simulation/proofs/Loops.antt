-- WHILE.
use Rattle.std.proofs.Common.{◌≡◌, ℕ, ◌+◌, Some, refl, subst, arith}
use Rattle.std.specs.Prelude.{slice_get, Bool, true, false}
use Rattle.value_ops.specs.declared.places.Place.{Place}
use Rattle.value_ops.specs.declared.values.Value.TheVariants as value
use Rattle.program_meaning.specs.Phrases.{Phrase, WhileDo}
use Rattle.program_meaning.specs.State as state
use Rattle.program_meaning.specs.State.{State, Setting, Outcome, on, jump, stop, M, Use, for_value, for_place, after}
use Rattle.program_meaning.specs.Environments.{Env, Bodied, Job, while_job, go, while_turns}
use Rattle.stack_code.specs.Instr as instr
use Rattle.stack_code.specs.Instr.{Instr, Mode, the_value, the_place, as_asked}
use Rattle.stack_code.specs.Code.{Code}
use Rattle.stack_code.specs.Machine as machine
use Rattle.stack_code.specs.Machine.{Machine, Content}
use Rattle.stack_code.specs.Doing as doing
use Rattle.phrase_code.specs.Sizes.{size}
use Rattle.phrase_code.specs.Coding.{Context, known, code, one, ◌▸◌}
use Rattle.code_simulation.specs.Written.{IsWritten}
use Rattle.code_simulation.specs.Relation.{HasAt, Base, Heap, mach, World, At}
use Rattle.code_simulation.specs.Following.{Follows, Gives, PhraseFollows, CodeDoes, LaterFollows}
use Rattle.code_simulation.proofs.Stacks.{has_front}
use Rattle.code_simulation.proofs.Rows.{one_row, follows_from, follows_then, grew_here}
use Rattle.code_simulation.proofs.Keeping.{grew_to, at_on}
use Rattle.code_simulation.proofs.Values.{follows_at, IsTruth, gives_nothing}
use Rattle.code_simulation.proofs.Counting.{ticked, begun_state, begin_then, at_begun, tick_then}
use Rattle.code_simulation.proofs.Operators.{behind, at_reached, ends_at, gives_as}
use Rattle.code_simulation.proofs.Choices.{truth_by}
use Rattle.phrase_code.specs.Marks.{marks}
use Rattle.std.specs.Prelude.{max}
use Rattle.code_simulation.specs.Room.{Fits}
use Rattle.code_simulation.proofs.Room.{fits_left, fits_right}

module _ (set : Setting) (program : Code) (later : Job → M Bodied state.Given) (hl : LaterFollows set program later) where
  -- the condition at its place, and the turns that follow
  turns_follow : (a body : Phrase) → IsWritten a → IsWritten body → PhraseFollows set program later a → (at : Place) (w : World) (b : Base) (h : Heap) (s : State Bodied) (c : Context) (e : Env) (k : ℕ) (held : Content) →
      HasAt program.instructions k (code c at the_value k body ▸ code c at the_value (k + size (known c) body) a ▸ one at (instr.Again k)) → At program.instructions w b h s c e → Fits program.marks w b (max (marks a) (marks body)) →
      Follows set program (Gives b s.active (k + size (known c) body + size (known c) a + 1)) w.targets h s (mach b h s (k + size (known c) body) held) (while_turns set later at (go set later a for_value at e) a body e s)
  turns_follow a body wa wb pa at w b h s c e k held code l ft =
      let k1 = k + size (known c) body in
      let k2 = k1 + size (known c) a in
      let has1 = behind program.instructions c at the_value k body _ code in
      let has2 = behind program.instructions c at the_value k1 a _ has1 in
      follows_then set program (IsTruth set program b s.active k2) (Gives b s.active (k2 + 1)) w.targets h s (mach b h s k1 held) (state.truth_of at (go set later a for_value at e) s) (λ t. state.test t (state.◌>>◌ (state.tick set at) (later (while_job at a body e))) (state.give state.nothing))
      (truth_by set program later a pa at w b h s c e k1 held (has_front program.instructions k1 _ _ has1) l (fits_left (marks a) (marks body) ft))
      (λ t h1 s1 m1 r g. let a1 = at_reached set program w b h s c e k2 (machine.a_value (value.Logical t)) h1 s1 m1 l g r in
      follows_at set program (Gives b s.active (k2 + 1)) w.targets h1 s1 m1 (mach b h1 s1 k2 (machine.a_value (value.Logical t))) _ r.is
      (gives_as set program b s1.active s.active (k2 + 1) w.targets h1 s1 (mach b h1 s1 k2 (machine.a_value (value.Logical t))) (state.test t (state.◌>>◌ (state.tick set at) (later (while_job at a body e))) (state.give state.nothing) s1) r.listed (which t h1 s1 a1 has2.0)))
    where
      which : (t : Bool) (h1 : Heap) (s1 : State Bodied) → At program.instructions w b h1 s1 c e → slice_get program.instructions (k + size (known c) body + size (known c) a) ≡ Some (record { at = at; does = instr.Again k }) →
          Follows set program (Gives b s1.active (k + size (known c) body + size (known c) a + 1)) w.targets h1 s1 (mach b h1 s1 (k + size (known c) body + size (known c) a) (machine.a_value (value.Logical t))) (state.test t (state.◌>>◌ (state.tick set at) (later (while_job at a body e))) (state.give state.nothing) s1)
      which false h1 s1 a1 i =
          let k2 = k + size (known c) body + size (known c) a in
          gives_nothing set program b s1.active (k2 + 1) w.targets h1 s1 (mach b h1 s1 k2 (machine.a_value (value.Logical false))) (one_row set program (mach b h1 s1 k2 (machine.a_value (value.Logical false))) (mach b h1 s1 (k2 + 1) machine.nothing) _ i refl) a1.agrees.settled a1.agrees.cells refl
      which true h1 s1 a1 i =
          let k2 = k + size (known c) body + size (known c) a in
          let v = machine.a_value (value.Logical true) in
          let s2 = ticked s1 in
          tick_then set program (Gives b s1.active (k2 + 1)) w.targets b h1 s1 k2 v (mach b h1 s1 k2 v) (record { at = at; does = instr.Again k }) (doing.go_to k) (λ z. later (while_job at a body e)) i refl a1.agrees.listed a1.agrees.settled
          (λ d. follows_from set program (Gives b s1.active (k2 + 1)) w.targets h1 s2 h1 s2 (mach b h1 s1 k2 v) (mach b h1 s2 k v) (later (while_job at a body e) s2) (one_row set program (mach b h1 s1 k2 v) (mach b h1 s2 k v) _ i d) (grew_here h1 s2)
          (hl.while at a body wa wb w b h1 s2 c e k v code (at_on program.instructions w b h1 h1 s1 s2 c e (grew_to h1 s1 s2 refl refl refl refl (λ d. d)) a1.agrees.settled a1.agrees.cells refl a1) ft))

  pub while_follows : (st : Place) (a body : Phrase) → IsWritten a → IsWritten body → PhraseFollows set program later a → PhraseFollows set program later (WhileDo st a body)
  while_follows st a body wa wb pa = record { by = by }
    where
      by : (u : Use) (at : Place) → CodeDoes set program u at (WhileDo st a body) (go set later (WhileDo st a body) u at)
      by for_place at w b h s c e mode k held code wanted l ft = tt
      by for_value at w b h s c e mode k held code wanted l ft =
          let s0 = begun_state (Some st) s in
          let kb = k + 2 in
          let end = kb + size (known c) body + size (known c) a + 1 in
          let e1 : k + 1 + 1 ≡ kb = omega arith in
          ends_at set program b s.active end (k + size (known c) (WhileDo st a body)) w.targets h s (mach b h s k held) (go set later (WhileDo st a body) for_value at e s) (omega arith)
          (begin_then set program (Gives b s.active end) w.targets (Some st) w b h s k held (one st (instr.Jump (k + 2 + size (known c) body)) ▸ Rattle.phrase_code.specs.Coding.code c st the_value (k + 2) body ▸ Rattle.phrase_code.specs.Coding.code c st the_value (k + 2 + size (known c) body) a ▸ one st (instr.Again (k + 2))) (λ z. while_turns set later st (go set later a for_value st e) a body e) code l.agrees (λ has.
          follows_from set program (Gives b s.active end) w.targets h s0 h s0 (mach b h s0 (k + 1) held) (mach b h s0 (kb + size (known c) body) held) (while_turns set later st (go set later a for_value st e) a body e s0) (one_row set program (mach b h s0 (k + 1) held) (mach b h s0 (kb + size (known c) body) held) _ has.0 refl) (grew_here h s0)
          (turns_follow a body wa wb pa st w b h s0 c e kb held (subst (λ n. HasAt program.instructions n (Rattle.phrase_code.specs.Coding.code c st the_value kb body ▸ Rattle.phrase_code.specs.Coding.code c st the_value (kb + size (known c) body) a ▸ one st (instr.Again kb))) e1 has.1) (at_begun set program (Some st) w b h s c e l) ft)))

  -- one turn, and those that follow
  pub while_job_follows : (at : Place) (a body : Phrase) → IsWritten a → IsWritten body → PhraseFollows set program later a → PhraseFollows set program later body → (w : World) (b : Base) (h : Heap) (s : State Bodied) (c : Context) (e : Env) (k : ℕ) (held : Content) →
      HasAt program.instructions k (code c at the_value k body ▸ code c at the_value (k + size (known c) body) a ▸ one at (instr.Again k)) → At program.instructions w b h s c e → Fits program.marks w b (max (marks a) (marks body)) →
      Follows set program (Gives b s.active (k + size (known c) body + size (known c) a + 1)) w.targets h s (mach b h s k held) (after (go set later body for_value at e s) (λ r. while_turns set later at (go set later a for_value at e) a body e))
  while_job_follows at a body wa wb pa pb w b h s c e k held code l ft =
      let k1 = k + size (known c) body in
      let end = k1 + size (known c) a + 1 in
      follows_then set program (Gives b s.active k1) (Gives b s.active end) w.targets h s (mach b h s k held) (go set later body for_value at e s) (λ r. while_turns set later at (go set later a for_value at e) a body e)
      (pb.by for_value at w b h s c e the_value k held (has_front program.instructions k _ _ code) refl l (fits_right (marks a) (marks body) ft))
      (λ r h1 s1 m1 q g. let y = q.reached in let a1 = at_reached set program w b h s c e k1 q.held h1 s1 m1 l g y in
      follows_at set program (Gives b s.active end) w.targets h1 s1 m1 (mach b h1 s1 k1 q.held) _ y.is
      (gives_as set program b s1.active s.active end w.targets h1 s1 (mach b h1 s1 k1 q.held) (while_turns set later at (go set later a for_value at e) a body e s1) y.listed
      (turns_follow a body wa wb pa at w b h1 s1 c e k q.held code a1 ft)))
