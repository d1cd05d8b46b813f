-- The body of a call is done, its value is held while the formals are assigned back, and the call ends.
use Rattle.std.proofs.Common.{◌≡◌, ℕ, suc, ◌+◌, ◌-◌, ◌≤◌, List, ◌∷◌, length, Option, Some, None, refl, ap, ◌∙◌, subst, arith}
use Rattle.std.specs.Prelude.{slice_get}
use Rattle.value_ops.specs.declared.places.Place.{Place}
use Rattle.algolw_typing.specs.Types.{ValueType}
use Rattle.program_meaning.specs.Phrases.{Phrase}
use Rattle.program_meaning.specs.State as state
use Rattle.program_meaning.specs.State.{State, Setting, Outcome, on, M, Use, for_value, after, behind_first}
use Rattle.program_meaning.specs.Copying.{value_held}
use Rattle.program_meaning.specs.Environments.{Env, Bodied, Job, phrase_job}
use Rattle.stack_code.specs.Instr as instr
use Rattle.stack_code.specs.Instr.{the_value}
use Rattle.stack_code.specs.Code.{Code}
use Rattle.stack_code.specs.Machine as machine
use Rattle.stack_code.specs.Machine.{Machine, Content, Frame}
use Rattle.stack_code.specs.Doing.{go_on}
use Rattle.phrase_code.specs.Sizes.{size, make_size, result_size}
use Rattle.phrase_code.specs.Coding.{Context, known, code, result_code, make_code}
use Rattle.code_simulation.specs.Written.{IsWritten}
use Rattle.code_simulation.specs.Relation.{HasAt, Base, Heap, mach, World, Holds, Settled, Grew, At}
use Rattle.code_simulation.specs.Following.{Follows, Gives, Reached, LaterFollows}
use Rattle.code_simulation.proofs.Rows.{one_row, grew_here, follows_from, follows_then, follows_on, follows_with}
use Rattle.code_simulation.proofs.Keeping.{Over, pushed, with_cells, at_on}
use Rattle.code_simulation.proofs.Values.{follows_at}
use Rattle.code_simulation.proofs.Counting.{follows_since, follows_assoc}
use Rattle.code_simulation.proofs.Texts.{ended_state}
use Rattle.code_simulation.proofs.Choices.{make_behind}
use Rattle.code_simulation.proofs.Jumping.{settled_above}
use Rattle.code_simulation.proofs.Blocks.{NoSpot, holds_below}
use Rattle.code_simulation.proofs.Spotless.{IsClean, clean_made, clean_then}
use Rattle.code_simulation.proofs.Binding.{returned_from, call_ended}
use Rattle.code_simulation.proofs.CallRows.{call_frame}
use Rattle.phrase_code.specs.Marks.{marks}
use Rattle.code_simulation.specs.Room.{Fits}
use Rattle.code_simulation.specs.UnderWay.{texts_under, IsDeep}
use Rattle.code_simulation.proofs.Room.{fits_slots}
use Rattle.code_simulation.proofs.Counting.{push_within}

-- stacks where a frame's text runs, and where it has answered
abbrev pub running : Base → Frame → List Frame → Base
running b f frames = record b { frames = f ∷ frames; current = Some (length (f ∷ frames) - 1) }

abbrev pub answering : Base → Frame → List Frame → Content → Base
answering b f frames x = record b { frames = record f { answer = x } ∷ frames; current = f.text }

-- a function's value takes a cell
abbrev pub held_base : Option ValueType → Base → Base
held_base None b = b
held_base (Some t) b = pushed machine.nothing b

abbrev pub held_state : Option ValueType → State Bodied → State Bodied
held_state None s = s
held_state (Some t) s = with_cells (s.cells + 1) s

abbrev pub freed_state : Option ValueType → State Bodied → State Bodied
freed_state None s = s
freed_state (Some t) s = with_cells (s.cells - 1) s

pub fits_held : {most n : ℕ} {w : World} (result : Option ValueType) (b : Base) (f : Frame) (frames : List Frame) (x : Content) → Fits most w (answering b f frames x) n → Fits most w (answering (held_base result b) f frames x) n
fits_held None b f frames x ft = ft
fits_held (Some t) b f frames x ft = fits_slots (answering (held_base (Some t) b) f frames x) refl refl (omega arith) ft

-- formals are assigned back: the stacks are as before, whatever is held
pub record BackDone (b : Base) (active : List state.Entry) (next : ℕ) (z : Unit {0}) (h : Heap) (s : State Bodied) (m : Machine) : Type 0 where
  pub held : Content
  pub reached : Reached b active next held h s m

module _ (set : Setting) (program : Code) (later : Job → M Bodied state.Given) where
  -- the value is held while B is done
  value_behind : {A : Type 0} (R : A → Heap → State Bodied → Machine → Type 0) (w : World) (b : Base) (h : Heap) (s : State Bodied) (c : Context) (e : Env) (k : ℕ) (f : Frame) (frames : List Frame) (st : Place) (result : Option ValueType) (B : M Bodied (Unit {0})) (T : state.Given → M Bodied A) (r : state.Given) (x : Content) →
      HasAt program.instructions k (result_code st result) → slice_get program.instructions (k + result_size result) ≡ Some (record { at = st; does = instr.Return }) → At program.instructions w (running b f frames) h s c e →
      Follows set program R w.targets h (held_state result s) (mach (answering (held_base result b) f frames x) h (held_state result s) f.back x) (after (B (held_state result s)) (λ z s1. T r (freed_state result s1))) →
      Follows set program R w.targets h s (mach (running b f frames) h s (k + make_size result) x) (after (after (value_held result st B s) (λ z. state.give r)) T)
  value_behind R w b h s c e k f frames st None B T r x code back l g =
      follows_assoc set program R w.targets h s (mach (running b f frames) h s (k + 0) x) (B s) (λ z. state.give r) T
      (follows_from set program R w.targets h s h s (mach (running b f frames) h s (k + 0) x) (mach (answering b f frames x) h s f.back x) (after (B s) (λ z s1. T r s1)) (returned_from set program b frames h s (k + 0) x f st back) (grew_here h s) g)
  value_behind R w b h s c e k f frames st (Some t) B T r x code back l g =
      let bf = running b f frames in
      let s1 = with_cells (s.cells + 1) s in
      let m = mach bf h s (k + 1) x in
      let m1 = mach (running (pushed machine.nothing b) f frames) h s1 (k + 1 + 1) x in
      let Y : Unit {0} → M Bodied (Unit {0}) = λ z. state.◌>>=◌ B (λ a. state.◌>>◌ (state.give_back 1) (state.give a)) in
      let back1 = subst (λ n. slice_get program.instructions n ≡ Some (record { at = st; does = instr.Return })) (two k) back in
      follows_assoc set program R w.targets h s m (value_held (Some t) st B s) (λ z. state.give r) T
      (follows_assoc set program R w.targets h s m (state.take_cells 1 st s) Y (λ z. T r)
      (push_within set program R w.targets w bf h s (k + 1) machine.nothing x m (record { at = st; does = instr.Reserve }) go_on (λ z s2. after (Y z s2) (λ a. T r)) code.1.0 refl l.agrees
      (λ few d. follows_from set program R w.targets h s1 h s1 m m1 (after (Y tt s1) (λ a. T r)) (one_row set program m m1 (record { at = st; does = instr.Reserve }) code.1.0 d) (grew_here h s1)
      (follows_from set program R w.targets h s1 h s1 m1 (mach (answering (pushed machine.nothing b) f frames x) h s1 f.back x) (after (Y tt s1) (λ a. T r)) (returned_from set program (pushed machine.nothing b) frames h s1 (k + 1 + 1) x f st back1) (grew_here h s1)
      (follows_assoc set program R w.targets h s1 (mach (answering (pushed machine.nothing b) f frames x) h s1 f.back x) (B s1) (λ a. state.◌>>◌ (state.give_back 1) (state.give a)) (λ a. T r) g)))))
    where
      two : (n : ℕ) → n + 2 ≡ n + 1 + 1
      two n = omega arith

  module _ (hl : LaterFollows set program later) (clean : (job : Job) (s : State Bodied) → IsClean job (later job s)) where
    -- the body is done, up to where its text has answered
    pub body_returns : {A : Type 0} (R : A → Heap → State Bodied → Machine → Type 0) (w : World) (b : Base) (h : Heap) (s : State Bodied) (c : Context) (e : Env) (k : ℕ) (held : Content) (f : Frame) (frames : List Frame) (st : Place) (body : Phrase) (result : Option ValueType) (B : M Bodied (Unit {0})) (T : state.Given → M Bodied A) →
        IsWritten body → HasAt program.instructions k (code c st the_value k body) → HasAt program.instructions (k + size (known c) body) (result_code st result) → slice_get program.instructions (k + size (known c) body + result_size result) ≡ Some (record { at = st; does = instr.Return }) →
        At program.instructions w (running b f frames) h s c e → Fits program.marks w (running b f frames) (marks body) →
        ((r : state.Given) (x : Content) (h' : Heap) (s' : State Bodied) → NoSpot r → Holds (running b f frames) h' r x → Grew h s h' s' → s'.active ≡ s.active → Settled (running b f frames) h' s'.memory s'.records s'.fields → length b.slots ≡ s'.cells →
        Follows set program R w.targets h' (held_state result s') (mach (answering (held_base result b) f frames x) h' (held_state result s') f.back x) (after (B (held_state result s')) (λ z s1. T r (freed_state result s1)))) →
        Follows set program R w.targets h s (mach (running b f frames) h s k held) (after (after (after (later (phrase_job for_value st body e) s) (state.made_result st result)) (λ r. state.◌>>◌ (value_held result st B) (state.give r))) T)
    body_returns R w b h s c e k held f frames st body result B T wb code rcode back l ft g =
        let bf = running b f frames in
        let k1 = k + size (known c) body in
        let m = mach bf h s k held in
        let X = after (later (phrase_job for_value st body e) s) (state.made_result st result) in
        let F : state.Given → M Bodied state.Given = λ r. state.◌>>◌ (value_held result st B) (state.give r) in
        follows_assoc set program R w.targets h s m X F T
        (follows_then set program (λ r h' s' m'. Gives bf s.active (k1 + make_size result) r h' s' m' × NoSpot r) R w.targets h s m X (λ r s1. after (F r s1) T)
        (follows_with set program NoSpot (Gives bf s.active (k1 + make_size result)) w.targets h s m X (clean_then (later (phrase_job for_value st body e) s) (state.made_result st result) (clean (phrase_job for_value st body e) s) (λ r s1 p. clean_made st result r s1 p))
        (make_behind set program st result w bf h s k1 c e m (later (phrase_job for_value st body e) s) s.active refl (made_code k1 result rcode) l
        (hl.phrase for_value st body wb w bf h s c e the_value k held code refl l ft)))
        (λ r h1 s1 m1 y g1. let z = y.0 in let q = z.reached in let x = z.held in
        let l1 = at_on program.instructions w bf h h1 s s1 c e g1 q.settled q.cells q.listed l in
        follows_at set program R w.targets h1 s1 m1 (mach bf h1 s1 (k1 + make_size result) x) (after (F r s1) T) q.is
        (value_behind R w b h1 s1 c e k1 f frames st result B T r x rcode back l1
        (g r x h1 s1 y.1 z.holds g1 q.listed q.settled q.cells))))
      where
        made_code : (n : ℕ) (t : Option ValueType) → HasAt program.instructions n (result_code st t) → HasAt program.instructions n (make_code st t)
        made_code n None i = tt
        made_code n (Some t) i = (i.0, tt)

  -- ---- the end

  -- what is done behind the assigning back
  abbrev pub closed_state : ℕ → State Bodied → State Bodied
  closed_state n s = record s { active = behind_first s.active; depth = s.depth - 1; cells = s.cells - n }

  length_held : (result : Option ValueType) (b : Base) (s : State Bodied) → length (held_base result b).slots ≡ s.cells → length b.slots ≡ (freed_state result s).cells
  length_held None b s e = e
  length_held (Some t) b s e = omega (arith, e)

  active_freed : (result : Option ValueType) (s : State Bodied) → (freed_state result s).active ≡ s.active
  active_freed None s = refl
  active_freed (Some t) s = refl

  -- behind the assigning back: the call ends, and its answer is held
  pub call_closes : (w : World) (b bo : Base) (h : Heap) (s : State Bodied) (k back head n : ℕ) (link : Option ℕ) (result : Option ValueType) (active : List state.Entry) (r : state.Given) (x held : Content) (at : Place) → slice_get program.instructions k ≡ Some (record { at = at; does = instr.End }) →
      Over b bo → length bo.slots ≡ length b.slots + n → NoSpot r → Holds bo h r x → behind_first s.active ≡ active → suc (texts_under (behind_first s.active)) ≤ texts_under s.active → Settled (answering (held_base result bo) (call_frame b back head link) b.frames x) h s.memory s.records s.fields → length (held_base result bo).slots ≡ s.cells → Over b (answering (held_base result bo) (call_frame b back head link) b.frames x) →
      Follows set program (Gives b active (k + 1)) w.targets h s (mach (answering (held_base result bo) (call_frame b back head link) b.frames x) h s k held) (on r (closed_state n (freed_state result s)))
  call_closes w b bo h s k back head n link result active r x held at has o en ns hx ea dt st ec oa =
      let ba = answering (held_base result bo) (call_frame b back head link) b.frames x in
      let s1 = ended_state Rattle.std.specs.Prelude.true s in
      let s2 = closed_state n (freed_state result s) in
      let m = mach ba h s k held in
      follows_since set program (Gives b active (k + 1)) w.targets h s s2 m (on r s2) (memory result) (arrays result) (procedures result) (labels result) (deep result)
      (follows_on set program (Gives b active (k + 1)) w.targets h s2 m (mach b h s1 (k + 1) x) r (call_ended set program b ba h s k back (length b.entries) (length b.slots) head link x held at has oa refl refl refl refl)
      (record {
        held = x;
        holds = holds_below b bo h r x ns hx;
        reached = record {
          is = same result;
          settled = settled result (settled_above b ba h s.memory s.records s.fields oa st);
          cells = let i = length_held result bo s ec in omega (arith, i, en);
          listed = ap behind_first (active_freed result s) ∙ ea;
        };
      }))
    where
      deep : (t : Option ValueType) → IsDeep s → IsDeep (closed_state n (freed_state t s))
      deep None d = omega (arith, d, dt)
      deep (Some t) d = omega (arith, d, dt)

      memory : (t : Option ValueType) → (closed_state n (freed_state t s)).memory ≡ s.memory
      memory None = refl
      memory (Some t) = refl

      arrays : (t : Option ValueType) → (closed_state n (freed_state t s)).arrays ≡ s.arrays
      arrays None = refl
      arrays (Some t) = refl

      procedures : (t : Option ValueType) → (closed_state n (freed_state t s)).procedures ≡ s.procedures
      procedures None = refl
      procedures (Some t) = refl

      labels : (t : Option ValueType) → (closed_state n (freed_state t s)).labels ≡ s.labels
      labels None = refl
      labels (Some t) = refl

      same : (t : Option ValueType) → mach b h (ended_state Rattle.std.specs.Prelude.true s) (k + 1) x ≡ mach b h (closed_state n (freed_state t s)) (k + 1) x
      same None = refl
      same (Some t) = refl

      settled : (t : Option ValueType) → Settled b h s.memory s.records s.fields → Settled b h (closed_state n (freed_state t s)).memory (closed_state n (freed_state t s)).records (closed_state n (freed_state t s)).fields
      settled None z = z
      settled (Some t) z = z
