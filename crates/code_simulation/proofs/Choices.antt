-- IF and CASE.
use Rattle.std.proofs.Common.{◌≡◌, ℕ, zero, suc, ◌+◌, ◌<◌, ◌≤◌, ℤ, List, Option, Some, None, refl, sym, ap, ◌∙◌, subst, arith, ltb-true, ltb-false}
use Rattle.std.specs.Prelude.{slice_get, nat_lt, Bool, true, false}
use Rattle.value_ops.specs.declared.places.Place.{Place}
use Rattle.value_ops.specs.declared.faults.Fault.TheVariants as fault
use Rattle.value_ops.specs.declared.values.Value.TheVariants as value
use Rattle.algolw_typing.specs.Types.{ValueType}
use Rattle.program_meaning.specs.Phrases.{Phrase, IfThen, Case, Phrases, no_phrases, phrase_and}
use Rattle.program_meaning.specs.State as state
use Rattle.program_meaning.specs.State.{State, Setting, by_fault, Outcome, on, jump, stop, M, Use, for_value, for_place, after, innermost}
use Rattle.program_meaning.specs.Copying.{case_number}
use Rattle.program_meaning.specs.Environments.{Env, Bodied, Job, go, go_case}
use Rattle.stack_code.specs.Instr as instr
use Rattle.stack_code.specs.Instr.{Instr, Mode, the_value, the_place, as_asked}
use Rattle.stack_code.specs.Code.{Code, Coded}
use Rattle.stack_code.specs.Machine as machine
use Rattle.stack_code.specs.Machine.{Machine, Content}
use Rattle.stack_code.specs.Doing as doing
use Rattle.stack_code.specs.Table.{does}
use Rattle.phrase_code.specs.Sizes.{size, begin_size, make_size, jumps_size, parts_size}
use Rattle.phrase_code.specs.Coding.{Context, known, code, code_parts, jumps_code, phrase_count, one, ◌▸◌, begin_code, make_code}
use Rattle.code_simulation.specs.Relation.{HasAt, Base, Heap, mach, World, Target, Holds, Agrees, At}
use Rattle.code_simulation.specs.Following.{Comes, already, Follows, Gives, PhraseFollows, CodeDoes}
use Rattle.code_simulation.proofs.Stacks.{has_front, has_back}
use Rattle.code_simulation.proofs.Sizes.{jumps_sized, parts_sized}
use Rattle.code_simulation.proofs.Rows.{one_row, follows_from, follows_then, follows_on, follows_more, grew_here}
use Rattle.code_simulation.proofs.Keeping.{at_on}
use Rattle.code_simulation.proofs.Values.{follows_at, truth_follows, integer_follows, IsTruth, IsInteger, fault_here}
use Rattle.code_simulation.proofs.Making.{made_follows}
use Rattle.code_simulation.proofs.Counting.{begun_state, begin_then, at_begun, active_begun}
use Rattle.code_simulation.proofs.Operators.{behind, at_reached, ends_at, gives_as}
use Rattle.phrase_code.specs.Marks.{marks, phrases_marks}
use Rattle.std.specs.Prelude.{max}
use Rattle.code_simulation.specs.Room.{Fits}
use Rattle.code_simulation.proofs.Room.{fits_left, fits_right}

module _ (set : Setting) (program : Code) where
  -- what was given is made where a type is written
  pub make_follows : (w : Place) (t : Option ValueType) (world : World) (b : Base) (h : Heap) (s : State Bodied) (k : ℕ) (x : Content) (r : state.Given) (ts : List Target) → HasAt program.instructions k (make_code w t) → Agrees program.instructions world b h s → Holds b h r x → Follows set program (Gives b s.active (k + make_size t)) ts h s (mach b h s k x) (state.made_result w t r s)
  make_follows w None world b h s k x r ts code a q = ends_at set program b s.active k (k + 0) ts h s (mach b h s k x) (on r s) (omega arith) (follows_on set program (Gives b s.active k) ts h s (mach b h s k x) (mach b h s k x) r already (record { held = x; holds = q; reached = record { is = refl; settled = a.settled; cells = a.cells; listed = refl } }))
  make_follows w (Some t) world b h s k x r ts code a q = made_follows set program b h s k x (mach b h s k x) (record { at = w; does = instr.Make t }) ts world (Some t) r x code.0 refl a q

  -- a jump behind what was done
  pub jump_behind : (b : Base) (active : List state.Entry) (k target : ℕ) (at : Place) (ts : List Target) (h : Heap) (s : State Bodied) (m : Machine) (r : Outcome Bodied state.Given) → slice_get program.instructions k ≡ Some (record { at = at; does = instr.Jump target }) → Follows set program (Gives b active k) ts h s m r → Follows set program (Gives b active target) ts h s m r
  jump_behind b active k target at ts h s m r e f = follows_more set program (Gives b active k) (Gives b active target) ts h s m r (λ a h' s' m' g. let q = g.reached in (
    mach b h' s' target g.held,
    subst (λ n. Comes set program n (mach b h' s' target g.held)) (sym q.is) (one_row set program (mach b h' s' k g.held) (mach b h' s' target g.held) _ e refl),
    record { held = g.held; holds = g.holds; reached = record { is = refl; settled = q.settled; cells = q.cells; listed = q.listed } },
  )) f

  -- and then it is made
  pub make_behind : (w : Place) (t : Option ValueType) (world : World) (b : Base) (h : Heap) (s : State Bodied) (k : ℕ) (c : Context) (e : Env) (m : Machine) (r : Outcome Bodied state.Given) (active : List state.Entry) → s.active ≡ active → HasAt program.instructions k (make_code w t) → At program.instructions world b h s c e → Follows set program (Gives b active k) world.targets h s m r → Follows set program (Gives b active (k + make_size t)) world.targets h s m (after r (state.made_result w t))
  make_behind w t world b h s k c e m r active ea code a f = follows_then set program (Gives b active k) (Gives b active (k + make_size t)) world.targets h s m r (state.made_result w t) f (λ g h1 s1 m1 x gr. let q = x.reached in
      let a1 = at_on program.instructions world b h h1 s s1 c e gr q.settled q.cells (q.listed ∙ sym ea) a in
      follows_at set program (Gives b active (k + make_size t)) world.targets h1 s1 m1 (mach b h1 s1 k x.held) (state.made_result w t g s1) q.is
      (gives_as set program b s1.active active (k + make_size t) world.targets h1 s1 (mach b h1 s1 k x.held) (state.made_result w t g s1) q.listed
      (make_follows w t world b h1 s1 k x.held g world.targets code a1.agrees x.holds)))

  module _ (later : Job → M Bodied state.Given) where
    pub truth_by : (a : Phrase) → PhraseFollows set program later a → (at : Place) (w : World) (b : Base) (h : Heap) (s : State Bodied) (c : Context) (e : Env) (k : ℕ) (held : Content) → HasAt program.instructions k (code c at the_value k a) → At program.instructions w b h s c e → Fits program.marks w b (marks a) → Follows set program (IsTruth set program b s.active (k + size (known c) a)) w.targets h s (mach b h s k held) (state.truth_of at (go set later a for_value at e) s)
    truth_by a p at w b h s c e k held code l ft = truth_follows set program b s.active (k + size (known c) a) w.targets h s (mach b h s k held) at (go set later a for_value at e s) (p.by for_value at w b h s c e the_value k held code refl l ft)

    pub integer_by : (a : Phrase) → PhraseFollows set program later a → (at : Place) (w : World) (b : Base) (h : Heap) (s : State Bodied) (c : Context) (e : Env) (k : ℕ) (held : Content) → HasAt program.instructions k (code c at the_value k a) → At program.instructions w b h s c e → Fits program.marks w b (marks a) → Follows set program (IsInteger set program b s.active (k + size (known c) a)) w.targets h s (mach b h s k held) (state.integer_of at (go set later a for_value at e) s)
    integer_by a p at w b h s c e k held code l ft = integer_follows set program b s.active (k + size (known c) a) w.targets h s (mach b h s k held) at (go set later a for_value at e s) (p.by for_value at w b h s c e the_value k held code refl l ft)

    -- code that stands somewhere, said otherwise
    pub code_at : (c : Context) (at : Place) (u : Mode) (k l : ℕ) (a : Phrase) (more : List Coded) → k ≡ l → HasAt program.instructions l (code c at u k a ▸ more) → HasAt program.instructions l (code c at u l a ▸ more)
    code_at c at u k l a more e = subst (λ n. HasAt program.instructions l (Rattle.phrase_code.specs.Coding.code c at u n a ▸ more)) e

    if_follows : (t : Option ValueType) (a d f : Phrase) → PhraseFollows set program later a → PhraseFollows set program later d → PhraseFollows set program later f → (at : Place) (w : World) (b : Base) (h : Heap) (s : State Bodied) (c : Context) (e : Env) (k j1 j2 l1 l2 : ℕ) (held : Content) →
        HasAt program.instructions k (code c at the_value k a ▸ one at (instr.JumpUnless j1) ▸ code c at the_value l1 d ▸ one at (instr.Jump j2) ▸ code c at the_value l2 f ▸ make_code at t) → l1 ≡ k + size (known c) a + 1 → j1 ≡ k + size (known c) a + size (known c) d + 2 → l2 ≡ j1 → j2 ≡ j1 + size (known c) f → At program.instructions w b h s c e → Fits program.marks w b (max (marks a) (max (marks d) (marks f))) →
        Follows set program (Gives b s.active (j2 + make_size t)) w.targets h s (mach b h s k held) (after (state.truth_of at (go set later a for_value at e) s) (λ truth s1. after (state.test truth (go set later d for_value at e) (go set later f for_value at e) s1) (state.made_result at t)))
    if_follows t a d f pa pd pf at w b h s c e k j1 j2 l1 l2 held code q1 q2 q3 q4 l ft =
        let k1 = k + size (known c) a in
        let has1 = behind program.instructions c at the_value k a _ code in
        let has2 = code_at c at the_value l1 (k1 + 1) d _ q1 has1.1 in
        let k2 = k1 + 1 + size (known c) d in
        let has3 = behind program.instructions c at the_value (k1 + 1) d _ has2 in
        let has4 = code_at c at the_value l2 (k2 + 1) f _ (omega (arith, q3, q2)) has3.1 in
        let k3 = k2 + 1 + size (known c) f in
        let has5 = behind program.instructions c at the_value (k2 + 1) f _ has4 in
        let e3 : k3 ≡ j2 = omega (arith, q4, q2) in
        let e2 : k2 + 1 ≡ j1 = omega (arith, q2) in
        let has6 = subst (λ n. HasAt program.instructions n (make_code at t)) e3 has5 in
        follows_then set program (IsTruth set program b s.active k1) (Gives b s.active (j2 + make_size t)) w.targets h s (mach b h s k held) (state.truth_of at (go set later a for_value at e) s) (λ truth s1. after (state.test truth (go set later d for_value at e) (go set later f for_value at e) s1) (state.made_result at t))
        (truth_by a pa at w b h s c e k held (has_front program.instructions k _ _ code) l (fits_left (marks a) (max (marks d) (marks f)) ft))
        (λ truth h1 s1 m1 r g. let l1 = at_reached set program w b h s c e k1 (machine.a_value (value.Logical truth)) h1 s1 m1 l g r in
        make_behind at t w b h1 s1 j2 c e m1 (state.test truth (go set later d for_value at e) (go set later f for_value at e) s1) s.active r.listed has6 l1
        (follows_at set program (Gives b s.active j2) w.targets h1 s1 m1 (mach b h1 s1 k1 (machine.a_value (value.Logical truth))) (state.test truth (go set later d for_value at e) (go set later f for_value at e) s1) r.is
        (gives_as set program b s1.active s.active j2 w.targets h1 s1 (mach b h1 s1 k1 (machine.a_value (value.Logical truth))) (state.test truth (go set later d for_value at e) (go set later f for_value at e) s1) r.listed
        (which truth h1 s1 l1 has1.0 has2 has3.0 has4 e2 e3))))
      where
        which : (truth : Bool) (h1 : Heap) (s1 : State Bodied) → At program.instructions w b h1 s1 c e → slice_get program.instructions (k + size (known c) a) ≡ Some (record { at = at; does = instr.JumpUnless j1 }) →
            HasAt program.instructions (k + size (known c) a + 1) (Rattle.phrase_code.specs.Coding.code c at the_value (k + size (known c) a + 1) d ▸ one at (instr.Jump j2) ▸ Rattle.phrase_code.specs.Coding.code c at the_value l2 f ▸ make_code at t) →
            slice_get program.instructions (k + size (known c) a + 1 + size (known c) d) ≡ Some (record { at = at; does = instr.Jump j2 }) →
            HasAt program.instructions (k + size (known c) a + 1 + size (known c) d + 1) (Rattle.phrase_code.specs.Coding.code c at the_value (k + size (known c) a + 1 + size (known c) d + 1) f ▸ make_code at t) → k + size (known c) a + 1 + size (known c) d + 1 ≡ j1 → k + size (known c) a + 1 + size (known c) d + 1 + size (known c) f ≡ j2 →
            Follows set program (Gives b s1.active j2) w.targets h1 s1 (mach b h1 s1 (k + size (known c) a) (machine.a_value (value.Logical truth))) (state.test truth (go set later d for_value at e) (go set later f for_value at e) s1)
        which true h1 s1 l1 i1 has2 i2 has4 e2 e3 =
            let k1 = k + size (known c) a in
            let v = machine.a_value (value.Logical true) in
            follows_from set program (Gives b s1.active j2) w.targets h1 s1 h1 s1 (mach b h1 s1 k1 v) (mach b h1 s1 (k1 + 1) v) (go set later d for_value at e s1) (one_row set program (mach b h1 s1 k1 v) (mach b h1 s1 (k1 + 1) v) _ i1 refl) (grew_here h1 s1)
            (jump_behind b s1.active (k1 + 1 + size (known c) d) j2 at w.targets h1 s1 (mach b h1 s1 (k1 + 1) v) (go set later d for_value at e s1) i2 (pd.by for_value at w b h1 s1 c e the_value (k1 + 1) v (has_front program.instructions (k1 + 1) _ _ has2) refl l1 (fits_left (marks d) (marks f) (fits_right (marks a) (max (marks d) (marks f)) ft))))
        which false h1 s1 l1 i1 has2 i2 has4 e2 e3 =
            let k1 = k + size (known c) a in
            let k4 = k1 + 1 + size (known c) d + 1 in
            let v = machine.a_value (value.Logical false) in
            follows_from set program (Gives b s1.active j2) w.targets h1 s1 h1 s1 (mach b h1 s1 k1 v) (mach b h1 s1 k4 v) (go set later f for_value at e s1) (one_row set program (mach b h1 s1 k1 v) (mach b h1 s1 k4 v) _ i1 (ap (λ n. doing.on tt (mach b h1 s1 n v)) (sym e2))) (grew_here h1 s1)
            (ends_at set program b s1.active (k4 + size (known c) f) j2 w.targets h1 s1 (mach b h1 s1 k4 v) (go set later f for_value at e s1) e3 (pf.by for_value at w b h1 s1 c e the_value k4 v (has_front program.instructions k4 _ _ has4) refl l1 (fits_right (marks d) (marks f) (fits_right (marks a) (max (marks d) (marks f)) ft))))

    pub if_then_follows : (st : Option Place) (t : Option ValueType) (a d f : Phrase) → PhraseFollows set program later a → PhraseFollows set program later d → PhraseFollows set program later f → PhraseFollows set program later (IfThen st t a d f)
    if_then_follows st t a d f pa pd pf = record { by = by }
      where
        by : (u : Use) (at : Place) → CodeDoes set program u at (IfThen st t a d f) (go set later (IfThen st t a d f) u at)
        by for_place at w b h s c e mode k held code wanted l ft = tt
        by for_value at w b h s c e mode k held code wanted l ft =
            let s0 = begun_state st s in
            let k0 = k + begin_size st in
            ends_at set program b s.active (k0 + size (known c) a + size (known c) d + 2 + size (known c) f + make_size t) _ w.targets h s (mach b h s k held) (go set later (IfThen st t a d f) for_value at e s) (omega arith)
            (begin_then set program (Gives b s.active (k0 + size (known c) a + size (known c) d + 2 + size (known c) f + make_size t)) w.targets st w b h s k held _ _ code l.agrees (λ has.
            gives_as set program b s0.active s.active (k0 + size (known c) a + size (known c) d + 2 + size (known c) f + make_size t) w.targets h s0 (mach b h s0 k0 held) _ (active_begun set program st s)
            (if_follows t a d f pa pd pf (innermost at st) w b h s0 c e k0 _ _ _ _ held has refl refl refl refl (at_begun set program st w b h s c e l) ft)))

    -- ---- CASE

    past_the_parts : (parts : Phrases) (at : Place) (n : ℕ) (e : Env) (s : State Bodied) → phrase_count parts ≤ n → go_case set later parts at (Some n) e s ≡ stop (by_fault fault.CaseOutsideRange) at s
    past_the_parts no_phrases at n e s h = refl
    past_the_parts (phrase_and a rest) at zero e s h = absurd (omega (arith, h))
    past_the_parts (phrase_and a rest) at (suc n) e s h = past_the_parts rest at n e s (omega (arith, h))

    -- the parts of a CASE, each of which does what it does
    pub data Each : Phrases → Type 0 where
      each_none : Each no_phrases
      each_and : {a : Phrase} {rest : Phrases} → PhraseFollows set program later a → Each rest → Each (phrase_and a rest)

    part_follows : (parts : Phrases) → Each parts → (at : Place) (w : World) (b : Base) (h : Heap) (s : State Bodied) (c : Context) (e : Env) (n kj kp end : ℕ) (held : Content) → HasAt program.instructions kj (jumps_code (known c) at kp parts) → HasAt program.instructions kp (code_parts c at kp end parts) → n < phrase_count parts → At program.instructions w b h s c e → Fits program.marks w b (phrases_marks parts) →
        Follows set program (Gives b s.active end) w.targets h s (mach b h s (kj + n) held) (go_case set later parts at (Some n) e s)
    part_follows no_phrases p at w b h s c e n kj kp end held hj hp q l ft = absurd (omega (arith, q))
    part_follows (phrase_and a rest) (each_and p ps) at w b h s c e zero kj kp end held hj hp q l ft =
        let e0 : kj ≡ kj + 0 = omega arith in
        follows_from set program (Gives b s.active end) w.targets h s h s (mach b h s (kj + 0) held) (mach b h s kp held) (go set later a for_value at e s) (one_row set program (mach b h s (kj + 0) held) (mach b h s kp held) _ (subst (λ n. slice_get program.instructions n ≡ Some (record { at = at; does = instr.Jump kp })) e0 hj.0) refl) (grew_here h s)
        (jump_behind b s.active (kp + size (known c) a) end at w.targets h s (mach b h s kp held) (go set later a for_value at e s) (behind program.instructions c at the_value kp a _ hp).0 (p.by for_value at w b h s c e the_value kp held (has_front program.instructions kp _ _ hp) refl l (fits_left (marks a) (phrases_marks rest) ft)))
    part_follows (phrase_and a rest) (each_and p ps) at w b h s c e (suc n) kj kp end held hj hp q l ft =
        let e1 : kj + 1 + n ≡ kj + suc n = omega arith in
        let e2 : kp + size (known c) a + 1 ≡ kp + (size (known c) a + 1) = omega arith in
        subst (λ z. Follows set program (Gives b s.active end) w.targets h s (mach b h s z held) (go_case set later rest at (Some n) e s)) e1
        (part_follows rest ps at w b h s c e n (kj + 1) (kp + (size (known c) a + 1)) end held hj.1 (subst (λ z. HasAt program.instructions z (code_parts c at (kp + (size (known c) a + 1)) end rest)) e2 (behind program.instructions c at the_value kp a _ hp).1) (omega (arith, q)) l (fits_right (marks a) (phrases_marks rest) ft))

    pub case_follows : (st : Option Place) (t : Option ValueType) (a : Phrase) (parts : Phrases) → PhraseFollows set program later a → Each parts → PhraseFollows set program later (Case st t a parts)
    case_follows st t a parts pa ps = record { by = by }
      where
        chosen : (at : Place) (w : World) (b : Base) (h : Heap) (s : State Bodied) (c : Context) (e : Env) (k kp end : ℕ) (i : ℤ) → slice_get program.instructions k ≡ Some (record { at = at; does = instr.Choose (phrase_count parts) }) → HasAt program.instructions (k + 1) (jumps_code (known c) at kp parts) → HasAt program.instructions kp (code_parts c at kp end parts) → At program.instructions w b h s c e → Fits program.marks w b (phrases_marks parts) →
            (o : Option ℕ) → case_number i ≡ o → Follows set program (Gives b s.active end) w.targets h s (mach b h s k (machine.a_value (value.Integer i))) (go_case set later parts at o e s)
        chosen at w b h s c e k kp end i has hj hp l ft None q =
            subst (λ r. Follows set program (Gives b s.active end) w.targets h s (mach b h s k (machine.a_value (value.Integer i))) r) (sym (outside parts))
            (fault_here set program (Gives b s.active end) w.targets h s (mach b h s k (machine.a_value (value.Integer i))) _ fault.CaseOutsideRange b k (machine.a_value (value.Integer i)) has (ap (λ o. Rattle.stack_code.specs.Table.choose (phrase_count parts) o (mach b h s k (machine.a_value (value.Integer i)))) q) l.agrees.listed l.agrees.settled)
          where
            outside : (ps : Phrases) → go_case set later ps at None e s ≡ stop (by_fault fault.CaseOutsideRange) at s
            outside no_phrases = refl
            outside (phrase_and a rest) = refl
        chosen at w b h s c e k kp end i has hj hp l ft (Some n) q = within (nat_lt n (phrase_count parts)) refl
          where
            v : Content
            v = machine.a_value (value.Integer i)

            row : (t : Bool) → nat_lt n (phrase_count parts) ≡ t → does set program at (instr.Choose (phrase_count parts)) (mach b h s k v) ≡ Rattle.stack_code.specs.Table.chosen t n (mach b h s k v)
            row t z = ap (λ o. Rattle.stack_code.specs.Table.choose (phrase_count parts) o (mach b h s k v)) q ∙ ap (λ y. Rattle.stack_code.specs.Table.chosen y n (mach b h s k v)) z

            within : (t : Bool) → nat_lt n (phrase_count parts) ≡ t → Follows set program (Gives b s.active end) w.targets h s (mach b h s k v) (go_case set later parts at (Some n) e s)
            within true z = follows_from set program (Gives b s.active end) w.targets h s h s (mach b h s k v) (mach b h s (k + 1 + n) v) (go_case set later parts at (Some n) e s) (one_row set program (mach b h s k v) (mach b h s (k + 1 + n) v) _ has (row true z)) (grew_here h s)
                (part_follows parts ps at w b h s c e n (k + 1) kp end v hj hp (ltb-true n (phrase_count parts) z) l ft)
            within false z = subst (λ r. Follows set program (Gives b s.active end) w.targets h s (mach b h s k v) r) (sym (past_the_parts parts at n e s (let y = ltb-false n (phrase_count parts) z in omega (arith, y))))
                (fault_here set program (Gives b s.active end) w.targets h s (mach b h s k v) _ fault.CaseOutsideRange b k v has (row false z) l.agrees.listed l.agrees.settled)

        at_case : (at : Place) (w : World) (b : Base) (h : Heap) (s : State Bodied) (c : Context) (e : Env) (k kp lp end : ℕ) (held : Content) → HasAt program.instructions k (code c at the_value k a ▸ one at (instr.Choose (phrase_count parts)) ▸ jumps_code (known c) at lp parts ▸ code_parts c at lp end parts ▸ make_code at t) → kp ≡ k + size (known c) a + 1 + jumps_size parts → lp ≡ kp → end ≡ kp + parts_size (known c) parts → At program.instructions w b h s c e → Fits program.marks w b (max (marks a) (phrases_marks parts)) →
            Follows set program (Gives b s.active (end + make_size t)) w.targets h s (mach b h s k held) (after (state.integer_of at (go set later a for_value at e) s) (λ i s1. after (go_case set later parts at (case_number i) e s1) (state.made_result at t)))
        at_case at w b h s c e k kp lp end held code q1 q2 q3 l ft =
            let k1 = k + size (known c) a in
            let has1 = behind program.instructions c at the_value k a _ code in
            let hj = has_front program.instructions (k1 + 1) (jumps_code (known c) at lp parts) _ has1.1 in
            let has2 = has_back program.instructions (k1 + 1) (jumps_size parts) (jumps_code (known c) at lp parts) _ (jumps_sized (known c) at lp parts).by has1.1 in
            let has3 = subst (λ n. HasAt program.instructions n (code_parts c at lp end parts ▸ make_code at t)) (sym q1 ∙ sym q2) has2 in
            let hp = has_front program.instructions lp (code_parts c at lp end parts) _ has3 in
            let has4 = has_back program.instructions lp (parts_size (known c) parts) (code_parts c at lp end parts) _ (parts_sized c at lp end parts).by has3 in
            let hm = subst (λ n. HasAt program.instructions n (make_code at t)) (ap (λ n. n + parts_size (known c) parts) q2 ∙ sym q3) has4 in
            follows_then set program (IsInteger set program b s.active k1) (Gives b s.active (end + make_size t)) w.targets h s (mach b h s k held) (state.integer_of at (go set later a for_value at e) s) (λ i s1. after (go_case set later parts at (case_number i) e s1) (state.made_result at t))
            (integer_by a pa at w b h s c e k held (has_front program.instructions k _ _ code) l (fits_left (marks a) (phrases_marks parts) ft))
            (λ i h1 s1 m1 r g. let l1 = at_reached set program w b h s c e k1 (machine.a_value (value.Integer i)) h1 s1 m1 l g r in
            make_behind at t w b h1 s1 end c e m1 (go_case set later parts at (case_number i) e s1) s.active r.listed hm l1
            (follows_at set program (Gives b s.active end) w.targets h1 s1 m1 (mach b h1 s1 k1 (machine.a_value (value.Integer i))) (go_case set later parts at (case_number i) e s1) r.is
            (gives_as set program b s1.active s.active end w.targets h1 s1 (mach b h1 s1 k1 (machine.a_value (value.Integer i))) (go_case set later parts at (case_number i) e s1) r.listed
            (chosen at w b h1 s1 c e k1 lp end i has1.0 hj hp l1 (fits_right (marks a) (phrases_marks parts) ft) (case_number i) refl))))

        by : (u : Use) (at : Place) → CodeDoes set program u at (Case st t a parts) (go set later (Case st t a parts) u at)
        by for_place at w b h s c e mode k held code wanted l ft = tt
        by for_value at w b h s c e mode k held code wanted l ft =
            let s0 = begun_state st s in
            let k0 = k + begin_size st in
            let end = k0 + size (known c) a + 1 + jumps_size parts + parts_size (known c) parts + make_size t in
            ends_at set program b s.active end (k + size (known c) (Case st t a parts)) w.targets h s (mach b h s k held) (go set later (Case st t a parts) for_value at e s) (omega arith)
            (begin_then set program (Gives b s.active end) w.targets st w b h s k held (Rattle.phrase_code.specs.Coding.code c (innermost at st) the_value (k + begin_size st) a ▸ one (innermost at st) (instr.Choose (phrase_count parts)) ▸
            jumps_code (known c) (innermost at st) (k + begin_size st + size (known c) a + 1 + jumps_size parts) parts ▸
            code_parts c (innermost at st) (k + begin_size st + size (known c) a + 1 + jumps_size parts) (k + begin_size st + size (known c) a + 1 + jumps_size parts + parts_size (known c) parts) parts ▸ make_code (innermost at st) t)
            (λ z s1. after (state.integer_of (innermost at st) (go set later a for_value (innermost at st) e) s1) (λ i s1. after (go_case set later parts (innermost at st) (case_number i) e s1) (state.made_result (innermost at st) t))) code l.agrees (λ has.
            gives_as set program b s0.active s.active end w.targets h s0 (mach b h s0 k0 held) (after (state.integer_of (innermost at st) (go set later a for_value (innermost at st) e) s0) (λ i s1. after (go_case set later parts (innermost at st) (case_number i) e s1) (state.made_result (innermost at st) t))) (active_begun set program st s)
            (at_case (innermost at st) w b h s0 c e k0 (k0 + size (known c) a + 1 + jumps_size parts) (k0 + size (known c) a + 1 + jumps_size parts) (k0 + size (known c) a + 1 + jumps_size parts + parts_size (known c) parts) held has refl refl refl (at_begun set program st w b h s c e l) ft)))
