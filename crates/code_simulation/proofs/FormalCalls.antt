-- A call of whatever procedure stands for a name: its actuals are texts, compared, prepared and assigned back to.
use Rattle.std.proofs.Common.{◌≡◌, ℕ, suc, ◌+◌, List, [], ◌∷◌, length, Some, None, refl, sym, ap, ◌∙◌, subst, arith}
use Rattle.std.specs.Prelude.{slice_get, Bool}
use Rattle.value_ops.specs.declared.places.Place.{Place}
use Rattle.algolw_typing.specs.Types.{ValueType, Statement, Simple}
use Rattle.algolw_typing.specs.Meanings.{FormalType, by_name, by_value, by_result, by_value_result, for_array, for_procedure}
use Rattle.program_meaning.specs.Phrases.{Phrase, Formal, Actual, Given, Alone, Subarray, Actuals, no_actuals, actual_and}
use Rattle.program_meaning.specs.State as state
use Rattle.program_meaning.specs.State.{State, Setting, on, M, for_place, after}
use Rattle.program_meaning.specs.Environments.{Env, Thing, to_procedure, Bodied, Job, Meant, assigned_back, go, go_actuals, go_back, compared, procedure_at, the_procedure, called, invoked}
use Rattle.stack_code.specs.Instr as instr
use Rattle.stack_code.specs.Instr.{Instr, as_asked}
use Rattle.stack_code.specs.Code.{Code, Coded, procedure_of}
use Rattle.stack_code.specs.Machine.{Machine, Content, Frame}
use Rattle.stack_code.specs.Doing as doing
use Rattle.stack_code.specs.Doing.{there, ◌>>=◌}
use Rattle.stack_code.specs.Table as table
use Rattle.stack_code.specs.Table.{does, call}
use Rattle.phrase_code.specs.Sizes.{size, texts_size, text_of_size, prepares_size, place_backs_size}
use Rattle.phrase_code.specs.Coding.{Context, Stand, known, source_of, inner_text, with_entries, one, ◌▸◌, code, code_text, code_texts, text_heads, prepares_code, place_back_code, place_backs_code, end_of_call, through_code}
use Rattle.code_simulation.specs.Relation.{HasAt, Has, Base, Heap, mach, World, LiveProcedure, Lives, At}
use Rattle.code_simulation.specs.Following.{Comes, already, Follows, Gives, PhraseFollows, LaterFollows}
use Rattle.code_simulation.proofs.Stacks.{has_front, has_back}
use Rattle.code_simulation.proofs.Sizes.{code_sized, text_of_sized, prepares_sized, place_back_sized, place_backs_sized}
use Rattle.code_simulation.proofs.Rows.{one_row, comes_on, follows_from, follows_then, follows_on, grew_here}
use Rattle.code_simulation.proofs.Keeping.{later_over}
use Rattle.code_simulation.proofs.Values.{follows_at, spot_follows}
use Rattle.code_simulation.proofs.Operators.{at_reached, ends_at}
use Rattle.code_simulation.proofs.Scopes.{has_joined}
use Rattle.code_simulation.proofs.Spotless.{IsClean}
use Rattle.code_simulation.proofs.Cells.{pushed_all}
use Rattle.code_simulation.proofs.ActualLists.{EachActual, actuals_and, over_pushed_all}
use Rattle.code_simulation.proofs.Asides.{aside_for_place}
use Rattle.code_simulation.proofs.CallRows.{closure_of, head_of}
use Rattle.code_simulation.proofs.CallEnds.{BackDone}
use Rattle.code_simulation.proofs.Backs.{PutAt, PutsAt, place_assigned, nothing_back}
use Rattle.code_simulation.proofs.Joining.{ready_bound}
use Rattle.code_simulation.proofs.Sources.{StandsFor, stands_later, source_is}
use Rattle.code_simulation.proofs.Comparing.{compare_then}
use Rattle.code_simulation.proofs.Prepared.{prepares_follow}
use Rattle.code_simulation.proofs.DeclaredCalls.{call_goes_on}
use Rattle.phrase_code.specs.Marks.{marks, actual_marks, actuals_marks}
use Rattle.code_simulation.specs.Room.{Fits}
use Rattle.code_simulation.proofs.Room.{fits_left, fits_right, fits_most}

-- ---- texts of actuals

module _ (set : Setting) (program : Code) where
  -- they are stepped over
  text_over : (c : Context) (w : Place) (a : Actual) (b : Base) (h : Heap) (s : State Bodied) (k : ℕ) (held : Content) (more : List Coded) → HasAt program.instructions k (code_text c w k a ▸ more) → Comes set program (mach b h s k held) (mach b h s (k + text_of_size (known c) a) held)
  text_over c w (Given v g first a) b h s k held more code = one_row set program (mach b h s k held) (mach b h s (k + text_of_size (known c) (Given v g first a)) held) _ code.0 refl
  text_over c w (Alone p a) b h s k held more code = one_row set program (mach b h s k held) (mach b h s (k + text_of_size (known c) (Alone p a)) held) _ code.0 refl
  text_over c w (Subarray a given) b h s k held more code = one_row set program (mach b h s k held) (mach b h s (k + text_of_size (known c) (Subarray a given)) held) _ code.0 refl

  pub texts_over : (c : Context) (w : Place) (given : Actuals) (b : Base) (h : Heap) (s : State Bodied) (k : ℕ) (held : Content) (more : List Coded) → HasAt program.instructions k (code_texts c w k given ▸ more) → Comes set program (mach b h s k held) (mach b h s (k + texts_size (known c) given) held) × HasAt program.instructions (k + texts_size (known c) given) more
  texts_over c w no_actuals b h s k held more code = let e : k ≡ k + 0 = omega arith in (subst (λ n. Comes set program (mach b h s k held) (mach b h s n held)) e already, subst (λ n. HasAt program.instructions n more) e code)
  texts_over c w (actual_and a rest) b h s k held more code =
      let n = text_of_size (known c) a in
      let h1 = has_joined program.instructions k (code_text c w k a) (code_texts c w (k + n) rest) more code in
      let h2 = has_back program.instructions k n (code_text c w k a) _ (text_of_sized c w k a).by h1 in
      let r = texts_over c w rest b h s (k + n) held more h2 in
      let e : k + n + texts_size (known c) rest ≡ k + (n + texts_size (known c) rest) = omega arith in
      (subst (λ i. Comes set program (mach b h s k held) (mach b h s i held)) e (comes_on set program (text_over c w a b h s k held _ h1) r.0), subst (λ i. HasAt program.instructions i more) e r.1)

-- ---- formals are assigned back

module _ (set : Setting) (program : Code) (later : Job → M Bodied state.Given) (q : LiveProcedure) (p : Bodied) (st : Place) (behind : ℕ) (head_is : slice_get program.instructions q.head ≡ Some (record { at = st; does = instr.Procedure (head_of p) behind })) where
  -- the row that looks for the i-th formal
  place_back_row : (at : Place) (b : Base) (h : Heap) (s : State Bodied) (k : ℕ) (held : Content) (i kh : ℕ) (f : Formal) (fr : Frame) (frames : List Frame) → b.frames ≡ fr ∷ frames → fr.head ≡ q.head → slice_get p.formals i ≡ Some f →
      does set program at (instr.PlaceBack i kh) (mach b h s k held) ≡ table.place_back program.marks kh f.is (mach b h s k held)
  place_back_row at b h s k held i kh f fr frames ef eh es =
      let m = mach b h s k held in
      ap (λ l. doing.after (doing.after (doing.newest l m) (λ g. there (procedure_of (slice_get program.instructions g.head)) >>= λ y. there (slice_get y.formals i))) (λ g. table.place_back program.marks kh g.is)) ef
      ∙ ap (λ n. doing.after (doing.after (there (procedure_of (slice_get program.instructions n)) m) (λ y. there (slice_get y.formals i))) (λ g. table.place_back program.marks kh g.is)) eh
      ∙ ap (λ o. doing.after (doing.after (there (procedure_of o) m) (λ y. there (slice_get y.formals i))) (λ g. table.place_back program.marks kh g.is)) head_is
      ∙ ap (λ o. doing.after (there o m) (λ g. table.place_back program.marks kh g.is)) es

  -- nothing is assigned to this one
  stepped : (at : Place) (w : World) (b : Base) (h : Heap) (s : State Bodied) (c : Context) (e : Env) (k : ℕ) (held : Content) (does_it : Instr) → does set program at does_it (mach b h s k held) ≡ table.stepped_over (mach b h s k held) → slice_get program.instructions k ≡ Some (record { at = at; does = does_it }) → At program.instructions w b h s c e →
      Follows set program (BackDone b s.active (k + 3)) w.targets h s (mach b h s k held) (on tt s)
  stepped at w b h s c e k held does_it row has l = follows_on set program (BackDone b s.active (k + 3)) w.targets h s (mach b h s k held) (mach b h s (k + 3) held) tt (one_row set program (mach b h s k held) (mach b h s (k + 3) held) _ has row)
      (record { held = held; reached = record { is = refl; settled = l.agrees.settled; cells = l.agrees.cells; listed = refl } })

  -- one phrase that may give a place
  placed_back : (u : ValueType) (a : Phrase) → PhraseFollows set program later a → (ft : FormalType) (t : Thing) (at : Place) (w : World) (b : Base) (h : Heap) (s : State Bodied) (c : Context) (e : Env) (k kh i cell : ℕ) (held : Content) (fr : Frame) (frames : List Frame) (does_it : Instr) → b.frames ≡ fr ∷ frames → fr.base + i ≡ cell →
      does set program at does_it (mach b h s k held) ≡ table.place_back program.marks kh ft (mach b h s k held) → HasAt program.instructions k (one at does_it ▸ one at instr.End ▸ one at (instr.AssignBack i u)) → HasAt program.instructions (kh + 1) (code (inner_text c) at as_asked (kh + 1) a ▸ one at instr.Return) → At program.instructions w b h s c e → PutAt b cell t → Fits program.marks w b (1 + marks a) →
      Follows set program (BackDone b s.active (k + 3)) w.targets h s (mach b h s k held) (assigned_back ft at (go set later a for_place at e) (Simple u) t s)
  placed_back u a d ft t at w b h s c e k kh i cell held fr frames does_it ef ec row has tx l sd fi = by ft row
    where
      body : List Coded
      body = Rattle.phrase_code.specs.Coding.code (inner_text c) at as_asked (kh + 1) a

      three : (j : ℕ) → j + 1 + 1 + 1 ≡ j + 3
      three j = omega arith

      back : slice_get program.instructions (kh + 1 + size (known c) a) ≡ Some (record { at = at; does = instr.Return })
      back = (has_back program.instructions (kh + 1) (size (known c) a) body (one at instr.Return) (code_sized (inner_text c) at as_asked (kh + 1) a).by tx).0

      assigned : does set program at does_it (mach b h s k held) ≡ table.enter_aside program.marks kh for_place None (mach b h s k held) → Follows set program (BackDone b s.active (k + 3)) w.targets h s (mach b h s k held) (Rattle.program_meaning.specs.Environments.give_back_value at (go set later a for_place at e) (Simple u) t s)
      assigned r = subst (λ j. Follows set program (BackDone b s.active j) w.targets h s (mach b h s k held) (Rattle.program_meaning.specs.Environments.give_back_value at (go set later a for_place at e) (Simple u) t s)) (three k)
          (place_assigned set program later u t at w b h s c e k (k + 1 + 1) i cell held (go set later a for_place at e) fr frames ef ec has.1.1.0 l sd
          (spot_follows set program b s.active (k + 1 + 1) w.targets h s (mach b h s k held) at (go set later a for_place at e s)
          (aside_for_place set program later None a d at w b h s c e k kh held does_it r has.0 has.1.0 (has_front program.instructions (kh + 1) body (one at instr.Return) tx) back l fi)))

      by : (f : FormalType) → does set program at does_it (mach b h s k held) ≡ table.place_back program.marks kh f (mach b h s k held) → Follows set program (BackDone b s.active (k + 3)) w.targets h s (mach b h s k held) (assigned_back f at (go set later a for_place at e) (Simple u) t s)
      by (by_result r) z = assigned z
      by (by_value_result r) z = assigned z
      by (by_value r) z = stepped at w b h s c e k held does_it z has.0 l
      by (by_name r) z = stepped at w b h s c e k held does_it z has.0 l
      by (for_array r d) z = stepped at w b h s c e k held does_it z has.0 l
      by (for_procedure r) z = stepped at w b h s c e k held does_it z has.0 l

  -- and one that gives none
  unplaced : (ft : FormalType) (P : M Bodied state.Given) (t : Thing) (at : Place) (w : World) (b : Base) (h : Heap) (s : State Bodied) (c : Context) (e : Env) (k : ℕ) (held : Content) → At program.instructions w b h s c e → Follows set program (BackDone b s.active (k + 0)) w.targets h s (mach b h s k held) (assigned_back ft at P Statement t s)
  unplaced (by_result r) P t at w b h s c e k held l = tt
  unplaced (by_value_result r) P t at w b h s c e k held l = tt
  unplaced (by_value r) P t at w b h s c e k held l = nothing_back set program later w b h s c e k held l
  unplaced (by_name r) P t at w b h s c e k held l = nothing_back set program later w b h s c e k held l
  unplaced (for_array r d) P t at w b h s c e k held l = nothing_back set program later w b h s c e k held l
  unplaced (for_procedure r) P t at w b h s c e k held l = nothing_back set program later w b h s c e k held l

  module _ (c : Context) (more : ℕ) (at : Place) (w : World) (b : Base) (e : Env) (fr : Frame) (frames : List Frame) (frames_are : b.frames ≡ fr ∷ frames) (same_head : fr.head ≡ q.head) where
    -- all of them, in the caller's context with the call's entries on it
    pub place_backs_follow : (given : Actuals) → EachActual set program later given → (fs : List Formal) (bs : List Meant) (h : Heap) (s : State Bodied) (k kh i cell : ℕ) (held : Content) → fr.base + i ≡ cell → ((j : ℕ) → slice_get p.formals (i + j) ≡ slice_get fs j) →
        HasAt program.instructions k (place_backs_code (known c) at i kh given) → HasAt program.instructions kh (code_texts c at kh given) → At program.instructions w b h s (with_entries more c) e → PutsAt b cell bs → Fits program.marks w b (actuals_marks given) →
        Follows set program (BackDone b s.active (k + place_backs_size given)) w.targets h s (mach b h s k held) (go_back set later given at fs bs e s)
    place_backs_follow no_actuals d [] [] h s k kh i cell held ec ff has tx l sd fi = nothing_back set program later w b h s (with_entries more c) e k held l
    place_backs_follow no_actuals d (f ∷ fs) bs h s k kh i cell held ec ff has tx l sd fi = tt
    place_backs_follow no_actuals d [] (y ∷ bs) h s k kh i cell held ec ff has tx l sd fi = tt
    place_backs_follow (actual_and (Given v g first a) rest) d [] bs h s k kh i cell held ec ff has tx l sd fi = tt
    place_backs_follow (actual_and (Alone z a) rest) d [] bs h s k kh i cell held ec ff has tx l sd fi = tt
    place_backs_follow (actual_and (Subarray a z) rest) d [] bs h s k kh i cell held ec ff has tx l sd fi = tt
    place_backs_follow (actual_and (Given v g first a) rest) d (f ∷ fs) [] h s k kh i cell held ec ff has tx l sd fi = tt
    place_backs_follow (actual_and (Alone z a) rest) d (f ∷ fs) [] h s k kh i cell held ec ff has tx l sd fi = tt
    place_backs_follow (actual_and (Subarray a z) rest) d (f ∷ fs) [] h s k kh i cell held ec ff has tx l sd fi = tt
    place_backs_follow (actual_and (Given v (Simple u) first a) rest) (actuals_and d ds) (f ∷ fs) (y ∷ bs) h s k kh i cell held ec ff has tx l sd fi =
        let o = Given v (Simple u) first a in
        let n = text_of_size (known c) o in
        let c' = with_entries more c in
        let end = k + (3 + place_backs_size rest) in
        let has1 = has_back program.instructions k 3 (place_back_code at i kh o) _ (place_back_sized at i kh o).by has in
        let tx0 = has_front program.instructions kh (code_text c at kh o) _ tx in
        let tx1 = has_back program.instructions kh n (code_text c at kh o) _ (text_of_sized c at kh o).by tx in
        follows_then set program (BackDone b s.active (k + 3)) (BackDone b s.active end) w.targets h s (mach b h s k held) (assigned_back f.is at (go set later a for_place at e) (Simple u) y.by s) (λ z. go_back set later rest at fs bs e)
        (placed_back u a d.1 f.is y.by at w b h s c' e k kh i cell held fr frames (instr.PlaceBack i kh) frames_are ec (place_back_row at b h s k held i kh f fr frames frames_are same_head (first_is i (ff 0))) (has.0, (has.1.0, (has.1.1.0, tt))) tx0.1 l sd.0 (fits_left (1 + marks a) (actuals_marks rest) fi))
        (λ z h1 s1 m1 r g1. let x = r.reached in
        follows_at set program (BackDone b s.active end) w.targets h1 s1 m1 (mach b h1 s1 (k + 3) r.held) (go_back set later rest at fs bs e s1) x.is
        (subst (λ act. Follows set program (BackDone b act end) w.targets h1 s1 (mach b h1 s1 (k + 3) r.held) (go_back set later rest at fs bs e s1)) x.listed
        (subst (λ j. Follows set program (BackDone b s1.active j) w.targets h1 s1 (mach b h1 s1 (k + 3) r.held) (go_back set later rest at fs bs e s1)) (sums k 3 (place_backs_size rest))
        (place_backs_follow rest ds fs bs h1 s1 (k + 3) (kh + n) (i + 1) (cell + 1) r.held (omega (arith, ec)) (λ j. next_is i j (ff (suc j))) has1 tx1 (at_reached set program w b h s c' e (k + 3) r.held h1 s1 m1 l g1 x) sd.1 (fits_right (1 + marks a) (actuals_marks rest) fi)))))
      where
        sums : (j n o : ℕ) → j + n + o ≡ j + (n + o)
        sums j n o = omega arith

        next_is : (j o : ℕ) → slice_get p.formals (j + suc o) ≡ slice_get fs o → slice_get p.formals (j + 1 + o) ≡ slice_get fs o
        next_is j o = subst (λ z. slice_get p.formals z ≡ slice_get fs o) (omega arith)

        first_is : (j : ℕ) → slice_get p.formals (j + 0) ≡ Some f → slice_get p.formals j ≡ Some f
        first_is j = subst (λ z. slice_get p.formals z ≡ Some f) (omega arith)
    place_backs_follow (actual_and (Given v Statement first a) rest) (actuals_and d ds) (f ∷ fs) (y ∷ bs) h s k kh i cell held ec ff has tx l sd fi =
        let o = Given v Statement first a in
        let n = text_of_size (known c) o in
        let c' = with_entries more c in
        let end = k + (0 + place_backs_size rest) in
        let has1 = has_back program.instructions k 0 (place_back_code at i kh o) _ (place_back_sized at i kh o).by has in
        let tx0 = has_front program.instructions kh (code_text c at kh o) _ tx in
        let tx1 = has_back program.instructions kh n (code_text c at kh o) _ (text_of_sized c at kh o).by tx in
        follows_then set program (BackDone b s.active (k + 0)) (BackDone b s.active end) w.targets h s (mach b h s k held) (assigned_back f.is at (go set later a for_place at e) Statement y.by s) (λ z. go_back set later rest at fs bs e)
        (unplaced f.is (go set later a for_place at e) y.by at w b h s c' e k held l)
        (λ z h1 s1 m1 r g1. let x = r.reached in
        follows_at set program (BackDone b s.active end) w.targets h1 s1 m1 (mach b h1 s1 (k + 0) r.held) (go_back set later rest at fs bs e s1) x.is
        (subst (λ act. Follows set program (BackDone b act end) w.targets h1 s1 (mach b h1 s1 (k + 0) r.held) (go_back set later rest at fs bs e s1)) x.listed
        (subst (λ j. Follows set program (BackDone b s1.active j) w.targets h1 s1 (mach b h1 s1 (k + 0) r.held) (go_back set later rest at fs bs e s1)) (sums k 0 (place_backs_size rest))
        (place_backs_follow rest ds fs bs h1 s1 (k + 0) (kh + n) (i + 1) (cell + 1) r.held (omega (arith, ec)) (λ j. next_is i j (ff (suc j))) has1 tx1 (at_reached set program w b h s c' e (k + 0) r.held h1 s1 m1 l g1 x) sd.1 (fits_right (1 + marks a) (actuals_marks rest) fi)))))
      where
        sums : (j n o : ℕ) → j + n + o ≡ j + (n + o)
        sums j n o = omega arith

        next_is : (j o : ℕ) → slice_get p.formals (j + suc o) ≡ slice_get fs o → slice_get p.formals (j + 1 + o) ≡ slice_get fs o
        next_is j o = subst (λ z. slice_get p.formals z ≡ slice_get fs o) (omega arith)
    place_backs_follow (actual_and (Alone z a) rest) (actuals_and d ds) (f ∷ fs) (y ∷ bs) h s k kh i cell held ec ff has tx l sd fi =
        let o = Alone z a in
        let n = text_of_size (known c) o in
        let G = go_back set later rest at fs bs e s in
        let has1 = has_back program.instructions k 0 (place_back_code at i kh o) _ (place_back_sized at i kh o).by has in
        let tx1 = has_back program.instructions kh n (code_text c at kh o) _ (text_of_sized c at kh o).by tx in
        subst (λ j. Follows set program (BackDone b s.active (k + (0 + place_backs_size rest))) w.targets h s (mach b h s j held) G) (none k)
        (subst (λ j. Follows set program (BackDone b s.active j) w.targets h s (mach b h s (k + 0) held) G) (sums k 0 (place_backs_size rest))
        (place_backs_follow rest ds fs bs h s (k + 0) (kh + n) (i + 1) (cell + 1) held (omega (arith, ec)) (λ j. next_is i j (ff (suc j))) has1 tx1 l sd.1 (fits_right (1 + actual_marks o) (actuals_marks rest) fi)))
      where
        sums : (j n o : ℕ) → j + n + o ≡ j + (n + o)
        sums j n o = omega arith

        next_is : (j o : ℕ) → slice_get p.formals (j + suc o) ≡ slice_get fs o → slice_get p.formals (j + 1 + o) ≡ slice_get fs o
        next_is j o = subst (λ z. slice_get p.formals z ≡ slice_get fs o) (omega arith)

        none : (j : ℕ) → j + 0 ≡ j
        none j = omega arith
    place_backs_follow (actual_and (Subarray a z) rest) (actuals_and d ds) (f ∷ fs) (y ∷ bs) h s k kh i cell held ec ff has tx l sd fi =
        let o = Subarray a z in
        let n = text_of_size (known c) o in
        let G = go_back set later rest at fs bs e s in
        let has1 = has_back program.instructions k 0 (place_back_code at i kh o) _ (place_back_sized at i kh o).by has in
        let tx1 = has_back program.instructions kh n (code_text c at kh o) _ (text_of_sized c at kh o).by tx in
        subst (λ j. Follows set program (BackDone b s.active (k + (0 + place_backs_size rest))) w.targets h s (mach b h s j held) G) (none k)
        (subst (λ j. Follows set program (BackDone b s.active j) w.targets h s (mach b h s (k + 0) held) G) (sums k 0 (place_backs_size rest))
        (place_backs_follow rest ds fs bs h s (k + 0) (kh + n) (i + 1) (cell + 1) held (omega (arith, ec)) (λ j. next_is i j (ff (suc j))) has1 tx1 l sd.1 (fits_right (1 + actual_marks o) (actuals_marks rest) fi)))
      where
        sums : (j n o : ℕ) → j + n + o ≡ j + (n + o)
        sums j n o = omega arith

        next_is : (j o : ℕ) → slice_get p.formals (j + suc o) ≡ slice_get fs o → slice_get p.formals (j + 1 + o) ≡ slice_get fs o
        next_is j o = subst (λ z. slice_get p.formals z ≡ slice_get fs o) (omega arith)

        none : (j : ℕ) → j + 0 ≡ j
        none j = omega arith

module _ (set : Setting) (program : Code) (later : Job → M Bodied state.Given) (hl : LaterFollows set program later) (clean : (job : Job) (s : State Bodied) → IsClean job (later job s)) where
  -- ---- the call

  pub through_follows : (given : Actuals) → EachActual set program later given → (at : Place) (compares : Bool) (p : Place) (w : World) (b : Base) (h : Heap) (s : State Bodied) (c : Context) (e : Env) (k v : ℕ) (held : Content) (name : Stand) (q : LiveProcedure) → Has q w.procedures → v ≡ q.number → StandsFor b name c.level b.current q →
      HasAt program.instructions k (through_code c at compares p k given name (λ l. code_texts c at l given)) → At program.instructions w b h s c e → Fits program.marks w b (actuals_marks given) →
      Follows set program (Gives b s.active (end_of_call (known c) k given + 1)) w.targets h s (mach b h s k held) (invoked set later at compares p (Some (to_procedure v)) given e (λ fs. go_actuals set later given at fs e) (λ fs bs. go_back set later given at fs bs e) s)
  through_follows given ps at compares p w b h s c e k v held name q has_q en st code l ft =
      subst (λ z. Follows set program (Gives b s.active (end_of_call (known c) k given + 1)) w.targets h s (mach b h s k held) (after z does_it)) (sym found)
      (ends_at set program b s.active (kb + 1) (end_of_call (known c) k given + 1) w.targets h s (mach b h s k held) (does_it ld.bodied s) (omega arith)
      (follows_from set program R w.targets h s h s (mach b h s k held) (mach b h s kc held) (does_it ld.bodied s) over.0 (grew_here h s)
      (compare_then program w b h s c e kc held l set later R at compares given ps k (end_of_call (known c) k given) name q ld (λ z. called set later at p ld.bodied ready back) texts st over.1.0
      (call_goes_on set program later hl clean at p w b h s c e kt kb q ld (instr.CallThrough (source_of c name) p) back row has_call.0 has_end backs l ft ready (mach b h s (kc + 1) held) prepared))))
    where
      ld : Lives program.instructions w b s q
      ld = l.agrees.lives q has_q

      fs : List Formal
      fs = ld.bodied.formals

      src : instr.Source
      src = source_of c name

      kc : ℕ
      kc = k + texts_size (known c) given

      kt : ℕ
      kt = kc + 1 + prepares_size given

      kb : ℕ
      kb = kt + 1 + place_backs_size given

      R : state.Given → Heap → State Bodied → Machine → Type 0
      R = Gives b s.active (kb + 1)

      ready : M Bodied (List Rattle.program_meaning.specs.Environments.Ready)
      ready = go_actuals set later given at fs e

      back : List Meant → M Bodied (Unit {0})
      back bs = go_back set later given at fs bs e

      does_it : Bodied → M Bodied state.Given
      does_it y = state.◌>>◌ (compared at compares e y.formals given) (called set later at p y (go_actuals set later given at y.formals e) (λ bs. go_back set later given at y.formals bs e))

      found : the_procedure at v s ≡ on ld.bodied s
      found = ap (λ n. procedure_at at (slice_get s.procedures n) s) en ∙ ap (λ o. procedure_at at o s) ld.is

      prepares : List Coded
      prepares = prepares_code (known c) at src 0 k given

      place_backs : List Coded
      place_backs = place_backs_code (known c) at 0 k given

      texts : HasAt program.instructions k (code_texts c at k given)
      texts = has_front program.instructions k (code_texts c at k given) _ code

      over : Comes set program (mach b h s k held) (mach b h s kc held) × HasAt program.instructions kc (one at (instr.Compare compares src (text_heads (known c) k given) (end_of_call (known c) k given)) ▸ prepares ▸ one at (instr.CallThrough src p) ▸ place_backs ▸ one at instr.End)
      over = texts_over set program c at given b h s k held _ code

      has_call : HasAt program.instructions kt (one at (instr.CallThrough src p) ▸ place_backs ▸ one at instr.End)
      has_call = has_back program.instructions (kc + 1) (prepares_size given) prepares _ (prepares_sized (known c) at src 0 k given).by over.1.1

      has_end : slice_get program.instructions kb ≡ Some (record { at = at; does = instr.End })
      has_end = (has_back program.instructions (kt + 1) (place_backs_size given) place_backs _ (place_backs_sized (known c) at 0 k given).by has_call.1).0

      from_first : (j : ℕ) → slice_get fs (0 + j) ≡ slice_get fs j
      from_first j = ap (slice_get fs) (omega arith)

      prepared : Follows set program (Rattle.code_simulation.proofs.Joining.ActualsBound program.instructions w b s.active kt fs) w.targets h s (mach b h s (kc + 1) held) (ready s)
      prepared = ready_bound set program later given fs at w b h s e kt (mach b h s (kc + 1) held)
          (prepares_follow set program later c name q ld.bodied ld.bodied.statement ld.behind ld.head given ps fs at w b h s e (kc + 1) k 0 held from_first st (has_front program.instructions (kc + 1) prepares _ over.1.1) texts l ft)

      row : (xs : List Content) (h' : Heap) (s' : State Bodied) (held' : Content) → does set program at (instr.CallThrough src p) (mach (pushed_all xs b) h' s' kt held') ≡ call set program.marks p (closure_of q) (head_of ld.bodied) (mach (pushed_all xs b) h' s' kt held')
      row xs h' s' held' =
          let m = mach (pushed_all xs b) h' s' kt held' in
          ap (λ r. doing.after (doing.after r doing.closure_in) (λ y. there (procedure_of (slice_get program.instructions y.head)) >>= call set program.marks p y))
          (source_is (pushed_all xs b) h' s' kt held' c name q (stands_later (later_over w b (pushed_all xs b) s.arrays s.arrays (over_pushed_all xs b) (λ i z y. y)) name c.level b.current q st))
          ∙ ap (λ o. doing.after (there (procedure_of o) m) (call set program.marks p (closure_of q))) ld.head

      backs : Rattle.code_simulation.proofs.DeclaredCalls.BacksFollow set program later hl clean w b h s c e (kt + 1) kb q (length fs) back
      backs ba h2 s2 x puts o ec ef g la sd fb = place_backs_follow set program later q ld.bodied ld.bodied.statement ld.behind ld.head c (1 + length fs) at w ba e _ b.frames ef refl given ps fs puts h2 s2 (kt + 1) k 0 (length b.slots) x (omega arith) from_first
          (has_front program.instructions (kt + 1) place_backs _ has_call.1) texts la sd (fb (actuals_marks given) (fits_most ft))
