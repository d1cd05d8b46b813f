-- The actuals of a call in line.
use Rattle.std.proofs.Common.{◌≡◌, ℕ, suc, ◌+◌, List, [], ◌∷◌, ◌++◌, length, Option, Some, refl, sym, ap, ◌∙◌, subst, arith}
use Rattle.std.specs.Prelude.{false}
use Rattle.value_ops.specs.declared.places.Place.{Place}
use Rattle.program_meaning.specs.Phrases.{Named}
use Rattle.program_meaning.specs.State as state
use Rattle.program_meaning.specs.State.{State, Setting, M, after, ArrayInfo}
use Rattle.program_meaning.specs.Copying as copying
use Rattle.program_meaning.specs.Environments.{Env, Bodied, Job}
use Rattle.stack_code.specs.Instr as instr
use Rattle.stack_code.specs.Instr.{Instr, the_value}
use Rattle.stack_code.specs.Code.{Code, Coded}
use Rattle.stack_code.specs.Machine.{Machine, Content}
use Rattle.phrase_code.specs.Coding.{Context, known, code, stand_at, one, ◌▸◌}
use Rattle.code_simulation.specs.Relation.{HasAt, Slot, fixed, Base, Heap, mach, World, At}
use Rattle.code_simulation.specs.Following.{already, Follows, PhraseFollows}
use Rattle.code_simulation.proofs.Stacks.{has_front, has_back}
use Rattle.code_simulation.proofs.Rows.{follows_then, follows_on}
use Rattle.code_simulation.proofs.Keeping.{pushed, with_cells, at_pushed}
use Rattle.std.proofs.Common.{append_assoc}
use Rattle.algolw_typing.specs.Meanings.{FormalType, by_name, by_value, by_result, by_value_result, for_array, for_procedure}
use Rattle.program_meaning.specs.Phrases.{Formal, Actual, Given, Alone, Subarray, Actuals, no_actuals, actual_and}
use Rattle.program_meaning.specs.Environments.{Ready, with_value, procedure_handed, array_handed, go_actual, go_actuals}
use Rattle.phrase_code.specs.Sizes.{actual_size, actuals_size}
use Rattle.phrase_code.specs.Coding.{reading_of_name, code_actual, code_actuals}
use Rattle.code_simulation.specs.Written.{IsWritten}
use Rattle.code_simulation.proofs.Sizes.{actual_sized}
use Rattle.code_simulation.proofs.Keeping.{Over, later_over}
use Rattle.code_simulation.proofs.Cells.{fixed_over, pushed_all, Heaped}
use Rattle.code_simulation.proofs.Subarrays.{EachStar}
use Rattle.code_simulation.proofs.Actuals.{ReadyAs, ready_later, GoesOnReady, value_actual, result_actual, thunk_actual, procedure_hands, array_hands, handed_actual, subarray_actual}
use Rattle.code_simulation.proofs.Asides.{value_result_actual}
use Rattle.code_simulation.proofs.Bare.{bare, bare_code, bare_size, bare_does, name_thunk_actual}
use Rattle.phrase_code.specs.Marks.{actual_marks, actuals_marks}
use Rattle.code_simulation.specs.Room.{Fits}
use Rattle.code_simulation.proofs.Room.{fits_left, fits_right, fits_less, fits_pushed, fits_most}
use Rattle.program_meaning.specs.State.{most_cells}
use Rattle.std.specs.Prelude.{◌≤◌}

-- ---- cells over others

fixed_append : (xs : List Content) (l : List Slot) → fixed_over xs l ≡ fixed_over xs [] ++ l
fixed_append [] l = refl
fixed_append (x ∷ xs) l = fixed_append xs (fixed x ∷ l) ∙ sym (append_assoc (fixed_over xs []) (fixed x ∷ []) l) ∙ ap (λ z. z ++ l) (sym (fixed_append xs (fixed x ∷ [])))

pub over_pushed_all : (xs : List Content) (b : Base) → Over b (pushed_all xs b)
over_pushed_all xs b = record { slots = fixed_over xs []; slots_are = fixed_append xs b.slots; entries = []; entries_are = refl; frames = []; frames_are = refl; reserved = λ k i. i }

-- ---- all that is ready, as the cells hold it

abbrev pub AllReady : List Coded → World → Base → List (Option ArrayInfo) → List Ready → List Content → Type 0
AllReady program w b arrays [] [] = Unit {0}
AllReady program w b arrays (r ∷ rs) (x ∷ xs) = ReadyAs program w b arrays r x × AllReady program w b arrays rs xs
AllReady program w b arrays rs xs = ⊥

-- actuals are pushed, one for each formal
pub record ActualsReady (program : List Coded) (w : World) (b : Base) (active : List state.Entry) (next count : ℕ) (rs : List Ready) (h : Heap) (s : State Bodied) (m : Machine) : Type 0 where
  pub cells : List Content
  pub ready : AllReady program w (pushed_all cells b) s.arrays rs cells
  pub heaped : Heaped b cells active next h s m
  pub count_is : length cells ≡ count
  pub few : (n : ℕ) → n ≤ length b.slots → n ≤ most_cells → n + count ≤ most_cells

module _ (set : Setting) (program : Code) (later : Job → M Bodied state.Given) where
  -- an actual does what it does; a name alone as the phrase that calls it
  abbrev pub ActualDoes : Actual → Type 0
  ActualDoes (Given v g first a) = IsWritten a × PhraseFollows set program later a
  ActualDoes (Alone p (Named x)) = PhraseFollows set program later (bare p x)
  ActualDoes (Subarray (Named x) given) = EachStar set program later given
  ActualDoes a = ⊥

  pub data EachActual : Actuals → Type 0 where
    actuals_none : EachActual no_actuals
    actuals_and : {a : Actual} {rest : Actuals} → ActualDoes a → EachActual rest → EachActual (actual_and a rest)

  -- what the induction knows of actuals: of a name alone nothing
  abbrev pub PhrasesDo : Actual → Type 0
  PhrasesDo (Given v g first a) = IsWritten a × PhraseFollows set program later a
  PhrasesDo (Alone p (Named x)) = Unit {0}
  PhrasesDo (Subarray (Named x) given) = EachStar set program later given
  PhrasesDo a = ⊥

  pub data EachPhrase : Actuals → Type 0 where
    phrases_none : EachPhrase no_actuals
    phrases_and : {a : Actual} {rest : Actuals} → PhrasesDo a → EachPhrase rest → EachPhrase (actual_and a rest)

  -- each name alone is called
  abbrev pub BareDoes : Type 0
  BareDoes = (p x : Place) → PhraseFollows set program later (bare p x)

  actual_does : BareDoes → (a : Actual) → PhrasesDo a → ActualDoes a
  actual_does q (Given v g first a) p = p
  actual_does q (Alone p (Named x)) d = q p x
  actual_does q (Subarray (Named x) given) p = p
  actual_does q a p = absurd p

  pub each_actual : BareDoes → (given : Actuals) → EachPhrase given → EachActual given
  each_actual q no_actuals p = actuals_none
  each_actual q (actual_and a rest) (phrases_and p ps) = actuals_and (actual_does q a p) (each_actual q rest ps)

  -- an actual in line, and its push
  pub actual_follows : {A : Type 0} (R : A → Heap → State Bodied → Machine → Type 0) (a : Actual) → ActualDoes a → (f : FormalType) (at : Place) (w : World) (b : Base) (h : Heap) (s : State Bodied) (c : Context) (e : Env) (k : ℕ) (held : Content) (F : Ready → M Bodied A) →
      HasAt program.instructions k (code_actual c at k a f) → At program.instructions w b h s c e → Fits program.marks w b (1 + actual_marks a) → GoesOnReady set program later R w b h s c e (k + actual_size (known c) a f) F →
      Follows set program R w.targets h s (mach b h s k held) (after (go_actual set later a at f e s) (λ r. state.◌>>◌ (state.take_cells 1 at) (F r)))
  actual_follows R (Given v g first a) d (by_value t) at w b h s c e k held F code l ft go_on_ready = value_actual set program later R t a d.1 at w b h s c e k held F code l (fits_less (omega arith) ft) go_on_ready
  actual_follows R (Given v g first a) d (by_result t) at w b h s c e k held F code l ft go_on_ready = result_actual set program later R at w b h s c e k held F code l go_on_ready
  actual_follows R (Given v g first a) d (by_value_result t) at w b h s c e k held F code l ft go_on_ready = value_result_actual set program later R t first (Rattle.stack_code.specs.Instr.as_phrase v g) a d.1 at w b h s c e k held F code l ft go_on_ready
  actual_follows R (Given v g first a) d (by_name t) at w b h s c e k held F code l ft go_on_ready = thunk_actual set program later R (Some t) (copying.is_variable_of t v g) first (Rattle.stack_code.specs.Instr.as_phrase v g) a d.0 at w b h s c e k held F code l (let m = fits_most ft in let n = ft.marks_are in omega (arith, m, n)) go_on_ready
  actual_follows R (Given v g first a) d (for_procedure result) at w b h s c e k held F code l ft go_on_ready = thunk_actual set program later R result false first (Rattle.stack_code.specs.Instr.as_phrase v g) a d.0 at w b h s c e k held F code l (let m = fits_most ft in let n = ft.marks_are in omega (arith, m, n)) go_on_ready
  actual_follows R (Given v g first a) d (for_array t n) at w b h s c e k held F code l ft go_on_ready = tt
  actual_follows {A} R (Alone p (Named x)) d (by_value t) at w b h s c e k held F code l ft go_on_ready =
      let K : Ready → M Bodied A = λ r. state.◌>>◌ (state.take_cells 1 at) (F r) in
      subst (λ r. Follows set program R w.targets h s (mach b h s k held) (after (after (after r (state.value_in at)) (λ v. state.◌>>=◌ (state.made at t v) (λ u. state.give (with_value u)))) K)) (bare_does set later at p x e s)
      (value_actual set program later R t (bare p x) d at w b h s c e k held F
      (subst (λ z. HasAt program.instructions k (z ▸ one at (instr.Make t) ▸ one at instr.Push)) (sym (bare_code c at p the_value k x)) code) l (fits_less (omega arith) ft)
      (subst (λ n. GoesOnReady set program later R w b h s c e (k + (n + 2)) F) (sym (bare_size c p x)) go_on_ready))
  actual_follows R (Alone p (Named x)) d (by_name t) at w b h s c e k held F code l ft go_on_ready = name_thunk_actual set program later R t p x (reading_of_name c (stand_at c.names x)) at w b h s c e k held F code l go_on_ready
  actual_follows R (Alone p (Named x)) d (for_procedure result) at w b h s c e k held F code l ft go_on_ready = handed_actual set program later R procedure_handed (procedure_hands set program later) x at w b h s c e k held F code l go_on_ready
  actual_follows R (Alone p (Named x)) d (for_array t n) at w b h s c e k held F code l ft go_on_ready = handed_actual set program later R array_handed (array_hands set program later) x at w b h s c e k held F code l go_on_ready
  actual_follows R (Alone p (Named x)) d (by_result t) at w b h s c e k held F code l ft go_on_ready = tt
  actual_follows R (Alone p (Named x)) d (by_value_result t) at w b h s c e k held F code l ft go_on_ready = tt
  actual_follows R (Subarray (Named x) given) ps (for_array t n) at w b h s c e k held F code l ft go_on_ready = subarray_actual set program later R x given ps at w b h s c e k held F code l (fits_less (omega arith) ft) go_on_ready
  actual_follows R (Subarray (Named x) given) ps f at w b h s c e k held F code l ft go_on_ready = tt
  actual_follows R a d f at w b h s c e k held F code l ft go_on_ready = absurd d

  -- all actuals in line
  pub actuals_follow : (given : Actuals) → EachActual given → (fs : List Formal) (at : Place) (w : World) (b : Base) (h : Heap) (s : State Bodied) (c : Context) (e : Env) (k : ℕ) (held : Content) → HasAt program.instructions k (code_actuals c at k given fs) → At program.instructions w b h s c e → Fits program.marks w b (actuals_marks given) →
      Follows set program (ActualsReady program.instructions w b s.active (k + actuals_size (known c) given fs) (length fs)) w.targets h s (mach b h s k held) (go_actuals set later given at fs e s)
  actuals_follow no_actuals p [] at w b h s c e k held code l ft = follows_on set program _ w.targets h s (mach b h s k held) (mach b h s k held) [] already
      (record { cells = []; ready = tt; heaped = record { held = held; is = ap (λ n. mach b h s n held) (omega arith); settled = l.agrees.settled; cells = let z = l.agrees.cells in omega (arith, z); listed = refl }; count_is = refl; few = λ n p q. omega (arith, q) })
  actuals_follow no_actuals p (f ∷ fs) at w b h s c e k held code l ft = tt
  actuals_follow (actual_and a rest) p [] at w b h s c e k held code l ft = tt
  actuals_follow (actual_and a rest) (actuals_and p ps) (f ∷ fs) at w b h s c e k held code l ft =
      let n = actual_size (known c) a f.is in
      let kn = k + (n + actuals_size (known c) rest fs) in
      let R = ActualsReady program.instructions w b s.active kn (suc (length fs)) in
      let has1 = has_back program.instructions k n (code_actual c at k a f.is) _ (actual_sized c at k a f.is).by code in
      actual_follows R a p f.is at w b h s c e k held (λ r. state.◌>>=◌ (go_actuals set later rest at fs e) (λ rs. state.give (r ∷ rs))) (has_front program.instructions k (code_actual c at k a f.is) _ code) l (fits_left (1 + actual_marks a) (actuals_marks rest) ft)
      (λ r x h1 s1 held1 rx g1 ea l1 few. let s2 = with_cells (s1.cells + 1) s1 in
      follows_then set program (ActualsReady program.instructions w (pushed x b) s2.active (k + n + actuals_size (known c) rest fs) (length fs)) R w.targets h1 s2 (mach (pushed x b) h1 s1 (k + n) held1) (go_actuals set later rest at fs e s2) (λ rs. state.give (r ∷ rs))
      (actuals_follow rest ps fs at w (pushed x b) h1 s2 c e (k + n) held1 has1 (at_pushed program.instructions w b h1 s1 c e x l1) (fits_pushed x (fits_right (1 + actual_marks a) (actuals_marks rest) ft)))
      (λ rs h3 s3 m3 z g3. let y = z.heaped in
      follows_on set program R w.targets h3 s3 m3 m3 (r ∷ rs) already
      (record {
        cells = x ∷ z.cells;
        ready = (ready_later program.instructions (later_over w b (pushed_all (x ∷ z.cells) b) s1.arrays s3.arrays (over_pushed_all (x ∷ z.cells) b) g3.arrays) r x rx, z.ready);
        heaped = record { held = y.held; is = y.is ∙ ap (λ i. mach (pushed_all (x ∷ z.cells) b) h3 s3 i y.held) (same k n (actuals_size (known c) rest fs)); settled = y.settled; cells = let i = y.cells in omega (arith, i); listed = y.listed ∙ ea };
        count_is = let i = z.count_is in omega (arith, i);
        few = λ n p q. let i = z.few (n + 1) (omega (arith, p)) (omega (arith, p, few)) in omega (arith, i);
      })))
    where
      same : (i n o : ℕ) → i + n + o ≡ i + (n + o)
      same i n o = omega arith
