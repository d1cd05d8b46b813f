-- Formals are assigned back, in line, while the frame of the call has answered.
use Rattle.std.proofs.Common.{◌≡◌, ℕ, ◌+◌, List, [], ◌∷◌, map, Option, Some, None, refl, sym, ap, ◌∙◌, subst, arith}
use Rattle.std.specs.Prelude.{slice_get}
use Rattle.value_ops.specs.declared.places.Place.{Place}
use Rattle.algolw_typing.specs.Types as types
use Rattle.algolw_typing.specs.Types.{ValueType, Statement, Simple}
use Rattle.algolw_typing.specs.Meanings.{FormalType, by_name, by_value, by_result, by_value_result, for_array, for_procedure}
use Rattle.program_meaning.specs.Phrases.{Phrase, Formal, Given, Alone, Subarray, Actuals, no_actuals, actual_and}
use Rattle.program_meaning.specs.State as state
use Rattle.program_meaning.specs.State.{State, Setting, Outcome, on, M, for_place, after, ArrayInfo, look}
use Rattle.program_meaning.specs.Environments.{Env, Bodied, Job, Thing, to_constant, to_variable, to_array, to_label, to_procedure, thunk, Meant, Ready, with_value, without_value, put_for, give_back_value, assigned_back, go, go_back}
use Rattle.stack_code.specs.Instr as instr
use Rattle.stack_code.specs.Instr.{as_asked, the_place}
use Rattle.stack_code.specs.Code.{Code, Coded}
use Rattle.stack_code.specs.Machine as machine
use Rattle.stack_code.specs.Machine.{Machine, Content, Frame, in_cell, on_top_of}
use Rattle.stack_code.specs.Doing as doing
use Rattle.stack_code.specs.Doing.{go_on, ◌>>=◌, ◌>>◌}
use Rattle.stack_code.specs.Table.{does}
use Rattle.phrase_code.specs.Sizes.{size, actual_size, back_of_size, backs_size}
use Rattle.phrase_code.specs.Coding.{Context, known, code, code_actual, code_actuals, code_back, code_backs, back_code, given_code, inner_text, with_entries, one, ◌▸◌}
use Rattle.code_simulation.specs.Relation.{HasAt, variable, Base, Heap, mach, World, At}
use Rattle.code_simulation.specs.Following.{already, Follows, PhraseFollows}
use Rattle.code_simulation.specs.Ready.{ReadyAre, FormalsAt, bound_of}
use Rattle.code_simulation.proofs.Stacks.{has_front, has_back}
use Rattle.code_simulation.proofs.Sizes.{code_sized, actual_sized, back_of_sized}
use Rattle.code_simulation.proofs.Rows.{one_row, follows_then, follows_on}
use Rattle.code_simulation.proofs.Values.{follows_at, spot_follows, Placed}
use Rattle.code_simulation.proofs.Operators.{at_reached}
use Rattle.code_simulation.proofs.Making.{look_alike}
use Rattle.code_simulation.proofs.Storing.{with_memory, alike_then, assign_then}
use Rattle.code_simulation.proofs.Statements.{spot_by}
use Rattle.code_simulation.proofs.Cells.{follows_plain}
use Rattle.code_simulation.proofs.Asides.{aside_for_place}
use Rattle.code_simulation.proofs.ActualLists.{EachActual, actuals_and}
use Rattle.code_simulation.proofs.CallEnds.{BackDone}
use Rattle.phrase_code.specs.Marks.{marks, actual_marks, actuals_marks}
use Rattle.code_simulation.specs.Room.{Fits}
use Rattle.code_simulation.proofs.Room.{fits_left, fits_right, fits_less}

-- what is bound to a formal has its cell there, where it is a variable
abbrev pub PutAt : Base → ℕ → Thing → Type 0
PutAt b cell (to_variable n) = on_top_of b.slots cell ≡ Some (variable n)
PutAt b cell t = Unit {0}

abbrev pub PutsAt : Base → ℕ → List Meant → Type 0
PutsAt b cell [] = Unit {0}
PutsAt b cell (m ∷ ms) = PutAt b cell m.by × PutsAt b (cell + 1) ms

pub puts_at : (program : List Coded) (w : World) (b0 b : Base) (arrays : List (Option ArrayInfo)) (start position cell n : ℕ) (fs : List Formal) (rs : List Ready) (xs : List Content) → ReadyAre program w b0 arrays fs rs xs → FormalsAt b start position cell n fs rs xs → PutsAt b cell (bound_of n fs rs).puts
puts_at program w b0 b arrays start position cell n [] [] [] a f = tt
puts_at program w b0 b arrays start position cell n (f ∷ fs) (with_value v ∷ rs) (x ∷ xs) a q = (q.1, puts_at program w b0 b arrays start (position + 1) (cell + 1) (n + 1) fs rs xs a.1 q.2)
puts_at program w b0 b arrays start position cell n (f ∷ fs) (without_value ∷ rs) (x ∷ xs) a q = (q.1, puts_at program w b0 b arrays start (position + 1) (cell + 1) (n + 1) fs rs xs a.1 q.2)
puts_at program w b0 b arrays start position cell n (f ∷ fs) (put_for (to_variable k) ∷ rs) (x ∷ xs) a q = absurd a.0
puts_at program w b0 b arrays start position cell n (f ∷ fs) (put_for (to_constant v) ∷ rs) (x ∷ xs) a q = absurd a.0
puts_at program w b0 b arrays start position cell n (f ∷ fs) (put_for (to_label k) ∷ rs) (x ∷ xs) a q = absurd a.0
puts_at program w b0 b arrays start position cell n (f ∷ fs) (put_for (to_array k given) ∷ rs) (x ∷ xs) a q = (tt, puts_at program w b0 b arrays start (position + 1) (cell + 1) n fs rs xs a.1 q.2)
puts_at program w b0 b arrays start position cell n (f ∷ fs) (put_for (to_procedure k) ∷ rs) (x ∷ xs) a q = (tt, puts_at program w b0 b arrays start (position + 1) (cell + 1) n fs rs xs a.1 q.2)
puts_at program w b0 b arrays start position cell n (f ∷ fs) (put_for (thunk m p e) ∷ rs) (x ∷ xs) a q = (tt, puts_at program w b0 b arrays start (position + 1) (cell + 1) n fs rs xs a.1 q.2)
puts_at program w b0 b arrays start position cell n fs rs xs a q = absurd a

module _ (set : Setting) (program : Code) (later : Job → M Bodied state.Given) where
  -- a place is there: the value of a formal is assigned to it
  pub place_assigned : (u : ValueType) (t : Thing) (at : Place) (w : World) (b : Base) (h : Heap) (s : State Bodied) (c : Context) (e : Env) (k k1 i cell : ℕ) (held : Content) (P : M Bodied state.Given) (f : Frame) (frames : List Frame) → b.frames ≡ f ∷ frames → f.base + i ≡ cell →
      slice_get program.instructions k1 ≡ Some (record { at = at; does = instr.AssignBack i u }) → At program.instructions w b h s c e → PutAt b cell t → Follows set program (Placed set program b s.active k1) w.targets h s (mach b h s k held) (state.spot_of at P s) →
      Follows set program (BackDone b s.active (k1 + 1)) w.targets h s (mach b h s k held) (give_back_value at P (Simple u) t s)
  place_assigned u (to_variable n) at w b h s c e k k1 i cell held P f frames ef ec has l sd pl =
      let R = BackDone b s.active (k1 + 1) in
      follows_then set program (Placed set program b s.active k1) R w.targets h s (mach b h s k held) (state.spot_of at P s) (λ spot. state.◌>>=◌ (look at n) (λ v. state.assign at u spot v)) pl
      (λ spot h1 s1 m1 y g1. let z = y.reached in let x = y.spot in let hx = machine.a_spot x in let m = mach b h1 s1 k1 hx in
      let l1 = at_reached set program w b h s c e k1 hx h1 s1 m1 l g1 z in
      let co : Coded = record { at = at; does = instr.AssignBack i u } in
      let d : does set program at (instr.AssignBack i u) m ≡ doing.after (doing.value_at (in_cell cell) m) (λ v. doing.assign u x v >> go_on) =
      ap (λ j. doing.after (doing.newest j m) (λ g. doing.cell_at (g.base + i) >>= doing.value_of_cell >>= (λ v. doing.assign u x v >> go_on))) ef
      ∙ ap (λ j. doing.after (doing.value_at (in_cell j) m) (λ v. doing.assign u x v >> go_on)) ec in
      follows_at set program R w.targets h1 s1 m1 m (after (look at n s1) (λ v. state.assign at u spot v)) z.is
      (alike_then set program R w.targets b h1 s1 k1 hx m co (λ v. doing.assign u x v >> go_on) (λ v. state.assign at u spot v) (look at n s1) (doing.value_at (in_cell cell) m) has d l1.agrees.listed l1.agrees.settled (look_alike set program b h1 s1 k1 n hx at (in_cell cell) sd)
      (λ v dv. follows_plain set program R w.targets h1 s1 m (state.assign at u spot v s1)
      (assign_then set program R w.targets b h1 s1 k1 hx m co go_on (λ a. state.give a) u spot x v has dv l1.agrees.listed l1.agrees.settled y.stands
      (λ memory len st d2. follows_on set program R w.targets h1 (with_memory memory s1) m (mach b h1 (with_memory memory s1) (k1 + 1) hx) tt (one_row set program m (mach b h1 (with_memory memory s1) (k1 + 1) hx) co has d2)
      (record { held = hx; reached = record { is = refl; settled = st; cells = z.cells; listed = z.listed } }))))))
  place_assigned u (to_constant v) at w b h s c e k k1 i cell held P f frames ef ec has l sd pl = tt
  place_assigned u (to_array v j) at w b h s c e k k1 i cell held P f frames ef ec has l sd pl = tt
  place_assigned u (to_label v) at w b h s c e k k1 i cell held P f frames ef ec has l sd pl = tt
  place_assigned u (to_procedure v) at w b h s c e k k1 i cell held P f frames ef ec has l sd pl = tt
  place_assigned u (thunk v j o) at w b h s c e k k1 i cell held P f frames ef ec has l sd pl = tt

  -- nothing is done
  pub nothing_back : (w : World) (b : Base) (h : Heap) (s : State Bodied) (c : Context) (e : Env) (k : ℕ) (held : Content) → At program.instructions w b h s c e → Follows set program (BackDone b s.active (k + 0)) w.targets h s (mach b h s k held) (on tt s)
  nothing_back w b h s c e k held l = follows_on set program (BackDone b s.active (k + 0)) w.targets h s (mach b h s k held) (mach b h s k held) tt already (record { held = held; reached = record { is = ap (λ n. mach b h s n held) (omega arith); settled = l.agrees.settled; cells = l.agrees.cells; listed = refl } })

  -- one phrase
  phrase_back : (v : Rattle.std.specs.Prelude.Bool) (g : types.Gives) (first : Place) (a : Phrase) → PhraseFollows set program later a → (ft : FormalType) (t : Thing) (at : Place) (w : World) (b : Base) (h : Heap) (s : State Bodied) (c0 c : Context) (e : Env) (k i kr cell : ℕ) (held : Content) (f : Frame) (frames : List Frame) → b.frames ≡ f ∷ frames → f.base + i ≡ cell → c.names ≡ c0.names → c.level ≡ c0.level →
      HasAt program.instructions k (code_back c at k i kr (Given v g first a) ft) → HasAt program.instructions kr (code_actual c0 at kr (Given v g first a) ft) → At program.instructions w b h s c e → PutAt b cell t → Fits program.marks w b (1 + marks a) →
      Follows set program (BackDone b s.active (k + back_of_size (known c) (Given v g first a) ft)) w.targets h s (mach b h s k held) (assigned_back ft at (go set later a for_place at e) g t s)
  phrase_back v (Simple u) first a p (by_result r) t at w b h s c0 c e k i kr cell held f frames ef ec en el code text l sd fi =
      let n = size (known c) a in
      let co = Rattle.phrase_code.specs.Coding.code c at the_place k a in
      let has1 = has_back program.instructions k n co (one at (instr.AssignBack i u)) (code_sized c at the_place k a).by code in
      subst (λ j. Follows set program (BackDone b s.active j) w.targets h s (mach b h s k held) (give_back_value at (go set later a for_place at e) (Simple u) t s)) (sums k n)
      (place_assigned u t at w b h s c e k (k + n) i cell held (go set later a for_place at e) f frames ef ec has1.0 l sd (spot_by set program later a p at w b h s c e k held (has_front program.instructions k co (one at (instr.AssignBack i u)) code) l (fits_less (omega arith) fi)))
    where
      sums : (i n : ℕ) → i + n + 1 ≡ i + (n + 1)
      sums i n = omega arith
  phrase_back v (Simple u) first a p (by_value_result r) t at w b h s c0 c e k i kr cell held f frames ef ec en el code text l sd fi =
      let n = size (known c0) a in
      let names = ap (map Rattle.phrase_code.specs.Coding.known_of) en in
      let body = Rattle.phrase_code.specs.Coding.code (inner_text c0) at as_asked (kr + 1) a in
      let ic : inner_text c0 ≡ inner_text c = ap (λ z. record { names = z; level = c0.level + 1; count = 1 }) (sym en) ∙ ap (λ z. record { names = c.names; level = z + 1; count = 1 }) (sym el) in
      let has1 = text.1 in
      let has2 = has_front program.instructions (kr + 1) body (one at instr.Return ▸ one at (instr.Aside kr state.for_value (Some r)) ▸ one at instr.End ▸ one at instr.Push) (rejoined (kr + 1) body (one at instr.Return) _ has1) in
      let has3 = (has_back program.instructions (kr + 1) n body (one at instr.Return ▸ one at (instr.Aside kr state.for_value (Some r)) ▸ one at instr.End ▸ one at instr.Push) (code_sized (inner_text c0) at as_asked (kr + 1) a).by (rejoined (kr + 1) body (one at instr.Return) _ has1)).0 in
      subst (λ j. Follows set program (BackDone b s.active j) w.targets h s (mach b h s k held) (give_back_value at (go set later a for_place at e) (Simple u) t s)) (three k)
      (place_assigned u t at w b h s c e k (k + 1 + 1) i cell held (go set later a for_place at e) f frames ef ec code.1.1.0 l sd
      (spot_follows set program b s.active (k + 1 + 1) w.targets h s (mach b h s k held) at (go set later a for_place at e s)
      (aside_for_place set program later None a p at w b h s c e k kr held (instr.Aside kr for_place None) refl code.0 code.1.0 (subst (λ z. HasAt program.instructions (kr + 1) (Rattle.phrase_code.specs.Coding.code z at as_asked (kr + 1) a)) ic has2)
      (subst (λ z. slice_get program.instructions (kr + 1 + size z a) ≡ Some (record { at = at; does = instr.Return })) (sym names) has3) l fi)))
    where
      three : (i : ℕ) → i + 1 + 1 + 1 ≡ i + 3
      three i = omega arith

      rejoined : (j : ℕ) (x y z : List Coded) → HasAt program.instructions j ((x ▸ y) ▸ z) → HasAt program.instructions j (x ▸ (y ▸ z))
      rejoined j x y z = Rattle.code_simulation.proofs.Scopes.has_joined program.instructions j x y z
  phrase_back v Statement first a p (by_result r) t at w b h s c0 c e k i kr cell held f frames ef ec en el code text l sd fi = tt
  phrase_back v Statement first a p (by_value_result r) t at w b h s c0 c e k i kr cell held f frames ef ec en el code text l sd fi = tt
  phrase_back v g first a p (by_value r) t at w b h s c0 c e k i kr cell held f frames ef ec en el code text l sd fi = nothing_back w b h s c e k held l
  phrase_back v g first a p (by_name r) t at w b h s c0 c e k i kr cell held f frames ef ec en el code text l sd fi = nothing_back w b h s c e k held l
  phrase_back v g first a p (for_array r d) t at w b h s c0 c e k i kr cell held f frames ef ec en el code text l sd fi = nothing_back w b h s c e k held l
  phrase_back v g first a p (for_procedure r) t at w b h s c0 c e k i kr cell held f frames ef ec en el code text l sd fi = nothing_back w b h s c e k held l

  -- all formals
  pub back_follows : (given : Actuals) → EachActual set program later given → (fs : List Formal) (bs : List Meant) (at : Place) (w : World) (b : Base) (h : Heap) (s : State Bodied) (c0 c : Context) (e : Env) (k i kr cell : ℕ) (held : Content) (f : Frame) (frames : List Frame) → b.frames ≡ f ∷ frames → f.base + i ≡ cell → c.names ≡ c0.names → c.level ≡ c0.level →
      HasAt program.instructions k (code_backs c at k i kr given fs) → HasAt program.instructions kr (code_actuals c0 at kr given fs) → At program.instructions w b h s c e → PutsAt b cell bs → Fits program.marks w b (actuals_marks given) →
      Follows set program (BackDone b s.active (k + backs_size (known c) given fs)) w.targets h s (mach b h s k held) (go_back set later given at fs bs e s)
  back_follows no_actuals p [] [] at w b h s c0 c e k i kr cell held f frames ef ec en el code text l sd fi = nothing_back w b h s c e k held l
  back_follows no_actuals p (x ∷ fs) bs at w b h s c0 c e k i kr cell held f frames ef ec en el code text l sd fi = tt
  back_follows no_actuals p [] (y ∷ bs) at w b h s c0 c e k i kr cell held f frames ef ec en el code text l sd fi = tt
  back_follows (actual_and (Given v g first a) rest) p [] bs at w b h s c0 c e k i kr cell held f frames ef ec en el code text l sd fi = tt
  back_follows (actual_and (Alone q a) rest) p [] bs at w b h s c0 c e k i kr cell held f frames ef ec en el code text l sd fi = tt
  back_follows (actual_and (Subarray a q) rest) p [] bs at w b h s c0 c e k i kr cell held f frames ef ec en el code text l sd fi = tt
  back_follows (actual_and (Given v g first a) rest) p (x ∷ fs) [] at w b h s c0 c e k i kr cell held f frames ef ec en el code text l sd fi = tt
  back_follows (actual_and (Alone q a) rest) p (x ∷ fs) [] at w b h s c0 c e k i kr cell held f frames ef ec en el code text l sd fi = tt
  back_follows (actual_and (Subarray a q) rest) p (x ∷ fs) [] at w b h s c0 c e k i kr cell held f frames ef ec en el code text l sd fi = tt
  back_follows (actual_and (Given v g first a) rest) (actuals_and p ps) (x ∷ fs) (y ∷ bs) at w b h s c0 c e k i kr cell held f frames ef ec en el code text l sd fi =
      let o = Given v g first a in
      let n = back_of_size (known c) o x.is in
      let na = actual_size (known c0) o x.is in
      let cb = code_back c at k i kr o x.is in
      let names = ap (map Rattle.phrase_code.specs.Coding.known_of) en in
      let R = BackDone b s.active (k + (n + backs_size (known c) rest fs)) in
      let has1 = has_back program.instructions k n cb _ (back_of_sized c at k i kr o x.is).by code in
      let text1 = has_back program.instructions kr na (code_actual c0 at kr o x.is) _ (actual_sized c0 at kr o x.is).by text in
      follows_then set program (BackDone b s.active (k + n)) R w.targets h s (mach b h s k held) (assigned_back x.is at (go set later a for_place at e) g y.by s) (λ z. go_back set later rest at fs bs e)
      (phrase_back v g first a p.1 x.is y.by at w b h s c0 c e k i kr cell held f frames ef ec en el (has_front program.instructions k cb _ code) (has_front program.instructions kr (code_actual c0 at kr o x.is) _ text) l sd.0 (fits_left (1 + marks a) (actuals_marks rest) fi))
      (λ z h1 s1 m1 r g1. let q = r.reached in
      let l1 = at_reached set program w b h s c e (k + n) r.held h1 s1 m1 l g1 q in
      follows_at set program R w.targets h1 s1 m1 (mach b h1 s1 (k + n) r.held) (go_back set later rest at fs bs e s1) q.is
      (subst (λ act. Follows set program (BackDone b act (k + (n + backs_size (known c) rest fs))) w.targets h1 s1 (mach b h1 s1 (k + n) r.held) (go_back set later rest at fs bs e s1)) q.listed
      (subst (λ j. Follows set program (BackDone b s1.active j) w.targets h1 s1 (mach b h1 s1 (k + n) r.held) (go_back set later rest at fs bs e s1)) (sums k n (backs_size (known c) rest fs))
      (back_follows rest ps fs bs at w b h1 s1 c0 c e (k + n) (i + 1) (kr + na) (cell + 1) r.held f frames ef (omega (arith, ec)) en el
      (subst (λ z. HasAt program.instructions (k + n) (code_backs c at (k + n) (i + 1) (kr + actual_size z o x.is) rest fs)) names has1) text1 l1 sd.1 (fits_right (1 + marks a) (actuals_marks rest) fi)))))
    where
      sums : (i n o : ℕ) → i + n + o ≡ i + (n + o)
      sums i n o = omega arith
  back_follows (actual_and (Alone q a) rest) (actuals_and p ps) (x ∷ fs) (y ∷ bs) at w b h s c0 c e k i kr cell held f frames ef ec en el code text l sd fi =
      let o = Alone q a in
      let na = actual_size (known c0) o x.is in
      let names = ap (map Rattle.phrase_code.specs.Coding.known_of) en in
      let more = backs_size (known c) rest fs in
      let G = go_back set later rest at fs bs e s in
      let has1 = has_back program.instructions k 0 (code_back c at k i kr o x.is) _ (back_of_sized c at k i kr o x.is).by code in
      let text1 = has_back program.instructions kr na (code_actual c0 at kr o x.is) _ (actual_sized c0 at kr o x.is).by text in
      subst (λ n. Follows set program (BackDone b s.active (k + (0 + more))) w.targets h s (mach b h s n held) G) (none k)
      (subst (λ j. Follows set program (BackDone b s.active j) w.targets h s (mach b h s (k + 0) held) G) (sums k 0 more)
      (back_follows rest ps fs bs at w b h s c0 c e (k + 0) (i + 1) (kr + na) (cell + 1) held f frames ef (omega (arith, ec)) en el
      (subst (λ z. HasAt program.instructions (k + 0) (code_backs c at (k + 0) (i + 1) (kr + actual_size z o x.is) rest fs)) names has1) text1 l sd.1 (fits_right (1 + actual_marks o) (actuals_marks rest) fi)))
    where
      sums : (i n o : ℕ) → i + n + o ≡ i + (n + o)
      sums i n o = omega arith

      none : (i : ℕ) → i + 0 ≡ i
      none i = omega arith
  back_follows (actual_and (Subarray a q) rest) (actuals_and p ps) (x ∷ fs) (y ∷ bs) at w b h s c0 c e k i kr cell held f frames ef ec en el code text l sd fi =
      let o = Subarray a q in
      let na = actual_size (known c0) o x.is in
      let names = ap (map Rattle.phrase_code.specs.Coding.known_of) en in
      let more = backs_size (known c) rest fs in
      let G = go_back set later rest at fs bs e s in
      let has1 = has_back program.instructions k 0 (code_back c at k i kr o x.is) _ (back_of_sized c at k i kr o x.is).by code in
      let text1 = has_back program.instructions kr na (code_actual c0 at kr o x.is) _ (actual_sized c0 at kr o x.is).by text in
      subst (λ n. Follows set program (BackDone b s.active (k + (0 + more))) w.targets h s (mach b h s n held) G) (none k)
      (subst (λ j. Follows set program (BackDone b s.active j) w.targets h s (mach b h s (k + 0) held) G) (sums k 0 more)
      (back_follows rest ps fs bs at w b h s c0 c e (k + 0) (i + 1) (kr + na) (cell + 1) held f frames ef (omega (arith, ec)) en el
      (subst (λ z. HasAt program.instructions (k + 0) (code_backs c at (k + 0) (i + 1) (kr + actual_size z o x.is) rest fs)) names has1) text1 l sd.1 (fits_right (1 + actual_marks o) (actuals_marks rest) fi)))
    where
      sums : (i n o : ℕ) → i + n + o ≡ i + (n + o)
      sums i n o = omega arith

      none : (i : ℕ) → i + 0 ≡ i
      none i = omega arith
