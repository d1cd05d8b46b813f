-- Cells that are pushed one after the other and popped at once, and elements of arrays.
use Rattle.std.proofs.Common.{◌≡◌, ℕ, zero, suc, ◌+◌, ◌-◌, ℤ, List, [], ◌∷◌, ◌++◌, length, map, Option, Some, None, refl, sym, ap, ◌∙◌, subst, arith, ltb-true, append-nil}
use Rattle.std.specs.Prelude.{slice_get, nat_lt, Bool, true, false}
use Rattle.value_ops.specs.declared.places.Place.{Place}
use Rattle.value_ops.specs.declared.faults.Fault.TheVariants as fault
use Rattle.value_ops.specs.declared.values.Value.{Value}
use Rattle.value_ops.specs.declared.values.Value.TheVariants as value
use Rattle.program_meaning.specs.Phrases.{Element, Named, Phrases, no_phrases, phrase_and}
use Rattle.program_meaning.specs.State as state
use Rattle.program_meaning.specs.State.{State, Setting, Outcome, on, jump, stop, M, Use, for_value, for_place, ArrayInfo, after, all_within, offset, elements, filled_in}
use Rattle.program_meaning.specs.Environments.{Env, find, Thing, to_constant, to_variable, to_array, to_label, to_procedure, thunk, Bodied, Job, go, go_subscripts, element_at}
use Rattle.stack_code.specs.Instr as instr
use Rattle.stack_code.specs.Instr.{Instr, Mode, the_value}
use Rattle.stack_code.specs.Code.{Code, Coded}
use Rattle.stack_code.specs.Machine as machine
use Rattle.stack_code.specs.Machine.{Machine, Content, Where, in_cell}
use Rattle.stack_code.specs.Doing as doing
use Rattle.stack_code.specs.Doing.{Next, go_on, popped_onto, pop_all, integers_in, ◌>>=◌, ◌>>◌}
use Rattle.stack_code.specs.Table.{does, given_subscripts}
use Rattle.phrase_code.specs.Sizes.{size, each_size}
use Rattle.phrase_code.specs.Coding.{Stand, Context, known, code, code_each, phrase_count, element_code, links, stand_at}
use Rattle.code_simulation.specs.Relation.{HasAt, fixed, Base, Heap, mach, World, Target, Stands, HasArray, Settled, Listed, At, Wanted, content_of}
use Rattle.code_simulation.specs.Following.{already, Follows, Gives, Reached, PhraseFollows, CodeDoes}
use Rattle.code_simulation.proofs.Stacks.{has_front, has_back}
use Rattle.code_simulation.proofs.Sizes.{each_sized}
use Rattle.code_simulation.proofs.Rows.{one_row, follows_from, follows_then, follows_on, grew_here}
use Rattle.code_simulation.proofs.Keeping.{pushed, with_cells, grew_to, at_on, at_pushed}
use Rattle.code_simulation.proofs.Values.{follows_at, push_then, settled_below, fault_here}
use Rattle.code_simulation.proofs.Counting.{follows_since, follows_assoc}
use Rattle.code_simulation.proofs.Making.{look_alike}
use Rattle.code_simulation.proofs.Storing.{alike_then}
use Rattle.code_simulation.proofs.Operators.{behind, at_reached, ends_at, gives_as}
use Rattle.code_simulation.proofs.Choices.{integer_by}
use Rattle.code_simulation.proofs.Names.{Found, found, wanted_is, content_is}
use Rattle.code_simulation.proofs.Statements.{EachDoes, does_and}
use Rattle.phrase_code.specs.Marks.{marks, phrases_marks}
use Rattle.code_simulation.specs.Room.{Fits}
use Rattle.code_simulation.proofs.Room.{fits_left, fits_right, fits_pushed}

-- contents that are pushed, the first one lowest
abbrev pub pushes : List Content → Base → Base
pushes [] b = b
pushes (x ∷ xs) b = pushes xs (pushed x b)

-- on the stacks lie these, and what is held is of no matter
pub record Stacked (b : Base) (active : List state.Entry) (next : ℕ) (xs : List Content) (h : Heap) (s : State Bodied) (m : Machine) : Type 0 where
  pub held : Content
  pub is : m ≡ mach (pushes xs b) h s next held
  pub settled : Settled b h s.memory s.records s.fields
  pub cells : length b.slots + length xs ≡ s.cells
  pub listed : s.active ≡ active

popped_last : (n : ℕ) (cs : List Content) (l : List Content) (m : Machine) → popped_onto (suc n) cs (record m { cells = l }) ≡ doing.after (popped_onto n cs (record m { cells = l })) (λ xs. doing.pop >>= λ c. doing.give (c ∷ xs))
popped_last zero cs [] m = refl
popped_last zero cs (c ∷ l) m = refl
popped_last (suc n) cs [] m = refl
popped_last (suc n) cs (c ∷ l) m = popped_last n (c ∷ cs) l m

-- what was pushed is popped
pub popped_is : (xs cs : List Content) (b : Base) (h : Heap) (s : State Bodied) (k : ℕ) (held : Content) → popped_onto (length xs) cs (mach (pushes xs b) h s k held) ≡ doing.on (xs ++ cs) (mach b h s k held)
popped_is [] cs b h s k held = refl
popped_is (x ∷ xs) cs b h s k held = popped_last (length xs) cs (map (content_of s.memory) (pushes xs (pushed x b)).slots) (mach (pushes xs (pushed x b)) h s k held) ∙ ap (λ r. doing.after r (λ ys. doing.pop >>= λ c. doing.give (c ∷ ys))) (popped_is xs cs (pushed x b) h s k held)

pub integers_are : (is : List ℤ) (m : Machine) → integers_in (map (λ i. machine.a_value (value.Integer i)) is) m ≡ doing.on is m
integers_are [] m = refl
integers_are (i ∷ is) m = ap (λ r. doing.after r (λ js. doing.give (i ∷ js))) (integers_are is m)

abbrev pub integer_contents : List ℤ → List Content
integer_contents is = map (λ i. machine.a_value (value.Integer i)) is

length_contents : (is : List ℤ) → length (integer_contents is) ≡ length is
length_contents [] = refl
length_contents (i ∷ is) = ap suc (length_contents is)

-- so many integers lie on the stacks
abbrev pub IntegersOn : Base → List state.Entry → (next count : ℕ) → List ℤ → Heap → State Bodied → Machine → Type 0
IntegersOn b active next count is h s m = Stacked b active next (integer_contents is) h s m × (length is ≡ count)

module _ (set : Setting) (program : Code) (later : Job → M Bodied state.Given) where
  -- subscripts are pushed
  pub subscripts_follow : (given : Phrases) → EachDoes set program later given → (at : Place) (w : World) (b : Base) (h : Heap) (s : State Bodied) (c : Context) (e : Env) (k : ℕ) (held : Content) → HasAt program.instructions k (code_each c at k given) → At program.instructions w b h s c e → Fits program.marks w b (phrases_marks given) →
      Follows set program (IntegersOn b s.active (k + each_size (known c) given) (phrase_count given)) w.targets h s (mach b h s k held) (go_subscripts set later given at e s)
  subscripts_follow no_phrases p at w b h s c e k held code l ft = follows_on set program (IntegersOn b s.active (k + 0) 0) w.targets h s (mach b h s k held) (mach b h s k held) [] already (record { held = held; is = ap (λ n. mach b h s n held) (omega arith); settled = l.agrees.settled; cells = let q = l.agrees.cells in omega (arith, q); listed = refl }, refl)
  subscripts_follow (phrase_and a rest) (does_and p ps) at w b h s c e k held code l ft =
      let k1 = k + size (known c) a in
      let kn = k + (size (known c) a + (1 + each_size (known c) rest)) in
      let R = IntegersOn b s.active kn (1 + phrase_count rest) in
      let has1 = behind program.instructions c at the_value k a _ code in
      follows_then set program (λ i. Reached b s.active k1 (machine.a_value (value.Integer i))) R w.targets h s (mach b h s k held) (state.integer_of at (go set later a for_value at e) s) (λ i s1. after (state.take_cells 1 at s1) (λ z s2. after (go_subscripts set later rest at e s2) (λ is. state.give (i ∷ is))))
      (integer_by set program later a p at w b h s c e k held (has_front program.instructions k _ _ code) l (fits_left (marks a) (phrases_marks rest) ft))
      (λ i h1 s1 m1 r g. let x = machine.a_value (value.Integer i) in let l1 = at_reached set program w b h s c e k1 x h1 s1 m1 l g r in let s2 = with_cells (s1.cells + 1) s1 in
      follows_at set program R w.targets h1 s1 m1 (mach b h1 s1 k1 x) _ r.is
      (push_then set program R w.targets w b h1 s1 k1 x at (λ z s2. after (go_subscripts set later rest at e s2) (λ is. state.give (i ∷ is))) has1.0 l1.agrees
      (follows_then set program (IntegersOn (pushed x b) s1.active (k1 + 1 + each_size (known c) rest) (phrase_count rest)) R w.targets h1 s2 (mach (pushed x b) h1 s1 (k1 + 1) x) (go_subscripts set later rest at e s2) (λ is. state.give (i ∷ is))
      (subscripts_follow rest ps at w (pushed x b) h1 s2 c e (k1 + 1) x (subst (λ n. HasAt program.instructions (k1 + 1) (code_each c at n rest)) (again k (size (known c) a)) has1.1) (at_pushed program.instructions w b h1 s1 c e x l1) (fits_pushed x (fits_right (marks a) (phrases_marks rest) ft)))
      (λ is h3 s3 m3 q g3. follows_on set program R w.targets h3 s3 m3 m3 (i ∷ is) already
      (record { held = q.0.held; is = q.0.is ∙ ap (λ n. mach (pushes (integer_contents is) (pushed x b)) h3 s3 n q.0.held) (same (size (known c) a) (each_size (known c) rest) k); settled = settled_below x b h3 s3.memory s3.records s3.fields q.0.settled; cells = let z = q.0.cells in omega (arith, z); listed = q.0.listed ∙ r.listed }, let y = q.1 in omega (arith, y))))))
    where
      same : (n o i : ℕ) → i + n + 1 + o ≡ i + (n + (1 + o))
      same n o i = omega arith

      again : (i n : ℕ) → i + (n + 1) ≡ i + n + 1
      again i n = omega arith

  -- a variable, where the meaning gives cells back that the row has taken off
  variable_then : (u : Use) (w : World) (b : Base) (h : Heap) (s : State Bodied) (k n j : ℕ) (held : Content) (m : Machine) (c : Coded) (ts : List Target) (x : Where) → slice_get program.instructions m.pc ≡ Some c → does set program c.at c.does m ≡ doing.after (doing.variable u x (mach b h s k held)) (λ z. go_on) → Listed program.instructions b s.arrays b.entries [] s.active → Settled b h s.memory s.records s.fields → length b.slots ≡ s.cells - j → Stands b h n x →
      Follows set program (Gives b s.active (k + 1)) ts h s m (after (state.variable u c.at n s) (λ r. state.◌>>◌ (state.give_back j) (state.give r)))
  variable_then for_place w b h s k n j held m c ts x e d l st q sx =
      let s1 = with_cells (s.cells - j) s in
      follows_since set program (Gives b s.active (k + 1)) ts h s s1 m (on (state.a_spot (state.whole n)) s1) refl refl refl refl (λ d. d)
      (follows_on set program (Gives b s.active (k + 1)) ts h s1 m (mach b h s1 (k + 1) (machine.a_spot (machine.whole x))) (state.a_spot (state.whole n)) (one_row set program m (mach b h s1 (k + 1) (machine.a_spot (machine.whole x))) c e d) (record { held = machine.a_spot (machine.whole x); holds = sx; reached = record { is = refl; settled = st; cells = q; listed = refl } }))
  variable_then for_value w b h s k n j held m c ts x e d l st q sx =
      follows_assoc set program (Gives b s.active (k + 1)) ts h s m (state.look c.at n s) (λ v. state.give (state.a_value v)) (λ r. state.◌>>◌ (state.give_back j) (state.give r))
      (alike_then set program (Gives b s.active (k + 1)) ts b h s k held m c (λ v. doing.hold (machine.a_value v) >> go_on) (λ v s1. on (state.a_value v) (with_cells (s1.cells - j) s1)) (state.look c.at n s) (doing.value_at x (mach b h s k held)) e (d ∙ shape (doing.value_at x (mach b h s k held))) l st (look_alike set program b h s k n held c.at x sx)
      (λ v d1. let s1 = with_cells (s.cells - j) s in
      follows_since set program (Gives b s.active (k + 1)) ts h s s1 m (on (state.a_value v) s1) refl refl refl refl (λ d. d)
      (follows_on set program (Gives b s.active (k + 1)) ts h s1 m (mach b h s1 (k + 1) (machine.a_value v)) (state.a_value v) (one_row set program m (mach b h s1 (k + 1) (machine.a_value v)) c e d1) (record { held = machine.a_value v; holds = refl; reached = record { is = refl; settled = st; cells = q; listed = refl } }))))
    where
      shape : (r : Next Value) → doing.after (doing.after r (λ v. doing.hold (machine.a_value v))) (λ z. go_on) ≡ doing.after r (λ v. doing.hold (machine.a_value v) >> go_on)
      shape (doing.on v m) = refl
      shape (doing.ended m) = refl
      shape (doing.halted y m) = refl

  -- the element of an array
  element_of_then : (u : Use) (w : World) (b : Base) (h : Heap) (s : State Bodied) (k n j : ℕ) (held : Content) (m : Machine) (c : Coded) (ts : List Target) (a : ArrayInfo) (subs : List (Option ℤ)) → slice_get program.instructions m.pc ≡ Some c → does set program c.at c.does m ≡ doing.after (doing.element_of u a subs (mach b h s k held)) (λ z. go_on) → Listed program.instructions b s.arrays b.entries [] s.active → Settled b h s.memory s.records s.fields → length b.slots ≡ s.cells - j → HasArray b s.arrays n a →
      Follows set program (Gives b s.active (k + 1)) ts h s m (after (state.element_of u c.at n subs s) (λ r. state.◌>>◌ (state.give_back j) (state.give r)))
  element_of_then u w b h s k n j held m c ts a subs e d l st q ha =
      subst (λ o. Follows set program R ts h s m (after (after (state.array_at c.at o s) (λ info. state.subscripted c.at info subs (state.element_in u c.at info (offset info.bounds subs)))) G)) (sym ha.is)
      (within (all_within ha.info.bounds subs) (d ∙ ap (λ z. (doing.test (all_within z subs) (doing.element_in u a (offset a.bounds subs)) (doing.fault_now fault.SubscriptOutsideBounds) >> go_on) m0) ha.bounds ∙ ap (λ z. (doing.test (all_within ha.info.bounds subs) (doing.test (nat_lt (offset z subs) (elements z)) (doing.variable u (in_cell (a.first + offset z subs))) doing.stuck) (doing.fault_now fault.SubscriptOutsideBounds) >> go_on) m0) ha.bounds))
    where
      R : state.Given → Heap → State Bodied → Machine → Type 0
      R = Gives b s.active (k + 1)

      G : state.Given → M Bodied state.Given
      G r = state.◌>>◌ (state.give_back j) (state.give r)

      m0 : Machine
      m0 = mach b h s k held

      i : ℕ
      i = offset ha.info.bounds subs

      few : (t : Bool) → nat_lt i (elements ha.info.bounds) ≡ t → does set program c.at c.does m ≡ (doing.test t (doing.variable u (in_cell (a.first + i))) doing.stuck >> go_on) m0 → Follows set program R ts h s m (after (state.test t (state.variable u c.at (ha.info.first + i)) (state.halt state.wrong c.at) s) G)
      few true z d1 = variable_then u w b h s k (ha.info.first + i) j held m c ts (in_cell (a.first + i)) e d1 l st q (ha.elements i (ltb-true i (elements ha.info.bounds) z))
      few false z d1 = tt

      within : (t : Bool) → does set program c.at c.does m ≡ (doing.test t (doing.test (nat_lt i (elements ha.info.bounds)) (doing.variable u (in_cell (a.first + i))) doing.stuck) (doing.fault_now fault.SubscriptOutsideBounds) >> go_on) m0 → Follows set program R ts h s m (after (state.test t (state.element_in u c.at ha.info i) (state.fault_at fault.SubscriptOutsideBounds c.at) s) G)
      within true d1 = few (nat_lt i (elements ha.info.bounds)) refl d1
      within false d1 = fault_here set program R ts h s m c fault.SubscriptOutsideBounds b k held e d1 l st

  pub element_follows : (x : Place) (given : Phrases) → EachDoes set program later given → PhraseFollows set program later (Element (Named x) given)
  element_follows x given ps = record { by = by }
    where
      row : (u : Use) (mode : Mode) (at : Place) (w : World) (b : Base) (h : Heap) (s : State Bodied) (c : Context) (e : Env) (k : ℕ) (is : List ℤ) (m : Machine) (ot : Option Thing) (os : Option Stand) → Found program.instructions w b s.arrays c.level b.current ot os → HasAt program.instructions k (element_code c at mode (phrase_count given) os) → Wanted b mode u → IntegersOn b s.active k (phrase_count given) is h s m → At program.instructions w b h (with_cells (s.cells - length is) s) c e →
          Follows set program (Gives b s.active (k + 1)) w.targets h s m (element_at set later u at ot is s)
      row u mode at w b h s c e k is m None os f has wanted q l = tt
      row u mode at w b h s c e k is m (Some (to_constant v)) os f has wanted q l = tt
      row u mode at w b h s c e k is m (Some (to_variable v)) os f has wanted q l = tt
      row u mode at w b h s c e k is m (Some (to_label v)) os f has wanted q l = tt
      row u mode at w b h s c e k is m (Some (to_procedure v)) os f has wanted q l = tt
      row u mode at w b h s c e k is m (Some (thunk mk a env)) os f has wanted q l = tt
      row u mode at w b h s c e k is m (Some (to_array n g)) None f has wanted q l = absurd f
      row u mode at w b h s c e k is m (Some (to_array n g)) (Some name) f has wanted q l =
          let st = q.0 in
          let x = st.held in
          let m0 = mach (pushes (integer_contents is) b) h s k x in
          let len : phrase_count given ≡ length (integer_contents is) = sym q.1 ∙ sym (length_contents is) in
          let subs = filled_in g (map (λ i. Some i) is) in
          follows_at set program (Gives b s.active (k + 1)) w.targets h s m m0 _ st.is
          (element_of_then u w b h s k n (length is) x m0 (record { at = at; does = instr.Element mode (links c name) name.position (phrase_count given) }) w.targets f.1 subs has.0
          (ap (λ z. doing.after z (λ purpose. pop_all (phrase_count given) >>= λ cs. integers_in cs >>= λ js. ((doing.content_out (links c name) name.position >>= doing.array_in) >>= λ a. (doing.element_of purpose a.0 (filled_in a.1 (given_subscripts js)) >> go_on))))
          (wanted_is mode u (pushes (integer_contents is) b) h s k x (wanted_on (integer_contents is) b wanted))
          ∙ ap (λ z. doing.after (pop_all z m0) (λ cs. integers_in cs >>= λ js. ((doing.content_out (links c name) name.position >>= doing.array_in) >>= λ a. (doing.element_of u a.0 (filled_in a.1 (given_subscripts js)) >> go_on)))) len
          ∙ ap (λ z. doing.after z (λ cs. integers_in cs >>= λ js. ((doing.content_out (links c name) name.position >>= doing.array_in) >>= λ a. (doing.element_of u a.0 (filled_in a.1 (given_subscripts js)) >> go_on)))) (popped_is (integer_contents is) [] b h s k x ∙ ap (λ z. doing.on z (mach b h s k x)) (append-nil (integer_contents is)))
          ∙ ap (λ z. doing.after z (λ js. ((doing.content_out (links c name) name.position >>= doing.array_in) >>= λ a. (doing.element_of u a.0 (filled_in a.1 (given_subscripts js)) >> go_on)))) (integers_are is (mach b h s k x))
          ∙ ap (λ z. doing.after (doing.after z doing.array_in) (λ a. doing.element_of u a.0 (filled_in a.1 (given_subscripts is)) >> go_on)) (content_is b h s k x c name (fixed (machine.an_array f.1 g)) f.2))
          l.agrees.listed st.settled l.agrees.cells f.3)
        where
          wanted_on : (xs : List Content) (b' : Base) → Wanted b' mode u → Wanted (pushes xs b') mode u
          wanted_on [] b' z = z
          wanted_on (y ∷ xs) b' z = wanted_on xs (pushed y b') (top b' z)
            where
              top : (b' : Base) → Wanted b' mode u → Wanted (pushed y b') mode u
              top b' z = wants mode z
                where
                  wants : (md : Mode) → Wanted b' md u → Wanted (pushed y b') md u
                  wants the_value z = z
                  wants Rattle.stack_code.specs.Instr.the_place z = z
                  wants Rattle.stack_code.specs.Instr.as_asked z = z

      by : (u : Use) (at : Place) → CodeDoes set program u at (Element (Named x) given) (go set later (Element (Named x) given) u at)
      by u at w b h s c e mode k held code wanted l ft =
          let k1 = k + each_size (known c) given in
          ends_at set program b s.active (k1 + 1) (k + (each_size (known c) given + 1)) w.targets h s (mach b h s k held) (go set later (Element (Named x) given) u at e s) (omega arith)
          (follows_then set program (IntegersOn b s.active k1 (phrase_count given)) (Gives b s.active (k1 + 1)) w.targets h s (mach b h s k held) (go_subscripts set later given at e s) (element_at set later u at (find e x))
          (subscripts_follow given ps at w b h s c e k held (has_front program.instructions k _ _ code) l ft)
          (λ is h1 s1 m1 q g.
          let s2 = with_cells (s1.cells - length is) s1 in
          let l2 = at_on program.instructions w b h h1 s s2 c e (Rattle.code_simulation.proofs.Rows.grew_on h s h1 s1 h1 s2 g (grew_to h1 s1 s2 refl refl refl refl (λ d. d))) q.0.settled (let y = q.0.cells in let z = length_contents is in omega (arith, y, z)) q.0.listed l in
          gives_as set program b s1.active s.active (k1 + 1) w.targets h1 s1 m1 (element_at set later u at (find e x) is s1) q.0.listed
          (row u mode at w b h1 s1 c e k1 is m1 (find e x) (stand_at c.names x) (found program.instructions w b s1.arrays c.level b.current e c.names x l2.shows)
          (has_back program.instructions k (each_size (known c) given) _ _ (each_sized c at k given).by code) wanted
          (record { held = q.0.held; is = q.0.is; settled = q.0.settled; cells = q.0.cells; listed = refl }, q.1) l2)))
