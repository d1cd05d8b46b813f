-- Subarrays as actuals.
use Rattle.std.proofs.Common.{◌≡◌, ℕ, ◌+◌, ◌-◌, ℤ, List, [], ◌∷◌, length, map, Option, Some, None, refl, sym, ap, ◌∙◌, subst, arith}
use Rattle.std.specs.Prelude.{slice_get, Bool, true, false}
use Rattle.value_ops.specs.declared.places.Place.{Place}
use Rattle.value_ops.specs.declared.faults.Fault.TheVariants as fault
use Rattle.program_meaning.specs.Phrases.{Phrase, Named, Subscripts, no_subscripts, star_and, subscript_and}
use Rattle.program_meaning.specs.State as state
use Rattle.program_meaning.specs.State.{State, Setting, on, M, for_value, after, ArrayInfo, give_back, filled_in, all_within}
use Rattle.program_meaning.specs.Copying as copying
use Rattle.program_meaning.specs.Environments.{Env, Bodied, Job, go, go_stars, find, head, Thing, to_array}
use Rattle.stack_code.specs.Instr as instr
use Rattle.stack_code.specs.Instr.{the_value}
use Rattle.stack_code.specs.Code.{Code}
use Rattle.stack_code.specs.Machine as machine
use Rattle.stack_code.specs.Machine.{Machine, Content}
use Rattle.stack_code.specs.Doing as doing
use Rattle.stack_code.specs.Doing.{go_on, ◌>>=◌, ◌>>◌}
use Rattle.stack_code.specs.Table.{does}
use Rattle.phrase_code.specs.Sizes.{size, subscripts_size}
use Rattle.phrase_code.specs.Coding.{Context, Stand, known, links, code, code_subscripts, stand_of, stand_at, ◌▸◌}
use Rattle.code_simulation.specs.Relation.{HasAt, fixed, Base, Heap, mach, World, HasEntry, HasArray, Settled, Listed, At}
use Rattle.code_simulation.specs.Following.{already, Follows, Reached, PhraseFollows}
use Rattle.code_simulation.proofs.Stacks.{has_front, has_back, length_map}
use Rattle.code_simulation.proofs.Rows.{one_row, follows_then, follows_on}
use Rattle.code_simulation.proofs.Keeping.{pushed, with_cells, at_pushed}
use Rattle.code_simulation.proofs.Values.{follows_at, fault_here, IsInteger, push_then}
use Rattle.code_simulation.proofs.Operators.{behind, at_reached}
use Rattle.program_meaning.specs.Environments.{subarray_at, Ready, put_for}
use Rattle.phrase_code.specs.Coding.{stars_of, subarray_code}
use Rattle.code_simulation.proofs.Sizes.{subscripts_sized}
use Rattle.code_simulation.proofs.Counting.{follows_since}
use Rattle.code_simulation.proofs.Choices.{integer_by}
use Rattle.code_simulation.proofs.Names.{content_is, Found, found}
use Rattle.code_simulation.proofs.Cells.{pushed_all, integer_cell, pop_all_is, integers_are, Heaped, at_heaped}
use Rattle.phrase_code.specs.Marks.{marks, subscripts_marks}
use Rattle.code_simulation.specs.Room.{Fits}
use Rattle.code_simulation.proofs.Room.{fits_left, fits_right, fits_pushed}

-- the subscripts that are given
abbrev pub given_of : List (Option ℤ) → List ℤ
given_of [] = []
given_of (None ∷ is) = given_of is
given_of (Some i ∷ is) = i ∷ given_of is

-- an array is held, of which some subscripts are given
pub record ArrayReady (b : Base) (active : List state.Entry) (next : ℕ) (r : Ready) (h : Heap) (s : State Bodied) (m : Machine) : Type 0 where
  pub number : ℕ
  pub array : ArrayInfo
  pub given : List (Option ℤ)
  pub is : r ≡ put_for (to_array number given)
  pub has : HasArray b s.arrays number array
  pub reached : Reached b active next (machine.an_array array given) h s m

-- the integers that were pushed for subscripts, of which some are stars
pub record Starred (b : Base) (active : List state.Entry) (next : ℕ) (stars : List Bool) (is : List (Option ℤ)) (h : Heap) (s : State Bodied) (m : Machine) : Type 0 where
  pub heaped : Heaped b (map integer_cell (given_of is)) active next h s m
  pub are : Rattle.stack_code.specs.Table.starred stars (given_of is) ≡ is
  pub count : Rattle.stack_code.specs.Table.cells_of stars ≡ length (given_of is)
  pub back : copying.cells_of is ≡ length (given_of is)

module _ (set : Setting) (program : Code) (later : Job → M Bodied state.Given) where
  -- the subscripts of a subarray do what they do
  pub data EachStar : Subscripts → Type 0 where
    stars_none : EachStar no_subscripts
    stars_star : {rest : Subscripts} → EachStar rest → EachStar (star_and rest)
    stars_and : {a : Phrase} {rest : Subscripts} → PhraseFollows set program later a → EachStar rest → EachStar (subscript_and a rest)

  pub stars_follow : (given : Subscripts) → EachStar given → (at : Place) (w : World) (b : Base) (h : Heap) (s : State Bodied) (c : Context) (e : Env) (k : ℕ) (held : Content) → HasAt program.instructions k (code_subscripts c at k given) → At program.instructions w b h s c e → Fits program.marks w b (subscripts_marks given) →
      Follows set program (Starred b s.active (k + subscripts_size (known c) given) (stars_of given)) w.targets h s (mach b h s k held) (go_stars set later given at e s)
  stars_follow no_subscripts p at w b h s c e k held code l ft = follows_on set program (Starred b s.active (k + 0) []) w.targets h s (mach b h s k held) (mach b h s k held) [] already
      (record { heaped = record { held = held; is = ap (λ n. mach b h s n held) (omega arith); settled = l.agrees.settled; cells = let q = l.agrees.cells in omega (arith, q); listed = refl }; are = refl; count = refl; back = refl })
  stars_follow (star_and rest) (stars_star ps) at w b h s c e k held code l ft =
      follows_then set program (Starred b s.active (k + subscripts_size (known c) rest) (stars_of rest)) (Starred b s.active (k + subscripts_size (known c) rest) (true ∷ stars_of rest)) w.targets h s (mach b h s k held) (go_stars set later rest at e s) (λ is. state.give (None ∷ is))
      (stars_follow rest ps at w b h s c e k held code l ft)
      (λ is h1 s1 m1 q g. follows_on set program (Starred b s.active (k + subscripts_size (known c) rest) (true ∷ stars_of rest)) w.targets h1 s1 m1 m1 (None ∷ is) already (record { heaped = q.heaped; are = ap (λ l. None ∷ l) q.are; count = q.count; back = q.back }))
  stars_follow (subscript_and a rest) (stars_and p ps) at w b h s c e k held code l ft =
      let k1 = k + size (known c) a in
      let kn = k + (size (known c) a + (1 + subscripts_size (known c) rest)) in
      let R = Starred b s.active kn (false ∷ stars_of rest) in
      let has1 = behind program.instructions c at the_value k a _ code in
      follows_then set program (IsInteger set program b s.active k1) R w.targets h s (mach b h s k held) (state.integer_of at (go set later a for_value at e) s) (λ i. state.◌>>◌ (state.take_cells 1 at) (state.◌>>=◌ (go_stars set later rest at e) (λ is. state.give (Some i ∷ is))))
      (integer_by set program later a p at w b h s c e k held (has_front program.instructions k _ _ code) l (fits_left (marks a) (subscripts_marks rest) ft))
      (λ i h1 s1 m1 r g. let x = integer_cell i in let a1 = at_reached set program w b h s c e k1 x h1 s1 m1 l g r in
      follows_at set program R w.targets h1 s1 m1 (mach b h1 s1 k1 x) _ r.is
      (push_then set program R w.targets w b h1 s1 k1 x at (λ z. state.◌>>=◌ (go_stars set later rest at e) (λ is. state.give (Some i ∷ is))) has1.0 a1.agrees
      (follows_then set program (Starred (pushed x b) s1.active (k1 + 1 + subscripts_size (known c) rest) (stars_of rest)) R w.targets h1 (with_cells (s1.cells + 1) s1) (mach (pushed x b) h1 s1 (k1 + 1) x) (go_stars set later rest at e (with_cells (s1.cells + 1) s1)) (λ is. state.give (Some i ∷ is))
      (stars_follow rest ps at w (pushed x b) h1 (with_cells (s1.cells + 1) s1) c e (k1 + 1) x (subst (λ n. HasAt program.instructions (k1 + 1) (code_subscripts c at n rest)) (again k (size (known c) a)) has1.1) (at_pushed program.instructions w b h1 s1 c e x a1) (fits_pushed x (fits_right (marks a) (subscripts_marks rest) ft)))
      (λ is h2 s2 m2 q g2. let y = q.heaped in
      follows_on set program R w.targets h2 s2 m2 m2 (Some i ∷ is) already
      (record {
        heaped = record { held = y.held; is = y.is ∙ ap (λ n. mach (pushed_all (map integer_cell (i ∷ given_of is)) b) h2 s2 n y.held) (same k (size (known c) a) (subscripts_size (known c) rest)); settled = y.settled; cells = let z = y.cells in omega (arith, z); listed = y.listed ∙ r.listed };
        are = ap (λ l. Some i ∷ l) q.are;
        count = let z = q.count in omega (arith, z);
        back = let z = q.back in omega (arith, z);
      })))))
    where
      same : (i n o : ℕ) → i + n + 1 + o ≡ i + (n + (1 + o))
      same i n o = omega arith

      again : (i n : ℕ) → i + (n + 1) ≡ i + n + 1
      again i n = omega arith

  -- the row of a subarray
  subarray_row : (at : Place) (b : Base) (h : Heap) (s : State Bodied) (k : ℕ) (held : Content) (c : Context) (name : Stand) (a : ArrayInfo) (given is : List (Option ℤ)) (stars : List Bool) (x : HasEntry b name c.level b.current (fixed (machine.an_array a given))) → Rattle.stack_code.specs.Table.cells_of stars ≡ length (given_of is) → Rattle.stack_code.specs.Table.starred stars (given_of is) ≡ is →
      does set program at (instr.Subarray (links c name) name.position stars) (mach (pushed_all (map integer_cell (given_of is)) b) h s k held) ≡ doing.after (doing.subscripted a (filled_in given is) (doing.hold (machine.an_array a (filled_in given is))) (mach b h s k held)) (λ z. go_on)
  subarray_row at b h s k held c name a given is stars x ec es =
      ap (λ r. doing.after r (λ cs. doing.integers_in cs >>= λ js. doing.content_out (links c name) name.position >>= doing.array_in >>= λ y. doing.subscripted y.0 (filled_in y.1 (Rattle.stack_code.specs.Table.starred stars js)) (doing.hold (machine.an_array y.0 (filled_in y.1 (Rattle.stack_code.specs.Table.starred stars js)))) >> go_on)) (pop_all_is b h s k held (map integer_cell (given_of is)) (Rattle.stack_code.specs.Table.cells_of stars) (ec ∙ sym (length_map integer_cell (given_of is))))
      ∙ ap (λ r. doing.after r (λ js. doing.content_out (links c name) name.position >>= doing.array_in >>= λ y. doing.subscripted y.0 (filled_in y.1 (Rattle.stack_code.specs.Table.starred stars js)) (doing.hold (machine.an_array y.0 (filled_in y.1 (Rattle.stack_code.specs.Table.starred stars js)))) >> go_on)) (integers_are (given_of is) (mach b h s k held))
      ∙ ap (λ r. doing.after (doing.after r doing.array_in) (λ y. doing.subscripted y.0 (filled_in y.1 (Rattle.stack_code.specs.Table.starred stars (given_of is))) (doing.hold (machine.an_array y.0 (filled_in y.1 (Rattle.stack_code.specs.Table.starred stars (given_of is))))) >> go_on)) (content_is b h s k held c name (fixed (machine.an_array a given)) x)
      ∙ ap (λ js. doing.after (doing.subscripted a (filled_in given js) (doing.hold (machine.an_array a (filled_in given js))) (mach b h s k held)) (λ z. go_on)) es

  -- a subarray of an array that is there
  subarray_there : (at : Place) (w : World) (b : Base) (h : Heap) (s : State Bodied) (k ka : ℕ) (held : Content) (c : Context) (name : Stand) (a : ArrayInfo) (given is : List (Option ℤ)) (stars : List Bool) → HasEntry b name c.level b.current (fixed (machine.an_array a given)) → HasArray b s.arrays ka a → Rattle.stack_code.specs.Table.cells_of stars ≡ length (given_of is) → Rattle.stack_code.specs.Table.starred stars (given_of is) ≡ is →
      slice_get program.instructions k ≡ Some (record { at = at; does = instr.Subarray (links c name) name.position stars }) → Listed program.instructions b s.arrays b.entries [] s.active → Settled b h s.memory s.records s.fields → length b.slots ≡ s.cells - copying.cells_of is →
      Follows set program (ArrayReady b s.active (k + 1)) w.targets h s (mach (pushed_all (map integer_cell (given_of is)) b) h s k held) (subarray_at set later at (Some (to_array ka given)) is s)
  subarray_there at w b h s k ka held c name a given is stars x y ec es i l st q =
      subst (λ o. Follows set program R w.targets h s m (after (state.array_at at o s) (λ info. state.subscripted at info subs good))) (sym y.is)
      (outside (all_within y.info.bounds subs) refl)
    where
      R : Ready → Heap → State Bodied → Machine → Type 0
      R = ArrayReady b s.active (k + 1)

      m : Machine
      m = mach (pushed_all (map integer_cell (given_of is)) b) h s k held

      m0 : Machine
      m0 = mach b h s k held

      subs : List (Option ℤ)
      subs = filled_in given is

      good : M Bodied Ready
      good = state.◌>>◌ (give_back (copying.cells_of is)) (state.give (put_for (to_array ka subs)))

      row : (t : Bool) → all_within y.info.bounds subs ≡ t → does set program at (instr.Subarray (links c name) name.position stars) m ≡ doing.after (doing.test t (doing.hold (machine.an_array a subs)) (doing.fault_now fault.SubscriptOutsideBounds) m0) (λ z. go_on)
      row t z = subarray_row at b h s k held c name a given is stars x ec es
          ∙ ap (λ bounds. doing.after (doing.test (all_within bounds subs) (doing.hold (machine.an_array a subs)) (doing.fault_now fault.SubscriptOutsideBounds) m0) (λ z. go_on)) y.bounds
          ∙ ap (λ v. doing.after (doing.test v (doing.hold (machine.an_array a subs)) (doing.fault_now fault.SubscriptOutsideBounds) m0) (λ z. go_on)) z

      outside : (t : Bool) → all_within y.info.bounds subs ≡ t → Follows set program R w.targets h s m (state.test t good (state.fault_at fault.SubscriptOutsideBounds at) s)
      outside true z = let s1 = with_cells (s.cells - copying.cells_of is) s in
          follows_since set program R w.targets h s s1 m (on (put_for (to_array ka subs)) s1) refl refl refl refl (λ d. d)
          (follows_on set program R w.targets h s1 m (mach b h s (k + 1) (machine.an_array a subs)) (put_for (to_array ka subs)) (one_row set program m (mach b h s (k + 1) (machine.an_array a subs)) _ i (row true z))
          (record { number = ka; array = a; given = subs; is = refl; has = y; reached = record { is = refl; settled = st; cells = q; listed = refl } }))
      outside false z = fault_here set program R w.targets h s m _ fault.SubscriptOutsideBounds b k held i (row false z) l st

  subarray_by_thing : (at : Place) (w : World) (b : Base) (h : Heap) (s : State Bodied) (k : ℕ) (held : Content) (c : Context) (is : List (Option ℤ)) (stars : List Bool) (ot : Option Thing) (os : Option Stand) → Found program.instructions w b s.arrays c.level b.current ot os → Rattle.stack_code.specs.Table.cells_of stars ≡ length (given_of is) → Rattle.stack_code.specs.Table.starred stars (given_of is) ≡ is →
      HasAt program.instructions k (subarray_code c at stars os) → Listed program.instructions b s.arrays b.entries [] s.active → Settled b h s.memory s.records s.fields → length b.slots ≡ s.cells - copying.cells_of is →
      Follows set program (ArrayReady b s.active (k + 1)) w.targets h s (mach (pushed_all (map integer_cell (given_of is)) b) h s k held) (subarray_at set later at ot is s)
  subarray_by_thing at w b h s k held c is stars (Some (to_array ka given)) (Some name) f ec es code l st q = subarray_there at w b h s k ka held c name f.1 given is stars f.2 f.3 ec es code.0 l st q
  subarray_by_thing at w b h s k held c is stars (Some (to_array ka given)) None f ec es code l st q = absurd f
  subarray_by_thing at w b h s k held c is stars ot os f ec es code l st q = tt

  -- a subarray as an actual, in line or as a text, up to where it is held
  pub subarray_follows : (x : Place) (given : Subscripts) → EachStar given → (at : Place) (w : World) (b : Base) (h : Heap) (s : State Bodied) (c : Context) (e : Env) (k : ℕ) (held : Content) → HasAt program.instructions k (code_subscripts c at k given ▸ subarray_code c at (stars_of given) (stand_of c (Named x))) → At program.instructions w b h s c e → Fits program.marks w b (subscripts_marks given) →
      Follows set program (ArrayReady b s.active (k + subscripts_size (known c) given + 1)) w.targets h s (mach b h s k held) (after (go_stars set later given at e s) (subarray_at set later at (head e (Named x))))
  subarray_follows x given ps at w b h s c e k held code l ft =
      let k1 = k + subscripts_size (known c) given in
      let has1 = has_back program.instructions k (subscripts_size (known c) given) (code_subscripts c at k given) _ (subscripts_sized c at k given).by code in
      follows_then set program (Starred b s.active k1 (stars_of given)) (ArrayReady b s.active (k1 + 1)) w.targets h s (mach b h s k held) (go_stars set later given at e s) (subarray_at set later at (find e x))
      (stars_follow given ps at w b h s c e k held (has_front program.instructions k (code_subscripts c at k given) _ code) l ft)
      (λ is h1 s1 m1 q g. let y = q.heaped in
      let l1 = at_heaped program.instructions w b h s c e (map integer_cell (given_of is)) k1 h1 s1 m1 (copying.cells_of is) (q.back ∙ sym (length_map integer_cell (given_of is))) l g y in
      follows_at set program (ArrayReady b s.active (k1 + 1)) w.targets h1 s1 m1 (mach (pushed_all (map integer_cell (given_of is)) b) h1 s1 k1 y.held) (subarray_at set later at (find e x) is s1) y.is
      (subst (λ act. Follows set program (ArrayReady b act (k1 + 1)) w.targets h1 s1 (mach (pushed_all (map integer_cell (given_of is)) b) h1 s1 k1 y.held) (subarray_at set later at (find e x) is s1)) y.listed
      (subarray_by_thing at w b h1 s1 k1 y.held c is (stars_of given) (find e x) (stand_at c.names x) (found program.instructions w b s1.arrays c.level b.current e c.names x l1.shows) q.count q.are has1 l1.agrees.listed l1.agrees.settled l1.agrees.cells)))
