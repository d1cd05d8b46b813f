-- Declarations of arrays.
use Rattle.std.proofs.Common.{◌≡◌, ℕ, zero, suc, ◌+◌, ◌*◌, ◌<◌, ◌≤◌, ◌⊎◌, inl, inr, ℤ, List, [], ◌∷◌, ◌++◌, length, map, Option, Some, None, refl, sym, ap, ◌∙◌, subst, arith, length-append, append_assoc, eqb-true}
use Rattle.std.proofs.lemmas.Bool.{eqb-false}
use Rattle.std.specs.Prelude.{slice_get, slice_set, nat_le, nat_eq, replicate, Bool, true, false}
use Rattle.value_ops.specs.declared.places.Place.{Place}
use Rattle.value_ops.specs.declared.faults.Limit.TheVariants as limit
use Rattle.value_ops.specs.declared.values.Value.{Value}
use Rattle.value_ops.specs.declared.values.Value.TheVariants as value
use Rattle.algolw_typing.specs.Types.{ValueType}
use Rattle.program_meaning.specs.Phrases.{Phrase, Name, Bounds, no_bounds, bound_and}
use Rattle.program_meaning.specs.State as state
use Rattle.program_meaning.specs.State.{State, Setting, by_limit, Outcome, on, jump, stop, M, ArrayInfo, RecordInfo, ShownName, most_cells, elements, after, on_first, make_array}
use Rattle.program_meaning.specs.Copying.{dimensions, free, shown, declare_arrays}
use Rattle.program_meaning.specs.Environments.{Env, Bodied, Job, go, go_bounds}
use Rattle.stack_code.specs.Instr as instr
use Rattle.stack_code.specs.Code.{Code, Coded}
use Rattle.stack_code.specs.Machine as machine
use Rattle.stack_code.specs.Machine.{Machine, Content, Entry, Where, in_cell, in_field, on_top_of}
use Rattle.stack_code.specs.Doing as doing
use Rattle.stack_code.specs.Doing.{Next, Row, go_on, enter, integers_in, pop_all, push_array, ◌>>=◌, ◌>>◌}
use Rattle.stack_code.specs.Table.{does, paired}
use Rattle.phrase_code.specs.Sizes.{size, bounds_size}
use Rattle.phrase_code.specs.Coding.{Context, known, code_bounds, declare_arrays_code, ◌▸◌}
use Rattle.code_simulation.specs.Relation.{HasAt, Has, Slot, variable, fixed, Base, Heap, mach, World, Target, Stands, HasArray, Settled, Listed, Grew, Agrees, At, content_of, content_of_variable, field_of}
use Rattle.code_simulation.specs.Declared.{ArraysAt}
use Rattle.code_simulation.specs.Following.{already, Follows, Reached, PhraseFollows}
use Rattle.code_simulation.proofs.Stacks.{top_is, top_at, top_more, top_less, length_map, get_below, get_append, get_behind, get_set_same, get_set_other, has_front}
use Rattle.code_simulation.proofs.Rows.{one_row, follows_from, follows_then, follows_on, grew_here}
use Rattle.code_simulation.proofs.Growing.{cells_appended, fields_appended}
use Rattle.code_simulation.proofs.Keeping.{Later, array_later, listed_later, pushed, with_cells, at_pushed}
use Rattle.code_simulation.proofs.Values.{follows_at, push_then, settled_below, limit_here}
use Rattle.code_simulation.proofs.Counting.{follows_assoc}
use Rattle.code_simulation.proofs.Operators.{behind, at_reached}
use Rattle.code_simulation.proofs.Choices.{integer_by, code_at}
use Rattle.code_simulation.proofs.Elements.{pushes, Stacked, integer_contents}
use Rattle.code_simulation.proofs.Declaring.{Declaring, listed_shown, later_on}
use Rattle.phrase_code.specs.Marks.{marks, bounds_marks}
use Rattle.std.specs.Prelude.{max}
use Rattle.code_simulation.specs.Room.{Fits}
use Rattle.code_simulation.proofs.Room.{fits_left, fits_right, fits_pushed, fits_declared, room_for_entry, deep_first, enter_in_room}
use Rattle.std.proofs.Common.{leb-true}

-- ---- bounds

-- lower and upper bound of each subscript, in a row
abbrev pub flat : List (ℤ × ℤ) → List ℤ
flat [] = []
flat (b ∷ bs) = b.0 ∷ b.1 ∷ flat bs

pub flat_length : (bs : List (ℤ × ℤ)) → length (flat bs) ≡ 2 * length bs
flat_length [] = refl
flat_length (b ∷ bs) = let e = flat_length bs in omega (arith, e)

pub paired_flat : (bs : List (ℤ × ℤ)) (m : Machine) → paired (flat bs) m ≡ doing.on bs m
paired_flat [] m = refl
paired_flat (b ∷ bs) m = ap (λ r. doing.after r (λ cs. doing.give ((b.0, b.1) ∷ cs))) (paired_flat bs m)

-- so many pairs of bounds lie on the stacks
abbrev pub BoundsOn : Base → List state.Entry → (next count : ℕ) → List (ℤ × ℤ) → Heap → State Bodied → Machine → Type 0
BoundsOn b active next count bs h s m = Stacked b active next (integer_contents (flat bs)) h s m × (length bs ≡ count)

module _ (set : Setting) (program : Code) (later : Job → M Bodied state.Given) where
  -- the bounds of arrays do what they do
  pub data EachBound : Bounds → Type 0 where
    bounds_none : EachBound no_bounds
    bounds_and : {a d : Phrase} {rest : Bounds} → PhraseFollows set program later a → PhraseFollows set program later d → EachBound rest → EachBound (bound_and a d rest)

  pub bounds_follow : (pairs : Bounds) → EachBound pairs → (at : Place) (w : World) (b : Base) (h : Heap) (s : State Bodied) (c : Context) (e : Env) (k : ℕ) (held : Content) → HasAt program.instructions k (code_bounds c at k pairs) → At program.instructions w b h s c e → Fits program.marks w b (bounds_marks pairs) →
      Follows set program (BoundsOn b s.active (k + bounds_size (known c) pairs) (dimensions pairs)) w.targets h s (mach b h s k held) (go_bounds set later pairs at e s)
  bounds_follow no_bounds p at w b h s c e k held code l ft = follows_on set program (BoundsOn b s.active (k + 0) 0) w.targets h s (mach b h s k held) (mach b h s k held) [] already (record { held = held; is = ap (λ n. mach b h s n held) (omega arith); settled = l.agrees.settled; cells = let q = l.agrees.cells in omega (arith, q); listed = refl }, refl)
  bounds_follow (bound_and a d rest) (bounds_and pa pd ps) at w b h s c e k held code l ft =
      let sa = size (known c) a in let sd = size (known c) d in let sr = bounds_size (known c) rest in
      let k1 = k + sa in let k2 = k1 + 1 + sd in
      let kn = k + (sa + (1 + (sd + (1 + sr)))) in
      let R = BoundsOn b s.active kn (dimensions (bound_and a d rest)) in
      let has1 = behind program.instructions c at the_value k a _ code in
      let has2 = code_at set program later c at the_value (k + (sa + 1)) (k1 + 1) d _ (omega arith) has1.1 in
      let has3 = behind program.instructions c at the_value (k1 + 1) d _ has2 in
      follows_then set program (λ i. Reached b s.active k1 (machine.a_value (value.Integer i))) R w.targets h s (mach b h s k held) (state.integer_of at (go set later a state.for_value at e) s) _
      (integer_by set program later a pa at w b h s c e k held (has_front program.instructions k _ _ code) l (fits_left (marks a) (max (marks d) (bounds_marks rest)) ft))
      (λ i h1 s1 m1 r g. let x = machine.a_value (value.Integer i) in let l1 = at_reached set program w b h s c e k1 x h1 s1 m1 l g r in let b1 = pushed x b in let s1' = with_cells (s1.cells + 1) s1 in let l1' = at_pushed program.instructions w b h1 s1 c e x l1 in
      follows_at set program R w.targets h1 s1 m1 (mach b h1 s1 k1 x) _ r.is
      (push_then set program R w.targets w b h1 s1 k1 x at _ has1.0 l1.agrees
      (follows_then set program (λ j. Reached b1 s1.active k2 (machine.a_value (value.Integer j))) R w.targets h1 s1' (mach b1 h1 s1 (k1 + 1) x) (state.integer_of at (go set later d state.for_value at e) s1') _
      (integer_by set program later d pd at w b1 h1 s1' c e (k1 + 1) x (has_front program.instructions (k1 + 1) _ _ has2) l1' (fits_pushed x (fits_left (marks d) (bounds_marks rest) (fits_right (marks a) (max (marks d) (bounds_marks rest)) ft))))
      (λ j h2 s2 m2 r2 g2. let y = machine.a_value (value.Integer j) in let l2 = at_reached set program w b1 h1 s1' c e k2 y h2 s2 m2 l1' g2 r2 in let b2 = pushed y b1 in let s2' = with_cells (s2.cells + 1) s2 in
      follows_at set program R w.targets h2 s2 m2 (mach b1 h2 s2 k2 y) _ r2.is
      (push_then set program R w.targets w b1 h2 s2 k2 y at (λ z s3. after (go_bounds set later rest at e s3) (λ bs. state.give ((i, j) ∷ bs))) has3.0 l2.agrees
      (follows_then set program (BoundsOn b2 s2.active (k2 + 1 + sr) (dimensions rest)) R w.targets h2 s2' (mach b2 h2 s2 (k2 + 1) y) (go_bounds set later rest at e s2') (λ bs. state.give ((i, j) ∷ bs))
      (bounds_follow rest ps at w b2 h2 s2' c e (k2 + 1) y (subst (λ n. HasAt program.instructions (k2 + 1) (code_bounds c at n rest)) (place k sa sd) has3.1) (at_pushed program.instructions w b1 h2 s2 c e y l2) (fits_pushed y (fits_pushed x (fits_right (marks d) (bounds_marks rest) (fits_right (marks a) (max (marks d) (bounds_marks rest)) ft)))))
      (λ bs h3 s3 m3 q g3. follows_on set program R w.targets h3 s3 m3 m3 ((i, j) ∷ bs) already (
        record { held = q.0.held; is = q.0.is ∙ ap (λ n. mach (pushes (integer_contents (flat bs)) b2) h3 s3 n q.0.held) (ends k sa sd sr); settled = settled_below x b h3 s3.memory s3.records s3.fields (settled_below y b1 h3 s3.memory s3.records s3.fields q.0.settled); cells = let z = q.0.cells in omega (arith, z); listed = q.0.listed ∙ r2.listed ∙ r.listed },
        let z = q.1 in omega (arith, z),
      ))))))))
    where
      place : (i a d : ℕ) → i + (a + (1 + (d + 1))) ≡ i + a + 1 + d + 1
      place i a d = omega arith

      ends : (i a d r : ℕ) → i + a + 1 + d + 1 + r ≡ i + (a + (1 + (d + (1 + r))))
      ends i a d r = omega arith

      the_value : instr.Mode
      the_value = instr.the_value

-- ---- the elements of an array

pub replicated_length : {A : Type 0} (n : ℕ) (x : A) → length (replicate n x) ≡ n
replicated_length zero x = refl
replicated_length (suc n) x = ap suc (replicated_length n x)

get_replicated : {A : Type 0} (n i : ℕ) (x : A) → i < n → slice_get (replicate n x) i ≡ Some x
get_replicated zero i x q = absurd (omega (arith, q))
get_replicated (suc n) zero x q = refl
get_replicated (suc n) (suc i) x q = get_replicated n i x (omega (arith, q))

free_is : (n : ℕ) → replicate n None ≡ free n
free_is zero = refl
free_is (suc n) = ap (λ l. None ∷ l) (free_is n)

-- the slots of so many elements from a variable on, the newest first
abbrev element_slots : ℕ → ℕ → List Slot → List Slot
element_slots first zero more = more
element_slots first (suc n) more = variable (first + n) ∷ element_slots first n more

elements_length : (first n : ℕ) (more : List Slot) → length (element_slots first n more) ≡ n + length more
elements_length first zero more = omega arith
elements_length first (suc n) more = let e = elements_length first n more in omega (arith, e)

elements_old : (first n : ℕ) (more : List Slot) (c : ℕ) (x : Slot) → on_top_of more c ≡ Some x → on_top_of (element_slots first n more) c ≡ Some x
elements_old first zero more c x e = e
elements_old first (suc n) more c x e = top_more _ (element_slots first n more) c x (elements_old first n more c x e)

elements_new : (first n : ℕ) (more : List Slot) (i : ℕ) → i < n → on_top_of (element_slots first n more) (length more + i) ≡ Some (variable (first + i))
elements_new first zero more i q = absurd (omega (arith, q))
elements_new first (suc n) more i q = by (nat_eq i n) refl (λ z. elements_new first n more i z)
  where
    l : length (element_slots first n more) ≡ n + length more
    l = elements_length first n more

    by : (t : Bool) → nat_eq i n ≡ t → (i < n → on_top_of (element_slots first n more) (length more + i) ≡ Some (variable (first + i))) → on_top_of (variable (first + n) ∷ element_slots first n more) (length more + i) ≡ Some (variable (first + i))
    by true e ih = let z = eqb-true i n e in top_at (variable (first + n)) (element_slots first n more) (length more + i) (omega (arith, z, l)) ∙ ap (λ j. Some (variable (first + j))) (sym z)
    by false e ih = top_more _ (element_slots first n more) (length more + i) _ (ih (omega (arith, q, eqb-false i n e)))

elements_at : (first n : ℕ) (more : List Slot) (c k : ℕ) → on_top_of (element_slots first n more) c ≡ Some (variable k) → (on_top_of more c ≡ Some (variable k)) ⊎ ((first ≤ k) × (k < first + n) × (c + first ≡ length more + k))
elements_at first zero more c k e = inl e
elements_at first (suc n) more c k e = by (top_less _ (element_slots first n more) c _ e) (λ z. elements_at first n more c k z)
  where
    l : length (element_slots first n more) ≡ n + length more
    l = elements_length first n more

    wider : (on_top_of more c ≡ Some (variable k)) ⊎ ((first ≤ k) × (k < first + n) × (c + first ≡ length more + k)) → (on_top_of more c ≡ Some (variable k)) ⊎ ((first ≤ k) × (k < first + suc n) × (c + first ≡ length more + k))
    wider (inl z) = inl z
    wider (inr z) = let y = z.1 in inr (z.0, omega (arith, y), z.2)

    by : ((c ≡ length (element_slots first n more)) × (variable k ≡ variable (first + n))) ⊎ (on_top_of (element_slots first n more) c ≡ Some (variable k)) → (on_top_of (element_slots first n more) c ≡ Some (variable k) → (on_top_of more c ≡ Some (variable k)) ⊎ ((first ≤ k) × (k < first + n) × (c + first ≡ length more + k))) → (on_top_of more c ≡ Some (variable k)) ⊎ ((first ≤ k) × (k < first + suc n) × (c + first ≡ length more + k))
    by (inl z) ih = let y = z.0 in let v : variable k ≡ variable (first + n) = z.1 in let q : k ≡ first + n = cc in inr (omega (arith, q), omega (arith, q), omega (arith, y, q, l))
    by (inr z) ih = wider (ih z)

elements_empty : (memory more : List (Option Value)) (n : ℕ) (slots : List Slot) → ((i : ℕ) → i < n → slice_get memory (length more + i) ≡ Some None) → map (content_of memory) (element_slots (length more) n slots) ≡ replicate n machine.nothing ++ map (content_of memory) slots
elements_empty memory more zero slots h = refl
elements_empty memory more (suc n) slots h = ap (λ o. content_of_variable o ∷ map (content_of memory) (element_slots (length more) n slots)) (h n (omega arith)) ∙ ap (λ l. machine.nothing ∷ l) (elements_empty memory more n slots (λ i q. h i (omega (arith, q))))

-- the stacks with an array more
abbrev pub with_array : Name → ℕ → ℕ → ArrayInfo → List (Option ℤ) → Base → Base
with_array x first n a given b = record b { slots = element_slots first n (fixed (machine.an_array a given) ∷ b.slots); entries = machine.a_name x.text (length b.slots) ∷ b.entries }

settled_array : (x : Name) (n : ℕ) (a : ArrayInfo) (given : List (Option ℤ)) (b : Base) (h : Heap) (memory : List (Option Value)) (records : List RecordInfo) (fields : ℕ) → Settled b h memory records fields → Settled (with_array x (length memory) n a given b) h (memory ++ replicate n None) records fields
settled_array x n a given b h memory records fields st = record {
  apart = λ k y z p q. apart k y z (where_is k y p) (where_is k z q);
  within = λ k y p. within k y (where_is k y p);
  kept = λ k i. let z = st.kept k i in (get_append memory _ k None z.0, λ y p. others k z.0 z.1 y (where_is k y p));
  has = st.has;
  count = st.count;
  as_many = st.as_many;
  standard = st.standard;
}
  where
    b' : Base
    b' = with_array x (length memory) n a given b

    more : List Slot
    more = fixed (machine.an_array a given) ∷ b.slots

    New : ℕ → Where → Type 0
    New k y = (c : ℕ) × (y ≡ in_cell c) × (length memory ≤ k) × (k < length memory + n) × (c + length memory ≡ length more + k)

    where_is : (k : ℕ) (y : Where) → Stands b' h k y → Stands b h k y ⊎ New k y
    where_is k (in_field f) p = inl p
    where_is k (in_cell c) p = by (elements_at (length memory) n more c k p)
      where
        old : ((c ≡ length b.slots) × (variable k ≡ fixed (machine.an_array a given))) ⊎ (on_top_of b.slots c ≡ Some (variable k)) → Stands b h k (in_cell c) ⊎ New k (in_cell c)
        old (inl q) = let z = q.1 in absurd (cc)
        old (inr q) = inl q

        by : (on_top_of more c ≡ Some (variable k)) ⊎ ((length memory ≤ k) × (k < length memory + n) × (c + length memory ≡ length more + k)) → Stands b h k (in_cell c) ⊎ New k (in_cell c)
        by (inl q) = old (top_less _ b.slots c _ q)
        by (inr q) = inr (c, refl, q.0, q.1, q.2)

    apart : (k : ℕ) (y z : Where) → Stands b h k y ⊎ New k y → Stands b h k z ⊎ New k z → y ≡ z
    apart k y z (inl p) (inl q) = st.apart k y z p q
    apart k y z (inl p) (inr q) = let l = st.within k y p in let m = q.2 in absurd (omega (arith, l, m))
    apart k y z (inr p) (inl q) = let l = st.within k z q in let m = p.2 in absurd (omega (arith, l, m))
    apart k y z (inr p) (inr q) = let l = p.4 in let m = q.4 in p.1 ∙ ap in_cell (omega (arith, l, m)) ∙ sym q.1

    within : (k : ℕ) (y : Where) → Stands b h k y ⊎ New k y → k < length (memory ++ replicate n None)
    within k y (inl p) = let l = st.within k y p in let m = length-append memory (replicate n None) in omega (arith, l, m)
    within k y (inr p) = let l = p.3 in let m = length-append memory (replicate n None) in let r : length (replicate n None) ≡ n = replicated_length {A = Option Value} n None in omega (arith, l, m, r)

    others : (k : ℕ) → slice_get memory k ≡ Some None → ((y : Where) → Stands b h k y → ⊥) → (y : Where) → Stands b h k y ⊎ New k y → ⊥
    others k e f y (inl p) = f y p
    others k e f y (inr p) = let l = get_below memory k None e in let m = p.2 in absurd (omega (arith, l, m))

elements_append : (first n : ℕ) (more : List Slot) → element_slots first n more ≡ element_slots first n [] ++ more
elements_append first zero more = refl
elements_append first (suc n) more = ap (λ l. variable (first + n) ∷ l) (elements_append first n more)

-- ---- an array is declared

-- an array as the meaning and as the machine has it, and a state with it
abbrev meant : ValueType → List (ℤ × ℤ) → State Bodied → ArrayInfo
meant t bs s = record { type = t; bounds = bs; first = length s.memory }

abbrev made_at : ValueType → List (ℤ × ℤ) → Base → ArrayInfo
made_at t bs b = record { type = t; bounds = bs; first = length b.slots + 1 }

abbrev array_base : Name → ValueType → List (ℤ × ℤ) → State Bodied → Base → Base
array_base x t bs s b = with_array x (length s.memory) (elements bs) (made_at t bs b) (free (length bs)) b

abbrev array_state : Name → ℕ → ValueType → List (ℤ × ℤ) → State Bodied → State Bodied
array_state x k t bs s = record s { cells = s.cells + (1 + elements bs); memory = s.memory ++ replicate (elements bs) None; arrays = slice_set s.arrays k (Some (meant t bs s)); active = on_first (shown x (state.an_array k (free (length bs)))) s.active }

has_array : (x : Name) (k : ℕ) (t : ValueType) (bs : List (ℤ × ℤ)) (s : State Bodied) (b : Base) → k < length s.arrays → HasArray (array_base x t bs s b) (array_state x k t bs s).arrays k (made_at t bs b)
has_array x k t bs s b q = record {
  info = meant t bs s;
  is = get_set_same s.arrays k (Some (meant t bs s)) q;
  type = refl;
  bounds = refl;
  elements = λ i z. let e : suc (length b.slots) + i ≡ length b.slots + 1 + i = omega arith in subst (λ c. on_top_of (array_base x t bs s b).slots c ≡ Some (variable (length s.memory + i))) e (elements_new (length s.memory) (elements bs) (fixed (machine.an_array (made_at t bs b) (free (length bs))) ∷ b.slots) i z);
}

later_array : {w : World} (x : Name) (k : ℕ) (t : ValueType) (bs : List (ℤ × ℤ)) (s : State Bodied) (b : Base) → slice_get s.arrays k ≡ Some None → Later w b s.arrays w (array_base x t bs s b) (array_state x k t bs s).arrays
later_array x k t bs s b e = record {
  slots = λ c z i. elements_old (length s.memory) (elements bs) (fixed (machine.an_array (made_at t bs b) (free (length bs))) ∷ b.slots) c z (top_more _ b.slots c z i);
  entries = λ c z i. top_more _ b.entries c z i;
  frames = λ c z i. i;
  procedures = λ q i. i;
  targets = λ q i. i;
  marks = refl;
  same = λ j a i. get_set_other s.arrays k j (Some (meant t bs s)) (λ q. other j a i q) ∙ i;
}
  where
    other : (j : ℕ) (a : ArrayInfo) → slice_get s.arrays j ≡ Some (Some a) → k ≡ j → ⊥
    other j a i q = let z : slice_get s.arrays k ≡ Some (Some a) = ap (slice_get s.arrays) q ∙ i in cc

declaring_array : {program : List Coded} {w : World} {b0 : Base} {h0 : Heap} {s0 : State Bodied} {c0 : Context} {e : Env} {start : ℕ} {b : Base} {h : Heap} {s : State Bodied} {count v n : ℕ} {p : Place} {active : List state.Entry} (x : Name) (k : ℕ) (t : ValueType) (bs : List (ℤ × ℤ)) → Declaring program w b0 h0 s0 c0 e start b h s count v n p active → length s0.arrays ≤ k → slice_get s.arrays k ≡ Some None →
    Declaring program w b0 h0 s0 c0 e start (array_base x t bs s b) h (array_state x k t bs s) (count + 1) v n p active
declaring_array {program} {w} {b0} {h0} {s0} {c0} {e} {start} {b} {h} {s} {count} {v} {n} {p} {active} x k t bs d few none = record {
  over = record {
    slots = element_slots (length s.memory) (elements bs) [] ++ (fixed (machine.an_array (made_at t bs b) (free (length bs))) ∷ d.over.slots);
    slots_are = elements_append (length s.memory) (elements bs) _ ∙ ap (λ l. element_slots (length s.memory) (elements bs) [] ++ (fixed (machine.an_array (made_at t bs b) (free (length bs))) ∷ l)) d.over.slots_are ∙ sym (append_assoc (element_slots (length s.memory) (elements bs) []) (fixed (machine.an_array (made_at t bs b) (free (length bs))) ∷ d.over.slots) b0.slots);
    entries = machine.a_name x.text (length b.slots) ∷ d.over.entries;
    entries_are = ap (λ l. machine.a_name x.text (length b.slots) ∷ l) d.over.entries_are;
    frames = d.over.frames;
    frames_are = d.over.frames_are;
    reserved = d.over.reserved;
  };
  grew = record {
    memory = let g = d.grew.memory in let l = length-append s.memory (replicate (elements bs) None) in omega (arith, g, l);
    arrays = λ j o i. get_set_other s.arrays k j (Some (meant t bs s)) (λ q. let l = get_below s0.arrays j o i in absurd (omega (arith, l, few, q))) ∙ d.grew.arrays j o i;
    procedures = d.grew.procedures;
    labels = d.grew.labels;
    fields = d.grew.fields;
    fresh = d.grew.fresh;
    deep = λ z. deep_first s _ (d.grew.deep z);
  };
  settled = settled_array x (elements bs) (made_at t bs b) (free (length bs)) b h s.memory s.records s.fields d.settled;
  cells = let q = d.cells in let l = elements_length (length s.memory) (elements bs) (fixed (machine.an_array (made_at t bs b) (free (length bs))) ∷ b.slots) in omega (arith, q, l);
  names = d.names ++ record { text = x.text; held = state.an_array k (free (length bs)) } ∷ [];
  is = ap (on_first (shown x (state.an_array k (free (length bs))))) d.is;
  listed = (
    state.an_array k (free (length bs)),
    subst (Rattle.code_simulation.specs.Relation.Shown b' s'.arrays (state.an_array k (free (length bs)))) (sym own) (refl, has_array x k t bs s b (get_below s.arrays k None none)),
    listed_shown program b' s'.arrays b.entries [] p d.names active (record { text = x.text; held = state.an_array k (free (length bs)) }) (listed_later program (later_array {w = w} x k t bs s b none) b.entries [] (state.in_block p d.names ∷ active) d.listed),
  );
  current = d.current;
  framed = d.framed;
  counted = let q = d.counted in omega (arith, q);
  reserved = d.reserved;
  below = d.below;
}
  where
    b' : Base
    b' = array_base x t bs s b

    s' : State Bodied
    s' = array_state x k t bs s

    own : on_top_of b'.slots (length b.slots) ≡ Some (fixed (machine.an_array (made_at t bs b) (free (length bs))))
    own = elements_old (length s.memory) (elements bs) (fixed (machine.an_array (made_at t bs b) (free (length bs))) ∷ b.slots) (length b.slots) _ (top_is (fixed (machine.an_array (made_at t bs b) (free (length bs)))) b.slots)

module _ (set : Setting) (program : Code) where
  -- arrays are declared one after the other; what follows is told what then stands where
  pub arrays_then : {A : Type 0} {fitting : ℕ} (R : A → Heap → State Bodied → Machine → Type 0) (ts : List Target) (at : Place) (w : World) (b0 : Base) (h0 : Heap) (s0 : State Bodied) (c0 : Context) (e : Env) (start : ℕ) (h : Heap) (p : Place) (active : List state.Entry) (v n : ℕ) (t : ValueType) (bs : List (ℤ × ℤ)) (f : Unit {0} → M Bodied A) (more : List Coded) (xs : List Name) (b : Base) (s : State Bodied) (k count na : ℕ) →
      HasAt program.instructions k (declare_arrays_code at t xs ▸ more) → (d : Declaring program.instructions w b0 h0 s0 c0 e start b h s count v n p active) → Fits program.marks w b fitting → length s0.arrays ≤ na → ((i : ℕ) → i < length xs → slice_get s.arrays (na + i) ≡ Some None) →
      ((b' : Base) (s' : State Bodied) → Declaring program.instructions w b0 h0 s0 c0 e start b' h s' (count + length xs) v n p active → Later w b s.arrays w b' s'.arrays → ArraysAt b' s'.arrays start count na (length bs) xs → HasAt program.instructions (k + length xs) more → s'.procedures ≡ s.procedures → s'.labels ≡ s.labels → ((j : ℕ) → na + length xs ≤ j → slice_get s'.arrays j ≡ slice_get s.arrays j) → Fits program.marks w b' fitting →
      Follows set program R ts h0 s0 (mach b' h s' (k + length xs) (machine.some_bounds bs)) (f tt s')) →
      Follows set program R ts h0 s0 (mach b h s k (machine.some_bounds bs)) (after (declare_arrays at na t xs bs s) f)
  arrays_then R ts at w b0 h0 s0 c0 e start h p active v n t bs f more [] b s k count na code d ft few none g =
      let ek : k + 0 ≡ k = omega arith in let ec : count ≡ count + 0 = omega arith in
      subst (λ i. Follows set program R ts h0 s0 (mach b h s i (machine.some_bounds bs)) (f tt s)) ek
      (g b s (subst (λ i. Declaring program.instructions w b0 h0 s0 c0 e start b h s i v n p active) ec d) (record { slots = λ i z y. y; entries = λ i z y. y; frames = λ i z y. y; procedures = λ r y. y; targets = λ r y. y; marks = refl; same = λ i z y. y }) tt (subst (λ i. HasAt program.instructions i more) (sym ek) code) refl refl (λ j z. refl) ft)
  arrays_then R ts at w b0 h0 s0 c0 e start h p active v n t bs f more (x ∷ xs) b s k count na code d ft few none g =
      follows_assoc set program R ts h0 s0 m0 (make_array at na t bs s) (λ z. state.◌>>◌ (state.show (shown x (state.an_array na (free (length bs))))) (declare_arrays at (na + 1) t xs bs)) f
      (follows_assoc set program R ts h0 s0 m0 (state.take_cells (1 + n') at s) (λ z. state.place_array na t bs) (λ z s2. after (after (state.show (shown x (state.an_array na (free (length bs)))) s2) (λ y. declare_arrays at (na + 1) t xs bs)) f)
      (by (nat_le (s.cells + (1 + n')) most_cells) refl tests
      (λ fw. arrays_then R ts at w b0 h0 s0 c0 e start h p active v n t bs f more xs b1 s1 (k + 1) (count + 1) (na + 1) code.1 d1 (fits_declared b.reserved x.text (length b.slots) b1.slots (let l = elements_length (length s.memory) (elements bs) (fixed (machine.an_array (made_at t bs b) (free (length bs))) ∷ b.slots) in omega (arith, l)) fw ft) (omega (arith, few)) (λ i z. get_set_other s.arrays na (na + 1 + i) (Some (meant t bs s)) (λ q. absurd (omega (arith, q))) ∙ ap (slice_get s.arrays) (ahead na i) ∙ none (suc i) (omega (arith, z)))
      (λ b2 s2 d2 l2 a2 i2 q1 q2 q3 fb.
      subst (λ i. Follows set program R ts h0 s0 (mach b2 h s2 i (machine.some_bounds bs)) (f tt s2)) (sym (ahead k (length xs)))
      (g b2 s2 (subst (λ i. Declaring program.instructions w b0 h0 s0 c0 e start b2 h s2 i v n p active) (ahead count (length xs)) d2)
      (later_on (later_array x na t bs s b none') l2) (
        (
          length b.slots,
          l2.entries (start + count) _ (top_at (machine.a_name x.text (length b.slots)) b.entries (start + count) d.counted),
          made_at t bs b,
          l2.slots (length b.slots) _ (elements_old (length s.memory) (elements bs) (fixed (machine.an_array (made_at t bs b) (free (length bs))) ∷ b.slots) (length b.slots) _ (top_is (fixed (machine.an_array (made_at t bs b) (free (length bs)))) b.slots)),
          array_later l2 na (made_at t bs b) (has_array x na t bs s b (get_below s.arrays na None none')),
        ),
        a2,
      )
      (subst (λ i. HasAt program.instructions i more) (ahead k (length xs)) i2) q1 q2 (λ j z. q3 j (omega (arith, z)) ∙ get_set_other s.arrays na j (Some (meant t bs s)) (λ q. absurd (omega (arith, q, z)))) fb)))))
    where
      ahead : (i j : ℕ) → i + 1 + j ≡ i + suc j
      ahead i j = omega arith

      n' : ℕ
      n' = elements bs

      none' : slice_get s.arrays na ≡ Some None
      none' = let z : na + 0 ≡ na = omega arith in ap (slice_get s.arrays) (sym z) ∙ none 0 (omega arith)

      b1 : Base
      b1 = array_base x t bs s b

      s1 : State Bodied
      s1 = array_state x na t bs s

      d1 : Declaring program.instructions w b0 h0 s0 c0 e start b1 h s1 (count + 1) v n p active
      d1 = declaring_array x na t bs d few none'

      i0 : Coded
      i0 = record { at = at; does = instr.DeclareArray t x.text }

      held : Content
      held = machine.some_bounds bs

      m0 : Machine
      m0 = mach b h s k held

      nc : length m0.cells ≡ length b.slots
      nc = length_map (content_of s.memory) b.slots

      array_at : ℕ → List (Option ℤ) → Content
      array_at z given = machine.an_array (record { type = t; bounds = bs; first = z + 1 }) given

      m1 : Machine
      m1 = record m0 { cells = replicate n' machine.nothing ++ (array_at (length m0.cells) (replicate (length bs) None) ∷ m0.cells) }

      K : Row (Unit {0})
      K = enter program.marks (machine.a_name x.text (length m0.cells)) >> go_on

      row_by : Bool → Next (Unit {0})
      row_by z = doing.after (elim z [ true ↦ doing.on (tt {0}) m1 | false ↦ doing.halted (by_limit limit.Storage) m0 ]) (λ y. K)

      tests : does set program at (instr.DeclareArray t x.text) m0 ≡ row_by (nat_le (s.cells + (1 + n')) most_cells)
      tests = ap (λ c. row_by (nat_le (c + (1 + n')) most_cells)) (nc ∙ d.cells)

      same : doing.on (tt {0}) (record m1 { pc = k + 1; entries = machine.a_name x.text (length m0.cells) ∷ b.entries }) ≡ doing.on (tt {0}) (mach b1 h s1 (k + 1) held)
      same =
          ap (λ z. doing.on (tt {0}) (record m0 { pc = k + 1; cells = replicate n' machine.nothing ++ (array_at z (replicate (length bs) None) ∷ m0.cells); entries = machine.a_name x.text z ∷ b.entries })) nc
          ∙ ap (λ z. doing.on (tt {0}) (record m0 { pc = k + 1; cells = replicate n' machine.nothing ++ (array_at (length b.slots) z ∷ m0.cells); entries = machine.a_name x.text (length b.slots) ∷ b.entries })) (free_is (length bs))
          ∙ ap (λ z. doing.on (tt {0}) (record m0 { pc = k + 1; cells = replicate n' machine.nothing ++ (array_at (length b.slots) (free (length bs)) ∷ z); entries = machine.a_name x.text (length b.slots) ∷ b.entries })) (sym (cells_appended b h s.memory (replicate n' None) s.records s.fields d.settled))
          ∙ ap (λ z. doing.on (tt {0}) (record m0 { pc = k + 1; cells = z; entries = machine.a_name x.text (length b.slots) ∷ b.entries })) (sym (elements_empty s1.memory s.memory n' (fixed (array_at (length b.slots) (free (length bs))) ∷ b.slots) (λ i z. get_behind s.memory (replicate n' None) i ∙ get_replicated n' i None z)))
          ∙ ap (λ z. doing.on (tt {0}) (record (mach b1 h s1 (k + 1) held) { fields = z })) (sym (fields_appended b h s.memory (replicate n' None) s.records s.fields d.settled))

      by : (z : Bool) → nat_le (s.cells + (1 + n')) most_cells ≡ z → does set program at (instr.DeclareArray t x.text) m0 ≡ row_by z → (length b.slots < most_cells → Follows set program R ts h0 s0 (mach b1 h s1 (k + 1) held) (after (declare_arrays at (na + 1) t xs bs s1) f)) →
          Follows set program R ts h0 s0 m0 (after (elim z [ true ↦ on (tt {0}) (record s { cells = s.cells + (1 + n') }) | false ↦ stop (by_limit limit.Storage) at s ]) (λ y s2. after (state.place_array na t bs s2) (λ z s3. after (after (state.show (shown x (state.an_array na (free (length bs)))) s3) (λ y. declare_arrays at (na + 1) t xs bs)) f)))
      by true y q r = enter_in_room set program m0 m1 i0 (machine.a_name x.text (length m0.cells)) go_on (room_for_entry ft) q
          (λ dd. follows_from set program R ts h0 s0 h0 s0 m0 (mach b1 h s1 (k + 1) held) (after (declare_arrays at (na + 1) t xs bs s1) f) (one_row set program m0 (mach b1 h s1 (k + 1) held) i0 code.0 (dd ∙ same)) (grew_here h0 s0) (r (let i = leb-true (s.cells + (1 + n')) most_cells y in let z = d.cells in omega (arith, i, z))))
      by false y q r = follows_from set program R ts h0 s0 h s m0 m0 (stop (by_limit limit.Storage) at s) already d.grew (limit_here set program R ts h s m0 i0 limit.Storage b k held code.0 q (subst (Listed program.instructions b s.arrays b.entries []) (sym d.is) d.listed) d.settled)
