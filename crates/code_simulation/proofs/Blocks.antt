-- Blocks.
use Rattle.std.proofs.Common.{◌≡◌, ℕ, zero, suc, ◌+◌, ◌-◌, ◌*◌, ◌<◌, ◌≤◌, ◌⊎◌, inl, inr, ℤ, List, [], ◌∷◌, ◌++◌, length, map, Option, Some, None, refl, sym, ap, ◌∙◌, subst, arith, length-append, append-nil}
use Rattle.std.specs.Prelude.{slice_get, replicate}
use Rattle.value_ops.specs.declared.places.Place.{Place}
use Rattle.value_ops.specs.declared.values.Value.{Value}
use Rattle.program_meaning.specs.Phrases.{Phrase, Block, Name, Decls, no_decls, variables_and, arrays_and, procedure_and, Bounds, no_bounds, bound_and, Items, label_places}
use Rattle.program_meaning.specs.State as state
use Rattle.program_meaning.specs.State.{State, Setting, Outcome, on, jump, stop, M, Use, for_value, for_place, RecordInfo, ArrayInfo, after, innermost, Made, back_to, caught, behind_first}
use Rattle.program_meaning.specs.Copying.{variable_count, array_count, dimensions, declare_arrays}
use Rattle.program_meaning.specs.Environments.{Env, Bodied, Job, items_job, go, go_items, go_decls, go_bounds, extend, label_things, decl_things, bodied_procedures}
use Rattle.stack_code.specs.Instr as instr
use Rattle.stack_code.specs.Instr.{Instr, Mode, the_value}
use Rattle.stack_code.specs.Code.{Code, Coded}
use Rattle.stack_code.specs.Machine as machine
use Rattle.stack_code.specs.Machine.{Machine, Content, Entry, Where, on_top_of, lowest}
use Rattle.stack_code.specs.Doing as doing
use Rattle.stack_code.specs.Doing.{go_on, there, enter, ◌>>◌, ◌>>=◌}
use Rattle.stack_code.specs.Table.{does}
use Rattle.phrase_code.specs.Sizes.{Known, size, begin_size, bounds_size, decls_size, items_size, text_size, result_size, formals_known, block_known}
use Rattle.phrase_code.specs.Coding.{Context, known, with_entries, code, code_decls, code_items, one, ◌▸◌, begin_code, entry_count, block_context, declare_code, declare_arrays_code, code_bounds, body_context}
use Rattle.code_simulation.specs.Written.{DeclsWritten, ItemsWritten}
use Rattle.code_simulation.specs.Relation.{HasAt, Has, Base, Heap, mach, World, LiveProcedure, Target, Stands, Holds, Shows, Lives, Settled, Listed, Above, Grew, At, label_targets, item_targets, content_of, field_of}
use Rattle.code_simulation.specs.Declared.{numbers, ArraysAt, DeclsAt, own_procedures}
use Rattle.code_simulation.specs.Following.{Comes, already, Follows, Gives, PhraseFollows, CodeDoes, LaterFollows}
use Rattle.code_simulation.proofs.Stacks.{top_at, top_more, has_front, has_back, get_append, get_behind, get_below, length_map, map_append, lowest_append}
use Rattle.code_simulation.proofs.Sizes.{bounds_sized, items_sized, known_block, known_formals}
use Rattle.code_simulation.proofs.Rows.{follows_then_since, one_row, follows_from, follows_then, follows_on, follows_with, OnAll, grew_here, grew_on}
use Rattle.code_simulation.proofs.Keeping.{Over, Later, later_over, shows_later, lives_later, listed_later, above_over, start_later, with_cells, grew_to, at_on}
use Rattle.code_simulation.proofs.Values.{follows_at}
use Rattle.code_simulation.proofs.Counting.{begun_state, begin_then, at_begun, active_begun, follows_assoc}
use Rattle.code_simulation.proofs.Operators.{ends_at, gives_as}
use Rattle.code_simulation.proofs.Texts.{settled_in, stands_in}
use Rattle.code_simulation.proofs.Declaring.{Declaring, declaring_at, variables_then, later_on, arrays_later, decls_later, numbers_more, variables_later}
use Rattle.code_simulation.proofs.Scopes.{has_joined, procedure_code, shows_decls, shows_items, live_own}
use Rattle.code_simulation.proofs.Growing.{cells_appended, fields_appended}
use Rattle.code_simulation.proofs.Elements.{pushes, Stacked, popped_is, integers_are, integer_contents}
use Rattle.code_simulation.proofs.Arrays.{EachBound, BoundsOn, flat, flat_length, paired_flat, bounds_follow, arrays_then}
use Rattle.code_simulation.proofs.Items.{EachItem, items_follow, caught_follows, own_or_outer}
use Rattle.phrase_code.specs.Marks.{marks, decls_marks, bounds_marks, items_marks}
use Rattle.std.specs.Prelude.{max}
use Rattle.code_simulation.specs.Room.{Fits}
use Rattle.std.proofs.Math.Nat.{le-max_left, le-max_right}
use Rattle.code_simulation.proofs.Room.{fits_right, fits_less, fits_most, fits_world, fits_block, fits_declared_mark, room_for_entry, deep_behind, enter_in_room}

-- a phrase that is done for its value gives no place
abbrev pub NoSpot : state.Given → Type 0
NoSpot (state.a_spot k) = ⊥
NoSpot r = Unit {0}

pub holds_below : (b b' : Base) (h : Heap) (r : state.Given) (x : Content) → NoSpot r → Holds b' h r x → Holds b h r x
holds_below b b' h state.nothing machine.nothing n q = tt
holds_below b b' h (state.a_value v) (machine.a_value u) n q = q
holds_below b b' h (state.a_spot k) x n q = absurd n
holds_below b b' h r x n q = absurd q

numbers_within : (v n : ℕ) (more : List ℕ) (k : ℕ) → Has k (numbers v n more) → ((i : ℕ) × (i < n) × (k ≡ v + i)) ⊎ Has k more
numbers_within v zero more k x = inr x
numbers_within v (suc n) more k (inl e) = inl (zero, omega arith, omega (arith, e))
numbers_within v (suc n) more k (inr x) = by (numbers_within (v + 1) n more k x)
  where
    by : ((i : ℕ) × (i < n) × (k ≡ v + 1 + i)) ⊎ Has k more → ((i : ℕ) × (i < suc n) × (k ≡ v + i)) ⊎ Has k more
    by (inl q) = let a = q.1 in let e = q.2 in inl (suc q.0, omega (arith, a), omega (arith, e))
    by (inr q) = inr q

get_replicated : {A : Type 0} (n i : ℕ) (x : A) → i < n → slice_get (replicate n x) i ≡ Some x
get_replicated zero i x q = absurd (omega (arith, q))
get_replicated (suc n) zero x q = refl
get_replicated (suc n) (suc i) x q = get_replicated n i x (omega (arith, q))

more_procedures : (outside inside : List Known) (c : Context) (link : Option ℕ) (p k : ℕ) (decls : Decls) (more : List LiveProcedure) (q : LiveProcedure) → Has q more → Has q (own_procedures outside inside c link p k decls more)
more_procedures outside inside c link p k no_decls more q x = x
more_procedures outside inside c link p k (variables_and xs rest) more q x = more_procedures outside inside c link p _ rest more q x
more_procedures outside inside c link p k (arrays_and t xs pairs rest) more q x = more_procedures outside inside c link p _ rest more q x
more_procedures outside inside c link p k (procedure_and y result formals body rest) more q x = inr (more_procedures outside inside c link (p + 1) _ rest more q x)

more_labels : (made : Made) (b : Base) (l k : ℕ) (labels : List Place) (more : List Target) (t : Target) → Has t more → Has t (label_targets made b l k labels more)
more_labels made b l k [] more t x = x
more_labels made b l k (y ∷ labels) more t x = inr (more_labels made b (l + 1) k labels more t x)

more_targets : (names : List Known) (made : Made) (b : Base) (l k : ℕ) (items : Items) (more : List Target) (t : Target) → Has t more → Has t (item_targets names made b l k items more)
more_targets names made b l k Rattle.program_meaning.specs.Phrases.no_items more t x = x
more_targets names made b l k (Rattle.program_meaning.specs.Phrases.item_and labels a rest) more t x = more_labels made b l k labels _ t (more_targets names made b (l + length labels) (k + size names a) rest more t x)

-- a state whose block has its numbers
abbrev pub opened_state : Place → Env → Decls → Items → Place → State Bodied → State Bodied
opened_state at e decls items p s = record s {
  memory = s.memory ++ replicate (variable_count decls) None;
  arrays = s.arrays ++ replicate (array_count decls) None;
  procedures = s.procedures ++ bodied_procedures at e decls;
  labels = s.labels + length (label_places items);
  active = state.in_block p [] ∷ s.active;
}

-- the stacks with a block's entry
abbrev pub opened_base : Place → ℕ → ℕ → Base → Base
opened_base p v n b = record { reserved = numbers v n b.reserved; slots = b.slots; entries = machine.a_block p (length b.slots) ∷ b.entries; frames = b.frames; current = b.current }

module _ (set : Setting) (program : Code) (later : Job → M Bodied state.Given) where
  pub data EachDecl : Decls → Type 0 where
    decls_none : EachDecl no_decls
    decls_variables : {xs : List Name} {rest : Decls} → EachDecl rest → EachDecl (variables_and xs rest)
    decls_arrays : {t : Rattle.algolw_typing.specs.Types.ValueType} {xs : List Name} {pairs : Bounds} {rest : Decls} → EachBound set program later pairs → EachDecl rest → EachDecl (arrays_and t xs pairs rest)
    decls_procedure : {x : Name} {result : Option Rattle.algolw_typing.specs.Types.ValueType} {formals : List Rattle.program_meaning.specs.Phrases.Formal} {body : Phrase} {rest : Decls} → EachDecl rest → EachDecl (procedure_and x result formals body rest)

  -- declarations are made one after the other; what follows is told what then stands where
  decls_then : {A : Type 0} {fitting : ℕ} (R : A → Heap → State Bodied → Machine → Type 0) (at : Place) (w : World) (b0 : Base) (h0 : Heap) (s0 : State Bodied) (c0 : Context) (e : Env) (start : ℕ) (p : Place) (active : List state.Entry) (l0 : At program.instructions w b0 h0 s0 c0 e) (es : l0.start ≡ start) (f : Unit {0} → M Bodied A) (more : List Coded) (inside : Context) (decls : Decls) → EachDecl decls → (outside : Context) (b : Base) (h : Heap) (s : State Bodied) (k count v n na : ℕ) (held : Content) →
      outside.names ≡ c0.names → outside.level ≡ c0.level → outside.count ≡ count → HasAt program.instructions k (code_decls outside inside at k decls ▸ more) → Declaring program.instructions w b0 h0 s0 c0 e start b h s count v (variable_count decls + n) p active → Fits program.marks w b fitting → decls_marks decls ≤ fitting → length s0.arrays ≤ na → ((i : ℕ) → i < array_count decls → slice_get s.arrays (na + i) ≡ Some None) →
      ((b' : Base) (h' : Heap) (s' : State Bodied) (held' : Content) → Declaring program.instructions w b0 h0 s0 c0 e start b' h' s' (count + entry_count decls) (v + variable_count decls) n p active → Later w b s.arrays w b' s'.arrays → DeclsAt b' s'.arrays start count v na decls → HasAt program.instructions (k + decls_size (known outside) (known inside) decls) more →
      ((j : ℕ) (x : Bodied) → slice_get s.procedures j ≡ Some x → slice_get s'.procedures j ≡ Some x) → s.labels ≤ s'.labels → Fits program.marks w b' fitting → Follows set program R w.targets h0 s0 (mach b' h' s' (k + decls_size (known outside) (known inside) decls) held') (f tt s')) →
      Follows set program R w.targets h0 s0 (mach b h s k held) (after (go_decls set later decls at v na e s) f)
  decls_then R at w b0 h0 s0 c0 e start p active l0 es f more inside no_decls ed outside b h s k count v n na held q1 q2 q3 code d ft fm few none g =
      let ek : k + 0 ≡ k = omega arith in let ev : v ≡ v + 0 = omega arith in let ec : count ≡ count + 0 = omega arith in let en : 0 + n ≡ n = omega arith in
      subst (λ i. Follows set program R w.targets h0 s0 (mach b h s i held) (f tt s)) ek
      (g b h s held (subst (λ i. Declaring program.instructions w b0 h0 s0 c0 e start b h s i (v + 0) n p active) ec (subst (λ i. Declaring program.instructions w b0 h0 s0 c0 e start b h s count i n p active) ev (subst (λ i. Declaring program.instructions w b0 h0 s0 c0 e start b h s count v i p active) en d)))
      (record { slots = λ i z y. y; entries = λ i z y. y; frames = λ i z y. y; procedures = λ r y. y; targets = λ r y. y; marks = refl; same = λ i z y. y }) tt (subst (λ i. HasAt program.instructions i more) (sym ek) code) (λ j x y. y) (omega arith) ft)
  decls_then R at w b0 h0 s0 c0 e start p active l0 es f more inside (variables_and xs rest) (decls_variables ed) outside b h s k count v n na held q1 q2 q3 code d ft fm few none g =
      follows_assoc set program R w.targets h0 s0 (mach b h s k held) (Rattle.program_meaning.specs.Copying.declare_variables at v xs s) (λ z. go_decls set later rest at (v + length xs) na e) f
      (variables_then set program R w.targets at w b0 h0 s0 c0 e start h p active (λ z s1. after (go_decls set later rest at (v + length xs) na e s1) f) (code_decls (with_entries (length xs) outside) inside at (k + length xs) rest ▸ more) xs b s k count v (variable_count rest + n) held
      (has_joined program.instructions k (declare_code at xs) (code_decls (with_entries (length xs) outside) inside at (k + length xs) rest) more code) (subst (λ i. Declaring program.instructions w b0 h0 s0 c0 e start b h s count v i p active) (omega arith) d) ft
      (λ b1 s1 d1 l1 va has1 m1 m2 m3 m4 fb.
      decls_then R at w b0 h0 s0 c0 e start p active l0 es f more inside rest ed (with_entries (length xs) outside) b1 h s1 (k + length xs) (count + length xs) (v + length xs) n na held q1 q2 (ap (λ i. i + length xs) q3) has1 d1 fb fm few (λ i z. ap (λ l. slice_get l (na + i)) m2 ∙ none i z)
      (λ b2 h2 s2 held2 d2 l2 da has2 pr lb fc.
      let ek : k + length xs + decls_size (known outside) (known inside) rest ≡ k + (length xs + decls_size (known outside) (known inside) rest) = omega arith in
      subst (λ i. Follows set program R w.targets h0 s0 (mach b2 h2 s2 i held2) (f tt s2)) (sym ek)
      (g b2 h2 s2 held2 (subst (λ i. Declaring program.instructions w b0 h0 s0 c0 e start b2 h2 s2 i (v + (length xs + variable_count rest)) n p active) (sum count (length xs) (entry_count rest)) (subst (λ i. Declaring program.instructions w b0 h0 s0 c0 e start b2 h2 s2 (count + length xs + entry_count rest) i n p active) (sum v (length xs) (variable_count rest)) d2))
      (later_on l1 l2) (variables_later l2 start count v xs va, da) (subst (λ i. HasAt program.instructions i more) ek has2) (λ j x y. pr j x (subst (λ l. slice_get l j ≡ Some x) (sym m3) y)) (omega (arith, m4, lb)) fc))))
    where
      sum : (i j l : ℕ) → i + j + l ≡ i + (j + l)
      sum i j l = omega arith
  decls_then {fitting = fitting} R at w b0 h0 s0 c0 e start p active l0 es f more inside (arrays_and t xs pairs rest) (decls_arrays bnd ed) outside b h s k count v n na held q1 q2 q3 code d ft fm few none g =
      follows_assoc set program R w.targets h0 s0 (mach b h s k held) (go_bounds set later pairs at e s) (λ bs. state.◌>>◌ (state.give_back (2 * length bs)) (state.◌>>◌ (declare_arrays at na t xs bs) (go_decls set later rest at v (na + length xs) e))) f
      (follows_then_since set program (BoundsOn b s.active kb (dimensions pairs)) R w.targets h0 s0 h s (mach b h s k held) (go_bounds set later pairs at e s) (λ bs s1. after (after (declare_arrays at na t xs bs (with_cells (s1.cells - 2 * length bs) s1)) (λ z. go_decls set later rest at v (na + length xs) e)) f) d.grew
      (bounds_follow set program later pairs bnd at w b h s outside e k held (has_front program.instructions k _ _ joined) (declaring_at d l0 es outside q1 q2 q3) (fits_less (let y = le-max_left (bounds_marks pairs) (decls_marks rest) in omega (arith, y, fm)) ft))
      (λ bs h1 s1 m1 q g1. bounded bs h1 s1 m1 q g1 (λ b3 s3 i3 d3 fb no3 g3. decls_then R at w b0 h0 s0 c0 e start p active l0 es f more inside rest ed (with_entries (length xs) outside) b3 h1 s3 kr (count + length xs) v n (na + length xs) (machine.some_bounds bs) q1 q2 (ap (λ i. i + length xs) q3) i3 d3 fb (let y = le-max_right (bounds_marks pairs) (decls_marks rest) in omega (arith, y, fm)) (omega (arith, few)) no3 g3)))
    where
      kb : ℕ
      kb = k + bounds_size (known outside) pairs

      ka : ℕ
      ka = kb + 1

      kr : ℕ
      kr = k + (bounds_size (known outside) pairs + (1 + length xs))

      rest_code : List Coded
      rest_code = code_decls (with_entries (length xs) outside) inside at kr rest

      joined : HasAt program.instructions k (code_bounds outside at k pairs ▸ ((one at (instr.Bounds (dimensions pairs)) ▸ declare_arrays_code at t xs ▸ rest_code) ▸ more))
      joined = has_joined program.instructions k (code_bounds outside at k pairs) (one at (instr.Bounds (dimensions pairs)) ▸ declare_arrays_code at t xs ▸ rest_code) more code

      has1 : HasAt program.instructions kb ((one at (instr.Bounds (dimensions pairs)) ▸ declare_arrays_code at t xs ▸ rest_code) ▸ more)
      has1 = has_back program.instructions k (bounds_size (known outside) pairs) (code_bounds outside at k pairs) _ (bounds_sized outside at k pairs).by joined

      has2 : HasAt program.instructions ka (declare_arrays_code at t xs ▸ (rest_code ▸ more))
      has2 = has_joined program.instructions ka (declare_arrays_code at t xs) rest_code more has1.1

      sum : (i j l : ℕ) → i + j + l ≡ i + (j + l)
      sum i j l = omega arith

      bounded : (bs : List (ℤ × ℤ)) (h1 : Heap) (s1 : State Bodied) (m1 : Machine) → BoundsOn b s.active kb (dimensions pairs) bs h1 s1 m1 → Grew h s h1 s1 →
          ((b3 : Base) (s3 : State Bodied) → HasAt program.instructions kr (rest_code ▸ more) → Declaring program.instructions w b0 h0 s0 c0 e start b3 h1 s3 (count + length xs) v (variable_count rest + n) p active → Fits program.marks w b3 fitting → ((i : ℕ) → i < array_count rest → slice_get s3.arrays (na + length xs + i) ≡ Some None) →
          ((b' : Base) (h' : Heap) (s' : State Bodied) (held' : Content) → Declaring program.instructions w b0 h0 s0 c0 e start b' h' s' (count + length xs + entry_count rest) (v + variable_count rest) n p active → Later w b3 s3.arrays w b' s'.arrays → DeclsAt b' s'.arrays start (count + length xs) v (na + length xs) rest → HasAt program.instructions (kr + decls_size (known outside) (known inside) rest) more →
          ((j : ℕ) (x : Bodied) → slice_get s3.procedures j ≡ Some x → slice_get s'.procedures j ≡ Some x) → s3.labels ≤ s'.labels → Fits program.marks w b' fitting → Follows set program R w.targets h0 s0 (mach b' h' s' (kr + decls_size (known outside) (known inside) rest) held') (f tt s')) →
          Follows set program R w.targets h0 s0 (mach b3 h1 s3 kr (machine.some_bounds bs)) (after (go_decls set later rest at v (na + length xs) e s3) f)) →
          Follows set program R w.targets h0 s0 m1 (after (after (declare_arrays at na t xs bs (with_cells (s1.cells - 2 * length bs) s1)) (λ z. go_decls set later rest at v (na + length xs) e)) f)
      bounded bs h1 s1 m1 q g1 ih =
          follows_from set program R w.targets h0 s0 h0 s0 m1 (mach b h1 s2 ka (machine.some_bounds bs)) (after (after (declare_arrays at na t xs bs s2) (λ z. go_decls set later rest at v (na + length xs) e)) f)
          (subst (λ z. Comes set program z (mach b h1 s2 ka (machine.some_bounds bs))) (sym st.is) (one_row set program (mach (pushes (integer_contents (flat bs)) b) h1 s1 kb st.held) (mach b h1 s2 ka (machine.some_bounds bs)) _ has1.0
          (ap (λ z. doing.after (doing.after (doing.after (doing.pop_all z m0) doing.integers_in) Rattle.stack_code.specs.Table.paired) (λ bounds. doing.hold (machine.some_bounds bounds) >> go_on)) many
          ∙ ap (λ z. doing.after (doing.after (doing.after z doing.integers_in) Rattle.stack_code.specs.Table.paired) (λ bounds. doing.hold (machine.some_bounds bounds) >> go_on)) (popped_is (integer_contents (flat bs)) [] b h1 s1 kb st.held ∙ ap (λ z. doing.on z (mach b h1 s1 kb st.held)) (append-nil (integer_contents (flat bs))))
          ∙ ap (λ z. doing.after (doing.after z Rattle.stack_code.specs.Table.paired) (λ bounds. doing.hold (machine.some_bounds bounds) >> go_on)) (integers_are (flat bs) (mach b h1 s1 kb st.held))
          ∙ ap (λ z. doing.after z (λ bounds. doing.hold (machine.some_bounds bounds) >> go_on)) (paired_flat bs (mach b h1 s1 kb st.held))))) (grew_here h0 s0)
          (follows_assoc set program R w.targets h0 s0 (mach b h1 s2 ka (machine.some_bounds bs)) (declare_arrays at na t xs bs s2) (λ z. go_decls set later rest at v (na + length xs) e) f
          (arrays_then set program R w.targets at w b0 h0 s0 c0 e start h1 p active v (variable_count rest + n) t bs (λ z s3. after (go_decls set later rest at v (na + length xs) e s3) f) (rest_code ▸ more) xs b s2 ka count na has2 d2 ft few (λ i z. g1.arrays (na + i) None (none i (omega (arith, z))))
          (λ b3 s3 d3 l3 va i3 p3 b3' ar3 fb.
          subst (λ i. Follows set program R w.targets h0 s0 (mach b3 h1 s3 i (machine.some_bounds bs)) (after (go_decls set later rest at v (na + length xs) e s3) f)) (sym ekr)
          (ih b3 s3 (subst (λ i. HasAt program.instructions i (rest_code ▸ more)) ekr i3) d3 fb (λ i z. ar3 (na + length xs + i) (omega arith) ∙ g1.arrays (na + length xs + i) None (ap (slice_get s.arrays) (sum na (length xs) i) ∙ none (length xs + i) (omega (arith, z))))
          (λ b4 h4 s4 held4 d4 l4 da i4 pr lb fc.
          subst (λ i. Follows set program R w.targets h0 s0 (mach b4 h4 s4 i held4) (f tt s4)) (sym eke)
          (g b4 h4 s4 held4 (subst (λ i. Declaring program.instructions w b0 h0 s0 c0 e start b4 h4 s4 i (v + variable_count rest) n p active) (sum count (length xs) (entry_count rest)) d4)
          (later_on l1 (later_on l3 l4)) (arrays_later l4 start count na (dimensions pairs) xs (subst (λ i. ArraysAt b3 s3.arrays start count na i xs) q.1 va), da) (subst (λ i. HasAt program.instructions i more) eke i4)
          (λ j x y. pr j x (subst (λ l. slice_get l j ≡ Some x) (sym p3) (g1.procedures j x y))) (let y = g1.labels in omega (arith, y, b3', lb)) fc))))))
        where
          st : Stacked b s.active kb (integer_contents (flat bs)) h1 s1 m1
          st = q.0

          m0 : Machine
          m0 = mach (pushes (integer_contents (flat bs)) b) h1 s1 kb st.held

          s2 : State Bodied
          s2 = with_cells (s1.cells - 2 * length bs) s1

          nf : length (integer_contents (flat bs)) ≡ 2 * length bs
          nf = length_map (λ i. machine.a_value (Rattle.value_ops.specs.declared.values.Value.TheVariants.Integer i)) (flat bs) ∙ flat_length bs

          many : 2 * dimensions pairs ≡ length (integer_contents (flat bs))
          many = ap (λ z. 2 * z) (sym q.1) ∙ sym nf

          ekr : ka + length xs ≡ kr
          ekr = omega arith

          eke : kr + decls_size (known outside) (known inside) rest ≡ k + (bounds_size (known outside) pairs + (1 + (length xs + decls_size (known outside) (known inside) rest)))
          eke = omega arith

          l1 : Later w b s.arrays w b s2.arrays
          l1 = record { slots = λ i z y. y; entries = λ i z y. y; frames = λ i z y. y; procedures = λ r y. y; targets = λ r y. y; marks = refl; same = λ j a y. g1.arrays j (Some a) y }

          d2 : Declaring program.instructions w b0 h0 s0 c0 e start b h1 s2 count v (variable_count rest + n) p active
          d2 = record {
            over = d.over;
            grew = grew_on h0 s0 h s h1 s2 d.grew (grew_on h s h1 s1 h1 s2 g1 (grew_to h1 s1 s2 refl refl refl refl (λ d. d)));
            settled = st.settled;
            cells = let y = st.cells in omega (arith, y, nf);
            names = d.names;
            is = st.listed ∙ d.is;
            listed = listed_later program.instructions l1 b.entries [] (state.in_block p d.names ∷ active) d.listed;
            current = d.current;
            framed = d.framed;
            counted = d.counted;
            reserved = d.reserved;
            below = d.below;
          }
  decls_then R at w b0 h0 s0 c0 e start p active l0 es f more inside (procedure_and x result formals body rest) (decls_procedure ed) outside b h s k count v n na held q1 q2 q3 code d ft fm few none g =
      let kb = k + text_size (size (known (body_context inside formals)) body + result_size result) in
      let pc = procedure_code program.instructions at k inside x result formals body (code_decls outside inside at kb rest) more code in
      let ef : size (known (body_context inside formals)) body ≡ size (formals_known formals (known inside)) body = ap (λ l. size l body) (known_formals (inside.level + 1) 1 formals inside.names) in
      let ek : kb + decls_size (known outside) (known inside) rest ≡ k + decls_size (known outside) (known inside) (procedure_and x result formals body rest) = omega (arith, ef) in
      follows_from set program R w.targets h0 s0 h0 s0 (mach b h s k held) (mach b h s kb held) (after (go_decls set later rest at v na e s) f) (one_row set program (mach b h s k held) (mach b h s kb held) _ pc.head (ap (λ i. doing.on tt (mach b h s i held)) pc.behind_is)) (grew_here h0 s0)
      (decls_then R at w b0 h0 s0 c0 e start p active l0 es f more inside rest ed outside b h s kb count v n na held q1 q2 q3 (subst (λ i. HasAt program.instructions i (code_decls outside inside at kb rest ▸ more)) pc.behind_is pc.rest) d ft (let y = le-max_right (marks body) (decls_marks rest) in omega (arith, y, fm)) few none
      (λ b2 h2 s2 held2 d2 l2 da has2 pr lb fc. subst (λ i. Follows set program R w.targets h0 s0 (mach b2 h2 s2 i held2) (f tt s2)) (sym ek) (g b2 h2 s2 held2 d2 l2 da (subst (λ i. HasAt program.instructions i more) ek has2) pr lb fc)))

  -- the stacks behind all declarations, with their mark
  abbrev pub marked_base : State Bodied → Base → Base
  marked_base s b = record b { entries = machine.declared (length b.slots) s.depth (length b.frames) ∷ b.entries }

  -- a block begins
  opened_declaring : (at : Place) (w : World) (b : Base) (h : Heap) (s : State Bodied) (c : Context) (e env : Env) (p : Place) (decls : Decls) (items : Items) → (l : At program.instructions w b h s c e) →
      Declaring program.instructions w b h s c e l.start (opened_base p (length s.memory) (variable_count decls) b) h (opened_state at env decls items p s) (c.count + 1) (length s.memory) (variable_count decls + 0) p s.active
  opened_declaring at w b h s c e env p decls items l = record {
    over = o;
    grew = gr;
    settled = record {
      apart = λ k x y u v. st.apart k x y (stands_in b b1 h k x refl u) (stands_in b b1 h k y refl v);
      within = λ k x u. let z = st.within k x (stands_in b b1 h k x refl u) in let n = length-append s.memory (replicate (variable_count decls) None) in omega (arith, z, n);
      kept = λ k i. kept k (numbers_within (length s.memory) (variable_count decls) b.reserved k i);
      has = st.has;
      count = st.count;
      as_many = st.as_many;
      standard = st.standard;
    };
    cells = l.agrees.cells;
    names = [];
    is = refl;
    listed = (refl, refl, listed_later program.instructions la b.entries [] s.active l.agrees.listed);
    current = refl;
    framed = refl;
    counted = let q = l.counted in omega (arith, q);
    reserved = ap (λ n. numbers (length s.memory) n b.reserved) (omega arith);
    below = λ k i. get_below s.memory k None (st.kept k i).0;
  }
    where
      st : Settled b h s.memory s.records s.fields
      st = l.agrees.settled

      b1 : Base
      b1 = opened_base p (length s.memory) (variable_count decls) b

      s1 : State Bodied
      s1 = opened_state at env decls items p s

      o : Over b b1
      o = record { slots = []; slots_are = refl; entries = machine.a_block p (length b.slots) ∷ []; entries_are = refl; frames = []; frames_are = refl; reserved = λ k i. numbers_more (length s.memory) (variable_count decls) b.reserved k i }

      gr : Grew h s h s1
      gr = record { memory = let n = length-append s.memory (replicate (variable_count decls) None) in omega (arith, n); arrays = λ k a q. get_append s.arrays _ k a q; procedures = λ k a q. get_append s.procedures _ k a q; labels = omega arith; fields = λ f k q. q; fresh = λ f k q. inl q; deep = λ z. z }

      la : Later w b s.arrays w b1 s1.arrays
      la = later_over w b b1 s.arrays s1.arrays o gr.arrays

      kept : (k : ℕ) → ((i : ℕ) × (i < variable_count decls) × (k ≡ length s.memory + i)) ⊎ Has k b.reserved → (slice_get s1.memory k ≡ Some None) × ((x : Where) → Stands b1 h k x → ⊥)
      kept k (inl q) = (ap (slice_get s1.memory) q.2 ∙ get_behind s.memory (replicate (variable_count decls) None) q.0 ∙ get_replicated (variable_count decls) q.0 None q.1, λ x u. let z = st.within k x (stands_in b b1 h k x refl u) in let y = q.2 in absurd (omega (arith, z, y)))
      kept k (inr q) = let z = st.kept k q in (get_append s.memory _ k None z.0, λ x u. z.1 x (stands_in b b1 h k x refl u))

  -- the names of a block are there, its procedures may be called, and its labels jumped to
  abbrev pub block_world : List Known → List Known → Context → Option ℕ → (p k : ℕ) → Decls → Made → Base → (ki : ℕ) → Items → World → World
  block_world outside inside c link p k decls made b ki items w = record { procedures = own_procedures outside inside c link p k decls w.procedures; targets = item_targets inside made b made.first ki items w.targets; marks = w.marks }

  block_at : (at : Place) (w : World) (b : Base) (h : Heap) (s : State Bodied) (c : Context) (e : Env) (p : Place) (decls : Decls) (items : Items) (k : ℕ) (more : List Coded) (l : At program.instructions w b h s c e) (b' : Base) (h' : Heap) (s' : State Bodied) →
      DeclsWritten decls → decls_marks decls ≤ w.marks → HasAt program.instructions k (code_decls (with_entries 1 c) (block_context c k decls items) at k decls ▸ more) →
      Declaring program.instructions w b h s c e l.start b' h' s' (c.count + 1 + entry_count decls) (length s.memory + variable_count decls) 0 p s.active → DeclsAt b' s'.arrays l.start (c.count + 1) (length s.memory) (length s.arrays) decls →
      ((j : ℕ) (x : Bodied) → slice_get (s.procedures ++ bodied_procedures at (extend (decl_things (length s.memory) (length s.arrays) (length s.procedures) decls (label_things s.labels (label_places items))) e) decls) j ≡ Some x → slice_get s'.procedures j ≡ Some x) → s.labels + length (label_places items) ≤ s'.labels →
      (made : Made) → made.first ≡ s.labels → made.depth ≡ s'.depth → made.count ≡ length (label_places items) →
      At program.instructions (block_world (known c) (known (block_context c k decls items)) (block_context c k decls items) b'.current (length s.procedures) k decls made (marked_base s' b') (k + (decls_size (known c) (known (block_context c k decls items)) decls + 1)) items w) (marked_base s' b') h' s' (block_context c k decls items) (extend (decl_things (length s.memory) (length s.arrays) (length s.procedures) decls (label_things s.labels (label_places items))) e)
  block_at at w b h s c e p decls items k more l b' h' s' dw fm code d da pr lb made mf md mc = record {
    agrees = record {
      settled = settled_in b' b3 h' s'.memory s'.records s'.fields refl (λ i z. z) d.settled;
      cells = d.cells;
      listed = listed_later program.instructions l3 b'.entries [] s'.active (subst (Listed program.instructions b' s'.arrays b'.entries []) (sym d.is) d.listed);
      lives = λ q i. lives q (live_own program.instructions w3 b3 s' (with_entries 1 c) ci b'.current at env (length s.procedures) k decls w.procedures more dw fm code (λ j x y. pr (length s.procedures + j) x (get_behind s.procedures (bodied_procedures at env decls) j ∙ y)) sh (record { start = l.start; starts = st }) q i);
      above = λ t i. above t (own_or_outer K made b3 made.first ki items w.targets t i);
      deep = d.grew.deep l.agrees.deep;
    };
    shows = sh;
    start = l.start;
    starts = st;
    counted = let q = d.counted in omega (arith, q);
  }
    where
      ci : Context
      ci = block_context c k decls items

      K : List Known
      K = known ci

      kb : K ≡ block_known decls items (known c)
      kb = known_block c k decls items

      env : Env
      env = extend (decl_things (length s.memory) (length s.arrays) (length s.procedures) decls (label_things s.labels (label_places items))) e

      b3 : Base
      b3 = marked_base s' b'

      ki : ℕ
      ki = k + (decls_size (known c) K decls + 1)

      w3 : World
      w3 = block_world (known c) K ci b'.current (length s.procedures) k decls made b3 ki items w

      o : Over b b3
      o = record { slots = d.over.slots; slots_are = d.over.slots_are; entries = machine.declared (length b'.slots) s'.depth (length b'.frames) ∷ d.over.entries; entries_are = ap (λ z. machine.declared (length b'.slots) s'.depth (length b'.frames) ∷ z) d.over.entries_are; frames = d.over.frames; frames_are = d.over.frames_are; reserved = d.over.reserved }

      l3 : Later w b' s'.arrays w b3 s'.arrays
      l3 = record { slots = λ i z y. y; entries = λ i z y. top_more _ b'.entries i z y; frames = λ i z y. y; procedures = λ q i. i; targets = λ t i. i; marks = refl; same = λ i a y. y }

      l4 : Later w b s.arrays w3 b3 s'.arrays
      l4 = let z = later_over w b b3 s.arrays s'.arrays o d.grew.arrays in record { slots = z.slots; entries = z.entries; frames = z.frames; procedures = λ q i. more_procedures (known c) K ci b'.current (length s.procedures) k decls w.procedures q i; targets = λ t i. more_targets K made b3 made.first ki items w.targets t i; marks = refl; same = z.same }

      st : doing.start_at b3.frames (Some b3.current) ≡ Some l.start
      st = ap (λ t. doing.start_at b'.frames (Some t)) d.current ∙ start_later b.frames b3.frames l4.frames (Some b.current) l.start l.starts

      mark_at : on_top_of b3.entries (l.start + (c.count + 1 + entry_count decls)) ≡ Some (machine.declared (length b'.slots) s'.depth (length b'.frames))
      mark_at = top_at _ b'.entries (l.start + (c.count + 1 + entry_count decls)) d.counted

      outer : Shows program.instructions w3 b3 s'.arrays e c.names c.level b'.current
      outer = subst (λ t. Shows program.instructions w3 b3 s'.arrays e c.names c.level t) (sym d.current) (shows_later program.instructions l4 e c.names c.level b.current l.shows)

      sh : Shows program.instructions w3 b3 s'.arrays env ci.names c.level b'.current
      sh = subst (λ n. Shows program.instructions w3 b3 s'.arrays env (Rattle.phrase_code.specs.Coding.decl_stands (known c) n c.level (c.count + 1) k decls (Rattle.phrase_code.specs.Coding.item_stands n c.level (c.count + 1 + entry_count decls) (k + (decls_size (known c) n decls + 1)) items c.names)) c.level b'.current) kb
          (shows_decls program.instructions w3 b3 s'.arrays c.level b'.current l.start st (known c) K ci (c.count + 1) (length s.memory) (length s.arrays) (length s.procedures) k decls w.procedures _ e _ (decls_later l3 l.start (c.count + 1) (length s.memory) (length s.arrays) decls da) (λ q i. i)
          (shows_items program.instructions w3 b3 s'.arrays c.level b'.current l.start st made (c.count + 1 + entry_count decls) refl (let q = d.counted in omega (arith, q)) (mark_at ∙ ap (λ z. Some (machine.declared (length b'.slots) z (length b'.frames))) (sym md)) K s.labels ki items w.targets e c.names
          (λ t i. subst (λ z. Has t (item_targets K made b3 z ki items w.targets)) (sym mf) i) outer))

      lives : (q : LiveProcedure) → Lives program.instructions w3 b3 s' q ⊎ Has q w.procedures → Lives program.instructions w3 b3 s' q
      lives q (inl z) = z
      lives q (inr z) = lives_later program.instructions s s' refl refl l4 d.grew.procedures q (l.agrees.lives q z)

      above : (t : Target) → Rattle.code_simulation.proofs.Items.Own K made b3 made.first ki items t ⊎ Has t w.targets → Above program.instructions b3 s' t
      above t (inr z) = above_over program.instructions b b3 s s' t o d.grew.labels (l.agrees.above t z)
      above t (inl z) = let i = z.index in let few = z.few in subst (Above program.instructions b3 s') (sym z.is) (record { slots = []; slots_are = refl; entries = []; entries_are = refl; frames = []; frames_are = refl; reserved = λ j y. y; number = omega (arith, few, mf, lb) })

  -- a block is left
  left_row : (at : Place) (b : Base) (h : Heap) (s : State Bodied) (k n position start : ℕ) (held : Content) (b3 : Base) (p : Place) → Over b b3 → b3.frames ≡ b.frames → b3.current ≡ b.current → doing.start_at b3.frames (Some b3.current) ≡ Some start → start + position ≡ length b.entries → on_top_of b3.entries (start + position) ≡ Some (machine.a_block p (length b.slots)) →
      does set program at (instr.LeaveBlock position) (mach b3 h s k held) ≡ doing.on tt (mach b h (record s { cells = n; active = behind_first s.active }) (k + 1) held)
  left_row at b h s k n position start held b3 p o ef ec st q e =
      ap (λ z. doing.after (doing.after (there (doing.entry_on b3.entries z position) m0) Rattle.stack_code.specs.Table.block_cells) (λ i. doing.cut_cells i >> (Rattle.stack_code.specs.Table.cut_to_position position >> go_on))) st
      ∙ ap (λ z. doing.after (doing.after (there z m0) Rattle.stack_code.specs.Table.block_cells) (λ i. doing.cut_cells i >> (Rattle.stack_code.specs.Table.cut_to_position position >> go_on))) e
      ∙ ap (λ z. doing.after (doing.after (there z (record m0 { cells = lowest m0.cells (length b.slots) })) (λ i. doing.cut_entries (i + position))) (λ z. go_on)) st
      ∙ ap (λ z. doing.on tt (record m0 { pc = k + 1; cells = z; entries = lowest b3.entries (start + position) })) cells_are
      ∙ ap (λ z. doing.on tt (record m0 { pc = k + 1; cells = map (content_of s.memory) b.slots; entries = z })) (ap (lowest b3.entries) q ∙ ap (λ z. lowest z (length b.entries)) o.entries_are ∙ lowest_append o.entries b.entries)
      ∙ ap (λ z. doing.on tt (record m0 { pc = k + 1; cells = map (content_of s.memory) b.slots; entries = b.entries; frames = z; display = doing.outwards z b3.current })) ef
      ∙ ap (λ z. doing.on tt (record m0 { pc = k + 1; cells = map (content_of s.memory) b.slots; entries = b.entries; frames = b.frames; current = z; display = doing.outwards b.frames z })) ec
    where
      m0 : Machine
      m0 = mach b3 h s k held

      cells_are : lowest m0.cells (length b.slots) ≡ map (content_of s.memory) b.slots
      cells_are = ap (λ l. lowest (map (content_of s.memory) l) (length b.slots)) o.slots_are ∙ ap (λ l. lowest l (length b.slots)) (map_append (content_of s.memory) o.slots b.slots)
          ∙ ap (lowest (map (content_of s.memory) o.slots ++ map (content_of s.memory) b.slots)) (sym (length_map (content_of s.memory) b.slots)) ∙ lowest_append (map (content_of s.memory) o.slots) (map (content_of s.memory) b.slots)

  module _ (hl : LaterFollows set program later) (spotless : (made : Made) (at : Place) (items : Items) (e : Env) (s : State Bodied) → OnAll NoSpot (caught made (λ j. later (items_job made at items e j)) (go_items set later items at e s))) where
    block_main : (at : Place) (p : Place) (decls : Decls) (items : Items) → EachDecl decls → EachItem set program later items → DeclsWritten decls → ItemsWritten items → (w : World) (b : Base) (h : Heap) (s : State Bodied) (c : Context) (e : Env) (k ki : ℕ) (held : Content) →
        HasAt program.instructions k (one at (instr.EnterBlock p) ▸ code_decls (with_entries 1 c) (block_context c (k + 1) decls items) at (k + 1) decls ▸ one at instr.Declared ▸ code_items (block_context c (k + 1) decls items) at ki items ▸ one at (instr.LeaveBlock c.count)) →
        ki ≡ k + 1 + (decls_size (known c) (known (block_context c (k + 1) decls items)) decls + 1) → At program.instructions w b h s c e → Fits program.marks w b (2 + max (decls_marks decls) (items_marks items)) →
        Follows set program (Gives b s.active (ki + items_size (known (block_context c (k + 1) decls items)) items + 1)) w.targets h s (mach b h s k held) (Rattle.program_meaning.specs.Environments.block set later at p decls items e (λ n. go_decls set later decls at n.variables n.arrays e) (λ f. go_items set later items at f) s)
    block_main at p decls items ed ei dw iw w b h s c e k ki held code qi l ft =
        enter_in_room set program m0 m0 (record { at = at; does = instr.EnterBlock p }) (machine.a_block p (length m0.cells)) go_on (room_for_entry ft) refl
        (λ d0. follows_from set program R w.targets h s h s m0 (mach b1 h s1 (k + 1) held) whole (one_row set program m0 (mach b1 h s1 (k + 1) held) (record { at = at; does = instr.EnterBlock p }) code.0 (d0 ∙ ap (λ z. doing.on tt (record (mach b1 h s1 (k + 1) held) { cells = map (content_of s.memory) b.slots; fields = map (field_of s.memory) h.fields; entries = machine.a_block p z ∷ b.entries })) (length_map (content_of s.memory) b.slots)
        ∙ ap (λ z. doing.on tt (record (mach b1 h s1 (k + 1) held) { cells = z; fields = map (field_of s.memory) h.fields })) (sym (cells_appended b h s.memory (replicate (variable_count decls) None) s.records s.fields l.agrees.settled))
        ∙ ap (λ z. doing.on tt (record (mach b1 h s1 (k + 1) held) { fields = z })) (sym (fields_appended b h s.memory (replicate (variable_count decls) None) s.records s.fields l.agrees.settled)))) (grew_here h s)
        (follows_assoc set program R w.targets h s (mach b1 h s1 (k + 1) held) (after (go_decls set later decls at (length s.memory) (length s.arrays) e s1) F1) F2 F3
        (follows_assoc set program R w.targets h s (mach b1 h s1 (k + 1) held) (go_decls set later decls at (length s.memory) (length s.arrays) e s1) F1 (λ r s4. after (F2 r s4) F3)
        (decls_then R at w b h s c e l.start p s.active l refl (λ z s3. after (F1 z s3) (λ r s4. after (F2 r s4) F3)) (one at instr.Declared ▸ code_items ci at ki items ▸ one at (instr.LeaveBlock c.count)) ci decls ed (with_entries 1 c) b1 h s1 (k + 1) (c.count + 1) (length s.memory) 0 (length s.arrays) held refl refl refl
        code.1 (opened_declaring at w b h s c e env p decls items l) fo (let y = le-max_left (decls_marks decls) (items_marks items) in omega (arith, y)) (omega arith) (λ i z. get_behind s.arrays (replicate (array_count decls) None) i ∙ get_replicated (array_count decls) i None z) rest))))
      where
        ci : Context
        ci = block_context c (k + 1) decls items

        K : List Known
        K = known ci

        kl : ℕ
        kl = ki + items_size K items

        R : state.Given → Heap → State Bodied → Machine → Type 0
        R = Gives b s.active (kl + 1)

        env : Env
        env = extend (decl_things (length s.memory) (length s.arrays) (length s.procedures) decls (label_things s.labels (label_places items))) e

        m0 : Machine
        m0 = mach b h s k held

        b1 : Base
        b1 = opened_base p (length s.memory) (variable_count decls) b

        s1 : State Bodied
        s1 = opened_state at env decls items p s

        most : ℕ
        most = max (decls_marks decls) (items_marks items)

        fo : Fits program.marks w b1 (1 + most)
        fo = fits_block (numbers (length s.memory) (variable_count decls) b.reserved) p (length b.slots) (fits_less (omega arith) ft)

        made_of : State Bodied → Made
        made_of s3 = record { first = s.labels; count = length (label_places items); cells = s3.cells; depth = s3.depth; active = s3.active }

        F1 : Unit {0} → M Bodied state.Given
        F1 z s3 = caught (made_of s3) (λ j. later (items_job (made_of s3) at items env j)) (go_items set later items at env s3)

        F2 : state.Given → M Bodied state.Given
        F2 r = state.◌>>◌ (state.set_cells s.cells) (state.give r)

        F3 : state.Given → M Bodied state.Given
        F3 r = state.◌>>◌ state.pop_entry (state.give r)

        whole : Outcome Bodied state.Given
        whole = after (after (after (go_decls set later decls at (length s.memory) (length s.arrays) e s1) F1) F2) F3

        rest : (b' : Base) (h' : Heap) (s' : State Bodied) (held' : Content) → Declaring program.instructions w b h s c e l.start b' h' s' (c.count + 1 + entry_count decls) (length s.memory + variable_count decls) 0 p s.active → Later w b1 s1.arrays w b' s'.arrays → DeclsAt b' s'.arrays l.start (c.count + 1) (length s.memory) (length s.arrays) decls → HasAt program.instructions (k + 1 + decls_size (known c) K decls) (one at instr.Declared ▸ code_items ci at ki items ▸ one at (instr.LeaveBlock c.count)) →
            ((j : ℕ) (x : Bodied) → slice_get s1.procedures j ≡ Some x → slice_get s'.procedures j ≡ Some x) → s1.labels ≤ s'.labels → Fits program.marks w b' (1 + most) → Follows set program R w.targets h s (mach b' h' s' (k + 1 + decls_size (known c) K decls) held') (after (F1 tt s') (λ r s4. after (F2 r s4) F3))
        rest b' h' s' held' d l1 da has pr lb fb =
            enter_in_room set program m1 m1 (record { at = at; does = instr.Declared }) (machine.declared (length m1.cells) s'.depth (length b'.frames)) go_on (room_for_entry fb) refl
            (λ d1. follows_from set program R w.targets h s h' s' m1 (mach b3 h' s' ki held') (after (F1 tt s') (λ r s4. after (F2 r s4) F3)) (one_row set program m1 (mach b3 h' s' ki held') (record { at = at; does = instr.Declared }) has.0
            (d1 ∙ ap (λ z. doing.on tt (record (mach b3 h' s' (kd + 1) held') { entries = machine.declared z s'.depth (length b'.frames) ∷ b'.entries })) (length_map (content_of s'.memory) b'.slots) ∙ ap (λ z. doing.on tt (mach b3 h' s' z held')) ei3)) d.grew
            (follows_then set program (λ r h4 s4 m4. Gives b3 s'.active kl r h4 s4 m4 × NoSpot r) R w.targets h' s' (mach b3 h' s' ki held') (F1 tt s') (λ r s4. after (F2 r s4) F3)
            (follows_with set program NoSpot (Gives b3 s'.active kl) w.targets h' s' (mach b3 h' s' ki held') (F1 tt s') (spotless made at items env s')
            (caught_follows set program (Gives b3 s'.active kl) K made b3 ki items w.targets h' s' (mach b3 h' s' ki held') (λ j. later (items_job made at items env j)) (go_items set later items at env s') refl (λ t i. (l.agrees.above t i).number) l3.agrees.deep
            (items_follow set program later items ei at w3 b3 h' s' ci env ki held' hi l3 fi)
            (λ j h4 s4 fj st4 g4. hl.items made at items iw w.targets w3 b3 h4 (back_to made s4) ci env ki j machine.nothing refl refl (λ t i. (l.agrees.above t i).number) d.cells refl fj hi
            (at_on program.instructions w3 b3 h' h4 s' (back_to made s4) ci env (grew_on h' s' h4 s4 h4 (back_to made s4) g4 (grew_to h4 s4 (back_to made s4) refl refl refl refl (λ z. l3.agrees.deep))) st4 d.cells refl l3) fi l3.agrees.deep)))
            (λ r h4 s4 m4 q g4.
            let y = q.0.reached in
            let x = q.0.held in
            let s5 : State Bodied = record s4 { cells = s.cells; active = behind_first s4.active } in
            follows_at set program R w.targets h4 s4 m4 (mach b3 h4 s4 kl x) (on r s5) y.is
            (follows_from set program R w.targets h4 s4 h4 s5 (mach b3 h4 s4 kl x) (mach b h4 s5 (kl + 1) x) (on r s5)
            (one_row set program (mach b3 h4 s4 kl x) (mach b h4 s5 (kl + 1) x) _ hv (left_row at b h4 s4 kl s.cells c.count l.start x b3 p o d.framed d.current st l.counted block_entry))
            (grew_to h4 s4 s5 refl refl refl refl (deep_behind s4))
            (follows_on set program R w.targets h4 s5 (mach b h4 s5 (kl + 1) x) (mach b h4 s5 (kl + 1) x) r already
            (record { held = x; holds = holds_below b b3 h4 r x q.1 q.0.holds; reached = record { is = refl; settled = Rattle.code_simulation.proofs.Jumping.settled_above b b3 h4 s4.memory s4.records s4.fields o y.settled; cells = l.agrees.cells; listed = ap behind_first (y.listed ∙ d.is) } }))))))
          where
            few : decls_marks decls ≤ w.marks
            few = let y = le-max_left (decls_marks decls) (items_marks items) in let m = fits_most ft in let n = ft.marks_are in omega (arith, y, m, n)

            kd : ℕ
            kd = k + 1 + decls_size (known c) K decls

            m1 : Machine
            m1 = mach b' h' s' kd held'

            made : Made
            made = made_of s'

            b3 : Base
            b3 = marked_base s' b'

            ki' : ℕ
            ki' = k + 1 + (decls_size (known c) K decls + 1)

            ei3 : kd + 1 ≡ ki
            ei3 = omega (arith, qi)

            w3 : World
            w3 = block_world (known c) K ci b'.current (length s.procedures) (k + 1) decls made b3 ki items w

            fi : Fits program.marks w3 b3 (items_marks items)
            fi = fits_world w3 refl (fits_right (decls_marks decls) (items_marks items) (fits_declared_mark (length b'.slots) s'.depth (length b'.frames) fb))

            hi0 : HasAt program.instructions ki (code_items ci at ki items ▸ one at (instr.LeaveBlock c.count))
            hi0 = subst (λ z. HasAt program.instructions z (code_items ci at ki items ▸ one at (instr.LeaveBlock c.count))) ei3 has.1

            hi : HasAt program.instructions ki (code_items ci at ki items)
            hi = has_front program.instructions ki (code_items ci at ki items) _ hi0

            hv : slice_get program.instructions kl ≡ Some (record { at = at; does = instr.LeaveBlock c.count })
            hv = (has_back program.instructions ki (items_size K items) (code_items ci at ki items) _ (items_sized ci at ki items).by hi0).0

            l3 : At program.instructions w3 b3 h' s' ci env
            l3 = subst (λ z. At program.instructions (block_world (known c) K ci b'.current (length s.procedures) (k + 1) decls made b3 z items w) b3 h' s' ci env) (sym qi)
                (block_at at w b h s c e p decls items (k + 1) (one at instr.Declared ▸ code_items ci at ki items ▸ one at (instr.LeaveBlock c.count)) l b' h' s' dw few code.1 d da pr lb made refl refl refl)

            o : Over b b3
            o = record { slots = d.over.slots; slots_are = d.over.slots_are; entries = machine.declared (length b'.slots) s'.depth (length b'.frames) ∷ d.over.entries; entries_are = ap (λ z. machine.declared (length b'.slots) s'.depth (length b'.frames) ∷ z) d.over.entries_are; frames = d.over.frames; frames_are = d.over.frames_are; reserved = d.over.reserved }

            st : doing.start_at b3.frames (Some b3.current) ≡ Some l.start
            st = ap (λ t. doing.start_at b'.frames (Some t)) d.current ∙ start_later b.frames b'.frames (later_over w b b' s.arrays s'.arrays d.over d.grew.arrays).frames (Some b.current) l.start l.starts

            block_entry : on_top_of b3.entries (l.start + c.count) ≡ Some (machine.a_block p (length b.slots))
            block_entry = top_more _ b'.entries (l.start + c.count) _ (l1.entries (l.start + c.count) _ (top_at (machine.a_block p (length b.slots)) b.entries (l.start + c.count) l.counted))

    pub block_follows : (st : Option Place) (p : Place) (decls : Decls) (items : Items) → EachDecl decls → EachItem set program later items → DeclsWritten decls → ItemsWritten items → PhraseFollows set program later (Block st p decls items)
    block_follows st p decls items ed ei dw iw = record { by = by }
      where
        by : (u : Use) (at : Place) → CodeDoes set program u at (Block st p decls items) (go set later (Block st p decls items) u at)
        by for_place at w b h s c e mode k held code wanted l ft = tt
        by for_value at w b h s c e mode k held code wanted l ft =
            let s0 = begun_state st s in
            let k0 = k + begin_size st in
            let K = known (block_context c (k0 + 1) decls items) in
            let kk = known_block c (k0 + 1) decls items in
            let ki = k0 + 2 + decls_size (known c) (block_known decls items (known c)) decls in
            let ds = ap (λ z. decls_size (known c) z decls) kk in
            let is' = ap (λ z. items_size z items) kk in
            ends_at set program b s.active (ki + items_size K items + 1) (k + size (known c) (Block st p decls items)) w.targets h s (mach b h s k held) (go set later (Block st p decls items) for_value at e s) (omega (arith, is'))
            (begin_then set program (Gives b s.active (ki + items_size K items + 1)) w.targets st w b h s k held _ _ code l.agrees (λ has.
            gives_as set program b s0.active s.active (ki + items_size K items + 1) w.targets h s0 (mach b h s0 k0 held) _ (active_begun set program st s)
            (block_main (innermost at st) p decls items ed ei dw iw w b h s0 c e k0 ki held has (omega (arith, ds)) (at_begun set program st w b h s c e l) ft)))
