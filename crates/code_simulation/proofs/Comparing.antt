-- Actuals are compared with formals: the machine reads them as the meaning does.
use Rattle.std.proofs.Common.{◌≡◌, ℕ, ◌+◌, ◌⊎◌, inl, inr, List, [], ◌∷◌, length, Option, Some, None, refl, sym, ap, ◌∙◌, arith}
use Rattle.std.specs.Prelude.{slice_get, Bool, true, false}
use Rattle.value_ops.specs.declared.places.Place.{Place}
use Rattle.value_ops.specs.declared.faults.Fault.TheVariants as fault
use Rattle.algolw_typing.specs.Meanings as typing
use Rattle.algolw_typing.specs.Meanings.{FormalType}
use Rattle.program_meaning.specs.Phrases.{Named, Formal, Actual, Given, Alone, Subarray, Actuals, no_actuals, actual_and}
use Rattle.program_meaning.specs.State as state
use Rattle.program_meaning.specs.State.{State, Setting, Outcome, M, after}
use Rattle.program_meaning.specs.Copying as copying
use Rattle.program_meaning.specs.Copying.{actual_count, stars, free_of}
use Rattle.program_meaning.specs.Environments as meaning
use Rattle.program_meaning.specs.Environments.{Env, Thing, to_constant, to_variable, to_array, to_label, to_procedure, thunk, Bodied, Job, find, compared, actual_parts}
use Rattle.stack_code.specs.Instr as instr
use Rattle.stack_code.specs.Instr.{Instr, Reading}
use Rattle.stack_code.specs.Code.{Code, Coded, procedure_of, text_of}
use Rattle.stack_code.specs.Machine as machine
use Rattle.stack_code.specs.Machine.{Machine, Content}
use Rattle.stack_code.specs.Doing as doing
use Rattle.stack_code.specs.Doing.{there, give, source_out, go_on, ◌>>=◌, ◌>>◌}
use Rattle.stack_code.specs.Table as table
use Rattle.stack_code.specs.Table.{does, parts, head_part, read_part, array_part, name_part, procedure_part, they_fit, compare}
use Rattle.phrase_code.specs.Sizes.{Kind, a_variable, an_array, a_name_formal, a_procedure_formal, text_of_size}
use Rattle.phrase_code.specs.Coding.{Context, Stand, known, stand_at, links, source_by, source_of, reading_of_name, reading_of_subarray, text_heads, code_text, code_texts}
use Rattle.code_simulation.specs.Relation.{HasAt, Base, Heap, mach, World, LiveProcedure, Lives, HasArray, Means, At, content_of_variable}
use Rattle.code_simulation.specs.Following.{Follows}
use Rattle.code_simulation.proofs.Stacks.{has_front, has_back}
use Rattle.code_simulation.proofs.Sizes.{text_of_sized}
use Rattle.code_simulation.proofs.Rows.{one_row, follows_from, grew_here}
use Rattle.code_simulation.proofs.Values.{fault_here}
use Rattle.code_simulation.proofs.Names.{content_is, Found, found}
use Rattle.code_simulation.proofs.ActualLists.{ActualDoes, EachActual, actuals_and}
use Rattle.code_simulation.proofs.CallRows.{closure_of, head_of}
use Rattle.code_simulation.proofs.Sources.{StandsFor, stands_declared, stands_handed, source_is, IsRead, IsUnread, Nameless, reading_is}

-- a variable is read as nothing
variable_part : (program : List Coded) (f : FormalType) (o : Option (Option Rattle.value_ops.specs.declared.values.Value.Value)) → name_part program f (content_of_variable o) ≡ typing.typeless
variable_part program f None = refl
variable_part program f (Some None) = refl
variable_part program f (Some (Some v)) = refl

variable_array : (n : ℕ) (o : Option (Option Rattle.value_ops.specs.declared.values.Value.Value)) → array_part (content_of_variable o) n ≡ typing.typeless
variable_array n None = refl
variable_array n (Some None) = refl
variable_array n (Some (Some v)) = refl

-- what the machine finds for a name, and how it reads that
record IsFound (program : List Coded) (b : Base) (h : Heap) (s : State Bodied) (c : Context) (k : ℕ) (held : Content) (t : Thing) (name : Stand) : Type 0 where
  pub content : Content
  pub source : source_out (source_of c name) (mach b h s k held) ≡ doing.on content (mach b h s k held)
  pub as_alone : (f : FormalType) → name_part program f content ≡ meaning.name_part s f (Some t)
  pub with_stars : (n : ℕ) → array_part content n ≡ meaning.subarray_part s (Some t) n

module _ (program : Code) (w : World) (b : Base) (h : Heap) (s : State Bodied) (c : Context) (e : Env) (k : ℕ) (held : Content) (l : At program.instructions w b h s c e) where
  abbrev m0 : Machine
  m0 = mach b h s k held

  -- by the kind of the name
  source_by_kind : (name : Stand) (κ : Kind) (x : Content) → name.kind ≡ κ → source_out (source_by κ (links c name) name) m0 ≡ doing.on x m0 → source_out (source_of c name) m0 ≡ doing.on x m0
  source_by_kind name κ x e q = ap (λ z. source_out (source_by z (links c name) name) m0) e ∙ q

  procedure_found : (v : ℕ) (name : Stand) (q : LiveProcedure) (ld : Lives program.instructions w b s q) → v ≡ q.number → StandsFor b name c.level b.current q → IsFound program.instructions b h s c k held (to_procedure v) name
  procedure_found v name q ld en st = record {
    content = machine.a_procedure (closure_of q);
    source = source_is b h s k held c name q st;
    as_alone = λ f. ap (λ o. procedure_part f (procedure_of o)) ld.head ∙ ap (λ o. meaning.procedure_part f o) (sym ld.is) ∙ ap (λ n. meaning.procedure_part f (slice_get s.procedures n)) (sym en);
    with_stars = λ n. refl;
  }

  thing_found : (t : Thing) (name : Stand) → Means program.instructions w b s.arrays t name c.level b.current → Nameless (Some t) ⊎ IsFound program.instructions b h s c k held t name
  thing_found (to_label v) name x = inl tt
  thing_found (to_constant v) name x = inr (record { content = machine.a_value v; source = source_by_kind name a_variable _ x.0 (content_is b h s k held c name _ x.1); as_alone = λ f. refl; with_stars = λ n. refl })
  thing_found (to_variable v) name x = inr (record {
    content = content_of_variable (slice_get s.memory v);
    source = source_by_kind name a_variable _ x.0 (content_is b h s k held c name _ x.1);
    as_alone = λ f. variable_part program.instructions f (slice_get s.memory v);
    with_stars = λ n. variable_array n (slice_get s.memory v);
  })
  thing_found (to_array v given) name x = inr (record {
    content = machine.an_array x.1 given;
    source = source_by_kind name an_array _ x.0 (content_is b h s k held c name _ x.2);
    as_alone = λ f. array_read (stars given) x.3;
    with_stars = λ n. array_read n x.3;
  })
    where
      array_read : (n : ℕ) → HasArray b s.arrays v x.1 → typing.as_array x.1.type n ≡ copying.array_part (slice_get s.arrays v) n
      array_read n y = ap (λ z. typing.as_array z n) y.type ∙ ap (λ o. copying.array_part o n) (sym y.is)
  thing_found (to_procedure v) name (inl y) = inr (procedure_found v name y.procedure (l.agrees.lives y.procedure y.has) y.number (stands_declared w b v name c.level b.current y))
  thing_found (to_procedure v) name (inr y) = inr (procedure_found v name y.procedure (l.agrees.lives y.procedure y.has) y.number (stands_handed w b v name c.level b.current y))
  thing_found (thunk mk a env) name x = inr (record { content = machine.a_thunk x.1; source = either x.0; as_alone = λ f. ap (λ z. typing.a_phrase false (typing.gives_of z)) x.4.type; with_stars = λ n. refl })
    where
      either : ((name.kind ≡ a_name_formal) ⊎ (name.kind ≡ a_procedure_formal)) → source_out (source_of c name) m0 ≡ doing.on (machine.a_thunk x.1) m0
      either (inl q) = source_by_kind name a_name_formal _ q (content_is b h s k held c name _ x.2)
      either (inr q) = source_by_kind name a_procedure_formal _ q (content_is b h s k held c name _ x.2)

  -- what stands for nothing is read as nothing
  unread : (f : FormalType) (ot : Option Thing) → Nameless ot → typing.typeless ≡ meaning.name_part s f ot
  unread f None q = refl
  unread f (Some (to_label v)) q = refl
  unread f (Some (to_constant v)) q = absurd q
  unread f (Some (to_variable v)) q = absurd q
  unread f (Some (to_array v given)) q = absurd q
  unread f (Some (to_procedure v)) q = absurd q
  unread f (Some (thunk mk a env)) q = absurd q

  unread_array : (n : ℕ) (ot : Option Thing) → Nameless ot → typing.typeless ≡ meaning.subarray_part s ot n
  unread_array n None q = refl
  unread_array n (Some (to_label v)) q = refl
  unread_array n (Some (to_constant v)) q = absurd q
  unread_array n (Some (to_variable v)) q = absurd q
  unread_array n (Some (to_array v given)) q = absurd q
  unread_array n (Some (to_procedure v)) q = absurd q
  unread_array n (Some (thunk mk a env)) q = absurd q

  -- a name alone is read as the meaning reads it, and so is a subarray
  name_is_read : (f : FormalType) (ot : Option Thing) (os : Option Stand) → Found program.instructions w b s.arrays c.level b.current ot os → read_part program.instructions f (reading_of_name c os) m0 ≡ doing.on (meaning.name_part s f ot) m0
  name_is_read f ot os x = by (reading_is program.instructions w b s.arrays c ot os x)
    where
      by : IsRead c ot os (λ t name. Means program.instructions w b s.arrays t name c.level b.current) ⊎ IsUnread c ot os → read_part program.instructions f (reading_of_name c os) m0 ≡ doing.on (meaning.name_part s f ot) m0
      by (inr y) = ap (λ r. read_part program.instructions f r m0) y.name_unread ∙ ap (λ z. doing.on z m0) (unread f ot y.nameless)
      by (inl y) = both (thing_found y.thing y.name y.means_it)
        where
          both : Nameless (Some y.thing) ⊎ IsFound program.instructions b h s c k held y.thing y.name → read_part program.instructions f (reading_of_name c os) m0 ≡ doing.on (meaning.name_part s f ot) m0
          both (inl z) = absurd (y.named z)
          both (inr z) = ap (λ r. read_part program.instructions f r m0) y.name_read ∙ ap (λ r. doing.after r (λ c'. give (name_part program.instructions f c'))) z.source ∙ ap (λ p. doing.on p m0) (z.as_alone f) ∙ ap (λ o. doing.on (meaning.name_part s f o) m0) (sym y.thing_is)

  array_is_read : (f : FormalType) (n : ℕ) (ot : Option Thing) (os : Option Stand) → Found program.instructions w b s.arrays c.level b.current ot os → read_part program.instructions f (reading_of_subarray c n os) m0 ≡ doing.on (meaning.subarray_part s ot n) m0
  array_is_read f n ot os x = by (reading_is program.instructions w b s.arrays c ot os x)
    where
      by : IsRead c ot os (λ t name. Means program.instructions w b s.arrays t name c.level b.current) ⊎ IsUnread c ot os → read_part program.instructions f (reading_of_subarray c n os) m0 ≡ doing.on (meaning.subarray_part s ot n) m0
      by (inr y) = ap (λ r. read_part program.instructions f r m0) (y.subarray_unread n) ∙ ap (λ z. doing.on z m0) (unread_array n ot y.nameless)
      by (inl y) = both (thing_found y.thing y.name y.means_it)
        where
          both : Nameless (Some y.thing) ⊎ IsFound program.instructions b h s c k held y.thing y.name → read_part program.instructions f (reading_of_subarray c n os) m0 ≡ doing.on (meaning.subarray_part s ot n) m0
          both (inl z) = absurd (y.named z)
          both (inr z) = ap (λ r. read_part program.instructions f r m0) (y.subarray_read n) ∙ ap (λ r. doing.after r (λ c'. give (array_part c' n))) z.source ∙ ap (λ p. doing.on p m0) (z.with_stars n) ∙ ap (λ o. doing.on (meaning.subarray_part s o n) m0) (sym y.thing_is)

  -- the part of an actual whose text stands there
  head_is : (f : FormalType) (kh : ℕ) (at first : Place) (r : Reading) (behind : ℕ) → slice_get program.instructions kh ≡ Some (record { at = at; does = instr.Text (record { first = first; reading = r }) behind }) → head_part program.instructions f kh m0 ≡ read_part program.instructions f r m0
  head_is f kh at first r behind q = ap (λ o. doing.after (there (text_of o) m0) (λ t. read_part program.instructions f t.reading)) q

  module _ (set : Setting) (later : Job → M Bodied state.Given) where
    part_is : (a : Actual) → ActualDoes set program later a → (f : FormalType) (at : Place) (kh : ℕ) → HasAt program.instructions kh (code_text c at kh a) → head_part program.instructions f kh m0 ≡ doing.on (meaning.actual_part s e f a) m0
    part_is (Given v g first a) p f at kh code = head_is f kh at first _ _ code.0
    part_is (Alone p (Named x)) q f at kh code = head_is f kh at p _ _ code.0 ∙ name_is_read f (find e x) (stand_at c.names x) (found program.instructions w b s.arrays c.level b.current e c.names x l.shows)
    part_is (Subarray (Named x) given) q f at kh code = head_is f kh at at _ _ code.0 ∙ array_is_read f (free_of given) (find e x) (stand_at c.names x) (found program.instructions w b s.arrays c.level b.current e c.names x l.shows)
    part_is a p f at kh code = absurd p

    parts_are : (fs : List Formal) (given : Actuals) → EachActual set program later given → (at : Place) (kh : ℕ) → HasAt program.instructions kh (code_texts c at kh given) → parts program.instructions fs (text_heads (known c) kh given) m0 ≡ doing.on (actual_parts s e fs given) m0
    parts_are [] no_actuals p at kh code = refl
    parts_are [] (actual_and a rest) p at kh code = refl
    parts_are (f ∷ fs) no_actuals p at kh code = refl
    parts_are (f ∷ fs) (actual_and a rest) (actuals_and p ps) at kh code =
        let has1 = has_back program.instructions kh (text_of_size (known c) a) (code_text c at kh a) _ (text_of_sized c at kh a).by code in
        ap (λ r. doing.after r (λ z. parts program.instructions fs (text_heads (known c) (kh + text_of_size (known c) a) rest) >>= λ zs. give (z ∷ zs))) (part_is a p f.is at kh (has_front program.instructions kh (code_text c at kh a) _ code))
        ∙ ap (λ r. doing.after r (λ zs. give (meaning.actual_part s e f.is a ∷ zs))) (parts_are fs rest ps at (kh + text_of_size (known c) a) has1)

    heads_counted : (given : Actuals) (kh : ℕ) → length (text_heads (known c) kh given) ≡ actual_count given
    heads_counted no_actuals kh = refl
    heads_counted (actual_and a rest) kh = let q = heads_counted rest (kh + text_of_size (known c) a) in omega (arith, q)

    -- actuals are compared, where the call compares
    pub compare_then : {A : Type 0} (R : A → Heap → State Bodied → Machine → Type 0) (at : Place) (compares : Bool) (given : Actuals) → EachActual set program later given → (kh end : ℕ) (name : Stand) (q : LiveProcedure) (ld : Lives program.instructions w b s q) (K : Unit {0} → M Bodied A) → HasAt program.instructions kh (code_texts c at kh given) → StandsFor b name c.level b.current q →
        slice_get program.instructions k ≡ Some (record { at = at; does = instr.Compare compares (source_of c name) (text_heads (known c) kh given) end }) → Follows set program R w.targets h s (mach b h s (k + 1) held) (K tt s) → Follows set program R w.targets h s m0 (after (compared at compares e ld.bodied.formals given s) K)
    compare_then R at compares given ps kh end name q ld K texts st has g = by compares has
      where
        fs : List Formal
        fs = ld.bodied.formals

        heads : List ℕ
        heads = text_heads (known c) kh given

        ins : Bool → Instr
        ins t = instr.Compare t (source_of c name) heads end

        row : (t : Bool) → does set program at (ins t) m0 ≡ (table.compared program.instructions at t heads (head_of ld.bodied) >> go_on) m0
        row t = ap (λ r. doing.after r (compare set program at t heads end)) (source_is b h s k held c name q st) ∙ ap (λ o. doing.after (there (procedure_of o) m0) (λ p. table.compared program.instructions at t heads p >> go_on)) ld.head

        goes : (t : Bool) → slice_get program.instructions k ≡ Some (record { at = at; does = ins t }) → does set program at (ins t) m0 ≡ doing.on tt (mach b h s (k + 1) held) → Follows set program R w.targets h s m0 (K tt s)
        goes t i d = follows_from set program R w.targets h s h s m0 (mach b h s (k + 1) held) (K tt s) (one_row set program m0 (mach b h s (k + 1) held) _ i d) (grew_here h s) g

        by : (t : Bool) → slice_get program.instructions k ≡ Some (record { at = at; does = ins t }) → Follows set program R w.targets h s m0 (after (compared at t e fs given s) K)
        by false i = goes false i (row false)
        by true i = fit (meaning.they_fit at s e fs given) refl
          where
            tested : (t : Bool) → meaning.they_fit at s e fs given ≡ t → does set program at (ins true) m0 ≡ doing.after (doing.test t (give (tt {0})) (doing.fault_now fault.ActualsDoNotFit) m0) (λ z. go_on)
            tested t z = row true ∙ ap (λ r. doing.after (doing.after r (λ ps'. doing.test (they_fit at fs (length heads) ps') (give (tt {0})) (doing.fault_now fault.ActualsDoNotFit))) (λ y. go_on)) (parts_are fs given ps at kh texts)
                ∙ ap (λ n. doing.after (doing.test (they_fit at fs n (actual_parts s e fs given)) (give (tt {0})) (doing.fault_now fault.ActualsDoNotFit) m0) (λ y. go_on)) (heads_counted given kh)
                ∙ ap (λ v. doing.after (doing.test v (give (tt {0})) (doing.fault_now fault.ActualsDoNotFit) m0) (λ y. go_on)) z

            fit : (t : Bool) → meaning.they_fit at s e fs given ≡ t → Follows set program R w.targets h s m0 (after (elim t [ true ↦ state.on (tt {0}) s | false ↦ state.stop (state.by_fault fault.ActualsDoNotFit) at s ]) K)
            fit true z = goes true i (tested true z)
            fit false z = fault_here set program R w.targets h s m0 _ fault.ActualsDoNotFit b k held i (tested false z) l.agrees.listed l.agrees.settled
