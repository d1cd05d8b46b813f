-- Actuals of a call that are prepared; calls of what stands for a name; places of actuals.
use Rattle.std.proofs.Common.{◌≡◌, ℕ, ◌+◌, ◌-◌, Option, Some, None, [], length, reverse, ◌≢◌, ◌⊎◌, inl, inr, refl, sym, ap, ◌∙◌, subst, arith}
use Rattle.std.specs.Prelude.{slice_get, slice_index_or, IsSome}
use Rattle.std.specs.Option.{option_map, option_and_then}
use Rattle.std.proofs.lemmas.Option.{slice_get-map, slice_get_within}
use Rattle.value_ops.specs.declared.places.Place.{Place}
use Rattle.cell_store.specs.declared.cells.Procedure.{Procedure}
use Rattle.cell_store.specs.declared.cells.Wide.TheVariants as wide
use Rattle.cell_store.specs.declared.entries.Frame as store_frame
use Rattle.cell_store.specs.Cells.{Cell, a_wide}
use Rattle.stack_code.specs.Calls.{ComparedCall}
use Rattle.stack_code.specs.declared.heads.Formal.{Formal}
use Rattle.stack_code.specs.declared.heads.ProcedureHead.{ProcedureHead}
use Rattle.stack_code.specs.declared.heads.TextHead.{TextHead}
use Rattle.stack_code.specs.declared.heads.Reading.{Reading}
use Rattle.stack_code.specs.declared.instructions.Instr.TheVariants as instr
use Rattle.stack_code.specs.declared.heads.FormalType.{FormalType}
use Rattle.stack_code.specs.declared.heads.FormalType.TheVariants as formal
use Rattle.value_ops.specs.declared.values.SimpleType.{SimpleType}
use Rattle.program_meaning.specs.State.{for_place}
use Rattle.stack_code.specs.CodeView.{CodeView, CallView, call_view, call_of, code_view, instructions_view, source_view, procedure_view, text_head_view, formal_view, formal_type_view, reading_view}
use Rattle.stack_code.specs.Code.{procedure_head}
use Rattle.stack_code.specs.Machine.{Machine, Closure, Frame}
use Rattle.stack_code.specs.Instr as table_instr
use Rattle.stack_code.specs.Doing.{Next, on, ended, halted, Row, after, there, source_out, closure_in, newest, ◌>>=◌}
use Rattle.stack_code.specs.Table as table
use Rattle.program_meaning.specs.Phrases as phrases
use Rattle.cell_store.specs.declared.cells.Word.{Word as Held}
use Rattle.machine_rows.specs.declared.state.State.{State}
use Rattle.machine_rows.specs.Seen.{Seen, Stands, IsClear, machine_of, row_of, closure_of, frame_of, frames_of}
use Rattle.machine_rows.specs.declared.next.Next as next
use Rattle.machine_rows.specs.declared.next.Next.TheVariants as comes
use Rattle.machine_rows.specs.Rows.{Goes}
use Rattle.machine_calls.specs.Found as found
use Rattle.machine_calls.specs.Found.{call_row}
use Rattle.machine_calls.proofs.Heads.{procedure_found, text_found}
use Rattle.machine_calls.proofs.Named.{procedure_source}
use Rattle.machine_calls.proofs.Ending.{frames_are, last_of}

-- one after the other
pub later : {A B C : Type 0} (r : Next A) (f : A → Row B) (g : B → Row C) → after (after r f) g ≡ after r (λ a. λ n. after (f a n) g)
later (on a m) f g = refl
later (ended m) f g = refl
later (halted y m) f g = refl

-- ---- as the code finds them

pub formal_there : (c : CodeView) (k i : ℕ) (q : ProcedureHead) (f : Formal) → found.procedure_at c k ≡ Some q → slice_get q.formals.items i ≡ Some f → found.formal_at c k i ≡ Some f
formal_there c k i q f e d = ap (λ o. option_and_then (λ (p : ProcedureHead). slice_get p.formals.items i) o) e ∙ d

-- the procedure that is found
pub the_procedure : (o : Option Cell) (p q : Procedure) → o ≡ Some (a_wide (wide.Procedure p)) → found.procedure_in o ≡ Some q → p ≡ q
the_procedure o p q e h = cc (ap found.procedure_in e, h)

-- its type
pub type_there : (c : CodeView) (k i : ℕ) (q : ProcedureHead) (f : Formal) (t : FormalType) → found.procedure_at c k ≡ Some q → slice_get q.formals.items i ≡ Some f → option_map (λ (x : Formal). x.is) (found.formal_at c k i) ≡ Some t → f.is ≡ t
type_there c k i q f t e d h = cc (ap (λ o. option_map (λ (x : Formal). x.is) o) (formal_there c k i q f e d), h)

module _ (v : Seen) (s : State) (h : Held) (st : Stands v s) where
  abbrev m : Machine
  m = machine_of v s h

  -- ---- calls of what stands for a name

  module _ (n : ℕ) (k : ComparedCall) (is : call_of v.code.added n ≡ call_view k) (site : Place) where
    abbrev pub through_row : Next (Unit {0})
    through_row = row_of v 0 (instr.CallThrough site n) m

    abbrev calls : Closure → Row (Unit {0})
    calls p = there (procedure_head (instructions_view v.code) p.head) >>= table.call v.setting v.code.marks site p

    through_is : through_row ≡ (source_out (source_view k.source) >>= closure_in >>= calls) m
    through_is = ap (λ (z : CallView). (source_out z.source >>= closure_in >>= calls) m) is

    pub through_there : IsClear through_row → (p : Procedure) × (found.source_out s.store k.source ≡ Some (a_wide (wide.Procedure p))) × (through_row ≡ call_row v site p m)
    through_there clear = let t = procedure_source v s h st k.source calls (subst IsClear through_is clear) in (t.0, t.1, through_is ∙ t.2)

  -- ---- actuals that are prepared

  module _ (n i : ℕ) (k : ComparedCall) (is : call_of v.code.added n ≡ call_view k) where
    abbrev head : ℕ
    head = slice_index_or k.heads i 0

    abbrev pub prepare_row : Next (Unit {0})
    prepare_row = row_of v 0 (instr.Prepare n i) m

    abbrev with_head : table_instr.ProcedureHead → Row (Unit {0})
    with_head p = there (slice_get p.formals i) >>= table.prepare (code_view v.code) head

    abbrev with_closure : Closure → Row (Unit {0})
    with_closure p = there (procedure_head (instructions_view v.code) p.head) >>= with_head

    prepare_is : prepare_row ≡ (source_out (source_view k.source) >>= closure_in >>= with_closure) m
    prepare_is =
        ap (λ (z : CallView). (table.head_from (instructions_view v.code) z.source >>= λ p. there (slice_get p.formals i) >>= table.prepare (code_view v.code) (slice_index_or z.heads i 0)) m) is
        ∙ later (after (source_out (source_view k.source) m) closure_in) (λ p. there (procedure_head (instructions_view v.code) p.head)) with_head

    -- what is found
    pub record Prepared : Type 0 where
      pub procedure : Procedure
      pub source : found.source_out s.store k.source ≡ Some (a_wide (wide.Procedure procedure))
      pub found_head : ProcedureHead
      pub head_is : found.procedure_at v.code procedure.head ≡ Some found_head
      pub formal : Formal
      pub formal_is : slice_get found_head.formals.items i ≡ Some formal
      pub text : TextHead
      pub text_is : found.text_at v.code head ≡ Some text
      pub row : prepare_row ≡ table.prepare_by v.code.marks (formal_type_view v.code.given formal.is) head (reading_view v.code.given text.reading) m

    by_text : (f : Formal) (o : Option TextHead) → IsClear (after (there (option_map (text_head_view v.code.given) o) m) (λ t. table.prepare_by v.code.marks (formal_type_view v.code.given f.is) head t.reading)) → (t : TextHead) × (o ≡ Some t)
    by_text f None clear = absurd clear
    by_text f (Some t) clear = (t, refl)

    by_formal : (o : Option Formal) → IsClear (after (there (option_map (formal_view v.code.given) o) m) (table.prepare (code_view v.code) head)) → (f : Formal) × (o ≡ Some f)
    by_formal None clear = absurd clear
    by_formal (Some f) clear = (f, refl)

    by_procedure : (o : Option ProcedureHead) → IsClear (after (there (option_map (procedure_view v.code.given) o) m) with_head) → (q : ProcedureHead) × (o ≡ Some q)
    by_procedure None clear = absurd clear
    by_procedure (Some q) clear = (q, refl)

    pub prepared : IsClear prepare_row → Prepared
    prepared clear = record {
      procedure = p.0;
      source = p.1;
      found_head = q.0;
      head_is = q.1;
      formal = f.0;
      formal_is = f.1;
      text = t.0;
      text_is = t.1;
      row = e1 ∙ e2 ∙ e3 ∙ e4 ∙ e5 ∙ e6 ∙ ap (λ o. after (there (option_map (text_head_view v.code.given) o) m) (λ t. table.prepare_by v.code.marks (formal_type_view v.code.given f.0.is) head t.reading)) t.1;
    } where
      p : (p : Procedure) × (found.source_out s.store k.source ≡ Some (a_wide (wide.Procedure p))) × ((source_out (source_view k.source) >>= closure_in >>= with_closure) m ≡ with_closure (closure_of p) m)
      p = procedure_source v s h st k.source with_closure (subst IsClear prepare_is clear)

      e1 : prepare_row ≡ with_closure (closure_of p.0) m
      e1 = prepare_is ∙ p.2

      e2 : with_closure (closure_of p.0) m ≡ after (there (option_map (procedure_view v.code.given) (found.procedure_at v.code p.0.head)) m) with_head
      e2 = ap (λ o. after (there o m) with_head) (procedure_found v.code st.code p.0.head)

      q : (q : ProcedureHead) × (found.procedure_at v.code p.0.head ≡ Some q)
      q = by_procedure (found.procedure_at v.code p.0.head) (subst IsClear (e1 ∙ e2) clear)

      e3 : after (there (option_map (procedure_view v.code.given) (found.procedure_at v.code p.0.head)) m) with_head ≡ with_head (procedure_view v.code.given q.0) m
      e3 = ap (λ o. after (there (option_map (procedure_view v.code.given) o) m) with_head) q.1

      e4 : with_head (procedure_view v.code.given q.0) m ≡ after (there (option_map (formal_view v.code.given) (slice_get q.0.formals.items i)) m) (table.prepare (code_view v.code) head)
      e4 = ap (λ o. after (there o m) (table.prepare (code_view v.code) head)) (slice_get-map (formal_view v.code.given) q.0.formals.items i)

      f : (f : Formal) × (slice_get q.0.formals.items i ≡ Some f)
      f = by_formal (slice_get q.0.formals.items i) (subst IsClear (e1 ∙ e2 ∙ e3 ∙ e4) clear)

      e5 : after (there (option_map (formal_view v.code.given) (slice_get q.0.formals.items i)) m) (table.prepare (code_view v.code) head) ≡ table.prepare (code_view v.code) head (formal_view v.code.given f.0) m
      e5 = ap (λ o. after (there (option_map (formal_view v.code.given) o) m) (table.prepare (code_view v.code) head)) f.1

      e6 : table.prepare (code_view v.code) head (formal_view v.code.given f.0) m ≡ after (there (option_map (text_head_view v.code.given) (found.text_at v.code head)) m) (λ t. table.prepare_by v.code.marks (formal_type_view v.code.given f.0.is) head t.reading)
      e6 = ap (λ o. after (there o m) (λ t. table.prepare_by v.code.marks (formal_type_view v.code.given f.0.is) head t.reading)) (text_found v.code st.code head)

      t : (t : TextHead) × (found.text_at v.code head ≡ Some t)
      t = by_text f.0 (found.text_at v.code head) (subst IsClear (e1 ∙ e2 ∙ e3 ∙ e4 ∙ e5 ∙ e6) clear)

    -- the row of a formal of this type and an actual that is read so, as the code has them
    module _ (clear : IsClear prepare_row) (c : CodeView) (e : v.code ≡ c) (q : Procedure) (qe : found.procedure_in (found.source_out s.store k.source) ≡ Some q) where
      p : Prepared
      p = prepared clear

      same_formal : found.formal_at c q.head i ≡ Some p.formal
      same_formal =
          ap (λ (x : CodeView). found.formal_at x q.head i) (sym e)
          ∙ ap (λ (z : Procedure). found.formal_at v.code z.head i) (sym (the_procedure (found.source_out s.store k.source) p.procedure q p.source qe))
          ∙ formal_there v.code p.procedure.head i p.found_head p.formal p.head_is p.formal_is

      pub prepared_formal : IsSome (found.formal_at c q.head i)
      prepared_formal = subst (λ o. IsSome o) (sym same_formal) refl

      module _ (hd : ℕ) (he : hd ≡ head) where
        same_text : found.text_at c hd ≡ Some p.text
        same_text = ap (λ (x : CodeView). found.text_at x hd) (sym e) ∙ ap (λ n. found.text_at v.code n) he ∙ p.text_is

        pub prepared_text : IsSome (found.text_at c hd)
        prepared_text = subst (λ o. IsSome o) (sym same_text) refl

        pub prepared_by : (t : FormalType) → option_map (λ (x : Formal). x.is) (found.formal_at c q.head i) ≡ Some t → (x : TextHead) → found.text_at c hd ≡ Some x → (r : Reading) → x.reading ≡ r →
            prepare_row ≡ table.prepare_by v.code.marks (formal_type_view v.code.given t) hd (reading_view v.code.given r) m
        prepared_by t te x xe r re =
            p.row
            ∙ ap (λ u. table.prepare_by v.code.marks (formal_type_view v.code.given u) head (reading_view v.code.given p.text.reading) m) type_is
            ∙ ap (λ z. table.prepare_by v.code.marks (formal_type_view v.code.given t) head (reading_view v.code.given z) m) (ap (λ (y : TextHead). y.reading) text_is ∙ re)
            ∙ ap (λ n. table.prepare_by v.code.marks (formal_type_view v.code.given t) n (reading_view v.code.given r) m) (sym he)
          where
            type_is : p.formal.is ≡ t
            type_is = cc (ap (λ o. option_map (λ (y : Formal). y.is) o) same_formal, te)

            text_is : p.text ≡ x
            text_is = cc (same_text, xe)

  -- ---- places of actuals

  module _ (i head : ℕ) where
    abbrev pub place_row : Next (Unit {0})
    place_row = row_of v 0 (instr.PlaceBack i head) m

    abbrev of_frame : Frame → Row phrases.Formal
    of_frame f = there (procedure_head (instructions_view v.code) f.head) >>= λ p. there (slice_get p.formals i)

    abbrev places : phrases.Formal → Row (Unit {0})
    places f = table.place_back v.code.marks head f.is

    -- a text is under way
    pub place_there : IsClear place_row → s.store.frames ≢ []
    place_there clear = λ e. subst (λ fs. IsClear (after (after (newest (reverse (frames_of v.code.given fs s.store.answers)) m) of_frame) places)) e clear

    -- what it gave waits
    answer_there : (f : store_frame.Frame) → slice_get s.store.frames (length s.store.frames - 1) ≡ Some f → (a : Cell) × (slice_get s.store.answers (length s.store.answers - 1) ≡ Some a)
    answer_there f is = last_of s.store.answers (λ e. absurd (omega (arith, slice_get_within s.store.frames (length s.store.frames - 1) f is, st.answered, ap length e)))

    module _ (f : store_frame.Frame) where
      -- what is found
      pub record PlacedBack : Type 0 where
        pub found_head : ProcedureHead
        pub head_is : found.procedure_at v.code f.head ≡ Some found_head
        pub formal : Formal
        pub formal_is : slice_get found_head.formals.items i ≡ Some formal
        pub row : place_row ≡ table.place_back v.code.marks head (formal_type_view v.code.given formal.is) m

      by_place : (o : Option Formal) → IsClear (after (there (option_map (formal_view v.code.given) o) m) places) → (f : Formal) × (o ≡ Some f)
      by_place None clear = absurd clear
      by_place (Some f) clear = (f, refl)

      abbrev at_head : table_instr.ProcedureHead → Row (Unit {0})
      at_head p = there (slice_get p.formals i) >>= places

      by_head : (o : Option ProcedureHead) → IsClear (after (there (option_map (procedure_view v.code.given) o) m) at_head) → (q : ProcedureHead) × (o ≡ Some q)
      by_head None clear = absurd clear
      by_head (Some q) clear = (q, refl)

      pub placed_back : slice_get s.store.frames (length s.store.frames - 1) ≡ Some f → IsClear place_row → PlacedBack
      placed_back is clear = record { found_head = q.0; head_is = q.1; formal = g.0; formal_is = g.1; row = e1 ∙ e2 ∙ e3 ∙ e4 ∙ e5 ∙ ap (λ o. after (there (option_map (formal_view v.code.given) o) m) places) g.1 } where
        a : (a : Cell) × (slice_get s.store.answers (length s.store.answers - 1) ≡ Some a)
        a = answer_there f is

        e1 : place_row ≡ after (of_frame (frame_of v.code.given f a.0) m) places
        e1 = ap (λ fs. after (after (newest fs m) of_frame) places) (frames_are v s h st f a.0 is a.1)

        e2 : after (of_frame (frame_of v.code.given f a.0) m) places ≡ after (there (procedure_head (instructions_view v.code) f.head) m) at_head
        e2 = later (there (procedure_head (instructions_view v.code) f.head) m) (λ p. there (slice_get p.formals i)) places

        e3 : after (there (procedure_head (instructions_view v.code) f.head) m) at_head ≡ after (there (option_map (procedure_view v.code.given) (found.procedure_at v.code f.head)) m) at_head
        e3 = ap (λ o. after (there o m) at_head) (procedure_found v.code st.code f.head)

        q : (q : ProcedureHead) × (found.procedure_at v.code f.head ≡ Some q)
        q = by_head (found.procedure_at v.code f.head) (subst IsClear (e1 ∙ e2 ∙ e3) clear)

        e4 : after (there (option_map (procedure_view v.code.given) (found.procedure_at v.code f.head)) m) at_head ≡ at_head (procedure_view v.code.given q.0) m
        e4 = ap (λ o. after (there (option_map (procedure_view v.code.given) o) m) at_head) q.1

        e5 : at_head (procedure_view v.code.given q.0) m ≡ after (there (option_map (formal_view v.code.given) (slice_get q.0.formals.items i)) m) places
        e5 = ap (λ o. after (there o m) places) (slice_get-map (formal_view v.code.given) q.0.formals.items i)

        g : (f : Formal) × (slice_get q.0.formals.items i ≡ Some f)
        g = by_place (slice_get q.0.formals.items i) (subst IsClear (e1 ∙ e2 ∙ e3 ∙ e4 ∙ e5) clear)

      -- the row of a formal of this type
      pub place_typed : (p : PlacedBack) (c : CodeView) → v.code ≡ c → (t : FormalType) → option_map (λ (x : Formal). x.is) (found.formal_at c f.head i) ≡ Some t → place_row ≡ table.place_back v.code.marks head (formal_type_view v.code.given t) m
      place_typed p c e t h = p.row ∙ ap (λ u. table.place_back v.code.marks head (formal_type_view v.code.given u) m)
          (type_there v.code f.head i p.found_head p.formal t p.head_is p.formal_is (ap (λ (x : CodeView). option_map (λ (y : Formal). y.is) (found.formal_at x f.head i)) e ∙ h))

    -- its formal is assigned back
    pub place_enters : (t : FormalType) → ((x : SimpleType) × (t ≡ formal.Result x)) ⊎ ((x : SimpleType) × (t ≡ formal.ValueResult x)) → table.place_back v.code.marks head (formal_type_view v.code.given t) m ≡ table.enter_aside v.code.marks head for_place None m
    place_enters t (inl w) = ap (λ u. table.place_back v.code.marks head (formal_type_view v.code.given u) m) w.1
    place_enters t (inr w) = ap (λ u. table.place_back v.code.marks head (formal_type_view v.code.given u) m) w.1

    -- or what would do so is stepped over
    pub place_steps : (t : FormalType) → ((x : SimpleType) → t ≡ formal.Result x → ⊥) → ((x : SimpleType) → t ≡ formal.ValueResult x → ⊥) → table.place_back v.code.marks head (formal_type_view v.code.given t) m ≡ on tt (machine_of (record v { pc = v.pc + 3 }) s h)
    place_steps (formal.ByName x) n k = refl
    place_steps (formal.Value x) n k = refl
    place_steps (formal.Result x) n k = absurd (n x refl)
    place_steps (formal.ValueResult x) n k = absurd (k x refl)
    place_steps (formal.Array x d) n k = refl
    place_steps (formal.Procedure x) n k = refl

    pub place_over : place_row ≡ on tt (machine_of (record v { pc = v.pc + 3 }) s h) → (pc : ℕ) → v.pc ≡ pc → (r : next.Next) → r ≡ comes.On (record { pc = pc + 3; held = h }) → Goes v s h r place_row
    place_over e pc pe r re = subst (λ (x : next.Next). Goes v s h x place_row) (sym (re ∙ ap (λ n. comes.On (record { pc = n + 3; held = h })) (sym pe))) (record { is = e; stands = st })
