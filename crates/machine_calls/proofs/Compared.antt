-- Calls that compare.
use Rattle.std.proofs.Common.{◌≡◌, ℕ, ◌+◌, ◌<◌, List, [], ◌∷◌, Option, Some, None, Bool, true, false, length, ◌≢◌, refl, sym, ap, ◌∙◌, subst}
use Rattle.std.specs.Option.{option_map, option_and_then}
use Rattle.std.specs.Prelude.{slice_index_or, IfSome}
use Rattle.value_ops.specs.declared.faults.Fault.TheVariants as fault
use Rattle.value_ops.specs.declared.places.Place.{Place}
use Rattle.algolw_typing.specs.Meanings as typing
use Rattle.cell_store.specs.declared.cells.Closed.{Closed}
use Rattle.cell_store.specs.declared.cells.Procedure.{Procedure}
use Rattle.cell_store.specs.declared.cells.Wide.{Wide}
use Rattle.cell_store.specs.Words as word
use Rattle.cell_store.specs.declared.cells.Wide.TheVariants as wide
use Rattle.cell_store.specs.Cells.{Cell, a_word, a_wide, wide_in}
use Rattle.program_meaning.specs.State.{by_fault}
use Rattle.stack_code.specs.Calls.{ComparedCall}
use Rattle.stack_code.specs.declared.heads.ProcedureHead.{ProcedureHead}
use Rattle.stack_code.specs.declared.instructions.Source.{Source}
use Rattle.stack_code.specs.declared.instructions.Instr.TheVariants as instr
use Rattle.stack_code.specs.CodeView.{CallView, call_view, call_of, Added, code_view, statement_view, instructions_view, source_view, procedure_view}
use Rattle.stack_code.specs.Machine.{Machine}
use Rattle.stack_code.specs.Doing.{Next, on, halted, Row, after, there, give, test, fault_now, source_out, go_on, ◌>>=◌, ◌>>◌}
use Rattle.stack_code.specs.Table as table
use Rattle.cell_store.specs.declared.entries.Purpose.TheVariants as purpose
use Rattle.machine_rows.specs.declared.held.Halt.TheVariants as halt
use Rattle.cell_store.specs.declared.cells.Word.{Word as Held}
use Rattle.machine_rows.specs.declared.state.State.{State}
use Rattle.machine_rows.specs.Seen.{Seen, Stands, IsClear, machine_of, row_of, content_of, thunk_of}
use Rattle.machine_rows.specs.declared.next.Next as next
use Rattle.machine_rows.specs.declared.next.Next.TheVariants as comes
use Rattle.machine_rows.specs.Rows.{Goes}
use Rattle.machine_calls.specs.Found as found
use Rattle.machine_calls.specs.Fitting as fitting
use Rattle.machine_calls.proofs.Heads.{procedure_found}
use Rattle.stack_code.proofs.Sets.{or_mapped}
use Rattle.machine_calls.proofs.Parts.{source_is, parts_are}
use Rattle.machine_calls.proofs.Thunks.{use_row}

-- a call of the code
pub call_is : (a : Added) (n : ℕ) (k : ComparedCall) → n < length a.calls → k ≡ slice_index_or a.calls n k → call_of a n ≡ call_view k
call_is a n k h e = or_mapped call_view a.calls n k _ h ∙ ap call_view (sym e)

module _ (v : Seen) (s : State) (h : Held) (st : Stands v s) (w : Place) (compares : Bool) (heads : List ℕ) (end : ℕ) where
  abbrev m : Machine
  m = machine_of v s h

  abbrev pub compare_row : Source → Next (Unit {0})
  compare_row x = (source_out (source_view x) >>= table.compare v.setting (code_view v.code) w compares heads end) m

  by_cell : Option Cell → Next (Unit {0})
  by_cell o = after (there (option_map (content_of v.code.given) o) m) (table.compare v.setting (code_view v.code) w compares heads end)

  cell_there : (o : Option Cell) → IsClear (after (there (option_map (content_of v.code.given) o) m) (table.compare v.setting (code_view v.code) w compares heads end)) → (c : Cell) × (o ≡ Some c)
  cell_there None clear = absurd clear
  cell_there (Some c) clear = (c, refl)

  pub compare_there : (x : Source) → IsClear (compare_row x) → (c : Cell) × (found.source_out s.store x ≡ Some c)
  compare_there x clear = cell_there (found.source_out s.store x) (subst IsClear (source_is v s h st x (table.compare v.setting (code_view v.code) w compares heads end)) clear)

  pub compare_found : (x : Source) (c : Cell) → found.source_out s.store x ≡ Some c → compare_row x ≡ table.compare v.setting (code_view v.code) w compares heads end (content_of v.code.given c) m
  compare_found x c e = source_is v s h st x (table.compare v.setting (code_view v.code) w compares heads end) ∙ ap (λ o. after (there (option_map (content_of v.code.given) o) m) (table.compare v.setting (code_view v.code) w compares heads end)) e

  -- ---- a procedure

  abbrev procedure_row : Procedure → Next (Unit {0})
  procedure_row p = table.compare v.setting (code_view v.code) w compares heads end (content_of v.code.given (a_wide (wide.Procedure p))) m

  abbrev go_by : ProcedureHead → Row (Unit {0})
  go_by q = table.compared (instructions_view v.code) w compares heads (procedure_view v.code.given q) >> go_on

  abbrev by_head : Option ProcedureHead → Next (Unit {0})
  by_head o = after (there (option_map (procedure_view v.code.given) o) m) (λ q. table.compared (instructions_view v.code) w compares heads q >> go_on)

  head_is : (p : Procedure) → procedure_row p ≡ by_head (found.procedure_at v.code p.head)
  head_is p = ap (λ o. after (there o m) (λ q. table.compared (instructions_view v.code) w compares heads q >> go_on)) (procedure_found v.code st.code p.head)

  head_there : (o : Option ProcedureHead) → IsClear (by_head o) → (q : ProcedureHead) × (o ≡ Some q)
  head_there None clear = absurd clear
  head_there (Some q) clear = (q, refl)

  pub procedure_there : (p : Procedure) → IsClear (procedure_row p) → (q : ProcedureHead) × (found.procedure_at v.code p.head ≡ Some q)
  procedure_there p clear = head_there (found.procedure_at v.code p.head) (subst IsClear (head_is p) clear)

  pub procedure_is : (p : Procedure) (q : ProcedureHead) → found.procedure_at v.code p.head ≡ Some q → procedure_row p ≡ go_by q m
  procedure_is p q e = head_is p ∙ ap by_head e

module _ (v : Seen) (s : State) (h : Held) (st : Stands v s) (w : Place) (heads : List ℕ) (q : ProcedureHead) where
  abbrev n : Machine
  n = machine_of v s h

  abbrev pub fit_row : Next (Unit {0})
  fit_row = (table.compared (instructions_view v.code) w true heads (procedure_view v.code.given q) >> go_on) n

  abbrev tests : List typing.Part → Row (Unit {0})
  tests ps = test (fitting.they_fit v.code.given w q.formals.items (length heads) ps) (give (tt {0})) (fault_now fault.ActualsDoNotFit)

  abbrev by_parts : Option (List typing.Part) → Next (Unit {0})
  by_parts o = after (after (there o n) tests) (λ a. go_on)

  fit_is : fit_row ≡ by_parts (fitting.parts v.code s.store q.formals.items heads)
  fit_is = ap (λ x. after (after x tests) (λ a. go_on)) (parts_are v s h st q.formals.items heads)

  some_parts : (o : Option (List typing.Part)) → IsClear (by_parts o) → (ps : List typing.Part) × (o ≡ Some ps)
  some_parts None clear = absurd clear
  some_parts (Some ps) clear = (ps, refl)

  pub parts_there : IsClear fit_row → (ps : List typing.Part) × (fitting.parts v.code s.store q.formals.items heads ≡ Some ps)
  parts_there clear = some_parts (fitting.parts v.code s.store q.formals.items heads) (subst IsClear fit_is clear)

  module _ (ps : List typing.Part) (e : fitting.parts v.code s.store q.formals.items heads ≡ Some ps) where
    by_test : (b : Bool) → fitting.they_fit v.code.given w q.formals.items (length heads) ps ≡ b → fit_row ≡ after (test b (give (tt {0})) (fault_now fault.ActualsDoNotFit) n) (λ a. go_on)
    by_test b t = fit_is ∙ ap by_parts e ∙ ap (λ (z : Bool). after (test z (give (tt {0})) (fault_now fault.ActualsDoNotFit) n) (λ a. go_on)) t

    pub they_fit_row : fitting.they_fit v.code.given w q.formals.items (length heads) ps ≡ true → fit_row ≡ on tt (machine_of (record v { pc = v.pc + 1 }) s h)
    they_fit_row t = by_test true t

    pub unfit_row : fitting.they_fit v.code.given w q.formals.items (length heads) ps ≡ false → fit_row ≡ halted (by_fault fault.ActualsDoNotFit) n
    unfit_row t = by_test false t

-- the row of a call that compares
pub compare_is : (v : Seen) (s : State) (h : Held) (st : Stands v s) (n : ℕ) (k : ComparedCall) → call_of v.code.added n ≡ call_view k → row_of v 0 (instr.Compare n) (machine_of v s h) ≡ compare_row v s h st (statement_view v.code.given 0) k.compares k.heads k.end k.source
compare_is v s h st n k e = ap (λ (z : CallView). (source_out z.source >>= table.compare v.setting (code_view v.code) (statement_view v.code.given 0) z.compares z.heads z.end) (machine_of v s h)) e

-- ---- as the code has it

module _ (v : Seen) (s : State) (h : Held) (st : Stands v s) (k : ComparedCall) where
  abbrev w0 : Place
  w0 = statement_view v.code.given 0

  module _ (p : Procedure) (clear : IsClear (fitting.compare_row v k (wide.Procedure p) (machine_of v s h))) where
    abbrev the_row : Next (Unit {0})
    the_row = fitting.compare_row v k (wide.Procedure p) (machine_of v s h)

    abbrev pub the_head : (q : ProcedureHead) × (found.procedure_at v.code p.head ≡ Some q)
    the_head = procedure_there v s h st w0 k.compares k.heads k.end p clear

    row_is : the_row ≡ (table.compared (instructions_view v.code) w0 k.compares k.heads (procedure_view v.code.given the_head.0) >> go_on) (machine_of v s h)
    row_is = procedure_is v s h st w0 k.compares k.heads k.end p the_head.0 the_head.1

    row_by : (b : Bool) → k.compares ≡ b → the_row ≡ (table.compared (instructions_view v.code) w0 b k.heads (procedure_view v.code.given the_head.0) >> go_on) (machine_of v s h)
    row_by b e = row_is ∙ ap (λ (z : Bool). (table.compared (instructions_view v.code) w0 z k.heads (procedure_view v.code.given the_head.0) >> go_on) (machine_of v s h)) e

    on_done : the_row ≡ on tt (machine_of (record v { pc = v.pc + 1 }) s h) → (pc : ℕ) → v.pc ≡ pc → (r : next.Next) → r ≡ comes.On (record { pc = pc + 1; held = h }) → Goes v s h r the_row
    on_done e pc pe r re = subst (λ (x : next.Next). Goes v s h x the_row) (sym (re ∙ ap (λ n. comes.On (record { pc = n + 1; held = h })) (sym pe))) (record { is = e; stands = st })

    -- it isn't compared
    pub plain_done : k.compares ≡ false → (pc : ℕ) → v.pc ≡ pc → (r : next.Next) → r ≡ comes.On (record { pc = pc + 1; held = h }) → Goes v s h r the_row
    plain_done e = on_done (row_by false e)

    module _ (e : k.compares ≡ true) where
      pub clear_fit : IsClear (fit_row v s h st w0 k.heads the_head.0)
      clear_fit = subst IsClear (row_by true e) clear

      abbrev ps : (ps : List typing.Part) × (fitting.parts v.code s.store the_head.0.formals.items k.heads ≡ Some ps)
      ps = parts_there v s h st w0 k.heads the_head.0 clear_fit

      -- its actuals are read
      abbrev pub the_parts : (ps : List typing.Part) × (fitting.parts v.code s.store (found.formals_of (found.procedure_at v.code p.head)) k.heads ≡ Some ps)
      the_parts = (ps.0, ap (λ o. fitting.parts v.code s.store (found.formals_of o) k.heads) the_head.1 ∙ ps.1)

      abbrev Answers : Bool → Type 0
      Answers b = IfSome (fitting.parts v.code s.store (found.formals_of (found.procedure_at v.code p.head)) k.heads) (λ ps. (w : Place) → fitting.they_fit v.code.given w (found.formals_of (found.procedure_at v.code p.head)) (length k.heads) ps ≡ b)

      answered : (b : Bool) → Answers b → fitting.they_fit v.code.given w0 the_head.0.formals.items (length k.heads) ps.0 ≡ b
      answered b a = subst (λ o. fitting.they_fit v.code.given w0 (found.formals_of o) (length k.heads) ps.0 ≡ b) the_head.1 (at_parts w0) where
        at_parts : (w : Place) → fitting.they_fit v.code.given w (found.formals_of (found.procedure_at v.code p.head)) (length k.heads) ps.0 ≡ b
        at_parts = subst (λ o. IfSome o (λ ps. (w : Place) → fitting.they_fit v.code.given w (found.formals_of (found.procedure_at v.code p.head)) (length k.heads) ps ≡ b)) the_parts.1 a

      pub fit_done : Answers true → (pc : ℕ) → v.pc ≡ pc → (r : next.Next) → r ≡ comes.On (record { pc = pc + 1; held = h }) → Goes v s h r the_row
      fit_done a = on_done (row_by true e ∙ they_fit_row v s h st w0 k.heads the_head.0 ps.0 ps.1 (answered true a))

      pub unfit_done : Answers false → Goes v s h (comes.Halted (halt.Fault fault.ActualsDoNotFit)) the_row
      unfit_done a = record { is = row_by true e ∙ unfit_row v s h st w0 k.heads the_head.0 ps.0 ps.1 (answered false a); stands = st }

  -- ---- a copied actual

  module _ (t : Closed) where
    abbrev thunk_row : Next (Unit {0})
    thunk_row = fitting.compare_row v k (wide.Thunk t) (machine_of v s h)

    pub bare_use : k.heads ≡ [] → thunk_row ≡ use_row v s h k.end t purpose.Value
    bare_use e = ap (λ heads. table.use_without v.setting v.code.marks k.end heads (thunk_of v.code.given t) (machine_of v s h)) e

    some_heads : (heads : List ℕ) → heads ≢ [] → table.use_without v.setting v.code.marks k.end heads (thunk_of v.code.given t) (machine_of v s h) ≡ halted (by_fault fault.ActualsDoNotFit) (machine_of v s h)
    some_heads [] n = absurd (n refl)
    some_heads (x ∷ heads) n = refl

    pub with_heads : k.heads ≢ [] → Goes v s h (comes.Halted (halt.Fault fault.ActualsDoNotFit)) thunk_row
    with_heads n = record { is = some_heads k.heads n; stands = st }

-- no heads
pub none_by : (xs : List ℕ) → length xs ≡ 0 → xs ≡ []
none_by [] e = refl
none_by (x ∷ xs) e = absurd (cc e)

pub some_by : (xs : List ℕ) → (length xs ≡ 0 → ⊥) → xs ≢ []
some_by xs n e = n (ap length e)

-- what is called, where it is wide
wide_cell : (o : Option Cell) (w : Wide) → option_and_then wide_in o ≡ Some w → o ≡ Some (a_wide w)
wide_cell None w e = absurd (cc e)
wide_cell (Some (a_word x)) w e = absurd (cc e)
wide_cell (Some (a_wide x)) w e = ap (λ o. option_map a_wide o) e

module _ (v : Seen) (s : State) (h : Held) (st : Stands v s) (n : ℕ) (k : ComparedCall) (e : call_of v.code.added n ≡ call_view k) where
  pub called_there : IsClear (row_of v 0 (instr.Compare n) (machine_of v s h)) → (c : Cell) × (found.source_out s.store k.source ≡ Some c)
  called_there clear = compare_there v s h st (statement_view v.code.given 0) k.compares k.heads k.end k.source (subst IsClear (compare_is v s h st n k e) clear)

  pub called_by : (o : Option Wide) (x : Wide) (w : Wide) → o ≡ found.wide_out s.store k.source → o ≡ Some x → x ≡ w → found.source_out s.store k.source ≡ Some (a_wide w)
  called_by o x w a b d = wide_cell (found.source_out s.store k.source) w (sym a ∙ b ∙ ap (λ z. Some z) d)

  pub called_row : (w : Wide) → found.source_out s.store k.source ≡ Some (a_wide w) → row_of v 0 (instr.Compare n) (machine_of v s h) ≡ fitting.compare_row v k w (machine_of v s h)
  called_row w f = compare_is v s h st n k e ∙ compare_found v s h st (statement_view v.code.given 0) k.compares k.heads k.end k.source (a_wide w) f

  -- it is a procedure or a copied actual
  one_of : (c : Cell) → IsClear (table.compare v.setting (code_view v.code) (statement_view v.code.given 0) k.compares k.heads k.end (content_of v.code.given c) (machine_of v s h)) → ((p : Procedure) → c ≡ a_wide (wide.Procedure p) → ⊥) → ((t : Closed) → c ≡ a_wide (wide.Thunk t) → ⊥) → ⊥
  one_of (a_word word.Nothing) clear np nt = absurd clear
  one_of (a_word (word.Integer x)) clear np nt = absurd clear
  one_of (a_word (word.Logical x)) clear np nt = absurd clear
  one_of (a_word (word.Bits x)) clear np nt = absurd clear
  one_of (a_word (word.Reference x)) clear np nt = absurd clear
  one_of (a_word (word.Place x)) clear np nt = absurd clear
  one_of (a_wide (wide.Str x)) clear np nt = absurd clear
  one_of (a_wide (wide.Part x)) clear np nt = absurd clear
  one_of (a_wide (wide.Array x)) clear np nt = absurd clear
  one_of (a_wide (wide.Bounds x)) clear np nt = absurd clear
  one_of (a_wide (wide.Thunk t)) clear np nt = nt t refl
  one_of (a_wide (wide.Procedure p)) clear np nt = np p refl

  pub called_one : IsClear (row_of v 0 (instr.Compare n) (machine_of v s h)) → (o : Option Wide) → o ≡ found.wide_out s.store k.source → ((p : Procedure) → o ≡ Some (wide.Procedure p) → ⊥) → ((t : Closed) → o ≡ Some (wide.Thunk t) → ⊥) → ⊥
  called_one clear o a np nt = one_of it.0 (subst IsClear (compare_is v s h st n k e ∙ compare_found v s h st (statement_view v.code.given 0) k.compares k.heads k.end k.source it.0 it.1) clear) (λ p q. np p (wide_of (wide.Procedure p) q)) (λ t q. nt t (wide_of (wide.Thunk t) q)) where
    it : (c : Cell) × (found.source_out s.store k.source ≡ Some c)
    it = called_there clear

    wide_of : (w : Wide) → it.0 ≡ a_wide w → o ≡ Some w
    wide_of w q = a ∙ ap (λ x. option_and_then wide_in x) (it.1 ∙ ap (λ z. Some z) q)
