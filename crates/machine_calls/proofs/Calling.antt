-- Calls of procedures.
use Rattle.std.proofs.Common.{◌≡◌, ℕ, suc, ◌+◌, ◌-◌, ◌<◌, ◌≤◌, List, [], ◌∷◌, ◌++◌, Option, Some, None, true, false, nat_lt, length, map, reverse, refl, sym, ap, ◌∙◌, subst, arith}
use mathlib.Core.List.{reverse_aux}
use Rattle.std.specs.Prelude.{Ok, Err, Bool, nat_le, ◌&&◌, IfSome}
use Rattle.std.specs.List.{All}
use Rattle.std.specs.Option.{option_map}
use Rattle.std.proofs.lemmas.Bool.Decides.{nat_tests}
use Rattle.std.proofs.lemmas.List.{map-append, length-map}
use Rattle.std.proofs.lemmas.List.Elements.{All-append}
use Rattle.value_ops.specs.declared.faults.Limit.{Limit}
use Rattle.value_ops.specs.declared.faults.Limit.TheVariants as limit
use Rattle.value_ops.specs.declared.places.Place.{Place}
use Rattle.cell_store.specs.declared.cells.Procedure.{Procedure}
use Rattle.cell_store.specs.declared.entries.Entry.TheVariants as entry
use Rattle.cell_store.specs.declared.entries.Frame as store_frame
use Rattle.cell_store.specs.declared.entries.Purpose.TheVariants as purpose
use Rattle.cell_store.specs.declared.entries.Refusal.TheVariants as refusal
use Rattle.cell_store.specs.Links.{is_below}
use Rattle.cell_store.specs.Stores.{Store, entered, has_room, text_allowed}
use Rattle.program_meaning.specs.State.{by_limit, for_value}
use Rattle.stack_code.specs.declared.heads.Formal.{Formal}
use Rattle.stack_code.specs.declared.heads.ProcedureHead.{ProcedureHead}
use Rattle.stack_code.specs.CodeView.{formal_view, procedure_view}
use Rattle.stack_code.specs.Limits.{ProcedureRuns, FormalRuns}
use Rattle.stack_code.specs.Machine.{Machine, Frame, a_call}
use Rattle.stack_code.specs.Doing.{outwards, Next, on, halted, Row, ◌>>◌, ◌>>=◌, there, deeper, here, cells_now, open_frame, enter, frame_for, run_newest, go_to, most_entries}
use Rattle.stack_code.specs.Table as table
use Rattle.stack_code.specs.Table.{enter_formals}
use Rattle.machine_rows.specs.declared.held.Halt.{Halt}
use Rattle.machine_rows.specs.declared.held.Halt.TheVariants as halt
use Rattle.cell_store.specs.declared.cells.Word.{Word as Held}
use Rattle.machine_rows.specs.declared.state.State.{State}
use Rattle.machine_rows.specs.Seen.{Seen, Stands, IsClear, EntryFits, machine_of, entry_of, closure_of}
use Rattle.machine_rows.specs.declared.next.Next as next
use Rattle.machine_rows.specs.declared.next.Next.TheVariants as comes
use Rattle.machine_calls.specs.Found.{call_row, procedure_at, formal_entries}
use Rattle.machine_rows.specs.Rows.{Goes, Lands}
use Rattle.machine_calls.proofs.Heads.{procedure_found}
use Rattle.machine_rows.proofs.Rows.{HasRoom, text_more, one_deeper, deeper_on, deeper_off, tick_on, tick_off}
use Rattle.machine_rows.proofs.Standing.{Fits, restored, entered_fits, store_fits}
use Rattle.machine_rows.proofs.Entering.{cells_count, entries_count, takes, room_there}
use Rattle.machine_calls.proofs.Formals.{AreEntered, formals_entered, on_top, entries_fit}
use Rattle.machine_calls.proofs.Using.{counted_frame, counted_row, counted_room, counted_is, counted_machine, allowed_below, limited_over, refused_below}
use Rattle.machine_calls.proofs.Thunks.{ticked}
use Rattle.machine_calls.proofs.Uses.{step_answer, stopped, went, ticked_stands}

module _ (v : Seen) (s : State) (h : Held) (st : Stands v s) (site : Place) (p : Procedure) where
  abbrev m : Machine
  m = machine_of v s h

  -- ---- what is called

  there_clear : (o : Option ProcedureHead) → IsClear ((there (option_map (procedure_view v.code.given) o) >>= table.call v.setting v.code.marks site (closure_of p)) m) → (q : ProcedureHead) × (o ≡ Some q)
  there_clear None clear = absurd clear
  there_clear (Some q) clear = (q, refl)

  called : call_row v site p m ≡ (there (option_map (procedure_view v.code.given) (procedure_at v.code p.head)) >>= table.call v.setting v.code.marks site (closure_of p)) m
  called = ap (λ o. (there o >>= table.call v.setting v.code.marks site (closure_of p)) m) (procedure_found v.code st.code p.head)

  pub call_there : IsClear (call_row v site p m) → (q : ProcedureHead) × (procedure_at v.code p.head ≡ Some q)
  call_there clear = there_clear (procedure_at v.code p.head) (subst IsClear called clear)

  module _ (q : ProcedureHead) (is : procedure_at v.code p.head ≡ Some q) where
    pub call_is : call_row v site p m ≡ table.call v.setting v.code.marks site (closure_of p) (procedure_view v.code.given q) m
    call_is = called ∙ ap (λ o. (there (option_map (procedure_view v.code.given) o) >>= table.call v.setting v.code.marks site (closure_of p)) m) is

-- ---- the body of a call, behind its step
module _ (v : Seen) (s : State) (h : Held) (st : Stands v s) (site : Place) (p : Procedure) (fs : List Formal) where
  abbrev m1 : Machine
  m1 = machine_of v s h

  abbrev views : List Rattle.program_meaning.specs.Phrases.Formal
  views = map (formal_view v.code.given) fs

  abbrev runs : Row (Unit {0})
  runs = run_newest >> go_to (p.head + 1)

  abbrev frame_at : ℕ → Row (Unit {0})
  frame_at k = cells_now >>= λ n. open_frame v.code.marks (k + 1) (n - length views) p.head p.link for_value Option.None true >> (enter v.code.marks (a_call p.head site) >> (enter_formals v.code.marks (n - length views) views >> runs))

  abbrev pub body : Row (Unit {0})
  body = deeper >> (here >>= frame_at)

  abbrev base : ℕ
  base = length s.store.cells - length fs

  abbrev rest : ℕ → Row (Unit {0})
  rest b = enter_formals v.code.marks b views >> runs

  abbrev counted : ℕ → Next (Unit {0})
  counted b = counted_row v s h st (v.pc + 1) b p.head p.link purpose.Value Option.None (entry.Call p.head site) (rest b)

  pub body_limit : nat_lt s.store.depth 2000 ≡ false → body m1 ≡ halted (by_limit limit.Depth) m1
  body_limit e = deeper_off (here >>= frame_at) m1 e

  base_is : length m1.cells - length views ≡ base
  base_is = let e = cells_count v s h st in let l = length-map fs (formal_view v.code.given) in cc

  body_deep : nat_lt s.store.depth 2000 ≡ true → body m1 ≡ counted base
  body_deep e = deeper_on (here >>= frame_at) m1 e ∙ ap counted base_is

  module _ (clear : IsClear (body m1)) (deep : nat_lt s.store.depth 2000 ≡ true) where
    counted_clear : IsClear (counted base)
    counted_clear = subst IsClear (body_deep deep) clear

    has_room_in : HasRoom v.code.marks p.link m1
    has_room_in = counted_room v s h st (v.pc + 1) base p.head p.link purpose.Value Option.None (entry.Call p.head site) (rest base) counted_clear

    pub body_room : takes s.store p.link ≡ true
    body_room = room_there v s h st p.link has_room_in

    abbrev f : store_frame.Frame
    f = counted_frame s.store (v.pc + 1) base p.head p.link purpose.Value Option.None

    abbrev F : Frame
    F = frame_for m1 (v.pc + 1) base p.head p.link for_value Option.None true

    abbrev m2 : Machine
    m2 = text_more F (a_call p.head site) (one_deeper m1)

    first : body m1 ≡ rest base m2
    first = body_deep deep ∙ counted_is v s h st (v.pc + 1) base p.head p.link purpose.Value Option.None (entry.Call p.head site) (rest base) counted_clear

    below : (a b : ℕ) → nat_lt a b ≡ true → suc a ≤ b
    below a b q = grind (arith, nat_tests)

    formals_in : AreEntered v.code.given v.code.marks base fs runs m2
    formals_in = formals_entered v.code.given v.code.marks base fs runs m2 (below (length m1.entries) (most_entries v.code.marks) has_room_in.entries) (subst IsClear first clear)

    -- there is room for the formals
    pub formals_room : length s.store.entries + 1 + length fs ≤ s.store.entry_room
    formals_room = let e = entries_count v s h st in let r = formals_in.room in omega (arith, st.entry_room, e, r)

    abbrev pub body_store : Store
    body_store = record (entered f (entry.Call p.head site) s.store) { entries = (s.store.entries ++ entry.Call p.head site ∷ []) ++ formal_entries base fs }

    entries_are : reverse_aux (map (entry_of v.code.given) (formal_entries base fs)) (reverse (map (entry_of v.code.given) (s.store.entries ++ entry.Call p.head site ∷ []))) ≡ reverse (map (entry_of v.code.given) ((s.store.entries ++ entry.Call p.head site ∷ []) ++ formal_entries base fs))
    entries_are = sym (ap reverse (map-append (entry_of v.code.given) (s.store.entries ++ entry.Call p.head site ∷ []) (formal_entries base fs)) ∙ on_top (map (entry_of v.code.given) (s.store.entries ++ entry.Call p.head site ∷ [])) (map (entry_of v.code.given) (formal_entries base fs)) [])

    m3 : Machine
    m3 = record m2 { current = Some (length (F ∷ m1.frames) - 1); display = outwards (F ∷ m1.frames) (Some (length (F ∷ m1.frames) - 1)); pc = p.head + 1 }

    body_is : body m1 ≡ on tt (machine_of (record v { pc = p.head + 1 }) (record s { store = body_store }) h)
    body_is =
        first ∙ formals_in.is
        ∙ ap (λ (z : Machine). on tt (record z { entries = reverse_aux (map (entry_of v.code.given) (formal_entries base fs)) z.entries })) (counted_machine v s h st (v.pc + 1) base p.head p.link purpose.Value Option.None (entry.Call p.head site) (p.head + 1))
        ∙ ap (λ es. on tt (record (machine_of (record v { pc = p.head + 1 }) (record s { store = entered f (entry.Call p.head site) s.store }) h) { entries = es })) entries_are

    pub body_within : Lands v (body m1) → p.head + 1 < length v.code.instructions
    body_within l = subst (Lands v) body_is l

    few_numbers : (cells n : ℕ) → cells ≤ 32768 → n ≤ 65536 → cells - n + n ≤ 65536
    few_numbers cells n a b = omega (arith, a, b)

    pub body_goes : All (FormalRuns v.code.given) fs → length fs ≤ 65536 → length s.store.cells ≤ 32768 → (s' : State) → s' ≡ record s { store = body_store } → Goes v s' h (comes.On (record { pc = p.head + 1; held = h })) (body m1)
    body_goes fits few cells s' e = subst (λ (z : State). Goes v z h (comes.On (record { pc = p.head + 1; held = h })) (body m1)) (sym e) (record {
      is = body_is;
      stands = restored v s body_store s.wide s.steps st body_fits refl refl st.kinds.wide (omega arith) st.within;
    }) where
      base_fits : Fits v (entered f (entry.Call p.head site) s.store)
      base_fits = entered_fits v s.store f (entry.Call p.head site) (store_fits v s st) tt tt

      body_fits : Fits v body_store
      body_fits = record {
        entries = All-append (EntryFits v.code.given) (s.store.entries ++ entry.Call p.head site ∷ []) (formal_entries base fs) base_fits.entries (entries_fit v.code.given base fs fits (few_numbers (length s.store.cells) (length fs) cells few));
        cells = base_fits.cells;
        answers = base_fits.answers;
        frames = base_fits.frames;
        answered = base_fits.answered;
      }

-- ---- as the code has it

module _ (v : Seen) (s : State) (h : Held) (st : Stands v s) (site : Place) (p : Procedure) (q : ProcedureHead) (is : procedure_at v.code p.head ≡ Some q) where
  abbrev fs : List Formal
  fs = q.formals.items

  abbrev row : Next (Unit {0})
  row = call_row v site p (machine_of v s h)

  pub call_stopped : (s' : State) (y : Halt) → step_answer s.steps v.setting.steps ≡ Err y → s' ≡ s → Goes v s' h (comes.Halted y) row
  call_stopped s' y e k = subst (λ (z : State). Goes v z h (comes.Halted y) row) (sym k) (subst (λ (z : Halt). Goes v s h (comes.Halted z) row) (sym (stopped s.steps v.setting.steps y e).1) (record { is = call_is v s h st site p q is ∙ tick_off v.setting (body v s h st site p fs) (machine_of v s h) (stopped s.steps v.setting.steps y e).0; stands = st }))

  module _ (e : step_answer s.steps v.setting.steps ≡ Ok tt) where
    counted_on : nat_lt s.steps v.setting.steps ≡ true
    counted_on = went s.steps v.setting.steps e

    st1 : Stands v (ticked s)
    st1 = ticked_stands v s st counted_on

    steps_on : row ≡ body v (ticked s) h st1 site p fs (machine_of v (ticked s) h)
    steps_on = call_is v s h st site p q is ∙ tick_on v.setting (body v s h st site p fs) (machine_of v s h) counted_on

    -- the frame as the code has it
    abbrev pub call_frame : Store → (pc base : ℕ) → store_frame.Frame
    call_frame t pc b = counted_frame t (pc + 1) b p.head p.link purpose.Value Option.None

    pub call_limited : (l : Limit) (s1 : State) (pc b : ℕ) (w : Store) → s1 ≡ ticked s → text_allowed (call_frame s1.store pc b) s1.store ≡ Err (refusal.Limit l) → w ≡ s1.store → Goes v (record s1 { store = w }) h (comes.Halted (halt.Limit l)) row
    call_limited l s1 pc b w k a we = subst (λ (z : State). Goes v z h (comes.Halted (halt.Limit l)) row) (sym (ap (λ (x : Store). record s1 { store = x }) we ∙ k)) (subst (λ (z : Limit). Goes v (ticked s) h (comes.Halted (halt.Limit z)) row) (sym over.1) (record { is = steps_on ∙ body_limit v (ticked s) h st1 site p fs over.0; stands = st1 })) where
      over : (nat_lt s.store.depth 2000 ≡ false) × (l ≡ limit.Depth)
      over = limited_over s.store (call_frame s.store pc b) l refl (subst (λ (z : State). text_allowed (call_frame z.store pc b) z.store ≡ Err (refusal.Limit l)) k a)

    module _ (clear : IsClear row) where
      clear1 : IsClear (body v (ticked s) h st1 site p fs (machine_of v (ticked s) h))
      clear1 = subst IsClear steps_on clear

      pub call_refused : (s1 : State) (pc b : ℕ) → s1 ≡ ticked s → text_allowed (call_frame s1.store pc b) s1.store ≡ Err refusal.NoRoom → ⊥
      call_refused s1 pc b k a = cc (no.1, body_room v (ticked s) h st1 site p fs clear1 no.0) where
        no : (nat_lt s.store.depth 2000 ≡ true) × (takes s.store p.link ≡ false)
        no = refused_below s.store (call_frame s.store pc b) refl (subst (λ (z : State). text_allowed (call_frame z.store pc b) z.store ≡ Err refusal.NoRoom) k a)

      not_deep : (d : ℕ) → (true && nat_le 2000 d) ≡ false → nat_lt d 2000 ≡ true
      not_deep d e = grind (arith, nat_tests)

      second : (a b : Bool) → (a && b) ≡ true → b ≡ true
      second true b e = e
      second false b e = absurd (cc e)

      -- its link names the program or a text that lies below, unless the depth stops it
      pub call_below : (s1 : State) (links : Option ℕ) → s1 ≡ ticked s → IfSome links (λ n. (true && nat_le 2000 s1.store.depth) ≡ false → is_below p.link (length s1.store.frames) ≡ true)
      call_below s1 None k = tt
      call_below s1 (Some n) k = subst (λ (z : State). (true && nat_le 2000 z.store.depth) ≡ false → is_below p.link (length z.store.frames) ≡ true) (sym k)
          (λ e. second (has_room s.store) (is_below p.link (length s.store.frames)) (body_room v (ticked s) h st1 site p fs clear1 (not_deep s.store.depth e)))

      module _ (s1 : State) (pc b : ℕ) (k : s1 ≡ ticked s) (a : text_allowed (call_frame s1.store pc b) s1.store ≡ Ok tt) where
        deep : nat_lt s.store.depth 2000 ≡ true
        deep = allowed_below s.store (call_frame s.store pc b) refl (subst (λ (z : State). text_allowed (call_frame z.store pc b) z.store ≡ Ok tt) k a)

        pub call_within : Lands v row → p.head + 1 < length v.code.instructions
        call_within l = body_within v (ticked s) h st1 site p fs clear1 deep (subst (Lands v) steps_on l)

        pub call_room : length s.store.entries + 1 + length fs ≤ s.store.entry_room
        call_room = formals_room v (ticked s) h st1 site p fs clear1 deep

        pub call_done : ProcedureRuns v.code.given q → length s.store.cells ≤ 32768 → v.pc ≡ pc → b ≡ length s.store.cells - length fs → (w : Store) → w ≡ entered (call_frame s1.store pc b) (entry.Call p.head site) s1.store →
            (s' : State) → s' ≡ record s1 { store = record w { entries = w.entries ++ formal_entries b fs } } → (r : next.Next) → r ≡ comes.On (record { pc = p.head + 1; held = h }) → Goes v s' h r row
        call_done fits cells pe be w we s' se r re = subst (λ (x : next.Next). Goes v s' h x row) (sym re) (record { is = steps_on ∙ on_it.is; stands = on_it.stands }) where
          on_it : Goes v s' h (comes.On (record { pc = p.head + 1; held = h })) (body v (ticked s) h st1 site p fs (machine_of v (ticked s) h))
          on_it = body_goes v (ticked s) h st1 site p fs clear1 deep fits.formals fits.few cells s'
              (se
              ∙ ap (λ (x : Store). record s1 { store = record x { entries = x.entries ++ formal_entries b fs } }) we
              ∙ ap (λ n. record s1 { store = record (entered (call_frame s1.store n b) (entry.Call p.head site) s1.store) { entries = (s1.store.entries ++ entry.Call p.head site ∷ []) ++ formal_entries b fs } }) (sym pe)
              ∙ ap (λ n. record s1 { store = record (entered (call_frame s1.store v.pc n) (entry.Call p.head site) s1.store) { entries = (s1.store.entries ++ entry.Call p.head site ∷ []) ++ formal_entries n fs } }) be
              ∙ ap (λ (z : State). record z { store = record (entered (call_frame z.store v.pc (length s.store.cells - length fs)) (entry.Call p.head site) z.store) { entries = (z.store.entries ++ entry.Call p.head site ∷ []) ++ formal_entries (length s.store.cells - length fs) fs } }) k)
