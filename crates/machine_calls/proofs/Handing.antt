-- What stands for a name that stands alone is handed on.
use Rattle.std.proofs.Common.{◌≡◌, ℕ, ◌+◌, ◌<◌, ◌⊎◌, inl, inr, Option, Some, None, List, length, refl, sym, ap, ◌∙◌, subst, arith}
use Rattle.std.specs.Prelude.{Ok, IsSome}
use Rattle.std.specs.Option.{option_map, option_and_then}
use Rattle.cell_store.specs.Words as word
use Rattle.cell_store.specs.declared.cells.Wide.{Wide}
use Rattle.cell_store.specs.declared.cells.Wide.TheVariants as wide
use Rattle.cell_store.specs.Cells.{Cell, a_word, a_wide, wide_in}
use Rattle.cell_store.specs.Stores.{Store}
use Rattle.name_thunks.specs.Links.{outwards}
use Rattle.stack_code.specs.declared.instructions.Instr.TheVariants as instr
use Rattle.stack_code.specs.declared.instructions.Source.{Source}
use Rattle.stack_code.specs.declared.instructions.Source.TheVariants as source
use Rattle.stack_code.specs.declared.heads.FormalType.{FormalType}
use Rattle.stack_code.specs.declared.heads.FormalType.TheVariants as formal
use Rattle.value_ops.specs.declared.values.SimpleType.{SimpleType}
use Rattle.stack_code.specs.CodeView.{Given, source_view, formal_type_view}
use Rattle.stack_code.specs.Machine.{Machine, Content}
use Rattle.stack_code.specs.Doing.{Next, Row, after, there, source_out, hold, go_on, ◌>>=◌, ◌>>◌}
use Rattle.stack_code.specs.Table as table
use Rattle.cell_store.specs.declared.cells.Word.{Word as Held}
use Rattle.cell_store.specs.declared.cells.Word.TheVariants as held
use Rattle.machine_rows.specs.declared.state.State.{State}
use Rattle.machine_rows.specs.Kinds.{WideFits, CellFits, CellsFit}
use Rattle.machine_rows.specs.Names as named
use Rattle.machine_rows.specs.Seen.{Seen, Stands, Comes, IsClear, machine_of, row_of, content_of, wide_content}
use Rattle.machine_rows.specs.declared.next.Next as next
use Rattle.machine_rows.specs.declared.next.Next.TheVariants as comes
use Rattle.machine_calls.specs.Found as found
use Rattle.machine_rows.specs.Rows.{Goes, Lands}
use Rattle.machine_calls.proofs.Parts.{source_is}
use Rattle.machine_calls.proofs.Preparing.{later}
use Rattle.machine_rows.proofs.Standing.{restored, store_fits, all_got}

-- its type fits
at_cell : (g : Given) (cells : List Cell) (k : Option ℕ) (w : Wide) → CellsFit g cells → named.cell_at cells k ≡ Some (a_wide w) → WideFits g w
at_cell g cells None w h e = absurd (cc e)
at_cell g cells (Some k) w h e = all_got (CellFits g) cells k (a_wide w) h e

pub wide_fits : (g : Given) (t : Store) (x : Source) (w : Wide) → CellsFit g t.cells → found.source_out t x ≡ Some (a_wide w) → WideFits g w
wide_fits g t (source.Entry links position) w h e = at_cell g t.cells (named.cell_out t links position) w h e
wide_fits g t (source.Head links head) w h e = by_link (outwards t.frames t.current links) w e where
  by_link : (o : Option (Option ℕ)) (w : Wide) → option_map (found.procedure_cell head) o ≡ Some (a_wide w) → WideFits g w
  by_link None w q = absurd (cc q)
  by_link (Some l) (wide.Procedure p) q = tt
  by_link (Some l) (wide.Str p) q = absurd (cc q)
  by_link (Some l) (wide.Part p) q = absurd (cc q)
  by_link (Some l) (wide.Array p) q = absurd (cc q)
  by_link (Some l) (wide.Thunk p) q = absurd (cc q)
  by_link (Some l) (wide.Bounds p) q = absurd (cc q)

module _ (v : Seen) (s : State) (h : Held) (st : Stands v s) (x : Source) (k : Content → Row (Unit {0})) where
  abbrev m : Machine
  m = machine_of v s h

  abbrev pub handed_row : Next (Unit {0})
  handed_row = (source_out (source_view x) >>= table.handed >>= k) m

  -- what is found, and what the row is with it
  pub record Handed : Type 0 where
    pub it : Wide
    pub there : found.source_out s.store x ≡ Some (a_wide it)
    pub is : handed_row ≡ k (wide_content v.code.given it) m

  by_cell : (o : Option Cell) → found.source_out s.store x ≡ o → handed_row ≡ after (after (there (option_map (content_of v.code.given) o) m) table.handed) k → IsClear handed_row → Handed
  by_cell None q e clear = absurd (subst IsClear e clear)
  by_cell (Some (a_word word.Nothing)) q e clear = absurd (subst IsClear e clear)
  by_cell (Some (a_word (word.Integer n))) q e clear = absurd (subst IsClear e clear)
  by_cell (Some (a_word (word.Logical n))) q e clear = absurd (subst IsClear e clear)
  by_cell (Some (a_word (word.Bits n))) q e clear = absurd (subst IsClear e clear)
  by_cell (Some (a_word (word.Reference n))) q e clear = absurd (subst IsClear e clear)
  by_cell (Some (a_word (word.Place n))) q e clear = absurd (subst IsClear e clear)
  by_cell (Some (a_wide (wide.Str n))) q e clear = absurd (subst IsClear e clear)
  by_cell (Some (a_wide (wide.Part n))) q e clear = absurd (subst IsClear e clear)
  by_cell (Some (a_wide (wide.Bounds n))) q e clear = absurd (subst IsClear e clear)
  by_cell (Some (a_wide (wide.Array n))) q e clear = record { it = wide.Array n; there = q; is = e }
  by_cell (Some (a_wide (wide.Thunk n))) q e clear = record { it = wide.Thunk n; there = q; is = e }
  by_cell (Some (a_wide (wide.Procedure n))) q e clear = record { it = wide.Procedure n; there = q; is = e }

  pub handed_there : IsClear handed_row → Handed
  handed_there clear = by_cell (found.source_out s.store x) refl (ap (λ r. after r k) (source_is v s h st x table.handed)) clear

-- as the code has it
module _ (v : Seen) (s : State) (h : Held) (st : Stands v s) (x : Source) where
  some_wide : (o : Option Cell) (w : Wide) → o ≡ Some (a_wide w) → option_and_then wide_in o ≡ Some w
  some_wide o w e = ap (λ z. option_and_then wide_in z) e

  pub hand_some : (k : Content → Row (Unit {0})) → IsClear (handed_row v s h st x k) → IsSome (found.wide_out s.store x)
  hand_some k clear = let p = handed_there v s h st x k clear in subst (λ o. IsSome o) (sym (some_wide (found.source_out s.store x) p.it p.there)) refl

  same_wide : (k : Content → Row (Unit {0})) (clear : IsClear (handed_row v s h st x k)) (w : Wide) → Some w ≡ found.wide_out s.store x → w ≡ (handed_there v s h st x k clear).it
  same_wide k clear w e = let p = handed_there v s h st x k clear in cc (e, some_wide (found.source_out s.store x) p.it p.there)

  stands_with : (w : Wide) → found.source_out s.store x ≡ Some (a_wide w) → Stands v (record s { wide = w })
  stands_with w e = restored v s s.store w s.steps st (store_fits v s st) refl refl (wide_fits v.code.given s.store x w st.kinds.cells e) (omega arith) st.within

  abbrev hold_on : Content → Row (Unit {0})
  hold_on c = hold c >> go_on

  abbrev pub hand_row : Next (Unit {0})
  hand_row = row_of v 0 (instr.HandOn x) (machine_of v s h)

  hand_is : hand_row ≡ handed_row v s h st x hold_on
  hand_is = later (after (source_out (source_view x) (machine_of v s h)) table.handed) hold (λ a. go_on)

  pub hand_there : IsClear hand_row → IsSome (found.wide_out s.store x)
  hand_there clear = hand_some hold_on (subst IsClear hand_is clear)

  -- what is found is what is held
  state_is : (k : Content → Row (Unit {0})) (clear : IsClear (handed_row v s h st x k)) (s' : State) → Some s'.wide ≡ found.wide_out s.store x → s' ≡ record s { wide = s'.wide } → s' ≡ record s { wide = (handed_there v s h st x k clear).it }
  state_is k clear s' we se = se ∙ ap (λ w. record s { wide = w }) (same_wide k clear s'.wide we)

  pub hand_done : IsClear hand_row → (s' : State) (r : Held) → r ≡ held.Wide → Some s'.wide ≡ found.wide_out s.store x → s' ≡ record s { wide = s'.wide } → Comes v s' h (Ok r) hand_row
  hand_done clear s' r re we se = subst (λ (z : State). Comes v z h (Ok r) hand_row) (sym (state_is hold_on clear1 s' we se)) (subst (λ (z : Held). Comes v (record s { wide = p.it }) h (Ok z) hand_row) (sym re) (record { is = hand_is ∙ p.is; stands = stands_with p.it p.there })) where
    clear1 : IsClear (handed_row v s h st x hold_on)
    clear1 = subst IsClear hand_is clear

    p : Handed v s h st x hold_on
    p = handed_there v s h st x hold_on clear1

  pub ready_done : (clear : IsClear (handed_row v s h st x table.ready)) (s' : State) → Some s'.wide ≡ found.wide_out s.store x → s' ≡ record s { wide = s'.wide } → (pc : ℕ) → v.pc ≡ pc → (r : next.Next) → r ≡ comes.On (record { pc = pc + 2; held = held.Wide }) → Goes v s' h r (handed_row v s h st x table.ready)
  ready_done clear s' we se pc pe r re = subst (λ (z : State). Goes v z h r (handed_row v s h st x table.ready)) (sym (state_is table.ready clear s' we se)) (subst (λ (z : next.Next). Goes v (record s { wide = p.it }) h z (handed_row v s h st x table.ready)) (sym (re ∙ ap (λ n. comes.On (record { pc = n + 2; held = held.Wide })) (sym pe))) (record { is = p.is; stands = stands_with p.it p.there })) where
    p : Handed v s h st x table.ready
    p = handed_there v s h st x table.ready clear

  pub ready_within : (clear : IsClear (handed_row v s h st x table.ready)) → Lands v (handed_row v s h st x table.ready) → v.pc + 2 < length v.code.instructions
  ready_within clear l = subst (Lands v) (handed_there v s h st x table.ready clear).is l

-- a procedure's or an array's name for a formal of that kind
module _ (v : Seen) (s : State) (h : Held) (st : Stands v s) (x : Source) (head : ℕ) where
  pub name_handed : (t : FormalType) → ((r : Option SimpleType) × (t ≡ formal.Procedure r)) ⊎ ((k : SimpleType) × (n : ℕ) × (t ≡ formal.Array k n)) → table.prepare_name v.code.marks (formal_type_view v.code.given t) head (source_view x) (machine_of v s h) ≡ handed_row v s h st x table.ready
  name_handed t (inl w) = ap (λ u. table.prepare_name v.code.marks (formal_type_view v.code.given u) head (source_view x) (machine_of v s h)) w.1
  name_handed t (inr w) = ap (λ u. table.prepare_name v.code.marks (formal_type_view v.code.given u) head (source_view x) (machine_of v s h)) w.2
