-- Whole programs.
use Rattle.std.proofs.Common.{◌≡◌, ℕ, zero, suc, ◌+◌, ◌<◌, ◌⊎◌, inl, inr, List, [], ◌∷◌, length, Option, Some, None, refl, sym, ap, ◌∙◌, subst, arith}
use Rattle.std.specs.Prelude.{slice_get}
use Rattle.program_meaning.specs.Phrases.{Phrase}
use Rattle.program_meaning.specs.State as state
use Rattle.program_meaning.specs.State.{State, Setting, Why, by_fault, by_limit, wrong, unfinished, Outcome, on, jump, stop, for_value}
use Rattle.program_meaning.specs.Environments.{Bodied, phrase_job, empty, run}
use Rattle.program_meaning.specs.Results.{initial, nowhere}
use Rattle.stack_code.specs.Instr as instr
use Rattle.stack_code.specs.Instr.{the_value}
use Rattle.stack_code.specs.Code.{Code, Coded}
use Rattle.stack_code.specs.Machine as machine
use Rattle.stack_code.specs.Machine.{Machine, at_first, on_top_of}
use Rattle.stack_code.specs.Run as table
use Rattle.stack_code.specs.Run.{Stepped, further, over, normal, stopped, row, rows, RunsTo}
use Rattle.phrase_code.specs.Sizes.{size}
use Rattle.phrase_code.specs.Coding.{program_code, outermost, code, known, one, ◌▸◌}
use Rattle.code_simulation.specs.Relation.{HasAt, Base, Heap, mach, World, Stands, Settled, Agrees, At}
use Rattle.code_simulation.specs.Following.{Comes, already, by_row, Seen, Follows, Gives}
use Rattle.code_simulation.specs.Statement.{Counts, TableDoes, CodeDoesWhatTheProgramDoes}
use Rattle.code_simulation.proofs.Stacks.{none_is_some, past_top}
use Rattle.code_simulation.proofs.Rows.{row_at}
use Rattle.code_simulation.proofs.Operators.{behind}
use Rattle.code_simulation.proofs.Dumps.{same_dump}
use Rattle.code_simulation.proofs.Simulation.{runs_follow}
use Rattle.phrase_code.specs.Marks.{marks}
use Rattle.code_simulation.proofs.Room.{fits_nothing}

-- ---- rows, counted

module _ (set : Setting) (program : Code) where
  rows_on : (m n : Machine) (k : ℕ) → row set program m ≡ further n → rows set program (suc k) m ≡ rows set program k n
  rows_on m n k e = ap (table.continued (rows set program k)) e

  rows_over : (m : Machine) (o : table.Outcome) (k : ℕ) → row set program m ≡ over o → rows set program (suc k) m ≡ o
  rows_over m o k e = ap (table.continued (rows set program k)) e

  counted : {m last : Machine} (o : table.Outcome) → Comes set program m last → row set program last ≡ over o → (n : ℕ) × ((more : ℕ) → rows set program (n + more) m ≡ o)
  counted {m} o already e = (1, λ more. let q : 1 + more ≡ suc more = omega arith in ap (λ k. rows set program k m) q ∙ rows_over m o more e)
  counted {m} o (by_row {n = m'} r c) e = let h = counted o c e in (suc h.0, λ more. let q : suc h.0 + more ≡ suc (h.0 + more) = omega arith in ap (λ k. rows set program k m) q ∙ rows_on m m' (h.0 + more) r ∙ h.1 more)

  runs_to : {last : Machine} (o : table.Outcome) → Comes set program at_first last → row set program last ≡ over o → RunsTo set program o
  runs_to o c e = let h = counted o c e in record { count = h.0; by = h.1 }

-- ---- the beginning

abbrev empty_base : Base
empty_base = record { reserved = []; slots = []; entries = []; frames = []; current = None }

-- only the standard variables
abbrev empty_heap : Heap
empty_heap = record { records = []; fields = 1 ∷ 0 ∷ [] }

abbrev empty_world : ℕ → World
empty_world n = record { procedures = []; targets = []; marks = n }

stands_first : (k : ℕ) (x : machine.Where) → Stands empty_base empty_heap k x → (k < 2) × (x ≡ machine.in_field k)
stands_first k (machine.in_cell c) e = absurd (none_is_some (sym (past_top [] c (omega arith)) ∙ e))
stands_first k (machine.in_field zero) e = let q : 0 ≡ k = cc in (omega (arith, q), ap machine.in_field q)
stands_first k (machine.in_field (suc zero)) e = let q : 1 ≡ k = cc in (omega (arith, q), ap machine.in_field q)
stands_first k (machine.in_field (suc (suc f))) e = absurd (none_is_some (sym (past_top (1 ∷ 0 ∷ []) (suc (suc f)) (omega arith)) ∙ e))

standard_first : (k : ℕ) → k < 2 → on_top_of empty_heap.fields k ≡ Some k
standard_first zero l = refl
standard_first (suc zero) l = refl
standard_first (suc (suc k)) l = absurd (omega (arith, l))

begins : (program : List Coded) (n : ℕ) → At program (empty_world n) empty_base empty_heap initial outermost empty
begins program n = record {
  agrees = record {
    settled = record { apart = λ k x y p q. (stands_first k x p).1 ∙ sym (stands_first k y q).1; within = λ k x p. (stands_first k x p).0; has = λ r info e. absurd (none_is_some e); kept = λ k i. absurd i; count = refl; as_many = refl; standard = standard_first };
    cells = refl;
    listed = tt;
    lives = λ p i. absurd i;
    above = λ t i. absurd i;
    deep = omega arith;
  };
  shows = tt;
  start = 0;
  starts = refl;
  counted = refl;
}

-- all of a code stands in it
pub whole : (before code' : List Coded) → HasAt (Rattle.std.specs.Prelude.◌++◌ before code') (length before) code'
whole before [] = tt
whole before (i ∷ code') =
    let e = Rattle.code_simulation.proofs.Stacks.get_behind before (i ∷ code') 0 in
    let z : length before + 0 ≡ length before = omega arith in
    let l : length (Rattle.std.specs.Prelude.◌++◌ before (i ∷ [])) ≡ length before + 1 = Rattle.std.proofs.Common.length-append before (i ∷ []) in (
      ap (slice_get (Rattle.std.specs.Prelude.◌++◌ before (i ∷ code'))) (sym z) ∙ e,
      subst (λ k. HasAt (Rattle.std.specs.Prelude.◌++◌ before (i ∷ code')) k code') l
          (subst (λ p. HasAt p (length (Rattle.std.specs.Prelude.◌++◌ before (i ∷ []))) code') (Rattle.std.proofs.Common.append_assoc before (i ∷ []) code') (whole (Rattle.std.specs.Prelude.◌++◌ before (i ∷ [])) code')),
    )

counts_of : (set : Setting) (program : Code) (m : Machine) (s : State Bodied) → Seen set program m s → Counts m s
counts_of set program m s x = record { pieces = ap (λ z. z.pieces) x.is; begun = ap (λ z. z.begun) x.is; steps = ap (λ z. z.steps) x.is }

-- ---- the theorem

module _ (set : Setting) (a : Phrase) where
  stands : HasAt (program_code a).instructions 0 (code outermost nowhere the_value 0 a ▸ one nowhere instr.Stop)
  stands = whole [] (code outermost nowhere the_value 0 a ▸ one nowhere instr.Stop)

  table_follows : (r : Outcome Bodied state.Given) → Follows set (program_code a) (Gives empty_base [] (0 + size (known outermost) a)) [] empty_heap initial at_first r → TableDoes set (program_code a) r
  table_follows (jump l s) x = absurd x.has
  table_follows (stop (by_fault f) w s) x = (record { end = x.end; runs = runs_to set (program_code a) (stopped (by_fault f) w x.end) x.comes x.stops; counts = counts_of set (program_code a) x.end s x.seen; dump = same_dump set (program_code a) x.end s x.seen })
  table_follows (stop (by_limit f) w s) x = (record { end = x.end; runs = runs_to set (program_code a) (stopped (by_limit f) w x.end) x.comes x.stops; counts = counts_of set (program_code a) x.end s x.seen; dump = same_dump set (program_code a) x.end s x.seen })
  table_follows (stop wrong w s) x = tt
  table_follows (stop unfinished w s) x = tt
  table_follows (on g s) x =
      let q = x.is.reached in
      let k = 0 + size (known outermost) a in
      let m = mach empty_base x.heap s k x.is.held in
      (record {
        end = m;
        runs = runs_to set (program_code a) (normal m) (subst (Comes set (program_code a) at_first) q.is x.comes)
            (row_at set (program_code a) m (record { at = nowhere; does = instr.Stop }) k refl (behind (program_code a).instructions outermost nowhere the_value 0 a (one nowhere instr.Stop) stands).0);
        counts = record { pieces = refl; begun = refl; steps = refl };
      })

pub code_does_what_the_program_does : CodeDoesWhatTheProgramDoes
code_does_what_the_program_does set n a w = table_follows set a (run set n (phrase_job for_value nowhere a empty) initial)
    ((runs_follow set (program_code a) n).phrase for_value nowhere a w (empty_world (marks a)) empty_base empty_heap initial outermost empty the_value 0 machine.nothing (Rattle.code_simulation.proofs.Stacks.has_front (program_code a).instructions 0 _ _ (stands set a)) refl (begins (program_code a).instructions (marks a)) (fits_nothing (marks a) (marks a) (empty_world (marks a)) refl (omega arith)))
