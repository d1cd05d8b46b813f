-- Steps, depth and begun statements.
use Rattle.std.proofs.Common.{◌≡◌, ℕ, ◌+◌, ◌<◌, List, [], ◌∷◌, length, map, Option, Some, None, refl, sym, ap, ◌∙◌, subst, arith, ltb-true}
use Rattle.std.specs.Prelude.{slice_get, nat_lt, Bool, true, false}
use Rattle.value_ops.specs.declared.places.Place.{Place}
use Rattle.value_ops.specs.declared.faults.Limit.TheVariants as limit
use Rattle.program_meaning.specs.State as state
use Rattle.program_meaning.specs.State.{State, Setting, Why, by_fault, by_limit, wrong, unfinished, Outcome, on, jump, stop, M, Use, most_depth, after}
use Rattle.program_meaning.specs.Environments.{Env, Bodied}
use Rattle.stack_code.specs.Instr as instr
use Rattle.stack_code.specs.Code.{Code, Coded}
use Rattle.stack_code.specs.Machine.{Machine, Content}
use Rattle.stack_code.specs.Doing as doing
use Rattle.stack_code.specs.Doing.{Next, Row, halted, go_on, ◌>>◌}
use Rattle.stack_code.specs.Table.{does}
use Rattle.phrase_code.specs.Sizes.{begin_size}
use Rattle.phrase_code.specs.Coding.{Context, begin_code, ◌▸◌}
use Rattle.code_simulation.specs.Relation.{HasAt, Base, Heap, mach, World, Target, Settled, Listed, Agrees, At}
use Rattle.code_simulation.specs.UnderWay.{IsDeep}
use Rattle.code_simulation.specs.Following.{already, Follows}
use Rattle.code_simulation.proofs.Rows.{one_row, follows_from}
use Rattle.code_simulation.proofs.Keeping.{grew_to, at_on}
use Rattle.code_simulation.proofs.Values.{limit_here}
use Rattle.std.specs.Prelude.{nat_le}
use Rattle.std.proofs.Common.{leb-true}
use Rattle.program_meaning.specs.State.{most_cells}
use Rattle.code_simulation.specs.Relation.{content_of}
use Rattle.code_simulation.proofs.Stacks.{length_map}
use Rattle.code_simulation.proofs.Keeping.{pushed, with_cells}
use Rattle.code_simulation.proofs.Values.{push_yes, push_no, room_yes, room_no}

abbrev pub ticked : State Bodied → State Bodied
ticked s = record s { steps = s.steps + 1 }

abbrev pub deepened : State Bodied → State Bodied
deepened s = record s { depth = s.depth + 1 }

abbrev pub begun_state : Option Place → State Bodied → State Bodied
begun_state None s = s
begun_state (Some st) s = record s { steps = s.steps + 1; begun = st ∷ s.begun }

module _ (set : Setting) (program : Code) where
  -- what follows from the same machine and a state that is otherwise the same
  pub follows_since : {A : Type 0} (R : A → Heap → State Bodied → Machine → Type 0) (ts : List Target) (h : Heap) (s s' : State Bodied) (m : Machine) (r : Outcome Bodied A) → s'.memory ≡ s.memory → s'.arrays ≡ s.arrays → s'.procedures ≡ s.procedures → s'.labels ≡ s.labels → (IsDeep s → IsDeep s') → Follows set program R ts h s' m r → Follows set program R ts h s m r
  follows_since R ts h s s' m r p q x y d f = follows_from set program R ts h s h s' m m r already (grew_to h s s' p q x y d) f

  pub follows_assoc : {A B C : Type 0} (R : C → Heap → State Bodied → Machine → Type 0) (ts : List Target) (h : Heap) (s : State Bodied) (m : Machine) (r : Outcome Bodied A) (f : A → M Bodied B) (g : B → M Bodied C) → Follows set program R ts h s m (after r (λ a s1. after (f a s1) g)) → Follows set program R ts h s m (after (after r f) g)
  follows_assoc R ts h s m (on a t) f g x = x
  follows_assoc R ts h s m (jump l t) f g x = x
  follows_assoc R ts h s m (stop y w t) f g x = x

  -- a step that is counted within a row
  pub tick_then : {A : Type 0} (R : A → Heap → State Bodied → Machine → Type 0) (ts : List Target) (b : Base) (h : Heap) (s : State Bodied) (k : ℕ) (held : Content) (m : Machine) (c : Coded) (K : Row (Unit {0})) (f : Unit {0} → M Bodied A) → slice_get program.instructions m.pc ≡ Some c → does set program c.at c.does m ≡ (doing.tick set >> K) (mach b h s k held) →
      Listed program.instructions b s.arrays b.entries [] s.active → Settled b h s.memory s.records s.fields → (does set program c.at c.does m ≡ K (mach b h (ticked s) k held) → Follows set program R ts h (ticked s) m (f tt (ticked s))) → Follows set program R ts h s m (after (state.tick set c.at s) f)
  tick_then R ts b h s k held m c K f e d l st g = by (nat_lt s.steps set.steps) refl
    where
      row_by : (t : Bool) → nat_lt s.steps set.steps ≡ t → (doing.tick set >> K) (mach b h s k held) ≡ doing.after (elim t [ true ↦ doing.on (tt {0}) (mach b h (ticked s) k held) | false ↦ halted (by_limit limit.Steps) (mach b h s k held) ]) (λ a. K)
      row_by t q = ap (λ (z : Bool). let n : Next (Unit {0}) = elim z [ true ↦ doing.on (tt {0}) (mach b h (ticked s) k held) | false ↦ halted (by_limit limit.Steps) (mach b h s k held) ] in doing.after n (λ a. K)) q

      by : (t : Bool) → nat_lt s.steps set.steps ≡ t → Follows set program R ts h s m (after (elim t [ true ↦ on (tt {0}) (ticked s) | false ↦ stop (by_limit limit.Steps) c.at s ]) f)
      by true q = follows_since R ts h s (ticked s) m (f tt (ticked s)) refl refl refl refl (λ d. d) (g (d ∙ row_by true q))
      by false q = limit_here set program R ts h s m c limit.Steps b k held e (d ∙ row_by false q) l st

  -- a call or a copied actual more within a row, where the depth left one more
  pub deeper_then : {A : Type 0} (R : A → Heap → State Bodied → Machine → Type 0) (ts : List Target) (b : Base) (h : Heap) (s : State Bodied) (k : ℕ) (held : Content) (m : Machine) (c : Coded) (K : Row (Unit {0})) (f : Unit {0} → M Bodied A) → slice_get program.instructions m.pc ≡ Some c → does set program c.at c.does m ≡ (doing.deeper >> K) (mach b h s k held) →
      Listed program.instructions b s.arrays b.entries [] s.active → Settled b h s.memory s.records s.fields → (s.depth < most_depth → does set program c.at c.does m ≡ K (mach b h (deepened s) k held) → Follows set program R ts h (deepened s) m (f tt (deepened s))) → Follows set program R ts h s m (after (state.deeper c.at s) f)
  deeper_then R ts b h s k held m c K f e d l st g = by (nat_lt s.depth most_depth) refl
    where
      row_by : (t : Bool) → nat_lt s.depth most_depth ≡ t → (doing.deeper >> K) (mach b h s k held) ≡ doing.after (elim t [ true ↦ doing.on (tt {0}) (mach b h (deepened s) k held) | false ↦ halted (by_limit limit.Depth) (mach b h s k held) ]) (λ a. K)
      row_by t q = ap (λ (z : Bool). let n : Next (Unit {0}) = elim z [ true ↦ doing.on (tt {0}) (mach b h (deepened s) k held) | false ↦ halted (by_limit limit.Depth) (mach b h s k held) ] in doing.after n (λ a. K)) q

      by : (t : Bool) → nat_lt s.depth most_depth ≡ t → Follows set program R ts h s m (after (elim t [ true ↦ on (tt {0}) (deepened s) | false ↦ stop (by_limit limit.Depth) c.at s ]) f)
      by true q = follows_since R ts h s (deepened s) m (f tt (deepened s)) refl refl refl refl (λ d. omega (arith, d)) (g (ltb-true s.depth most_depth q) (d ∙ row_by true q))
      by false q = limit_here set program R ts h s m c limit.Depth b k held e (d ∙ row_by false q) l st

  -- a cell is pushed within a row, and there was room for it
  pub push_within : {A : Type 0} (R : A → Heap → State Bodied → Machine → Type 0) (ts : List Target) (w : World) (b : Base) (h : Heap) (s : State Bodied) (k : ℕ) (x held : Content) (m : Machine) (c : Coded) (K : Row (Unit {0})) (f : Unit {0} → M Bodied A) → slice_get program.instructions m.pc ≡ Some c → does set program c.at c.does m ≡ (doing.push x >> K) (mach b h s k held) → Agrees program.instructions w b h s →
      (length b.slots < most_cells → does set program c.at c.does m ≡ K (mach (pushed x b) h s k held) → Follows set program R ts h (with_cells (s.cells + 1) s) m (f tt (with_cells (s.cells + 1) s))) → Follows set program R ts h s m (after (state.take_cells 1 c.at s) f)
  push_within R ts w b h s k x held m c K f e d a g = by (nat_le (s.cells + 1) most_cells) refl
    where
      n : length (map (content_of s.memory) b.slots) ≡ s.cells
      n = length_map (content_of s.memory) b.slots ∙ a.cells

      by : (t : Bool) → nat_le (s.cells + 1) most_cells ≡ t → Follows set program R ts h s m (after (elim t [ true ↦ on (tt {0}) (with_cells (s.cells + 1) s) | false ↦ stop (by_limit limit.Storage) c.at s ]) f)
      by true p = follows_since R ts h s (with_cells (s.cells + 1) s) m (f tt (with_cells (s.cells + 1) s)) refl refl refl refl (λ d. d) (g (let y = leb-true (s.cells + 1) most_cells p in let z = a.cells in omega (arith, y, z)) (d ∙ ap (λ r. doing.after r (λ z. K)) (push_yes x (mach b h s k held) (room_yes _ s.cells n p))))
      by false p = limit_here set program R ts h s m c limit.Storage b k held e (d ∙ ap (λ r. doing.after r (λ z. K)) (push_no x (mach b h s k held) (room_no _ s.cells n p))) a.listed a.settled

  -- a state where only steps, begun statements and the like changed
  pub at_begun : (st : Option Place) (w : World) (b : Base) (h : Heap) (s : State Bodied) (c : Context) (e : Env) → At program.instructions w b h s c e → At program.instructions w b h (begun_state st s) c e
  at_begun None w b h s c e a = a
  at_begun (Some st) w b h s c e a = at_on program.instructions w b h h s (begun_state (Some st) s) c e (grew_to h s (begun_state (Some st) s) refl refl refl refl (λ d. d)) a.agrees.settled a.agrees.cells refl a

  pub active_begun : (st : Option Place) (s : State Bodied) → (begun_state st s).active ≡ s.active
  active_begun None s = refl
  active_begun (Some st) s = refl

  -- a statement is begun
  pub begin_then : {A : Type 0} (R : A → Heap → State Bodied → Machine → Type 0) (ts : List Target) (st : Option Place) (w : World) (b : Base) (h : Heap) (s : State Bodied) (k : ℕ) (held : Content) (more : List Coded) (f : Unit {0} → M Bodied A) → HasAt program.instructions k (begin_code st ▸ more) → Agrees program.instructions w b h s →
      (HasAt program.instructions (k + begin_size st) more → Follows set program R ts h (begun_state st s) (mach b h (begun_state st s) (k + begin_size st) held) (f tt (begun_state st s))) → Follows set program R ts h s (mach b h s k held) (after (state.begin set st s) f)
  begin_then R ts None w b h s k held more f code a g =
      let e : k ≡ k + 0 = omega arith in
      subst (λ n. Follows set program R ts h s (mach b h s n held) (f tt s)) (sym e) (g (subst (λ n. HasAt program.instructions n more) e code))
  begin_then R ts (Some st) w b h s k held more f code a g =
      follows_assoc R ts h s (mach b h s k held) (state.tick set st s) (λ z. state.note_begun st) f
      (tick_then R ts b h s k held (mach b h s k held) (record { at = st; does = instr.Begin }) ((doing.note_begun st) >> go_on) (λ z s1. after (state.note_begun st s1) f) code.0 (shape (doing.tick set (mach b h s k held))) a.listed a.settled
      (λ d. follows_from set program R ts h (ticked s) h (begun_state (Some st) s) (mach b h s k held) (mach b h (begun_state (Some st) s) (k + 1) held) (f tt (begun_state (Some st) s)) (one_row set program (mach b h s k held) (mach b h (begun_state (Some st) s) (k + 1) held) (record { at = st; does = instr.Begin }) code.0 d)
      (grew_to h (ticked s) (begun_state (Some st) s) refl refl refl refl (λ d. d)) (g code.1)))
    where
      shape : (n : Next (Unit {0})) → doing.after (doing.after n (λ z. doing.note_begun st)) (λ z. go_on) ≡ doing.after n (λ z. (doing.note_begun st) >> go_on)
      shape (doing.on y n) = refl
      shape (doing.ended n) = refl
      shape (halted y n) = refl
