-- Cells that were pushed one after the other, and are popped at once.
use Rattle.std.proofs.Common.{◌≡◌, ℕ, zero, suc, ◌+◌, ◌-◌, ℤ, List, [], ◌∷◌, ◌++◌, length, map, Option, Some, refl, ap, ◌∙◌, arith}
use Rattle.std.proofs.lemmas.List.{append-nil}
use Rattle.std.specs.Prelude.{slice_get}
use Rattle.value_ops.specs.declared.values.Value.{Value}
use Rattle.value_ops.specs.declared.values.Value.TheVariants as value
use Rattle.program_meaning.specs.State as state
use Rattle.program_meaning.specs.State.{State, Setting, Outcome, on, jump, stop, Use, for_value, for_place, after, RecordInfo, give_back}
use Rattle.program_meaning.specs.Environments.{Env, Bodied}
use Rattle.stack_code.specs.Code.{Code, Coded}
use Rattle.stack_code.specs.Machine as machine
use Rattle.stack_code.specs.Machine.{Machine, Content, Where}
use Rattle.stack_code.specs.Doing as doing
use Rattle.stack_code.specs.Doing.{Next, Row, ended, halted, go_on, ◌>>=◌}
use Rattle.stack_code.specs.Table.{does}
use Rattle.phrase_code.specs.Coding.{Context}
use Rattle.code_simulation.specs.Relation.{Slot, fixed, Base, Heap, mach, World, Target, Stands, Settled, Listed, Grew, At, content_of}
use Rattle.code_simulation.specs.Following.{Follows, Gives}
use Rattle.code_simulation.proofs.Rows.{one_row, follows_on, grew_on}
use Rattle.code_simulation.proofs.Keeping.{pushed, with_cells, at_on, grew_to}
use Rattle.code_simulation.proofs.Values.{settled_below, gives_value}
use Rattle.code_simulation.proofs.Making.{look_alike}
use Rattle.code_simulation.proofs.Storing.{alike_then}
use Rattle.code_simulation.proofs.Counting.{follows_since, follows_assoc}

-- rows one after the other, joined otherwise
pub rows_joined : {A B C : Type 0} (n : Next A) (f : A → Row B) (g : B → Row C) → doing.after (doing.after n f) g ≡ doing.after n (λ a m. doing.after (f a m) g)
rows_joined (doing.on a m) f g = refl
rows_joined (ended m) f g = refl
rows_joined (halted y m) f g = refl

-- ---- cells one over the other, the last one newest

abbrev pub fixed_over : List Content → List Slot → List Slot
fixed_over [] l = l
fixed_over (x ∷ xs) l = fixed_over xs (fixed x ∷ l)

abbrev pub pushed_all : List Content → Base → Base
pushed_all xs b = record b { slots = fixed_over xs b.slots }

abbrev pub cells_over : List Content → List Content → List Content
cells_over [] l = l
cells_over (x ∷ xs) l = cells_over xs (x ∷ l)

pub cells_are : (memory : List (Option Value)) (xs : List Content) (slots : List Slot) → map (content_of memory) (fixed_over xs slots) ≡ cells_over xs (map (content_of memory) slots)
cells_are memory [] slots = refl
cells_are memory (x ∷ xs) slots = cells_are memory xs (fixed x ∷ slots)

pub length_over : (xs : List Content) (slots : List Slot) → length (fixed_over xs slots) ≡ length slots + length xs
length_over [] slots = omega arith
length_over (x ∷ xs) slots = let e = length_over xs (fixed x ∷ slots) in omega (arith, e)

pub settled_below_all : (xs : List Content) (b : Base) (h : Heap) (memory : List (Option Value)) (records : List RecordInfo) (fields : ℕ) → Settled (pushed_all xs b) h memory records fields → Settled b h memory records fields
settled_below_all [] b h memory records fields a = a
settled_below_all (x ∷ xs) b h memory records fields a = settled_below x b h memory records fields (settled_below_all xs (pushed x b) h memory records fields a)

-- ---- they are popped

popped_last : (n : ℕ) (acc : List Content) (m : Machine) → doing.popped_onto (suc n) acc m ≡ doing.after (doing.popped_onto n acc m) (λ cs. doing.pop >>= λ c. doing.give (c ∷ cs))
popped_last zero acc m = refl
popped_last (suc n) acc m = by m.cells (λ a i. popped_last n a i)
  where
    by : (cells : List Content) → ((a : List Content) (i : Machine) → doing.popped_onto (suc n) a i ≡ doing.after (doing.popped_onto n a i) (λ cs. doing.pop >>= λ c. doing.give (c ∷ cs))) → doing.after (doing.popped cells m) (λ c. doing.popped_onto (suc n) (c ∷ acc)) ≡ doing.after (doing.after (doing.popped cells m) (λ c. doing.popped_onto n (c ∷ acc))) (λ cs. doing.pop >>= λ c. doing.give (c ∷ cs))
    by [] ih = refl
    by (c ∷ cells) ih = ih (c ∷ acc) (record m { cells = cells })

popped_all : (xs acc cells : List Content) (m : Machine) → doing.popped_onto (length xs) acc (record m { cells = cells_over xs cells }) ≡ doing.on (xs ++ acc) (record m { cells = cells })
popped_all [] acc cells m = refl
popped_all (x ∷ xs) acc cells m = popped_last (length xs) acc (record m { cells = cells_over xs (x ∷ cells) }) ∙ ap (λ r. doing.after r (λ cs. doing.pop >>= λ c. doing.give (c ∷ cs))) (popped_all xs acc (x ∷ cells) m)

-- so many cells as there are over the stacks
pub pop_all_is : (b : Base) (h : Heap) (s : State Bodied) (k : ℕ) (held : Content) (xs : List Content) (n : ℕ) → n ≡ length xs → doing.pop_all n (mach (pushed_all xs b) h s k held) ≡ doing.on xs (mach b h s k held)
pop_all_is b h s k held xs n e =
    ap (λ i. doing.pop_all i (mach (pushed_all xs b) h s k held)) e
    ∙ ap (λ l. doing.pop_all (length xs) (record (mach b h s k held) { cells = l })) (cells_are s.memory xs b.slots)
    ∙ popped_all xs [] (map (content_of s.memory) b.slots) (mach b h s k held) ∙ ap (λ l. doing.on l (mach b h s k held)) (append-nil xs)

abbrev pub integer_cell : ℤ → Content
integer_cell i = machine.a_value (value.Integer i)

abbrev pub value_cell : Value → Content
value_cell v = machine.a_value v

pub integers_are : (is : List ℤ) (m : Machine) → doing.integers_in (map integer_cell is) m ≡ doing.on is m
integers_are [] m = refl
integers_are (i ∷ is) m = ap (λ r. doing.after r (λ js. doing.give (i ∷ js))) (integers_are is m)

pub values_are : (vs : List Value) (m : Machine) → doing.values_in (map value_cell vs) m ≡ doing.on (map (λ v. Some v) vs) m
values_are [] m = refl
values_are (v ∷ vs) m = ap (λ r. doing.after r (λ us. doing.give (Some v ∷ us))) (values_are vs m)

-- ---- what was pushed lies there

-- the stacks as before, with these cells on them, whatever is held
pub record Heaped (b : Base) (xs : List Content) (active : List state.Entry) (next : ℕ) (h : Heap) (s : State Bodied) (m : Machine) : Type 0 where
  pub held : Content
  pub is : m ≡ mach (pushed_all xs b) h s next held
  pub settled : Settled (pushed_all xs b) h s.memory s.records s.fields
  pub cells : length b.slots + length xs ≡ s.cells
  pub listed : s.active ≡ active

-- and below them all is as before
pub at_heaped : (program : List Coded) (w : World) (b : Base) (h : Heap) (s : State Bodied) (c : Context) (e : Env) (xs : List Content) (k : ℕ) (h' : Heap) (s' : State Bodied) (m' : Machine) (n : ℕ) → n ≡ length xs → At program w b h s c e → Grew h s h' s' → Heaped b xs s.active k h' s' m' → At program w b h' (with_cells (s'.cells - n) s') c e
at_heaped program w b h s c e xs k h' s' m' n en a g q = at_on program w b h h' s (with_cells (s'.cells - n) s') c e (grew_on h s h' s' h' (with_cells (s'.cells - n) s') g (grew_to h' s' (with_cells (s'.cells - n) s') refl refl refl refl (λ d. d)))
    (settled_below_all xs b h' s'.memory s'.records s'.fields q.settled) (let z = q.cells in omega (arith, z, en)) q.listed a

module _ (set : Setting) (program : Code) where
  -- what is done is done, with nothing behind it
  pub follows_plain : {A : Type 0} (R : A → Heap → State Bodied → Machine → Type 0) (ts : List Target) (h : Heap) (s : State Bodied) (m : Machine) (r : Outcome Bodied A) → Follows set program R ts h s m (after r (λ a. state.give a)) → Follows set program R ts h s m r
  follows_plain R ts h s m (on a t) x = x
  follows_plain R ts h s m (jump l t) x = x
  follows_plain R ts h s m (stop y w t) x = x

  -- a row that holds a variable's value or its place, behind which cells are given back
  pub variable_back : (u : Use) (b : Base) (h : Heap) (s : State Bodied) (k n i : ℕ) (held : Content) (m : Machine) (c : Coded) (ts : List Target) (x : Where) → slice_get program.instructions m.pc ≡ Some c → does set program c.at c.does m ≡ doing.after (doing.variable u x (mach b h s k held)) (λ z. go_on) →
      Listed program.instructions b s.arrays b.entries [] s.active → Settled b h s.memory s.records s.fields → length b.slots ≡ s.cells - i → Stands b h n x →
      Follows set program (Gives b s.active (k + 1)) ts h s m (after (state.variable u c.at n s) (λ r. state.◌>>◌ (give_back i) (state.give r)))
  variable_back for_place b h s k n i held m c ts x e d l st q sd =
      follows_since set program (Gives b s.active (k + 1)) ts h s (with_cells (s.cells - i) s) m (on (state.a_spot (state.whole n)) (with_cells (s.cells - i) s)) refl refl refl refl (λ d. d)
      (follows_on set program (Gives b s.active (k + 1)) ts h (with_cells (s.cells - i) s) m (mach b h s (k + 1) (machine.a_spot (machine.whole x))) (state.a_spot (state.whole n)) (one_row set program m _ c e d) (record { held = machine.a_spot (machine.whole x); holds = sd; reached = record { is = refl; settled = st; cells = q; listed = refl } }))
  variable_back for_value b h s k n i held m c ts x e d l st q sd =
      follows_assoc set program (Gives b s.active (k + 1)) ts h s m (state.look c.at n s) (λ v. state.give (state.a_value v)) (λ r. state.◌>>◌ (give_back i) (state.give r))
      (alike_then set program (Gives b s.active (k + 1)) ts b h s k held m c (λ v m0. doing.after (doing.hold (machine.a_value v) m0) (λ z. go_on)) (λ v s1. on (state.a_value v) (with_cells (s1.cells - i) s1)) (state.look c.at n s) (doing.value_at x (mach b h s k held)) e (d ∙ rows_joined (doing.value_at x (mach b h s k held)) (λ v. doing.hold (machine.a_value v)) (λ z. go_on)) l st (look_alike set program b h s k n held c.at x sd)
      (λ v dv. follows_since set program (Gives b s.active (k + 1)) ts h s (with_cells (s.cells - i) s) m (on (state.a_value v) (with_cells (s.cells - i) s)) refl refl refl refl (λ d. d)
      (gives_value set program b s.active (k + 1) ts h (with_cells (s.cells - i) s) m v (one_row set program m (mach b h s (k + 1) (machine.a_value v)) c e dv) st q refl)))
