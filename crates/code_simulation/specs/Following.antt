-- The machine follows the meaning.
use Rattle.std.specs.Prelude.{◌≡◌, ℕ, ℤ, ◌+◌, ◌-◌, ◌<◌, ◌≤◌, List, [], ◌∷◌, length, max}
use Rattle.value_ops.specs.declared.places.Place.{Place}
use Rattle.program_meaning.specs.Phrases.{Phrase, Name, Items, label_places}
use Rattle.value_ops.specs.declared.values.Value.{Value}
use Rattle.value_ops.specs.declared.values.Value.TheVariants as value
use Rattle.program_meaning.specs.State as state
use Rattle.program_meaning.specs.State.{State, Setting, Why, by_fault, by_limit, wrong, unfinished, Outcome, on, jump, stop, M, Use, Made, back_to, most_cells}
use Rattle.program_meaning.specs.Environments.{Env, Bodied, Job, phrase_job, while_job, step_job, list_job, items_job, go}
use Rattle.stack_code.specs.Instr as instr
use Rattle.stack_code.specs.Instr.{Mode, the_value}
use Rattle.stack_code.specs.Code.{Code}
use Rattle.stack_code.specs.Machine as machine
use Rattle.stack_code.specs.Machine.{Machine, Content}
use Rattle.stack_code.specs.Run.{further, over, row, stopped}
use Rattle.phrase_code.specs.Sizes.{size, items_size}
use Rattle.phrase_code.specs.Coding.{Context, known, code, code_items, turn_context, one, ◌▸◌}
use Rattle.phrase_code.specs.Marks.{marks, items_marks}
use Rattle.code_simulation.specs.Written.{IsWritten, ItemsWritten}
use Rattle.code_simulation.specs.UnderWay.{texts_under}
use Rattle.code_simulation.specs.Relation.{HasAt, Has, Base, Heap, mach, World, Target, Holds, Settled, Grew, At, Wanted, Listed, fixed, item_targets, item_at}
use Rattle.code_simulation.specs.Room.{Fits}

-- the machine is at a place, with this held, and its stacks as before
pub record Reached (b : Base) (active : List state.Entry) (next : ℕ) (held : Content) (h : Heap) (s : State Bodied) (m : Machine) : Type 0 where
  pub is : m ≡ mach b h s next held
  pub settled : Settled b h s.memory s.records s.fields
  pub cells : length b.slots ≡ s.cells
  pub listed : s.active ≡ active

-- it is on behind the code of a phrase, with what the phrase gives held
pub record Gives (b : Base) (active : List state.Entry) (next : ℕ) (r : state.Given) (h : Heap) (s : State Bodied) (m : Machine) : Type 0 where
  pub held : Content
  pub holds : Holds b h r held
  pub reached : Reached b active next held h s m

-- a value lies on the stacks
abbrev pub controlled : Value → Base → Base
controlled v b = record b { slots = fixed (machine.a_value v) ∷ b.slots }

-- control, step and limit
abbrev pub loop_base : (i j n : ℤ) → Base → Base
loop_base i j n b = controlled (value.Integer n) (controlled (value.Integer j) (controlled (value.Integer i) b))

-- the entries of a turn, whose control has the newest cell
abbrev pub turn_base : Place → (back : ℕ) → Name → Base → Base
turn_base at back x b = record b { entries = machine.a_name x.text (length b.slots - 1) ∷ (machine.a_turn at back ∷ b.entries) }

-- the stacks of a loop with a step: control, step and limit lie on those round it
abbrev pub LoopEnds : Base → List state.Entry → ℕ → state.Given → Heap → State Bodied → Machine → Type 0
LoopEnds b active next r h s m = (m ≡ mach b h s next machine.nothing) × (r ≡ state.nothing) × Settled b h s.memory s.records s.fields × (length b.slots + 3 ≡ s.cells) × (s.active ≡ active)

-- the stacks behind a turn of FOR with a list: the control's cell is given back, and the meaning holds it still
abbrev pub TurnEnds : Base → List state.Entry → ℕ → state.Given → Heap → State Bodied → Machine → Type 0
TurnEnds b active next r h s m = (held : Content) × (m ≡ mach b h s next held) × Settled b h s.memory s.records s.fields × (length b.slots + 1 ≡ s.cells) × (s.active ≡ active)

module _ (set : Setting) (program : Code) where
  -- rows lead from one machine to another
  pub data Comes : Machine → Machine → Type 0 where
    already : {m : Machine} → Comes m m
    by_row : {m n o : Machine} → row set program m ≡ further n → Comes n o → Comes m o

  -- a state as the dump shows it
  pub record Seen (m : Machine) (s : State Bodied) : Type 0 where
    pub base : Base
    pub heap : Heap
    pub next : ℕ
    pub held : Content
    pub is : m ≡ mach base heap s next held
    pub listed : Listed program.instructions base s.arrays base.entries [] s.active
    pub settled : Settled base heap s.memory s.records s.fields

  -- rows lead to this stop, and the machine there shows the state
  pub record Stops (m : Machine) (y : Why) (w : Place) (s : State Bodied) : Type 0 where
    pub last : Machine
    pub comes : Comes m last
    pub end : Machine
    pub stops : row set program last ≡ over (stopped y w end)
    pub seen : Seen end s

  -- rows lead to the label's item, with everything cut to its block's mark
  pub record Jumps (targets : List Target) (h : Heap) (s : State Bodied) (m : Machine) (l : ℕ) (s' : State Bodied) : Type 0 where
    pub target : Target
    pub has : Has target targets
    pub number : l ≡ target.number
    pub heap : Heap
    pub comes : Comes m (mach target.base heap (back_to target.made s') target.item machine.nothing)
    pub settled : Settled target.base heap s'.memory s'.records s'.fields
    pub grew : Grew h s heap s'

  -- rows lead to a machine that is as wanted
  pub record GoesOn {A : Type 0} (Q : A → Heap → State Bodied → Machine → Type 0) (h : Heap) (s : State Bodied) (m : Machine) (a : A) (s' : State Bodied) : Type 0 where
    pub heap : Heap
    pub last : Machine
    pub comes : Comes m last
    pub is : Q a heap s' last
    pub grew : Grew h s heap s'

  abbrev pub StopsBy : Why → Place → Machine → State Bodied → Type 0
  StopsBy (by_fault f) w m s = Stops m (by_fault f) w s
  StopsBy (by_limit l) w m s = Stops m (by_limit l) w s
  StopsBy wrong w m s = Unit {0}
  StopsBy unfinished w m s = Unit {0}

  -- from m, rows do what an outcome says; nothing is claimed where the meaning is wrong or unfinished
  abbrev pub Follows : {A : Type 0} → (Q : A → Heap → State Bodied → Machine → Type 0) → List Target → Heap → State Bodied → Machine → Outcome Bodied A → Type 0
  Follows Q targets h s m (on a s') = GoesOn Q h s m a s'
  Follows Q targets h s m (jump l s') = Jumps targets h s m l s'
  Follows Q targets h s m (stop y w s') = StopsBy y w m s'

  -- the code of a phrase does what m does
  abbrev pub CodeDoes : Use → Place → Phrase → (Env → M Bodied state.Given) → Type 0
  CodeDoes u at a m =
      (w : World) (b : Base) (h : Heap) (s : State Bodied) (c : Context) (e : Env) (mode : Mode) (k : ℕ) (held : Content) →
      HasAt program.instructions k (code c at mode k a) → Wanted b mode u → At program.instructions w b h s c e → Fits program.marks w b (marks a) →
      Follows (Gives b s.active (k + size (known c) a)) w.targets h s (mach b h s k held) (m e s)

  -- the code of a phrase does what the phrase does, if what is done behind a step is done so
  pub record PhraseFollows (later : Job → M Bodied state.Given) (a : Phrase) : Type 0 where
    pub by : (u : Use) (at : Place) → CodeDoes u at a (go set later a u at)

  -- what is done behind a step is done so by its code
  pub record LaterFollows (later : Job → M Bodied state.Given) : Type 0 where
    pub phrase : (u : Use) (at : Place) (a : Phrase) → IsWritten a → CodeDoes u at a (λ e. later (phrase_job u at a e))
    pub while : (at : Place) (a body : Phrase) → IsWritten a → IsWritten body → (w : World) (b : Base) (h : Heap) (s : State Bodied) (c : Context) (e : Env) (k : ℕ) (held : Content) →
        HasAt program.instructions k (code c at the_value k body ▸ code c at the_value (k + size (known c) body) a ▸ one at (instr.Again k)) → At program.instructions w b h s c e → Fits program.marks w b (max (marks a) (marks body)) →
        Follows (Gives b s.active (k + size (known c) body + size (known c) a + 1)) w.targets h s (mach b h s k held) (later (while_job at a body e) s)
    -- the items of a block from the n-th label on, where its own labels stand in front of those round it
    pub items : (made : Made) (at : Place) (items : Items) → ItemsWritten items → (outer : List Target) (w : World) (b : Base) (h : Heap) (s : State Bodied) (c : Context) (e : Env) (k n : ℕ) (held : Content) →
        w.targets ≡ item_targets (known c) made b made.first k items outer → made.count ≡ length (label_places items) → ((t : Target) → Has t outer → t.number < made.first) → length b.slots ≡ made.cells → made.active ≡ s.active → n < made.count →
        HasAt program.instructions k (code_items c at k items) → At program.instructions w b h s c e → Fits program.marks w b (items_marks items) → texts_under made.active ≤ made.depth →
        Follows (Gives b s.active (k + items_size (known c) items)) outer h s (mach b h s (item_at (known c) n k items) held) (later (items_job made at items e n) s)
    -- a turn of FOR with a step, and those that follow
    pub step : (at : Place) (x : Name) (i j n : ℤ) (body : Phrase) → IsWritten body → (w : World) (b : Base) (h : Heap) (s : State Bodied) (c : Context) (e : Env) (k : ℕ) (held : Content) →
        HasAt program.instructions k (one at (instr.Turn x.text) ▸ code (turn_context c x) at the_value (k + 1) body ▸ one at (instr.NextTurn k c.count)) → length b.slots + 3 ≡ s.cells → At program.instructions w b h (record s { cells = s.cells - 3 }) c e → Fits program.marks w b (1 + marks body) → length b.slots < most_cells →
        Follows (LoopEnds b s.active (k + 1 + size (known (turn_context c x)) body + 1)) w.targets h s (mach (loop_base i j n b) h s k held) (later (step_job at x i j n body e) s)
    -- a turn of FOR with a list
    pub turn : (at : Place) (x : Name) (i : ℤ) (body : Phrase) → IsWritten body → (w : World) (b : Base) (h : Heap) (s : State Bodied) (c : Context) (e : Env) (k back : ℕ) (held : Content) →
        HasAt program.instructions k (code (turn_context c x) at the_value k body ▸ one at (instr.EndTurn c.count)) → length b.slots + 1 ≡ s.cells → At program.instructions w b h (record s { cells = s.cells - 1 }) c e → Fits program.marks w b (1 + marks body) → length b.slots < most_cells →
        Follows (TurnEnds b s.active back) w.targets h s (mach (turn_base at back x (controlled (value.Integer i) b)) h s k held) (later (list_job at x i body e) s)
