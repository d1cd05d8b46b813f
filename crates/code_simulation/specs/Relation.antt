-- How a machine stands to a state of the meaning by environments.
use Rattle.std.specs.Prelude.{◌≡◌, ℕ, ◌+◌, ◌-◌, ◌<◌, ◌≤◌, ◌⊎◌, List, [], ◌∷◌, ◌++◌, length, map, Option, Some, None, true, false, nat_lt, slice_get}
use Rattle.value_ops.specs.declared.places.Place.{Place}
use Rattle.value_ops.specs.declared.values.Value.{Value}
use Rattle.value_ops.specs.declared.values.Value.TheVariants as value
use Rattle.program_meaning.specs.Phrases.{Phrase, Mark, Formal, Items, no_items, item_and}
use Rattle.program_meaning.specs.State as state
use Rattle.program_meaning.specs.State.{State, ArrayInfo, RecordInfo, ShownName, Held, Made, Use, for_value, for_place, elements}
use Rattle.program_meaning.specs.Environments.{Env, empty, bind, Thing, to_constant, to_variable, to_array, to_label, to_procedure, thunk, Bodied}
use Rattle.stack_code.specs.Instr as instr
use Rattle.stack_code.specs.Instr.{Instr, Mode, the_value, the_place, as_asked, Reading, ProcedureHead}
use Rattle.stack_code.specs.Code.{Coded}
use Rattle.stack_code.specs.Machine as machine
use Rattle.stack_code.specs.Machine.{Machine, Content, RecordMade, Entry, Frame, Thunk, Where, in_cell, in_field, on_top_of}
use Rattle.stack_code.specs.Doing.{outwards, start_at, cell_of}
use Rattle.phrase_code.specs.Sizes.{Known, a_variable, an_array, a_name_formal, a_procedure_formal, a_procedure, a_label, size, result_size}
use Rattle.phrase_code.specs.Marks.{marks}
use Rattle.code_simulation.specs.Written.{IsWritten}
use Rattle.code_simulation.specs.UnderWay.{IsDeep}
use Rattle.phrase_code.specs.Coding.{Stand, Context, known, code, inner_text, body_context, result_code}

-- ---- code at a place

-- these instructions stand in a code from this place on
abbrev pub HasAt : List Coded → ℕ → List Coded → Type 0
HasAt program k [] = Unit {0}
HasAt program k (i ∷ is) = (slice_get program k ≡ Some i) × HasAt program (k + 1) is

-- one of a list
abbrev pub Has : {A : Type 0} → A → List A → Type 0
Has x [] = ⊥
Has x (y ∷ ys) = (x ≡ y) ⊎ Has x ys

-- ---- the machine, as a function of a state

-- a cell: of a variable of the meaning, or one that holds what it was given
pub data Slot : Type 0 where
  variable : ℕ → Slot
  fixed : Content → Slot

-- the stacks of a machine, and the variables that have a number and no cell yet
pub record Base : Type 0 where
  pub reserved : List ℕ
  pub slots : List Slot
  pub entries : List Entry
  pub frames : List Frame
  pub current : Option ℕ

-- what stands in records: the machine's records, and the variable of each field, below those the standard variables
pub record Heap : Type 0 where
  pub records : List RecordMade
  pub fields : List ℕ

abbrev pub content_of_variable : Option (Option Value) → Content
content_of_variable (Some (Some v)) = machine.a_value v
content_of_variable o = machine.nothing

abbrev pub content_of : List (Option Value) → Slot → Content
content_of memory (variable k) = content_of_variable (slice_get memory k)
content_of memory (fixed c) = c

abbrev pub field_of : List (Option Value) → ℕ → Option Value
field_of memory k = elim (slice_get memory k) [ None ↦ None | Some v ↦ v ]

abbrev pub mach : Base → Heap → State Bodied → (next : ℕ) → (held : Content) → Machine
mach b h s next held = record {
  pc = next;
  held = held;
  cells = map (content_of s.memory) b.slots;
  entries = b.entries;
  frames = b.frames;
  current = b.current;
  display = outwards b.frames b.current;
  depth = s.depth;
  records = h.records;
  fields = map (field_of s.memory) h.fields;
  data_read = s.data_read;
  pieces = s.pieces;
  begun = s.begun;
  steps = s.steps;
}

-- ---- what is known beside the stacks

-- a procedure that may be called: its number, its head, the frame of the text round it, the context there, and its formals
pub record LiveProcedure : Type 0 where
  pub number : ℕ
  pub head : ℕ
  pub link : Option ℕ
  pub context : Context
  pub formals : List Formal

-- a label that may be jumped to: its number, its block as the meaning and as the machine made it, and its item
pub record Target : Type 0 where
  pub number : ℕ
  pub made : Made
  pub base : Base
  pub item : ℕ

-- what may be called and jumped to, and how many marks a text may have
pub record World : Type 0 where
  pub procedures : List LiveProcedure
  pub targets : List Target
  pub marks : ℕ

-- ---- where variables stand

-- the variable k stands there
abbrev pub Stands : Base → Heap → ℕ → Where → Type 0
Stands b h k (in_cell c) = on_top_of b.slots c ≡ Some (variable k)
Stands b h k (in_field f) = on_top_of h.fields f ≡ Some k

-- ---- what is given, and what is held

abbrev pub HeldSpot : Base → Heap → state.Spot → machine.Spot → Type 0
HeldSpot b h (state.whole k) (machine.whole x) = Stands b h k x
HeldSpot b h (state.within k m from n) (machine.within x m' from' n') = Stands b h k x × (m ≡ m') × (from ≡ from') × (n ≡ n')
HeldSpot b h k x = ⊥

abbrev pub Holds : Base → Heap → state.Given → Content → Type 0
Holds b h state.nothing machine.nothing = Unit {0}
Holds b h (state.a_value v) (machine.a_value u) = v ≡ u
Holds b h (state.a_spot k) (machine.a_spot x) = HeldSpot b h k x
Holds b h r c = ⊥

-- ---- environments

-- the entry of a name, seen from a text of this level, and the slot of its cell
pub record HasEntry (b : Base) (name : Stand) (level : ℕ) (text : Option ℕ) (slot : Slot) : Type 0 where
  pub out : name.level ≤ level
  pub start : ℕ
  pub starts : start_at b.frames (outwards b.frames text (level - name.level)) ≡ Some start
  pub entry : Entry
  pub stands : on_top_of b.entries (start + name.position) ≡ Some entry
  pub cell : ℕ
  pub is : cell_of (Some entry) ≡ Some cell
  pub holds : on_top_of b.slots cell ≡ Some slot

-- a text that is under way: the program, or one that has a frame
pub record IsUnderWay (frames : List Frame) (text : Option ℕ) : Type 0 where
  pub start : ℕ
  pub starts : start_at frames (Some text) ≡ Some start

-- an array as the machine has it, and the array k of the meaning
pub record HasArray (b : Base) (arrays : List (Option ArrayInfo)) (k : ℕ) (a : ArrayInfo) : Type 0 where
  pub info : ArrayInfo
  pub is : slice_get arrays k ≡ Some (Some info)
  pub type : a.type ≡ info.type
  pub bounds : a.bounds ≡ info.bounds
  pub elements : (i : ℕ) → i < elements info.bounds → on_top_of b.slots (a.first + i) ≡ Some (variable (info.first + i))

-- a copied actual's text stands in the code
pub record HasText (program : List Coded) (t : Thunk) (m : Mark) (a : Phrase) (c : Context) : Type 0 where
  pub type : t.type ≡ m.type
  pub is_variable : t.is_variable ≡ m.is_variable
  pub written : IsWritten a
  pub reading : Reading
  pub behind : ℕ
  pub head : slice_get program t.head ≡ Some (record { at = m.statement; does = instr.Text (record { first = m.first; reading = reading }) behind })
  pub body : HasAt program (t.head + 1) (code (inner_text c) m.statement as_asked (t.head + 1) a)
  pub back : slice_get program (t.head + 1 + size (known c) a) ≡ Some (record { at = m.statement; does = instr.Return })

-- a label: its target, and the mark to which it cuts
pub record HasLabel (w : World) (b : Base) (l : ℕ) (name : Stand) (level : ℕ) (text : Option ℕ) : Type 0 where
  pub target : Target
  pub has : Has target w.targets
  pub number : l ≡ target.number
  pub item : name.target ≡ target.item
  pub out : name.level ≤ level
  pub text_is : outwards b.frames text (level - name.level) ≡ Some target.base.current
  pub start : ℕ
  pub starts : start_at b.frames (Some target.base.current) ≡ Some start
  pub cut : start + name.position + 1 ≡ length target.base.entries
  pub mark : on_top_of b.entries (start + name.position) ≡ Some (machine.declared (length target.base.slots) target.made.depth (length target.base.frames))

-- a declared procedure
pub record HasProcedure (w : World) (b : Base) (k : ℕ) (name : Stand) (level : ℕ) (text : Option ℕ) : Type 0 where
  pub procedure : LiveProcedure
  pub has : Has procedure w.procedures
  pub number : k ≡ procedure.number
  pub kind : name.kind ≡ a_procedure procedure.formals
  pub head : name.target ≡ procedure.head
  pub out : name.level ≤ level
  pub text_is : outwards b.frames text (level - name.level) ≡ Some procedure.link

-- a procedure formal that stands for a procedure
pub record HasProcedureFormal (w : World) (b : Base) (k : ℕ) (name : Stand) (level : ℕ) (text : Option ℕ) : Type 0 where
  pub procedure : LiveProcedure
  pub has : Has procedure w.procedures
  pub number : k ≡ procedure.number
  pub kind : name.kind ≡ a_procedure_formal
  pub entry : HasEntry b name level text (fixed (machine.a_procedure (record { head = procedure.head; link = procedure.link })))

-- An environment is a context at a text: name by name, the innermost first. The environment of a procedure isn't looked into here.
abbrev mutual
  pub Shows : List Coded → World → Base → List (Option ArrayInfo) → Env → List Stand → (level : ℕ) → (text : Option ℕ) → Type 0
  Shows program w b arrays empty [] level text = Unit {0}
  Shows program w b arrays empty (name ∷ names) level text = ⊥
  Shows program w b arrays (bind x t e) [] level text = ⊥
  Shows program w b arrays (bind x t e) (name ∷ names) level text = (name.place ≡ x) × Means program w b arrays t name level text × Shows program w b arrays e names level text

  pub Means : List Coded → World → Base → List (Option ArrayInfo) → Thing → Stand → (level : ℕ) → (text : Option ℕ) → Type 0
  Means program w b arrays (to_constant v) name level text = (name.kind ≡ a_variable) × HasEntry b name level text (fixed (machine.a_value v))
  Means program w b arrays (to_variable k) name level text = (name.kind ≡ a_variable) × HasEntry b name level text (variable k)
  Means program w b arrays (to_array k given) name level text = (name.kind ≡ an_array) × (a : ArrayInfo) × HasEntry b name level text (fixed (machine.an_array a given)) × HasArray b arrays k a
  Means program w b arrays (to_label l) name level text = (name.kind ≡ a_label) × HasLabel w b l name level text
  Means program w b arrays (to_procedure k) name level text = HasProcedure w b k name level text ⊎ HasProcedureFormal w b k name level text
  Means program w b arrays (thunk m a e) name level text =
      ((name.kind ≡ a_name_formal) ⊎ (name.kind ≡ a_procedure_formal)) × (t : Thunk) × HasEntry b name level text (fixed (machine.a_thunk t)) ×
      (c : Context) × HasText program t m a c × Shows program w b arrays e c.names c.level t.link × (marks a ≤ w.marks) × IsUnderWay b.frames t.link

-- ---- procedures that may be called

-- the code of a procedure, and its environment
pub record Lives (program : List Coded) (w : World) (b : Base) (s : State Bodied) (p : LiveProcedure) : Type 0 where
  pub bodied : Bodied
  pub is : slice_get s.procedures p.number ≡ Some bodied
  pub formals : bodied.formals ≡ p.formals
  pub written : IsWritten bodied.body
  pub few : marks bodied.body ≤ w.marks
  pub behind : ℕ
  pub head : slice_get program p.head ≡ Some (record { at = bodied.statement; does = instr.Procedure (record { name = bodied.name; result = bodied.result; formals = bodied.formals }) behind })
  pub body : HasAt program (p.head + 1) (code (body_context p.context bodied.formals) bodied.statement the_value (p.head + 1) bodied.body)
  pub result : HasAt program (p.head + 1 + size (known (body_context p.context bodied.formals)) bodied.body) (result_code bodied.statement bodied.result)
  pub back : slice_get program (p.head + 1 + size (known (body_context p.context bodied.formals)) bodied.body + result_size bodied.result) ≡ Some (record { at = bodied.statement; does = instr.Return })
  pub shows : Shows program w b s.arrays bodied.env p.context.names p.context.level p.link
  pub under_way : IsUnderWay b.frames p.link

-- ---- what is under way

-- a name as it is shown, and what its cell holds
abbrev pub Shown : Base → List (Option ArrayInfo) → Held → Option Slot → Type 0
Shown b arrays (state.a_variable k) (Some (variable n)) = k ≡ n
Shown b arrays (state.an_array k given) (Some (fixed (machine.an_array a free))) = (given ≡ free) × HasArray b arrays k a
Shown b arrays (state.a_number n) (Some (fixed (machine.a_value v))) = v ≡ value.Integer n
Shown b arrays state.by_name (Some (fixed (machine.a_thunk t))) = Unit {0}
Shown b arrays held slot = ⊥

-- the head of a procedure of that name
pub record IsHeadOf (program : List Coded) (head : ℕ) (name : List ℕ) : Type 0 where
  pub at : Place
  pub known : ProcedureHead
  pub behind : ℕ
  pub is : slice_get program head ≡ Some (record { at = at; does = instr.Procedure known behind })
  pub name_is : known.name ≡ name

-- the head of a text with that first token
pub record IsTextOf (program : List Coded) (head : ℕ) (first : Place) : Type 0 where
  pub at : Place
  pub reading : Reading
  pub behind : ℕ
  pub is : slice_get program head ≡ Some (record { at = at; does = instr.Text (record { first = first; reading = reading }) behind })

-- the entries, the newest first, with the names that were met and wait for their mark
abbrev pub Listed : List Coded → Base → List (Option ArrayInfo) → List Entry → List ShownName → List state.Entry → Type 0
Listed program b arrays [] [] [] = Unit {0}
Listed program b arrays (machine.a_name text k ∷ entries) names active = (held : Held) × Shown b arrays held (on_top_of b.slots k) × Listed program b arrays entries (record { text = text; held = held } ∷ names) active
Listed program b arrays (machine.a_procedure_name text k ∷ entries) names active = (slot : Slot) × (on_top_of b.slots k ≡ Some slot) × Listed program b arrays entries (record { text = text; held = state.a_procedure } ∷ names) active
Listed program b arrays (machine.a_block p n ∷ entries) names (state.in_block q xs ∷ active) = (p ≡ q) × (names ≡ xs) × Listed program b arrays entries [] active
Listed program b arrays (machine.declared n d f ∷ entries) names active = Listed program b arrays entries names active
Listed program b arrays (machine.a_turn st back ∷ entries) names (state.in_turn q xs ∷ active) = (st ≡ q) × (names ≡ xs) × Listed program b arrays entries [] active
Listed program b arrays (machine.a_call head site ∷ entries) names (state.in_call name q xs ∷ active) = IsHeadOf program head name × (site ≡ q) × (names ≡ xs) × Listed program b arrays entries [] active
Listed program b arrays (machine.an_actual head ∷ entries) names (state.in_actual first ∷ active) = IsTextOf program head first × (names ≡ []) × Listed program b arrays entries [] active
Listed program b arrays (machine.an_aside ∷ entries) names active = Listed program b arrays entries names active
Listed program b arrays (machine.some_widths ws ∷ entries) names active = Listed program b arrays entries names active
Listed program b arrays entries names active = ⊥

-- ---- the relation

-- a record of a state as the machine has it
pub record HasRecord (h : Heap) (r : ℕ) (info : RecordInfo) : Type 0 where
  pub there : RecordMade
  pub is : on_top_of h.records r ≡ Some there
  pub class : there.class ≡ info.class
  pub count : there.count ≡ info.count
  pub fields : (i : ℕ) → i < info.count → on_top_of h.fields (there.first + i) ≡ Some (info.first + i)

-- each variable stands in one place at most, the two standard ones in the lowest fields; records are the same
pub record Settled (b : Base) (h : Heap) (memory : List (Option Value)) (records : List RecordInfo) (fields : ℕ) : Type 0 where
  pub apart : (k : ℕ) (x y : Where) → Stands b h k x → Stands b h k y → x ≡ y
  pub within : (k : ℕ) (x : Where) → Stands b h k x → k < length memory
  pub has : (r : ℕ) (info : RecordInfo) → slice_get records r ≡ Some info → HasRecord h r info
  pub kept : (k : ℕ) → Has k b.reserved → (slice_get memory k ≡ Some None) × ((x : Where) → Stands b h k x → ⊥)
  pub count : length h.records ≡ length records
  pub as_many : length h.fields ≡ 2 + fields
  pub standard : (k : ℕ) → k < 2 → on_top_of h.fields k ≡ Some k

-- what a jump finds below: the stacks of the label's block
pub record Above (program : List Coded) (b : Base) (s : State Bodied) (t : Target) : Type 0 where
  pub slots : List Slot
  pub slots_are : b.slots ≡ slots ++ t.base.slots
  pub entries : List Entry
  pub entries_are : b.entries ≡ entries ++ t.base.entries
  pub frames : List Frame
  pub frames_are : b.frames ≡ frames ++ t.base.frames
  pub reserved : (k : ℕ) → Has k t.base.reserved → Has k b.reserved
  pub number : t.number < s.labels

pub record Agrees (program : List Coded) (w : World) (b : Base) (h : Heap) (s : State Bodied) : Type 0 where
  pub settled : Settled b h s.memory s.records s.fields
  pub cells : length b.slots ≡ s.cells
  pub listed : Listed program b s.arrays b.entries [] s.active
  pub lives : (p : LiveProcedure) → Has p w.procedures → Lives program w b s p
  pub above : (t : Target) → Has t w.targets → Above program b s t
  pub deep : IsDeep s

-- a machine at code in a context, with an environment
pub record At (program : List Coded) (w : World) (b : Base) (h : Heap) (s : State Bodied) (c : Context) (e : Env) : Type 0 where
  pub agrees : Agrees program w b h s
  pub shows : Shows program w b s.arrays e c.names c.level b.current
  pub start : ℕ
  pub starts : start_at b.frames (Some b.current) ≡ Some start
  pub counted : start + c.count ≡ length b.entries

-- what code is wanted for, and what its text is done for
abbrev pub asked : Option Frame → Option Use
asked None = None
asked (Some f) = Some f.purpose

abbrev pub asked_in : List Frame → Option ℕ → Option Use
asked_in frames None = None
asked_in frames (Some k) = asked (on_top_of frames k)

abbrev pub Wanted : Base → Mode → Use → Type 0
Wanted b the_value u = u ≡ for_value
Wanted b the_place u = u ≡ for_place
Wanted b as_asked u = asked_in b.frames b.current ≡ Some u

-- ---- the labels of a block

abbrev pub label_targets : Made → Base → (number item : ℕ) → List Place → List Target → List Target
label_targets made b l k [] more = more
label_targets made b l k (x ∷ xs) more = record { number = l; made = made; base = b; item = k } ∷ label_targets made b (l + 1) k xs more

-- the labels of items that begin at k
abbrev pub item_targets : List Known → Made → Base → (number k : ℕ) → Items → List Target → List Target
item_targets names made b l k no_items more = more
item_targets names made b l k (item_and labels a rest) more = label_targets made b l k labels (item_targets names made b (l + length labels) (k + size names a) rest more)

-- where the item of the n-th label stands
abbrev pub item_at : List Known → (n k : ℕ) → Items → ℕ
item_at names n k no_items = k
item_at names n k (item_and labels a rest) = elim (nat_lt n (length labels)) [ true ↦ k | false ↦ item_at names (n - length labels) (k + size names a) rest ]

-- ---- what only grows, and the depth, which goes on counting the texts under way

pub record Grew (h : Heap) (s : State Bodied) (h' : Heap) (s' : State Bodied) : Type 0 where
  pub memory : length s.memory ≤ length s'.memory
  pub arrays : (k : ℕ) (a : Option ArrayInfo) → slice_get s.arrays k ≡ Some a → slice_get s'.arrays k ≡ Some a
  pub procedures : (k : ℕ) (p : Bodied) → slice_get s.procedures k ≡ Some p → slice_get s'.procedures k ≡ Some p
  pub labels : s.labels ≤ s'.labels
  pub fields : (f k : ℕ) → on_top_of h.fields f ≡ Some k → on_top_of h'.fields f ≡ Some k
  pub fresh : (f k : ℕ) → on_top_of h'.fields f ≡ Some k → (on_top_of h.fields f ≡ Some k) ⊎ (length s.memory ≤ k)
  pub deep : IsDeep s → IsDeep s'
