-- What each number of a state is for, and when values, environments and states suit that.
use Rattle.std.specs.Prelude.{◌≡◌, ℕ, ◌+◌, ◌<◌, ◌≤◌, ℤ, ⊤, List, [], ◌∷◌, map, length, Option, Some, None, Bool, true, false, slice_get}
use Rattle.value_ops.specs.declared.values.Value.{Value}
use Rattle.value_ops.specs.declared.values.Value.TheVariants as value
use Rattle.program_meaning.specs.Phrases.{Phrase, Mark}
use Rattle.program_meaning.specs.State as state
use Rattle.program_meaning.specs.State.{State, Given, nothing, a_spot, Spot, whole, within, ArrayInfo, RecordInfo, elements}
use Rattle.program_meaning.specs.Copying.{formal_types, stars}
use Rattle.program_meaning.specs.Environments.{Env, empty, bind, Thing, to_constant, to_variable, to_array, to_label, to_procedure, thunk, Bodied}
use Rattle.program_soundness.specs.Kinds.{Kind, an_integer, a_truth, some_bits, a_string, a_reference, kind_of, Want, a_statement, a_value, a_place, result_want, IsProperResult, AreProper, Meaning, a_variable, a_control, an_array, a_label, a_procedure, a_procedure_formal, Context, Table, with_formals}
use Rattle.program_soundness.specs.Fits.{field_kind, Fits}

-- ---- worlds

-- which labels a jump may have, and which arrays are made
pub record Live : Type 0 where
  pub labels : ℕ → Bool
  pub arrays : ℕ → Bool

-- as many labels and arrays, or more
pub record Within (l m : Live) : Type 0 where
  pub labels : (k : ℕ) → l.labels k ≡ true → m.labels k ≡ true
  pub arrays : (k : ℕ) → l.arrays k ≡ true → m.arrays k ≡ true

pub record ArrayKind : Type 0 where
  pub kind : Kind
  pub dimensions : ℕ

-- a procedure, and what is live where it is declared
pub record Living : Type 0 where
  pub procedure : Bodied
  pub live : Live

-- which kind each variable has, what each array is, which procedures and records there are
pub record World : Type 0 where
  pub memory : List Kind
  pub arrays : List ArrayKind
  pub procedures : List Living
  pub records : List RecordInfo

-- what has a number keeps it
pub record Extends (W V : World) : Type 0 where
  pub memory : (k : ℕ) (a : Kind) → slice_get W.memory k ≡ Some a → slice_get V.memory k ≡ Some a
  pub arrays : (k : ℕ) (a : ArrayKind) → slice_get W.arrays k ≡ Some a → slice_get V.arrays k ≡ Some a
  pub procedures : (k : ℕ) (a : Living) → slice_get W.procedures k ≡ Some a → slice_get V.procedures k ≡ Some a
  pub records : (k : ℕ) (a : RecordInfo) → slice_get W.records k ≡ Some a → slice_get V.records k ≡ Some a

-- ---- values

abbrev pub ReferenceSuits : World → Option Rattle.value_ops.specs.declared.values.RecordId.RecordId → Type 0
ReferenceSuits W None = ⊤
ReferenceSuits W (Some r) = (info : RecordInfo) × (slice_get W.records r.0 ≡ Some info)

-- a value of this kind; strings aren't empty, and records are there
abbrev pub ValueSuits : World → Kind → Value → Type 0
ValueSuits W an_integer (value.Integer n) = ⊤
ValueSuits W a_truth (value.Logical b) = ⊤
ValueSuits W some_bits (value.Bits b) = ⊤
ValueSuits W a_string (value.Str s) = 1 ≤ length s
ValueSuits W a_reference (value.Reference r) = ReferenceSuits W r
ValueSuits W k v = ⊥

abbrev pub SpotSuits : World → Kind → Spot → Type 0
SpotSuits W kind (whole k) = slice_get W.memory k ≡ Some kind
SpotSuits W kind (within k m from n) = (kind ≡ a_string) × (slice_get W.memory k ≡ Some a_string) × (1 ≤ m) × (1 ≤ n)

-- what is given suits what is wanted. Nothing is asked of what a statement gives.
abbrev pub Suits : Want → World → Given → Type 0
Suits a_statement W r = ⊤
Suits (a_value k) W (state.a_value v) = ValueSuits W k v
Suits (a_value k) W nothing = ⊥
Suits (a_value k) W (a_spot spot) = ⊥
Suits (a_place k) W (a_spot spot) = SpotSuits W k spot
Suits (a_place k) W nothing = ⊥
Suits (a_place k) W (state.a_value v) = ⊥

-- ---- environments

abbrev pub ConstantSuits : Meaning → Value → Type 0
ConstantSuits a_control (value.Integer n) = ⊤
ConstantSuits m v = ⊥

abbrev pub VariableSuits : World → Meaning → ℕ → Type 0
VariableSuits W (a_variable kind) k = slice_get W.memory k ≡ Some kind
VariableSuits W m k = ⊥

abbrev pub ArraySuits : World → Live → Meaning → ℕ → List (Option ℤ) → Type 0
ArraySuits W live (an_array t n) k given = (slice_get W.arrays k ≡ Some (record { kind = kind_of t; dimensions = length given })) × (stars given ≡ n) × (live.arrays k ≡ true)
ArraySuits W live m k given = ⊥

abbrev pub LabelSuits : Live → Meaning → ℕ → Type 0
LabelSuits live a_label l = live.labels l ≡ true
LabelSuits live m l = ⊥

abbrev pub ProcedureSuits : World → Live → Meaning → ℕ → Type 0
ProcedureSuits W live (a_procedure result formals) k = (p : Living) × (slice_get W.procedures k ≡ Some p) × Within p.live live × (p.procedure.result ≡ result) × (formal_types p.procedure.formals ≡ formals)
ProcedureSuits W live (a_procedure_formal result) k = (p : Living) × (slice_get W.procedures k ≡ Some p) × Within p.live live × (result_want p.procedure.result ≡ result_want result)
ProcedureSuits W live m k = ⊥

-- a phrase is a place if it is marked as one
abbrev pub IfMarked : Bool → Type 0 → Type 0
IfMarked true P = P
IfMarked false P = ⊤

module _ (table : Table) where
  -- a marked phrase, whose names have these meanings
  abbrev pub ThunkSuits : Context → Meaning → Mark → Phrase → Type 0
  ThunkSuits c (a_variable k) mark a = (result_want mark.type ≡ a_value k) × IsProperResult mark.type × Fits table c a (result_want mark.type) × IfMarked mark.is_variable (Fits table c a (a_place k))
  ThunkSuits c (a_procedure_formal result) mark a = (result_want mark.type ≡ result_want result) × IsProperResult mark.type × Fits table c a (result_want mark.type)
  ThunkSuits c m mark a = ⊥

  abbrev mutual
    pub ThingSuits : World → Live → Meaning → Thing → Type 0
    ThingSuits W live m (to_constant v) = ConstantSuits m v
    ThingSuits W live m (to_variable k) = VariableSuits W m k
    ThingSuits W live m (to_array k given) = ArraySuits W live m k given
    ThingSuits W live m (to_label l) = LabelSuits live m l
    ThingSuits W live m (to_procedure k) = ProcedureSuits W live m k
    ThingSuits W live m (thunk mark a e) = (c : Context) × EnvSuits W live c e × ThunkSuits c m mark a

    -- name by name
    pub EnvSuits : World → Live → Context → Env → Type 0
    EnvSuits W live [] empty = ⊤
    EnvSuits W live (b ∷ c) empty = ⊥
    EnvSuits W live [] (bind x t e) = ⊥
    EnvSuits W live (b ∷ c) (bind x t e) = (x ≡ b.name) × ThingSuits W live b.is t × EnvSuits W live c e

  -- ---- states

  -- a procedure's body, and the environment of its block
  pub record LivingSuits (W : World) (p : Living) : Type 0 where
    pub context : Context
    pub env : EnvSuits W p.live context p.procedure.env
    pub result : IsProperResult p.procedure.result
    pub formals : AreProper p.procedure.formals
    pub body : Fits table (with_formals p.procedure.formals context) p.procedure.body (result_want p.procedure.result)

  abbrev pub CellSuits : World → Kind → Option (Option Value) → Type 0
  CellSuits W kind None = ⊥
  CellSuits W kind (Some None) = ⊤
  CellSuits W kind (Some (Some v)) = ValueSuits W kind v

  -- an array that isn't made yet is not asked about
  abbrev pub InfoSuits : World → ArrayKind → Option (Option ArrayInfo) → Type 0
  InfoSuits W a None = ⊥
  InfoSuits W a (Some None) = ⊤
  InfoSuits W a (Some (Some info)) = (kind_of info.type ≡ a.kind) × (length info.bounds ≡ a.dimensions) × ((i : ℕ) → i < elements info.bounds → slice_get W.memory (info.first + i) ≡ Some a.kind)

  abbrev pub IsMade : Option (Option ArrayInfo) → Type 0
  IsMade (Some (Some info)) = ⊤
  IsMade _ = ⊥

  -- the fields of a record have the kinds that its class says
  pub record RecordSuits (W : World) (info : RecordInfo) : Type 0 where
    pub fields : (n : ℕ) (kind : Kind) → field_kind (table.fields info.class.place) n ≡ Some kind → (slice_get W.memory (info.first + n) ≡ Some kind) × (n < info.count)

  -- the parts of a state suit a world, in which these arrays are made
  pub record Holds (W : World) (made : ℕ → Bool) (memory : List (Option Value)) (arrays : List (Option ArrayInfo)) (procedures : List Bodied) (records : List RecordInfo) : Type 0 where
    pub memory_count : length memory ≡ length W.memory
    pub arrays_count : length arrays ≡ length W.arrays
    -- the standard variables
    pub standard : (k : ℕ) → k < 2 → slice_get W.memory k ≡ Some an_integer
    pub cells : (k : ℕ) (kind : Kind) → slice_get W.memory k ≡ Some kind → CellSuits W kind (slice_get memory k)
    pub infos : (k : ℕ) (a : ArrayKind) → slice_get W.arrays k ≡ Some a → InfoSuits W a (slice_get arrays k)
    pub made_arrays : (k : ℕ) → made k ≡ true → IsMade (slice_get arrays k)
    pub same_procedures : procedures ≡ map (λ p. p.procedure) W.procedures
    pub bodies : (k : ℕ) (p : Living) → slice_get W.procedures k ≡ Some p → LivingSuits W p
    pub same_records : records ≡ W.records
    pub fields : (k : ℕ) (info : RecordInfo) → slice_get W.records k ≡ Some info → RecordSuits W info

  abbrev pub StateSuits : World → (ℕ → Bool) → State Bodied → Type 0
  StateSuits W made s = Holds W made s.memory s.arrays s.procedures s.records
