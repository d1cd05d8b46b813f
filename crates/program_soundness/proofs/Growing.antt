-- What suits a world suits one that extends it.
use Rattle.std.proofs.Common.{ℕ, ◌+◌, ℤ, List, [], ◌∷◌}
use Rattle.std.specs.Prelude.{Option, Some, None}
use Rattle.value_ops.specs.declared.values.Value.{Value}
use Rattle.value_ops.specs.declared.values.Value.TheVariants as value
use Rattle.value_ops.specs.declared.values.RecordId.{RecordId}
use Rattle.program_meaning.specs.State as state
use Rattle.program_meaning.specs.State.{Given, nothing, a_spot, Spot, whole, within, ArrayInfo, RecordInfo, elements}
use Rattle.program_meaning.specs.Environments.{Env, empty, bind, Thing, to_constant, to_variable, to_array, to_label, to_procedure, thunk}
use Rattle.program_soundness.specs.Kinds.{Kind, an_integer, a_truth, some_bits, a_string, a_reference, Want, a_statement, a_value, a_place, Meaning, a_variable, an_array, a_label, a_procedure, a_procedure_formal, Context, Table}
use Rattle.program_soundness.proofs.Worlds.{Live, Within, ArrayKind, Living, World, Extends, ReferenceSuits, ValueSuits, SpotSuits, Suits, VariableSuits, ArraySuits, LabelSuits, ProcedureSuits, ThingSuits, EnvSuits, LivingSuits, CellSuits, InfoSuits, RecordSuits}

pub same_live : (l : Live) → Within l l
same_live l = record { labels = λ k p. p; arrays = λ k p. p }

pub within_both : {l m n : Live} → Within l m → Within m n → Within l n
within_both g h = record { labels = λ k p. h.labels k (g.labels k p); arrays = λ k p. h.arrays k (g.arrays k p) }

pub same_world : (W : World) → Extends W W
same_world W = record { memory = λ k a p. p; arrays = λ k a p. p; procedures = λ k a p. p; records = λ k a p. p }

pub extends_both : {U V W : World} → Extends U V → Extends V W → Extends U W
extends_both g h = record { memory = λ k a p. h.memory k a (g.memory k a p); arrays = λ k a p. h.arrays k a (g.arrays k a p); procedures = λ k a p. h.procedures k a (g.procedures k a p); records = λ k a p. h.records k a (g.records k a p) }

-- ---- values

reference_grows : {W V : World} (g : Extends W V) (r : Option RecordId) → ReferenceSuits W r → ReferenceSuits V r
reference_grows g None h = tt
reference_grows g (Some r) h = (h.0, g.records r.0 h.0 h.1)

pub value_grows : {W V : World} (g : Extends W V) (k : Kind) (v : Value) → ValueSuits W k v → ValueSuits V k v
value_grows g a_reference (value.Reference r) h = reference_grows g r h
value_grows g an_integer (value.Integer n) h = h
value_grows g a_truth (value.Logical b) h = h
value_grows g some_bits (value.Bits b) h = h
value_grows g a_string (value.Str s) h = h
value_grows g _ _ h = elim h [ ]

pub spot_grows : {W V : World} (g : Extends W V) (kind : Kind) (spot : Spot) → SpotSuits W kind spot → SpotSuits V kind spot
spot_grows g kind (whole k) h = g.memory k kind h
spot_grows g kind (within k m from n) h = (h.0, g.memory k a_string h.1, h.2, h.3)

pub given_grows : {W V : World} (g : Extends W V) (want : Want) (r : Given) → Suits want W r → Suits want V r
given_grows g a_statement r h = tt
given_grows g (a_value k) (state.a_value v) h = value_grows g k v h
given_grows g (a_value k) nothing h = h
given_grows g (a_value k) (a_spot spot) h = h
given_grows g (a_place k) (a_spot spot) h = spot_grows g k spot h
given_grows g (a_place k) nothing h = h
given_grows g (a_place k) (state.a_value v) h = h

-- ---- environments

variable_grows : {W V : World} (g : Extends W V) (m : Meaning) (k : ℕ) → VariableSuits W m k → VariableSuits V m k
variable_grows g (a_variable kind) k h = g.memory k kind h
variable_grows g _ k h = elim h [ ]

array_grows : {W V : World} {l l' : Live} (g : Extends W V) (i : Within l l') (m : Meaning) (k : ℕ) (given : List (Option ℤ)) → ArraySuits W l m k given → ArraySuits V l' m k given
array_grows g i (an_array t n) k given h = (g.arrays k _ h.0, h.1, i.arrays k h.2)
array_grows g i _ k given h = elim h [ ]

label_grows : {l l' : Live} (i : Within l l') (m : Meaning) (k : ℕ) → LabelSuits l m k → LabelSuits l' m k
label_grows i a_label k h = i.labels k h
label_grows i _ k h = elim h [ ]

procedure_grows : {W V : World} {l l' : Live} (g : Extends W V) (i : Within l l') (m : Meaning) (k : ℕ) → ProcedureSuits W l m k → ProcedureSuits V l' m k
procedure_grows g i (a_procedure result formals) k h = (h.0, g.procedures k h.0 h.1, within_both h.2 i, h.3, h.4)
procedure_grows g i (a_procedure_formal result) k h = (h.0, g.procedures k h.0 h.1, within_both h.2 i, h.3)
procedure_grows g i _ k h = elim h [ ]

module _ (table : Table) where
  mutual
    pub thing_grows : {W V : World} {l l' : Live} (g : Extends W V) (i : Within l l') (m : Meaning) (t : Thing) → ThingSuits table W l m t → ThingSuits table V l' m t
    thing_grows g i m (to_constant v) h = h
    thing_grows g i m (to_variable k) h = variable_grows g m k h
    thing_grows g i m (to_array k given) h = array_grows g i m k given h
    thing_grows g i m (to_label k) h = label_grows i m k h
    thing_grows g i m (to_procedure k) h = procedure_grows g i m k h
    thing_grows g i m (thunk mark a e) h = (h.0, env_grows g i h.0 e h.1, h.2)

    pub env_grows : {W V : World} {l l' : Live} (g : Extends W V) (i : Within l l') (c : Context) (e : Env) → EnvSuits table W l c e → EnvSuits table V l' c e
    env_grows g i [] empty h = tt
    env_grows g i (b ∷ c) empty h = h
    env_grows g i [] (bind x t e) h = h
    env_grows g i (b ∷ c) (bind x t e) h = (h.0, thing_grows g i b.is t h.1, env_grows g i c e h.2)

  -- ---- what a state holds

  pub living_grows : {W V : World} (g : Extends W V) (p : Living) → LivingSuits table W p → LivingSuits table V p
  living_grows g p h = record { context = h.context; env = env_grows g (same_live p.live) h.context p.procedure.env h.env; result = h.result; formals = h.formals; body = h.body }

  pub cell_grows : {W V : World} (g : Extends W V) (kind : Kind) (o : Option (Option Value)) → CellSuits table W kind o → CellSuits table V kind o
  cell_grows g kind None h = h
  cell_grows g kind (Some None) h = h
  cell_grows g kind (Some (Some v)) h = value_grows g kind v h

  pub info_grows : {W V : World} (g : Extends W V) (a : ArrayKind) (o : Option (Option ArrayInfo)) → InfoSuits table W a o → InfoSuits table V a o
  info_grows g a None h = h
  info_grows g a (Some None) h = h
  info_grows g a (Some (Some info)) h = (h.0, h.1, λ i q. g.memory (info.first + i) a.kind (h.2 i q))

  pub record_grows : {W V : World} (g : Extends W V) (info : RecordInfo) → RecordSuits table W info → RecordSuits table V info
  record_grows g info h = record { fields = λ n kind q. (g.memory (info.first + n) kind (h.fields n kind q).0, (h.fields n kind q).1) }
