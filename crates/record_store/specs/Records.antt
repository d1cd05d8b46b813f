-- The records of a run: a list, in the order of their making, in which a record is what its number counts to.
use Rattle.std.specs.Prelude.{◌≡◌, ◌<◌, ◌+◌, ◌==◌, ◌&&◌, nat_lt, nat_le, ℕ, List, Bool, Option, Some, None, Result, Ok, Err, if◌then◌else◌, length, map, replicate, take, slice_index_or, slice_set}
use Rattle.std.specs.List.{flat_map}
use Rattle.value_ops.specs.declared.faults.Fault.{Fault}
use Rattle.value_ops.specs.declared.faults.Fault.TheVariants.{ReferenceNull, WrongRecordClass}
use Rattle.value_ops.specs.declared.values.ClassId.{ClassId}
use Rattle.value_ops.specs.declared.values.RecordId.{RecordId}
use Rattle.value_ops.specs.declared.values.Value.{Value}

-- a record: its class, and what each of its fields holds, which is undefined until it is set
pub record Record : Type 0 where
  pub class : ClassId
  pub fields : List (Option Value)

-- a record of a class with so many fields, as it is made
abbrev pub new_record : ClassId → ℕ → Record
new_record class count = record { class = class; fields = replicate count None }

-- the fields of all records, in line
abbrev pub all_fields : List Record → List (Option Value)
all_fields records = flat_map (λ r. r.fields) records

-- whether one more record may be made, with so many fields
abbrev pub has_room : List Record → ℕ → Bool
has_room records count = nat_lt (length records) 4096 && nat_le (length (all_fields records) + count) 16384

-- the record of a number; past the end, one without fields
abbrev pub record_at : List Record → RecordId → Record
record_at records id = slice_index_or records id.0 (new_record (record { 0 = 0 }) 0)

-- what is done with the record that a reference is to: F7 where it is to none, F8 where its class is another
abbrev pub at_reference : {A : Type 0} → List Record → Option RecordId → ClassId → (RecordId → A) → Result A Fault
at_reference records None class done = Err ReferenceNull
at_reference records (Some id) class done = if (record_at records id).class.0 == class.0 then Ok (done id) else Err WrongRecordClass

-- a reference is to a record that was made, which has a field of this position where its class is this one
abbrev pub HasField : List Record → Option RecordId → ClassId → ℕ → Type 0
HasField records None class position = Unit {0}
HasField records (Some id) class position = (id.0 < length records) × ((record_at records id).class ≡ class → position < length (record_at records id).fields)

-- what a field of a record holds
abbrev pub field_of : List Record → ℕ → RecordId → Option Value
field_of records position id = slice_index_or (record_at records id).fields position None

-- a record once a field of it holds a value
abbrev pub with_value : Record → ℕ → Value → Record
with_value r position value = record { class = r.class; fields = slice_set r.fields position (Some value) }

-- the records once a field of one of them does
abbrev pub with_field : List Record → RecordId → ℕ → Value → List Record
with_field records id position value = slice_set records id.0 (with_value (record_at records id) position value)

-- where the fields of a record begin among those of all records
abbrev pub first_field : List Record → RecordId → ℕ
first_field records id = length (all_fields (take id.0 records))

-- what stays while fields are set: the class of a record, and how many fields it has
pub record Shape : Type 0 where
  pub class : ClassId
  pub count : ℕ

abbrev pub shape_of : Record → Shape
shape_of r = record { class = r.class; count = length r.fields }

abbrev pub shapes : List Record → List Shape
shapes records = map shape_of records
