-- States in which each string is a text and each name is a word.
use Rattle.std.specs.Prelude.{⊤, Option, Some, None, All}
use Rattle.value_ops.specs.declared.values.Value.{Value}
use Rattle.output_editing.specs.Layout.{Piece, Break, Put}
use Rattle.program_meaning.specs.State.{State, RecordInfo, ShownName, Entry, in_block, in_call, in_actual, in_turn}
use Rattle.printed_lines.specs.Texts.{IsText, IsWord, ValueHolds}

-- a variable, which may have no value
abbrev pub VariableHolds : Option Value → Type 0
VariableHolds None = ⊤
VariableHolds (Some v) = ValueHolds v

abbrev pub RecordHolds : RecordInfo → Type 0
RecordHolds r = IsWord r.class.text

abbrev pub PieceHolds : Piece → Type 0
PieceHolds Break = ⊤
PieceHolds (Put text after) = IsText text

abbrev pub ShownHolds : ShownName → Type 0
ShownHolds x = IsWord x.text

-- what is under way
abbrev pub EntryHolds : Entry → Type 0
EntryHolds (in_block p names) = All ShownHolds names
EntryHolds (in_call x p names) = IsWord x × All ShownHolds names
EntryHolds (in_actual p) = ⊤
EntryHolds (in_turn p names) = All ShownHolds names

pub record StateHolds {P : Type 0} (s : State P) : Type 0 where
  pub memory : All VariableHolds s.memory
  pub records : All RecordHolds s.records
  pub pieces : All PieceHolds s.pieces
  pub active : All EntryHolds s.active
