-- WRITE and WRITEON: values and settings, part by part.
use Rattle.std.specs.Prelude.{◌≡◌, ℕ, ◌+◌, List, Bool, true, false, Option, Some, None, if◌then◌else◌}
use Rattle.algolw_tree.specs.declared.programs.Gives.{Gives}
use Rattle.algolw_tree.specs.declared.programs.Gives.TheVariants as gives
use Rattle.algolw_tree.specs.declared.programs.Node.{Node}
use Rattle.algolw_tree.specs.declared.programs.NodeKind.{NodeKind, Named', Assign'}
use Rattle.algolw_tree.specs.declared.programs.TypedActual.{TypedActual}
use Rattle.algolw_tree.specs.declared.standard.Standard.TheVariants as standard
use Rattle.algolw_tree.specs.declared.standard.Width.{Width}
use Rattle.algolw_typing.specs.Known.{Knows}
use Rattle.algolw_typing.specs.ProgramView.{Numbers, kind_view, node_view}
use Rattle.algolw_typing.specs.Typed as typed
use Rattle.program_meaning.specs.Phrases.{Phrase, Role, placed, sets}
use Rattle.program_meaning.specs.Translating.{role_of, roles_of, value_part, written_of}
use Rattle.program_soundness.specs.Tables.{infos}
use Rattle.phrase_code.specs.Coding as coding
use Rattle.phrase_code.specs.Marks.{marks, phrases_marks, width_marks}
use Rattle.compilable_programs.specs.Begun.{Begun}
use Rattle.compilable_programs.specs.Suits.{AllSuit, Suits}
use Rattle.stack_code.specs.Code as code
use Rattle.stack_code.specs.declared.instructions.Instr.{Instr}
use Rattle.stack_code.specs.declared.instructions.Instr.TheVariants as held
use Rattle.stack_code.specs.declared.instructions.Mode.TheVariants as mode
use Rattle.symbol_table.specs.declared.here.Here.{Here}
use Rattle.symbol_table.specs.declared.standings.Standing.{Standing}
use Rattle.symbol_table.specs.declared.standings.Standing.TheVariants as standing
use Rattle.symbol_table.specs.Contexts.{Scene, coding_context, numbers_in, phrase_context}
use Rattle.symbol_table.specs.Heres.{with_entries}
use Rattle.symbol_table.specs.Parts.{actuals_in}
use Rattle.symbol_table.specs.Standings.{Names, standing_of}
use Rattle.code_emitter.specs.declared.emitter.Emitter.{Emitter}
use Rattle.code_emitter.specs.Appending.{appended}
use Rattle.code_emitter.specs.Parts.{Codes, CodesPhrase, next, none_own, phrase_in, place_in, scene}
use Rattle.stack_codegen.specs.declared.writes.Writing.{Writing}
use Rattle.stack_codegen.specs.Codable.{IsCodablePart, node_in, sizes_known}

-- ---- how far a WRITE is coded

-- with its widths in an entry
abbrev pub open_at : Here → Bool → Option ℕ → Writing
open_at here first None = record { here = with_entries here 1; first = first; position = Some here.entries }
open_at here first (Some p) = record { here = here; first = first; position = Some p }

abbrev pub opened : Writing → Writing
opened w = open_at w.here w.first w.position

abbrev pub behind_value : Writing → Writing
behind_value w = record w { first = false }

abbrev pub end_at : Option ℕ → Instr
end_at None = held.Nothing
end_at (Some p) = held.CloseWidths p

abbrev pub end : Writing → Instr
end w = end_at w.position

abbrev pub marks_at : Option ℕ → ℕ
marks_at None = 0
marks_at (Some p) = 1

abbrev pub own_marks : Writing → ℕ
own_marks w = marks_at w.position

-- ---- parts

-- what a part is for, and its value
abbrev pub role_in : Scene → typed.Node → Role
role_in s node = role_of (phrase_context s).known node

abbrev pub value_in : Scene → typed.Node → Phrase
value_in s node = value_part (role_in s node) (phrase_in s node)

-- ---- settings in memory

abbrev pub is_statement : Option Gives → Bool
is_statement (Some gives.Statement) = true
is_statement g = false

-- the standard variable that a name stands for
abbrev pub width_of : Standing → Option Width
width_of (standing.Standard (standard.Variable width)) = Some width
width_of x = None

-- that which a phrase is, by the name in front
abbrev pub width_named : Names → NodeKind → Option Width
width_named names (Named' n shape lists) = width_of (standing_of names n)
width_named names _ = None

-- that which is assigned to
abbrev pub width_assigned : Names → NodeKind → Option Width
width_assigned names (Assign' q p f k g s q2 p2 f2 k2 g2 s2) = width_named names k
width_assigned names _ = None

-- the width that a part sets
abbrev pub set_in : Names → Node → Option Width
set_in names node = if is_statement node.gives then width_assigned names node.kind else None

abbrev pub role_for : Option Width → Role
role_for None = placed
role_for (Some width) = sets width

-- what a part assigns
abbrev pub Assigns : NodeKind → Node → Type 0
Assigns kind value = (target : Node) × ((ns : Numbers) → kind_view ns kind ≡ typed.Assign (node_view ns target) (node_view ns value))

-- a part may be coded; of a setting its value suits
abbrev pub IsCodableWritten : Emitter → Node → Type 0
IsCodableWritten e node = IsCodablePart e (node_in node) infos Knows Begun (λ s n. Suits (sizes_known s) (value_in s n))

-- its value, and then it is placed, or a width is set
abbrev pub written_instr : Role → Writing → Instr
written_instr placed w = held.Write w.first w.position
written_instr (sets width) w = held.SetWidth width w.position

abbrev pub writing_behind : Role → Writing → Writing
writing_behind placed w = behind_value w
writing_behind (sets width) w = opened w

pub record CodesWritten (old new : Emitter) (w : Writing) (node : Node) (m : ℕ) (behind : Writing) : Type 0 where
  pub between : Emitter
  pub value : CodesPhrase old between w.here mode.Value (value_in (scene old) (node_in node (scene old))) m
  pub does : new ≡ appended between w.here (written_instr (role_in (scene old) (node_in node (scene old))) w)
  pub goes : behind ≡ writing_behind (role_in (scene old) (node_in node (scene old))) w

-- ---- all parts, and the end

abbrev pub WritesSuit : Scene → typed.Actuals → Type 0
WritesSuit s actuals = AllSuit (sizes_known s) (written_of (phrase_context s) actuals)

abbrev pub writes_code : Scene → Writing → (k : ℕ) → typed.Actuals → List ℕ → List code.Coded
writes_code s w k actuals ts = coding.code_writes (coding_context s ts w.here) (place_in s w.here) w.first w.position k (roles_of (phrase_context s).known actuals) (written_of (phrase_context s) actuals)

abbrev pub writes_marks : Scene → typed.Actuals → ℕ
writes_marks s actuals = width_marks (roles_of (phrase_context s).known actuals) + phrases_marks (written_of (phrase_context s) actuals)

abbrev pub CodesWrites : (old new : Emitter) → Here → Bool → List TypedActual → ℕ → Type 0
CodesWrites old new here first actuals m =
    Codes none_own old new (writes_code (scene old) (record { here = here; first = first; position = None }) (next old) (actuals_in (numbers_in (scene old)) actuals)) (writes_marks (scene old) (actuals_in (numbers_in (scene old)) actuals)) m
