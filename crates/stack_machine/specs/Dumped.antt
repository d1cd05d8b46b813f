-- What a dump shows of a run's memory.
use Rattle.std.specs.Prelude.{ℕ, ◌-◌, ◌<◌, ℤ, List, [], ◌∷◌, map, take, drop, length, slice_get, Option, Some, None}
use Rattle.std.specs.List.{All}
use Rattle.std.specs.Option.{option_map}
use Rattle.value_ops.specs.declared.values.Value.TheVariants as value
use Rattle.cell_store.specs.declared.cells.Wide.{Wide}
use Rattle.cell_store.specs.declared.cells.Wide.TheVariants as wide
use Rattle.cell_store.specs.declared.dimension.Dimension.{Dimension}
use Rattle.cell_store.specs.declared.entries.Entry.{Entry}
use Rattle.cell_store.specs.declared.entries.Entry.TheVariants as entry
use Rattle.cell_store.specs.Cells.{Cell}
use Rattle.post_mortem.specs.declared.entries.Entry as dump
use Rattle.post_mortem.specs.declared.entries.Entry.TheVariants as line
use Rattle.post_mortem.specs.declared.entries.Shown.{Shown}
use Rattle.post_mortem.specs.declared.entries.Shown.TheVariants as shown
use Rattle.program_meaning.specs.Results.{free_bounds, shown_bounds}
use Rattle.record_store.specs.Records.{Record}
use Rattle.stack_code.specs.CodeView.{CodeView, code_view, text_view}
use Rattle.stack_code.specs.Limits.{CodeRuns}
use Rattle.stack_code.specs.Code.{procedure_head, text_head}
use Rattle.stack_code.specs.Machine.{Machine}
use Rattle.stack_code.specs.Run.{name_of, first_of, shown_cell}
use Rattle.cell_store.specs.declared.cells.Word.TheVariants as held
use Rattle.machine_rows.specs.declared.state.State.{State}
use Rattle.machine_rows.specs.Seen.{Seen, EntryFits, machine_of, content_of}

-- the machine that a dump shows: memory alone
abbrev pub memory_seen : CodeView → Seen
memory_seen c = record { setting = record { steps = 0; lines = 0; cards = [] }; code = c; pc = 0; pieces = []; begun = [] }

abbrev pub shown_machine : CodeView → State → Machine
shown_machine c s = machine_of (memory_seen c) s held.Nothing

-- what a dump looks up is there
pub record CanBeShown (c : CodeView) (s : State) : Type 0 where
  pub code : CodeRuns c
  pub classes : All (λ (r : Record). r.class.0 < length c.given.class_places) s.records
  pub entries : All (EntryFits c.given) s.store.entries

-- how what a cell holds is shown
abbrev pub cell_shown : CodeView → State → Option Cell → Shown
cell_shown c s cell = shown_cell (shown_machine c s) (option_map (content_of c.given) cell)

-- the bounds of the dimensions of which no subscript is given
abbrev pub bounds_left : List Dimension → List (ℤ × ℤ)
bounds_left ds = free_bounds (map (λ d. (d.lower, d.upper)) ds) (map (λ d. d.given) ds)

-- how what is wide is shown
abbrev pub wide_shown : Option Wide → Shown
wide_shown None = shown.Undefined
wide_shown (Some (wide.Str s)) = shown.Simple (value.Str s)
wide_shown (Some (wide.Array a)) = shown_bounds (bounds_left a.dimensions)
wide_shown (Some (wide.Procedure p)) = shown.Procedure
wide_shown (Some w) = shown.ByName

-- the line of a mark, but for one that isn't shown
abbrev pub mark_line : CodeView → Entry → Option dump.Entry
mark_line c (entry.Block p cells) = Some (line.Block p)
mark_line c (entry.Turn p back) = Some (line.For p)
mark_line c (entry.Call head site) = Some (line.Call (name_of (procedure_head (code_view c).instructions head)) site)
mark_line c (entry.Actual head) = Some (line.Actual (first_of (text_head (code_view c).instructions head)))
mark_line c e = None

-- the lines of the names among some entries
abbrev pub name_lines : CodeView → State → List Entry → List dump.Entry
name_lines c s [] = []
name_lines c s (entry.Name x k ∷ es) = line.Shown (text_view c.given x) (cell_shown c s (slice_get s.store.cells k)) ∷ name_lines c s es
name_lines c s (entry.ProcedureName x k ∷ es) = line.Shown (text_view c.given x) shown.Procedure ∷ name_lines c s es
name_lines c s (e ∷ es) = name_lines c s es

-- those from one number up to another
abbrev pub between : {A : Type 0} → (first end : ℕ) → List A → List A
between first end xs = take (end - first) (drop first xs)
