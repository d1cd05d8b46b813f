-- Actuals against formals, as memory has them.
use Rattle.std.specs.Prelude.{ℕ, List, [], ◌∷◌, map, Option, Some, None, Bool, false, ◌&&◌}
use Rattle.std.specs.Option.{option_map, option_and_then}
use Rattle.value_ops.specs.declared.places.Place.{Place}
use Rattle.cell_store.specs.Stores.{Store}
use Rattle.value_ops.specs.declared.values.SimpleType.{SimpleType}
use Rattle.algolw_tree.specs.declared.programs.Gives.{Gives}
use Rattle.algolw_tree.specs.declared.programs.Gives.TheVariants as gives
use Rattle.algolw_typing.specs.Types.{ValueType, Simple, fits}
use Rattle.algolw_typing.specs.Meanings as typing
use Rattle.algolw_typing.specs.ProgramView.{gives_view}
use Rattle.cell_store.specs.declared.cells.Wide.{Wide}
use Rattle.cell_store.specs.Cells.{a_wide}
use Rattle.stack_code.specs.Calls.{ComparedCall}
use Rattle.stack_code.specs.declared.heads.Formal.{Formal}
use Rattle.stack_code.specs.declared.heads.FormalType.{FormalType}
use Rattle.stack_code.specs.declared.heads.Reading.{Reading}
use Rattle.stack_code.specs.declared.heads.Reading.TheVariants as reading
use Rattle.stack_code.specs.CodeView.{CodeView, Given, instructions_view, code_view, statement_view, numbers, kind_view, kinds_view, formal_type_view, formal_view}
use Rattle.stack_code.specs.Limits.{KindRuns, KindsRun, GivesRuns}
use Rattle.stack_code.specs.Table as table
use Rattle.stack_code.specs.Machine.{Machine}
use Rattle.stack_code.specs.Doing.{Next}
use Rattle.machine_rows.specs.Seen.{Seen, content_of}
use Rattle.machine_calls.specs.declared.comparing.Part.{Part}
use Rattle.machine_calls.specs.declared.comparing.Part.TheVariants as part
use Rattle.machine_calls.specs.Found.{source_out, text_at}

-- ---- an actual

abbrev pub gives_of : Option SimpleType → Gives
gives_of None = gives.Statement
gives_of (Some t) = gives.Simple t

abbrev pub part_view : Given → Part → typing.Part
part_view g (part.Phrase v t) = typing.a_phrase v (gives_view (numbers g) t)
part_view g (part.Array t n) = typing.as_array (kind_view g t) n
part_view g (part.Procedure t) = typing.as_procedure (kinds_view g t)
part_view g part.WithFormals = typing.with_formals
part_view g part.Untyped = typing.typeless

-- each set of classes in it is one of the code's
abbrev pub PartFits : Given → Part → Type 0
PartFits g (part.Phrase v t) = GivesRuns g t
PartFits g (part.Array t n) = KindRuns g t
PartFits g (part.Procedure t) = KindsRun g t
PartFits g part.WithFormals = Unit {0}
PartFits g part.Untyped = Unit {0}

-- what an actual is that is read so, where what stands for its name is found
abbrev pub read_part : CodeView → Store → FormalType → Reading → Option typing.Part
read_part c s f (reading.Phrase v t) = Some (typing.a_phrase v (gives_view (numbers c.given) t))
read_part c s f (reading.Name x) = option_map (λ cell. table.name_part (instructions_view c) (formal_type_view c.given f) (content_of c.given cell)) (source_out s x)
read_part c s f (reading.Subarray x n) = option_map (λ cell. table.array_part (content_of c.given cell) n) (source_out s x)
read_part c s f reading.Nothing = Some typing.typeless

abbrev pub head_part : CodeView → Store → FormalType → (head : ℕ) → Option typing.Part
head_part c s f head = option_and_then (λ t. read_part c s f t.reading) (text_at c head)

abbrev pub onto : typing.Part → Option (List typing.Part) → Option (List typing.Part)
onto p ps = option_map (λ rest. p ∷ rest) ps

-- the actuals with these heads, as many as there are formals
abbrev pub parts : CodeView → Store → List Formal → (heads : List ℕ) → Option (List typing.Part)
parts c s (f ∷ formals) (head ∷ heads) = option_and_then (λ p. onto p (parts c s formals heads)) (head_part c s f.is head)
parts c s formals heads = Some []

abbrev pub they_fit : Given → Place → List Formal → (count : ℕ) → List typing.Part → Bool
they_fit g w formals count ps = table.they_fit w (map (formal_view g) formals) count ps

-- it is a phrase whose value fits a type
abbrev pub fits_value : ValueType → typing.Part → Bool
fits_value t (typing.a_phrase v (Simple u)) = fits u t
fits_value t p = false

-- it is a variable whose type a type fits
abbrev pub fits_result : ValueType → typing.Part → Bool
fits_result t (typing.a_phrase v (Simple u)) = v && fits t u
fits_result t p = false

-- ---- a call that compares

-- a call of what is wide
abbrev pub compare_row : Seen → ComparedCall → Wide → Machine → Next (Unit {0})
compare_row v k w m = table.compare v.setting (code_view v.code) (statement_view v.code.given 0) k.compares k.heads k.end (content_of v.code.given (a_wide w)) m
