-- What is done with a name, by what it stands for.
use Rattle.std.specs.Prelude.{⊤, ◌≡◌, ℕ, ◌-◌, List, Bool, true, false, Option, Some, None, pos}
use Rattle.value_ops.specs.declared.values.SimpleType.{SimpleType}
use Rattle.value_ops.specs.declared.values.SimpleType.TheVariants as simple
use Rattle.algolw_tree.specs.declared.programs.Node.{Node}
use Rattle.algolw_tree.specs.declared.programs.TypedList.{TypedList}
use Rattle.algolw_typing.specs.Typed as typed
use Rattle.algolw_typing.specs.ProgramView.{numbered}
use Rattle.stack_code.specs.declared.instructions.Constant.TheVariants as constant
use Rattle.stack_code.specs.declared.instructions.Instr.{Instr}
use Rattle.stack_code.specs.declared.instructions.Instr.TheVariants as held
use Rattle.stack_code.specs.declared.instructions.Mode.{Mode}
use Rattle.symbol_table.specs.declared.here.Here.{Here}
use Rattle.algolw_tree.specs.declared.standard.Standard.{Standard}
use Rattle.algolw_tree.specs.declared.standard.Standard.TheVariants as standard
use Rattle.symbol_table.specs.declared.standings.Standing.{Standing}
use Rattle.symbol_table.specs.declared.standings.Standing.TheVariants as standing
use Rattle.symbol_table.specs.Contexts.{Scene, numbers_in}
use Rattle.symbol_table.specs.Parts.{lists_in}
use Rattle.symbol_table.specs.Standings.{standing_of}
use Rattle.stack_code.specs.CodeView.{InstrFits}
use Rattle.code_emitter.specs.Appending.{appended, with_name}
use Rattle.code_emitter.specs.declared.emitter.Emitter.{Emitter}
use Rattle.stack_codegen.specs.declared.lists.ListPlan.{ListPlan}
use Rattle.stack_codegen.specs.declared.lists.ListUse.{ListUse}
use Rattle.stack_codegen.specs.declared.lists.ListUse.TheVariants as list
use Rattle.stack_codegen.specs.Codable.{with_kind}

-- a name with lists, as the tree has it
abbrev pub named_node : Node → ℕ → List TypedList → Scene → typed.Node
named_node node name lists = with_kind node (λ s. typed.Named (numbered (numbers_in s).names name) (lists_in (numbers_in s) lists))

-- ---- lengths of strings

abbrev pub length_of : SimpleType → ℕ
length_of (simple.Str n) = n
length_of t = 0

abbrev pub length_given : Option SimpleType → ℕ
length_given None = 0
length_given (Some t) = length_of t

-- ---- what a name stands for

abbrev pub is_called : Standing → Bool
is_called (standing.Procedure x) = true
is_called (standing.ProcedureFormal t e) = true
is_called s = false

-- it stands for a standard name
abbrev pub IsStandard : Emitter → ℕ → Standard → Type 0
IsStandard e name k = standing_of e.symbols.names name ≡ standing.Standard k

-- neither a variable, nor called, nor WRITE
abbrev pub is_applied : Standing → Bool
is_applied (standing.Variable t e) = false
is_applied (standing.NameFormal t e) = false
is_applied (standing.Procedure x) = false
is_applied (standing.ProcedureFormal t e) = false
is_applied (standing.Standard (standard.Write first)) = false
is_applied s = true

-- ---- what is done with a list of so many phrases behind it

abbrev pub transfer : ListUse → ListPlan
transfer use_ = record { begins = true; list = Some use_; does = held.Nothing; whole = None }

abbrev pub standard_plan : Standard → Option ListPlan
standard_plan (standard.Function op) = Some (record { begins = false; list = None; does = held.Unary op; whole = Some 1 })
standard_plan (standard.Read next) = Some (transfer (list.Read next))
standard_plan standard.ReadCard = Some (transfer list.ReadCard)
standard_plan (standard.Write first) = None
standard_plan standard.IoControl = Some (record { begins = true; list = None; does = held.IoControl; whole = None })
standard_plan standard.MaxInteger = None
standard_plan (standard.Variable width) = None

abbrev pub list_plan : Here → Mode → Standing → ℕ → Option ListPlan
list_plan here u (standing.Array t e) n = Some (record { begins = false; list = Some list.Subscripts; does = held.Element u (here.level - e.level) e.position n; whole = Some (length_of t) })
list_plan here u (standing.Class c) n = Some (record { begins = false; list = Some (list.Fields c); does = held.MakeRecord c.class n; whole = None })
list_plan here u (standing.Field c position t) n = Some (record { begins = false; list = None; does = held.Field u c position; whole = Some (length_of t) })
list_plan here u (standing.Standard s) n = standard_plan s
list_plan here u s n = None

-- and without
abbrev pub alone_instr : Mode → Standing → Option Instr
alone_instr u (standing.Class c) = Some (held.MakeRecordAlone c.class c.count)
alone_instr u (standing.Standard (standard.Variable width)) = Some (held.Standard u width)
alone_instr u (standing.Standard standard.MaxInteger) = Some (held.Constant (constant.Integer (pos 2147483647)))
alone_instr u s = None

-- where no list is that it takes
abbrev pub with_alone : Emitter → Here → Mode → Standing → Option Instr → Emitter
with_alone e here u s None = with_name e here u s
with_alone e here u s (Some i) = appended e here i

abbrev pub AloneFits : Emitter → Option Instr → Type 0
AloneFits e None = ⊤
AloneFits e (Some i) = InstrFits e.code.given e.code.added i
