-- What single instructions add.
use Rattle.std.specs.Prelude.{◌≡◌, ℕ, ◌+◌, ◌-◌, List, length, map, Bool, true, Option, Some, None}
use Rattle.std.specs.declared.alloc.Global.{Global}
use Rattle.std.specs.declared.vec.Vec.{Vec}
use Rattle.value_ops.specs.declared.values.SimpleType.{SimpleType}
use Rattle.stack_code.specs.Making.{with_call, with_instruction, with_replaced, with_string, with_text}
use Rattle.stack_code.specs.declared.heads.TextHead.{TextHead}
use Rattle.stack_code.specs.declared.instructions.Constant.TheVariants as constant
use Rattle.stack_code.specs.declared.instructions.Instr.{Instr}
use Rattle.stack_code.specs.declared.instructions.Instr.TheVariants as held
use Rattle.stack_code.specs.declared.instructions.Mode.{Mode}
use Rattle.stack_code.specs.declared.instructions.Purpose.TheVariants as purpose
use Rattle.stack_code.specs.declared.instructions.Source.{Source}
use Rattle.symbol_table.specs.declared.here.Here.{Here}
use Rattle.symbol_table.specs.declared.standings.Entry.{Entry}
use Rattle.symbol_table.specs.declared.standings.Standing.{Standing}
use Rattle.symbol_table.specs.declared.standings.Standing.TheVariants as standing
use Rattle.symbol_table.specs.Heres.{in_statement}
use Rattle.code_emitter.specs.declared.emitter.Emitter.{Emitter}
use Rattle.code_emitter.specs.declared.texts.OpenText.{OpenText}

-- an instruction more
abbrev pub appended : Emitter → Here → Instr → Emitter
appended e here does = record e { code = with_instruction e.code here.statement does }

-- an instruction in the place of another
abbrev pub replaced : Emitter → ℕ → Instr → Emitter
replaced e n does = record e { code = with_replaced e.code n does }

-- the begin of a statement, where there is one
abbrev pub begun : Emitter → Here → Option ℕ → Emitter
begun e here None = e
begun e here (Some statement) = appended e (in_statement here (Some statement)) held.Begin

-- the making into a type, where there is one
abbrev pub made_into : Emitter → Here → Option SimpleType → Emitter
made_into e here None = e
made_into e here (Some t) = appended e here (held.Make t)

-- a string that is written out
abbrev pub with_quoted : Emitter → Here → List ℕ → Emitter
with_quoted e here text = appended (record e { code = with_string e.code text }) here (held.Constant (constant.Str (length e.code.added.strings)))

-- a variable, and a formal that is used
abbrev pub with_variable : Emitter → Here → Mode → Entry → Emitter
with_variable e here mode x = appended e here (held.Variable mode (here.level - x.level) x.position)

abbrev pub with_use : Emitter → Here → Mode → Entry → Emitter
with_use e here mode x = appended (appended e here (held.UseFormal mode (here.level - x.level) x.position)) here held.End

-- a name alone
abbrev pub with_name : Emitter → Here → Mode → Standing → Emitter
with_name e here mode (standing.Variable t x) = with_variable e here mode x
with_name e here mode (standing.Control x) = with_variable e here mode x
with_name e here mode (standing.NameFormal t x) = with_use e here mode x
with_name e here mode (standing.ProcedureFormal t x) = with_use e here mode x
with_name e here mode s = appended e here held.Stuck

-- a jump
abbrev pub with_goto : Emitter → Here → Standing → Emitter
with_goto e here (standing.Label x target) = appended e here (held.Goto (here.level - x.level) x.position target)
with_goto e here s = appended (appended e here held.Begin) here held.Stuck

-- what stands for a name that stands alone
abbrev pub with_source : Emitter → Here → Option Source → Emitter
with_source e here None = appended e here held.Stuck
with_source e here (Some source) = appended e here (held.HandOn source)

-- ---- texts

-- the head of a text, whose end isn't known yet
abbrev pub text_opened : Emitter → Here → TextHead → Emitter
text_opened e here head = appended (record e { code = with_text e.code head }) here (held.Text (length e.code.added.texts) 0)

-- the end of a text, which its head goes behind
abbrev pub text_closed : Emitter → Here → OpenText → Emitter
text_closed e here text = record e { code = with_replaced (with_instruction e.code here.statement held.Return) text.head (held.Text text.number (length e.code.instructions + 1)) }

-- the value of a text, made into a type and pushed
abbrev pub with_aside : Emitter → Here → ℕ → SimpleType → Emitter
with_aside e here head t = appended (appended (appended e here (held.Aside purpose.Value (Some t) head)) here held.End) here held.Push

-- a copied actual, pushed
abbrev pub with_thunk : Emitter → Here → ℕ → Option SimpleType → Bool → Emitter
with_thunk e here head t is_variable = appended (appended e here (held.MakeThunk is_variable t head)) here held.Push

-- a call that compares, whose actuals' texts have these heads
abbrev pub with_compared : Emitter → Source → List ℕ → ℕ → Emitter
with_compared e source heads end = record e { code = with_call e.code (record { source = source; compares = true; heads = heads; end = end }) }

-- such a call is added
pub record Compares (old new : Emitter) (source : Source) (texts : List ℕ) (end : ℕ) : Type 0 where
  pub heads : List ℕ
  pub are : heads ≡ texts
  pub added : new ≡ with_compared old source heads end

-- ---- targets

-- with what is known of targets now
abbrev pub with_targets : Emitter → Vec (Option ℕ) Global → Emitter
with_targets e targets = record e { targets = targets }

abbrev pub known_target : Option ℕ → ℕ
known_target None = 0
known_target (Some n) = n

abbrev pub final_targets : List (Option ℕ) → List ℕ
final_targets targets = map known_target targets
