-- How actuals of declared procedures are coded in line for their formals.
use Rattle.std.specs.Prelude.{ℕ, Bool, false, Some}
use Rattle.algolw_tree.specs.declared.programs.Gives.{Gives}
use Rattle.algolw_typing.specs.ProgramView.{gives_view}
use Rattle.program_meaning.specs.Copying.{is_variable_of}
use Rattle.stack_code.specs.CodeView.{Given, kind_view, numbers}
use Rattle.stack_code.specs.declared.heads.FormalType.{FormalType}
use Rattle.stack_code.specs.declared.heads.FormalType.TheVariants as formal
use Rattle.code_emitter.specs.declared.passing.Passing.{Passing}
use Rattle.code_emitter.specs.declared.passing.Passing.TheVariants as passing

-- a phrase that may be a variable, and gives this
abbrev pub of_phrase : Given → (is_variable : Bool) → Gives → FormalType → Passing
of_phrase s v g (formal.Value t) = passing.Value t
of_phrase s v g (formal.Result t) = passing.Reserve
of_phrase s v g (formal.ValueResult t) = passing.Aside t
of_phrase s v g (formal.ByName t) = passing.Thunk (Some t) (is_variable_of (kind_view s t) v (gives_view (numbers s) g))
of_phrase s v g (formal.Procedure t) = passing.Thunk t false
of_phrase s v g (formal.Array t n) = passing.Stuck

-- a name alone, by its number
abbrev pub of_name : (name : ℕ) → FormalType → Passing
of_name name (formal.Value t) = passing.Value t
of_name name (formal.ByName t) = passing.Thunk (Some t) false
of_name name (formal.Procedure t) = passing.HandOn name
of_name name (formal.Array t n) = passing.HandOn name
of_name name (formal.Result t) = passing.Stuck
of_name name (formal.ValueResult t) = passing.Stuck
