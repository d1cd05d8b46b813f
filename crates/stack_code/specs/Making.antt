-- Code in memory as it is made: tables first, then instruction by instruction.
use Rattle.std.specs.Prelude.{ℕ, List, [], ◌∷◌, ◌++◌, slice_set, slice_index_or}
use Rattle.std.specs.declared.vec.Vec.{Vec}
use Rattle.std.specs.declared.alloc.Global.{Global}
use Rattle.stack_code.specs.declared.code.ProgramTables.{ProgramTables}
use Rattle.stack_code.specs.Calls.{ComparedCall}
use Rattle.stack_code.specs.declared.heads.ProcedureHead.{ProcedureHead}
use Rattle.stack_code.specs.declared.heads.Stars.{Stars}
use Rattle.stack_code.specs.declared.heads.TextHead.{TextHead}
use Rattle.stack_code.specs.declared.instructions.Coded.{Coded}
use Rattle.stack_code.specs.declared.instructions.Instr.{Instr}
use Rattle.stack_code.specs.declared.instructions.Instr.TheVariants as held
use Rattle.stack_code.specs.CodeView.{Given, Added, CodeView}

-- what is there before any instruction is
abbrev pub given_by : ProgramTables → Given
given_by t = record { statements = t.statements.items; names = t.names.items; classes = t.classes; class_places = t.class_places.items }

abbrev pub added_by : Vec (List ℕ) Global → Vec ProcedureHead Global → List TextHead → List ComparedCall → Vec Stars Global → Added
added_by strings procedures texts calls stars = record { strings = strings.items; procedures = procedures.items; texts = texts; calls = calls; stars = stars.items }

abbrev pub nothing_added : Added
nothing_added = record { strings = []; procedures = []; texts = []; calls = []; stars = [] }

abbrev pub no_instructions : ProgramTables → CodeView
no_instructions t = record { instructions = []; marks = 0; given = given_by t; added = nothing_added }

abbrev pub with_instruction : CodeView → ℕ → Instr → CodeView
with_instruction c at does = record c { instructions = c.instructions ++ record { at = at; does = does } ∷ [] }

abbrev pub coded_at : CodeView → ℕ → Coded
coded_at c n = slice_index_or c.instructions n (record { at = 0; does = held.Stuck })

abbrev pub with_replaced : CodeView → ℕ → Instr → CodeView
with_replaced c n does = record c { instructions = slice_set c.instructions n (record { at = (coded_at c n).at; does = does }) }

abbrev pub with_marks : CodeView → ℕ → CodeView
with_marks c marks = record c { marks = marks }

abbrev pub with_added : CodeView → Added → CodeView
with_added c a = record c { added = a }

abbrev pub with_string : CodeView → List ℕ → CodeView
with_string c text = with_added c (record c.added { strings = c.added.strings ++ text ∷ [] })

abbrev pub with_procedure : CodeView → ProcedureHead → CodeView
with_procedure c head = with_added c (record c.added { procedures = c.added.procedures ++ head ∷ [] })

abbrev pub with_text : CodeView → TextHead → CodeView
with_text c head = with_added c (record c.added { texts = c.added.texts ++ head ∷ [] })

abbrev pub with_call : CodeView → ComparedCall → CodeView
with_call c call = with_added c (record c.added { calls = c.added.calls ++ call ∷ [] })

abbrev pub with_stars : CodeView → Stars → CodeView
with_stars c stars = with_added c (record c.added { stars = c.added.stars ++ stars ∷ [] })
