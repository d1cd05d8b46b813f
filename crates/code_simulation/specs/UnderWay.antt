-- What is under way, counted: names and marks among the machine's entries, and texts that count in the depth.
use Rattle.std.specs.Prelude.{ℕ, suc, ◌≤◌, List, [], ◌∷◌}
use Rattle.program_meaning.specs.State as state
use Rattle.program_meaning.specs.State.{State}
use Rattle.program_meaning.specs.Environments.{Bodied}
use Rattle.stack_code.specs.Machine as machine
use Rattle.stack_code.specs.Machine.{Entry}

-- names among entries
abbrev pub names_in : List Entry → ℕ
names_in [] = 0
names_in (machine.a_name text k ∷ entries) = suc (names_in entries)
names_in (machine.a_procedure_name text k ∷ entries) = suc (names_in entries)
names_in (e ∷ entries) = names_in entries

-- marks among entries
abbrev pub marks_in : List Entry → ℕ
marks_in [] = 0
marks_in (machine.a_name text k ∷ entries) = marks_in entries
marks_in (machine.a_procedure_name text k ∷ entries) = marks_in entries
marks_in (e ∷ entries) = suc (marks_in entries)

-- texts that count in the depth: calls and copied actuals
abbrev pub texts_in : List Entry → ℕ
texts_in [] = 0
texts_in (machine.a_call head site ∷ entries) = suc (texts_in entries)
texts_in (machine.an_actual head ∷ entries) = suc (texts_in entries)
texts_in (e ∷ entries) = texts_in entries

-- the same of what the meaning has under way
abbrev pub texts_under : List state.Entry → ℕ
texts_under [] = 0
texts_under (state.in_call name q xs ∷ active) = suc (texts_under active)
texts_under (state.in_actual first ∷ active) = suc (texts_under active)
texts_under (e ∷ active) = texts_under active

-- a state's depth counts them
abbrev pub IsDeep : State Bodied → Type 0
IsDeep s = texts_under s.active ≤ s.depth
