-- Actuals that are prepared: what the meaning binds to formals, and what lies in their cells.
use Rattle.std.specs.Prelude.{◌≡◌, ℕ, ◌+◌, ◌≤◌, ◌⊎◌, List, [], ◌∷◌, Option, Some, None}
use Rattle.value_ops.specs.declared.values.Value.{Value}
use Rattle.algolw_typing.specs.Meanings.{FormalType}
use Rattle.program_meaning.specs.Phrases.{Formal}
use Rattle.program_meaning.specs.State as state
use Rattle.program_meaning.specs.State.{ArrayInfo}
use Rattle.program_meaning.specs.Environments.{Thing, to_variable, to_array, to_procedure, thunk, Ready, with_value, without_value, put_for, Bound, none_bound, bind_to, held_for}
use Rattle.stack_code.specs.Code.{Coded}
use Rattle.stack_code.specs.Machine as machine
use Rattle.stack_code.specs.Machine.{Content, Thunk, on_top_of}
use Rattle.stack_code.specs.Table.{name_of}
use Rattle.phrase_code.specs.Sizes.{a_variable, an_array, a_name_formal, a_procedure_formal, kind_of_formal}
use Rattle.phrase_code.specs.Marks.{marks}
use Rattle.phrase_code.specs.Coding.{Context}
use Rattle.code_simulation.specs.Relation.{Has, Slot, variable, fixed, Base, World, LiveProcedure, HasText, HasArray, IsUnderWay, Shows}

-- what is put for a formal, and what its cell holds
abbrev pub ThingIs : List Coded → World → Base → List (Option ArrayInfo) → FormalType → Thing → Content → Type 0
ThingIs program w b arrays f (thunk m a e) x =
    ((kind_of_formal f ≡ a_name_formal) ⊎ (kind_of_formal f ≡ a_procedure_formal)) × (t : Thunk) × (x ≡ machine.a_thunk t) × (c : Context) × HasText program t m a c × Shows program w b arrays e c.names c.level t.link × (marks a ≤ w.marks) × IsUnderWay b.frames t.link
ThingIs program w b arrays f (to_array k given) x = (kind_of_formal f ≡ an_array) × (a : ArrayInfo) × (x ≡ machine.an_array a given) × HasArray b arrays k a
ThingIs program w b arrays f (to_procedure k) x = (kind_of_formal f ≡ a_procedure_formal) × (q : LiveProcedure) × Has q w.procedures × (k ≡ q.number) × (x ≡ machine.a_procedure (record { head = q.head; link = q.link }))
ThingIs program w b arrays f t x = ⊥

abbrev pub ReadyIs : List Coded → World → Base → List (Option ArrayInfo) → FormalType → Ready → Content → Type 0
ReadyIs program w b arrays f (with_value v) x = (kind_of_formal f ≡ a_variable) × (x ≡ machine.a_value v)
ReadyIs program w b arrays f without_value x = (kind_of_formal f ≡ a_variable) × (x ≡ machine.nothing)
ReadyIs program w b arrays f (put_for t) x = ThingIs program w b arrays f t x

abbrev pub ReadyAre : List Coded → World → Base → List (Option ArrayInfo) → List Formal → List Ready → List Content → Type 0
ReadyAre program w b arrays [] [] [] = Unit {0}
ReadyAre program w b arrays (f ∷ fs) (r ∷ rs) (x ∷ xs) = ReadyIs program w b arrays f.is r x × ReadyAre program w b arrays fs rs xs
ReadyAre program w b arrays fs rs xs = ⊥

-- the variables that formals get
abbrev pub new_values : List Ready → List (Option Value)
new_values [] = []
new_values (with_value v ∷ rs) = Some v ∷ new_values rs
new_values (without_value ∷ rs) = None ∷ new_values rs
new_values (put_for t ∷ rs) = new_values rs

-- what formals are bound to, with variables from number n on
abbrev pub bound_of : ℕ → List Formal → List Ready → Bound
bound_of n (f ∷ fs) (with_value v ∷ rs) = bind_to f (to_variable n) (state.a_variable n) (bound_of (n + 1) fs rs)
bound_of n (f ∷ fs) (without_value ∷ rs) = bind_to f (to_variable n) (state.a_variable n) (bound_of (n + 1) fs rs)
bound_of n (f ∷ fs) (put_for t ∷ rs) = bind_to f t (held_for f.is t) (bound_of n fs rs)
bound_of n fs rs = none_bound

-- their cells before the call, and in it
abbrev pub pushed_slots : List Content → List Slot → List Slot
pushed_slots [] l = l
pushed_slots (x ∷ xs) l = pushed_slots xs (fixed x ∷ l)

abbrev pub bound_slots : ℕ → List Ready → List Content → List Slot → List Slot
bound_slots n (with_value v ∷ rs) (x ∷ xs) l = bound_slots (n + 1) rs xs (variable n ∷ l)
bound_slots n (without_value ∷ rs) (x ∷ xs) l = bound_slots (n + 1) rs xs (variable n ∷ l)
bound_slots n (put_for t ∷ rs) (x ∷ xs) l = bound_slots n rs xs (fixed x ∷ l)
bound_slots n rs xs l = l

-- the slot of a formal's cell
abbrev pub slot_of : ℕ → Ready → Content → Slot
slot_of n (with_value v) x = variable n
slot_of n without_value x = variable n
slot_of n (put_for t) x = fixed x

abbrev pub next_number : ℕ → Ready → ℕ
next_number n (with_value v) = n + 1
next_number n without_value = n + 1
next_number n (put_for t) = n

-- the entries of formals whose cells begin there
abbrev pub formal_entries : ℕ → List Formal → List machine.Entry → List machine.Entry
formal_entries cell [] es = es
formal_entries cell (f ∷ fs) es = formal_entries (cell + 1) fs (name_of f.is f.name.text cell ∷ es)

-- formals have their entries from a position on, and their cells
abbrev pub FormalsAt : Base → (start position cell n : ℕ) → List Formal → List Ready → List Content → Type 0
FormalsAt b start position cell n (f ∷ fs) (r ∷ rs) (x ∷ xs) =
    (on_top_of b.entries (start + position) ≡ Some (name_of f.is f.name.text cell)) × (on_top_of b.slots cell ≡ Some (slot_of n r x)) × FormalsAt b start (position + 1) (cell + 1) (next_number n r) fs rs xs
FormalsAt b start position cell n fs rs xs = Unit {0}
