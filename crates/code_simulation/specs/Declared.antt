-- What the names of a block are known to stand for when its declarations were made.
use Rattle.std.specs.Prelude.{◌≡◌, ℕ, zero, suc, ◌+◌, List, [], ◌∷◌, length, Option, Some}
use Rattle.program_meaning.specs.Phrases.{Name, Decls, no_decls, variables_and, arrays_and, procedure_and}
use Rattle.program_meaning.specs.State.{ArrayInfo}
use Rattle.program_meaning.specs.Copying.{dimensions, free}
use Rattle.stack_code.specs.Machine as machine
use Rattle.stack_code.specs.Machine.{on_top_of}
use Rattle.phrase_code.specs.Sizes.{Known, decls_size, bounds_size}
use Rattle.phrase_code.specs.Coding.{Context}
use Rattle.code_simulation.specs.Relation.{Base, variable, fixed, HasArray, LiveProcedure}

-- so many numbers from v on, in front of more
abbrev pub numbers : ℕ → ℕ → List ℕ → List ℕ
numbers v zero more = more
numbers v (suc n) more = v ∷ numbers (v + 1) n more

-- variables from number v on, whose entries begin at a position
abbrev pub VariablesAt : Base → (start position v : ℕ) → List Name → Type 0
VariablesAt b start position v [] = Unit {0}
VariablesAt b start position v (x ∷ xs) = ((cell : ℕ) × (on_top_of b.entries (start + position) ≡ Some (machine.a_name x.text cell)) × (on_top_of b.slots cell ≡ Some (variable v))) × VariablesAt b start (position + 1) (v + 1) xs

-- arrays from number k on
abbrev pub ArraysAt : Base → List (Option ArrayInfo) → (start position k dimensions : ℕ) → List Name → Type 0
ArraysAt b arrays start position k d [] = Unit {0}
ArraysAt b arrays start position k d (x ∷ xs) = ((cell : ℕ) × (on_top_of b.entries (start + position) ≡ Some (machine.a_name x.text cell)) × (a : ArrayInfo) × (on_top_of b.slots cell ≡ Some (fixed (machine.an_array a (free d)))) × HasArray b arrays k a) × ArraysAt b arrays start (position + 1) (k + 1) d xs

-- all names of declarations
abbrev pub DeclsAt : Base → List (Option ArrayInfo) → (start position v a : ℕ) → Decls → Type 0
DeclsAt b arrays start position v a no_decls = Unit {0}
DeclsAt b arrays start position v a (variables_and xs rest) = VariablesAt b start position v xs × DeclsAt b arrays start (position + length xs) (v + length xs) a rest
DeclsAt b arrays start position v a (arrays_and t xs pairs rest) = ArraysAt b arrays start position a (dimensions pairs) xs × DeclsAt b arrays start (position + length xs) v (a + length xs) rest
DeclsAt b arrays start position v a (procedure_and x result formals body rest) = DeclsAt b arrays start position v a rest

-- the procedures of declarations, from number p on, whose code begins at k
abbrev pub own_procedures : (outside inside : List Known) → Context → (link : Option ℕ) → (p k : ℕ) → Decls → List LiveProcedure → List LiveProcedure
own_procedures outside inside c link p k no_decls more = more
own_procedures outside inside c link p k (variables_and xs rest) more = own_procedures outside inside c link p (k + length xs) rest more
own_procedures outside inside c link p k (arrays_and t xs pairs rest) more = own_procedures outside inside c link p (k + (bounds_size outside pairs + (1 + length xs))) rest more
own_procedures outside inside c link p k (procedure_and x result formals body rest) more = record { number = p; head = k; link = link; context = c; formals = formals } ∷ own_procedures outside inside c link (p + 1) (k + decls_size outside inside (procedure_and x result formals body no_decls)) rest more
