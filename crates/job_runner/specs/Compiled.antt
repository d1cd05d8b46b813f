-- What a deck compiles to, alone or with its library.
use Rattle.std.specs.Prelude.{◌≡◌, ◌≢◌, ℕ, List, [], Option}
use Rattle.algolw_tree.specs.Tree.{Phrase}
use Rattle.algolw_typing.specs.Faults.{program_faults}
use Rattle.algolw_typing.specs.Programs.{program_of}
use Rattle.program_meaning.specs.Translating.{program_phrase}
use Rattle.phrase_code.specs.Coding.{program_code}
use Rattle.stack_code.specs.CodeView.{CodeView, code_view}
use Rattle.algolw_meaning.specs.DeckDiagnostics.{JobHasProgram}
use Rattle.algolw_meaning.specs.Meaning.{shown_diagnostics}
use Rattle.job_runner.specs.declared.deck.Compiled.{Compiled}
use Rattle.job_runner.specs.declared.deck.Compiled.TheVariants as compiled

-- The code of the program that a deck's tokens spell, with its library, which has no faults, with the places of its statements.
pub record IsCodeOf (library : Option (List (List ℕ))) (deck : List (List ℕ)) (c : CodeView) : Type 0 where
  pub program : Phrase
  pub spelled : JobHasProgram library deck program
  pub faultless : program_faults program ≡ []
  pub code : code_view c ≡ program_code (program_phrase (program_of program))
  pub statements : c.given.statements ≡ (program_of program).statements

-- the code of its program, or its diagnostics that are shown, of which there are some
abbrev pub CompilesTo : Option (List (List ℕ)) → List (List ℕ) → Compiled → Type 0
CompilesTo library deck (compiled.Code code) = IsCodeOf library deck code
CompilesTo library deck (compiled.Diagnosed faults) = (faults.items ≢ []) × (faults.items ≡ shown_diagnostics library deck)
