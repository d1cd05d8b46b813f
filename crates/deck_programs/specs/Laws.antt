-- The program of a deck without faults is never wrong, and so no job ends wrong.
use Rattle.std.specs.Prelude.{◌≡◌, ◌==◌, ◌⊎◌, ◌≤◌, ℕ, List, [], ◌∷◌, Bool, true, false, ◌&&◌, ◌||◌, Option, Some, None, ⊤, All, codes, length}
use Rattle.value_ops.specs.declared.places.Diagnostic.{Diagnostic}
use Rattle.deck_reader.specs.declared.batch.Account.{Account}
use Rattle.deck_reader.specs.Batch.{batch_with}
use Rattle.deck_reader.specs.JobView.{JobView}
use Rattle.algolw_tree.specs.declared.tokens.Token.{Token}
use Rattle.algolw_tree.specs.Tokens.{AreTokens}
use Rattle.algolw_tree.specs.Tree.{Phrase}
use Rattle.algolw_tree.specs.Parts.{Beyond}
use Rattle.algolw_tree.specs.Programs.{Spells}
use Rattle.algolw_typing.specs.Faults.{program_faults}
use Rattle.algolw_typing.specs.Programs.{program_of}
use Rattle.program_meaning.specs.State.{Setting, Outcome, Given}
use Rattle.program_meaning.specs.Copying.{Closed}
use Rattle.program_meaning.specs.Results.{ending_text}
use Rattle.program_meaning.specs.Translating.{program_phrase}
use Rattle.program_soundness.specs.Laws.{IsNeverWrong, NeverGoesWrong}
use Rattle.faultless_programs.specs.Laws.{IsDeckTree, IsPlaced}
use Rattle.algolw_scanner.specs.Laws.{IsDeck}
use Rattle.algolw_meaning.specs.DeckDiagnostics.{JobHasProgram, job_diagnostics}
use Rattle.algolw_meaning.specs.Meaning.{JobResult, diagnosed, job_library}
use Rattle.algolw_meaning.specs.Running.{program_outcome, run_result, job_result}

-- What the tokens of a deck spell is a tree of a deck: its declarations stand apart, and no quoted text is empty.
abbrev pub TreesOfDecks : Type 0
TreesOfDecks = (deck : List (List ℕ)) (tokens : List Token) (x : Phrase) (b : Beyond) → AreTokens deck tokens → Spells tokens x b → IsDeckTree x

-- Each of its declarations stands on a card.
abbrev pub TreesOfDecksArePlaced : Type 0
TreesOfDecksArePlaced = (deck : List (List ℕ)) (tokens : List Token) (x : Phrase) (b : Beyond) → AreTokens deck tokens → Spells tokens x b → IsPlaced x

-- A deck stands before the library that it names, whose cards are numbered from 2001 on: it has at most 1,999 cards, as a job has at most 2,000
-- with its job card, none of them too long and none with a byte that isn't allowed.
abbrev pub StandsBefore : Option (List (List ℕ)) → List (List ℕ) → Type 0
StandsBefore None deck = ⊤
StandsBefore (Some library) deck = IsDeck deck × (length deck ≤ 1999)

-- So is the program that a deck makes with a library, whose declarations stand behind the deck's.
pub record TreesOfJobs : Type 0 where
  pub trees : (library : Option (List (List ℕ))) (deck : List (List ℕ)) (x : Phrase) → StandsBefore library deck → JobHasProgram library deck x → IsDeckTree x
  pub placed : (library : Option (List (List ℕ))) (deck : List (List ℕ)) (x : Phrase) → StandsBefore library deck → JobHasProgram library deck x → IsPlaced x

-- A deck that has no diagnostic, alone or with its library, is a program, which, run with any data and limits, is never wrong.
abbrev pub DecksAreNeverWrong : Type 0
DecksAreNeverWrong = (library : Option (List (List ℕ))) (deck : List (List ℕ)) → StandsBefore library deck → job_diagnostics library deck ≡ [] → (x : Phrase) × JobHasProgram library deck x × ((set : Setting) → NeverGoesWrong set (program_phrase (program_of x)))

-- ---- jobs

-- whether it is a front of the text
abbrev pub begins_with : List ℕ → List ℕ → Bool
begins_with [] text = true
begins_with (c ∷ front) [] = false
begins_with (c ∷ front) (d ∷ text) = (c == d) && begins_with front text

-- the text of an ending that no program should have
abbrev pub is_wrong_text : List ℕ → Bool
is_wrong_text text = begins_with (codes "WRONG") text || begins_with (codes "UNFINISHED") text

-- The text of an ending tells whether the run was wrong.
abbrev pub TextsTellWrong : Type 0
TextsTellWrong = (o : Outcome Closed Given) → (IsNeverWrong o × (is_wrong_text (ending_text o) ≡ false)) ⊎ ((IsNeverWrong o → ⊥) × (is_wrong_text (ending_text o) ≡ true))

-- The result shows diagnostics.
pub record IsDiagnosed (job : JobView) (result : JobResult) : Type 0 where
  pub first : Diagnostic
  pub others : List Diagnostic
  pub is : result ≡ diagnosed (first ∷ others) job

-- The tokens of the job's deck, with its library, spell a program without faults, and the result is that of its run, which ends normally, or by a fault or a limit;
-- so the text that tells its ending isn't that of a run that is wrong.
pub record IsRun (job : JobView) (result : JobResult) : Type 0 where
  pub program : Phrase
  pub spelled : JobHasProgram (job_library job) job.deck program
  pub faultless : program_faults program ≡ []
  pub is : result ≡ run_result job (program_of program).statements (program_outcome job (program_of program))
  pub never_wrong : IsNeverWrong (program_outcome job (program_of program))
  pub text : is_wrong_text (ending_text (program_outcome job (program_of program))) ≡ false

-- Every job is diagnosed, or it is run and never wrong.
abbrev pub JobsAreNeverWrong : Type 0
JobsAreNeverWrong = (job : JobView) → StandsBefore (job_library job) job.deck → IsDiagnosed job (job_result job) ⊎ IsRun job (job_result job)

-- The deck of each job of a batch stands before its library, whatever the accounts and the input.
abbrev pub JobsStandBefore : Type 0
JobsStandBefore = (given : Option (List Account)) (bytes : List ℕ) → All (λ job. StandsBefore (job_library job) job.deck) (batch_with given bytes).jobs

-- So each is diagnosed, or it is run and never wrong.
abbrev pub BatchesAreNeverWrong : Type 0
BatchesAreNeverWrong = (given : Option (List Account)) (bytes : List ℕ) → All (λ job. IsDiagnosed job (job_result job) ⊎ IsRun job (job_result job)) (batch_with given bytes).jobs
