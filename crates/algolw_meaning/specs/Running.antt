-- What a job gives: diagnosed, or run.
use Rattle.std.specs.Prelude.{ℕ, ◌+◌, List, [], ◌∷◌, ◌++◌, length, nat_eq, codes, Option, Some, None, true, false}
use Rattle.deck_reader.specs.JobView.{JobView}
use Rattle.account_book.specs.declared.charges.Counts.{Counts}
use Rattle.value_ops.specs.declared.places.Diagnostic.{Diagnostic}
use Rattle.value_ops.specs.declared.places.Place.{Place}
use Rattle.algolw_typing.specs.Programs.{TypedProgram, program_of}
use Rattle.post_mortem.specs.Source.{source_text}
use Rattle.program_meaning.specs.Translating.{program_phrase}
use Rattle.program_meaning.specs.State.{Outcome, on, jump, stop, Setting, Given, Why, by_limit}
use Rattle.program_meaning.specs.Copying.{Closed}
use Rattle.program_meaning.specs.Results.{outcome, state_of, ending_text, printed_lines, dump_of, begun_at}
use Rattle.algolw_meaning.specs.DeckDiagnostics.{Deck, IsProgram, job_deck}
use Rattle.algolw_meaning.specs.Meaning.{JobResult, counts_of, diagnosed, job_library, shown_diagnostics}
use Rattle.algolw_meaning.specs.Texts.{line, sum_line}
use Rattle.algolw_meaning.specs.declared.ending.Ending.{Ending}
use Rattle.algolw_meaning.specs.declared.ending.Ending.TheVariants as ending

-- ---- the source, with a count before each card on which a statement stands

-- the first statement on a card
abbrev pub statement_on : ℕ → List Place → Option Place
statement_on number [] = None
statement_on number (p ∷ statements) = elim (nat_eq p.card number) [ true ↦ Some p | false ↦ statement_on number statements ]

-- how often it was begun
abbrev pub count_of : List Place → Option Place → Option ℕ
count_of begun None = None
count_of begun (Some statement) = Some (begun_at statement begun)

-- the cards from this number on, with the counts of what was begun
abbrev pub counted_lines : List Place → List Place → ℕ → List (List ℕ) → List (List ℕ)
counted_lines statements begun number [] = []
counted_lines statements begun number (card ∷ cards) = source_text card number (count_of begun (statement_on number statements)) ∷ counted_lines statements begun (number + 1) cards

-- ---- the end

abbrev pub stopped_by : Why → Ending
stopped_by (by_limit l) = ending.Limit
stopped_by why = ending.Fault

abbrev pub ending_of : Outcome Closed Given → Ending
ending_of (on a s) = ending.Normal
ending_of (jump l s) = ending.Fault
ending_of (stop why w s) = stopped_by why

-- the dump of a run that didn't end normally
abbrev pub dump_section : Outcome Closed Given → List (List ℕ)
dump_section (on a s) = []
dump_section o = codes "POST-MORTEM" ∷ dump_of o

-- ---- the result

-- a line feed behind each
abbrev pub lines : List (List ℕ) → List ℕ
lines [] = []
lines (text ∷ texts) = line text ++ lines texts

abbrev pub setting_of : JobView → Setting
setting_of job = record { steps = job.steps; lines = job.lines; cards = job.data_cards }

-- what a run used
abbrev pub used : JobView → Outcome Closed Given → Counts
used job o = counts_of job.cards (state_of o).steps (length (printed_lines (setting_of job) (state_of o)))

-- the lines of a section: the source, what was printed, how the run ended, and the dump
abbrev pub run_lines : JobView → List Place → Outcome Closed Given → List (List ℕ)
run_lines job statements o = counted_lines statements (state_of o).begun 1 job.deck ++ (codes "OUTPUT" ∷ printed_lines (setting_of job) (state_of o) ++ (ending_text o ∷ dump_section o))

abbrev pub run_result : JobView → List Place → Outcome Closed Given → JobResult
run_result job statements o = record { body = lines (run_lines job statements o) ++ sum_line (used job o); counts = used job o; ending = ending_of o }

-- the outcome of a program that a job runs: it begins with nothing held
abbrev pub program_outcome : JobView → TypedProgram → Outcome Closed Given
program_outcome job program = outcome (setting_of job) (program_phrase program)

abbrev pub result_of_deck : List Diagnostic → Deck → JobView → JobResult
result_of_deck [] (IsProgram x) job = run_result job (program_of x).statements (program_outcome job (program_of x))
result_of_deck faults deck job = diagnosed faults job

-- a job with a fault is diagnosed; every other one is a program, which is run
abbrev pub job_result : JobView → JobResult
job_result job = result_of_deck (shown_diagnostics (job_library job) job.deck) (job_deck (job_library job) job.deck) job
