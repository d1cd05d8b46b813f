-- The section of a job that was run, by its outcome and by what the desk shows.
use Rattle.std.specs.Prelude.{ℕ, List, [], ◌∷◌, ◌++◌, length, codes}
use Rattle.value_ops.specs.declared.places.Place.{Place}
use Rattle.deck_reader.specs.JobView.{JobView}
use Rattle.account_book.specs.declared.charges.Counts.{Counts}
use Rattle.program_meaning.specs.State.{by_fault, by_limit}
use Rattle.program_meaning.specs.Results.{why_text}
use Rattle.stack_code.specs.CodeView.{CodeView, statement_view}
use Rattle.joined_rows.specs.declared.outcome.Outcome.{Outcome}
use Rattle.joined_rows.specs.declared.outcome.Outcome.TheVariants as outcome
use Rattle.stack_machine.specs.Runs.{Shown}
use Rattle.algolw_meaning.specs.Meaning.{counts_of}
use Rattle.algolw_meaning.specs.Running.{counted_lines, lines}
use Rattle.algolw_meaning.specs.Texts.{sum_line}
use Rattle.algolw_meaning.specs.declared.ending.Ending.{Ending}
use Rattle.algolw_meaning.specs.declared.ending.Ending.TheVariants as ending

abbrev pub ending_of : Outcome → Ending
ending_of outcome.Normal = ending.Normal
ending_of (outcome.Faulted f k) = ending.Fault
ending_of (outcome.Limited l k) = ending.Limit

-- how the run ended, and in which statement
abbrev pub ending_text : CodeView → Outcome → List ℕ
ending_text c outcome.Normal = codes "ENDED NORMALLY"
ending_text c (outcome.Faulted f k) = why_text (by_fault f) (statement_view c.given k)
ending_text c (outcome.Limited l k) = why_text (by_limit l) (statement_view c.given k)

-- the dump of a run that didn't end normally
abbrev pub dump_section : Outcome → List (List ℕ) → List (List ℕ)
dump_section outcome.Normal dump = []
dump_section o dump = codes "POST-MORTEM" ∷ dump

-- what the run used
abbrev pub used : JobView → Shown → Counts
used job d = counts_of job.cards d.steps (length d.lines)

-- the source with the counts of what was begun, what was printed, how the run ended, the dump, and what was used
abbrev pub section : JobView → CodeView → (begun : List Place) → Outcome → Shown → List ℕ
section job c begun o d = lines (counted_lines c.given.statements begun 1 job.deck ++ (codes "OUTPUT" ∷ d.lines ++ (ending_text c o ∷ dump_section o d.dump))) ++ sum_line (used job d)
