-- The result of a job, by the machine to which its program's code comes.
use Rattle.std.specs.Prelude.{ℕ, List, [], ◌∷◌, ◌++◌, length, codes}
use Rattle.value_ops.specs.declared.places.Place.{Place}
use Rattle.deck_reader.specs.JobView.{JobView}
use Rattle.account_book.specs.declared.charges.Counts.{Counts}
use Rattle.stack_code.specs.Code.{Code}
use Rattle.stack_code.specs.Run.{Outcome, normal, stopped, machine_of, printed_lines, ending_text, dump_of}
use Rattle.algolw_meaning.specs.Meaning.{JobResult, counts_of}
use Rattle.algolw_meaning.specs.Running.{counted_lines, lines, setting_of, stopped_by}
use Rattle.algolw_meaning.specs.Texts.{sum_line}
use Rattle.algolw_meaning.specs.declared.ending.Ending.{Ending}
use Rattle.algolw_meaning.specs.declared.ending.Ending.TheVariants as ending

abbrev pub ending_of : Outcome → Ending
ending_of (normal m) = ending.Normal
ending_of (stopped why w m) = stopped_by why

-- the dump of a run that didn't end normally
abbrev pub dump_section : Code → Outcome → List (List ℕ)
dump_section code (normal m) = []
dump_section code o = codes "POST-MORTEM" ∷ dump_of code o

-- what a run used
abbrev pub used : JobView → Outcome → Counts
used job o = counts_of job.cards (machine_of o).steps (length (printed_lines (setting_of job) (machine_of o)))

-- the lines of a section: the source, what was printed, how the run ended, and the dump
abbrev pub run_lines : JobView → List Place → Code → Outcome → List (List ℕ)
run_lines job statements code o = counted_lines statements (machine_of o).begun 1 job.deck ++ (codes "OUTPUT" ∷ printed_lines (setting_of job) (machine_of o) ++ (ending_text o ∷ dump_section code o))

abbrev pub table_result : JobView → List Place → Code → Outcome → JobResult
table_result job statements code o = record { body = lines (run_lines job statements code o) ++ sum_line (used job o); counts = used job o; ending = ending_of o }
