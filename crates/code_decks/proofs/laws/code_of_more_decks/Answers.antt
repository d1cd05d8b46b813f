use Rattle.std.specs.Prelude.{refl}
use Rattle.std.specs.Fmt.{digits}
use Rattle.algolw_meaning.specs.DeckDiagnostics.{deck_of}
use Rattle.code_decks.specs.CodeRows.{AllAgree}
use Rattle.code_decks.specs.MoreDecks.{jumping_jobs, calling_jobs, faults_jobs, deep_jobs, comparing_jobs, deep_jumps_jobs, stepped_jobs, stepped_jumps_jobs, program_jobs}
use Rattle.code_decks.proofs.laws.code_of_more_decks.Goals as goal

jumping_agree : AllAgree jumping_jobs
unfolding deck_of digits
jumping_agree = refl

calling_agree : AllAgree calling_jobs
unfolding deck_of digits
calling_agree = refl

faults_agree : AllAgree faults_jobs
unfolding deck_of digits
faults_agree = refl

deep_agree : AllAgree deep_jobs
unfolding deck_of digits
deep_agree = refl

comparing_agree : AllAgree comparing_jobs
unfolding deck_of digits
comparing_agree = refl

deep_jumps_agree : AllAgree deep_jumps_jobs
unfolding deck_of digits
deep_jumps_agree = refl

stepped_agree : AllAgree stepped_jobs
unfolding deck_of digits
stepped_agree = refl

stepped_jumps_agree : AllAgree stepped_jumps_jobs
unfolding deck_of digits
stepped_jumps_agree = refl

programs_agree : AllAgree program_jobs
unfolding deck_of digits
programs_agree = refl

pub returns : goal.returns
returns c = record { jumping = jumping_agree; calling = calling_agree; faults = faults_agree; deep = deep_agree; comparing = comparing_agree; deep_jumps = deep_jumps_agree; stepped = stepped_agree; stepped_jumps = stepped_jumps_agree; programs = programs_agree }
