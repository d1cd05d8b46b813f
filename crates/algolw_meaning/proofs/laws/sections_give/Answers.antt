use Rattle.std.specs.Prelude.{refl}
use Rattle.std.specs.Fmt.{digits}
use Rattle.value_ops.specs.Diagnostics.{diagnostic_texts}
use Rattle.algolw_meaning.specs.DeckDiagnostics.{deck_of, job_deck, job_diagnostics, library_of}
use Rattle.algolw_meaning.specs.SectionDecks.{SectionsGive}
use Rattle.algolw_meaning.specs.Texts.{diagnostic_head}
use Rattle.algolw_meaning.proofs.laws.sections_give.Goals as goal

sections : SectionsGive
unfolding deck_of job_deck job_diagnostics library_of diagnostic_head diagnostic_texts digits
sections = record { sum = refl; fault = refl; limit = refl; diagnosed = refl }

pub returns : goal.returns
returns c = sections
