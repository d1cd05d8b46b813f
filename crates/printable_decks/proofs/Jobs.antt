-- The programs of jobs print texts.
use Rattle.std.proofs.Common.{◌≡◌, ℕ, List, [], ◌∷◌, All, true, false, sym, subst, Option, Some, None}
use Rattle.std.specs.Prelude.{⊤}
use Rattle.deck_reader.specs.JobView.{JobView}
use Rattle.algolw_tree.specs.Tree as tree
use Rattle.algolw_tree.specs.Libraries.{composed, wrapped}
use Rattle.algolw_typing.specs.Kept.{NothingForgotten}
use Rattle.algolw_typing.specs.Programs.{program_of}
use Rattle.program_meaning.specs.Translating.{program_phrase}
use Rattle.algolw_meaning.specs.DeckDiagnostics.{HasProgram, HasLibrary, JobHasProgram}
use Rattle.algolw_meaning.specs.Meaning.{job_library}
use Rattle.algolw_meaning.specs.Running.{setting_of}
use Rattle.printed_lines.specs.Texts.{IsText}
use Rattle.printed_lines.proofs.Runs.{runs_print_texts}
use Rattle.printable_decks.specs.Laws.{CardsHold, JobHolds, JobsPrintTexts}
use Rattle.printable_programs.proofs.Trees.{TreeHolds}
use Rattle.printable_programs.proofs.Tokens.{tokens_hold, wrapped_hold}
use Rattle.printable_programs.proofs.Language.{program_holds}
use Rattle.printable_programs.proofs.Programs.{program_texts}

deck_tree : (deck : List (List ℕ)) (x : tree.Phrase) → All IsText deck → HasProgram deck x → TreeHolds x
deck_tree deck x h (tokens, are, answer) = program_holds tokens x None answer.spelled (tokens_hold deck tokens h are)

library_tree : (cards : List (List ℕ)) (x : tree.Phrase) → All IsText cards → HasLibrary cards x → TreeHolds x
library_tree cards x h (tokens, are, answer, is) = program_holds (wrapped tokens) x None answer.spelled (wrapped_hold tokens (tokens_hold cards tokens h are))

composed_holds : (library deck : tree.Phrase) → TreeHolds library → TreeHolds deck → TreeHolds (composed library deck)
composed_holds (tree.At p f (tree.Block decls items)) deck h k = (h.0, ((tt, k), tt))
composed_holds (tree.At p f k) deck h l = h

job_tree : (library : Option (List (List ℕ))) (deck : List (List ℕ)) (x : tree.Phrase) → CardsHold library → All IsText deck → JobHasProgram library deck x → TreeHolds x
job_tree None deck x h k p = deck_tree deck x k p
job_tree (Some library) deck x h k (l, d, p, q, e) = subst TreeHolds (sym e) (composed_holds l d (library_tree library l h p) (deck_tree deck d k q))

pub jobs_print_texts : NothingForgotten → JobsPrintTexts
jobs_print_texts kept job h x p = runs_print_texts (setting_of job) (program_phrase (program_of x)) (program_texts kept x (job_tree (job_library job) job.deck x h.library h.deck p)) h.data_cards
