-- What a deck is, alone or with a library round it: a program, or wrong in its tokens or its form; and all its diagnostics.
use Rattle.std.specs.Prelude.{◌≡◌, ◌⊎◌, List, [], ◌∷◌, ℕ, Option, Some, None, true, false}
use Rattle.value_ops.specs.declared.places.Diagnostic.{Diagnostic}
use Rattle.algolw_tree.specs.declared.tokens.Token.{Token}
use Rattle.algolw_tree.specs.Tokens.{AreTokens, IsFault}
use Rattle.algolw_tree.specs.Libraries.{composed, is_library, library_place, moved, wrapped}
use Rattle.algolw_tree.specs.Tree.{Phrase}
use Rattle.algolw_tree.specs.Programs.{Answer, Program, IsAnswer}
use Rattle.algolw_scanner.specs.Decks.{Reading, AllTokens, FirstFault, scanned}
use Rattle.algolw_grammar.specs.Reading.{read_names, read_type, read_group, read_class, read_passing, read_formal_end, read_formal, read_formals, read_perhaps, read_bound, read_procedure, read_decl_end, read_decl, read_item, read_block, read_actual, read_list, read_listing, read_literal, read_prim, read_or, read_and, read_adding, read_multiplying, read_shifting, read_shift, read_term, read_signed, read_sum, read_relop, read_relation_end, read_rel, read_neg, read_conj, read_disj, read_assign_end, read_assignment, read_if, read_case_end, read_case, read_for_end, read_for, read_while, read_goto, read_assert, read_phrase, read_negation, read_absolute, readers, read_program_by}
use Rattle.algolw_grammar.specs.Parsing.{parsed, diagnostic_of}
use Rattle.algolw_typing.specs.Faults.{program_faults}

-- what is found of a deck
pub data Deck : Type 0 where
  IsProgram : Phrase → Deck
  IsWrong : Diagnostic → Deck
  NothingFound : Deck

abbrev pub wrong : Option Diagnostic → Deck
wrong None = NothingFound
wrong (Some d) = IsWrong d

abbrev pub answer_deck : Option Answer → Deck
answer_deck None = NothingFound
answer_deck (Some (Program x)) = IsProgram x
answer_deck (Some answer) = wrong (diagnostic_of answer)

abbrev pub reading_deck : Reading → Deck
reading_deck (FirstFault d) = IsWrong d
reading_deck (AllTokens tokens) = answer_deck (parsed tokens)

-- The program that a deck spells, or what is wrong with its tokens, or else with its form.
unfoldable pub deck_of : List (List ℕ) → Deck
unfolding scanned parsed read_names read_type read_group read_class read_passing read_formal_end read_formal read_formals read_perhaps read_bound read_procedure read_decl_end read_decl read_item read_block read_actual read_list read_listing read_literal read_prim read_or read_and read_adding read_multiplying read_shifting read_shift read_term read_signed read_sum read_relop read_relation_end read_rel read_neg read_conj read_disj read_assign_end read_assignment read_if read_case_end read_case read_for_end read_for read_while read_goto read_assert read_phrase read_negation read_absolute readers read_program_by
deck_of cards = reading_deck (scanned cards)

-- ---- with a library

-- 44 where the library spells a program that is no library
abbrev pub library_answer : Option Answer → Deck
library_answer (Some (Program x)) = elim (is_library x) [ true ↦ IsProgram x | false ↦ IsWrong (record { number = 44; place = library_place }) ]
library_answer answer = answer_deck answer

abbrev pub library_reading : Reading → Deck
library_reading (FirstFault d) = IsWrong (moved d)
library_reading (AllTokens tokens) = library_answer (parsed (wrapped tokens))

-- What the cards of a library are: its tree, or what is wrong with its tokens, or else with its form as a program, or else that it is no library.
unfoldable pub library_of : List (List ℕ) → Deck
unfolding scanned parsed read_names read_type read_group read_class read_passing read_formal_end read_formal read_formals read_perhaps read_bound read_procedure read_decl_end read_decl read_item read_block read_actual read_list read_listing read_literal read_prim read_or read_and read_adding read_multiplying read_shifting read_shift read_term read_signed read_sum read_relop read_relation_end read_rel read_neg read_conj read_disj read_assign_end read_assignment read_if read_case_end read_case read_for_end read_for read_while read_goto read_assert read_phrase read_negation read_absolute readers read_program_by
library_of cards = library_reading (scanned cards)

-- the deck's fault, or the program that it makes with the library
abbrev pub composed_deck : Phrase → Deck → Deck
composed_deck library (IsProgram deck) = IsProgram (composed library deck)
composed_deck library deck = deck

abbrev pub behind_library : Deck → Deck → Deck
behind_library (IsProgram library) deck = composed_deck library deck
behind_library library deck = library

-- What a deck is with the cards of its library, where it has one: the library's fault, or else the deck's, or else the program that they make.
unfoldable pub job_deck : Option (List (List ℕ)) → List (List ℕ) → Deck
unfolding library_of deck_of
job_deck None deck = deck_of deck
job_deck (Some library) deck = behind_library (library_of library) (deck_of deck)

abbrev pub diagnostics_found : Deck → List Diagnostic
diagnostics_found (IsProgram x) = program_faults x
diagnostics_found (IsWrong d) = d ∷ []
diagnostics_found NothingFound = []

-- The diagnostics of a deck: that of its tokens alone, or else that of its form alone, or else those of its names and types, in order of place.
unfoldable pub deck_diagnostics : List (List ℕ) → List Diagnostic
unfolding deck_of
deck_diagnostics cards = diagnostics_found (deck_of cards)

-- The diagnostics of a deck with its library: the one fault of the library, or else of the deck's tokens or form, or else those of the names and
-- types of both, in order of place. The deck's places come first.
unfoldable pub job_diagnostics : Option (List (List ℕ)) → List (List ℕ) → List Diagnostic
unfolding job_deck
job_diagnostics library deck = diagnostics_found (job_deck library deck)

-- ---- what this says of a deck

-- The deck has this diagnostic, of its tokens or, where it is a chain of tokens, of its form.
abbrev pub HasFault : List (List ℕ) → Diagnostic → Type 0
HasFault deck d = IsFault deck d ⊎ ((tokens : List Token) × (answer : Answer) × AreTokens deck tokens × IsAnswer tokens answer × (diagnostic_of answer ≡ Some d))

-- The deck's tokens spell this program, within nesting 100.
abbrev pub HasProgram : List (List ℕ) → Phrase → Type 0
HasProgram deck x = (tokens : List Token) × AreTokens deck tokens × IsAnswer tokens (Program x)

abbrev pub IsFound : List (List ℕ) → Deck → Type 0
IsFound deck (IsProgram x) = HasProgram deck x
IsFound deck (IsWrong d) = HasFault deck d
IsFound deck NothingFound = ⊥

-- A deck is the program that its tokens spell, or has one fault of its tokens or form; it is one of these, and only one.
pub record DecksAreRead : Type 0 where
  pub found : (deck : List (List ℕ)) → IsFound deck (deck_of deck)
  pub only : (deck : List (List ℕ)) (d : Deck) → IsFound deck d → d ≡ deck_of deck

-- These are the diagnostic of the deck's tokens or form, alone; or those of the names and types of the program that it spells.
abbrev pub HasDiagnostics : List (List ℕ) → List Diagnostic → Type 0
HasDiagnostics deck found = ((d : Diagnostic) × HasFault deck d × (found ≡ d ∷ [])) ⊎ ((x : Phrase) × HasProgram deck x × (found ≡ program_faults x))

abbrev pub DiagnosticsOfDecks : Type 0
DiagnosticsOfDecks = (deck : List (List ℕ)) → HasDiagnostics deck (deck_diagnostics deck)

-- ---- what this says of a deck with its library

-- The library's tokens, with BEGIN before them and END behind them, spell this program, which is a library.
abbrev pub HasLibrary : List (List ℕ) → Phrase → Type 0
HasLibrary cards x = (tokens : List Token) × AreTokens cards tokens × IsAnswer (wrapped tokens) (Program x) × (is_library x ≡ true)

-- What is wrong with a library: a token, at its moved place; or the form of the program that its tokens are taken for; or this program is no
-- library.
pub data HasLibraryFault (cards : List (List ℕ)) (d : Diagnostic) : Type 0 where
  of_tokens : (e : Diagnostic) → IsFault cards e → d ≡ moved e → HasLibraryFault cards d
  of_form : (tokens : List Token) (answer : Answer) → AreTokens cards tokens → IsAnswer (wrapped tokens) answer → diagnostic_of answer ≡ Some d → HasLibraryFault cards d
  no_library : (tokens : List Token) (x : Phrase) → AreTokens cards tokens → IsAnswer (wrapped tokens) (Program x) → is_library x ≡ false → d ≡ record { number = 44; place = library_place } → HasLibraryFault cards d

abbrev pub IsLibraryFound : List (List ℕ) → Deck → Type 0
IsLibraryFound cards (IsProgram x) = HasLibrary cards x
IsLibraryFound cards (IsWrong d) = HasLibraryFault cards d
IsLibraryFound cards NothingFound = ⊥

-- The deck spells this program; or, with a library, this is the library's block with the deck's program as its one item.
abbrev pub JobHasProgram : Option (List (List ℕ)) → List (List ℕ) → Phrase → Type 0
JobHasProgram None deck x = HasProgram deck x
JobHasProgram (Some library) deck x = (l : Phrase) × (d : Phrase) × HasLibrary library l × HasProgram deck d × (x ≡ composed l d)

-- The deck has this diagnostic of its tokens or form; or, with a library, the library has it, or there is a library and the deck has it.
abbrev pub JobHasFault : Option (List (List ℕ)) → List (List ℕ) → Diagnostic → Type 0
JobHasFault None deck d = HasFault deck d
JobHasFault (Some library) deck d = HasLibraryFault library d ⊎ ((l : Phrase) × HasLibrary library l × HasFault deck d)

abbrev pub IsJobFound : Option (List (List ℕ)) → List (List ℕ) → Deck → Type 0
IsJobFound library deck (IsProgram x) = JobHasProgram library deck x
IsJobFound library deck (IsWrong d) = JobHasFault library deck d
IsJobFound library deck NothingFound = ⊥

-- A deck with its library is one of these, and only one.
pub record JobsAreRead : Type 0 where
  pub found : (library : Option (List (List ℕ))) (deck : List (List ℕ)) → IsJobFound library deck (job_deck library deck)
  pub only : (library : Option (List (List ℕ))) (deck : List (List ℕ)) (d : Deck) → IsJobFound library deck d → d ≡ job_deck library deck

-- These are its one fault of tokens or form; or those of the names and types of its program.
abbrev pub JobHasDiagnostics : Option (List (List ℕ)) → List (List ℕ) → List Diagnostic → Type 0
JobHasDiagnostics library deck found = ((d : Diagnostic) × JobHasFault library deck d × (found ≡ d ∷ [])) ⊎ ((x : Phrase) × JobHasProgram library deck x × (found ≡ program_faults x))

abbrev pub DiagnosticsOfJobs : Type 0
DiagnosticsOfJobs = (library : Option (List (List ℕ))) (deck : List (List ℕ)) → JobHasDiagnostics library deck (job_diagnostics library deck)
