-- Rows of decks, each with what its program gives when it is run.
use Rattle.std.specs.Prelude.{◌≡◌, ℕ, zero, suc, List, [], ◌++◌, map, replicate, codes}
use Rattle.algolw_typing.specs.Programs.{program_of}
use Rattle.program_meaning.specs.Translating.{program_phrase}
use Rattle.program_meaning.specs.State.{Outcome, Setting, Given}
use Rattle.program_meaning.specs.Copying.{Closed}
use Rattle.program_meaning.specs.Results.{outcome, state_of, ending_text, printed_lines, dump_of}
use Rattle.algolw_meaning.specs.DeckDiagnostics.{Deck, IsProgram, deck_of}

-- a deck, its data and its limits
pub record Job : Type 0 where
  pub deck : List (List ℕ)
  pub data_cards : List (List ℕ)
  pub steps : ℕ
  pub lines : ℕ

-- how a run ended, its steps, the lines that it printed, and those of its dump
pub record Seen : Type 0 where
  pub ending : List ℕ
  pub steps : ℕ
  pub lines : List (List ℕ)
  pub dump : List (List ℕ)

abbrev pub setting : Job → Setting
setting job = record { steps = job.steps; lines = job.lines; cards = job.data_cards }

abbrev pub seen : Setting → Outcome Closed Given → Seen
seen set o = record { ending = ending_text o; steps = (state_of o).steps; lines = printed_lines set (state_of o); dump = dump_of o }

abbrev pub not_run : Seen
not_run = record { ending = []; steps = 0; lines = []; dump = [] }

abbrev pub seen_of_deck : Setting → Deck → Seen
seen_of_deck set (IsProgram x) = seen set (outcome set (program_phrase (program_of x)))
seen_of_deck set d = not_run

abbrev pub Row : Type 0
Row = Job × Seen

-- each job of a table gives exactly this
abbrev pub AllGive : List Row → Type 0
AllGive rows = map (λ (r : Row). seen_of_deck (setting r.0) (deck_of r.0.deck)) rows ≡ map (λ (r : Row). r.1) rows

-- a deck without data, with 10,000 steps and 100 lines
abbrev pub plain : List (List ℕ) → Job
plain deck = record { deck = deck; data_cards = []; steps = 10000; lines = 100 }

-- the same with data
abbrev pub fed : List (List ℕ) → List (List ℕ) → Job
fed cards deck = record { deck = deck; data_cards = cards; steps = 10000; lines = 100 }

-- a deck that may print so many lines
abbrev pub printing : ℕ → List (List ℕ) → Job
printing lines deck = record { deck = deck; data_cards = []; steps = 10000; lines = lines }

-- a deck that may take so many steps
abbrev pub stepping : ℕ → List (List ℕ) → Job
stepping steps deck = record { deck = deck; data_cards = []; steps = steps; lines = 100 }

-- a deck with data that may take so many steps
abbrev pub fed_stepping : List (List ℕ) → ℕ → List (List ℕ) → Job
fed_stepping cards steps deck = record { deck = deck; data_cards = cards; steps = steps; lines = 100 }

-- it ended normally after these steps, and printed these lines
abbrev pub ended : ℕ → List (List ℕ) → Seen
ended steps lines = record { ending = codes "ENDED NORMALLY"; steps = steps; lines = lines; dump = [] }

-- it was stopped so, after these steps and with these lines and this dump
abbrev pub stopped : List ℕ → ℕ → List (List ℕ) → List (List ℕ) → Seen
stopped ending steps lines dump = record { ending = ending; steps = steps; lines = lines; dump = dump }

-- blanks before a text
abbrev pub spaced : ℕ → List ℕ → List ℕ
spaced n text = replicate n 32 ++ text

-- lines so many times
abbrev pub times : ℕ → List (List ℕ) → List (List ℕ)
times zero lines = []
times (suc n) lines = lines ++ times n lines
