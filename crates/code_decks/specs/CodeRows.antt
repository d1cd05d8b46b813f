-- Rows of decks, each run by the machine: the code of its program gives what the program means.
use Rattle.std.specs.Prelude.{◌≡◌, ℕ, List, [], ◌∷◌, ◌+◌, map, length, Bool, true, false, ◌&&◌, nat_eq}
use Rattle.value_ops.specs.declared.places.Place.{Place}
use Rattle.algolw_typing.specs.Types.{is_place}
use Rattle.algolw_typing.specs.Programs.{program_of}
use Rattle.program_meaning.specs.Phrases.{Phrase}
use Rattle.program_meaning.specs.Translating.{program_phrase}
use Rattle.program_meaning.specs.State as state
use Rattle.program_meaning.specs.State.{Setting, Given}
use Rattle.program_meaning.specs.Copying.{Closed}
use Rattle.program_meaning.specs.Results.{outcome, state_of}
use Rattle.algolw_meaning.specs.DeckDiagnostics.{Deck, IsProgram, deck_of}
use Rattle.algolw_meaning.specs.RunRows as rows
use Rattle.algolw_meaning.specs.RunRows.{Job, Row, Seen, setting}
use Rattle.stack_code.specs.Code.{Code}
use Rattle.stack_code.specs.Run.{Outcome, table_run, machine_of, ending_text, printed_lines, dump_of}
use Rattle.phrase_code.specs.Sizes.{size}
use Rattle.phrase_code.specs.Coding.{program_code}

-- ---- what a run of code gives

abbrev pub seen : Setting → Code → Outcome → Seen
seen set code o = record { ending = ending_text o; steps = (machine_of o).steps; lines = printed_lines set (machine_of o); dump = dump_of code o }

-- ---- sameness, as a test

abbrev pub same_codes : List ℕ → List ℕ → Bool
same_codes [] [] = true
same_codes (x ∷ xs) (y ∷ ys) = nat_eq x y && same_codes xs ys
same_codes xs ys = false

abbrev pub same_lines : List (List ℕ) → List (List ℕ) → Bool
same_lines [] [] = true
same_lines (x ∷ xs) (y ∷ ys) = same_codes x y && same_lines xs ys
same_lines xs ys = false

abbrev pub same_places : List Place → List Place → Bool
same_places [] [] = true
same_places (p ∷ ps) (q ∷ qs) = is_place p q && same_places ps qs
same_places ps qs = false

abbrev pub same_seen : Seen → Seen → Bool
same_seen a b = same_codes a.ending b.ending && (nat_eq a.steps b.steps && (same_lines a.lines b.lines && same_lines a.dump b.dump))

-- ---- rows

-- what is seen of a run of a deck's code; whether it begins the statements that the meaning begins, in their order; and whether the code has as
-- many instructions as is said of the phrase, and one more
pub record Result : Type 0 where
  pub seen : Seen
  pub counts : Bool
  pub sized : Bool

abbrev pub is_sized : Phrase → Code → Bool
is_sized a code = nat_eq (length code.instructions) (size [] a + 1)

abbrev pub result : Setting → Phrase → Code → Outcome → state.Outcome Closed Given → Result
result set a code o meant = record { seen = seen set code o; counts = same_places (machine_of o).begun (state_of meant).begun; sized = is_sized a code }

abbrev pub result_of_phrase : Setting → Phrase → Result
result_of_phrase set a = result set a (program_code a) (table_run set (program_code a)) (outcome set a)

abbrev pub result_of_deck : Setting → Deck → Result
result_of_deck set (IsProgram x) = result_of_phrase set (program_phrase (program_of x))
result_of_deck set d = record { seen = rows.not_run; counts = false; sized = false }

abbrev pub as_stated : Row → Result
as_stated r = record { seen = r.1; counts = true; sized = true }

-- the code of each deck of a table gives exactly what is stated, and begins the statements that the meaning begins
abbrev pub AllRun : List Row → Type 0
AllRun table = map (λ (r : Row). result_of_deck (setting r.0) (deck_of r.0.deck)) table ≡ map as_stated table

-- the same of what is seen alone, where the meaning's run beside it would be too long to compute
abbrev pub seen_of_phrase : Setting → Phrase → Seen
seen_of_phrase set a = seen set (program_code a) (table_run set (program_code a))

abbrev pub seen_of_deck : Setting → Deck → Seen
seen_of_deck set (IsProgram x) = seen_of_phrase set (program_phrase (program_of x))
seen_of_deck set d = rows.not_run

abbrev pub AllSeen : List Row → Type 0
AllSeen table = map (λ (r : Row). seen_of_deck (setting r.0) (deck_of r.0.deck)) table ≡ map (λ (r : Row). r.1) table

-- ---- the same where nothing is stated

abbrev pub agree : Setting → Phrase → Code → Outcome → state.Outcome Closed Given → Bool
agree set a code o meant = same_seen (seen set code o) (rows.seen set meant) && (same_places (machine_of o).begun (state_of meant).begun && is_sized a code)

abbrev pub phrase_agrees : Setting → Phrase → Bool
phrase_agrees set a = agree set a (program_code a) (table_run set (program_code a)) (outcome set a)

-- a deck that is no program agrees with nothing
abbrev pub deck_agrees : Setting → Deck → Bool
deck_agrees set (IsProgram x) = phrase_agrees set (program_phrase (program_of x))
deck_agrees set d = false

-- the code of each deck gives exactly what its program means
abbrev pub AllAgree : List Job → Type 0
AllAgree jobs = map (λ (j : Job). deck_agrees (setting j) (deck_of j.deck)) jobs ≡ map (λ (j : Job). true) jobs
