-- How often statements were begun, by their numbers and by the cards on which they begin.
use Rattle.std.specs.Prelude.{◌≡◌, ℕ, ◌+◌, ◌<◌, ◌≤◌, List, [], ◌∷◌, map, length, slice_get, slice_index_or, Option, Some, None, IfSome}
use Rattle.value_ops.specs.declared.places.Place.{Place}
use Rattle.post_mortem.specs.Source.{source_text}
use Rattle.algolw_typing.specs.ProgramView.{numbered}
use Rattle.program_meaning.specs.Results.{begun_at}
use Rattle.machine_rows.specs.Seen.{times}
use Rattle.algolw_meaning.specs.Running.{count_of, statement_on}
use Rattle.job_runner.specs.declared.source.First.{First}

-- Each statement has the count of how often its number is among those of the statements begun.
pub record IsCounted (statements : List Place) (counts : List ℕ) (begun : List Place) : Type 0 where
  pub numbers : List ℕ
  pub are : map (numbered statements) numbers ≡ begun
  pub every : length counts ≡ length statements
  pub counted : (k : ℕ) → k < length counts → slice_get counts k ≡ Some (times k numbers)

-- no more often than a job may take steps
abbrev pub IsWithinSteps : List Place → Type 0
IsWithinSteps begun = (statement : Place) → begun_at statement begun ≤ 10000000

-- ---- the first statement on each card, by the card's number

abbrev pub first_on : List (Option First) → ℕ → Option First
first_on firsts card = slice_index_or firsts card None

abbrev pub count_beside : Option First → Option ℕ
count_beside None = None
count_beside (Some first) = Some first.count

-- the cards from this number on, each with the count of the first statement on it
abbrev pub lines_beside : List (Option First) → ℕ → List (List ℕ) → List (List ℕ)
lines_beside firsts number [] = []
lines_beside firsts number (card ∷ cards) = source_text card number (count_beside (first_on firsts number)) ∷ lines_beside firsts (number + 1) cards

-- no count is more than a job may take steps
abbrev pub AreFew : List (Option First) → Type 0
AreFew firsts = (card : ℕ) → IfSome (first_on firsts card) (λ first. first.count ≤ 10000000)

-- each of so many cards has the count of the first statement on it, or none
pub record HasCounts (statements begun : List Place) (cards : ℕ) (firsts : List (Option First)) : Type 0 where
  pub every : length firsts ≡ cards + 1
  pub counts : (k : ℕ) → k < cards → count_beside (first_on firsts (k + 1)) ≡ count_of begun (statement_on (k + 1) statements)
