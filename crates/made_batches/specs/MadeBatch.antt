-- The batch that is made from a seed.
use Rattle.std.specs.Prelude.{ℕ, ◌+◌, ◌-◌, ◌*◌, ◌%◌, List, [], ◌∷◌, ◌++◌, codes, decimal, map}
use Rattle.std.specs.List.{flat_map, range_with_len}
use Rattle.made_batches.specs.Decks.{cards_of, deck_by, filled, in_lines}
use Rattle.made_batches.specs.Draws.{draw}

-- the cards that open the accounts
abbrev pub account_cards : List (List ℕ)
account_cards = codes "%ACCOUNT M0 3000" ∷ codes "%ACCOUNT M1 3000" ∷ codes "%ACCOUNT M2 3000" ∷ codes "%ACCOUNT M3 3000" ∷ []

-- the card that begins a job
abbrev pub head_card : ℕ → List ℕ
head_card job = codes "%JOB J" ++ (decimal job ++ (codes ",M" ++ (decimal (job % 4) ++ codes ",STEPS=5000,LINES=5")))

-- the number in a deck, by a draw
abbrev pub number_by : ℕ → ℕ
number_by draw = draw % 50 + 1

-- the cards of a job, counted from 1, that these draws give
abbrev pub job_by : ℕ → ℕ → ℕ → List (List ℕ)
job_by job first second = head_card job ∷ map (filled (number_by second)) (cards_of (deck_by first))

-- the cards of a job: each job makes two draws
abbrev pub job_cards : ℕ → ℕ → List (List ℕ)
job_cards seed job = job_by job (draw seed (2 * job - 1)) (draw seed (2 * job))

-- the cards of the batch
abbrev pub made_cards : ℕ → ℕ → List (List ℕ)
made_cards seed jobs = account_cards ++ flat_map (job_cards seed) (range_with_len 1 jobs)

abbrev pub made_batch : ℕ → ℕ → List ℕ
made_batch seed jobs = in_lines (made_cards seed jobs)
