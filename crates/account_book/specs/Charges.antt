-- What a job costs.
use Rattle.std.specs.Prelude.{ℕ, ◌+◌, ◌*◌, ◌/◌}
use Rattle.account_book.specs.declared.charges.Counts.{Counts}
use Rattle.deck_reader.specs.JobView.{JobView}

-- one for each card, one for each hundred steps begun, and two for each line
abbrev pub cost : ℕ → ℕ → ℕ → ℕ
cost cards steps lines = cards + (steps + 99) / 100 + 2 * lines

-- what a job costs that used this much
abbrev pub charge : Counts → ℕ
charge counts = cost counts.cards counts.steps counts.lines

-- what a job may cost, by its limits
abbrev pub reserve : JobView → ℕ
reserve job = cost job.cards job.steps job.lines
