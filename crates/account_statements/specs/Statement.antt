-- The statement of an account: what became of each of its jobs, and what was left.
use Rattle.std.specs.Prelude.{ℕ, ◌-◌, List, [], ◌∷◌, ◌++◌, codes, decimal, flat_map, map, slice_index, take, Option, Some, None}
use Rattle.std.specs.List.{enumerate_from}
use Rattle.deck_reader.specs.declared.batch.Batch.{Batch}
use Rattle.deck_reader.specs.Batch.{account_of}
use Rattle.deck_reader.specs.Flaws.{flaw_number}
use Rattle.deck_reader.specs.JobView.{JobView}
use Rattle.account_book.specs.BookView.{openings_of}
use Rattle.account_book.specs.Charges.{charge}
use Rattle.account_book.specs.OwnJobs.{own_jobs}
use Rattle.account_book.specs.Places.{place_balance}
use Rattle.account_book.specs.declared.charges.Counts.{Counts}
use Rattle.account_book.specs.declared.decision.Decision.{Decision}
use Rattle.account_book.specs.declared.decision.Decision.TheVariants.{Flawed, Refused, Charged}
use Rattle.algolw_meaning.specs.Charging.{charged, decision_at}
use Rattle.algolw_meaning.specs.Texts.{line}

-- what a job used and cost, and what that left of a balance
abbrev pub charge_text : ℕ → Counts → List ℕ
charge_text balance counts =
    codes " CARDS " ++ decimal counts.cards
    ++ codes " STEPS " ++ decimal counts.steps
    ++ codes " LINES " ++ decimal counts.lines
    ++ codes " CHARGE " ++ decimal (charge counts)
    ++ codes " BALANCE " ++ decimal (balance - charge counts)

-- what became of a job where this was the balance, behind the job's name
abbrev pub outcome_text : ℕ → Decision → List ℕ
outcome_text balance (Flawed flaw) = codes " REFUSED " ++ decimal (flaw_number flaw)
outcome_text balance (Refused reserve left) = codes " REFUSED: RESERVE " ++ decimal reserve ++ codes ", BALANCE " ++ decimal left
outcome_text balance (Charged counts) = charge_text balance counts

-- the line of a job with this number and name
abbrev pub decision_line : ℕ → List ℕ → ℕ → Decision → List ℕ
decision_line number name balance decision = line (decimal number ++ codes " " ++ name ++ outcome_text balance decision)

-- the balance behind these jobs, which are all on the one account
abbrev pub balance_behind : ℕ → List JobView → ℕ
balance_behind opening jobs = place_balance (opening ∷ []) (map charged jobs) 0

-- the line of a job at its place, behind these jobs of its account
abbrev pub job_line : ℕ → List JobView → JobView → List ℕ
job_line opening earlier job = decision_line job.number job.name (balance_behind opening earlier) (decision_at (opening ∷ []) earlier job)

-- the line of each job at its place
abbrev pub job_lines : ℕ → List JobView → List ℕ
job_lines opening jobs = flat_map (λ p. job_line opening (take p.0 jobs) p.1) (enumerate_from 0 jobs)

abbrev pub opening_line : List ℕ → ℕ → List ℕ
opening_line name opening = line (codes "STATEMENT " ++ name ++ codes " OPENING " ++ decimal opening)

abbrev pub balance_line : ℕ → List ℕ
balance_line balance = line (codes "CLOSING " ++ decimal balance)

-- the statement of an account with this name and opening, whose jobs alone are these, numbered from 1, with account 0
abbrev pub statement : List ℕ → ℕ → List JobView → List ℕ
statement name opening jobs = opening_line name opening ++ job_lines opening jobs ++ balance_line (balance_behind opening jobs)

-- the text where no account has the name
abbrev pub no_account : List ℕ → List ℕ
no_account name = line (codes "STATEMENT " ++ name ++ codes ": NO ACCOUNT")

abbrev pub statement_by : List ℕ → Batch → Option ℕ → List ℕ
statement_by name b None = no_account name
statement_by name b (Some account) = statement name (slice_index (openings_of b.accounts) account) (own_jobs account b.jobs)

-- the statement of the account with this name in a batch
abbrev pub statement_in : List ℕ → Batch → List ℕ
statement_in name b = statement_by name b (account_of b.accounts name)
