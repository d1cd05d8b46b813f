-- What a statement that is being made stands for.
use Rattle.std.specs.Prelude.{ℕ, ◌+◌, ◌-◌, ◌≡◌, List, [], ◌∷◌, ◌++◌, if◌then◌else◌, length}
use Rattle.deck_reader.specs.JobView.{JobView}
use Rattle.account_book.specs.Charges.{charge}
use Rattle.account_book.specs.OwnJobs.{is_of}
use Rattle.account_book.specs.declared.decision.Decision.{Decision}
use Rattle.account_book.specs.declared.decision.Decision.TheVariants.{Flawed, Refused, Charged}
use Rattle.account_statements.specs.Statement.{balance_behind, decision_line, job_lines, opening_line}

-- the text so far, how many jobs are in it, and what they left
pub record StatementView : Type 0 where
  pub text : List ℕ
  pub count : ℕ
  pub balance : ℕ

-- it is the statement of an account with this name and opening, up to these jobs
pub record IsStatement (s : StatementView) (name : List ℕ) (opening : ℕ) (jobs : List JobView) : Type 0 where
  pub text_is : s.text ≡ opening_line name opening ++ job_lines opening jobs
  pub count_is : s.count ≡ length jobs
  pub balance_is : s.balance ≡ balance_behind opening jobs

-- what a decision leaves of a balance
abbrev pub left_by : ℕ → Decision → ℕ
left_by balance (Flawed flaw) = balance
left_by balance (Refused reserve left) = balance
left_by balance (Charged counts) = balance - charge counts

-- a statement with a job more of which this became
abbrev pub with_job : StatementView → JobView → Decision → StatementView
with_job s job decision = record {
  text = s.text ++ decision_line (s.count + 1) job.name s.balance decision;
  count = s.count + 1;
  balance = left_by s.balance decision;
}

-- a statement with those of these jobs more that are the account's, of which this became
abbrev pub with_own : ℕ → StatementView → List JobView → List Decision → StatementView
with_own account s [] decisions = s
with_own account s (job ∷ jobs) [] = s
with_own account s (job ∷ jobs) (decision ∷ decisions) =
    with_own account (if is_of account job then with_job s job decision else s) jobs decisions
