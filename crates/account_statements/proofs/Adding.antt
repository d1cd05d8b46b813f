-- A statement with a job more.
use Rattle.std.proofs.Common.{◌≡◌, ℕ, ◌+◌, ◌-◌, ◌&&◌, Bool, true, false, cond, nat_le, List, [], ◌∷◌, ◌++◌, Option, Some, None, length, take, flat_map, Result, Ok, Err, OnOk, refl, sym, ap, subst, ◌∙◌, append_assoc, append-nil}
use Rattle.std.specs.List.{enumerate_from}
use Rattle.std.proofs.lemmas.List.{length-append}
use Rattle.std.proofs.Math.Seq.{take-append_seam}
use Rattle.deck_reader.specs.declared.batch.Flaw.{Flaw}
use Rattle.deck_reader.specs.JobView.{JobView}
use Rattle.account_book.specs.Charges.{charge, reserve}
use Rattle.account_book.specs.OwnJobs.{as_own}
use Rattle.account_book.specs.Places.{account_by, after}
use Rattle.account_book.specs.declared.charges.Counts.{Counts}
use Rattle.account_book.specs.declared.decision.Decision.{Decision}
use Rattle.account_book.specs.declared.decision.Decision.TheVariants.{Refused, Charged}
use Rattle.algolw_meaning.specs.Charging.{decision_at, decision_by}
use Rattle.algolw_meaning.specs.Running.{job_result}
use Rattle.account_statements.specs.Statement.{balance_behind, decision_line, job_line, job_lines, opening_line}
use Rattle.account_statements.specs.Standing.{IsStatement, StatementView, left_by, with_job}
use Rattle.account_statements.proofs.Balances.{more_behind}

-- ---- lines

-- the lines of these jobs, behind those
abbrev lines_behind : ℕ → List JobView → List JobView → List ℕ
lines_behind opening earlier [] = []
lines_behind opening earlier (job ∷ jobs) = job_line opening earlier job ++ lines_behind opening (earlier ++ job ∷ []) jobs

lines_from : (opening : ℕ) (earlier jobs : List JobView)
    → lines_behind opening earlier jobs ≡ flat_map (λ p. job_line opening (take p.0 (earlier ++ jobs)) p.1) (enumerate_from (length earlier) jobs)
lines_from opening earlier [] = refl
lines_from opening earlier (job ∷ jobs) =
    let one_more : length (earlier ++ job ∷ []) ≡ length earlier + 1 = length-append earlier (job ∷ []) in
    ap (λ (text : List ℕ). text ++ lines_behind opening (earlier ++ job ∷ []) jobs)
    (ap (λ (xs : List JobView). job_line opening xs job) (sym (take-append_seam earlier (job ∷ jobs))))
    ∙ ap (λ (text : List ℕ). job_line opening (take (length earlier) (earlier ++ job ∷ jobs)) job ++ text)
    (lines_from opening (earlier ++ job ∷ []) jobs
    ∙ ap (λ (xs : List JobView). flat_map (λ p. job_line opening (take p.0 xs) p.1) (enumerate_from (length (earlier ++ job ∷ [])) jobs)) (append_assoc earlier (job ∷ []) jobs)
    ∙ ap (λ (n : ℕ). flat_map (λ p. job_line opening (take p.0 (earlier ++ job ∷ jobs)) p.1) (enumerate_from n jobs)) one_more)

one_behind : (opening : ℕ) (earlier jobs : List JobView) (job : JobView) → lines_behind opening earlier (jobs ++ job ∷ []) ≡ lines_behind opening earlier jobs ++ job_line opening (earlier ++ jobs) job
one_behind opening earlier [] job = append-nil (job_line opening earlier job) ∙ ap (λ (xs : List JobView). job_line opening xs job) (sym (append-nil earlier))
one_behind opening earlier (first ∷ jobs) job =
    ap (λ (text : List ℕ). job_line opening earlier first ++ text)
    (one_behind opening (earlier ++ first ∷ []) jobs job
    ∙ ap (λ (xs : List JobView). lines_behind opening (earlier ++ first ∷ []) jobs ++ job_line opening xs job) (append_assoc earlier (first ∷ []) jobs))
    ∙ sym (append_assoc (job_line opening earlier first) (lines_behind opening (earlier ++ first ∷ []) jobs) (job_line opening (earlier ++ first ∷ jobs) job))

lines_more : (opening : ℕ) (jobs : List JobView) (job : JobView) → job_lines opening (jobs ++ job ∷ []) ≡ job_lines opening jobs ++ job_line opening jobs job
lines_more opening jobs job =
    sym (lines_from opening [] (jobs ++ job ∷ [])) ∙ one_behind opening [] jobs job
    ∙ ap (λ (text : List ℕ). text ++ job_line opening jobs job) (lines_from opening [] jobs)

-- ---- balances

left_where : (b : Bool) (most balance : ℕ) (counts : Counts) → left_by balance (cond b (Charged counts) (Refused most balance)) ≡ cond (true && b) (balance - charge counts) balance
left_where true most balance counts = refl
left_where false most balance counts = refl

left_is : (flaw : Option Flaw) (most balance : ℕ) (counts : Counts)
    → left_by balance (decision_by flaw (nat_le most balance) most balance counts) ≡ after 0 balance (record { account = account_by flaw (Some 0); reserve = most }, charge counts)
left_is (Some flaw) most balance counts = refl
left_is None most balance counts = left_where (nat_le most balance) most balance counts

-- what the decision on a job leaves is the balance behind it
balance_more : (opening number : ℕ) (jobs : List JobView) (job : JobView)
    → balance_behind opening (jobs ++ as_own number job ∷ []) ≡ left_by (balance_behind opening jobs) (decision_at (opening ∷ []) jobs (as_own number job))
balance_more opening number jobs job =
    more_behind (opening ∷ []) 0 jobs (as_own number job)
    ∙ sym (left_is job.flaw (reserve job) (balance_behind opening jobs) (job_result (as_own number job)).counts)

-- ---- the statement

-- the statement with a job more
pub added : (s : StatementView) (job : JobView) (decision : Decision) (name : List ℕ) (opening : ℕ) (jobs : List JobView) → IsStatement s name opening jobs
    → decision ≡ decision_at (opening ∷ []) jobs (as_own (length jobs + 1) job) → IsStatement (with_job s job decision) name opening (jobs ++ as_own (length jobs + 1) job ∷ [])
added s job decision name opening jobs stands is =
    let number : ℕ = length jobs + 1 in
    let own : JobView = as_own number job in
    record {
      text_is =
          let same : decision_line (s.count + 1) job.name s.balance decision ≡ job_line opening jobs own =
          ap (λ (n : ℕ). decision_line (n + 1) job.name s.balance decision) stands.count_is
          ∙ ap (λ (b : ℕ). decision_line number job.name b decision) stands.balance_is
          ∙ ap (decision_line number job.name (balance_behind opening jobs)) is in
          ap (λ (t : List ℕ). t ++ decision_line (s.count + 1) job.name s.balance decision) stands.text_is
          ∙ append_assoc (opening_line name opening) (job_lines opening jobs) (decision_line (s.count + 1) job.name s.balance decision)
          ∙ ap (λ (l : List ℕ). opening_line name opening ++ (job_lines opening jobs ++ l)) same
          ∙ ap (λ (l : List ℕ). opening_line name opening ++ l) (sym (lines_more opening jobs own));
      count_is = ap (λ (n : ℕ). n + 1) stands.count_is ∙ sym (length-append jobs (own ∷ []));
      balance_is =
          ap (left_by s.balance) is
          ∙ ap (λ (b : ℕ). left_by b (decision_at (opening ∷ []) jobs own)) stands.balance_is
          ∙ sym (balance_more opening number jobs job);
    }

-- what follows from what holds at a value
pub if_ok : {T E P Q : Type 0} (r : Result T E) → OnOk r P → (P → Q) → OnOk r Q
if_ok (Ok x) holds more = more holds
if_ok (Err e) holds more = tt

-- a statement that is another is the statement of the same
pub subst_statement : {new s : StatementView} {name : List ℕ} {opening : ℕ} {jobs : List JobView} → new ≡ s → IsStatement s name opening jobs → IsStatement new name opening jobs
subst_statement {new} {s} {name} {opening} {jobs} same stands = subst (λ (v : StatementView). IsStatement v name opening jobs) (sym same) stands
