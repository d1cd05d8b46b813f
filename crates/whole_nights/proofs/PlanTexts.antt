-- The text of a plan, as it is filed and as it is read.
use Rattle.std.proofs.Common.{◌≡◌, ℕ, ◌+◌, List, [], ◌∷◌, ◌++◌, Option, Some, None, map, flat_map, codes, decimal, refl, sym, ap, ◌∙◌, append_assoc}
use Rattle.deck_reader.specs.declared.batch.Account.{Account}
use Rattle.deck_reader.specs.declared.batch.Flaw.{Flaw}
use Rattle.deck_reader.specs.Flaws.{flaw_number}
use Rattle.deck_reader.specs.JobView.{JobView}
use Rattle.night_merge.specs.declared.plan.Entry.{Entry}
use Rattle.night_merge.specs.declared.plan.Line.TheVariants.{Opened}
use Rattle.night_merge.specs.Plan.{accounts_text, entries_text, fed, windows_text}
use Rattle.night_shares.specs.Plan.{account_row, chain_row, job_row, last_row, row, unpaid_row, windows_rows}
use Rattle.whole_nights.specs.Plans.{PlansAreOne, entries_by, entries_of}

-- ---- accounts

account_same : (account : Account) → fed (Opened account) ≡ account_row account
account_same account =
    let front = codes "ACCOUNT " ++ account.name in
    sym (ap (λ (t : List ℕ). t ++ 10 ∷ []) (append_assoc front (codes " ") (decimal account.opening) ∙ append_assoc (codes "ACCOUNT ") account.name (32 ∷ decimal account.opening)))

accounts_same : (accounts : List Account) → accounts_text accounts ≡ flat_map account_row accounts
accounts_same [] = refl
accounts_same (account ∷ accounts) = let first = account_same account in let rest = accounts_same accounts in λ i. first i ++ rest i

-- ---- jobs

-- the line of a job, by its flaw and its account
abbrev line_by : ℕ → JobView → Option Flaw → Option ℕ → List ℕ
line_by chains job flaw None = unpaid_row flaw job
line_by chains job flaw (Some account) = chain_row chains account

line_is : (chains : ℕ) (job : JobView) (account : Option ℕ) → job.account ≡ account → line_by chains job job.flaw job.account ≡ job_row chains job
line_is chains job None is = ap (line_by chains job job.flaw) is ∙ sym (ap (λ (a : Option ℕ). row_of a) is)
  where
    row_of : Option ℕ → List ℕ
    row_of a = line_by chains job job.flaw a
line_is chains job (Some account) is = refl

refused_same : (flaw : Flaw) (name account_name : List ℕ) → codes "REFUSED " ++ (decimal (flaw_number flaw) ++ 32 ∷ (name ++ 32 ∷ account_name))
    ≡ codes "REFUSED " ++ decimal (flaw_number flaw) ++ codes " " ++ name ++ codes " " ++ account_name
refused_same flaw name account_name =
    let front = codes "REFUSED " ++ decimal (flaw_number flaw) in
    sym (
    append_assoc (front ++ codes " " ++ name) (codes " ") account_name
    ∙ append_assoc (front ++ codes " ") name (32 ∷ account_name)
    ∙ append_assoc front (codes " ") (name ++ 32 ∷ account_name)
    ∙ append_assoc (codes "REFUSED ") (decimal (flaw_number flaw)) (32 ∷ (name ++ 32 ∷ account_name)))

job_same : (chains : ℕ) (job : JobView) (flaw : Option Flaw) (account : Option ℕ) (rest : List Entry) → entries_text (entries_by chains job flaw account ++ rest) ≡ line_by chains job flaw account ++ entries_text rest
job_same chains job flaw (Some account) rest = refl
job_same chains job (Some flaw) None rest = ap (λ (t : List ℕ). row t ++ entries_text rest) (refused_same flaw job.name job.account_name)
job_same chains job None None rest = refl

pub jobs_same : (chains : ℕ) (jobs : List JobView) → entries_text (entries_of chains jobs) ≡ flat_map (job_row chains) jobs
jobs_same chains [] = refl
jobs_same chains (job ∷ jobs) =
    let first : line_by chains job job.flaw job.account ≡ job_row chains job = line_is chains job job.account refl in
    let rest = jobs_same chains jobs in
    job_same chains job job.flaw job.account (entries_of chains jobs) ∙ (λ i. first i ++ rest i)

-- ---- the whole

windows_same : (chains number : ℕ) (windows : List (List JobView)) → windows_text number (map (entries_of chains) windows) ≡ windows_rows chains number windows
windows_same chains number [] = refl
windows_same chains number (jobs ∷ windows) =
    let title = row (codes "WINDOW " ++ decimal number) in
    let here = jobs_same chains jobs in
    let rest = windows_same chains (number + 1) windows in
    (λ i. title ++ (here i ++ rest i)) ∙ sym (append_assoc title (flat_map (job_row chains) jobs) (windows_rows chains (number + 1) windows))

pub plans_are_one : PlansAreOne
plans_are_one chains accounts windows stray =
    let title = row (codes "NIGHT 1 CHAINS " ++ decimal chains) in
    let opened = flat_map account_row accounts in
    let filed = windows_rows chains 1 windows in
    let first = accounts_same accounts in
    let rest = windows_same chains 1 windows in
    (λ i. title ++ (first i ++ (rest i ++ last_row stray)))
    ∙ sym (append_assoc title opened (filed ++ last_row stray))
    ∙ sym (append_assoc (title ++ opened) filed (last_row stray))
