-- Deciding by a table of balances is deciding at a place.
use Rattle.std.proofs.Common.{◌≡◌, ◌≤◌, ℕ, ◌++◌, Bool, true, false, cond, nat_le, List, [], ◌∷◌, Option, Some, None, map, slice_index, refl, sym, ap, ◌∙◌, le_trans}
use Rattle.std.proofs.lemmas.List.{map-append}
use Rattle.std.proofs.lemmas.List.Sums.{fold_push}
use Rattle.deck_reader.specs.declared.batch.Flaw.{Flaw}
use Rattle.deck_reader.specs.JobView.{JobView}
use Rattle.account_book.specs.Charges.{charge, reserve}
use Rattle.account_book.specs.Places.{account_by, balances_behind, claim_of, covers, is_accepted, lowered, place_balance, settled}
use Rattle.account_book.specs.declared.charges.Counts.{Counts}
use Rattle.account_book.proofs.Tables.{table_holds}
use Rattle.algolw_meaning.specs.Running.{job_result}
use Rattle.algolw_meaning.proofs.Within.{job_within}
use Rattle.batch_listing.specs.declared.verdict.Verdict.{Verdict}
use Rattle.batch_listing.specs.declared.verdict.Verdict.TheVariants.{Flawed, Refused, Accepted}
use Rattle.algolw_meaning.specs.Charging.{balance_on, charged, decision, decision_at, decision_by}
use Rattle.batch_listing.specs.Listing.{accepted, body, verdict, verdict_by, section, section_with}
use Rattle.batch_listing.specs.Texts.{title}

-- what a decision does to a table of balances
abbrev pub settled_by : Verdict → List ℕ → ℕ → List ℕ
settled_by (Flawed flaw) balances charge = balances
settled_by (Refused reserve balance) balances charge = balances
settled_by (Accepted account) balances charge = lowered balances (Some account) charge

-- whether a decision is to run the job
abbrev pub is_run : Verdict → Bool
is_run (Flawed flaw) = false
is_run (Refused reserve balance) = false
is_run (Accepted account) = true

-- the account that pays
abbrev pub payer_of : Verdict → ℕ
payer_of (Flawed flaw) = 0
payer_of (Refused reserve balance) = 0
payer_of (Accepted account) = account

-- a balance that covers the reserve of a job covers its charge
pub charge_covered : (job : JobView) (most balance payer account : ℕ) (balances : List ℕ) → most ≡ reserve job → balance ≡ slice_index balances payer → most ≤ balance → Accepted payer ≡ Accepted account
    → charge (job_result job).counts ≤ slice_index balances account
charge_covered job most balance payer account balances is_most is_balance covers is =
    let price = charge (job_result job).counts in
    let within : price ≤ most = rw is_most (job_within job).1 in
    let there : balance ≡ slice_index balances account = is_balance ∙ ap (λ (n : ℕ). slice_index balances n) (ap payer_of is) in
    rw (← there) (le_trans within covers)

settled_if : (covered : Bool) (payer reserve balance charge : ℕ) (balances : List ℕ)
    → settled_by (cond covered (Accepted payer) (Refused reserve balance)) balances charge ≡ cond covered (lowered balances (Some payer) charge) balances
settled_if true payer reserve balance charge balances = refl
settled_if false payer reserve balance charge balances = refl

settled_on : (flaw : Option Flaw) (payer : Option ℕ) (reserve charge : ℕ) (balances : List ℕ)
    → settled_by (verdict_by flaw payer reserve (slice_index balances)) balances charge ≡ settled balances (record { account = account_by flaw payer; reserve = reserve }, charge)
settled_on (Some flaw) payer reserve charge balances = refl
settled_on None None reserve charge balances = refl
settled_on None (Some payer) reserve charge balances = settled_if (nat_le reserve (slice_index balances payer)) payer reserve (slice_index balances payer) charge balances

-- the table behind a job, by what is decided of it
settled_by_decision : (balances : List ℕ) (job : JobView) → settled_by (verdict (slice_index balances) job) balances (charged job).1 ≡ settled balances (charged job)
settled_by_decision balances job = settled_on job.flaw job.account (reserve job) (charged job).1 balances

-- where a job is accepted, the account that pays is lowered by its charge
pub settled_accepted : (balances : List ℕ) (job same : JobView) (account : ℕ) → verdict (slice_index balances) job ≡ Accepted account → same ≡ job
    → lowered balances (Some account) (charge (job_result same).counts) ≡ settled balances (charged job)
settled_accepted balances job same account is equal =
    ap (λ (j : JobView). lowered balances (Some account) (charge (job_result j).counts)) equal
    ∙ sym (ap (λ (d : Verdict). settled_by d balances (charged job).1) is)
    ∙ settled_by_decision balances job

run_if : (covered : Bool) (payer reserve balance : ℕ) → is_run (cond covered (Accepted payer) (Refused reserve balance)) ≡ covered
run_if true payer reserve balance = refl
run_if false payer reserve balance = refl

run_on : (flaw : Option Flaw) (payer : Option ℕ) (reserve : ℕ) (balance : ℕ → ℕ)
    → is_run (verdict_by flaw payer reserve balance) ≡ is_accepted balance (record { account = account_by flaw payer; reserve = reserve })
run_on (Some flaw) payer reserve balance = refl
run_on None None reserve balance = refl
run_on None (Some payer) reserve balance = run_if (nat_le reserve (balance payer)) payer reserve (balance payer)

-- a job is run exactly where it is accepted
pub run_by_decision : (balance : ℕ → ℕ) (job : JobView) → is_run (verdict balance job) ≡ is_accepted balance (claim_of job)
run_by_decision balance job = run_on job.flaw job.account (reserve job) balance

decision_same : (flaw : Option Flaw) (account : Option ℕ) (reserve : ℕ) (b c : ℕ → ℕ) → ((n : ℕ) → b n ≡ c n) → verdict_by flaw account reserve b ≡ verdict_by flaw account reserve c
decision_same (Some flaw) account reserve b c h = refl
decision_same None None reserve b c h = refl
decision_same None (Some account) reserve b c h = ap (λ (n : ℕ). cond (nat_le reserve n) (Accepted account) (Refused reserve n)) (h account)

pub decided_at : (openings balances : List ℕ) (earlier : List JobView) (job : JobView) → balances ≡ balances_behind openings (map charged earlier)
    → verdict (slice_index balances) job ≡ verdict (place_balance openings (map charged earlier)) job
decided_at openings balances earlier job behind =
    decision_same job.flaw job.account (reserve job) (slice_index balances) (place_balance openings (map charged earlier))
    (λ n. ap (λ (bs : List ℕ). slice_index bs n) behind ∙ table_holds openings (map charged earlier) n)

-- a section by the table is the section at its place
pub section_at : (openings balances : List ℕ) (earlier : List JobView) (job : JobView) → balances ≡ balances_behind openings (map charged earlier)
    → section_with (slice_index balances) job ≡ section openings earlier job
section_at openings balances earlier job behind = ap (λ (d : Verdict). title job ++ body d job) (decided_at openings balances earlier job behind)

-- a job is accepted by the table exactly where it is at its place
pub accepted_at : (openings balances : List ℕ) (earlier : List JobView) (job : JobView) → balances ≡ balances_behind openings (map charged earlier)
    → is_accepted (slice_index balances) (claim_of job) ≡ accepted openings earlier job
accepted_at openings balances earlier job behind =
    sym (run_by_decision (slice_index balances) job)
    ∙ ap is_run (decided_at openings balances earlier job behind)
    ∙ run_by_decision (place_balance openings (map charged earlier)) job

-- the table behind a job more
pub settled_more : (openings balances : List ℕ) (earlier : List JobView) (job : JobView) → balances ≡ balances_behind openings (map charged earlier)
    → settled balances (charged job) ≡ balances_behind openings (map charged (earlier ++ job ∷ []))
settled_more openings balances earlier job behind =
    ap (λ (bs : List ℕ). settled bs (charged job)) behind
    ∙ sym (ap (balances_behind openings) (map-append charged earlier (job ∷ []))
    ∙ fold_push settled openings (map charged earlier) (charged job))

-- ---- what becomes of a job

became_same : (flaw : Option Flaw) (account : Option ℕ) (reserve : ℕ) (counts : Counts) (b c : ℕ → ℕ) → ((n : ℕ) → b n ≡ c n)
    → decision_by flaw (covers b account reserve) reserve (balance_on b account) counts ≡ decision_by flaw (covers c account reserve) reserve (balance_on c account) counts
became_same flaw None reserve counts b c h = refl
became_same flaw (Some account) reserve counts b c h = ap (λ (n : ℕ). decision_by flaw (nat_le reserve n) reserve n counts) (h account)

-- what becomes of it by the table is what becomes of it at its place
pub became_at : (openings balances : List ℕ) (earlier : List JobView) (job : JobView) → balances ≡ balances_behind openings (map charged earlier)
    → decision (slice_index balances) job ≡ decision_at openings earlier job
became_at openings balances earlier job behind =
    became_same job.flaw job.account (reserve job) (job_result job).counts (slice_index balances) (place_balance openings (map charged earlier))
    (λ n. ap (λ (bs : List ℕ). slice_index bs n) behind ∙ table_holds openings (map charged earlier) n)
