-- Nights one after the other.
use Rattle.std.proofs.Common.{◌≡◌, ℕ, suc, ◌+◌, ◌-◌, Bool, true, false, cond, Option, Some, None, List, [], ◌∷◌, ◌++◌, length, get_or, map, fold, flat_map, slice_index, refl, sym, ap, ◌∙◌, arith, append-nil, append_assoc}
use Rattle.std.specs.List.{enumerate_from}
use Rattle.std.proofs.lemmas.List.{map-append, length-map, length-set}
use Rattle.std.proofs.lemmas.List.Sums.{fold-append}
use Rattle.deck_reader.specs.declared.batch.Account.{Account}
use Rattle.deck_reader.specs.JobView.{JobView}
use Rattle.account_book.specs.BookView.{openings_of}
use Rattle.account_book.specs.Places.{Claim, after, balances_behind, is_accepted, lowered, place_balance, settled}
use Rattle.account_book.proofs.Tables.{table_holds}
use Rattle.algolw_meaning.specs.Charging.{charged}
use Rattle.batch_listing.specs.Listing.{closing_lines, section, sections}
use Rattle.batch_listing.specs.Texts.{closing, closing_line, heading, title}
use Rattle.batch_listing.proofs.Sections.{sections_behind, sections_in_order}
use Rattle.batch_listing.specs.Listing.{closed_account, closed_accounts}
use Rattle.account_shares.specs.Shares.{sections_after}
use Rattle.account_shares.specs.ShareLaws.{BalancesInTurn, NightListing, SectionInTurn, SectionsInTurn, SectionsFromClosings, SectionsPart}
use Rattle.account_shares.proofs.Sameness.{same_body}

-- a balance depends on what it starts from
pub in_turn : (openings openings' : List ℕ) (earlier jobs : List JobView) (account : ℕ) → slice_index openings' account ≡ place_balance openings (map charged earlier) account
    → place_balance openings (map charged (earlier ++ jobs)) account ≡ place_balance openings' (map charged jobs) account
in_turn openings openings' earlier jobs account left =
    ap (λ (claims : List (Claim × ℕ)). fold (after account) (slice_index openings account) claims) (map-append charged earlier jobs)
    ∙ fold-append (after account) (slice_index openings account) (map charged earlier) (map charged jobs)
    ∙ ap (λ (balance : ℕ). fold (after account) balance (map charged jobs)) (sym left)

pub balances_in_turn : BalancesInTurn
balances_in_turn openings earlier jobs account = in_turn openings (balances_behind openings (map charged earlier)) earlier jobs account (table_holds openings (map charged earlier) account)

section_from : (openings openings' : List ℕ) (earlier jobs : List JobView) (job : JobView)
    → ((account : ℕ) → slice_index openings' account ≡ place_balance openings (map charged earlier) account)
    → section openings (earlier ++ jobs) job ≡ section openings' jobs job
section_from openings openings' earlier jobs job left =
    ap (λ (text : List ℕ). title job ++ text)
    (same_body job (place_balance openings (map charged (earlier ++ jobs))) (place_balance openings' (map charged jobs)) (λ account. in_turn openings openings' earlier jobs account (left account)))

pub section_in_turn : SectionInTurn
section_in_turn openings earlier jobs job = section_from openings (balances_behind openings (map charged earlier)) earlier jobs job (table_holds openings (map charged earlier))

-- the two words for sections behind others say the same
behind_is : (openings : List ℕ) (earlier jobs : List JobView) → sections_behind openings earlier jobs ≡ sections_after openings earlier jobs
behind_is openings earlier [] = refl
behind_is openings earlier (job ∷ jobs) = ap (λ (text : List ℕ). section openings earlier job ++ text) (behind_is openings (earlier ++ job ∷ []) jobs)

part_at : (openings : List ℕ) (front earlier jobs : List JobView)
    → sections_after openings front (earlier ++ jobs) ≡ sections_after openings front earlier ++ sections_after openings (front ++ earlier) jobs
part_at openings front [] jobs = ap (λ (xs : List JobView). sections_after openings xs jobs) (sym (append-nil front))
part_at openings front (job ∷ earlier) jobs =
    ap (λ (text : List ℕ). section openings front job ++ text)
    (part_at openings (front ++ job ∷ []) earlier jobs
    ∙ ap (λ (xs : List JobView). sections_after openings (front ++ job ∷ []) earlier ++ sections_after openings xs jobs) (append_assoc front (job ∷ []) earlier))
    ∙ sym (append_assoc (section openings front job) (sections_after openings (front ++ job ∷ []) earlier) (sections_after openings (front ++ job ∷ earlier) jobs))

in_order : (openings : List ℕ) (jobs : List JobView) → sections openings jobs ≡ sections_after openings [] jobs
in_order openings jobs = sym (sections_in_order openings jobs) ∙ behind_is openings [] jobs

pub sections_part : SectionsPart
sections_part openings earlier jobs =
    in_order openings (earlier ++ jobs)
    ∙ part_at openings [] earlier jobs
    ∙ ap (λ (text : List ℕ). text ++ sections_after openings earlier jobs) (sym (in_order openings earlier))

-- sections behind jobs are those behind none, from what the jobs leave
after_from : (openings openings' : List ℕ) (earlier front jobs : List JobView)
    → ((account : ℕ) → slice_index openings' account ≡ place_balance openings (map charged earlier) account)
    → sections_after openings (earlier ++ front) jobs ≡ sections_after openings' front jobs
after_from openings openings' earlier front [] left = refl
after_from openings openings' earlier front (job ∷ jobs) left =
    ap (λ (text : List ℕ). text ++ sections_after openings ((earlier ++ front) ++ job ∷ []) jobs) (section_from openings openings' earlier front job left)
    ∙ ap (λ (xs : List JobView). section openings' front job ++ sections_after openings xs jobs) (append_assoc earlier front (job ∷ []))
    ∙ ap (λ (text : List ℕ). section openings' front job ++ text) (after_from openings openings' earlier (front ++ job ∷ []) jobs left)

pub after_alone : (openings openings' : List ℕ) (earlier jobs : List JobView)
    → ((account : ℕ) → slice_index openings' account ≡ place_balance openings (map charged earlier) account)
    → sections_after openings earlier jobs ≡ sections openings' jobs
after_alone openings openings' earlier jobs left =
    ap (λ (xs : List JobView). sections_after openings xs jobs) (sym (append-nil earlier))
    ∙ after_from openings openings' earlier [] jobs left
    ∙ sym (in_order openings' jobs)

pub sections_from_closings : SectionsFromClosings
sections_from_closings openings openings' earlier jobs left =
    sections_part openings earlier jobs
    ∙ ap (λ (text : List ℕ). sections openings earlier ++ text) (after_alone openings openings' earlier jobs left)

pub sections_in_turn : SectionsInTurn
sections_in_turn openings earlier jobs =
    sections_from_closings openings (balances_behind openings (map charged earlier)) earlier jobs (table_holds openings (map charged earlier))

-- ---- the listing of a later night

same_by : (b : Bool) (balances : List ℕ) (payer : Option ℕ) (charge : ℕ) → length (cond b (lowered balances payer charge) balances) ≡ length balances
same_by false balances payer charge = refl
same_by true balances None charge = refl
same_by true balances (Some p) charge = length-set balances p (slice_index balances p - charge)

same_length : (balances : List ℕ) (claim : Claim × ℕ) → length (settled balances claim) ≡ length balances
same_length balances (claim, charge) = same_by (is_accepted (slice_index balances) claim) balances claim.account charge

all_length : (balances : List ℕ) (claims : List (Claim × ℕ)) → length (balances_behind balances claims) ≡ length balances
all_length balances [] = refl
all_length balances (claim ∷ claims) = all_length (settled balances claim) claims ∙ same_length balances claim

-- the openings of closed accounts are a table, where its places hold the balances
openings_at : (openings : List ℕ) (jobs : List JobView) (accounts : List Account) (table : List ℕ) (n : ℕ) → length table ≡ length accounts
    → ((i : ℕ) → place_balance openings (map charged jobs) (i + n) ≡ get_or table i 0)
    → openings_of (map (λ p. closed_account openings jobs p.0 p.1) (enumerate_from n accounts)) ≡ table
openings_at openings jobs [] [] n same at = refl
openings_at openings jobs [] (x ∷ table) n same at = absurd (omega (arith, same))
openings_at openings jobs (a ∷ accounts) [] n same at = absurd (omega (arith, same))
openings_at openings jobs (a ∷ accounts) (x ∷ table) n same at =
    let e : n ≡ 0 + n = omega arith in
    let first : place_balance openings (map charged jobs) n ≡ x = ap (place_balance openings (map charged jobs)) e ∙ at 0 in
    let rest = openings_at openings jobs accounts table (n + 1) (omega (arith, same)) (λ i. let e : i + (n + 1) ≡ suc i + n = omega arith in ap (place_balance openings (map charged jobs)) e ∙ at (suc i)) in
    λ i. first i ∷ rest i

pub closed_openings : (accounts : List Account) (jobs : List JobView) → openings_of (closed_accounts (openings_of accounts) jobs accounts) ≡ balances_behind (openings_of accounts) (map charged jobs)
closed_openings accounts jobs =
    let openings = openings_of accounts in
    openings_at openings jobs accounts (balances_behind openings (map charged jobs)) 0 (all_length openings (map charged jobs) ∙ length-map accounts (λ (a : Account). a.opening))
    (λ i. let e : i + 0 ≡ i = omega arith in ap (place_balance openings (map charged jobs)) e ∙ sym (table_holds openings (map charged jobs) i))

lines_alike : (balance balance' : ℕ → ℕ) (accounts : List Account) (n : ℕ) → ((account : ℕ) → balance account ≡ balance' account)
    → flat_map (λ p. closing_line p.1 (balance p.0)) (enumerate_from n accounts) ≡ flat_map (λ p. closing_line p.1 (balance' p.0)) (enumerate_from n accounts)
lines_alike balance balance' [] n same = refl
lines_alike balance balance' (a ∷ accounts) n same =
    ap (λ (left : ℕ). closing_line a left ++ flat_map (λ p. closing_line p.1 (balance p.0)) (enumerate_from (n + 1) accounts)) (same n)
    ∙ ap (λ (text : List ℕ). closing_line a (balance' n) ++ text) (lines_alike balance balance' accounts (n + 1) same)

pub night_listing : NightListing
night_listing accounts earlier jobs =
    let openings = openings_of accounts in
    let left = balances_behind openings (map charged earlier) in
    let reopened = closed_accounts openings earlier accounts in
    ap (λ (xs : List ℕ). heading ++ sections xs jobs ++ closing (closing_lines xs jobs reopened) 0) (closed_openings accounts earlier)
    ∙ ap (λ (text : List ℕ). heading ++ text ++ closing (closing_lines left jobs reopened) 0) (sym (after_alone openings left earlier jobs (table_holds openings (map charged earlier))))
    ∙ ap (λ (lines : List ℕ). heading ++ sections_after openings earlier jobs ++ closing lines 0)
    (lines_alike (place_balance left (map charged jobs)) (place_balance openings (map charged (earlier ++ jobs))) reopened 0 (λ account. sym (balances_in_turn openings earlier jobs account)))
