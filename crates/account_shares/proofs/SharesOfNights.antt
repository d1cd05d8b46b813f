-- Shares of later nights.
use Rattle.std.proofs.Common.{◌≡◌, ℕ, ◌+◌, Bool, cond, List, [], ◌∷◌, ◌++◌, Option, Some, map, slice_index, refl, sym, ap, ◌∙◌, append-nil, append_assoc}
use Rattle.deck_reader.specs.declared.batch.Account.{Account}
use Rattle.deck_reader.specs.JobView.{JobView}
use Rattle.account_book.specs.BookView.{openings_of}
use Rattle.account_book.specs.Places.{balances_behind, place_balance}
use Rattle.account_book.proofs.Tables.{table_holds}
use Rattle.algolw_meaning.specs.Charging.{charged}
use Rattle.batch_listing.specs.Texts.{closing, closing_line, heading, title}
use Rattle.account_shares.specs.Own.{section_as}
use Rattle.batch_listing.specs.Listing.{closed_accounts}
use Rattle.account_shares.specs.Shares.{closing_in, is_in, night_behind, sections_in}
use Rattle.account_shares.specs.ShareLaws.{ShareNightListing}
use Rattle.account_shares.proofs.Sameness.{same_body}
use Rattle.account_shares.proofs.Nights.{closed_openings, in_turn}
use Rattle.account_shares.proofs.Shares.{share_listing}

as_from : (number : ℕ) (openings openings' : List ℕ) (earlier jobs : List JobView) (job : JobView)
    → ((account : ℕ) → slice_index openings' account ≡ place_balance openings (map charged earlier) account)
    → section_as number openings' jobs job ≡ section_as number openings (earlier ++ jobs) job
as_from number openings openings' earlier jobs job left =
    ap (λ (text : List ℕ). title (record job { number = number }) ++ text)
    (same_body job (place_balance openings' (map charged jobs)) (place_balance openings (map charged (earlier ++ jobs))) (λ account. sym (in_turn openings openings' earlier jobs account (left account))))

-- the sections of a share behind jobs are those behind none, from what the jobs leave
in_from : (own : Option ℕ → Bool) (openings openings' : List ℕ) (earlier front jobs : List JobView) (number : ℕ)
    → ((account : ℕ) → slice_index openings' account ≡ place_balance openings (map charged earlier) account)
    → sections_in own number openings' front jobs ≡ sections_in own number openings (earlier ++ front) jobs
in_from own openings openings' earlier front [] number left = refl
in_from own openings openings' earlier front (job ∷ jobs) number left =
    let here = as_from number openings openings' earlier front job left in
    let rest : (n : ℕ) → sections_in own n openings' (front ++ job ∷ []) jobs ≡ sections_in own n openings ((earlier ++ front) ++ job ∷ []) jobs =
    λ n. in_from own openings openings' earlier (front ++ job ∷ []) jobs n left ∙ ap (λ (xs : List JobView). sections_in own n openings xs jobs) (sym (append_assoc earlier front (job ∷ []))) in
    λ i. cond (is_in own job) (here i ++ rest (number + 1) i) (rest number i)

closing_from : (own : Option ℕ → Bool) (openings openings' : List ℕ) (earlier jobs : List JobView) (accounts : List Account) (n : ℕ)
    → ((account : ℕ) → slice_index openings' account ≡ place_balance openings (map charged earlier) account)
    → closing_in own n openings' jobs accounts ≡ closing_in own n openings (earlier ++ jobs) accounts
closing_from own openings openings' earlier jobs [] n left = refl
closing_from own openings openings' earlier jobs (a ∷ accounts) n left =
    let here = sym (in_turn openings openings' earlier jobs n (left n)) in
    let rest = closing_from own openings openings' earlier jobs accounts (n + 1) left in
    λ i. cond (own (Some n)) (closing_line a (here i) ++ rest i) (rest i)

pub share_night_listing : ShareNightListing
share_night_listing own accounts earlier jobs =
    let openings = openings_of accounts in
    let reopened = closed_accounts openings earlier accounts in
    let table = balances_behind openings (map charged earlier) in
    let left = table_holds openings (map charged earlier) in
    share_listing own (night_behind accounts earlier jobs)
    ∙ ap (λ (xs : List ℕ). heading ++ sections_in own 1 xs [] jobs ++ closing (closing_in own 0 xs jobs reopened) 0) (closed_openings accounts earlier)
    ∙ ap (λ (text : List ℕ). heading ++ text ++ closing (closing_in own 0 table jobs reopened) 0)
    (in_from own openings table earlier [] jobs 1 left ∙ ap (λ (xs : List JobView). sections_in own 1 openings xs jobs) (append-nil earlier))
    ∙ ap (λ (lines : List ℕ). heading ++ sections_in own 1 openings earlier jobs ++ closing lines 0) (closing_from own openings table earlier jobs reopened 0 left)
